-- The way down through the larger parts of a piece, and one step back up.
-- Rests on Storing.antt and Joining.antt.
use mathlib.Core.Path.{◌≡◌, refl, sym, ◌∙◌, ap}
use mathlib.Core.List.{List}
use Prim.Native.Nat.{ℕ, suc, ◌-◌, ◌<◌, ◌≤◌}
use native.Mathlib.Omega.{arith}
use lib.ListN.{length, get_or}
use Rattle.polygon.specs.Tree.{Tree, node}
use Rattle.tree.specs.Table.{right_edge, TreeAt, triangle}
use Rattle.levels.specs.Kept.{six, with_six, Deep, PartsHeld, Grows, Passed, begun, left, right, Rising}
use Rattle.levels.proofs.Storing.{deep_grows}
use Rattle.levels.proofs.Joining.{stored_grows, stored_deep}

shows_left : {tr : List ℕ} {e u v : ℕ} {l r : Tree} → TreeAt tr e u v (node l r) → (w : ℕ) × TreeAt tr (e - 1) u w l
shows_left (triangle i h k q x y) = (_, x)

shows_right : {tr : List ℕ} {e u v : ℕ} {l r : Tree} → TreeAt tr e u v (node l r) → (w : ℕ) × TreeAt tr (right_edge tr e) w v r
shows_right (triangle i h k q x y) = (_, y)

-- the piece whose edge stands at j of the path, and its two parts
pub record Turn (tr ds path : List ℕ) (from e₀ : ℕ) (t₀ : Tree) (j : ℕ) : Type 0 where
  pub e : ℕ
  pub l : Tree
  pub r : Tree
  pub at : get_or path j 0 ≡ e
  pub held : PartsHeld tr ds e l r
  pub passed : Passed tr ds path from e₀ t₀ j e (node l r)

module _ {tr ds path : List ℕ} {from e₀ : ℕ} {t₀ : Tree} where
  -- where the values of more pieces are right, and the path is written further on
  pub passed_grows : {ds' path' : List ℕ} {k e : ℕ} {t : Tree} → Grows tr ds ds' → ((j : ℕ) → j < k → get_or path' j 0 ≡ get_or path j 0) → Passed tr ds path from e₀ t₀ k e t → Passed tr ds' path' from e₀ t₀ k e t
  passed_grows g f (begun p q z) = begun p q z
  passed_grows g f (left {j} p s x y d) = left p (passed_grows g (λ i h. f i (omega arith)) s) x (f j (omega arith) ∙ y) (deep_grows g (shows_right x).1 d)
  passed_grows g f (right {j} p s x y d) = right p (passed_grows g (λ i h. f i (omega arith)) s) x (f j (omega arith) ∙ y) (deep_grows g (shows_left x).1 d)

  pub turn : (j k : ℕ) → k ≡ suc j → from ≤ j → Rising tr ds path from e₀ t₀ k → Turn tr ds path from e₀ t₀ j
  turn j k h f R = go R.passed R.deep
    where
      go : {e : ℕ} {t : Tree} → Passed tr ds path from e₀ t₀ k e t → Deep tr ds e t → Turn tr ds path from e₀ t₀ j
      go (begun p q z) d = absurd (omega arith)
      go (left {j = i} {e} {u} {v} {l} {r} p s x y a) d =
          let q : i ≡ j = omega arith in
          record { e = e; l = l; r = r; at = ap (λ (n : ℕ). get_or path n 0) (sym q) ∙ y; held = record { u = u; v = v; shows = x; deep_l = d; deep_r = a }; passed = rw q at s }
      go (right {j = i} {e} {u} {v} {l} {r} p s x y a) d =
          let q : i ≡ j = omega arith in
          record { e = e; l = l; r = r; at = ap (λ (n : ℕ). get_or path n 0) (sym q) ∙ y; held = record { u = u; v = v; shows = x; deep_l = a; deep_r = d }; passed = rw q at s }

  -- its values are stored
  module _ {j : ℕ} (T : Turn tr ds path from e₀ t₀ j) (room : length ds ≡ 12270) (ds' : List ℕ) (is : ds' ≡ with_six ds T.e (six (node T.l T.r))) where
    pub turn_grows : Grows tr ds ds'
    turn_grows = stored_grows T.held room ds' is

    pub turn_rises : Rising tr ds' path from e₀ t₀ j
    turn_rises = record { e = T.e; t = node T.l T.r; passed = passed_grows turn_grows (λ i h. refl) T.passed; deep = stored_deep T.held room ds' is }

  -- the way up begins no lower than the path does
  passed_from : {k e : ℕ} {t : Tree} → Passed tr ds path from e₀ t₀ k e t → from ≤ k
  passed_from (begun p q z) = omega arith
  passed_from (left p s x y d) = omega (arith, passed_from s)
  passed_from (right p s x y d) = omega (arith, passed_from s)

  pub rising_from : {k : ℕ} → Rising tr ds path from e₀ t₀ k → from ≤ k
  rising_from R = passed_from R.passed

  -- at the place where the path begins the way is back
  pub back_at_start : (k : ℕ) → k ≤ from → Rising tr ds path from e₀ t₀ k → Deep tr ds e₀ t₀
  back_at_start k h R = go R.passed R.deep
    where
      go : {e : ℕ} {t : Tree} → Passed tr ds path from e₀ t₀ k e t → Deep tr ds e t → Deep tr ds e₀ t₀
      go (begun p q z) d = rw (q, z) at d
      go (left p s x y a) d = absurd (omega (arith, passed_from s))
      go (right p s x y a) d = absurd (omega (arith, passed_from s))

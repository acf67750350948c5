-- The values of an edge stored in the table, and that values which are right stay right.
-- Rests on Pieces.antt of the crate tree.
use mathlib.Core.Path.{◌≡◌, ◌∙◌, ap}
use mathlib.Core.List.{List}
use Prim.Native.Nat.{ℕ, ◌+◌, ◌*◌, ◌<◌, ◌≤◌}
use native.Mathlib.Decide.{ℕ_discrete}
use native.Mathlib.Omega.{arith}
use lib.ListN.{length, get_or, set, length-set}
use lib.Seq.{get_or-set_same, get_or-set_other}
use Rattle.polygon.specs.Tree.{Tree, leaf, node}
use Rattle.umbrella.specs.Values.{ud}
use Rattle.tree.specs.Table.{TreeAt, side, triangle}
use Rattle.tree.proofs.Pieces.{one_piece, inside}
use Rattle.levels.specs.declared.Six.{Six}
use Rattle.levels.specs.Kept.{six, six_at, with_six, Deep, flat, deep, Grows, Leaves}

module _ (ds : List ℕ) (e : ℕ) (s : Six) where
  pub with_length : length (with_six ds e s) ≡ length ds
  with_length = simp length-set

  -- the table as the values are stored, one after the other
  abbrev d₁ : List ℕ
  d₁ = set ds (6 * e) s.handle

  abbrev d₂ : List ℕ
  d₂ = set d₁ (6 * e + 1) s.fan_a

  abbrev d₃ : List ℕ
  d₃ = set d₂ (6 * e + 2) s.fan_b

  abbrev d₄ : List ℕ
  d₄ = set d₃ (6 * e + 3) s.partial_a

  abbrev d₅ : List ℕ
  d₅ = set d₄ (6 * e + 4) s.partial_b

  -- places that nothing is stored at from the sixth value on, from the fifth on, .., from the first on
  from_sixth : (i : ℕ) → ¬ ((6 * e + 5 ≤ i) × (i < 6 * e + 6)) → get_or (with_six ds e s) i 0 ≡ get_or d₅ i 0
  from_sixth i o = get_or-set_other d₅ (6 * e + 5) i _ 0 (λ q. o (omega arith))

  from_fifth : (i : ℕ) → ¬ ((6 * e + 4 ≤ i) × (i < 6 * e + 6)) → get_or (with_six ds e s) i 0 ≡ get_or d₄ i 0
  from_fifth i o = from_sixth i (λ h. o (omega arith)) ∙ get_or-set_other d₄ (6 * e + 4) i _ 0 (λ q. o (omega arith))

  from_fourth : (i : ℕ) → ¬ ((6 * e + 3 ≤ i) × (i < 6 * e + 6)) → get_or (with_six ds e s) i 0 ≡ get_or d₃ i 0
  from_fourth i o = from_fifth i (λ h. o (omega arith)) ∙ get_or-set_other d₃ (6 * e + 3) i _ 0 (λ q. o (omega arith))

  from_third : (i : ℕ) → ¬ ((6 * e + 2 ≤ i) × (i < 6 * e + 6)) → get_or (with_six ds e s) i 0 ≡ get_or d₂ i 0
  from_third i o = from_fourth i (λ h. o (omega arith)) ∙ get_or-set_other d₂ (6 * e + 2) i _ 0 (λ q. o (omega arith))

  from_second : (i : ℕ) → ¬ ((6 * e + 1 ≤ i) × (i < 6 * e + 6)) → get_or (with_six ds e s) i 0 ≡ get_or d₁ i 0
  from_second i o = from_third i (λ h. o (omega arith)) ∙ get_or-set_other d₁ (6 * e + 1) i _ 0 (λ q. o (omega arith))

  other_place : (i : ℕ) → ¬ ((6 * e ≤ i) × (i < 6 * e + 6)) → get_or (with_six ds e s) i 0 ≡ get_or ds i 0
  other_place i o = from_second i (λ h. o (omega arith)) ∙ get_or-set_other ds (6 * e) i _ 0 (λ q. o (omega arith))

  pub six_other : (f : ℕ) → ¬ (f ≡ e) → six_at (with_six ds e s) f ≡ six_at ds f
  six_other f o = λ i. record {
    handle = other_place (6 * f) (λ h. o (omega arith)) i;
    fan_a = other_place (6 * f + 1) (λ h. o (omega arith)) i;
    fan_b = other_place (6 * f + 2) (λ h. o (omega arith)) i;
    partial_a = other_place (6 * f + 3) (λ h. o (omega arith)) i;
    partial_b = other_place (6 * f + 4) (λ h. o (omega arith)) i;
    ud = other_place (6 * f + 5) (λ h. o (omega arith)) i;
  }

  -- its own places: a value is not overwritten by those stored after it
  pub six_same : 6 * e + 6 ≤ length ds → six_at (with_six ds e s) e ≡ s
  six_same room = λ i. record {
    handle = (from_second (6 * e) (λ h. omega arith) ∙ get_or-set_same ds (6 * e) _ 0 (omega arith)) i;
    fan_a = (from_third (6 * e + 1) (λ h. omega arith) ∙ get_or-set_same d₁ (6 * e + 1) _ 0 (simp length-set (omega arith))) i;
    fan_b = (from_fourth (6 * e + 2) (λ h. omega arith) ∙ get_or-set_same d₂ (6 * e + 2) _ 0 (simp length-set (omega arith))) i;
    partial_a = (from_fifth (6 * e + 3) (λ h. omega arith) ∙ get_or-set_same d₃ (6 * e + 3) _ 0 (simp length-set (omega arith))) i;
    partial_b = (from_sixth (6 * e + 4) (λ h. omega arith) ∙ get_or-set_same d₄ (6 * e + 4) _ 0 (simp length-set (omega arith))) i;
    ud = get_or-set_same d₅ (6 * e + 5) s.ud 0 (simp length-set (omega arith)) i;
  }

module _ {tr ds : List ℕ} where
  -- what the root of a piece has
  pub deep_root : {e : ℕ} {t : Tree} → Deep tr ds e t → six_at ds e ≡ six t
  deep_root (flat h) = h
  deep_root (deep h x y) = h

  pub deep_grows : {ds' : List ℕ} {e u v : ℕ} {t : Tree} → Grows tr ds ds' → TreeAt tr e u v t → Deep tr ds e t → Deep tr ds' e t
  deep_grows g (side {e} {u} {v} h k p q) (flat d) = flat (g.right e u v leaf (side h k p q) d)
  deep_grows g (triangle {e} {u} {v} {l} {r} i h k q x y) (deep d a b) = deep (g.right e u v (node l r) (triangle {l = l} {r = r} i h k q x y) d) (deep_grows g x a) (deep_grows g y b)

  pub grows_on : {ds₁ ds₂ : List ℕ} → Grows tr ds ds₁ → Grows tr ds₁ ds₂ → Grows tr ds ds₂
  grows_on g h = record { right = λ e u v t s p. h.right e u v t s (g.right e u v t s p) }

  pub leaves_grow : {ds' : List ℕ} → Grows tr ds ds' → Leaves tr ds → Leaves tr ds'
  leaves_grow g h = record { sides = λ e u v s. g.right e u v leaf s (h.sides e u v s) }

  pub grows_self : Grows tr ds ds
  grows_self = record { right = λ e u v t s h. h }

-- a place shows one piece only, so storing its values harms none that are right
pub store_grows : {tr : List ℕ} {e u v : ℕ} {t : Tree} (ds : List ℕ) → length ds ≡ 12270 → TreeAt tr e u v t → Grows tr ds (with_six ds e (six t))
store_grows {tr} {e} {t = t} ds room s = record { right = λ f u' v' t' s' h. go f u' v' t' s' h (ℕ_discrete f e) }
  where
    go : (f u' v' : ℕ) (t' : Tree) → TreeAt tr f u' v' t' → six_at ds f ≡ six t' → Dec (f ≡ e) → six_at (with_six ds e (six t)) f ≡ six t'
    go f u' v' t' s' h (yes q) = ap (six_at (with_six ds e (six t))) q ∙ (six_same ds e (six t) (omega (arith, inside s)) ∙ ap six (one_piece s (rw q at s')))
    go f u' v' t' s' h (no q) = six_other ds e (six t) f q ∙ h

-- a table of zeros has the values of the sides
pub fresh_leaves : {tr : List ℕ} (ds : List ℕ) → ((i : ℕ) → get_or ds i 0 ≡ 0) → Leaves tr ds
unfolding ud
fresh_leaves ds z = record { sides = λ e u v s i. record { handle = z (6 * e) i; fan_a = z (6 * e + 1) i; fan_b = z (6 * e + 2) i; partial_a = z (6 * e + 3) i; partial_b = z (6 * e + 4) i; ud = z (6 * e + 5) i } }

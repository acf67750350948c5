-- The values of an edge that is no side, from those of the edges of its two parts.
-- Rests on Storing.antt, and on the bounds of the values (crate umbrella).
use mathlib.Core.Path.{◌≡◌, refl, sym, ◌∙◌, ap}
use mathlib.Core.List.{List}
use Prim.Native.Nat.{ℕ, ◌+◌, ◌-◌, ◌<◌, ◌≤◌}
use native.Mathlib.Numerals.{add-one}
use native.Mathlib.Omega.{arith}
use Rattle.polygon.specs.Tree.{Tree, leaf, node, span}
use Rattle.polygon.proofs.Chords.{span_pos}
use Rattle.umbrella.specs.Values.{ud}
use Rattle.umbrella.proofs.Inequalities.{inequalities}
use Rattle.umbrella.proofs.Wide.{nine}
use lib.ListN.{length}
use Rattle.tree.specs.Table.{right_edge, TreeAt, side, triangle}
use Rattle.tree.proofs.Pieces.{ends, inside, closed}
use Rattle.levels.specs.declared.Six.{Six}
use Rattle.levels.specs.Kept.{six, join, SideZero, six_at, with_six, Small, Deep, flat, deep, PartsHeld, Grows, Leaves}
use Rattle.levels.proofs.Storing.{six_same, deep_root, deep_grows, store_grows}

-- the pieces on (d,c) and (c,e), beyond a piece on (a,c) and one on (c,b); a side has a side beyond it
abbrev right_of : Tree → Tree
right_of leaf = leaf
right_of (node ad dc) = dc

abbrev left_of : Tree → Tree
left_of leaf = leaf
left_of (node ce eb) = ce

pub six_node : (l r : Tree) → six (node l r) ≡ join (six l) (six r) (six (right_of l)) (six (left_of r))
unfolding ud
six_node leaf leaf = refl
six_node leaf (node ce eb) = simp add-one
six_node (node ad dc) leaf = simp add-one
six_node (node ad dc) (node ce eb) = simp add-one

-- the values of a piece within 1,024 corners
pub small : (l r : Tree) → span (node l r) ≤ 1023 → Small (six (node l r))
unfolding span
small l r h =
    let a = nine l (omega arith) in
    let b = nine r (omega arith) in
    let i = inequalities l r in
    let j = inequalities r l in
    record {
      handle_small = omega (arith, (inequalities (node l r) leaf).handle_ud, nine (node l r) h);
      fan_a_small = omega (arith, a, i.fan_a_ud);
      fan_b_small = omega (arith, b, j.fan_b_ud);
      partial_a_small = omega (arith, a, i.partial_a_fan_a, i.fan_a_ud);
      partial_b_small = omega (arith, b, j.partial_b_fan_b, j.fan_b_ud);
      ud_small = nine (node l r) h;
    }

-- the values that the code joins
pub record Joined (l r : Tree) (ac cb dc ce : Six) : Type 0 where
  pub left : ac ≡ six l
  pub right : cb ≡ six r
  pub beyond_left : dc ≡ six (right_of l)
  pub beyond_right : ce ≡ six (left_of r)

-- a side has zeros, and zeros beyond it
side_zero : {own beyond : Six} (t : Tree) (f : Tree → Tree) → f leaf ≡ leaf → own ≡ six t → beyond ≡ six (f t) → SideZero own beyond
unfolding ud
side_zero leaf f e p q h = (p, q ∙ ap six e)
side_zero (node l r) f e p q h = absurd (omega (arith, ap (λ (z : Six). z.ud) p))

module _ {l r : Tree} {ac cb dc ce : Six} (J : Joined l r ac cb dc ce) where
  pub joined : join ac cb dc ce ≡ six (node l r)
  joined = (λ i. join (J.left i) (J.right i) (J.beyond_left i) (J.beyond_right i)) ∙ sym (six_node l r)

  pub left_zero : SideZero ac dc
  left_zero = side_zero l right_of refl J.left J.beyond_left

  pub right_zero : SideZero cb ce
  right_zero = side_zero r left_of refl J.right J.beyond_right

  pub join_fits : span (node l r) ≤ 1023 → (join ac cb dc ce).ud ≤ 9
  join_fits h = rw (ap (λ (z : Six). z.ud) (sym joined)) at (small l r h).ud_small

module _ {tr ds : List ℕ} where
  -- an edge with levels is no side
  open_places : {e u v : ℕ} {t : Tree} → TreeAt tr e u v t → Deep tr ds e t → 0 < (six_at ds e).ud → (1 ≤ e) × (e < 2045) × (right_edge tr e < 2045)
  unfolding ud
  open_places (side a b p q) (flat z) h = absurd (omega (arith, ap (λ (z : Six). z.ud) z))
  open_places (triangle a b c q x y) z h = (a, b, inside y)

  -- the values beyond it, or those of a side
  module _ {e : ℕ} {x : Six} (f : (six_at ds e).ud ≡ 0 → x ≡ six leaf) where
    beyond_right_edge : {t : Tree} → (0 < (six_at ds e).ud → x ≡ six_at ds (right_edge tr e)) → Deep tr ds e t → x ≡ six (right_of t)
    unfolding ud
    beyond_right_edge g (flat z) = f (ap (λ (z : Six). z.ud) z)
    beyond_right_edge g (deep {l = l} {r = r} z a b) = g (omega (arith, ap (λ (z : Six). z.ud) z)) ∙ deep_root b

    beyond_left_edge : {t : Tree} → (0 < (six_at ds e).ud → x ≡ six_at ds (e - 1)) → Deep tr ds e t → x ≡ six (left_of t)
    unfolding ud
    beyond_left_edge g (flat z) = f (ap (λ (z : Six). z.ud) z)
    beyond_left_edge g (deep {l = l} {r = r} z a b) = g (omega (arith, ap (λ (z : Six). z.ud) z)) ∙ deep_root a

-- of the two parts of a piece
module _ {tr ds : List ℕ} {e : ℕ} {l r : Tree} (H : PartsHeld tr ds e l r) where
  pub held_places : (1 ≤ e) × (e < 2045) × (right_edge tr e < 2045)
  held_places = go H.shows
    where
      go : {u v : ℕ} → TreeAt tr e u v (node l r) → (1 ≤ e) × (e < 2045) × (right_edge tr e < 2045)
      go (triangle a b c q x y) = (a, b, inside y)

  pub held_span : span (node l r) ≤ 1023
  unfolding span
  held_span = go H.shows
    where
      go : {u v : ℕ} → TreeAt tr e u v (node l r) → span l + span r ≤ 1023
      go (triangle a b c q x y) = omega (arith, ends x, ends y)

  -- the edges beyond, where there are any; and the values read there
  pub left_places : 0 < (six_at ds (e - 1)).ud → (1 ≤ e - 1) × (e - 1 < 2045) × (right_edge tr (e - 1) < 2045)
  left_places h = go H.shows
    where
      go : {u v : ℕ} → TreeAt tr e u v (node l r) → (1 ≤ e - 1) × (e - 1 < 2045) × (right_edge tr (e - 1) < 2045)
      go (triangle a b c q x y) = open_places x H.deep_l h

  pub right_places : 0 < (six_at ds (right_edge tr e)).ud → (1 ≤ right_edge tr e) × (right_edge tr e < 2045)
  right_places h = go H.shows
    where
      go : {u v : ℕ} → TreeAt tr e u v (node l r) → (1 ≤ right_edge tr e) × (right_edge tr e < 2045)
      go (triangle a b c q x y) = let p = open_places y H.deep_r h in (p.0, p.1)

  pub values_read : {i j : ℕ} {ac cb dc ce : Six} → i ≡ e - 1 → j ≡ right_edge tr e → ac ≡ six_at ds i → cb ≡ six_at ds j
      → (ac.ud ≡ 0 → dc ≡ six leaf) × (0 < ac.ud → dc ≡ six_at ds (right_edge tr i)) → (cb.ud ≡ 0 → ce ≡ six leaf) × (0 < cb.ud → ce ≡ six_at ds (j - 1)) → Joined l r ac cb dc ce
  values_read {i} {j} {ac} {cb} {dc} {ce} x y p q f g = record {
    left = p' ∙ deep_root H.deep_l;
    right = q' ∙ deep_root H.deep_r;
    beyond_left = let h = rw (p', x) at f in beyond_right_edge h.0 h.1 H.deep_l;
    beyond_right = let h = rw (q', y) at g in beyond_left_edge h.0 h.1 H.deep_r;
  }
    where
      p' : ac ≡ six_at ds (e - 1)
      p' = p ∙ ap (six_at ds) x

      q' : cb ≡ six_at ds (right_edge tr e)
      q' = q ∙ ap (six_at ds) y

  -- stored, they are right, and none that are right are harmed
  module _ (room : length ds ≡ 12270) (ds' : List ℕ) (is : ds' ≡ with_six ds e (six (node l r))) where
    pub stored_grows : Grows tr ds ds'
    stored_grows = rw is (store_grows ds room H.shows)

    pub stored_deep : Deep tr ds' e (node l r)
    stored_deep = go H.shows
      where
        go : {u v : ℕ} → TreeAt tr e u v (node l r) → Deep tr ds' e (node l r)
        go (triangle i h k q x y) = deep (ap (λ (x : List ℕ). six_at x e) is ∙ six_same ds e _ (omega arith)) (deep_grows stored_grows x H.deep_l) (deep_grows stored_grows y H.deep_r)

-- a side has its values; so have the two parts of a piece of one triangle
pub side_deep : {tr ds : List ℕ} {e u v : ℕ} {s : Tree} → TreeAt tr e u v s → v ≤ u + 1 → Leaves tr ds → Deep tr ds e s
side_deep {e = e} {u} {v} x o l = let q = closed x o in rw q (flat (l.sides e u v (rw q at x)))

pub ear_held : {tr ds : List ℕ} {e u v : ℕ} {l r : Tree} → TreeAt tr e u v (node l r) → v ≤ u + 2 → Leaves tr ds → PartsHeld tr ds e l r
ear_held {u = u} {v} (triangle {l = l} {r = r} i h k q x y) o z = record {
  u = u;
  v = v;
  shows = triangle {l = l} {r = r} i h k q x y;
  deep_l = side_deep x (omega (arith, ends x, ends y, span_pos r)) z;
  deep_r = side_deep y (omega (arith, ends x, ends y, span_pos l)) z;
}

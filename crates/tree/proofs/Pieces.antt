-- What is known of a piece that the table shows: its span, and whether it is empty or has two parts; and that a place shows one piece only.
-- Rests on the definition alone.
use mathlib.Core.Path.{◌≡◌, refl, sym, ◌∙◌, ap₂}
use mathlib.Core.List.{List}
use Prim.Native.Nat.{ℕ, ◌+◌, ◌-◌, ◌<◌, ◌≤◌}
use native.Mathlib.Omega.{arith}
use Rattle.polygon.specs.Polygon.{◌—◌}
use Rattle.polygon.specs.Tree.{Tree, leaf, node, span}
use Rattle.polygon.proofs.Order.{low_of, high_of}
use Rattle.polygon.proofs.Chords.{span_pos}
use Rattle.tree.specs.Table.{edge_at, apex_at, right_edge, TreeAt, side, triangle}

-- the piece t at e is not empty: its parts l and r, and how the table shows them
pub record Parts (tr : List ℕ) (e u v : ℕ) (t : Tree) : Type 0 where
  pub l : Tree
  pub r : Tree
  pub is : t ≡ node l r
  pub shows_l : TreeAt tr (e - 1) u (apex_at tr e) l
  pub shows_r : TreeAt tr (right_edge tr e) (apex_at tr e) v r
  pub after : 1 ≤ e
  pub inside : e < 2045
  pub right_inside : right_edge tr e < 2045
  pub middle : apex_at tr e ≡ u + span l
  pub end : v ≡ apex_at tr e + span r
  pub wide_l : 1 ≤ span l
  pub wide_r : 1 ≤ span r
  pub top : v < 1024

module _ {tr : List ℕ} where
  pub ends : {e u v : ℕ} {t : Tree} → TreeAt tr e u v t → v ≡ u + span t
  unfolding span
  ends (side h k p q) = p
  ends (triangle i h k q x y) = omega (arith, ends x, ends y)

  pub corners : {e u v : ℕ} {t : Tree} → TreeAt tr e u v t → (u < v) × (v < 1024)
  corners (side h k p q) = (omega arith, k)
  corners (triangle {l = l} {r = r} i h k q x y) = (omega (arith, ends x, ends y, span_pos l, span_pos r), k)

  pub inside : {e u v : ℕ} {t : Tree} → TreeAt tr e u v t → e < 2045
  inside (side h k p q) = h
  inside (triangle i h k q x y) = h

  pub at_edge : {e u v : ℕ} {t : Tree} → TreeAt tr e u v t → edge_at tr e ≡ u — v
  at_edge (side h k p q) = q
  at_edge (triangle i h k q x y) = q

  pub opened : {e u v : ℕ} {t : Tree} → TreeAt tr e u v t → u + 1 < v → Parts tr e u v t
  opened (side h k p q) a = absurd (omega arith)
  opened (triangle {l = l} {r = r} i h k q x y) a = record {
    l = l;
    r = r;
    is = refl;
    shows_l = x;
    shows_r = y;
    after = i;
    inside = h;
    right_inside = inside y;
    middle = ends x;
    end = ends y;
    wide_l = span_pos l;
    wide_r = span_pos r;
    top = k;
  }

  pub closed : {e u v : ℕ} {t : Tree} → TreeAt tr e u v t → v ≤ u + 1 → t ≡ leaf
  closed (side h k p q) a = refl
  closed (triangle {l = l} {r = r} i h k q x y) a = absurd (omega (arith, ends x, ends y, span_pos l, span_pos r))

  same : {e u v u' v' : ℕ} {t t' : Tree} → v ≡ v' → TreeAt tr e u v t → TreeAt tr e u' v' t' → t ≡ t'
  same w (side h k p q) s = sym (closed s (omega (arith, low_of q, low_of (at_edge s))))
  same w (triangle {l = l} {r = r} i h k q x y) s =
      let d = opened s (omega (arith, ends x, ends y, span_pos l, span_pos r, low_of q, low_of (at_edge s))) in
      ap₂ node (same refl x d.shows_l) (same w y d.shows_r) ∙ sym d.is

  -- a place shows one piece only
  pub one_piece : {e u v u' v' : ℕ} {t t' : Tree} → TreeAt tr e u v t → TreeAt tr e u' v' t' → t ≡ t'
  one_piece s s' = same (omega (arith, high_of (at_edge s), high_of (at_edge s'))) s s'

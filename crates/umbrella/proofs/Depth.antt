-- What each of the six values of an edge is the least of (`depth_at`): a lower bound, by recursion on the stem or the triangles at a corner, and reached, by recursion on what lies behind the edge.
-- Rests on what lies behind an edge, on the inequalities between the values and on the least levels of plans.
use mathlib.Core.Path.{◌≡◌, refl, sym}
use mathlib.Core.Logic.{◌⊎◌, inl, inr}
use mathlib.Core.List.{List, [], ◌∷◌, ◌++◌}
use Prim.Native.Nat.{ℕ, suc, ◌≤◌, ◌<◌, min, max}
use native.Mathlib.Nat.{le_refl, le_trans, le_of_eq}
use native.Mathlib.Decide.{dec_le}
use native.Mathlib.Omega.{arith}
use Rattle.polygon.specs.Polygon.{Edge, Triangulated, Linked}
use Rattle.polygon.specs.Tree.{Tree, piece}
use Rattle.polygon.proofs.PieceTheorem.{piece_at, piece_is}
use Rattle.umbrella.specs.Values.{ud, handle, fan_a, fan_b, partial_a, partial_b, fan_of_a, fan_of_b}
use Rattle.umbrella.specs.Best.{two, best}
use Rattle.umbrella.specs.Triangles.{AllJoined}
use Rattle.umbrella.specs.Depth.{Least, most, AtSide, StemAt, E, L, R, beside, FanA, FanB, end, on, opposite_a, opposite_b, FanUmbrellaA, FanUmbrellaB, StemmedA, StemmedB, bare, gate, past, hanging_a, hanging_b, Depth}
use Rattle.umbrella.proofs.Lattice.{min_left, min_right, max_mono, max_swap, max_left}
use Rattle.umbrella.proofs.Inequalities.{inequalities}
use Rattle.umbrella.proofs.Low.{low, low_stem}
use Rattle.umbrella.proofs.Least.{best_levels, least_stem}
use Rattle.umbrella.proofs.Behind.{Behind, nothing, triangle, piece_leaf, piece_node, behind}

-- a value that one of them has, and the smaller of two such values
abbrev Reached : (A : Type 0) → (A → ℕ) → ℕ → Type 0
Reached A f m = (x : A) × (f x ≡ m)

smaller : {A : Type 0} {f : A → ℕ} {x y : ℕ} → Reached A f x → Reached A f y → Reached A f (min x y)
smaller {f = f} {x} {y} s t = elim (dec_le x y) [ yes h ↦ (s.0, omega (arith, s.1)) | no h ↦ (t.0, omega (arith, t.1)) ]

-- a value that all of them have is the least
only : {A : Type 0} {f : A → ℕ} {m : ℕ} → ((x : A) → f x ≡ m) → A → Least A f m
only each x = record { low = λ y. le_of_eq (sym (each y)); reached = (x, each x) }

-- a maximum with its two numbers exchanged
turned : {x y z w : ℕ} → x ≡ w → y ≡ z → max x y ≡ max z w
turned {x} {y} {z} {w} h k = omega arith

-- the most levels of two lists of pieces
most_append : (ds xs ys : List Edge) → most ds (xs ++ ys) ≡ max (most ds xs) (most ds ys)
unfolding most
most_append ds [] ys = omega arith
most_append ds (e ∷ xs) ys = omega (arith, most_append ds xs ys)

-- a stem with first gate (p,q) reaches the handle's value; there is such a stem, or (p,q) is a side
abbrev StemReached : (ℕ → ℕ → ℕ → Type 0) → ℕ → List Edge → ℕ → ℕ → Type 0
StemReached Ends n ds p q = Reached (StemAt Ends n ds p q) (λ S. most ds (beside S)) (handle (piece ds p q))

abbrev Stems : (ℕ → ℕ → ℕ → Type 0) → ℕ → List Edge → ℕ → ℕ → Type 0
Stems Ends n ds p q = ((q ≡ suc p) × (q < n)) ⊎ StemReached Ends n ds p q

-- of a triangulated polygon
module _ (n : ℕ) (ds : List Edge) (P : Triangulated n ds) where
  -- the fan of all triangles at a corner: it has one value only, and there is one
  fan_a_lem : {a b : ℕ} (F : FanA n ds a b) (s : Tree) → most ds (opposite_a F) ≡ fan_a (piece ds a b) s
  unfolding ud most opposite_a
  fan_a_lem (end h) s = rw (piece_leaf ds h)
  fan_a_lem (on j F) s = rw (piece_node n ds P j) (turned refl (fan_a_lem F _))

  fan_b_lem : {a b : ℕ} (F : FanB n ds a b) (s : Tree) → most ds (opposite_b F) ≡ fan_b s (piece ds a b)
  unfolding ud most opposite_b
  fan_b_lem (end h) s = rw (piece_leaf ds h)
  fan_b_lem (on j F) s = rw (piece_node n ds P j) (turned refl (fan_b_lem F _))

  the_fan_a : {a b : ℕ} → Behind n ds a b → FanA n ds a b
  the_fan_a (nothing h i) = end h
  the_fan_a (triangle j A B) = on j (the_fan_a A)

  the_fan_b : {a b : ℕ} → Behind n ds a b → FanB n ds a b
  the_fan_b (nothing h i) = end h
  the_fan_b (triangle j A B) = on j (the_fan_b B)

  -- for any rule for the ends of a stem, the values are lower bounds: of the stems, and of the triangles at a corner with at most one stem
  module _ (Ends : ℕ → ℕ → ℕ → Type 0) where
    stem_low : {p q : ℕ} (S : StemAt Ends n ds p q) → handle (piece ds p q) ≤ most ds (beside S)
    unfolding ud most beside
    stem_low (E {p} {x} {q} j e) = rw (piece_node n ds P j) (min_left _ (max_mono (inequalities (piece ds p x) (piece ds x q)).handle_ud (max_left 0 (le_refl _))))
    stem_low (L j S) = rw (piece_node n ds P j) (min_left _ (max_swap (stem_low S) (le_refl _)))
    stem_low (R j S) = rw (piece_node n ds P j) (min_right _ (max_swap (stem_low S) (le_refl _)))

    partial_low_a : {a b : ℕ} (U : StemmedA Ends n ds a b) (s : Tree) → partial_a (piece ds a b) s ≤ most ds (hanging_a U)
    unfolding ud most hanging_a
    partial_low_a (bare {a} {b} F) s = le_trans (inequalities (piece ds a b) s).partial_a_fan_a (le_of_eq (sym (fan_a_lem F s)))
    partial_low_a (gate j F S) s = rw (piece_node n ds P j, most_append ds (beside S) (opposite_a F)) (min_right _ (max_swap (le_of_eq (sym (fan_a_lem F _))) (stem_low S)))
    partial_low_a (past j U) s = rw (piece_node n ds P j) (min_left _ (max_swap (partial_low_a U _) (le_refl _)))

    partial_low_b : {a b : ℕ} (U : StemmedB Ends n ds a b) (s : Tree) → partial_b s (piece ds a b) ≤ most ds (hanging_b U)
    unfolding ud most hanging_b
    partial_low_b (bare {a} {b} F) s = le_trans (inequalities (piece ds a b) s).partial_b_fan_b (le_of_eq (sym (fan_b_lem F s)))
    partial_low_b (gate j F S) s = rw (piece_node n ds P j, most_append ds (beside S) (opposite_b F)) (min_right _ (max_swap (le_of_eq (sym (fan_b_lem F _))) (stem_low S)))
    partial_low_b (past j U) s = rw (piece_node n ds P j) (min_left _ (max_swap (partial_low_b U _) (le_refl _)))

    -- for a rule that allows document 01's, they are reached: L, or E at a side, reaches the first of the handle's two numbers; R, or E at a side, the second
    module _ (allows : (x y z : ℕ) → AtSide n x y z → Ends x y z) where
      stem_here : {p x q : ℕ} → AllJoined n ds (p, x, q) → Stems Ends n ds p x → Stems Ends n ds x q → StemReached Ends n ds p q
      unfolding ud most beside
      stem_here {p} {x} {q} j A B = rw (piece_node n ds P j) (smaller (across_left A) (across_right B))
        where
          across_left : Stems Ends n ds p x → Reached (StemAt Ends n ds p q) (λ S. most ds (beside S)) (max (handle (piece ds p x)) (ud (piece ds x q)))
          across_left (inl h) = (E j (allows p x q (inl (inl h))), rw (piece_leaf ds h.0) (omega arith))
          across_left (inr (S, e)) = (L j S, turned refl e)

          across_right : Stems Ends n ds x q → Reached (StemAt Ends n ds p q) (λ S. most ds (beside S)) (max (handle (piece ds x q)) (ud (piece ds p x)))
          across_right (inl h) = (E j (allows p x q (inr (inl h))), rw (piece_leaf ds h.0) (omega arith))
          across_right (inr (S, e)) = (R j S, turned refl e)

      stem_at_lem : {p q : ℕ} → Behind n ds p q → Stems Ends n ds p q
      stem_at_lem (nothing h i) = inl (h, i)
      stem_at_lem (triangle j A B) = inr (stem_here j (stem_at_lem A) (stem_at_lem B))

      -- going on past the first edge opposite the corner reaches the first of the two numbers; a stem across it, or none if it is a side, the second
      partial_at_a : {a b : ℕ} → Behind n ds a b → (s : Tree) → Reached (StemmedA Ends n ds a b) (λ U. most ds (hanging_a U)) (partial_a (piece ds a b) s)
      unfolding ud most hanging_a opposite_a
      partial_at_a (nothing h i) s = (bare (end h), rw (piece_leaf ds h))
      partial_at_a (triangle {a} {c} {b} j A B) s =
          let (U, e) = partial_at_a A (piece ds c b) in
          rw (piece_node n ds P j) (smaller (past j U, turned refl e) (gated (stem_at_lem B)))
        where
          F : FanA n ds a c
          F = the_fan_a A

          gated : Stems Ends n ds c b → Reached (StemmedA Ends n ds a b) (λ U. most ds (hanging_a U)) (max (fan_a (piece ds a c) (piece ds c b)) (handle (piece ds c b)))
          gated (inl h) = (bare (on j F), rw (piece_leaf ds h.0) (turned refl (fan_a_lem F _)))
          gated (inr (S, e)) = (gate j F S, rw (most_append ds (beside S) (opposite_a F)) (turned e (fan_a_lem F _)))

      partial_at_b : {a b : ℕ} → Behind n ds a b → (s : Tree) → Reached (StemmedB Ends n ds a b) (λ U. most ds (hanging_b U)) (partial_b s (piece ds a b))
      unfolding ud most hanging_b opposite_b
      partial_at_b (nothing h i) s = (bare (end h), rw (piece_leaf ds h))
      partial_at_b (triangle {a} {c} {b} j A B) s =
          let (U, e) = partial_at_b B (piece ds a c) in
          rw (piece_node n ds P j) (smaller (past j U, turned refl e) (gated (stem_at_lem A)))
        where
          F : FanB n ds c b
          F = the_fan_b B

          gated : Stems Ends n ds a c → Reached (StemmedB Ends n ds a b) (λ U. most ds (hanging_b U)) (max (fan_b (piece ds a c) (piece ds c b)) (handle (piece ds a c)))
          gated (inl h) = (bare (on j F), rw (piece_leaf ds h.0) (turned refl (fan_b_lem F _)))
          gated (inr (S, e)) = (gate j F S, rw (most_append ds (beside S) (opposite_b F)) (turned e (fan_b_lem F _)))

      -- so it is with all six, if the edge is no side
      depth_behind : {a b : ℕ} → Behind n ds a b → suc a < b → Depth Ends n ds a b
      depth_behind (nothing e i) h = absurd (omega arith)
      depth_behind (triangle {a} {c} {b} j A B) h = record {
        whole_piece = let (t, p, h) = piece_at n ds P a b j.4 in rw (← (piece_is n ds P p b h)) (p, h);
        of_handle = record { low = λ S. stem_low S; reached = stem_here j (stem_at_lem A) (stem_at_lem B) };
        of_planned_handle = record { low = λ S. low_stem S; reached = rw (piece_node n ds P j) (least_stem _ two) };
        of_fan_a = only each_a (record { c = c; first = j; fan = the_fan_a A });
        each_fan_a = each_a;
        of_fan_b = only each_b (record { c = c; first = j; fan = the_fan_b B });
        each_fan_b = each_b;
        of_partial_a = record {
          low = λ U. rw (piece_node n ds P U.first) (partial_low_a U.rest _);
          reached = rw (piece_node n ds P j) (let (U, e) = partial_at_a A (piece ds c b) in (record { c = c; first = j; rest = U }, e));
        };
        of_partial_b = record {
          low = λ U. rw (piece_node n ds P U.first) (partial_low_b U.rest _);
          reached = rw (piece_node n ds P j) (let (U, e) = partial_at_b B (piece ds a c) in (record { c = c; first = j; rest = U }, e));
        };
        of_whole = record { low = λ p. low p; reached = (best _, best_levels _) };
      }
        where
          each_a : (U : FanUmbrellaA n ds a b) → most ds (opposite_a U.fan) ≡ fan_of_a (piece ds a b)
          each_a U = rw (piece_node n ds P U.first) (fan_a_lem U.fan _)

          each_b : (U : FanUmbrellaB n ds a b) → most ds (opposite_b U.fan) ≡ fan_of_b (piece ds a b)
          each_b U = rw (piece_node n ds P U.first) (fan_b_lem U.fan _)

      pub depth_at : (a b : ℕ) → Linked n ds a b → suc a < b → Depth Ends n ds a b
      depth_at a b k h = depth_behind (behind n ds P a b k) h

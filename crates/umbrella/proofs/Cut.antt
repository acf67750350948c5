-- The upper part of a piece's tree that an umbrella takes (`Cut`) has the umbrella's triangles, in an order of its own (`same_own`).
-- By recursion on the plan. Rests on the laws of lists only.
use mathlib.Core.List.{List, [], ◌∷◌, ◌++◌}
use Prim.Native.Nat.{ℕ, ◌+◌}
use Rattle.lists.specs.Lists.{Mem, Sub, all_cons, all_nil}
use Rattle.lists.proofs.Lists.{all_append, all_mem, all_of, here, mem_left, mem_right, there}
use Rattle.polygon.specs.Tree.{Tree, span}
use Rattle.umbrella.specs.Plan.{Plan, none, plain, stem_left, stem_right, LeftRim, left_end, left_on, RightRim, right_end, right_on, LeftGate, left_gate, left_past, RightGate, right_gate, right_past, Stem, end_both, end_left, end_right, go_left, go_right}
use Rattle.umbrella.specs.Triangles.{Triangle, own, own_left, own_right, own_left_gate, own_right_gate, own_stem}
use Rattle.umbrella.specs.Border.{Cut, hangs, takes, cut_left, cut_right, cut_stem, cut_left_gate, cut_right_gate, cut}

-- the triangles of the upper part of the piece (u,v)
unfoldable pub taken_in : {t : Tree} → ℕ → ℕ → Cut t → List Triangle
taken_in u v hangs = []
taken_in u v (takes {l} L R) = taken_in u (u + span l) L ++ ((u, u + span l, v) ∷ taken_in (u + span l) v R)

-- they are those that the umbrella takes, in an order of their own
abbrev pub SameTriangles : List Triangle → List Triangle → Type 0
SameTriangles xs ys = Sub xs ys × Sub ys xs

same : (xs : List Triangle) → SameTriangles xs xs
same xs = (λ x m. m, λ x m. m)

around : (x : Triangle) (a c b d : List Triangle) → SameTriangles a c → SameTriangles b d → SameTriangles (a ++ (x ∷ b)) (c ++ (x ∷ d))
around x a c b d (f, g) (h, k) = (one a c b d f h, one c a d b g k)
  where
    one : (a c b d : List Triangle) → Sub a c → Sub b d → Sub (a ++ (x ∷ b)) (c ++ (x ∷ d))
    one a c b d f h y m =
        all_mem {Q = λ z. Mem z (c ++ (x ∷ d))} (all_append (all_of a (λ z i. mem_left (x ∷ d) (f z i))) (all_cons (mem_right c here) (all_of b (λ z i. mem_right c (there (h z i)))))) m

behind : (x : Triangle) (a c : List Triangle) → SameTriangles a c → SameTriangles (x ∷ a) (c ++ (x ∷ []))
behind x a c (f, g) = (
  λ y m. all_mem {Q = λ z. Mem z (c ++ (x ∷ []))} (all_cons (mem_right c here) (all_of a (λ z i. mem_left (x ∷ []) (f z i)))) m,
  λ y m. all_mem {Q = λ z. Mem z (x ∷ a)} (all_append (all_of c (λ z i. there (g z i))) (all_cons here all_nil)) m,
)

same_left : {t : Tree} (A : LeftRim t) (u v : ℕ) → SameTriangles (own_left A u v) (taken_in u v (cut_left A))
unfolding own_left cut_left taken_in
same_left left_end u v = same []
same_left (left_on {a} A p) u v = around (u, u + span a, v) _ _ [] [] (same_left A u (u + span a)) (same [])

same_right : {t : Tree} (B : RightRim t) (u v : ℕ) → SameTriangles (own_right B u v) (taken_in u v (cut_right B))
unfolding own_right cut_right taken_in
same_right right_end u v = same []
same_right (right_on {a} p B) u v = around (u, u + span a, v) [] [] _ _ (same []) (same_right B (u + span a) v)

same_stem : {t : Tree} (S : Stem t) (p q : ℕ) → SameTriangles (own_stem S p q) (taken_in p q (cut_stem S))
unfolding span own_stem cut_stem taken_in
same_stem end_both p q = same _
same_stem (end_left c) p q = same _
same_stem (end_right c) p q = same _
same_stem (go_left {a} S c) p q = behind (p, p + span a, q) _ _ (same_stem S p (p + span a))
same_stem (go_right {a} c S) p q = around (p, p + span a, q) [] [] _ _ (same []) (same_stem S (p + span a) q)

same_left_gate : {t : Tree} (G : LeftGate t) (u v : ℕ) → SameTriangles (own_left_gate G u v) (taken_in u v (cut_left_gate G))
unfolding own_left_gate cut_left_gate taken_in
same_left_gate (left_gate {a} A S) u v = around (u, u + span a, v) _ _ _ _ (same_left A u (u + span a)) (same_stem S (u + span a) v)
same_left_gate (left_past {a} G p) u v = around (u, u + span a, v) _ _ [] [] (same_left_gate G u (u + span a)) (same [])

same_right_gate : {t : Tree} (G : RightGate t) (u v : ℕ) → SameTriangles (own_right_gate G u v) (taken_in u v (cut_right_gate G))
unfolding own_right_gate cut_right_gate taken_in
same_right_gate (right_gate {a} S B) u v = around (u, u + span a, v) _ _ _ _ (same_stem S u (u + span a)) (same_right B (u + span a) v)
same_right_gate (right_past {a} p G) u v = around (u, u + span a, v) [] [] _ _ (same []) (same_right_gate G (u + span a) v)

pub same_own : {t : Tree} (p : Plan t) (u v : ℕ) → SameTriangles (own p u v) (taken_in u v (cut p))
unfolding own cut taken_in
same_own none u v = same []
same_own (plain {l} A B) u v = around (u, u + span l, v) _ _ _ _ (same_left A u (u + span l)) (same_right B (u + span l) v)
same_own (stem_left {l} G B) u v = around (u, u + span l, v) _ _ _ _ (same_left_gate G u (u + span l)) (same_right B (u + span l) v)
same_own (stem_right {l} A G) u v = around (u, u + span l, v) _ _ _ _ (same_left A u (u + span l)) (same_right_gate G (u + span l) v)

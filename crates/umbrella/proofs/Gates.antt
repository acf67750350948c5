-- The first gate of a plan with a stem is the rim edge (rs, rs+1), s being the first number of its code, a diagonal, and the stem takes the triangle behind it (`gate_of`).
-- By recursion on the plan's way along the rim.
use mathlib.Core.Path.{◌≡◌, refl, sym}
use mathlib.Core.Logic.{◌⊎◌, inl, inr}
use mathlib.Core.List.{List, [], ◌∷◌, ◌++◌, append_assoc}
use mathlib.Core.Option as option
use Prim.Native.Nat.{ℕ, suc, ◌+◌, ◌<◌}
use native.Mathlib.Nat.{add_assoc}
use native.Mathlib.Omega.{arith}
use lib.ListN.{length, length-append}
use Rattle.lists.specs.Lists.{Mem}
use Rattle.lists.proofs.Lists.{here, mem_left, mem_right, there}
use Rattle.polygon.specs.Polygon.{Edge, ◌—◌, Triangulated}
use Rattle.polygon.specs.Tree.{Tree, leaf, node, span, chords, PieceOf}
use Rattle.polygon.proofs.Chords.{span_pos, inner_left, inner_right, inner_chords, root_of}
use Rattle.polygon.proofs.PieceTheorem.{inner_diagonal}
use Rattle.umbrella.specs.Plan.{Plan, none, plain, stem_left, stem_right, LeftGate, left_gate, left_past, RightGate, right_gate, right_past, Stem, end_both, end_left, end_right, go_left, go_right}
use Rattle.umbrella.specs.Drawn.{word, rim_edges, code_left, code_right, code}
use Rattle.umbrella.specs.Triangles.{Inner, own, own_left, own_left_gate, own_right_gate, own_stem}
use Rattle.umbrella.specs.Rim.{rim_below, rim_above, rim, gate_below, gate_above, first_gate, Neighbours, first, later, Crossed, Gate}

-- a gate is a diagonal: there is no stem through a side
stem_wide : {t : Tree} → Stem t → 1 < span t
unfolding span
stem_wide end_both = omega arith
stem_wide (end_left {a} {b} p) = omega (arith, span_pos a)
stem_wide (end_right {a} {b} p) = omega (arith, span_pos a)
stem_wide (go_left {a} {b} S p) = omega (arith, span_pos a, span_pos b)
stem_wide (go_right {a} {b} p S) = omega (arith, span_pos a, span_pos b)

below_edge : {t : Tree} (G : LeftGate t) (u : ℕ) → Mem (gate_below G u) (chords u t)
unfolding gate_below
below_edge (left_gate {a} {b} A S) u = inner_chords u a b _ (inner_right u a b _ (rw (add_assoc u (span a) (span b)) at (root_of (u + span a) b (stem_wide S))))
below_edge (left_past {a} {b} G p) u = inner_chords u a b _ (inner_left u a b _ (below_edge G u))

above_edge : {t : Tree} (G : RightGate t) (u : ℕ) → Mem (gate_above G u) (chords u t)
unfolding gate_above
above_edge (right_gate {a} {b} S B) u = inner_chords u a b _ (inner_left u a b _ (root_of u a (stem_wide S)))
above_edge (right_past {a} {b} p G) u = inner_chords u a b _ (inner_right u a b _ (above_edge G (u + span a)))

-- neighbours in a list, with others in front of them
after : {x y : ℕ} (xs ys : List ℕ) → Neighbours x y (length xs) (xs ++ (x ∷ (y ∷ ys)))
after [] ys = first
after (z ∷ xs) ys = later (after xs ys)

below_length : (u : ℕ) (t : Tree) → length (rim_below u t) ≡ rim_edges t
unfolding rim_below rim_edges
below_length u leaf = refl
below_length u (node a b) = omega (arith, length-append (rim_below u a) ((u + span a) ∷ []), below_length u a)

below_crossed : {t : Tree} (G : LeftGate t) (u : ℕ) (ys : List ℕ) → Crossed (code_left G) (gate_below G u) (rim_below u t ++ ((u + span t) ∷ ys))
unfolding span rim_below code_left gate_below
below_crossed (left_gate {a} {b} A S) u ys = record {
  s = rim_edges a;
  rest = word S;
  numbered = refl;
  beside = rw (append_assoc (rim_below u a) ((u + span a) ∷ []) ((u + (span a + span b)) ∷ ys)) (rw (sym (below_length u a)) (after (rim_below u a) ys));
}
below_crossed (left_past {a} {b} G p) u ys = rw (append_assoc (rim_below u a) ((u + span a) ∷ []) ((u + (span a + span b)) ∷ ys)) (below_crossed G u ((u + (span a + span b)) ∷ ys))

above_crossed : {t : Tree} (G : RightGate t) (u s : ℕ) (xs : List ℕ) → length xs ≡ s → Crossed (code_right s G) (gate_above G u) (xs ++ (u ∷ rim_above u t))
unfolding rim_above code_right gate_above
above_crossed (right_gate S B) u s xs h = record { s = s; rest = word S; numbered = refl; beside = rw (sym h) (after xs _) }
above_crossed (right_past {a} {b} p G) u s xs h =
    let c : ℕ = u + span a in
    rw (append_assoc xs (u ∷ []) (c ∷ rim_above c b)) at (above_crossed G c (suc s) (xs ++ (u ∷ [])) (omega (arith, length-append xs (u ∷ []))))

-- the stem takes the triangle behind the gate
stem_first : {t : Tree} (S : Stem t) (p q : ℕ) → Inner (own_stem S p q) (p — q)
unfolding own_stem
stem_first end_both p q = (p + 1, here)
stem_first (end_left c) p q = (p + 1, here)
stem_first (end_right {a} {b} c) p q = (p + span (node a b), here)
stem_first (go_left {a} S c) p q = (p + span a, here)
stem_first (go_right {a} c S) p q = (p + span a, here)

below_taken : {t : Tree} (G : LeftGate t) (u : ℕ) → Inner (own_left_gate G u (u + span t)) (gate_below G u)
unfolding span gate_below own_left_gate
below_taken (left_gate {a} {b} A S) u = let (x, m) = stem_first S (u + span a) (u + (span a + span b)) in (x, mem_right (own_left A u (u + span a)) (there m))
below_taken (left_past {a} G p) u = let (x, m) = below_taken G u in (x, mem_left _ m)

above_taken : {t : Tree} (G : RightGate t) (u v : ℕ) → Inner (own_right_gate G u v) (gate_above G u)
unfolding gate_above own_right_gate
above_taken (right_gate {a} S B) u v = let (x, m) = stem_first S u (u + span a) in (x, mem_left _ m)
above_taken (right_past {a} p G) u v = let (x, m) = above_taken G (u + span a) v in (x, there m)

module _ (n : ℕ) (ds : List Edge) (P : Triangulated n ds) where
  pub gate_of : {u : ℕ} {t : Tree} → PieceOf n ds u t → (p : Plan t) → ((first_gate p u ≡ option.none) × (code p ≡ [])) ⊎ Gate ds p u
  unfolding span rim code first_gate own
  gate_of a none = inl (refl, refl)
  gate_of a (plain A B) = inl (refl, refl)
  gate_of {u} a (stem_left {l} {r} G B) = inr (record {
    e = gate_below G u;
    is = refl;
    crossed = below_crossed G u _;
    diagonal = inner_diagonal n ds P a _ (inner_left u l r _ (below_edge G u));
    taken = (let (x, m) = below_taken G u in (x, mem_left _ m));
  })
  gate_of {u} a (stem_right {l} {r} A G) = inr (record {
    e = gate_above G (u + span l);
    is = refl;
    crossed = above_crossed G (u + span l) (rim_edges l) (rim_below u l) (below_length u l);
    diagonal = inner_diagonal n ds P a _ (inner_right u l r _ (above_edge G (u + span l)));
    taken = (let (x, m) = above_taken G (u + span l) _ in (x, mem_right (own_left A u (u + span l)) (there m)));
  })

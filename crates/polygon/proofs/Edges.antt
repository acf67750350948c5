-- The edges of a piece: they ascend, they are its sides and its chords, and so many; and the edges of a polygon's tree are the polygon's sides and diagonals.
-- Rests on Chords.antt.
use mathlib.Core.Path.{◌≡◌, refl, sym, ap, subst}
use mathlib.Core.Logic.{◌⊎◌, inl, inr, ◌↔◌}
use mathlib.Core.List.{List, [], ◌∷◌, ◌++◌}
use Prim.Native.Nat.{ℕ, suc, ◌+◌, ◌*◌, ◌≤◌, ◌<◌}
use native.Mathlib.Decide.{dec_lt}
use native.Mathlib.Omega.{arith}
use lib.ListN.{length, length-append}
use Rattle.lists.specs.Lists.{All, Mem, all_cons, all_nil, head, sorted_cons, sorted_nil}
use Rattle.lists.proofs.Lists.{all_append, all_imp, all_left, all_mem, all_right, all_self, sorted_append}
use Rattle.polygon.specs.Polygon.{Edge, ◌—◌, Ascending, Linked}
use Rattle.polygon.specs.Tree.{Tree, leaf, node, span, chords_at, chords_past, chords, inner}
use Rattle.polygon.proofs.Order.{edge, low_of, high_of}
use Rattle.polygon.proofs.Chords.{span_pos, all_node, InPieces, node_cases, inner_left, inner_right, inner_chords, root_in}
use Rattle.polygon.proofs.TreeTheorem.{TreeIs}
use Rattle.polygon.specs.Edges.{edges, edges_at, edges_past}

-- where they lie
pub at_in : (u : ℕ) (t : Tree) → All (λ e. (e.0 ≡ u) × (u < e.1) × (e.1 ≤ u + span t)) (edges_at u t)
unfolding edges_at chords_at span
at_in u leaf = all_cons {x = u — suc u} (omega arith) all_nil
at_in u (node l r) = all_append (all_imp (λ e h. omega arith) (at_in u l)) (all_cons {x = u — (u + (span l + span r))} (omega (arith, span_pos l)) all_nil)

pub past_in : (u : ℕ) (t : Tree) → All (λ e. (u < e.0) × (e.0 < e.1) × (e.1 ≤ u + span t)) (edges_past u t)
unfolding edges_past span
past_in u leaf = all_nil
past_in u (node l r) =
    all_append (all_imp (λ e h. omega arith) (past_in u l))
    (all_append (all_imp (λ e h. omega (arith, span_pos l)) (at_in (u + span l) r)) (all_imp (λ e h. omega arith) (past_in (u + span l) r)))

pub edges_in_lem : (u : ℕ) (t : Tree) → All (λ e. (u ≤ e.0) × (e.0 < e.1) × (e.1 ≤ u + span t)) (edges u t)
unfolding edges
edges_in_lem u t = all_append (all_imp (λ e h. omega arith) (at_in u t)) (all_imp (λ e h. omega arith) (past_in u t))

-- they ascend
at_ascending : (u : ℕ) (t : Tree) → Ascending (edges_at u t)
unfolding edges_at chords_at
at_ascending u leaf = sorted_cons all_nil sorted_nil
at_ascending u (node l r) =
    sorted_append {P = λ e. (e.0 ≡ u) × (u < e.1) × (e.1 ≤ u + span l)} {Q = λ e. (e.0 ≡ u) × (e.1 ≡ u + (span l + span r))}
    (λ p q h k. inr (omega arith, omega (arith, span_pos r))) (at_ascending u l) (sorted_cons all_nil sorted_nil) (at_in u l) (all_cons (refl, refl) all_nil)

at_then_past : (u : ℕ) (t : Tree) → Ascending (edges_past u t) → Ascending (edges_at u t ++ edges_past u t)
at_then_past u t s =
    sorted_append {P = λ e. (e.0 ≡ u) × (u < e.1) × (e.1 ≤ u + span t)} {Q = λ e. (u < e.0) × (e.0 < e.1) × (e.1 ≤ u + span t)}
    (λ p q h k. inl (omega arith)) (at_ascending u t) s (at_in u t) (past_in u t)

past_ascending : (u : ℕ) (t : Tree) → Ascending (edges_past u t)
unfolding edges_past
past_ascending u leaf = sorted_nil
past_ascending u (node l r) =
    let c : ℕ = u + span l in
    sorted_append {P = λ e. e.0 < c} {Q = λ e. c ≤ e.0} (λ p q h k. inl (omega arith)) (past_ascending u l) (at_then_past c r (past_ascending c r))
    (all_imp (λ e h. omega arith) (past_in u l)) (all_append (all_imp (λ e h. omega arith) (at_in c r)) (all_imp (λ e h. omega arith) (past_in c r)))

pub edges_ascending : (u : ℕ) (t : Tree) → Ascending (edges u t)
unfolding edges
edges_ascending u t = at_then_past u t (past_ascending u t)

-- the edges of a piece are those of the two pieces beyond its triangle and its root edge
module _ (Q : Edge → Type 0) (u : ℕ) (l r : Tree) where
  edges_node : All Q (edges u l) → Q (u — (u + (span l + span r))) → All Q (edges (u + span l) r) → All Q (edges u (node l r))
  unfolding edges edges_at edges_past chords_at
  edges_node a q b = all_append (all_append (all_left (edges_at u l) (edges_past u l) a) (all_cons q all_nil)) (all_append (all_right (edges_at u l) a) b)

  edges_parts : All Q (edges u (node l r)) → All Q (edges u l) × Q (u — (u + (span l + span r))) × All Q (edges (u + span l) r)
  unfolding edges edges_at edges_past chords_at
  edges_parts a =
      let f : Edge = u — (u + (span l + span r)) in
      let b = all_left (edges_at u l ++ (f ∷ [])) _ a in
      let c = all_right (edges_at u l ++ (f ∷ [])) a in
      (all_append (all_left (edges_at u l) _ b) (all_left (edges_past u l) _ c), all_mem (all_right (edges_at u l) b) (head refl), all_right (edges_past u l) c)

-- an edge is a side or a chord
edges_cases : (u : ℕ) (t : Tree) → All (λ e. (e.1 ≡ suc e.0) ⊎ Mem e (chords u t)) (edges u t)
unfolding edges edges_at edges_past chords_at
edges_cases u leaf = all_cons {x = u — suc u} (inl refl) all_nil
edges_cases u (node l r) =
    edges_node _ u l r
    (all_imp (λ e h. elim h [ inl s ↦ inl s | inr m ↦ inr (inner_chords u l r e (inner_left u l r e m)) ]) (edges_cases u l))
    (inr (root_in u l r))
    (all_imp (λ e h. elim h [ inl s ↦ inl s | inr m ↦ inr (inner_chords u l r e (inner_right u l r e m)) ]) (edges_cases (u + span l) r))

-- a chord is an edge
chords_edges : (u : ℕ) (t : Tree) → All (λ e. Mem e (edges u t)) (chords u t)
unfolding chords chords_at chords_past
chords_edges u leaf = all_nil
chords_edges u (node l r) =
    let (a, q, b) = edges_parts _ u l r (all_self (edges u (node l r))) in
    all_node _ u l r (all_imp (λ e m. all_mem a m) (chords_edges u l)) q (all_imp (λ e m. all_mem b m) (chords_edges (u + span l) r))

-- and so is a side
side_edge : (u : ℕ) (t : Tree) (x : ℕ) → u ≤ x → x < u + span t → Mem (x — suc x) (edges u t)
unfolding span edges edges_at edges_past
side_edge u leaf x h k = let e : x ≡ u = omega arith in head (ap (λ y. y — suc y) e)
side_edge u (node l r) x h k = go (dec_lt x (u + span l)) (side_edge u l x h) (side_edge (u + span l) r x)
  where
    parts : All (λ e. Mem e (edges u (node l r))) (edges u l) × Mem (u — (u + (span l + span r))) (edges u (node l r)) × All (λ e. Mem e (edges u (node l r))) (edges (u + span l) r)
    parts = edges_parts _ u l r (all_self (edges u (node l r)))

    go : Dec (x < u + span l) → (x < u + span l → Mem (x — suc x) (edges u l)) → (u + span l ≤ x → x < u + span l + span r → Mem (x — suc x) (edges (u + span l) r)) → Mem (x — suc x) (edges u (node l r))
    go (yes i) f g = all_mem parts.0 (f i)
    go (no i) f g = all_mem parts.2 (g (omega arith) (omega arith))

-- how many
pub edges_count : (u : ℕ) (t : Tree) → suc (length (edges u t)) ≡ 2 * span t
unfolding edges edges_at edges_past chords_at span
edges_count u leaf = refl
edges_count u (node l r) =
    let h = simp length-append at (edges_count u l) in
    let k = simp length-append at (edges_count (u + span l) r) in
    simp length-append (omega (arith, h, k))

-- the edges of a polygon's tree are the polygon's sides and diagonals
pub edges_linked : (n : ℕ) (ds : List Edge) (t : Tree) → 3 ≤ n → TreeIs n ds t → (e : Edge) → Mem e (edges 0 t) ↔ Linked n ds e.0 e.1
unfolding span
edges_linked n ds leaf big T e = absurd (omega (arith, T.size))
edges_linked n ds (node l r) big T e = (λ m. forth (all_mem (edges_in_lem 0 (node l r)) m) (all_mem (edges_cases 0 (node l r)) m), back)
  where
    of_inner : Mem e (inner 0 (node l r)) → Linked n ds e.0 e.1
    of_inner m = inr (subst (λ (x : List Edge). Mem e x) T.same m)

    forth : (0 ≤ e.0) × (e.0 < e.1) × (e.1 ≤ 0 + (span l + span r)) → (e.1 ≡ suc e.0) ⊎ Mem e (chords 0 (node l r)) → Linked n ds e.0 e.1
    forth b (inl s) = inl (inl (s, omega (arith, T.size)))
    forth b (inr m) = pick (node_cases 0 l r e m)
      where
        pick : (e ≡ 0 — (0 + (span l + span r))) ⊎ InPieces 0 l r e → Linked n ds e.0 e.1
        pick (inl q) = inl (inr (low_of q, omega (arith, high_of q, T.size)))
        pick (inr (inl k)) = of_inner (inner_left 0 l r e k)
        pick (inr (inr k)) = of_inner (inner_right 0 l r e k)

    of_chord : Mem e (chords 0 (node l r)) → Mem e (edges 0 (node l r))
    of_chord m = all_mem (chords_edges 0 (node l r)) m

    back : Linked n ds e.0 e.1 → Mem e (edges 0 (node l r))
    back (inl (inl s)) = subst (λ (x : Edge). Mem x (edges 0 (node l r))) (sym (edge refl s.0)) (side_edge 0 (node l r) e.0 (omega arith) (omega (arith, s.0, s.1, T.size)))
    back (inl (inr s)) = of_chord (subst (λ (x : Edge). Mem x (chords 0 (node l r))) (sym (edge s.0 (omega (arith, s.1, T.size)))) (root_in 0 l r))
    back (inr m) = of_chord (inner_chords 0 l r e (subst (λ (x : List Edge). Mem e x) (sym T.same) m))

-- The border of an umbrella, root edge excepted, is the edges that its hung pieces stand on (`border_hung`), and those are diagonals where the piece is not empty (`hung_diagonal`).
-- Both by recursion on the upper part of the tree that the umbrella takes (`Cut`).
use mathlib.Core.Path.{◌≡◌, refl, sym, ap, subst}
use mathlib.Core.Logic.{◌⊎◌, inl, inr, ◌↔◌, ◌≢◌}
use mathlib.Core.List.{List, [], ◌∷◌, ◌++◌}
use Prim.Native.Nat.{ℕ, ◌+◌, ◌≤◌, ◌<◌}
use native.Mathlib.Omega.{arith}
use Rattle.lists.specs.Lists.{All, Mem, Sub, all_cons, all_nil, head, tail}
use Rattle.lists.proofs.Lists.{all_append, all_both, all_imp, all_mem, here, mem_left, mem_right, not_empty, there}
use Rattle.polygon.specs.Polygon.{Edge, ◌—◌, Triangulated}
use Rattle.polygon.specs.Tree.{Tree, leaf, node, span, chords, inner, Piece, itself, beyond_left, beyond_right, PieceOf}
use Rattle.polygon.proofs.Order.{low_of, high_of}
use Rattle.polygon.proofs.Chords.{span_pos, inner_left, inner_right, root_of}
use Rattle.polygon.proofs.PieceTheorem.{piece_lies, piece_chords, piece_of_piece, inner_diagonal}
use Rattle.umbrella.specs.Plan.{Plan, none, plain, stem_left, stem_right}
use Rattle.umbrella.specs.Triangles.{Triangle, Inner, Outer, own}
use Rattle.umbrella.specs.Border.{Cut, hangs, takes, cut_left, cut_right, cut_left_gate, cut_right_gate, cut, hung_in, hung, Carries, Border}
use Rattle.umbrella.proofs.Cut.{taken_in, SameTriangles, same_own}

-- where the triangles of the upper part lie, and where the hung pieces lie
taken_in_lem : {t : Tree} (c : Cut t) (u v : ℕ) → u + span t ≡ v → All (λ x. (u ≤ x.0) × (x.0 < x.1) × (x.1 < x.2) × (x.2 ≤ v)) (taken_in u v c)
unfolding span taken_in
taken_in_lem hangs u v h = all_nil
taken_in_lem (takes {l} {r} L R) u v h =
    let p = span_pos l in
    let q = span_pos r in
    all_append (all_imp (λ x k. omega arith) (taken_in_lem L u (u + span l) refl))
    (all_cons {x = (u, u + span l, v)} (omega arith) (all_imp (λ x k. omega arith) (taken_in_lem R (u + span l) v (omega arith))))

hung_pieces : {t : Tree} (c : Cut t) (u : ℕ) → All (λ s. Piece s.0 s.1 u t) (hung_in u c)
unfolding hung_in
hung_pieces hangs u = all_cons itself all_nil
hung_pieces (takes {l} L R) u = all_append (all_imp (λ s a. beyond_left a) (hung_pieces L u)) (all_imp (λ s a. beyond_right a) (hung_pieces R (u + span l)))

-- the edge that a hung piece stands on
abbrev foot : ℕ × Tree → Edge
foot s = s.0 — (s.0 + span s.1)

-- an edge of the upper part on which a triangle of it stands, or a hung piece
abbrev Covered : {t : Tree} → Cut t → ℕ → ℕ → Edge → Type 0
Covered c u v e = Inner (taken_in u v c) e ⊎ Carries (hung_in u c) e

-- an edge of it that lies under a triangle of it, or is the root edge
abbrev Under : {t : Tree} → Cut t → ℕ → ℕ → Edge → Type 0
Under c u v e = Outer (taken_in u v c) e ⊎ (e ≡ u — v)

root_held : {t : Tree} (c : Cut t) (u v : ℕ) → u + span t ≡ v → Covered c u v (u — v)
unfolding taken_in hung_in
root_held (hangs {t}) u v h = inr (t, here, h)
root_held (takes {l} L R) u v h = inl (u + span l, mem_right (taken_in u (u + span l) L) here)

module _ {l r : Tree} (L : Cut l) (R : Cut r) (u v : ℕ) where
  abbrev m : ℕ
  m = u + span l

  abbrev T : List Triangle
  T = taken_in u v (takes L R)

  held_left : (e : Edge) → Covered L u m e → Covered (takes L R) u v e
  unfolding taken_in hung_in
  held_left e (inl (x, k)) = inl (x, mem_left _ k)
  held_left e (inr (s, k, j)) = inr (s, mem_left _ k, j)

  held_right : (e : Edge) → Covered R m v e → Covered (takes L R) u v e
  unfolding taken_in hung_in
  held_right e (inl (x, k)) = inl (x, mem_right (taken_in u m L) (there k))
  held_right e (inr (s, k, j)) = inr (s, mem_right (hung_in u L) k, j)

  under_left : (e : Edge) → Under L u m e → Outer T e
  unfolding taken_in
  under_left e (inl (x, inl k)) = (x, inl (mem_left _ k))
  under_left e (inl (x, inr k)) = (x, inr (mem_left _ k))
  under_left e (inr q) = subst (λ f. Outer T f) (sym q) (v, inl (mem_right (taken_in u m L) here))

  under_right : (e : Edge) → Under R m v e → Outer T e
  unfolding taken_in
  under_right e (inl (x, inl k)) = (x, inl (mem_right (taken_in u m L) (there k)))
  under_right e (inl (x, inr k)) = (x, inr (mem_right (taken_in u m L) (there k)))
  under_right e (inr q) = subst (λ f. Outer T f) (sym q) (u, inr (mem_right (taken_in u m L) here))

-- both lower edges of each triangle are held
each_held : {t : Tree} (c : Cut t) (u v : ℕ) → u + span t ≡ v → All (λ x. Covered c u v (x.0 — x.1) × Covered c u v (x.1 — x.2)) (taken_in u v c)
unfolding span taken_in
each_held hangs u v h = all_nil
each_held (takes {l} {r} L R) u v h =
    let m : ℕ = u + span l in
    let i : m + span r ≡ v = omega arith in
    all_append (all_imp (λ x k. (held_left L R u v _ k.0, held_left L R u v _ k.1)) (each_held L u m refl))
    (all_cons {x = (u, m, v)} (held_left L R u v _ (root_held L u m refl), held_right L R u v _ (root_held R m v i))
    (all_imp (λ x k. (held_right L R u v _ k.0, held_right L R u v _ k.1)) (each_held R m v i)))

-- each triangle and each hung piece is under a triangle, or stands on the root edge
each_under : {t : Tree} (c : Cut t) (u v : ℕ) → u + span t ≡ v → All (λ x. Under c u v (x.0 — x.2)) (taken_in u v c)
unfolding span taken_in
each_under hangs u v h = all_nil
each_under (takes {l} L R) u v h =
    all_append (all_imp (λ x k. inl (under_left L R u v _ k)) (each_under L u _ refl))
    (all_cons {x = (u, u + span l, v)} (inr refl) (all_imp (λ x k. inl (under_right L R u v _ k)) (each_under R (u + span l) v (omega arith))))

hung_outer : {l r : Tree} (L : Cut l) (R : Cut r) (u v : ℕ) → All (λ s. Under L u (u + span l) (foot s)) (hung_in u L) → All (λ s. Under R (u + span l) v (foot s)) (hung_in (u + span l) R)
    → All (λ s. Outer (taken_in u v (takes L R)) (foot s)) (hung_in u (takes L R))
unfolding hung_in
hung_outer L R u v a b = all_append (all_imp (λ s k. under_left L R u v _ k) a) (all_imp (λ s k. under_right L R u v _ k) b)

hung_under : {t : Tree} (c : Cut t) (u v : ℕ) → u + span t ≡ v → All (λ s. Under c u v (foot s)) (hung_in u c)
unfolding span hung_in
hung_under hangs u v h = all_cons (inr (ap (λ w. u — w) h)) all_nil
hung_under (takes {l} L R) u v h = all_imp (λ s k. inl k) (hung_outer L R u v (hung_under L u _ refl) (hung_under R (u + span l) v (omega arith)))

-- no triangle stands on the edge of a hung piece
mem_around : {A : Type 0} {x y : A} (a : List A) {b : List A} → Mem x (a ++ (y ∷ b)) → Mem x a ⊎ ((x ≡ y) ⊎ Mem x b)
mem_around [] (head e) = inr (inl e)
mem_around [] (tail k) = inr (inr k)
mem_around (z ∷ a) (head e) = inl (head e)
mem_around (z ∷ a) (tail k) = elim (mem_around a k) [ inl i ↦ inl (tail i) | inr o ↦ inr o ]

never_both : {t : Tree} (c : Cut t) (u v : ℕ) → u + span t ≡ v → All (λ s. ¬ Inner (taken_in u v c) (foot s)) (hung_in u c)
unfolding span taken_in hung_in
never_both hangs u v h = all_cons (λ i. not_empty i.1) all_nil
never_both (takes {l} {r} L R) u v h =
    let m : ℕ = u + span l in
    let i : m + span r ≡ v = omega arith in
    all_append
    (all_both (λ s a f (x, k). elim (mem_around (taken_in u m L) k) [
      | inl j ↦ f (x, j)
      | inr o ↦ elim o [
        | inl q ↦ omega (arith, ap (λ (z : Triangle). z.2) q, piece_lies a, span_pos r)
        | inr j ↦ omega (arith, all_mem (taken_in_lem R m v i) j, piece_lies a)
      ]
    ]) (hung_pieces L u) (never_both L u m refl))
    (all_both (λ s a f (x, k). elim (mem_around (taken_in u m L) k) [
      | inl j ↦ omega (arith, all_mem (taken_in_lem L u m refl) j, piece_lies a)
      | inr o ↦ elim o [
        | inl q ↦ omega (arith, ap (λ (z : Triangle). z.0) q, piece_lies a, span_pos l)
        | inr j ↦ f (x, j)
      ]
    ]) (hung_pieces R m) (never_both R m v i))

-- the border of the upper part
module _ {l r : Tree} (L : Cut l) (R : Cut r) (u v : ℕ) (h : u + span (node l r) ≡ v) (e : Edge) where
  not_root : Outer (taken_in u v (takes L R)) e → e ≢ (u — v)
  not_root (x, inl k) q = omega (arith, all_mem (taken_in_lem (takes L R) u v h) k, high_of q)
  not_root (x, inr k) q = omega (arith, all_mem (taken_in_lem (takes L R) u v h) k, low_of q)

  on_border : Border (taken_in u v (takes L R)) (u — v) e → Carries (hung_in u (takes L R)) e
  on_border (ne, inl ((x, k), f)) = elim (all_mem (each_under (takes L R) u v h) k) [ inl o ↦ absurd (f o) | inr q ↦ absurd (ne q) ]
  on_border (ne, inr ((x, inl k), f)) = elim (all_mem (each_held (takes L R) u v h) k).0 [ inl i ↦ absurd (f i) | inr c ↦ c ]
  on_border (ne, inr ((x, inr k), f)) = elim (all_mem (each_held (takes L R) u v h) k).1 [ inl i ↦ absurd (f i) | inr c ↦ c ]

  of_border : Carries (hung_in u (takes L R)) e → Border (taken_in u v (takes L R)) (u — v) e
  unfolding span
  of_border (s, k, j) =
      let O : Outer (taken_in u v (takes L R)) e = rw (sym j) (all_mem (hung_outer L R u v (hung_under L u _ refl) (hung_under R (u + span l) v (omega arith))) k) in
      (not_root O, inr (O, rw (sym j) (all_mem (never_both (takes L R) u v h) k)))

-- and so that of the umbrella: the same triangles have the same border
border_same : (xs ys : List Triangle) (root e : Edge) → SameTriangles xs ys → Border xs root e → Border ys root e
border_same xs ys root e (f, g) (ne, b) = (ne, elim b [ inl (i, k) ↦ inl (inner xs ys f i, λ o. k (outer ys xs g o)) | inr (o, k) ↦ inr (outer xs ys f o, λ i. k (inner ys xs g i)) ])
  where
    inner : (xs ys : List Triangle) → Sub xs ys → Inner xs e → Inner ys e
    inner xs ys f (x, k) = (x, f _ k)

    outer : (xs ys : List Triangle) → Sub xs ys → Outer xs e → Outer ys e
    outer xs ys f (x, inl k) = (x, inl (f _ k))
    outer xs ys f (x, inr k) = (x, inr (f _ k))

pub border_hung : {l r : Tree} (p : Plan (node l r)) (u v : ℕ) → u + span (node l r) ≡ v → (e : Edge) → Border (own p u v) (u — v) e ↔ Carries (hung p u) e
unfolding cut hung
border_hung {l} {r} p u v h e = go p (same_own p u v)
  where
    by_cut : (L : Cut l) (R : Cut r) (xs : List Triangle) → SameTriangles xs (taken_in u v (takes L R)) → Border xs (u — v) e ↔ Carries (hung_in u (takes L R)) e
    by_cut L R xs (f, g) = (λ b. on_border L R u v h e (border_same _ _ _ e (f, g) b), λ c. border_same _ _ _ e (g, f) (of_border L R u v h e c))

    go : (p : Plan (node l r)) → SameTriangles (own p u v) (taken_in u v (cut p)) → Border (own p u v) (u — v) e ↔ Carries (hung_in u (cut p)) e
    go (plain A B) s = by_cut _ _ _ s
    go (stem_left G B) s = by_cut _ _ _ s
    go (stem_right A G) s = by_cut _ _ _ s

-- a hung piece is empty, or its edge is a diagonal
leaf_or : (t : Tree) → (t ≡ leaf) ⊎ (1 < span t)
unfolding span
leaf_or leaf = inl refl
leaf_or (node l r) = inr (omega (arith, span_pos l, span_pos r))

foot_in : {u : ℕ} {t : Tree} (es : List Edge) → Sub (chords u t) es → (s : ℕ × Tree) → Piece s.0 s.1 u t → (s.1 ≡ leaf) ⊎ Mem (foot s) es
foot_in es f s a = elim (leaf_or s.1) [ inl e ↦ inl e | inr h ↦ inr (f _ (piece_chords a _ (root_of s.0 s.1 h))) ]

feet : {l r : Tree} (L : Cut l) (R : Cut r) (u : ℕ) → All (λ s. (s.1 ≡ leaf) ⊎ Mem (foot s) (inner u (node l r))) (hung_in u (takes L R))
unfolding hung_in
feet {l} {r} L R u = all_append (all_imp (foot_in _ (inner_left u l r)) (hung_pieces L u)) (all_imp (foot_in _ (inner_right u l r)) (hung_pieces R (u + span l)))

hung_feet : {t : Tree} (p : Plan t) (u : ℕ) → All (λ s. (s.1 ≡ leaf) ⊎ Mem (foot s) (inner u t)) (hung p u)
unfolding cut hung hung_in
hung_feet none u = all_cons (inl refl) all_nil
hung_feet (plain A B) u = feet (cut_left A) (cut_right B) u
hung_feet (stem_left G B) u = feet (cut_left_gate G) (cut_right B) u
hung_feet (stem_right A G) u = feet (cut_left A) (cut_right_gate G) u

pub hung_diagonal : (n : ℕ) (ds : List Edge) → Triangulated n ds → {u : ℕ} {t : Tree} → PieceOf n ds u t → (p : Plan t) (s : ℕ × Tree) → Mem s (hung p u)
    → PieceOf n ds s.0 s.1 × ((s.1 ≡ leaf) ⊎ Mem (foot s) ds)
unfolding hung
hung_diagonal n ds P {u} a p s k = (
  piece_of_piece (all_mem (hung_pieces (cut p) u) k) a,
  elim (all_mem (hung_feet p u) k) [ inl e ↦ inl e | inr i ↦ inr (inner_diagonal n ds P a _ i) ],
)

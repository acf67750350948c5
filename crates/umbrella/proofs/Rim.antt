-- The rim of a piece, as its tree gives it, is every corner strictly between u and v that is joined to u or v (`rim_joined`), ascending;
-- and its corner c is the only one joined to both (`apex_joined`). Rests on where the edges of a piece lie (`touch_cases` of the crate polygon).
use mathlib.Core.Path.{◌≡◌, refl, sym}
use mathlib.Core.Logic.{◌⊎◌, inl, inr, ◌↔◌}
use mathlib.Core.List.{List, [], ◌∷◌, ◌++◌}
use Prim.Native.Nat.{ℕ, ◌+◌, ◌≤◌, ◌<◌}
use native.Mathlib.Decide.{dec_lt}
use native.Mathlib.Nat.{add_assoc}
use native.Mathlib.Omega.{arith}
use Rattle.lists.specs.Lists.{All, Mem, Sorted, all_cons, all_nil, head, sorted_cons, sorted_nil, tail}
use Rattle.lists.proofs.Lists.{all_append, all_imp, all_left, all_mem, mem_left, mem_right, not_empty, sorted_append, there}
use Rattle.polygon.specs.Polygon.{Edge, Triangulated, Linked}
use Rattle.polygon.specs.Tree.{Tree, leaf, node, span, chords, PieceOf}
use Rattle.polygon.proofs.Chords.{span_pos}
use Rattle.polygon.proofs.Triangle.{JoinedIn, go_left, go_right, touch_left, touch_right, links_free}
use Rattle.polygon.proofs.PieceTheorem.{touch_cases, left_piece, right_piece, joined, root_joined}
use Rattle.umbrella.specs.Rim.{rim_below, rim_above, rim}

-- the corners of the piece t, on u to v, that are joined to its lower corner, and those that are joined to its higher one
abbrev Low : ℕ → ℕ → Tree → ℕ → Type 0
Low u v t x = (u < x) × (x < v) × JoinedIn (chords u t) u x

abbrev High : ℕ → ℕ → Tree → ℕ → Type 0
High u v t x = (u < x) × (x < v) × JoinedIn (chords u t) x v

-- each corner of the rim is so joined
below_in : (u v : ℕ) (t : Tree) → u + span t ≡ v → All (Low u v t) (rim_below u t)
unfolding span rim_below
below_in u v leaf h = all_nil
below_in u v (node a b) h =
    let p = span_pos b in
    all_append (all_imp (λ x k. (k.0, omega arith, go_left u a b u x k.2)) (below_in u (u + span a) a refl))
    (all_cons {x = u + span a} (omega (arith, span_pos a), omega arith, touch_left u a b) all_nil)

above_in : (u v : ℕ) (t : Tree) → u + span t ≡ v → All (High u v t) (rim_above u t)
unfolding span rim_above
above_in u v leaf h = all_nil
above_in u v (node a b) h =
    let p = span_pos a in
    all_cons {x = u + span a} (omega arith, omega (arith, span_pos b), rw h at (touch_right u a b))
    (all_imp (λ x k. (omega arith, k.1, go_right u a b x v k.2)) (above_in (u + span a) v b (omega arith)))

-- and each corner so joined is on the rim: an edge of the piece from its lower corner that ends short of v ends in the left piece, or at c
below_mem : (u : ℕ) (t : Tree) (x : ℕ) → Low u (u + span t) t x → Mem x (rim_below u t)
unfolding span rim_below
below_mem u leaf x (h, k, t) = absurd (omega arith)
below_mem u (node a b) x (h, k, t) = elim (touch_cases u a b u x t) [
  | inl w ↦ elim (dec_lt x (u + span a)) [ yes i ↦ mem_left _ (below_mem u a x (h, i, w.1)) | no i ↦ mem_right (rim_below u a) (head {x = u + span a} (omega (arith, w.0))) ]
  | inr o ↦ absurd (elim o [ inl w ↦ omega (arith, w.0, span_pos a) | inr w ↦ omega (arith, w.1) ])
]

above_mem : (u v : ℕ) (t : Tree) (x : ℕ) → u + span t ≡ v → High u v t x → Mem x (rim_above u t)
unfolding span rim_above
above_mem u v leaf x e (h, k, t) = absurd (omega arith)
above_mem u v (node a b) x e (h, k, t) = elim (touch_cases u a b x v t) [
  | inl w ↦ absurd (omega (arith, w.0, span_pos b))
  | inr o ↦ elim o [
    | inl w ↦ elim (dec_lt (u + span a) x) [ yes i ↦ there (above_mem (u + span a) v b x (omega arith) (i, k, w.1)) | no i ↦ head {x = u + span a} (omega (arith, w.0)) ]
    | inr w ↦ absurd (omega (arith, w.0))
  ]
]

-- a list that goes on
mem_on : {x : ℕ} (c : ℕ) (xs ys : List ℕ) → Mem x (xs ++ (c ∷ [])) → Mem x (xs ++ (c ∷ ys))
mem_on c [] ys (head e) = head e
mem_on c [] ys (tail m) = absurd (not_empty m)
mem_on c (y ∷ xs) ys (head e) = head e
mem_on c (y ∷ xs) ys (tail m) = tail (mem_on c xs ys m)

-- the rim is the corners joined to u, c the last of them, and those joined to v, c the first of them
abbrev OnRim : (ℕ → ℕ → Type 0) → ℕ → ℕ → ℕ → Type 0
OnRim J u v x = (u < x) × (x < v) × (J u x ⊎ J x v)

rim_in : (u : ℕ) (t : Tree) → All (OnRim (JoinedIn (chords u t)) u (u + span t)) (rim u t)
unfolding span rim rim_below rim_above
rim_in u leaf = all_nil
rim_in u (node l r) =
    let v : ℕ = u + (span l + span r) in
    all_append (all_left (rim_below u l) _ (all_imp (λ x k. (k.0, k.1, inl k.2)) (below_in u v (node l r) refl)))
    (all_imp (λ x k. (k.0, k.1, inr k.2)) (above_in u v (node l r) refl))

rim_mem : (u : ℕ) (t : Tree) (x : ℕ) → OnRim (JoinedIn (chords u t)) u (u + span t) x → Mem x (rim u t)
unfolding span rim rim_below rim_above
rim_mem u leaf x (h, k, t) = absurd (omega arith)
rim_mem u (node l r) x (h, k, inl t) = mem_on (u + span l) (rim_below u l) _ (below_mem u (node l r) x (h, k, t))
rim_mem u (node l r) x (h, k, inr t) = mem_right (rim_below u l) (above_mem u _ (node l r) x refl (h, k, t))

-- it ascends
below_ascends : (u : ℕ) (t : Tree) → Sorted ◌<◌ (rim_below u t)
unfolding rim_below
below_ascends u leaf = sorted_nil
below_ascends u (node a b) =
    sorted_append {P = λ x. x < u + span a} {Q = λ x. x ≡ u + span a} (λ x y h k. omega arith) (below_ascends u a) (sorted_cons all_nil sorted_nil)
    (all_imp (λ x h. h.1) (below_in u _ a refl)) (all_cons refl all_nil)

above_ascends : (u : ℕ) (t : Tree) → Sorted ◌<◌ (rim_above u t)
unfolding rim_above
above_ascends u leaf = sorted_nil
above_ascends u (node a b) = sorted_cons (all_imp (λ x h. h.0) (above_in (u + span a) _ b refl)) (above_ascends (u + span a) b)

pub rim_ascends : (u : ℕ) (t : Tree) → Sorted ◌<◌ (rim u t)
unfolding rim
rim_ascends u leaf = sorted_nil
rim_ascends u (node l r) =
    let c : ℕ = u + span l in
    sorted_append {P = λ x. x < c} {Q = λ x. c ≤ x}
    (λ x y h k. omega arith)
    (below_ascends u l)
    (sorted_cons (all_imp (λ x h. h.0) (above_in c _ r refl)) (above_ascends c r))
    (all_imp (λ x h. h.1) (below_in u c l refl))
    (all_cons (omega arith) (all_imp (λ x h. omega (arith, h.0)) (above_in c _ r refl)))

-- of a triangulated polygon
module _ (n : ℕ) (ds : List Edge) (P : Triangulated n ds) where
  pub rim_joined : {u : ℕ} {t : Tree} → PieceOf n ds u t → (x : ℕ) → Mem x (rim u t) ↔ OnRim (Linked n ds) u (u + span t) x
  rim_joined {u} {t} a x = (λ m. forth (all_mem (rim_in u t) m), λ k. rim_mem u t x (back k))
    where
      forth : OnRim (JoinedIn (chords u t)) u (u + span t) x → OnRim (Linked n ds) u (u + span t) x
      forth (h, k, inl j) = (h, k, inl ((joined n ds P a u x (omega arith) h (omega arith)).0 j))
      forth (h, k, inr j) = (h, k, inr ((joined n ds P a x (u + span t) (omega arith) k (omega arith)).0 j))

      back : OnRim (Linked n ds) u (u + span t) x → OnRim (JoinedIn (chords u t)) u (u + span t) x
      back (h, k, inl j) = (h, k, inl ((joined n ds P a u x (omega arith) h (omega arith)).1 j))
      back (h, k, inr j) = (h, k, inr ((joined n ds P a x (u + span t) (omega arith) k (omega arith)).1 j))

  -- c is joined to both, and no other corner between u and v is: an edge from u past c would cross (c,v), one from below c to v would cross (u,c)
  pub apex_joined : {u : ℕ} {l r : Tree} → PieceOf n ds u (node l r) → (x : ℕ) → (Mem x (rim u (node l r)) × Linked n ds u x × Linked n ds x (u + span (node l r))) ↔ (x ≡ u + span l)
  unfolding span
  apex_joined {u} {l} {r} a x = (forth, back)
    where
      L : Linked n ds u (u + span l)
      L = root_joined n ds P (left_piece a)

      R : Linked n ds (u + span l) (u + (span l + span r))
      R = rw (sym (add_assoc u (span l) (span r))) (root_joined n ds P (right_piece a))

      forth : Mem x (rim u (node l r)) × Linked n ds u x × Linked n ds x (u + (span l + span r)) → x ≡ u + span l
      forth (m, j, k) = go (dec_lt x (u + span l)) (dec_lt (u + span l) x)
        where
          go : Dec (x < u + span l) → Dec (u + span l < x) → x ≡ u + span l
          go (yes h) i = absurd (links_free n ds P _ _ _ _ L k (omega (arith, ((rim_joined a x).0 m).0, span_pos r)))
          go (no h) (yes i) = absurd (links_free n ds P _ _ _ _ j R (omega (arith, ((rim_joined a x).0 m).1, span_pos l)))
          go (no h) (no i) = omega arith

      back : x ≡ u + span l → Mem x (rim u (node l r)) × Linked n ds u x × Linked n ds x (u + (span l + span r))
      back e = rw e ((rim_joined a (u + span l)).1 (omega (arith, span_pos l), omega (arith, span_pos r), inl L), L, R)

-- Chords of the corners u .. v of which no two cross: at most v - u - 1 of them, and with so many they are those of a tree.
-- By the farthest corner c below v that u is joined to: nothing but the root edge passes over c, so what lies left of c and what lies right of c can be counted apart.
use mathlib.Core.Path.{◌≡◌, refl, sym, ◌∙◌}
use mathlib.Core.Logic.Dec
use mathlib.Core.Logic.{◌⊎◌, inl, inr}
use mathlib.Core.List.{List, [], ◌∷◌}
use Prim.Native.Nat.{ℕ, zero, suc, ◌+◌, ◌≤◌, ◌<◌}
use native.Mathlib.Decide.{dec_le, dec_lt}
use native.Mathlib.Omega.{arith}
use lib.ListN.{length}
use Rattle.lists.specs.Lists.{All, Mem, Sub, all_cons, keep}
use Rattle.lists.proofs.Lists.{all_both, all_imp, all_mem, all_of, count3, keep_all, keep_mem, keep_sorted, keep_sub, keep_test, once, sorted_same}
use Rattle.polygon.specs.Polygon.{Edge, ◌—◌, Ascending, NoneCross}
use Rattle.polygon.specs.Tree.{Tree, leaf, node, span, chords_at, chords_past, chords, far}
use Rattle.polygon.proofs.Order.{edge, one_way, first}
use Rattle.polygon.proofs.Far.{Far, far_ok}
use Rattle.polygon.proofs.Chords.{Chord, chords_ascending, inner_left, inner_right, inner_chords, root_in, node_cases, InPieces}

pub record Chords (u v : ℕ) (es : List Edge) : Type 0 where
  pub ascending : Ascending es
  pub within : All (Chord u v) es
  pub none_cross : NoneCross es

-- the chords left of c, right of c, over c
left? : (c : ℕ) (e : Edge) → Dec (e.1 ≤ c)
left? c e = dec_le e.1 c

right? : (c : ℕ) (e : Edge) → Dec (c ≤ e.0)
right? c e = dec_le c e.0

over? : (c : ℕ) (e : Edge) → Dec ((e.0 < c) × (c < e.1))
over? c e = Dec.and (dec_lt e.0 c) (dec_lt c e.1)

abbrev Place : ℕ → Edge → Type 0
Place c e = (e.1 ≤ c) ⊎ ((c ≤ e.0) ⊎ ((e.0 < c) × (c < e.1)))

where_is : (c : ℕ) (e : Edge) → Place c e
where_is c e = go (dec_le e.1 c) (dec_le c e.0)
  where
    go : Dec (e.1 ≤ c) → Dec (c ≤ e.0) → Place c e
    go (yes p) q = inl p
    go (no p) (yes q) = inr (inl q)
    go (no p) (no q) = inr (inr (omega arith))

module _ (u v c : ℕ) (es : List Edge) (C : Chords u v es) (F : Far u v es c) where
  keep_part : {P : Edge → Type 0} (d : (e : Edge) → Dec (P e)) (i j : ℕ) → ((e : Edge) → Chord u v e → P e → Chord i j e) → Chords i j (keep d es)
  keep_part d i j f = record {
    ascending = keep_sorted d C.ascending;
    within = all_both f (keep_all d C.within) (keep_test d es);
    none_cross = keep_all d (all_imp (λ p k. keep_all d k) C.none_cross);
  }

  left_part : Chords u c (keep (left? c) es)
  left_part = keep_part (left? c) u c (λ e h k. omega arith)

  right_part : Chords c v (keep (right? c) es)
  right_part = keep_part (right? c) c v (λ e h k. omega arith)

  -- no chord from a later corner passes over c, and no shorter one from u: what passes over c is the root edge
  clear : (c ≡ suc u) ⊎ Mem (u — c) es → All (λ e. u < e.0 → e.0 < c → c < e.1 → ⊥) es
  clear (inl q) = all_of es (λ e m i j k. omega arith)
  clear (inr m) = all_imp (λ e f i j k. f (omega arith)) (all_mem C.none_cross m)

  root_only : (e : Edge) → Mem e es → (e.0 < c) × (c < e.1) → e ≡ u — v
  root_only e m k = go (all_mem C.within m) (dec_lt u e.0) (dec_lt e.1 v)
    where
      go : Chord u v e → Dec (u < e.0) → Dec (e.1 < v) → e ≡ u — v
      go h (yes p) q = absurd (all_mem (clear F.hit) m p k.0 k.1)
      go h (no p) (yes q) = absurd (omega (arith, all_mem F.most m (omega arith) q))
      go h (no p) (no q) = edge (omega arith) (omega arith)

  roots : All (λ e. e ≡ u — v) (keep (over? c) es)
  roots = all_both (λ e f k. f k) (keep_all (over? c) (all_of es root_only)) (keep_test (over? c) es)

  counted : length es ≤ length (keep (left? c) es) + length (keep (right? c) es) + length (keep (over? c) es)
  counted = count3 (left? c) (right? c) (over? c) es (all_of es (λ e m. where_is c e))

  single : length (keep (over? c) es) ≤ 1
  single = once one_way (u — v) (keep (over? c) es) (keep_sorted (over? c) C.ascending) roots

  has_root : 1 ≤ length (keep (over? c) es) → Mem (u — v) es
  has_root h = keep_sub (over? c) es _ (first (u — v) _ roots h)

-- a tree with these chords
record Found (u v : ℕ) (es : List Edge) : Type 0 where
  tree : Tree
  fits : u + span tree ≡ v
  sound : Sub es (chords u tree)
  complete : Sub (chords u tree) es

record Built (u v : ℕ) (es : List Edge) : Type 0 where
  bound : u + length es < v
  found : v ≤ suc (u + length es) → Found u v es

-- the trees on both sides of c, and the root edge, put together
join : (u v c : ℕ) (es : List Edge) → Found u c (keep (left? c) es) → Found c v (keep (right? c) es) → ((e : Edge) → Mem e es → (e.0 < c) × (c < e.1) → e ≡ u — v) → Mem (u — v) es → Found u v es
unfolding span
join u v c es A B O m = record { tree = node l r; fits = omega (arith, A.fits, B.fits); sound = λ e k. sound e k (where_is c e); complete = λ e k. complete e (node_cases u l r e k) }
  where
    l : Tree
    l = A.tree

    r : Tree
    r = B.tree

    root : u — (u + (span l + span r)) ≡ u — v
    root = edge refl (omega (arith, A.fits, B.fits))

    sound : (e : Edge) → Mem e es → Place c e → Mem e (chords u (node l r))
    sound e k (inl h) = inner_chords u l r e (inner_left u l r e (A.sound e (keep_mem (left? c) es k h)))
    sound e k (inr (inl h)) = inner_chords u l r e (inner_right u l r e (rw A.fits (B.sound e (keep_mem (right? c) es k h))))
    sound e k (inr (inr h)) = rw (O e k h ∙ sym root) (root_in u l r)

    complete : (e : Edge) → (e ≡ u — (u + (span l + span r))) ⊎ InPieces u l r e → Mem e es
    complete e (inl q) = rw (q ∙ root) m
    complete e (inr (inl k)) = keep_sub (left? c) es e (A.complete e k)
    complete e (inr (inr k)) = keep_sub (right? c) es e (B.complete e (rw A.fits at k))

both_sides : (u v c : ℕ) (es : List Edge) → Chords u v es → Far u v es c → Built u c (keep (left? c) es) → Built c v (keep (right? c) es) → Built u v es
both_sides u v c es C F A B =
    let n = counted u v c es C F in
    let o = single u v c es C F in
    record {
      bound = omega arith;
      found = λ h. join u v c es (A.found (omega arith)) (B.found (omega arith)) (root_only u v c es C F) (has_root u v c es C F (omega arith));
    }

-- no chord fits between neighbours
side : (u v : ℕ) (es : List Edge) → u < v → v ≤ suc u → All (Chord u v) es → Built u v es
unfolding chords chords_at chords_past span
side u v [] h k a = record { bound = omega arith; found = λ i. record { tree = leaf; fits = omega arith; sound = λ e m. m; complete = λ e m. m } }
side u v (e ∷ es) h k (all_cons c a) = absurd (omega arith)

build : (n u v : ℕ) (es : List Edge) → u < v → v ≤ u + n → Chords u v es → Built u v es
build zero u v es h k C = absurd (omega arith)
build (suc n) u v es h k C = go (dec_lt (suc u) v) (build n)
  where
    go : Dec (suc u < v) → ((u v : ℕ) (es : List Edge) → u < v → v ≤ u + n → Chords u v es → Built u v es) → Built u v es
    go (yes p) f =
        let c = far u v es in
        let F : Far u v es c = far_ok u v es p in
        both_sides u v c es C F (f u c _ F.above (omega arith) (left_part u v c es C F)) (f c v _ F.below (omega arith) (right_part u v c es C F))
    go (no p) f = side u v es h (omega arith) C.within

pub at_most : (u v : ℕ) (es : List Edge) → u < v → Chords u v es → u + length es < v
at_most u v es h C = (build v u v es h (omega arith) C).bound

pub every : (u v : ℕ) (es : List Edge) → u < v → Chords u v es → suc (u + length es) ≡ v → (t : Tree) × (u + span t ≡ v) × (es ≡ chords u t)
every u v es h C e =
    let F : Found u v es = (build v u v es h (omega arith) C).found (omega arith) in
    (F.tree, F.fits, sorted_same one_way es (chords u F.tree) C.ascending (chords_ascending u F.tree) F.sound F.complete)

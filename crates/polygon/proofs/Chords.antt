-- The chords of a tree: which they are, where they lie, that they ascend, how many there are, and that no two cross.
-- They rest on the laws of lists.
use mathlib.Core.Path.{◌≡◌, refl}
use mathlib.Core.Logic.{◌⊎◌, inl, inr}
use mathlib.Core.List.{List, [], ◌∷◌, ◌++◌}
use Prim.Native.Nat.{ℕ, suc, ◌+◌, ◌≤◌, ◌<◌}
use native.Mathlib.Omega.{arith}
use lib.ListN.{length, length-append}
use Rattle.lists.specs.Lists.{All, Mem, Sub, all_cons, all_nil, sorted_cons, sorted_nil}
use Rattle.lists.proofs.Lists.{all_append, all_both, all_imp, all_left, all_mem, all_right, all_self, not_empty, sorted_append}
use Rattle.polygon.specs.Polygon.{Edge, ◌—◌, Ascending, NoneCross}
use Rattle.polygon.specs.Tree.{Tree, leaf, node, span, chords_at, chords_past, chords, inner}

-- a chord of the corners u .. v, the root edge too
pub record Chord (u v : ℕ) (e : Edge) : Type 0 where
  pub lo : u ≤ e.0
  pub apart : e.0 + 2 ≤ e.1
  pub hi : e.1 ≤ v

pub span_pos : (t : Tree) → 1 ≤ span t
unfolding span
span_pos leaf = omega arith
span_pos (node l r) = let h = span_pos l in omega arith

-- the chords of a piece are those of its left piece, its root edge, and those of its right piece; its inner edges the same without the root edge
module _ (Q : Edge → Type 0) (u : ℕ) (l r : Tree) where
  pub all_node : All Q (chords u l) → Q (u — (u + (span l + span r))) → All Q (chords (u + span l) r) → All Q (chords u (node l r))
  unfolding chords chords_at chords_past
  all_node a q b = all_append (all_append (all_left (chords_at u l) (chords_past u l) a) (all_cons q all_nil)) (all_append (all_right (chords_at u l) a) b)

  pub all_inner : All Q (chords u l) → All Q (chords (u + span l) r) → All Q (inner u (node l r))
  unfolding inner chords chords_past
  all_inner a b = all_append (all_left (chords_at u l) (chords_past u l) a) (all_append (all_right (chords_at u l) a) b)

  -- and back
  pub inner_parts : All Q (inner u (node l r)) → All Q (chords u l) × All Q (chords (u + span l) r)
  unfolding inner chords chords_past
  inner_parts a = let b = all_right (chords_at u l) a in (all_append (all_left (chords_at u l) _ a) (all_left (chords_past u l) _ b), all_right (chords_past u l) b)

  only : {e : Edge} → All Q (e ∷ []) → Q e
  only (all_cons q b) = q

  node_parts : All Q (chords u (node l r)) → Q (u — (u + (span l + span r))) × All Q (inner u (node l r))
  unfolding inner chords chords_at
  node_parts a =
      let s : List Edge = chords_at u l ++ ((u — (u + (span l + span r))) ∷ []) in
      let b = all_left s _ a in
      (only (all_right (chords_at u l) b), all_append (all_left (chords_at u l) _ b) (all_right s a))

module _ (u : ℕ) (l r : Tree) where
  pub inner_left : Sub (chords u l) (inner u (node l r))
  inner_left e m = all_mem (inner_parts _ u l r (all_self (inner u (node l r)))).0 m

  pub inner_right : Sub (chords (u + span l) r) (inner u (node l r))
  inner_right e m = all_mem (inner_parts _ u l r (all_self (inner u (node l r)))).1 m

  pub inner_chords : Sub (inner u (node l r)) (chords u (node l r))
  inner_chords e m = all_mem (node_parts _ u l r (all_self (chords u (node l r)))).1 m

  pub root_in : Mem (u — (u + (span l + span r))) (chords u (node l r))
  root_in = (node_parts _ u l r (all_self (chords u (node l r)))).0

  abbrev pub InPieces : Edge → Type 0
  InPieces e = Mem e (chords u l) ⊎ Mem e (chords (u + span l) r)

  pub node_cases : (e : Edge) → Mem e (chords u (node l r)) → (e ≡ u — (u + (span l + span r))) ⊎ InPieces e
  node_cases e m = all_mem (all_node (λ x. (x ≡ u — (u + (span l + span r))) ⊎ InPieces x) u l r (all_imp (λ x k. inr (inl k)) (all_self (chords u l))) (inl refl) (all_imp (λ x k. inr (inr k)) (all_self (chords (u + span l) r)))) m

pub inner_sub : (u : ℕ) (t : Tree) → Sub (inner u t) (chords u t)
unfolding inner
inner_sub u leaf e m = absurd (not_empty m)
inner_sub u (node l r) e m = inner_chords u l r e m

-- where they lie
pub chords_in : (u : ℕ) (t : Tree) → All (Chord u (u + span t)) (chords u t)
unfolding span chords chords_at chords_past
chords_in u leaf = all_nil
chords_in u (node l r) =
    let p = span_pos l in
    let q = span_pos r in
    all_node _ u l r (all_imp (λ e h. omega arith) (chords_in u l)) (omega arith) (all_imp (λ e h. omega arith) (chords_in (u + span l) r))

pub root_of : (u : ℕ) (t : Tree) → 1 < span t → Mem (u — (u + span t)) (chords u t)
unfolding span
root_of u leaf h = absurd (omega arith)
root_of u (node l r) h = root_in u l r

-- they ascend
at_in : (u : ℕ) (t : Tree) → All (λ e. (e.0 ≡ u) × (e.1 ≤ u + span t)) (chords_at u t)
unfolding chords_at span
at_in u leaf = all_nil
at_in u (node l r) = all_append (all_imp (λ e h. omega arith) (at_in u l)) (all_cons (omega arith) all_nil)

past_in : (u : ℕ) (t : Tree) → All (λ e. (u < e.0) × (e.0 < u + span t)) (chords_past u t)
unfolding chords_past span
past_in u leaf = all_nil
past_in u (node l r) =
    let p = span_pos l in
    let q = span_pos r in
    all_append (all_imp (λ e h. omega arith) (past_in u l)) (all_append (all_imp (λ e h. omega arith) (at_in (u + span l) r)) (all_imp (λ e h. omega arith) (past_in (u + span l) r)))

at_ascending : (u : ℕ) (t : Tree) → Ascending (chords_at u t)
unfolding chords_at
at_ascending u leaf = sorted_nil
at_ascending u (node l r) =
    sorted_append {Q = λ e. (e.0 ≡ u) × (e.1 ≡ u + (span l + span r))}
    (λ p q h k. inr (omega arith, omega (arith, span_pos r)))
    (at_ascending u l) (sorted_cons all_nil sorted_nil) (at_in u l) (all_cons (refl, refl) all_nil)

-- first those at u, then those at later corners
at_then_past : (u : ℕ) {P Q : Edge → Type 0} {xs ys : List Edge} → Ascending xs → Ascending ys → All (λ e. (e.0 ≡ u) × P e) xs → All (λ e. (u < e.0) × Q e) ys → Ascending (xs ++ ys)
at_then_past u {P} {Q} s t a b = sorted_append {P = λ e. (e.0 ≡ u) × P e} {Q = λ e. (u < e.0) × Q e} (λ p q h k. inl (omega (arith, h.0, k.0))) s t a b

past_ascending : (u : ℕ) (t : Tree) → Ascending (chords_past u t)
unfolding chords_past
past_ascending u leaf = sorted_nil
past_ascending u (node l r) =
    let c : ℕ = u + span l in
    sorted_append {P = λ e. (u < e.0) × (e.0 < c)} {Q = λ e. c ≤ e.0}
    (λ p q h k. inl (omega arith))
    (past_ascending u l)
    (at_then_past c (at_ascending c r) (past_ascending c r) (at_in c r) (past_in c r))
    (past_in u l)
    (all_append (all_imp (λ e h. omega arith) (at_in c r)) (all_imp (λ e h. omega arith) (past_in c r)))

pub chords_ascending : (u : ℕ) (t : Tree) → Ascending (chords u t)
unfolding chords
chords_ascending u t = at_then_past u (at_ascending u t) (past_ascending u t) (at_in u t) (past_in u t)

pub inner_ascending : (u : ℕ) (t : Tree) → Ascending (inner u t)
unfolding inner
inner_ascending u leaf = sorted_nil
inner_ascending u (node l r) = at_then_past u (at_ascending u l) (past_ascending u (node l r)) (at_in u l) (past_in u (node l r))

-- how many
count : (u : ℕ) (t : Tree) → suc (length (chords_at u t) + length (chords_past u t)) ≡ span t
unfolding chords_at chords_past span
count u leaf = refl
count u (node l r) =
    let h = count u l in
    let k = count (u + span l) r in
    simp length-append (omega arith)

pub inner_count : (u : ℕ) (l r : Tree) → length (inner u (node l r)) + 2 ≡ span (node l r)
unfolding inner chords_at
inner_count u l r = simp length-append (omega (arith, simp length-append at (count u (node l r))))

-- no two cross
pub chords_free : (u : ℕ) (t : Tree) → NoneCross (chords u t)
unfolding chords chords_at chords_past
chords_free u leaf = all_nil
chords_free u (node l r) =
    let c : ℕ = u + span l in
    let A : All (Chord u c) (chords u l) = chords_in u l in
    let B : All (Chord c (c + span r)) (chords c r) = chords_in c r in
    all_node _ u l r
    (all_both (λ p h k. all_node _ u l r k (λ x. omega arith) (all_imp (λ q j x. omega arith) B)) A (chords_free u l))
    (all_node _ u l r (all_imp (λ q j x. omega arith) A) (λ x. omega arith) (all_imp (λ q j x. omega arith) B))
    (all_both (λ p h k. all_node _ u l r (all_imp (λ q j x. omega arith) A) (λ x. omega arith) k) B (chords_free c r))

-- The triangles at an edge: every diagonal of a triangulated polygon has a corner on each side of it that is joined to both its ends, and so has the root edge on its one side.
-- And joined pairs of corners never cross. Both are read off the polygon's tree.
use mathlib.Core.Path.{◌≡◌, sym}
use mathlib.Core.Logic.{◌⊎◌, inl, inr}
use mathlib.Core.List.{List}
use Prim.Native.Nat.{ℕ, suc, ◌+◌, ◌-◌, ◌≤◌, ◌<◌}
use native.Mathlib.Decide.{dec_lt}
use native.Mathlib.Nat.{add_assoc}
use native.Mathlib.Omega.{arith}
use Rattle.lists.specs.Lists.{All, Mem, Sub, all_nil}
use Rattle.lists.proofs.Lists.{all_imp, all_mem, not_empty}
use Rattle.polygon.specs.Polygon.{Edge, ◌—◌, Cross, Diagonal, Triangulated, Linked}
use Rattle.polygon.specs.Tree.{Tree, leaf, node, span, chords_at, chords_past, chords, inner, tree_of}
use Rattle.polygon.proofs.Order.{edge, low_of, high_of}
use Rattle.polygon.proofs.Chords.{Chord, span_pos, chords_in, all_node, all_inner, inner_parts, inner_left, inner_right, inner_chords, inner_sub, root_in, root_of, node_cases, InPieces}
use Rattle.polygon.proofs.TreeTheorem.{root, TreeIs, tree_of_lem}

-- c is joined to both ends of the edge, and lies between them, above them, below them; J says which corners are joined
pub record ApexWithin (J : ℕ → ℕ → Type 0) (e : Edge) (c : ℕ) : Type 0 where
  pub above : e.0 < c
  pub below : c < e.1
  pub left : J e.0 c
  pub right : J c e.1

pub record Beyond (J : ℕ → ℕ → Type 0) (e : Edge) (c : ℕ) : Type 0 where
  pub above : e.1 < c
  pub left : J e.0 c
  pub right : J e.1 c

pub record Ahead (J : ℕ → ℕ → Type 0) (e : Edge) (c : ℕ) : Type 0 where
  pub below : c < e.0
  pub left : J c e.0
  pub right : J c e.1

abbrev pub ApexOutside : (ℕ → ℕ → Type 0) → Edge → ℕ → Type 0
ApexOutside J e c = Beyond J e c ⊎ Ahead J e c

abbrev pub SomeCorner : (ℕ → Type 0) → Type 0
SomeCorner P = (c : ℕ) × P c

module _ (J K : ℕ → ℕ → Type 0) (f : (p q : ℕ) → J p q → K p q) where
  within_imp : (e : Edge) → SomeCorner (ApexWithin J e) → SomeCorner (ApexWithin K e)
  within_imp e (c, w) = (c, record { above = w.above; below = w.below; left = f _ _ w.left; right = f _ _ w.right })

  outer_imp : (e : Edge) → SomeCorner (ApexOutside J e) → SomeCorner (ApexOutside K e)
  outer_imp e (c, inl w) = (c, inl (record { above = w.above; left = f _ _ w.left; right = f _ _ w.right }))
  outer_imp e (c, inr w) = (c, inr (record { below = w.below; left = f _ _ w.left; right = f _ _ w.right }))

-- joined in a piece: neighbours, or an edge of it
abbrev pub JoinedIn : List Edge → ℕ → ℕ → Type 0
JoinedIn es p q = (q ≡ suc p) ⊎ Mem (p — q) es

touch_sub : (xs ys : List Edge) → Sub xs ys → (p q : ℕ) → JoinedIn xs p q → JoinedIn ys p q
touch_sub xs ys f p q (inl e) = inl e
touch_sub xs ys f p q (inr m) = inr (f _ m)

pub touch_root : (u : ℕ) (t : Tree) → JoinedIn (chords u t) u (u + span t)
touch_root u t = go (dec_lt 1 (span t))
  where
    go : Dec (1 < span t) → JoinedIn (chords u t) u (u + span t)
    go (yes h) = inr (root_of u t h)
    go (no h) = inl (omega (arith, span_pos t))

module _ (u : ℕ) (l r : Tree) where
  pub go_left : (p q : ℕ) → JoinedIn (chords u l) p q → JoinedIn (chords u (node l r)) p q
  go_left = touch_sub _ _ (λ e m. inner_chords u l r e (inner_left u l r e m))

  pub go_right : (p q : ℕ) → JoinedIn (chords (u + span l) r) p q → JoinedIn (chords u (node l r)) p q
  go_right = touch_sub _ _ (λ e m. inner_chords u l r e (inner_right u l r e m))

  pub touch_left : JoinedIn (chords u (node l r)) u (u + span l)
  touch_left = go_left _ _ (touch_root u l)

  pub touch_right : JoinedIn (chords u (node l r)) (u + span l) (u + (span l + span r))
  touch_right = rw (sym (add_assoc u (span l) (span r))) (go_right _ _ (touch_root (u + span l) r))

all_chords : (Q : Edge → Type 0) (u : ℕ) (t : Tree) → All Q (inner u t) → Q (u — (u + span t)) → All Q (chords u t)
unfolding chords chords_at chords_past span
all_chords Q u leaf a q = all_nil
all_chords Q u (node l r) a q = let (x, y) = inner_parts Q u l r a in all_node Q u l r x q y

inside : (u : ℕ) (t : Tree) → All (λ e. SomeCorner (ApexWithin (JoinedIn (chords u t)) e)) (chords u t)
unfolding chords chords_at chords_past
inside u leaf = all_nil
inside u (node l r) = all_node _ u l r
    (all_imp (within_imp _ _ (go_left u l r)) (inside u l))
    (u + span l, record { above = omega (arith, span_pos l); below = omega (arith, span_pos r); left = touch_left u l r; right = touch_right u l r })
    (all_imp (within_imp _ _ (go_right u l r)) (inside (u + span l) r))

outside : (u : ℕ) (t : Tree) → All (λ e. SomeCorner (ApexOutside (JoinedIn (chords u t)) e)) (inner u t)
unfolding inner
outside u leaf = all_nil
outside u (node l r) =
    let x : JoinedIn (chords u (node l r)) u (u + (span l + span r)) = inr (root_in u l r) in
    all_inner _ u l r
    (all_chords _ u l (all_imp (outer_imp _ _ (go_left u l r)) (outside u l))
    (u + (span l + span r), inl (record { above = omega (arith, span_pos r); left = x; right = touch_right u l r })))
    (all_chords _ (u + span l) r (all_imp (outer_imp _ _ (go_right u l r)) (outside (u + span l) r))
    (u, inr (record { below = omega (arith, span_pos l); left = touch_left u l r; right = rw (add_assoc u (span l) (span r)) x })))

chords_cases : (u : ℕ) (t : Tree) (e : Edge) → Mem e (chords u t) → (e ≡ u — (u + span t)) ⊎ Mem e (inner u t)
unfolding span chords chords_at chords_past
chords_cases u leaf e m = absurd (not_empty m)
chords_cases u (node l r) e m = go (node_cases u l r e m)
  where
    go : (e ≡ u — (u + (span l + span r))) ⊎ InPieces u l r e → (e ≡ u — (u + (span l + span r))) ⊎ Mem e (inner u (node l r))
    go (inl q) = inl q
    go (inr (inl k)) = inr (inner_left u l r e k)
    go (inr (inr k)) = inr (inner_right u l r e k)

-- in a triangulated polygon
module _ (n : ℕ) (ds : List Edge) (P : Triangulated n ds) where
  abbrev t : Tree
  t = tree_of n ds

  T : TreeIs n ds t
  T = tree_of_lem n ds P

  into : (e : Edge) → (e ≡ root n) ⊎ Mem e ds → Mem e (chords 0 t)
  into e (inl q) = let h : n - 1 ≡ 0 + span t = omega (arith, T.size) in rw q (rw h (root_of 0 t (omega (arith, T.size, P.full))))
  into e (inr m) = let k : Mem e (inner 0 t) = rw (sym T.same) at m in inner_sub 0 t e k

  pub link : (p q : ℕ) → q < n → JoinedIn (chords 0 t) p q → Linked n ds p q
  link p q h (inl e) = inl (inl (e, h))
  link p q h (inr m) = go (chords_cases 0 t _ m)
    where
      go : ((p — q) ≡ 0 — (0 + span t)) ⊎ Mem (p — q) (inner 0 t) → Linked n ds p q
      go (inl e) = inl (inr (low_of e, omega (arith, high_of e, T.size)))
      go (inr k) = inr (rw T.same at k)

  pub touch : (p q : ℕ) → Linked n ds p q → JoinedIn (chords 0 t) p q
  touch p q (inl (inl e)) = inl e.0
  touch p q (inl (inr e)) = inr (into (p — q) (inl (edge e.0 (omega (arith, e)))))
  touch p q (inr m) = inr (into (p — q) (inr m))

  -- the third corner of the triangle below an edge, the root edge too
  pub triangle : (e : Edge) → (e ≡ root n) ⊎ Mem e ds → SomeCorner (ApexWithin (Linked n ds) e)
  triangle e m = let k = into e m in go (all_mem (chords_in 0 t) k) (all_mem (inside 0 t) k)
    where
      go : Chord 0 (0 + span t) e → SomeCorner (ApexWithin (JoinedIn (chords 0 t)) e) → SomeCorner (ApexWithin (Linked n ds) e)
      go h (c, w) = (c, record { above = w.above; below = w.below; left = link _ _ (omega (arith, w.below, T.size)) w.left; right = link _ _ (omega (arith, T.size)) w.right })

  -- and that of the triangle above a diagonal
  top_corner : (p q : ℕ) → p + 2 ≤ q → JoinedIn (chords 0 t) p q → q < n
  top_corner p q h (inl e) = absurd (omega arith)
  top_corner p q h (inr m) = let k = all_mem (chords_in 0 t) m in omega (arith, T.size)

  pub opposite : (e : Edge) → Mem e ds → SomeCorner (ApexOutside (Linked n ds) e)
  opposite e m = go (all_mem P.diagonals m) (all_mem (outside 0 t) (rw (sym T.same) at m))
    where
      go : Diagonal n e → SomeCorner (ApexOutside (JoinedIn (chords 0 t)) e) → SomeCorner (ApexOutside (Linked n ds) e)
      go h (c, inl w) = let k = top_corner e.0 c (omega (arith, w.above)) w.left in (c, inl (record { above = w.above; left = link _ _ k w.left; right = link _ _ k w.right }))
      go h (c, inr w) = (c, inr (record { below = w.below; left = link _ _ (omega arith) w.left; right = link _ _ (omega arith) w.right }))

  -- joined corners, lower first, and no two such pairs cross
  pub linked_up : (p q : ℕ) → Linked n ds p q → (p < q) × (q < n)
  linked_up p q (inl (inl h)) = omega arith
  linked_up p q (inl (inr h)) = omega (arith, P.full)
  linked_up p q (inr m) = let d = all_mem P.diagonals m in omega arith

  pub links_free : (p q r s : ℕ) → Linked n ds p q → Linked n ds r s → ¬ Cross (p — q) (r — s)
  links_free p q r s (inl (inl h)) k x = omega arith
  links_free p q r s (inl (inr h)) k x = let b = linked_up r s k in omega arith
  links_free p q r s (inr m) (inl (inl h)) x = omega arith
  links_free p q r s (inr m) (inl (inr h)) x = omega arith
  links_free p q r s (inr m) (inr k) x = all_mem (all_mem P.none_cross m) k x

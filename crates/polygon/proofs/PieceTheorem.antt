-- The pieces of a part's tree: the corners of a piece are joined in it exactly if a side or a diagonal of the part joins them (`joined`),
-- and each side and each diagonal is the root edge of one piece (`piece_at`, `piece_is`). Rests on the chords of a tree and on the triangles at an edge.
use mathlib.Core.Path.{◌≡◌, refl, sym}
use mathlib.Core.Logic.{◌⊎◌, inl, inr, ◌↔◌}
use mathlib.Core.List.{List}
use Prim.Native.Nat.{ℕ, suc, ◌+◌, ◌≤◌, ◌<◌}
use native.Mathlib.Decide.{dec_le}
use native.Mathlib.Omega.{arith}
use Rattle.lists.specs.Lists.{Sub}
use Rattle.lists.proofs.Lists.{all_mem}
use Rattle.polygon.specs.Polygon.{Edge, ◌—◌, Triangulated, Linked}
use Rattle.polygon.specs.Tree.{Tree, leaf, node, span, chords, inner, piece, tree_of, Piece, itself, beyond_left, beyond_right, PieceOf}
use Rattle.polygon.proofs.Order.{low_of, high_of}
use Rattle.polygon.proofs.Chords.{span_pos, chords_in, inner_left, inner_right, inner_chords, inner_sub, node_cases, InPieces}
use Rattle.polygon.proofs.TreeOf.{grow_ok}
use Rattle.polygon.proofs.TreeTheorem.{tree_of_lem}
use Rattle.polygon.proofs.Triangle.{JoinedIn, touch, link, touch_root, linked_up}

-- two corners that are joined in the piece `node l r` on the corners from u on: both in l, both in r, or the ends of the root edge
abbrev pub Where : ℕ → Tree → Tree → ℕ → ℕ → Type 0
Where u l r p q = ((q ≤ u + span l) × JoinedIn (chords u l) p q) ⊎ (((u + span l ≤ p) × JoinedIn (chords (u + span l) r) p q) ⊎ ((p ≡ u) × (q ≡ u + (span l + span r))))

pub touch_cases : (u : ℕ) (l r : Tree) (p q : ℕ) → JoinedIn (chords u (node l r)) p q → Where u l r p q
touch_cases u l r p q (inl e) = go (dec_le q (u + span l))
  where
    go : Dec (q ≤ u + span l) → Where u l r p q
    go (yes h) = inl (h, inl e)
    go (no h) = inr (inl (omega arith, inl e))
touch_cases u l r p q (inr m) = go (node_cases u l r (p — q) m)
  where
    go : ((p — q) ≡ u — (u + (span l + span r))) ⊎ InPieces u l r (p — q) → Where u l r p q
    go (inl e) = inr (inr (low_of e, high_of e))
    go (inr (inl k)) = inl ((all_mem (chords_in u l) k).hi, inr k)
    go (inr (inr k)) = inr (inl ((all_mem (chords_in (u + span l) r) k).lo, inr k))

-- where a piece lies, and that its edges are edges of the whole
pub piece_lies : {u : ℕ} {t : Tree} {x : ℕ} {s : Tree} → Piece u t x s → (x ≤ u) × (u + span t ≤ x + span s)
unfolding span
piece_lies itself = omega arith
piece_lies (beyond_left {x} {l} {r} q) = omega (arith, piece_lies q)
piece_lies (beyond_right {x} {l} {r} q) = omega (arith, piece_lies q)

pub piece_chords : {u : ℕ} {t : Tree} {x : ℕ} {s : Tree} → Piece u t x s → Sub (chords u t) (chords x s)
piece_chords itself e m = m
piece_chords (beyond_left {x} {l} {r} q) e m = inner_chords x l r e (inner_left x l r e (piece_chords q e m))
piece_chords (beyond_right {x} {l} {r} q) e m = inner_chords x l r e (inner_right x l r e (piece_chords q e m))

piece_inner : {u : ℕ} {t : Tree} {x : ℕ} {s : Tree} → Piece u t x s → Sub (inner u t) (inner x s)
piece_inner itself e m = m
piece_inner {u} {t = t} (beyond_left {x} {l} {r} q) e m = inner_left x l r e (piece_chords q e (inner_sub u t e m))
piece_inner {u} {t = t} (beyond_right {x} {l} {r} q) e m = inner_right x l r e (piece_chords q e (inner_sub u t e m))

-- with a piece, what lies beyond the other two edges of the triangle at its root edge
pub left_piece : {u : ℕ} {l r : Tree} {x : ℕ} {s : Tree} → Piece u (node l r) x s → Piece u l x s
left_piece itself = beyond_left itself
left_piece (beyond_left a) = beyond_left (left_piece a)
left_piece (beyond_right a) = beyond_right (left_piece a)

pub right_piece : {u : ℕ} {l r : Tree} {x : ℕ} {s : Tree} → Piece u (node l r) x s → Piece (u + span l) r x s
right_piece itself = beyond_right itself
right_piece (beyond_left a) = beyond_left (right_piece a)
right_piece (beyond_right a) = beyond_right (right_piece a)

-- a piece of a piece
pub piece_of_piece : {u x : ℕ} {t s : Tree} {y : ℕ} {w : Tree} → Piece u t x s → Piece x s y w → Piece u t y w
piece_of_piece a itself = a
piece_of_piece a (beyond_left b) = beyond_left (piece_of_piece a b)
piece_of_piece a (beyond_right b) = beyond_right (piece_of_piece a b)

-- two corners of a piece that are joined in the whole are joined in the piece
pub into_piece : {u : ℕ} {t : Tree} {x : ℕ} {s : Tree} → Piece u t x s → (p q : ℕ) → u ≤ p → p < q → q ≤ u + span t → JoinedIn (chords x s) p q → JoinedIn (chords u t) p q
into_piece itself p q h i j k = k
into_piece (beyond_left {x} {l} {r} a) p q h i j k = elim (touch_cases x l r p q k) [
  | inl w ↦ into_piece a p q h i j w.1
  | inr o ↦ absurd (elim o [ inl w ↦ omega (arith, piece_lies a, w.0) | inr w ↦ omega (arith, piece_lies a, span_pos r, w.1) ])
]
into_piece (beyond_right {x} {l} {r} a) p q h i j k = elim (touch_cases x l r p q k) [
  | inl w ↦ absurd (omega (arith, piece_lies a, w.0))
  | inr o ↦ elim o [ inl w ↦ into_piece a p q h i j w.1 | inr w ↦ absurd (omega (arith, piece_lies a, span_pos l, w.0)) ]
]

-- beyond a side it is empty
pub side_empty : (u : ℕ) (t : Tree) → (u + span t ≡ suc u) ↔ (t ≡ leaf)
unfolding span
side_empty u leaf = (λ h. refl, λ e. omega arith)
side_empty u (node l r) = (λ h. absurd (omega (arith, span_pos l, span_pos r)), λ e. absurd (let z : ◌≡◌ {A = ℕ} 0 1 = cc in omega arith))

-- two joined corners of a whole are the ends of the root edge of a piece
abbrev PieceOn : ℕ → ℕ → ℕ → Tree → Type 0
PieceOn p q x s = (t : Tree) × Piece p t x s × (p + span t ≡ q)

root_piece : (p q x : ℕ) (s : Tree) → p ≡ x → q ≡ x + span s → PieceOn p q x s
root_piece p q x s h k = rw h (s, itself, sym k)

piece_on : (x : ℕ) (s : Tree) (p q : ℕ) → x ≤ p → p < q → q ≤ x + span s → JoinedIn (chords x s) p q → PieceOn p q x s
unfolding span
piece_on x leaf p q h i j k = root_piece p q x leaf (omega arith) (omega arith)
piece_on x (node l r) p q h i j k = elim (touch_cases x l r p q k) [
  | inl w ↦ (let (t, a, e) = piece_on x l p q h i w.0 w.1 in (t, beyond_left a, e))
  | inr o ↦ elim o [
    | inl w ↦ (let (t, a, e) = piece_on (x + span l) r p q w.0 i (omega arith) w.1 in (t, beyond_right a, e))
    | inr w ↦ root_piece p q x (node l r) w.0 w.1
  ]
]

-- of a triangulated polygon
module _ (n : ℕ) (ds : List Edge) (P : Triangulated n ds) where
  pub piece_at : (u v : ℕ) → Linked n ds u v → PieceOn u v 0 (tree_of n ds)
  piece_at u v L = piece_on 0 (tree_of n ds) u v (omega arith) up.0 (omega (arith, up.1, (tree_of_lem n ds P).size)) (touch n ds P u v L)
    where
      up : (u < v) × (v < n)
      up = linked_up n ds P u v L

  module _ {u : ℕ} {t : Tree} (a : PieceOf n ds u t) where
    pub joined : (p q : ℕ) → u ≤ p → p < q → q ≤ u + span t → JoinedIn (chords u t) p q ↔ Linked n ds p q
    joined p q h i j = (λ k. link n ds P p q (omega (arith, piece_lies a, (tree_of_lem n ds P).size)) (out k), λ L. into_piece a p q h i j (touch n ds P p q L))
      where
        out : JoinedIn (chords u t) p q → JoinedIn (chords 0 (tree_of n ds)) p q
        out (inl e) = inl e
        out (inr m) = inr (piece_chords a (p — q) m)

    pub root_joined : Linked n ds u (u + span t)
    root_joined = (joined u (u + span t) (omega arith) (omega (arith, span_pos t)) (omega arith)).0 (touch_root u t)

    pub inner_diagonal : Sub (inner u t) ds
    inner_diagonal e m = rw (tree_of_lem n ds P).same at (piece_inner a e m)

    -- there is one such piece only
    pub piece_is : (v : ℕ) → u + span t ≡ v → t ≡ piece ds u v
    unfolding piece
    piece_is v h = sym (rw (sym h) (grow_ok ds P.none_cross _ t u (omega arith) inner_diagonal))

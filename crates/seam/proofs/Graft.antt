-- A tree t in the place of leaf i of a tree s: how many sides the result has, where t lies in it, and where the edges of s are found in it.
use mathlib.Core.Path.{◌≡◌}
use Prim.Native.Nat.{ℕ, suc, ◌+◌, ◌-◌, ◌≤◌, ◌<◌}
use native.Mathlib.Decide.{dec_lt}
use native.Mathlib.Omega.{arith}
use Rattle.lists.specs.Lists.{All, Mem, all_nil, choose}
use Rattle.lists.proofs.Lists.{all_imp}
use Rattle.polygon.specs.Tree.{Tree, leaf, node, span, chords_at, chords_past, chords, Piece, itself, beyond_left, beyond_right}
use Rattle.polygon.proofs.Order.{edge}
use Rattle.polygon.proofs.Chords.{span_pos, all_node, inner_chords, inner_left, inner_right, root_in}
use Rattle.edit.specs.Rules.{both}
use Rattle.seam.specs.Join.{matched}
use Rattle.seam.specs.Graft.{graft}
use Rattle.seam.proofs.Corners.{matched_stays, matched_moves}

-- leaf i is in the left piece, or in the right one
pub graft_cases : (P : Tree → Type 0) (i : ℕ) (l r t : Tree)
    → (i < span l → P (node (graft i l t) r)) → (span l ≤ i → P (node l (graft (i - span l) r t))) → P (graft i (node l r) t)
unfolding graft choose
graft_cases P i l r t f g = go (dec_lt i (span l))
  where
    go : (d : Dec (i < span l)) → P (choose d (node (graft i l t) r) (node l (graft (i - span l) r t)))
    go (yes h) = f h
    go (no h) = g (omega arith)

-- the leaf's one side goes, and those of t come
pub graft_span : (i : ℕ) (s t : Tree) → span (graft i s t) + 1 ≡ span s + span t
unfolding graft span
graft_span i leaf t = omega arith
graft_span i (node l r) t =
    graft_cases (λ g. span g + 1 ≡ span (node l r) + span t) i l r t
    (λ h. omega (arith, graft_span i l t)) (λ h. omega (arith, graft_span (i - span l) r t))

-- t lies on the corners from a on, where side i of s began
pub graft_piece : (i u a : ℕ) (s t : Tree) → a ≡ u + i → i < span s → Piece a t u (graft i s t)
unfolding graft span
graft_piece i u a leaf t e h = let k : a ≡ u = omega arith in rw k itself
graft_piece i u a (node l r) t e h =
    graft_cases (Piece a t u) i l r t
    (λ k. beyond_left (graft_piece i u a l t e k))
    (λ k. beyond_right (graft_piece (i - span l) (u + span l) a r t (omega arith) (omega arith)))

-- renumbered by f, the chords of the piece s on the corners from u on are chords of the piece t on those from v on
abbrev pub Into : (ℕ → ℕ) → ℕ → Tree → ℕ → Tree → Type 0
Into f u s v t = All (λ e. Mem (both f e) (chords v t)) (chords u s)

into_node : (f : ℕ → ℕ) (u v : ℕ) (l r l' r' : Tree) → f u ≡ v → f (u + (span l + span r)) ≡ v + (span l' + span r')
    → Into f u l v l' → Into f (u + span l) r (v + span l') r' → Into f u (node l r) v (node l' r')
unfolding both
into_node f u v l r l' r' p q a b =
    all_node _ u l r
    (all_imp (λ e m. inner_chords v l' r' _ (inner_left v l' r' _ m)) a)
    (rw (edge p q) (root_in v l' r'))
    (all_imp (λ e m. inner_chords v l' r' _ (inner_right v l' r' _ m)) b)

-- a piece that is moved as a whole
pub into_moved : (f : ℕ → ℕ) (u v : ℕ) (t : Tree) → ((x : ℕ) → u ≤ x → x ≤ u + span t → f x + u ≡ x + v) → Into f u t v t
unfolding span chords chords_at chords_past
into_moved f u v leaf h = all_nil
into_moved f u v (node l r) h =
    into_node f u v l r l r
    (omega (arith, h u (omega arith) (omega arith)))
    (omega (arith, h (u + (span l + span r)) (omega arith) (omega arith)))
    (into_moved f u v l (λ x i j. h x i (omega arith)))
    (into_moved f (u + span l) (v + span l) r (λ x i j. omega (arith, h x (omega arith) (omega arith))))

-- the corners of s up to a stay, and the later ones move up to match: m is the number of t's corners
pub into_graft : (m i u a : ℕ) (s t : Tree) → suc (span t) ≡ m → a ≡ u + i → i < span s → Into (matched m a) u s u (graft i s t)
unfolding span chords chords_at chords_past
into_graft m i u a leaf t c e h = all_nil
into_graft m i u a (node l r) t c e h =
    graft_cases (Into f u (node l r) u) i l r t
    (λ k. into_node f u u l r (graft i l t) r first (omega (arith, last, graft_span i l t, span_pos t))
    (into_graft m i u a l t c e k)
    (into_moved f (u + span l) (u + span (graft i l t)) r (λ x b d. omega (arith, matched_moves m a x (omega arith), graft_span i l t, span_pos t))))
    (λ k. into_node f u u l r l (graft (i - span l) r t) first (omega (arith, last, graft_span (i - span l) r t, span_pos t))
    (into_moved f u u l (λ x b d. omega (arith, matched_stays m a x (omega arith))))
    (into_graft m (i - span l) (u + span l) a r t c (omega arith) (omega arith)))
  where
    f : ℕ → ℕ
    f = matched m a

    first : matched m a u ≡ u
    first = matched_stays m a u (omega arith)

    last : matched m a (u + (span l + span r)) ≡ u + (span l + span r) + (m - 2)
    last = matched_moves m a (u + (span l + span r)) (omega arith)

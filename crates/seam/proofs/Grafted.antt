-- A joined part is valid. Its tree is the first part's tree with the second's in the place of leaf i, and the piece beyond the seam is the second part.
-- For the glued edges are chords of that tree, so that none cross, and they are as many as a triangulation has. Rests on Graft.antt.
use mathlib.Core.Path.{◌≡◌, sym, ◌∙◌}
use mathlib.Core.Logic.{inl}
use mathlib.Core.List.{List, ◌∷◌, ◌++◌}
use Prim.Native.Nat.{ℕ, suc, ◌+◌, ◌-◌, ◌≤◌, ◌<◌}
use native.Mathlib.Decide.{dec_lt}
use native.Mathlib.Nat.{le_refl}
use native.Mathlib.Omega.{arith}
use lib.ListN.{length, length-append, length-map}
use Rattle.lists.specs.Lists.{All, Mem, Sub, all_cons}
use Rattle.lists.proofs.Lists.{all_append, all_both, all_imp, all_map, all_mem, all_of}
use Rattle.polygon.specs.Angles.{Angle, Angles, none, each, InRange, Allowed}
use Rattle.polygon.specs.Polygon.{Edge, Diagonal, Polygon, Triangulated, Valid}
use Rattle.polygon.specs.Order.{sort}
use Rattle.polygon.specs.Tree.{Tree, span, chords, inner, tree_of, Piece, PieceOf}
use Rattle.polygon.proofs.Angles.{carried_allowed}
use Rattle.polygon.proofs.Sort.{sort_all, sort_ascends, sort_length, sort_sub}
use Rattle.polygon.proofs.Chords.{Chord, chords_free, chords_in, inner_sub, root_of}
use Rattle.polygon.proofs.TreeOf.{grow_ok}
use Rattle.polygon.proofs.TreeTheorem.{TreeIs, tree_of_lem}
use Rattle.polygon.proofs.PieceTheorem.{piece_chords}
use Rattle.edit.specs.Rules.{both}
use Rattle.seam.specs.Join.{laid, matched, seam, glued_edges, zeros, glued_angles, glue}
use Rattle.seam.specs.Graft.{graft}
use Rattle.seam.proofs.Corners.{matched_moves, matched_mono, glued_distinct}
use Rattle.seam.proofs.Graft.{graft_span, graft_piece, into_moved, into_graft}

-- a tree of the same span whose inner edges are chords of t is t
tree_within : (s t : Tree) → span s ≡ span t → Sub (inner 0 s) (chords 0 t) → s ≡ t
tree_within s t e h =
    let back = grow_ok (chords 0 t) (chords_free 0 t) (span t) in
    sym (back s 0 (omega arith) h) ∙ rw e (back t 0 (le_refl _) (inner_sub 0 t))

part_chords : (n : ℕ) (ds : List Edge) → Triangulated n ds → Sub ds (chords 0 (tree_of n ds))
part_chords n ds P e m = inner_sub 0 (tree_of n ds) e (rw (sym (tree_of_lem n ds P).same) at m)

-- a diagonal d of the first half's n corners does not become the root edge
first_diagonal : (n m i : ℕ) → 3 ≤ m → suc i < n → (d : Edge) → Diagonal n d
    → Chord 0 (n + m - 3) (both (matched m i) d) → Diagonal (n + m - 2) (both (matched m i) d)
unfolding both
first_diagonal n m i large below d D c = go (dec_lt 0 d.0)
  where
    go : Dec (0 < d.0) → Diagonal (n + m - 2) (both (matched m i) d)
    go (yes h) = omega (arith, matched_mono m i 0 d.0 h)
    go (no h) = omega (arith, matched_mono m i d.1 (n - 1) (omega arith), matched_moves m i (n - 1) (omega arith))

-- the angles
zeros_in_range : (es : List Edge) → All InRange (zeros es)
zeros_in_range es = all_map _ (all_of es (λ e m. inl (omega arith)))

seam_allowed : {n m : ℕ} (vs ws : List Angle) → length vs + 3 ≡ n → length ws + 3 ≡ m → All InRange vs → All InRange ws
    → Allowed (n + m - 2) (each (vs ++ (0 ∷ ws)))
seam_allowed vs ws h k a b = (omega arith, simp length-append (omega arith), all_append a (all_cons (inl (omega arith)) b))

glued_allowed : {n m : ℕ} (ds es : List Edge) (xs ys : Angles) → length ds + 3 ≡ n → length es + 3 ≡ m → Allowed n xs → Allowed m ys
    → Allowed (n + m - 2) (glued_angles ds xs es ys)
glued_allowed ds es none none h k A B = tt
glued_allowed ds es (each vs) none h k A B = seam_allowed vs (zeros es) A.1 (rw length-map k) A.2 (zeros_in_range es)
glued_allowed ds es none (each ws) h k A B = seam_allowed (zeros ds) ws (rw length-map h) B.1 (zeros_in_range ds) B.2
glued_allowed ds es (each vs) (each ws) h k A B = seam_allowed vs ws A.1 B.1 A.2 B.2

module _ (i : ℕ) (p q : Polygon) (P : Valid p) (Q : Valid q) (below : suc i < p.n) where
  -- the trees of the two halves
  abbrev s : Tree
  s = tree_of p.n p.ds

  abbrev t : Tree
  t = tree_of q.n q.ds

  S : TreeIs p.n p.ds s
  S = tree_of_lem p.n p.ds P.triangulated

  T : TreeIs q.n q.ds t
  T = tree_of_lem q.n q.ds Q.triangulated

  size : suc (span (graft i s t)) ≡ p.n + q.n - 2
  size = omega (arith, graft_span i s t, S.size, T.size)

  -- the glued edges are chords of the grafted tree
  firsts_in : All (λ d. Mem (both (matched q.n i) d) (chords 0 (graft i s t))) p.ds
  firsts_in =
      let h = into_graft q.n i 0 i s t T.size (omega arith) (omega (arith, S.size)) in
      all_of _ (λ d m. all_mem h (part_chords _ _ P.triangulated d m))

  second : Piece i t 0 (graft i s t)
  second = graft_piece i 0 i s t (omega arith) (omega (arith, S.size))

  seconds_in : All (λ d. Mem (both (laid i) d) (chords 0 (graft i s t))) q.ds
  seconds_in =
      let h = into_moved (laid i) 0 i t (λ x a b. omega arith) in
      all_of _ (λ d m. piece_chords second _ (all_mem h (part_chords _ _ Q.triangulated d m)))

  seam_in : Mem (seam q.n i) (chords 0 (graft i s t))
  seam_in = let h : q.n - 1 ≡ span t = omega (arith, T.size) in rw h (piece_chords second _ (root_of i t (omega (arith, T.size, Q.least))))

  glued_in : All (λ e. Mem e (chords 0 (graft i s t))) (glued_edges i p q)
  unfolding glued_edges
  glued_in = all_append (all_map _ firsts_in) (all_cons seam_in (all_map _ seconds_in))

  sorted_in : Sub (sort (glued_edges i p q)) (chords 0 (graft i s t))
  sorted_in e m = all_mem glued_in (sort_sub (glued_edges i p q) e m)

  -- they are diagonals, and so many
  firsts_diagonal : All (λ d. Diagonal (p.n + q.n - 2) (both (matched q.n i) d)) p.ds
  firsts_diagonal =
      all_both
      (λ d D m. let c = all_mem (chords_in 0 (graft i s t)) m in first_diagonal p.n q.n i Q.least below d D (omega (arith, size)))
      P.triangulated.diagonals
      firsts_in

  glued_diagonal : All (Diagonal (p.n + q.n - 2)) (glued_edges i p q)
  unfolding glued_edges both
  glued_diagonal =
      all_append
      (all_map _ firsts_diagonal)
      (all_cons (omega (arith, P.least, Q.least)) (all_map _ (all_imp (λ d D. omega (arith, P.least)) Q.triangulated.diagonals)))

  glued_count : length (sort (glued_edges i p q)) + 3 ≡ p.n + q.n - 2
  unfolding glued_edges
  glued_count = rw sort_length (simp (length-append, length-map) (omega (arith, P.triangulated.full, Q.triangulated.full)))

  pub glued_triangulated : Triangulated (glue i p q).n (glue i p q).ds
  unfolding glue
  glued_triangulated = record {
    ascending = (sort_ascends (glued_edges i p q)).1 (glued_distinct i p q P.triangulated Q.triangulated);
    diagonals = sort_all glued_diagonal;
    none_cross = all_of _ (λ d m. all_of _ (λ e k. all_mem (all_mem (chords_free 0 (graft i s t)) (sorted_in d m)) (sorted_in e k)));
    full = glued_count;
  }

  pub glued_tree : tree_of (glue i p q).n (glue i p q).ds ≡ graft i (tree_of p.n p.ds) (tree_of q.n q.ds)
  unfolding glue
  glued_tree =
      let G = tree_of_lem _ _ glued_triangulated in
      tree_within _ (graft i s t) (omega (arith, G.size, size)) (λ e m. sorted_in e (rw G.same at m))

  -- "10 when more than 1,024 corners would result"
  pub glued_valid : p.n + q.n - 2 ≤ 1024 → Valid (glue i p q)
  unfolding glue
  glued_valid most =
      let A = glued_allowed p.ds q.ds p.angles q.angles P.triangulated.full Q.triangulated.full P.allowed Q.allowed in
      record {
        least = omega (arith, P.least, Q.least);
        most = most;
        triangulated = glued_triangulated;
        allowed = carried_allowed _ _ _ _ _ (λ h. h) glued_triangulated.full A;
      }

  pub seam_piece : PieceOf (glue i p q).n (glue i p q).ds i (tree_of q.n q.ds)
  seam_piece = rw glued_tree second

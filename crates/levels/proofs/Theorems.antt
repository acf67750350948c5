-- What this crate's tables hold when a part's are filled: "each kept per edge".
-- Rests on the pieces of a part's tree (crate polygon), and on what the tables show (crate tree).
use mathlib.Core.Path.{◌≡◌, refl, sym, ◌∙◌, ap}
use mathlib.Core.List.{List}
use Prim.Native.Nat.{ℕ, ◌+◌, ◌*◌, ◌-◌, ◌<◌}
use native.Mathlib.Decide.{dec_lt}
use native.Mathlib.Omega.{arith}
use lib.ListN.{take, get_or, get_or-map}
use lib.Seq.{get_or-take}
use Rattle.lists.specs.Lists.{Nth, now, next, sorted_nil, sorted_cons}
use Rattle.lists.proofs.Lists.{all_mem}
use Rattle.lists.proofs.Places.{nth_mem, nth_get_d}
use Rattle.polygon.specs.Polygon.{Edge, ◌—◌, Before, Ascending, Polygon, Valid, Linked}
use Rattle.polygon.specs.Edges.{edges}
use Rattle.polygon.specs.Tree.{Tree, span, piece, tree_of, Piece, itself, beyond_left, beyond_right}
use Rattle.polygon.proofs.Order.{high_of, not_self}
use Rattle.polygon.proofs.Edges.{edges_ascending, edges_count, edges_linked}
use Rattle.polygon.proofs.TreeTheorem.{TreeIs, tree_of_lem}
use Rattle.polygon.proofs.PieceTheorem.{piece_at, piece_is}
use Rattle.keys.specs.Keys.{edge_of}
use Rattle.tree.specs.declared.Root.{Root}
use Rattle.tree.specs.Table.{edge_at, TreeAt, triangle}
use Rattle.tree.proofs.Pieces.{ends, corners, inside, at_edge}
use Rattle.levels.specs.Kept.{six, six_at, Deep, deep, Filled, KeptAt}
use Rattle.levels.proofs.Storing.{deep_root}

-- each piece of a piece has its place in the tables
record Placed (tr ds : List ℕ) (a : ℕ) (t : Tree) : Type 0 where
  e : ℕ
  shows : TreeAt tr e a (a + span t) t
  deep : Deep tr ds e t

placed : {tr ds : List ℕ} {a : ℕ} {t : Tree} {x : ℕ} {s : Tree} {e u v : ℕ} → Piece a t x s → u ≡ x → TreeAt tr e u v s → Deep tr ds e s → Placed tr ds a t
placed {e = e} itself o w d = record { e = e; shows = rw (ends w, o) at w; deep = d }
placed (beyond_left p) o (triangle i h k q x y) (deep z f g) = placed p o x f
placed (beyond_right p) o (triangle i h k q x y) (deep z f g) = placed p (omega (arith, ends x)) y g

-- Every edge of a valid part, a side or the root edge too, has a place among the first 2n - 3, where its six values stand.
pub kept : (p : Polygon) → Valid p → {tr ds : List ℕ} {r : Root} → Filled p.n (tree_of p.n p.ds) tr ds r → (a b : ℕ) → Linked p.n p.ds a b → KeptAt p tr ds a b
kept p v {tr} {ds} F a b L =
    let (t, q, h) = piece_at p.n p.ds v.triangulated a b L in
    let w = placed q F.whole.lower F.whole.shows F.deep in
    let edge = rw h at (at_edge w.shows) in
    record {
      place = w.e;
      listed = go (dec_lt w.e (2 * p.n - 3)) w.shows (high_of edge);
      edge = edge;
      values = deep_root w.deep ∙ ap six (piece_is p.n p.ds v.triangulated q b h);
    }
  where
    -- beyond them the table has zeros, which are no edge
    go : {e u w : ℕ} {t : Tree} → Dec (e < 2 * p.n - 3) → TreeAt tr e u w t → (edge_at tr e).1 ≡ b → e < 2 * p.n - 3
    go (yes i) s g = i
    go {e} (no i) s g = absurd (omega (arith, corners s, high_of (at_edge s), ap (λ (k : ℕ). (edge_of k).1) (F.rest e (omega arith) (omega (arith, inside s)))))

-- one edge does not stand at two places of the ascending list
before_at : {x y : Edge} {i j : ℕ} {l : List Edge} → Ascending l → Nth x i l → Nth y j l → i < j → Before x y
before_at (sorted_cons o s) (now p) (now q) h = absurd (omega arith)
before_at (sorted_cons o s) (now p) (next b) h = rw p (all_mem o (nth_mem b))
before_at (sorted_cons o s) (next a) (now q) h = absurd (omega arith)
before_at (sorted_cons o s) (next a) (next b) h = before_at s a b (omega arith)
before_at {y = y} {i = i} {j = j} sorted_nil x8 _ h = elim x8 [ ]

one_place : {x : Edge} {i j : ℕ} {l : List Edge} → Ascending l → Nth x i l → Nth x j l → i ≡ j
one_place {x} {i} {j} s a b = go (dec_lt i j) (dec_lt j i)
  where
    go : Dec (i < j) → Dec (j < i) → i ≡ j
    go (yes h) k = absurd (not_self x x (before_at s a b h) refl)
    go (no h) (yes k) = absurd (not_self x x (before_at s b a k) refl)
    go (no h) (no k) = omega arith

-- The places are in the order of the edges: at place j stand the values of the j-th edge of the part, a side or the root edge too. So those of all edges are read in one walk.
pub kept_in_order : (p : Polygon) → Valid p → {tr ds : List ℕ} {r : Root} → Filled p.n (tree_of p.n p.ds) tr ds r
    → (j : ℕ) → j < 2 * p.n - 3 → let e = get_or (edges 0 (tree_of p.n p.ds)) j (0 — 0) in six_at ds j ≡ six (piece p.ds e.0 e.1)
kept_in_order p v {tr} {ds} F j h =
    let K = kept p v F (edge j).0 (edge j).1 ((edges_linked p.n p.ds t v.least T (edge j)).0 (nth_mem (at j h))) in
    let q : K.place ≡ j = one_place (edges_ascending 0 t) (rw (stands K.place K.listed ∙ K.edge) at (at K.place K.listed)) (at j h) in
    rw q at K.values
  where
    t : Tree
    t = tree_of p.n p.ds

    T : TreeIs p.n p.ds t
    T = tree_of_lem p.n p.ds v.triangulated

    edge : ℕ → Edge
    edge i = get_or (edges 0 t) i (0 — 0)

    at : (i : ℕ) → i < 2 * p.n - 3 → Nth (edge i) i (edges 0 t)
    at i k = nth_get_d (edges 0 t) i (0 — 0) (omega (arith, edges_count 0 t, T.size))

    stands : (i : ℕ) → i < 2 * p.n - 3 → edge i ≡ edge_at tr i
    stands i k = ap (λ (l : List Edge). get_or l i (0 — 0)) (sym F.listed) ∙ (get_or-map edge_of (take (2 * p.n - 3) tr) i 0 ∙ ap edge_of (get_or-take (2 * p.n - 3) tr i 0 k))

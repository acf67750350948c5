-- By Whole.antt.
use mathlib.Core.Path.{◌≡◌, refl, ◌∙◌, ap}
use Prim.Native.Nat.{◌+◌, ◌*◌, ◌-◌}
use native.Mathlib.Omega.{arith}
use lib.ListN.{length, take, get_or}
use Rattle.polygon.specs.Edges.{edges}
use Rattle.polygon.specs.Tree.{span, tree_of}
use Rattle.polygon.proofs.TreeTheorem.{tree_of_lem}
use Rattle.keys.specs.Keys.{edges_of}
use Rattle.tree.specs.Table.{Whole}
use Rattle.tree.proofs.Pieces.{inside}
use Rattle.tree.proofs.Whole.{keyed, whole, kept_front, kept_rest}
use Rattle.tree.proofs.build.Goals.{After-list_edges, After-place_lasts}
use Rattle.tree.proofs.build.Goals as goal

listed : (c : After-list_edges) → length c.list_edges.new.listed ≡ 3072
listed c = c.list_edges.auto.listed ∙ c.requires.room

-- the table when it is filled
filled : (c : After-place_lasts) → length c.place_lasts.new.tree ≡ 3072
filled c = c.place_lasts.auto.tree ∙ (c.list_edges.auto.listed ∙ c.requires.room)

edges_are : (c : After-place_lasts) → edges_of (take (2 * c.args.n - 3) c.place_lasts.new.tree) ≡ edges 0 (tree_of c.args.n (edges_of c.args.keys.now))
edges_are c =
    let m = 2 * c.args.n - 3 in
    ap edges_of (kept_front m c.place_lasts.new.tree c.list_edges.new.listed (omega (arith, c.requires.part.1)) c.place_lasts.ensures.edges) ∙ c.list_edges.ensures.edges

shown : (c : After-place_lasts) → let args = c.args in let table = c.place_lasts.new.tree in
    Whole args.n (tree_of args.n (edges_of args.keys.now)) table (record { e = get_or table 2048 0; u = 0; v = args.n - 1 })
shown c =
    let table = c.place_lasts.new.tree in
    whole c.args.n c.args.keys.now c.requires.part.0 c.requires.part.1 table (filled c) (edges_are c) c.place_lasts.ensures.lasts (get_or table 2048 0) refl

pub place_lasts-requires : goal.place_lasts-requires
place_lasts-requires c =
    let n = c.args.n in
    let keys = edges_of c.args.keys.now in
    let table = c.list_edges.new.listed in
    let size : span (tree_of n keys) + 1 ≡ n = omega (arith, (tree_of_lem n keys c.requires.part.0).size, c.requires.part.0.full) in
    (omega arith, listed (goal.at.place_lasts-requires c).After-list_edges, λ j h. omega (arith, keyed (tree_of n keys) table size c.requires.part.1 (omega (arith, listed (goal.at.place_lasts-requires c).After-list_edges)) c.list_edges.ensures.edges j h))

pub overflow_cast-result : goal.overflow_cast-result
overflow_cast-result c = omega (arith, inside (shown (goal.at.overflow_cast-result c).After-place_lasts).shows)

pub returns : goal.returns
returns c =
    record { edges = edges_are (goal.at.returns c).After-place_lasts; rest = λ j h k. kept_rest j c.place_lasts.new.tree c.list_edges.new.listed k c.place_lasts.ensures.edges ∙ c.list_edges.ensures.rest j h; whole = shown (goal.at.returns c).After-place_lasts }

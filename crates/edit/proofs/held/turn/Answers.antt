-- The diagonal taken out, and the turned one put in at 0.
use mathlib.Core.Path.{◌≡◌, ap, sym, ◌∙◌}
use mathlib.Core.List.{[], ◌∷◌}
use Prim.Native.Nat.{ℕ}
use native.Mathlib.Omega.{arith}
use lib.ListN.{take}
use mathlib.Core.List.{List}
use Rattle.std.proofs.Common.{Option, Some}
use Rattle.sheet.specs.declared.Head.{Head}
use Rattle.lists.specs.Lists.{Mem}
use Rattle.lists.proofs.Chains.{any_mem, mem_any}
use Rattle.polygon.specs.Polygon.{Edge, Polygon, ◌—◌}
use Rattle.keys.specs.Keys.{key_of, edges_of}
use Rattle.keys.proofs.Beside.{bend_edges}
use Rattle.sheet.specs.Sheet.{held}
use Rattle.sheet.proofs.Hand.{keys_small}
use Rattle.edit.specs.Rules.{common}
use Rattle.edit.specs.Tables.{Whole}
use Rattle.edit.proofs.InHand.{in_whole, taken_out, Without}
use Rattle.edit.proofs.Turning.{has_diagonal, turn_lacks, two_corners, flipped_over}
use Rattle.edit.proofs.held.turn.Goals.{After-bends-bends, Else-not-contains, After-turned_key, After-remove-left}
use Rattle.edit.proofs.held.turn.Goals as goal

hand : (c : After-bends-bends) → Whole c.args.part.now c.head-h.result c.bends-bends.result.now
hand c = in_whole c.head-h.ensures.valid c.head-h.ensures.corners c.head-h.ensures.angles c.bends-bends.ensures.part c.bends-bends.ensures.all

-- it is a diagonal
diagonal : (c : Else-not-contains) → edges_of c.keys-keys.result.now ≡ c.args.part.now.ds → Mem (c.args.a — c.args.b) c.args.part.now.ds
diagonal c same =
    has_diagonal c.args.part.now c.args.a c.args.b c.head-h.ensures.valid c.requires.corners.0 c.requires.corners.1 c.key-k.ensures _ same
    (any_mem _ _ (sym c.contains.ensures.value ∙ c.if-not-contains.false))

-- the bends without the diagonal's
out : (c : After-remove-left) → Whole c.args.part.now c.head-h.result c.bends-bends.result.now → Mem (c.args.a — c.args.b) c.args.part.now.ds
    → Without c.head-h.result c.bends-bends.result.now (c.args.a — c.args.b) (take c.remove-left.result c.remove-left.new.out)
out c H m = taken_out H (c.args.a — c.args.b) (rw H.same at m) c.key-k.ensures c.remove-left.ensures.0

-- the key of the two corners that are joined to both ends
pair : (c : After-turned_key) → edges_of c.keys-keys.result.now ≡ c.args.part.now.ds
    → (x y : ℕ) → common c.head-h.result.n c.args.part.now.ds (c.args.a — c.args.b) ≡ x ∷ (y ∷ []) → c.turned_key.result ≡ Some (key_of (x — y))
pair c same = rw same at c.turned_key.ensures.pair

pub returns-then-not-contains : goal.returns-then-not-contains
returns-then-not-contains c =
    sym (turn_lacks c.args.part.now c.args.a c.args.b c.head-h.ensures.valid c.requires.corners.0 c.requires.corners.1 c.key-k.ensures _ c.keys-keys.ensures (λ m. let e = mem_any _ _ m in cc))

pub turned_key-requires : goal.turned_key-requires
turned_key-requires c =
    let V = c.head-h.ensures.valid in
    let n = c.head-h.ensures.corners in
    (omega (arith, n, V.least), omega (arith, n, V.most), omega (arith, n, c.requires.corners), omega (arith, n, c.requires.corners.1), keys_small V c.keys-keys.result.now c.keys-keys.ensures)

pub unwrap-other-requires : goal.unwrap-other-requires
unwrap-other-requires c =
    let same = c.keys-keys.ensures in
    let (f, e) = two_corners c.args.part.now c.args.a c.args.b c.head-h.ensures.valid (diagonal (goal.at.unwrap-other-requires c).Else-not-contains same) in
    rw (pair (goal.at.unwrap-other-requires c).After-turned_key same f.0 f.1 (ap (λ (n : ℕ). common n c.args.part.now.ds (c.args.a — c.args.b)) c.head-h.ensures.corners ∙ e))

pub merge-requires : goal.merge-requires
merge-requires c =
    let H = hand (goal.at.merge-requires c).After-bends-bends in
    let m = diagonal (goal.at.merge-requires c).Else-not-contains c.keys-keys.ensures in
    omega (arith, (out (goal.at.merge-requires c).After-remove-left H m).size, H.valid.most)

-- what the two corners' key is said of, in the bends' words
told : {p : Polygon} {h : Head} {bs : List ℕ} → Whole p h bs → (e : Edge) {k : ℕ} {r : Option ℕ} → ((x y : ℕ) → common h.n p.ds e ≡ x ∷ (y ∷ []) → r ≡ Some (key_of (x — y))) → r ≡ Some k
    → (x y : ℕ) → common h.n (bend_edges bs) e ≡ x ∷ (y ∷ []) → k ≡ key_of (x — y)
told {h = h} H e f s x y two = let t = f x y (ap (λ (q : Polygon). common h.n q.ds e) H.same ∙ two) in cc

pub new-requires : goal.new-requires
new-requires c =
    let H = hand (goal.at.new-requires c).After-bends-bends in
    let same = c.keys-keys.ensures in
    let W = out (goal.at.new-requires c).After-remove-left H (diagonal (goal.at.new-requires c).Else-not-contains same) in
    let two = told H (c.args.a — c.args.b) (pair (goal.at.new-requires c).After-turned_key same) c.unwrap-other.ensures in
    (flipped_over H c.args.a c.args.b c.requires.corners.0 (omega (arith, c.requires.corners.1, c.head-h.ensures.corners)) W two c.bend.ensures c.merge.new.out c.merge.ensures).valid

pub returns : goal.returns
returns c =
    let H = hand (goal.at.returns c).After-bends-bends in
    let same = c.keys-keys.ensures in
    let W = out (goal.at.returns c).After-remove-left H (diagonal (goal.at.returns c).Else-not-contains same) in
    let two = told H (c.args.a — c.args.b) (pair (goal.at.returns c).After-turned_key same) c.unwrap-other.ensures in
    ap held c.new.ensures
    ∙ sym (flipped_over H c.args.a c.args.b c.requires.corners.0 (omega (arith, c.requires.corners.1, c.head-h.ensures.corners)) W two c.bend.ensures c.merge.new.out c.merge.ensures).same

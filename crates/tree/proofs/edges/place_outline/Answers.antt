use mathlib.Core.Path.{◌≡◌, sym, ◌∙◌}
use Prim.Native.Nat.{◌+◌, ◌*◌, ◌-◌, ◌<◌}
use native.Mathlib.Omega.{arith}
use lib.ListN.{length, take}
use Rattle.std.proofs.lemmas.List.{get_or-drop, take-append-le, length-take-le}
use Rattle.std.proofs.Math.Seq.{get_or-append_right}
use Rattle.keys.proofs.Merging.{merged}
use Rattle.tree.proofs.Outline.{outline_count, outline_is, count, fill_free, fill_taken, none_behind, stood_front}
use Rattle.tree.proofs.edges.place_outline.Goals.{then-place-eq0, else-place-eq0}
use Rattle.tree.proofs.edges.place_outline.Goals as goal

pub loop-place-preserved : goal.loop-place-preserved
loop-place-preserved c =
    let n = c.args.n in
    let keys = c.args.keys.now in
    let P = c.requires.part.0 in
    let small = c.requires.part.1 in
    let F = c.loop-place.invariant in
    let size : length (take (n + length keys) c.args.listed.now) ≡ n + length keys = length-take-le _ _ (omega (arith, count keys P small)) in
    let upto : c.loop-place.place-index < n + length keys = omega arith in
    let S = stood_front keys P small c.requires.stood in
    let here = F.kept c.loop-place.place-index (omega arith) in
    elim c.if-place-eq0.branch [
      | then-place-eq0 w ↦
          let o = w.outline_at.ensures in
          rw (w.i-is, w.place-items-is, outline_is n c.loop-place.i _ o.root o.side) (fill_free keys P small S F upto c.loop-place-test.true (sym here ∙ w.if-place-eq0.true))
      | else-place-eq0 w ↦ rw (w.i-is, w.place-items-is) (fill_taken keys P small S F upto c.loop-place-test.true (λ e. omega (arith, w.if-place-eq0.false)))
    ]

pub returns-clause-merged : goal.returns-clause-merged
returns-clause-merged c =
    let n = c.args.n in
    let keys = c.args.keys.now in
    let count = count keys c.requires.part.0 c.requires.part.1 in
    let F = c.loop-place.invariant in
    let e : c.loop-place.place-index ≡ 2 * n - 3 = omega (arith, length-take-le (n + length keys) c.args.listed.now (omega arith)) in
    take-append-le _ _ _ (omega (arith, F.merging.kept)) ∙ (rw e at (merged F.merging (omega (arith, outline_count n))))

pub returns-clause-rest : goal.returns-clause-rest
returns-clause-rest c = λ j h.
    let n = c.args.n in
    let keys = c.args.keys.now in
    let count = count keys c.requires.part.0 c.requires.part.1 in
    let items = length-take-le (n + length keys) c.args.listed.now (omega arith) in
    get_or-append_right c.loop-place.place-items _ j 0 (omega arith) ∙ (get_or-drop (n + length keys) c.args.listed.now _ 0 ∙ none_behind keys c.requires.part.0 c.requires.part.1 c.requires.stood _ (omega arith))

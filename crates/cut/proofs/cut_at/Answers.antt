-- The diagonal looked for, the part cut, and both halves written.
use mathlib.Core.Path.{◌≡◌, sym, ◌∙◌}
use Rattle.lists.specs.Lists.{Mem}
use Rattle.lists.proofs.Chains.{any_mem, mem_any}
use Rattle.polygon.specs.Polygon.{◌—◌}
use Rattle.keys.specs.Keys.{edges_of}
use Rattle.edit.proofs.Turning.{has_diagonal}
use Rattle.cut.proofs.Cutting.{key_lacks, key_holds, cut_refused, cut_written}
use Rattle.cut.proofs.cut_at.Goals.{Else-not-contains}
use Rattle.cut.proofs.cut_at.Goals as goal

diagonal : (c : Else-not-contains) → edges_of c.keys-keys.result.now ≡ c.args.part.now.ds → Mem (c.args.a — c.args.b) c.args.part.now.ds
diagonal c same =
    has_diagonal c.args.part.now c.args.a c.args.b c.requires.part c.requires.corners.0 c.requires.corners.1 c.key.ensures _ same
    (any_mem _ _ (sym c.contains.ensures.value ∙ c.if-not-contains.false))

pub halve-one-requires-clause-part : goal.halve-one-requires-clause-part
halve-one-requires-clause-part c = diagonal (goal.at.halve-one-requires-clause-part c).Else-not-contains c.keys-keys.ensures

pub returns-then-not-contains : goal.returns-then-not-contains
returns-then-not-contains c =
    cut_refused _ _ _ (key_lacks c.requires.part c.args.a c.args.b c.requires.corners.0 c.requires.corners.1 c.key.ensures _ c.keys-keys.ensures (λ m. let e = mem_any _ _ m in cc))

pub returns : goal.returns
returns c =
    let m = diagonal (goal.at.returns c).Else-not-contains c.keys-keys.ensures in
    c.write_both.ensures
    ∙ cut_written _ _ _ (key_holds c.requires.part c.args.a c.args.b c.requires.corners.0 c.requires.corners.1 m) c.halve-one.ensures.inner c.halve-one.ensures.rest

-- The lower corner goes first.
use mathlib.Core.Path.{◌≡◌, ap, ◌∙◌}
use Prim.Native.Nat.{ℕ, min, max}
use native.Mathlib.Omega.{arith}
use Rattle.polygon.specs.Polygon.{Polygon, ◌—◌}
use Rattle.polygon.specs.Order.{lower_first}
use Rattle.codec.specs.TwoOutputs.{BothOutcome, written_both}
use Rattle.sheet.proofs.Normal.{lower_first_same}
use Rattle.edit.proofs.Reading.{either_order, in_order}
use Rattle.cut.specs.Cut.{cuttable, halved}
use Rattle.cut.proofs.Answers.{cut_outside, cut_either}
use Rattle.cut.proofs.Cutting.{cut_refused}
use Rattle.cut.proofs.cut_part.Goals as goal

-- the corners in either order
abbrev cut_between : Polygon → ℕ → ℕ → BothOutcome ℕ
cut_between p a b = halved (lower_first (a, b)) (cuttable a b p)

between_either : (p : Polygon) (a b : ℕ) → cut_between p a b ≡ cut_between p b a
between_either p a b = rw (either_order a b, cut_either a b p)

pub returns-then-a-n : goal.returns-then-a-n
returns-then-a-n c = cut_refused _ _ _ (cut_outside c.args.a c.args.b c.args.part.now (λ t. omega (arith, c.then-a-n.either, c.head-n.ensures.corners)))

pub returns : goal.returns
returns c =
    let p = c.args.part.now in
    let a = c.args.a in
    let b = c.args.b in
    let first = lower_first_same (min a b — max a b) (omega arith) in
    (rw (c.min.ensures, c.max.ensures, ← first) at c.cut_at.ensures)
    ∙ ap (λ o. written_both o c.args.inner.now c.args.rest.now) (in_order (cut_between p) (between_either p) a b)

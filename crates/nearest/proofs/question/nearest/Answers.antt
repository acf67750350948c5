-- By whether the cells share a row or a column; if they do neither, no cell lies between them.
use mathlib.Core.Path.{sym, ◌∙◌}
use mathlib.Core.Logic.{⊎_elim}
use Rattle.nearest.proofs.Spans.{nowhere}
use Rattle.nearest.proofs.question.nearest.Goals as goal

pub returns : goal.returns
returns c =
    nowhere _ _ c.requires.tables.0 (c.args.p, c.args.q) (λ d. ⊎_elim (λ h. absurd (c.if-p-q.false (h.0 ∙ sym h.1))) (λ h. absurd (c.if-p-q-2.false (h.0 ∙ sym h.1))))

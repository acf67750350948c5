-- Bit 1 against the corner count.
use mathlib.Core.Path.{sym, ◌∙◌}
use borrow.Author.Tests.{eqb-true, eqb-false}
use Rattle.sheet.proofs.Fields.{more_yes, more_no}
use Rattle.sheet.proofs.reader.agrees.Goals as goal

pub returns-then-n-gt3 : goal.returns-then-n-gt3
returns-then-n-gt3 c = record { yes = λ h. eqb-true _ _ h ∙ sym (more_yes c.args.n c.if-n-gt3.true); no = λ h e. eqb-false _ _ h (e ∙ more_yes c.args.n c.if-n-gt3.true) }

pub returns-else-n-gt3 : goal.returns-else-n-gt3
returns-else-n-gt3 c = record { yes = λ h. eqb-true _ _ h ∙ sym (more_no c.args.n c.if-n-gt3.false); no = λ h e. eqb-false _ _ h (e ∙ more_no c.args.n c.if-n-gt3.false) }

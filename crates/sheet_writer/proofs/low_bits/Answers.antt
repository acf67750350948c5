-- By the test.
use native.Mathlib.Omega.{arith}
use Rattle.sheet.proofs.Fields.{more_yes, more_no}
use Rattle.sheet_writer.proofs.low_bits.Goals as goal

pub returns-then-n-gt3 : goal.returns-then-n-gt3
returns-then-n-gt3 c = (rw (more_yes c.args.n c.if-n-gt3.true), omega arith)

pub returns-else-n-gt3 : goal.returns-else-n-gt3
returns-else-n-gt3 c = (rw (more_no c.args.n c.if-n-gt3.false), omega arith)

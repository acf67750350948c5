-- The count of ones gives the number of fields.
use native.Mathlib.Omega.{arith}
use Rattle.sheet.proofs.Fields.{fields}
use Rattle.sheet.proofs.reader.behind.Goals as goal

pub overflow_sub-result : goal.overflow_sub-result
overflow_sub-result c = omega (arith, fields c.args.map c.requires.0)

pub overflow_sub-result-2 : goal.overflow_sub-result-2
overflow_sub-result-2 c = omega (arith, fields c.args.map c.requires.0)

pub returns : goal.returns
returns c = omega (arith, fields c.args.map c.requires.0)

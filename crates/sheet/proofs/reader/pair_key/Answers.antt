-- The lower corner goes first.
use native.Mathlib.Omega.{arith}
use Rattle.sheet.proofs.Normal.{lower_first_same}
use Rattle.sheet.proofs.Pairs.{lower_above}
use Rattle.sheet.proofs.reader.pair_key.Goals as goal

pub returns-then-a-b : goal.returns-then-a-b
returns-then-a-b c = rw (← c.get16-a.ensures.0, ← c.get16-b.ensures.0, lower_first_same (c.get16-a.result, c.get16-b.result) (omega (arith, c.if-a-b.true))) c.edge_key.ensures

pub returns-else-a-b : goal.returns-else-a-b
returns-else-a-b c = rw (← c.get16-a.ensures.0, ← c.get16-b.ensures.0, lower_above _ _ c.if-a-b.false) c.edge_key-else-a-b.ensures

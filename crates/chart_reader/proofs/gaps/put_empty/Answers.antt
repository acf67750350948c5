use Rattle.std.proofs.Common.{arith}
use Rattle.nearest.proofs.Seeking.{first_at, last_at}
use Rattle.chart_reader.proofs.gaps.put_empty.Goals as goal

pub overflow_add-gaps : goal.overflow_add-gaps
overflow_add-gaps c = omega (arith, c.requires.room c.loop-i.i (omega arith), last_at c.args.spans.now c.loop-i.i)

pub returns : goal.returns
returns c = λ k h. rw (first_at c.loop-i.gaps k, last_at c.loop-i.gaps k, last_at c.args.spans.now k) (c.loop-i.invariant k (omega arith))

-- The corners, and the word by whether their key is that of a diagonal.
use Rattle.chart_text.proofs.Words.{bend_put, side_put}
use Rattle.chart_text.proofs.strokes.put_edge.Goals as goal

pub returns-then-is_diagonal : goal.returns-then-is_diagonal
returns-then-is_diagonal c =
    let whole =
    let key = rw c.key.ensures at (c.is_diagonal.ensures.yes c.if-is_diagonal.true) in
    bend_put c.args.n c.args.a c.args.b c.requires.1 c.requires.2 c.put_field-c.ensures.text c.put_field-d.ensures.text key c.put_word.ensures in
    record { text = whole.0; within = whole.1 }

pub returns : goal.returns
returns c =
    let whole =
    let key = rw c.key.ensures at (c.is_diagonal.ensures.no c.if-is_diagonal.false) in
    side_put c.args.n c.args.a c.args.b c.requires.1 c.requires.2 c.put_field-c.ensures.text c.put_field-d.ensures.text key c.put_word-2.ensures in
    record { text = whole.0; within = whole.1 }

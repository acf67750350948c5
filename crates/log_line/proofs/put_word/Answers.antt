-- What `copy_from_slice` leaves is the word, stored.
use Rattle.std.proofs.Common.{arith}
use Rattle.lists.proofs.Stores.{sets_mid}
use Rattle.log_line.proofs.put_word.Goals as goal

pub returns : goal.returns
returns c =
    let word = c.args.word.now in
    record { bytes = rw c.copy_from_slice.ensures.after (sets_mid c.args.at _ c.args.out.now word (omega arith) c.requires); end = omega arith }

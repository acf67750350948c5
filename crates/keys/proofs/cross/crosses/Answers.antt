-- The test on the tables, by the laws of Crosses.antt.
use borrow.Author.Tests.{not-true, not-false}
use native.Mathlib.Omega.{arith}
use Rattle.keys.proofs.Crosses.{apex_below, reaches_free, fails_cross}
use Rattle.keys.proofs.cross.crosses.Goals as goal

pub reaches-requires : goal.reaches-requires
reaches-requires c =
    record { apexes = λ j h. omega (arith, apex_below c.args.n c.args.keys.now c.requires.part c.apexes.new.top c.apexes.new.apex c.apexes.ensures.tops c.apexes.ensures.apexes j h, c.apexes.auto.top); sizes = omega (arith, c.apexes.auto.apex) }

pub returns : goal.returns
returns c =
    let keys = c.args.keys.now in
    let n = c.args.n in record { no = λ h. reaches_free n keys c.requires.part c.apexes.new.top c.apexes.new.apex c.apexes.ensures.tops c.apexes.ensures.apexes (c.reaches.ensures.yes (not-false _ h)); yes = λ h. fails_cross n keys c.requires.part c.apexes.new.top c.apexes.new.apex c.apexes.ensures.tops c.apexes.ensures.apexes c.requires.sizes.1 (c.reaches.ensures.no (not-true _ h)) }

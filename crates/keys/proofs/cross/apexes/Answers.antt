use Rattle.std.proofs.Common.{◌<◌, length, refl, arith}
use Rattle.keys.proofs.Apexes.{tops_begin, scanned_next, diagonal_at}
use Rattle.keys.proofs.cross.apexes.Goals.{After-low-u}
use Rattle.keys.proofs.cross.apexes.Goals as goal

within : (c : After-low-u) → c.low-u.result < length c.loop-j.top
within c =
    omega (arith, diagonal_at c.args.n c.args.keys.now c.requires.part c.loop-j.j c.loop-j-test.true, c.requires.sizes.0, c.loop-j.invariant.tops_size)

pub loop-j-init : goal.loop-j-init
loop-j-init c = record {
  upto = omega arith;
  tops_size = omega arith;
  apex_size = refl;
  tops = tops_begin c.args.n c.begin.new.top c.requires.sizes.0 c.begin.ensures;
  apexes = λ i h. absurd (omega arith);
}

pub bounds-top-u : goal.bounds-top-u
bounds-top-u c = within (goal.at.bounds-top-u c).After-low-u

pub bounds-top-u-in-loop-j : goal.bounds-top-u-in-loop-j
bounds-top-u-in-loop-j c = within (goal.at.bounds-top-u-in-loop-j c).After-low-u

pub loop-j-preserved : goal.loop-j-preserved
loop-j-preserved c =
    rw (c.low-u.ensures, c.high.ensures.0)
    (scanned_next c.args.n c.args.keys.now c.requires.part c.loop-j.j c.loop-j-test.true (length c.args.apex.now) c.loop-j.top c.loop-j.apex c.loop-j.invariant c.requires.sizes.0 c.requires.sizes.2)

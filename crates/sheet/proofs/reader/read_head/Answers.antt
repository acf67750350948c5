-- Each refusal by its law of Asks.antt.
use mathlib.Core.Path.{◌≡◌}
use mathlib.Core.List.{List}
use Prim.Native.Nat.{ℕ}
use native.Mathlib.Omega.{arith}
use lib.ListN.{get_or}
use Rattle.sheet.specs.Sheet.{bit1, more}
use Rattle.sheet.proofs.Asks.{refused_1a, refused_1b, refused_1c, refused_2a, refused_3a, refused_3b}
use Rattle.sheet.proofs.Frame.{Tested, disagrees, inexact}
use Rattle.sheet.proofs.reader.read_head.Goals.{Else-n-gt-CORNERS, Else-not-agrees}
use Rattle.sheet.proofs.reader.read_head.Goals as goal

-- once the count is in range
abbrev sheet : Else-n-gt-CORNERS → List ℕ
sheet c = c.args.sheet.now

tested : (c : Else-n-gt-CORNERS) → Tested (sheet c) c.get16-n.result
tested c = record { some_bytes = omega arith; low = omega arith; small = omega arith; three = omega arith; count = c.get16-n.ensures.0; least = omega arith; most = omega arith }

-- once the map byte agrees with the count
agrees : (c : Else-not-agrees) → bit1 (get_or c.args.sheet.now 0 0) ≡ more c.get16-n.result
agrees c = c.agrees.ensures.yes c.if-not-agrees.false

pub returns-then-size-eq0 : goal.returns-then-size-eq0
returns-then-size-eq0 c = refused_1a c.args.sheet.now (omega arith)

pub returns-then-map-eq0 : goal.returns-then-map-eq0
returns-then-map-eq0 c = refused_1b c.args.sheet.now (omega arith)

pub returns-then-map-ge16 : goal.returns-then-map-ge16
returns-then-map-ge16 c = refused_1c c.args.sheet.now (omega arith)

pub returns-then-size-lt3 : goal.returns-then-size-lt3
returns-then-size-lt3 c = refused_2a c.args.sheet.now (omega arith) (omega arith) (omega arith) (omega arith)

pub returns-then-n-lt3 : goal.returns-then-n-lt3
returns-then-n-lt3 c = refused_3a c.args.sheet.now (omega arith) (omega arith) (omega arith) (omega arith) (omega (arith, c.get16-n.ensures))

pub returns-then-n-gt-CORNERS : goal.returns-then-n-gt-CORNERS
returns-then-n-gt-CORNERS c = refused_3b c.args.sheet.now (omega arith) (omega arith) (omega arith) (omega arith) (omega (arith, c.get16-n.ensures))

pub returns-then-not-agrees : goal.returns-then-not-agrees
returns-then-not-agrees c = disagrees (tested (goal.at.returns-then-not-agrees c).Else-n-gt-CORNERS) (c.agrees.ensures.no c.if-not-agrees.true)

pub returns-then-size-length_for : goal.returns-then-size-length_for
returns-then-size-length_for c =
    inexact (tested (goal.at.returns-then-size-length_for c).Else-n-gt-CORNERS) (agrees (goal.at.returns-then-size-length_for c).Else-not-agrees) c.length_for.result c.length_for.ensures c.if-size-length_for.true

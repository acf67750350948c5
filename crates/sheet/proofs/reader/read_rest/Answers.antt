-- The tests of the pairs in their order, and that of the angles, by the laws of Found.antt.
use mathlib.Core.Path.{ap, sym, ◌∙◌}
use Prim.Native.Nat.{◌-◌}
use native.Mathlib.Omega.{arith}
use lib.Seq.{length-take-le}
use Rattle.sheet.specs.Sheet.{held}
use Rattle.sheet.proofs.Found.{small_all, room, no_diagonals, Ordered, first_count, keys_said, repeated, in_order, crossing, forbidden, read}
use Rattle.sheet.proofs.reader.read_rest.Goals.{After-order}
use Rattle.sheet.proofs.reader.read_rest.Goals as goal

-- the bends, when they are put in order
ordered : (c : After-order) → Ordered c.args.sheet.now c.args.h c.read_bends.new.bends c.order.new.bends c.order.new.keys
ordered c = record {
  head = c.requires.head;
  listed = c.read_bends.ensures.yes c.if-not-read_bends.false;
  long = omega (arith, c.requires.sizes, c.read_bends.auto.bends);
  order = c.order.ensures.sorted;
  keys = c.order.ensures.beside;
  kept = c.order.ensures.kept;
}

pub read_bends-requires : goal.read_bends-requires
read_bends-requires c = let R = room c.requires.head in omega (arith, R, c.requires.sizes)

pub returns-then-not-read_bends-clause-part : goal.returns-then-not-read_bends-clause-part
returns-then-not-read_bends-clause-part c = sym (no_diagonals c.requires.head (c.read_bends.ensures.no c.if-not-read_bends.true))

pub order-requires : goal.order-requires
order-requires c =
    let R = room c.requires.head in
    let L = c.read_bends.ensures.yes c.if-not-read_bends.false in
    let b = length-take-le (c.args.h.n - 3) c.read_bends.new.bends (omega (arith, R, c.requires.sizes, c.read_bends.auto.bends)) in
    let k = length-take-le (c.args.h.n - 3) c.args.keys.now (omega (arith, R, c.requires.sizes)) in
    record { sizes = (omega (arith, R, b), omega (arith, b, k)); within = small_all c.args.h.n _ R.1 (rw L.edges L.diagonals) }

pub returns-then-not-order-clause-part : goal.returns-then-not-order-clause-part
returns-then-not-order-clause-part c =
    sym (repeated (ordered (goal.at.returns-then-not-order-clause-part c).After-order) (sym c.if-not-order.true ∙ c.order.ensures.once))

pub crosses-requires : goal.crosses-requires
crosses-requires c =
    let F = ordered (goal.at.crosses-requires c).After-order in
    record { part = in_order F c.args.keys.now (sym c.if-not-order.false ∙ c.order.ensures.once); sizes = omega (arith, room F.head, first_count F c.args.keys.now) }

pub returns-then-crosses-clause-part : goal.returns-then-crosses-clause-part
returns-then-crosses-clause-part c =
    let up = sym c.if-not-order.false ∙ c.order.ensures.once in
    sym (crossing (ordered (goal.at.returns-then-crosses-clause-part c).After-order) c.args.keys.now up (c.crosses.ensures.yes c.if-crosses.true))

pub returns-then-not-fits-clause-part : goal.returns-then-not-fits-clause-part
returns-then-not-fits-clause-part c =
    let up = sym c.if-not-order.false ∙ c.order.ensures.once in
    let free = c.crosses.ensures.no c.if-crosses.false in
    sym (forbidden (ordered (goal.at.returns-then-not-fits-clause-part c).After-order) c.args.keys.now up free (c.allowed-fits.ensures.no c.if-not-fits.true))

pub new-requires : goal.new-requires
new-requires c =
    let up = sym c.if-not-order.false ∙ c.order.ensures.once in
    let free = c.crosses.ensures.no c.if-crosses.false in
    (read (ordered (goal.at.new-requires c).After-order) c.args.keys.now up free (c.allowed-fits.ensures.yes c.if-not-fits.false)).0

pub returns-clause-part : goal.returns-clause-part
returns-clause-part c =
    let F = ordered (goal.at.returns-clause-part c).After-order in
    let up = sym c.if-not-order.false ∙ c.order.ensures.once in
    let free = c.crosses.ensures.no c.if-crosses.false in
    ap held c.new.ensures ∙ (read F c.args.keys.now up free (c.allowed-fits.ensures.yes c.if-not-fits.false)).1

pub returns-clause-keys : goal.returns-clause-keys
returns-clause-keys c = rw c.new.ensures (keys_said (ordered (goal.at.returns-clause-keys c).After-order) c.args.keys.now)

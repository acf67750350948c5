-- Flat bends have the keys that they are made of.
use mathlib.Core.Path.{◌≡◌, ◌∙◌}
use mathlib.Core.List.{map}
use Prim.Native.Nat.{◌-◌}
use native.Mathlib.Omega.{arith}
use lib.ListN.{length, take}
use Rattle.keys.specs.Keys.{flat_bend}
use Rattle.sheet.proofs.Hand.{flat_same, flat_count, flat_small}
use Rattle.sheet.proofs.part.Part.flat.Goals.{After-flat_bends}
use Rattle.sheet.proofs.part.Part.flat.Goals as goal

front : (c : After-flat_bends) → take (c.args.n - 3) c.flat_bends.new.bends ≡ map flat_bend c.args.keys.now
front c = let e : c.args.n - 3 ≡ length c.args.keys.now = omega (arith, flat_count c.args.n c.args.keys.now c.requires.part) in rw e c.flat_bends.ensures

pub flat_bends-requires : goal.flat_bends-requires
flat_bends-requires c = (c.requires.room, flat_small c.args.n c.args.keys.now c.requires.part)

pub new-requires : goal.new-requires
new-requires c = rw (flat_same c.args.n c.args.keys.now _ (front (goal.at.new-requires c).After-flat_bends)) c.requires.part

pub returns : goal.returns
returns c = c.new.ensures ∙ flat_same c.args.n c.args.keys.now _ (front (goal.at.returns c).After-flat_bends)

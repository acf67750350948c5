-- Each rule keeps a valid polygon valid (`rule_valid`).
use mathlib.Core.Path.{◌≡◌}
use Rattle.polygon.specs.Polygon.{Polygon, Valid}
use Rattle.sheet.specs.Sheet.{held}
use Rattle.edit.specs.Rules.{Edit, add_ear, remove_ear, flip, rule}
use Rattle.edit.proofs.Rule.{Takes, given, rule_taken}
use Rattle.edit.proofs.Add.{add_valid}
use Rattle.edit.proofs.Remove.{remove_valid}
use Rattle.edit.proofs.Flipped.{flip_valid}

pub given_valid : (e : Edit) (p : Polygon) → Valid p → Takes e p → Valid (given e p)
given_valid (add_ear i) p A t = add_valid p i A t
given_valid (remove_ear k) p A t = remove_valid p k A t
given_valid (flip a b) p A t = flip_valid p a b A t

pub rule_valid : (e : Edit) (p : Polygon) {q : Polygon} → rule e p ≡ held q → Valid p → Valid q
rule_valid e p r A = let (t, g) = rule_taken e p r in rw g (given_valid e p A t)

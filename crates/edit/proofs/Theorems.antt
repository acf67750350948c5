-- The theorems of this crate in one place. To be read with specs/Rules.antt (the edit rules), specs/Model.antt (the plain part) and specs/Calls.antt (the operations on bytes).
use mathlib.Core.Path.{◌≡◌}
use mathlib.Core.Logic.{◌⊎◌, ◌↔◌}
use mathlib.Core.List.{List, [], ◌∷◌}
use Prim.Native.Nat.{ℕ, suc, ◌≤◌, ◌<◌}
use Rattle.lists.specs.Lists.{Mem}
use Rattle.polygon.specs.Polygon.{Edge, Side, Joined, Polygon, Valid}
use Rattle.polygon.specs.Order.{remove, insert, lower_first}
use Rattle.polygon.specs.Carried.{angle_at}
use Rattle.sheet.specs.Sheet.{held, angled, read_sheet}
use Rattle.sheet.specs.Refusals.{RefusedBy}
use Rattle.edit.specs.Rules.{Edit, add_ear, remove_ear, flip, up, down, both, entering, neighbours, common, flat_at, rule, rule_tests}
use Rattle.edit.specs.Calls.{Call}
use Rattle.edit.proofs.Rule as rules
use Rattle.edit.proofs.Refusals as refusals
use Rattle.edit.proofs.Keeps as keeps
use Rattle.edit.proofs.Reading as reading
use Rattle.edit.proofs.Remove as ears
use Rattle.edit.proofs.Flipped as flips
use Rattle.edit.proofs.Angles as angles
use Rattle.edit.proofs.List as list

-- An edit that is taken gives a valid part.
pub edit_keeps_valid : (e : Edit) (p q : Polygon) → Valid p → rule e p ≡ held q → Valid q
edit_keeps_valid e p q A r = keeps.rule_valid e p r A

-- An edit that is refused is refused by a number of its rule.
pub rule_refuses : (e : Edit) (p : Polygon) → RefusedBy (rule_tests e) (rule e p)
rule_refuses = refusals.rule_refuses

-- The two neighbours of corner k are where its sides lead.
pub neighbours_read : (n k x : ℕ) → 3 ≤ n → k < n → x < n → (Side n x k ⊎ Side n k x) ↔ ((x ≡ (neighbours n k).0) ⊎ (x ≡ (neighbours n k).1))
neighbours_read = reading.neighbours_read

-- When a corner is taken off, the diagonal between its neighbours is there to be taken.
pub ear_diagonal : (p q : Polygon) (k : ℕ) → Valid p → rule (remove_ear k) p ≡ held q → Mem (neighbours p.n k) p.ds
ear_diagonal p q k A r = ears.ear_diagonal p k A (rules.rule_taken (remove_ear k) p r).0

-- Taking off the corner that was added gives the part back.
pub remove_added : (p q : Polygon) (i : ℕ) → Valid p → rule (add_ear i) p ≡ held q → rule (remove_ear (suc i)) q ≡ held p
remove_added p q i A r = ears.remove_added p i A r

-- The common corners of an edge are those that a side or diagonal joins to both its ends; a diagonal of a valid part has exactly two.
pub common_reads : (n : ℕ) (ds : List Edge) (e : Edge) (z : ℕ) → Mem z (common n ds e) ↔ ((z < n) × Joined n ds z e.0 × Joined n ds z e.1)
common_reads = reading.common_reads

pub two_common : (p : Polygon) (e : Edge) → Valid p → Mem e p.ds → (x : ℕ) × (y : ℕ) × (x < y) × (common p.n p.ds e ≡ x ∷ (y ∷ []))
two_common = flips.two_common

-- Turning a diagonal puts one diagonal that was not there in its place, and turning that one gives the part back, but for the angle 0 at the diagonal.
pub flip_back : (p q : Polygon) (a b : ℕ) → Valid p → rule (flip a b) p ≡ held q
    → (f : Edge) × (q.ds ≡ insert f (remove (lower_first (a, b)) p.ds)) × (¬ Mem f p.ds) × (rule (flip f.0 f.1) q ≡ held (flat_at (lower_first (a, b)) p))
flip_back p q a b A r = flips.flip_back p a b A r

-- A diagonal may be named in either order.
pub flip_either : (a b : ℕ) (p : Polygon) → rule (flip a b) p ≡ rule (flip b a) p
flip_either = reading.flip_either

-- Request (xi). An edit leaves each diagonal its angle: a turned one was not there before (`flip_back`) and so starts at 0 (`angle_none` of the crate polygon),
pub turn_angles : (p q : Polygon) (a b : ℕ) → Valid p → rule (flip a b) p ≡ held q → (d : Edge) → Mem d q.ds → angle_at q d ≡ angle_at p d
turn_angles = angles.turn_angles

-- the diagonal of an added corner starts at 0 and the others keep theirs under their new numbers,
pub add_angles : (p q : Polygon) (i : ℕ) → Valid p → rule (add_ear i) p ≡ held q
    → ((d : Edge) → Mem d p.ds → angle_at q (both (up i) d) ≡ angle_at p d) × (angle_at q (entering p.n i) ≡ 0)
add_angles = angles.add_angles

-- and when a corner is taken off all keep theirs but the one that becomes a side.
pub off_angles : (p q : Polygon) (k : ℕ) → Valid p → rule (remove_ear k) p ≡ held q → 3 < q.n
    → (d : Edge) → Mem d p.ds → ¬ (d ≡ neighbours p.n k) → angle_at q (both (down k) d) ≡ angle_at p d
off_angles = angles.off_angles

-- A result has angles exactly when the part before has and its own n is over 3.
pub result_angled : (e : Edit) (p q : Polygon) → rule e p ≡ held q → (angled q.angles ≡ 1) ↔ ((angled p.angles ≡ 1) × (3 < q.n))
result_angled = angles.result_angled

-- THE LIST OF EDITS (demand 3, as far as it needs no chart). Calls of the three operations, from any accepted sheet, one after another, each on what the last taken one wrote:
-- the numbers answered are the plain part's, and the sheet left is the plain part's normal sheet, or the first sheet if no edit was taken (`Follows` in List.antt).
pub list_of_edits : (s : List ℕ) (p : Polygon) → read_sheet s ≡ held p → (cs : List Call) → list.Follows s p cs
list_of_edits = list.list_of_edits

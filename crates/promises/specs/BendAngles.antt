-- Request (xi), "Bend angles on the sheet", sentence by sentence. A part's `angles` are `none`, or `each vs` with one for each of its diagonals, in their order (crate polygon, specs/Angles.antt).
-- `carried es xs ds` are the angles of the pairs ds, if those of the pairs es are xs; `angle_at p d` is the angle of the diagonal d, 0 for what is none (specs/Carried.antt there).
-- A part that is joined of p and q on side i is `glue i p q` (crate seam, specs/Join.antt); the halves of p at its diagonal c are `inner_part c p` and `rest_part c p` (crate cut, specs/Cut.antt).
use Rattle.std.specs.Prelude.{◌≡◌, ◌⊎◌, ◌↔◌, List, ℕ, ◌+◌, ◌*◌, ◌-◌, ◌≤◌, ◌<◌, length, get_or}
use Rattle.lists.specs.Lists.{Mem, Sub}
use Rattle.polygon.specs.Angles.{InRange, Allowed}
use Rattle.polygon.specs.Polygon.{Edge, Polygon, bare, Valid}
use Rattle.polygon.specs.Carried.{carried, angle_at}
use Rattle.codec.specs.Numbers.{get16}
use Rattle.codec.specs.Answer.{write}
use Rattle.codec.specs.TwoOutputs.{write_both}
use Rattle.sheet.specs.Sheet.{bit3, field, listed_angles, angled, refused, held, read_sheet, normal_sheet, ordered}
use Rattle.sheet.specs.Listing.{pairs_of}
use Rattle.sheet.specs.Framed.{Paired}
use Rattle.edit.specs.Rules.{Edit, add_ear, remove_ear, flip, up, down, both, entering, neighbours, flat_at, rule}
use Rattle.edit.specs.Calls.{edited}
use Rattle.seam.specs.Join.{laid, matched, seam, glue, joined_sheets}
use Rattle.cut.specs.Cut.{inner_part, rest_part, cut_sheet}
use Rattle.chart_reader.specs.Reader.{chart_read}
use Rattle.promises.specs.SameDrawing.{SameDrawing}

-- bit 3 of the map byte stands
abbrev pub Bit3 : List ℕ → Type 0
Bit3 s = bit3 (get_or s 0 0) ≡ 1

-- the part has angles
abbrev pub Angled : Polygon → Type 0
Angled p = angled p.angles ≡ 1

pub record BendAngles : Type 0 where
  -- "bit 3 stands for signed angles, .., one for each pair in the listed order;": of a sheet that holds p, it stands exactly if p has angles, and each diagonal has the angle that is listed with it
  pub stands : (s : List ℕ) (p : Polygon) → read_sheet s ≡ held p → Bit3 s ↔ Angled p
  pub listed : (s : List ℕ) (p : Polygon) → read_sheet s ≡ held p → p.angles ≡ carried (pairs_of s p.n) (listed_angles s p.n) p.ds
  -- "setting in order moves each with its pair.": two sheets that list the same pairs, in any order, either corner first, the second each with the angle that the first lists with it
  pub moves : (s t : List ℕ) (p q : Polygon) → read_sheet s ≡ held p → read_sheet t ≡ held q
      → Sub (pairs_of s p.n) (pairs_of t q.n) → Sub (pairs_of t q.n) (pairs_of s p.n)
      → listed_angles t q.n ≡ carried (pairs_of s p.n) (listed_angles s p.n) (pairs_of t q.n)
      → ordered s ≡ ordered t
  -- "An angle may be 0; none may be missing when the bit stands, and with n = 3 the bit is clear."; none is "outside −1,800 to 1,800"
  pub zero : InRange 0
  pub allowed : (s : List ℕ) (p : Polygon) → read_sheet s ≡ held p → Allowed p.n p.angles
  -- "A turned diagonal starts at 0,": after a turn each diagonal has the angle that it had, and one that was none has 0
  pub turned : (p q : Polygon) (a b : ℕ) → Valid p → rule (flip a b) p ≡ held q → (d : Edge) → Mem d q.ds → angle_at q d ≡ angle_at p d
  pub none_before : (p : Polygon) (d : Edge) → ¬ Mem d p.ds → angle_at p d ≡ 0
  -- "as does the diagonal of an added corner ..,": the others keep theirs under their new numbers
  pub added : (p q : Polygon) (i : ℕ) → Valid p → rule (add_ear i) p ≡ held q
      → ((d : Edge) → Mem d p.ds → angle_at q (both (up i) d) ≡ angle_at p d) × (angle_at q (entering p.n i) ≡ 0)
  -- "or a seam,": the others keep theirs under their new numbers; "diagonals that had no angle then start at 0": `angle_at` is 0 of a part without angles
  pub joined : (i : ℕ) (p q : Polygon) → Valid p → Valid q
      → ((d : Edge) → Mem d p.ds → angle_at (glue i p q) (both (matched q.n i) d) ≡ angle_at p d)
      × ((d : Edge) → Mem d q.ds → angle_at (glue i p q) (both (laid i) d) ≡ angle_at q d)
      × (angle_at (glue i p q) (seam q.n i) ≡ 0)
  -- "and an angle is dropped when its diagonal becomes a side.": the others keep theirs, if the result is no triangle
  pub off : (p q : Polygon) (k : ℕ) → Valid p → rule (remove_ear k) p ≡ held q → 3 < q.n
      → (d : Edge) → Mem d p.ds → ¬ (d ≡ neighbours p.n k) → angle_at q (both (down k) d) ≡ angle_at p d
  -- "Cut halves keep theirs;": each diagonal of a half has the angle that it had under its old numbers
  pub cut : (c : Edge) (p : Polygon) → Valid p → Mem c p.ds
      → ((d : Edge) → Mem d (inner_part c p).ds → angle_at (inner_part c p) d ≡ angle_at p (both (laid c.0) d))
      × ((d : Edge) → Mem d (rest_part c p).ds → angle_at (rest_part c p) d ≡ angle_at p (both (matched (inner_part c p).n c.0) d))
  -- "joined again they give the old part but for a 0 on the seam, or without angles when both halves are triangles.": they are triangles exactly if the old part has four corners
  pub joined_again : (c : Edge) (p : Polygon) → Valid p → Mem c p.ds → 4 < p.n → glue c.0 (rest_part c p) (inner_part c p) ≡ flat_at c p
  pub triangles_again : (c : Edge) (p : Polygon) → Valid p → Mem c p.ds → (inner_part c p).n ≡ 3 → (rest_part c p).n ≡ 3
      → glue c.0 (rest_part c p) (inner_part c p) ≡ bare p
  pub both_triangles : (c : Edge) (p : Polygon) → Valid p → Mem c p.ds → (((inner_part c p).n ≡ 3) × ((rest_part c p).n ≡ 3)) ↔ (p.n ≤ 4)
  -- "A result has bit 3 exactly when a sheet it comes from has and its own n is over 3": of Set in order, of the edits, of joining, where either sheet counts and n is always over 3, of cutting, of each half, and of Read a chart, whose charts have no angles
  pub order_bit : (s t : List ℕ) → ordered s ≡ write t → Bit3 t ↔ Bit3 s
  pub edit_bit : (e : Edit) (s t : List ℕ) → edited e s ≡ write t → Bit3 t ↔ (Bit3 s × (3 < get16 t 1))
  pub join_bit : (s t u : List ℕ) (i : ℕ) → joined_sheets s t i ≡ write u → (Bit3 u ↔ (Bit3 s ⊎ Bit3 t)) × (3 < get16 u 1)
  pub cut_bit : (s t u : List ℕ) (a b : ℕ) → cut_sheet s a b ≡ write_both t u → (Bit3 t ↔ (Bit3 s × (3 < get16 t 1))) × (Bit3 u ↔ (Bit3 s × (3 < get16 u 1)))
  pub chart_bit : (c t : List ℕ) → chart_read c ≡ write t → ¬ Bit3 t
  -- "The plain part keeps bit 3 and the angles by these same rules,": `DemandThree`, whose plain part has the rules above; "and its 8 counts them."
  pub size : (p : Polygon) → Valid p → length (normal_sheet p) ≡ 3 + 4 * (p.n - 3) + field (angled p.angles) (2 * (p.n - 3))
  -- "A program of the old edition refuses such a sheet by 1": it has a bit from 3 to 7
  pub old_edition : (s : List ℕ) → Bit3 s → 8 ≤ get_or s 0 0
  -- "The chart doesn't depend on angles.": nor do the plan and the line
  pub same : (s t : List ℕ) (p q : Polygon) → read_sheet s ≡ held p → read_sheet t ≡ held q → p.n ≡ q.n → p.ds ≡ q.ds → SameDrawing s t
  -- "Refusal 23: an angle outside −1,800 to 1,800, or bit 3 with n = 3; right after 7": exactly of a sheet that passes the tests up to 7
  pub by_23 : (s : List ℕ) → (read_sheet s ≡ refused 23) ↔ (Paired s × (¬ Allowed (get16 s 1) (listed_angles s (get16 s 1))))
  -- "Refusal 1 now covers bits 4 to 7."
  pub by_1 : (s : List ℕ) → 16 ≤ get_or s 0 0 → read_sheet s ≡ refused 1

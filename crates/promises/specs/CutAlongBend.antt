-- Request (iii), "Cutting along a bend", sentence by sentence. `cut_sheet s a b` is the operation on a sheet s and two numbers, `inner_part c p` and `rest_part c p` are the two parts that the part p gives at its diagonal c, lower corner first: c.0 is a, c.1 is b
-- (crate cut, specs/Cut.antt). `laid` and `matched` are the numbers that joining gives the corners of both (crate seam, specs/Join.antt), `pruned` is in specs/Pruned.antt of the crate cut.
-- "Both halves keep the part number" lapses (request (xii), `PartNumbersGo`); the angles of cut halves are request (xi)'s (`BendAngles`).
use Rattle.std.specs.Prelude.{◌≡◌, ◌⊎◌, ◌↔◌, List, ℕ, suc, ◌+◌, ◌-◌, ◌≤◌, ◌<◌, length}
use Rattle.lists.specs.Lists.{Mem}
use Rattle.polygon.specs.Angles.{none}
use Rattle.polygon.specs.Polygon.{Edge, Polygon, Valid, Linked}
use Rattle.polygon.specs.Order.{lower_first}
use Rattle.polygon.specs.Tree.{tree_of, PieceOf}
use Rattle.codec.specs.Answer.{refuse, write, OnlyShort}
use Rattle.codec.specs.TwoOutputs.{refuse_both, write_both, written_both}
use Rattle.sheet.specs.Sheet.{refused, held, read_sheet, normal_sheet, ordered}
use Rattle.edit.specs.Rules.{flip}
use Rattle.edit.specs.Calls.{Call, edited}
use Rattle.seam.specs.Join.{laid, matched, seam, glue, Image, joined_sheets}
use Rattle.cut.specs.Cut.{inner_part, rest_part, cut_sheet, rejoined, cut_back}
use Rattle.cut.specs.Pruned.{pruned}
use Rattle.umbrella.specs.Plan.{levels}
use Rattle.umbrella.specs.Best.{plan_of}
use Rattle.promises.specs.DemandTwo.{OnlyRoom, OurChart}
use Rattle.promises.specs.DemandThree.{DemandThree}

-- a half q of the part p
pub record CutHalf (p q : Polygon) : Type 0 where
  pub valid : Valid q
  -- in normal order: it is read as that part, and Set in order writes it again
  pub reads : read_sheet (normal_sheet q) ≡ held q
  pub normal : ordered (normal_sheet q) ≡ write (normal_sheet q)
  -- "Neither half has more levels than the whole."
  pub levels_most : levels (plan_of q) ≤ levels (plan_of p)
  -- a half is a part as any other: demand 2 on the sheet that is written, and demand 3 from it, with any list of edits
  pub room : OnlyRoom (normal_sheet q) q
  pub chart : OurChart (normal_sheet q) q
  pub edits : (cs : List Call) → DemandThree (normal_sheet q) q cs

-- the two parts that p gives at its diagonal c
pub record CutParts (c : Edge) (p : Polygon) : Type 0 where
  pub inner : CutHalf p (inner_part c p)
  pub rest : CutHalf p (rest_part c p)
  -- "corners a to b, .., and the rest": their corners are those of the whole, the two ends of the cut counted in both
  pub inner_corners : (inner_part c p).n + c.0 ≡ suc c.1
  pub rest_corners : (rest_part c p).n + (inner_part c p).n ≡ p.n + 2
  -- the sides and diagonals of the whole are exactly those of the rest and those of the inner part, under their old numbers
  pub edges : (x y : ℕ) → Linked p.n p.ds x y ↔ (Image (matched (inner_part c p).n c.0) (rest_part c p) x y ⊎ Image (laid c.0) (inner_part c p) x y)
  -- "rooted at the cut,": the cut is the inner part's root edge and the rest's side a, for these two fall on the seam (`JoinedPart`, `falls_on`)
  pub root : c ≡ seam (inner_part c p).n c.0
  pub side : suc c.0 < (rest_part c p).n
  -- "with its old root.": in the tree of the whole the inner part's is the piece at the cut, and the rest's has a leaf in its place
  pub trees : (q : PieceOf p.n p.ds c.0 (tree_of (inner_part c p).n (inner_part c p).ds)) × (tree_of (rest_part c p).n (rest_part c p).ds ≡ pruned q)
  -- "Joining them again at the same seam gives the part set in order.": the rest first, and the inner part on its side a; what becomes of angles is in `rejoined`, and a part without them is given as it is
  pub again : joined_sheets (normal_sheet (rest_part c p)) (normal_sheet (inner_part c p)) c.0 ≡ write (normal_sheet (rejoined c p))
  pub bare_again : p.angles ≡ none → rejoined c p ≡ p

-- For a sheet s, any two numbers and any two outputs:
pub record CutAlongBend (s : List ℕ) (a b : ℕ) : Type 0 where
  -- "Refusals are those of turning a diagonal,"
  pub as_turning : (k : ℕ) → (cut_sheet s a b ≡ refuse_both k) ↔ (edited (flip a b) s ≡ refuse k)
  pub sheet_refused : (k : ℕ) → read_sheet s ≡ refused k → cut_sheet s a b ≡ refuse_both k
  pub by_9 : (p : Polygon) → read_sheet s ≡ held p → (p.n ≤ a) ⊎ (p.n ≤ b) → cut_sheet s a b ≡ refuse_both 9
  pub by_13 : (p : Polygon) → read_sheet s ≡ held p → a < p.n → b < p.n → ¬ Mem (lower_first (a, b)) p.ds → cut_sheet s a b ≡ refuse_both 13
  pub either_order : cut_sheet s a b ≡ cut_sheet s b a
  -- "A piece .. is cut along one of its diagonals (a,b). Two sheets come out:"
  pub taken : (p : Polygon) → read_sheet s ≡ held p → Mem (lower_first (a, b)) p.ds
      → (cut_sheet s a b ≡ write_both (normal_sheet (inner_part (lower_first (a, b)) p)) (normal_sheet (rest_part (lower_first (a, b)) p))) × CutParts (lower_first (a, b)) p
  -- "with 8 if either output is too short.": only that can still stop it
  pub only_8 : (p : Polygon) → read_sheet s ≡ held p → Mem (lower_first (a, b)) p.ds → (inner rest : List ℕ)
      → OnlyShort ((length inner < length (normal_sheet (inner_part (lower_first (a, b)) p))) ⊎ (length rest < length (normal_sheet (rest_part (lower_first (a, b)) p))))
      (written_both (cut_sheet s a b) inner rest).answer.number
  -- And the other way: two sheets that are joined, and cut at the seam, are given back; what becomes of angles is in `cut_back`.
  pub joined_cut : (t : List ℕ) (i : ℕ) (p q : Polygon) → read_sheet s ≡ held p → read_sheet t ≡ held q → suc i < p.n → p.n + q.n - 2 ≤ 1024
      → cut_sheet (normal_sheet (glue i p q)) i (i + (q.n - 1)) ≡ write_both (normal_sheet (cut_back q p.angles)) (normal_sheet (cut_back p q.angles))

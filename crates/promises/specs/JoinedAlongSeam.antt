-- Request (i), "Joining along a seam", sentence by sentence. `joined_sheets s t i` is the operation on the first sheet s, the second sheet t and a side i, `glue i p q` the part that the parts p and q give; `laid` and `matched` are the
-- new numbers of the second's corners and of the first's (crate seam, specs/Join.antt), `graft` is in specs/Graft.antt there. What the request says of the part number lapses (request (xii), `PartNumbersGo`); the angles of joined parts are request (xi)'s (`BendAngles`).
use Rattle.std.specs.Prelude.{◌≡◌, ◌⊎◌, ◌↔◌, List, ℕ, suc, ◌+◌, ◌-◌, ◌≤◌, ◌<◌, length}
use Rattle.lists.specs.Lists.{Mem}
use Rattle.polygon.specs.Polygon.{◌—◌, Polygon, Valid, Linked}
use Rattle.polygon.specs.Tree.{tree_of, PieceOf}
use Rattle.codec.specs.Answer.{refuse, write, written, OnlyShort}
use Rattle.sheet.specs.Sheet.{refused, held, read_sheet, normal_sheet, ordered}
use Rattle.edit.specs.Rules.{add_ear, both}
use Rattle.edit.specs.Calls.{Call, edited}
use Rattle.seam.specs.Join.{laid, matched, seam, glue, Image, joined_sheets}
use Rattle.seam.specs.Graft.{graft}
use Rattle.umbrella.specs.Plan.{levels}
use Rattle.umbrella.specs.Best.{plan_of}
use Rattle.promises.specs.DemandTwo.{OnlyRoom, OurChart}
use Rattle.promises.specs.DemandThree.{DemandThree}

-- the part that p and q give on side i
pub record JoinedPart (i : ℕ) (p q : Polygon) : Type 0 where
  pub valid : Valid (glue i p q)
  pub corners : (glue i p q).n + 2 ≡ p.n + q.n
  -- "so its corner j becomes i+j, .., and the first's later corners move up to match.": its sides and diagonals are exactly those of the first and those of the second under these numbers
  pub edges : (x y : ℕ) → Linked (glue i p q).n (glue i p q).ds x y ↔ (Image (matched q.n i) p x y ⊎ Image (laid i) q x y)
  -- "its last falls on the first part's old corner i+1,": the second's root edge falls on the first's side i
  pub falls_on : both (laid i) (0 — (q.n - 1)) ≡ both (matched q.n i) (i — suc i)
  -- "The seam turns into a diagonal."
  pub seam_there : both (laid i) (0 — (q.n - 1)) ≡ seam q.n i
  pub seam_diagonal : Mem (seam q.n i) (glue i p q).ds
  -- in the tree the second's stands in the place of the leaf that side i is, and so the piece beyond the seam is the second part
  pub tree : tree_of (glue i p q).n (glue i p q).ds ≡ graft i (tree_of p.n p.ds) (tree_of q.n q.ds)
  pub piece : PieceOf (glue i p q).n (glue i p q).ds i (tree_of q.n q.ds)
  -- "The result is in normal order": it is read as that part, and Set in order writes it again
  pub reads : read_sheet (normal_sheet (glue i p q)) ≡ held (glue i p q)
  pub normal : ordered (normal_sheet (glue i p q)) ≡ write (normal_sheet (glue i p q))
  -- "and its levels are at least those of either half"
  pub first_least : levels (plan_of p) ≤ levels (plan_of (glue i p q))
  pub second_least : levels (plan_of q) ≤ levels (plan_of (glue i p q))
  -- "and at most their sum."
  pub sum_most : levels (plan_of (glue i p q)) ≤ levels (plan_of p) + levels (plan_of q)
  -- "Chart and least levels hold of joined parts as of any sheet.": demand 2 on the sheet that is written, and demand 3 from it, with any list of edits, the empty one among them
  pub room : OnlyRoom (normal_sheet (glue i p q)) (glue i p q)
  pub chart : OurChart (normal_sheet (glue i p q)) (glue i p q)
  pub edits : (cs : List Call) → DemandThree (normal_sheet (glue i p q)) (glue i p q) cs

-- For the first sheet s, the second sheet t, any side i and any output:
pub record JoinedAlongSeam (s t : List ℕ) (i : ℕ) : Type 0 where
  -- "The first sheet's refusals come before the second's;"
  pub first_refused : (k : ℕ) → read_sheet s ≡ refused k → joined_sheets s t i ≡ refuse k
  pub second_refused : (p : Polygon) (k : ℕ) → read_sheet s ≡ held p → read_sheet t ≡ refused k → joined_sheets s t i ≡ refuse k
  -- "then 9 also for the root side,"
  pub by_9 : (p q : Polygon) → read_sheet s ≡ held p → read_sheet t ≡ held q → p.n ≤ suc i → joined_sheets s t i ≡ refuse 9
  -- "10 when more than 1,024 corners would result,"
  pub by_10 : (p q : Polygon) → read_sheet s ≡ held p → read_sheet t ≡ held q → suc i < p.n → 1024 < p.n + q.n - 2 → joined_sheets s t i ≡ refuse 10
  -- "The second part's root is laid on side i of the first, i below n−1,": else it is taken, and the joined part is written,
  pub taken : (p q : Polygon) → read_sheet s ≡ held p → read_sheet t ≡ held q → suc i < p.n → p.n + q.n - 2 ≤ 1024
      → (joined_sheets s t i ≡ write (normal_sheet (glue i p q))) × JoinedPart i p q
  -- "then 8.": only a short output can still stop it
  pub only_8 : (p q : Polygon) → read_sheet s ≡ held p → read_sheet t ≡ held q → suc i < p.n → p.n + q.n - 2 ≤ 1024
      → (out : List ℕ) → OnlyShort (length out < length (normal_sheet (glue i p q))) (written (joined_sheets s t i) out).number
  -- A triangle joined on a side other than the root is a corner added there, byte for byte, taken or refused.
  pub triangle : (q : Polygon) → read_sheet t ≡ held q → q.n ≡ 3 → ((p : Polygon) → read_sheet s ≡ held p → ¬ (suc i ≡ p.n)) → joined_sheets s t i ≡ edited (add_ear i) s

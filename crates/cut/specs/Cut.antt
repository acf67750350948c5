-- Request (iii), "Cutting along a bend": "A piece too long for the brake is cut along one of its diagonals (a,b). Two sheets come out: corners a to b, rooted at the cut, and the rest with its old root."
-- Here and below c is the cut, lower corner first: a is c.0, b is c.1. The two parts that come out are the inner part and the rest. The operation on sheets stands at the end.
use Rattle.std.proofs.Math.Logic.Dec.{and as dec_and}
use Rattle.std.specs.Prelude.{List, [], ◌∷◌, map, ℕ, ◌+◌, ◌-◌, ◌≤◌}
use Rattle.std.proofs.Math.Decide.{dec_le, dec_lt}
use Rattle.lists.specs.Lists.{choose, keep, mem?, not?}
use Rattle.polygon.specs.Angles.{Angles, none, each}
use Rattle.polygon.specs.Polygon.{Edge, Polygon}
use Rattle.polygon.specs.Order.{same?, remove, lower_first}
use Rattle.polygon.specs.Carried.{carried}
use Rattle.codec.specs.TwoOutputs.{BothOutcome, refuse_both, write_both}
use Rattle.sheet.specs.Sheet.{Reading, refused, held, ask, read_sheet, normal_sheet}
use Rattle.edit.specs.Rules.{both, flat_at}
use Rattle.edit.specs.Calls.{on_held}
use Rattle.seam.specs.Join.{zeros}

-- the edge d joins two of the "corners a to b"
abbrev pub Beneath : Edge → Edge → Type 0
Beneath c d = (c.0 ≤ d.0) × (d.1 ≤ c.1)

unfoldable pub beneath? : (c d : Edge) → Dec (Beneath c d)
beneath? c d = dec_and (dec_le c.0 d.0) (dec_le d.1 c.1)

-- The cut is a diagonal of neither: it is the inner part's root edge and a side of the rest. Of the other diagonals those beneath it are the inner part's, and the others the rest's.
abbrev pub inner_edges : Edge → List Edge → List Edge
inner_edges c ds = keep (beneath? c) (remove c ds)

abbrev pub rest_edges : Edge → List Edge → List Edge
rest_edges c ds = keep (λ d. not? (beneath? c d)) (remove c ds)

-- "rooted at the cut": the inner part's corner a becomes 0, and so b its last, b-a
abbrev pub inner_corner : ℕ → ℕ → ℕ
inner_corner a x = x - a

-- so many corners lie between a and b: the rest is without them
abbrev pub gone : Edge → ℕ
gone c = c.1 - c.0 - 1

-- "with its old root": the rest's corners up to a stay, and those from b on move down to close the gap, so that b becomes a+1
unfoldable pub rest_corner : Edge → ℕ → ℕ
rest_corner c x = choose (dec_lt c.0 x) (x - gone c) x

-- The part of n corners with the diagonals ds of the part p, each corner x renumbered f x. Request (xi): "Cut halves keep theirs", their angles;
-- "A result has bit 3 exactly when a sheet it comes from has and its own n is over 3".
unfoldable pub part_on : ℕ → (ℕ → ℕ) → List Edge → Polygon → Polygon
part_on n f ds p = record { n = n; ds = map (both f) ds; angles = choose (dec_lt 3 n) (carried p.ds p.angles ds) none }

unfoldable pub inner_part : Edge → Polygon → Polygon
inner_part c p = part_on (c.1 - c.0 + 1) (inner_corner c.0) (inner_edges c p.ds) p

unfoldable pub rest_part : Edge → Polygon → Polygon
rest_part c p = part_on (p.n - gone c) (rest_corner c) (rest_edges c p.ds) p

-- "Refusals are those of turning a diagonal": 9 if a or b is not below n, 13 if the pair, either way round, is no diagonal of the part. Else the part is held as it is.
unfoldable pub cuttable : ℕ → ℕ → Polygon → Reading
cuttable a b p = ask 9 (dec_and (dec_lt a p.n) (dec_lt b p.n)) (ask 13 (mem? same? (lower_first (a, b)) p.ds) (held p))

-- "Two sheets come out": the inner part's to the first output, the rest's to the second
unfoldable pub halved : Edge → Reading → BothOutcome ℕ
halved c (refused k) = refuse_both k
halved c (held p) = write_both (normal_sheet (inner_part c p)) (normal_sheet (rest_part c p))

-- the sheet's refusals, then 9, then 13; "with 8 if either output is too short" last, by `written_both`
unfoldable pub cut_sheet : List ℕ → ℕ → ℕ → BothOutcome ℕ
cut_sheet s a b = halved (lower_first (a, b)) (on_held (read_sheet s) (cuttable a b))

-- the numbers that cutting refuses by after the sheet's
abbrev pub cut_tests : List ℕ
cut_tests = 9 ∷ 13 ∷ []

-- "Joining them again at the same seam gives the part set in order."; with angles, by request (xi), "the old part but for a 0 on the seam, or without angles when both halves are triangles", which a part of four corners gives.
abbrev pub rejoined : Edge → Polygon → Polygon
rejoined c p = record { n = p.n; ds = p.ds; angles = choose (dec_lt 4 p.n) (flat_at c p).angles none }

-- And the other way: a half p of a joined part, cut off again at the seam, where ys are the other half's angles. It is p; but its diagonals "that had no angle then start at 0" if only the other half had angles, and a triangle has none.
abbrev pub back_angles : ℕ → List Edge → Angles → Angles → Angles
back_angles n ds (each vs) ys = each vs
back_angles n ds none none = none
back_angles n ds none (each ws) = choose (dec_lt 3 n) (each (zeros ds)) none

abbrev pub cut_back : Polygon → Angles → Polygon
cut_back p ys = record { n = p.n; ds = p.ds; angles = back_angles p.n p.ds p.angles ys }

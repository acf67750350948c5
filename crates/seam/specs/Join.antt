-- Request (i), "Joining along a seam": the part that two parts give when "the second part's root is laid on side i of the first". In the field's words, two triangulated polygons are glued along an edge.
-- Here and below the first part has n corners, the second m. The operation on sheets stands at the end.
use Rattle.std.specs.Prelude.{◌≡◌, List, [], ◌∷◌, ◌++◌, map, ℕ, suc, ◌+◌, ◌-◌}
use Rattle.std.proofs.Math.Decide.{dec_le, dec_lt}
use Rattle.lists.specs.Lists.{choose}
use Rattle.polygon.specs.Angles.{Angle, Angles, none, each}
use Rattle.polygon.specs.Polygon.{Edge, ◌—◌, Polygon, Linked}
use Rattle.polygon.specs.Order.{sort}
use Rattle.polygon.specs.Carried.{carried}
use Rattle.codec.specs.Answer.{Outcome}
use Rattle.sheet.specs.Sheet.{Reading, held, ask, read_sheet, outcome}
use Rattle.edit.specs.Rules.{both}
use Rattle.edit.specs.Calls.{on_held}

-- of the second: "its corner j becomes i+j"
abbrev pub laid : ℕ → ℕ → ℕ
laid i j = i + j

-- of the first: the corners up to i stay, "and the first's later corners move up to match". The second's last corner, m-1, becomes i+(m-1) and "falls on the first part's old corner i+1".
-- (`seam_of_both` in proofs/Theorems.antt.)
unfoldable pub matched : ℕ → ℕ → ℕ → ℕ
matched m i x = choose (dec_lt i x) (x + (m - 2)) x

-- "The seam turns into a diagonal.": the second's root edge, from its corner 0 to its corner m-1, where it is laid
abbrev pub seam : ℕ → ℕ → Edge
seam m i = i — laid i (m - 1)

-- the diagonals of both and the seam, under their new numbers: the first's, the seam, the second's
unfoldable pub glued_edges : ℕ → Polygon → Polygon → List Edge
glued_edges i p q = map (both (matched q.n i)) p.ds ++ (seam q.n i ∷ map (both (laid i)) q.ds)

-- Request (xi): their angles, in the same order. The diagonal of a seam "starts at 0"; "A result has bit 3 exactly when a sheet it comes from has ..; diagonals that had no angle then start at 0."
abbrev pub zeros : List Edge → List Angle
zeros es = map (λ e. 0) es

abbrev pub glued_angles : List Edge → Angles → List Edge → Angles → Angles
glued_angles ds none es none = none
glued_angles ds (each vs) es none = each (vs ++ (0 ∷ zeros es))
glued_angles ds none es (each ws) = each (zeros ds ++ (0 ∷ ws))
glued_angles ds (each vs) es (each ws) = each (vs ++ (0 ∷ ws))

-- "The result is in normal order": its diagonals ascend, each with its angle. ("with the first part's number" lapses, request (xii).)
unfoldable pub glue : ℕ → Polygon → Polygon → Polygon
glue i p q =
    let es = glued_edges i p q in
    record { n = p.n + q.n - 2; ds = sort es; angles = carried es (glued_angles p.ds p.angles q.ds q.angles) (sort es) }

-- The edges of a half p, its sides and diagonals, under its new numbers: its corner a becomes f a, by `matched` or by `laid`.
-- (`glued_edges_are` in proofs/Theorems.antt: these are the edges of the joined part.)
abbrev pub Image : (ℕ → ℕ) → Polygon → ℕ → ℕ → Type 0
Image f p x y = (a : ℕ) × (b : ℕ) × Linked p.n p.ds a b × (x ≡ f a) × (y ≡ f b)

-- "i below n−1 .. 9 also for the root side, 10 when more than 1,024 corners would result"
unfoldable pub join_rule : ℕ → Polygon → Polygon → Reading
join_rule i p q = ask 9 (dec_lt (suc i) p.n) (ask 10 (dec_le (p.n + q.n - 2) 1024) (held (glue i p q)))

-- "The first sheet's refusals come before the second's; then 9 .., 10 .., then 8": the first sheet s is read, then the second, t; 8 comes last, by `written`
unfoldable pub joined_sheets : List ℕ → List ℕ → ℕ → Outcome
joined_sheets s t i = outcome (on_held (read_sheet s) (λ p. on_held (read_sheet t) (join_rule i p)))

-- the numbers that joining refuses by after the sheets'
abbrev pub join_tests : List ℕ
join_tests = 9 ∷ 10 ∷ []

-- From the text of a chart to its numbers, and from its bytes to what the text needs: numbers of two bytes, strokes between corners, ascending.
-- Rests on reading the text (Told.antt), on the bounds of a plan (crate umbrella) and on what reading a chart accepts (crate chart_reader).
use mathlib.Core.Path.{◌≡◌, ap, sym, ◌∙◌}
use mathlib.Core.List.{List, ◌++◌}
use Prim.Native.Nat.{ℕ, zero, suc, ◌+◌, ◌*◌, ◌%◌, ◌<◌}
use native.Mathlib.Omega.{arith}
use lib.ListN.{get_or}
use Rattle.lists.specs.Lists.{All}
use Rattle.lists.proofs.Lists.{all_map, all_of}
use Rattle.polygon.specs.Polygon.{Edge, Polygon, Valid}
use Rattle.polygon.proofs.TreeTheorem.{tree_of_lem}
use Rattle.umbrella.specs.Best.{plan_of}
use Rattle.umbrella.proofs.Theorems.{umbrellas_bound}
use Rattle.codec.specs.Numbers.{get16}
use Rattle.sheet.specs.Sheet.{held}
use Rattle.codec.proofs.Numbers.{Byte, byte_at}
use Rattle.chart.specs.Chart.{Chart}
use Rattle.chart.specs.Bytes.{StrokeFits, Fits}
use Rattle.log_line.proofs.Reading.{SmallFacts, line_told}
use Rattle.chart_reader.proofs.Same.{SameNumbers}
use Rattle.chart_reader.proofs.Accepts.{KeepsRules}
use Rattle.chart_text.specs.Text.{chart_facts, corner_lines, stroke_lines, described_as}
use Rattle.chart_text.proofs.Told.{Readable, lines_tell}
use Rattle.chart.specs.Decode.{shaped, corners_at, stroke_at, stroke_places, chart_in}

-- the numbers of the first line are small
facts_small : (c : Chart) (p : Polygon) → Fits c → Valid p → SmallFacts (chart_facts c p)
facts_small c p F v =
    let b = umbrellas_bound (plan_of p) in
    let T = tree_of_lem p.n p.ds v.triangulated in
    record {
      corners = omega (arith, v.most);
      levels = omega (arith, T.size, v.most);
      umbrellas = omega (arith, T.size, v.most);
      stems = omega (arith, T.size, v.most);
      rows = omega (arith, F.rows);
      columns = omega (arith, F.columns);
    }

-- a chart with a part of as many corners
pub record ShownPart (c : Chart) (p : Polygon) : Type 0 where
  pub readable : Readable c
  pub valid : Valid p
  pub corners : c.n ≡ p.n

-- Two charts with the same text have the same numbers.
pub text_tells : (c d : Chart) (p q : Polygon) → ShownPart c p → ShownPart d q → described_as c (held p) ≡ described_as d (held q) → SameNumbers c d
unfolding described_as
text_tells c d p q S T e =
    let f = facts_small c p S.readable.fits S.valid in
    let g = facts_small d q T.readable.fits T.valid in
    let a = line_told (chart_facts c p) (chart_facts d q) (corner_lines c ++ stroke_lines c) (corner_lines d ++ stroke_lines d) f g e in
    let n : c.n ≡ d.n = S.corners ∙ (a.corners ∙ sym T.corners) in
    let b = lines_tell c d S.readable T.readable n a.rest in
    record { rows = a.rows; columns = a.columns; corners = n; bars = b.0; strokes = b.1 }

-- a chart in bytes: its numbers fit two bytes
module _ (s : List ℕ) (B : All Byte s) where
  number_fits : (at : ℕ) → get16 s at < 65536
  number_fits at = omega (arith, byte_at at B, byte_at (at + 1) B)

  shaped_fits : (b : ℕ) (e : Edge) (j : ℕ) → (e.0 < 65536) × (e.1 < 65536) → j < 65536 → StrokeFits (shaped b e j)
  unfolding StrokeFits shaped
  shaped_fits zero e j h k = h
  shaped_fits (suc b) e j h k = (h.0, h.1, k)

  stroke_fits : (at : ℕ) → StrokeFits (stroke_at s at)
  stroke_fits at = shaped_fits (get_or s at 0 % 2) (corners_at s at) (get16 s (at + 5)) (number_fits (at + 1), number_fits (at + 3)) (number_fits (at + 5))

  bytes_fit : Fits (chart_in s)
  bytes_fit = record {
    rows = number_fits 0;
    columns = number_fits 2;
    corners = number_fits 4;
    bars = λ x h. (number_fits (6 + 6 * x), number_fits (6 + 6 * x + 2), number_fits (6 + 6 * x + 4));
    strokes = all_map (stroke_at s) (all_of (stroke_places s) (λ at m. stroke_fits at));
  }

  pub bytes_shown : (p : Polygon) → KeepsRules s p → Valid p → ShownPart (chart_in s) p
  bytes_shown p H v = record {
    readable = record { fits = bytes_fit; named = H.strokes.0; ascending = H.strokes.1 };
    valid = v;
    corners = ap (λ (q : Polygon). q.n) H.is;
  }

-- What this crate proves of the text of a chart, each theorem with its statement in plain words. To be read with specs/Text.antt.
-- Rests on what reading a chart accepts (crate chart_reader) and on the normal sheet that reads back (crate sheet).
use mathlib.Core.Path.{◌≡◌, refl, sym, ◌∙◌}
use mathlib.Core.List.{List, ◌++◌}
use Prim.Native.Nat.{ℕ, ◌+◌, ◌*◌, ◌≤◌, ◌<◌}
use lib.ListN.{length, take}
use Rattle.lists.specs.Lists.{All, Sorted}
use Rattle.polygon.specs.Polygon.{Polygon, bare, Valid}
use Rattle.sheet.specs.Sheet.{held, normal_sheet}
use Rattle.sheet.proofs.Back.{read_back}
use Rattle.chart.specs.Chart.{Stroke, Chart, chart_of}
use Rattle.chart.specs.Bytes.{bytes_of}
use Rattle.chart.specs.Decode.{chart_in}
use Rattle.draw.specs.Printed.{printed_of, printed}
use Rattle.log_line.specs.Line.{line}
use Rattle.chart_reader.specs.Reader.{read_chart}
use Rattle.chart_reader.specs.Charts.{Charts}
use Rattle.chart_reader.proofs.Same.{SameNumbers}
use Rattle.chart_reader.proofs.Decoded.{decoded}
use Rattle.chart_reader.proofs.Encoded.{encoded}
use Rattle.chart_reader.proofs.Shown.{shows_named, shows_count}
use Rattle.chart_reader.proofs.Verdict.{by_reading}
use Rattle.chart_reader.proofs.Accepts.{held_keeps, charts_held}
use Rattle.chart_reader.proofs.Long.{refused_long, long_input}
use Rattle.chart_reader.proofs.Theorems.{accepts, chart_charts}
use Rattle.chart_text.specs.Text.{chart_facts, corner_lines, standing, left_to_right, stroke_lines, described_as, described}
use Rattle.chart_text.proofs.Order.{order_sorted}
use Rattle.chart_text.proofs.SameChart.{same_bytes, same_corners, same_strokes}
use Rattle.chart_text.proofs.SameText.{text_tells, bytes_shown}

-- Two charts with the same text are the same chart, byte for byte. (Bytes are below 256.)
pub same_text : (s t : List ℕ) (p q : Polygon) → All (λ b. b < 256) s → All (λ b. b < 256) t → Charts s p → Charts t q → described s ≡ described t → s ≡ t
unfolding described
same_text s t p q A B C D e =
    let H = held_keeps s p (by_reading s (charts_held C)) refl in
    let K = held_keeps t q (by_reading t (charts_held D)) refl in
    let S = text_tells (chart_in s) (chart_in t) p q (bytes_shown s A p H C.valid) (bytes_shown t B q K D.valid) (rw (charts_held C, charts_held D) at e) in
    encoded A H.formed ∙ (same_bytes (chart_in s) (chart_in t) S ∙ sym (encoded B K.formed))

-- So are two charts that are read as parts.
pub same_text_read : (s t : List ℕ) (p q : Polygon) → All (λ b. b < 256) s → All (λ b. b < 256) t → read_chart s ≡ held p → read_chart t ≡ held q → described s ≡ described t → s ≡ t
same_text_read s t p q A B f g e = same_text s t p q A B ((accepts s p A).0 f) ((accepts t q B).0 g) e

-- the chart in the bytes of a chart of a part has the numbers of that chart
decoded_same : {s : List ℕ} {p : Polygon} (C : Charts s p) → SameNumbers (chart_in s) C.chart
decoded_same {s} {p} C =
    let c : Chart = C.chart in
    let count : length c.strokes + 3 ≡ 2 * c.n = rw C.shows.corners (shows_count c p C.valid C.shows) in
    rw C.bytes (decoded c count)

-- Of the bytes of a true chart that shows a part, the text has the line of the part with the chart's rows and columns, the bars of the chart, and its strokes from left to right.
pub describes : (s : List ℕ) (p : Polygon) (C : Charts s p) → described s ≡ line (chart_facts C.chart p) ++ (corner_lines C.chart ++ stroke_lines C.chart)
unfolding described described_as
describes s p C =
    let c : Chart = C.chart in
    let S = decoded_same C in
    rw (charts_held C, same_corners (chart_in s) c S, same_strokes (chart_in s) c S (shows_named c p C.valid C.shows), S.rows, S.columns)

-- The way back: of the chart that is drawn of a valid part, the line that is printed of the part's sheet, the bars drawn, and the strokes drawn.
pub way_back : (p : Polygon) → Valid p → described (bytes_of (chart_of p)) ≡ printed (normal_sheet p) ++ (corner_lines (chart_of p) ++ stroke_lines (chart_of p))
unfolding chart_charts printed printed_of chart_of
way_back p v = describes (bytes_of (chart_of p)) (bare p) (chart_charts p v) ∙ rw (read_back p v)

-- The strokes stand in the text from left to right.
pub left_to_right_lem : (c : Chart) (ss : List Stroke) → Sorted (λ s t. standing c s ≤ standing c t) (left_to_right c ss)
left_to_right_lem c ss = order_sorted c ss

-- Of an input longer than any chart, the text is that of its first 20,466 bytes: the refusal 14.
pub long_described : (s : List ℕ) → 20466 ≤ length s → described (take 20466 s) ≡ described s
unfolding described described_as
long_described s h = rw (long_input s h, refused_long s h)

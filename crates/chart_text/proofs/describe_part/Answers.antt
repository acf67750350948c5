-- The first line, the corners, the strokes; there is room for all of them.
use Rattle.std.proofs.Common.{◌≡◌, ◌≤◌, length, arith}
use Rattle.std.proofs.lemmas.Option.{MatchOption-at_some}
use Rattle.chart.specs.Decode.{chart_in}
use Rattle.log_line.proofs.Putting.{put_then}
use Rattle.log_line.proofs.Size.{line_size}
use Rattle.chart_text.specs.Text.{chart_facts, described_as}
use Rattle.chart_text.proofs.describe_part.Goals.{After-unwrap-strokes, After-put_head-head}
use Rattle.chart_text.proofs.describe_part.Goals as goal

-- the strokes are those of the chart
same : (c : After-unwrap-strokes) → c.unwrap-strokes.result.chart.now ≡ c.args.chart.now
same c = MatchOption-at_some _ _ _ c.unwrap-strokes.ensures c.strokes_in.ensures

-- the first line ends within 256 bytes
head_size : (c : After-put_head-head) → (c.put_head-head.result ≤ 256) × (length c.put_head-head.new.out ≡ length c.args.out.now)
head_size c = (omega (arith, c.put_head-head.ensures.end, line_size (chart_facts (chart_in c.args.chart.now) c.args.part.now)), c.put_head-head.auto.out)

pub put_corners-corners-requires : goal.put_corners-corners-requires
put_corners-corners-requires c =
    omega (arith, head_size (goal.at.put_corners-corners-requires c).After-put_head-head, c.requires.room, c.unwrap-strokes.result.sizes)

pub put_strokes-requires : goal.put_strokes-requires
put_strokes-requires c =
    let here = goal.at.put_strokes-requires c in
    let head = head_size here.After-put_head-head in
    record {
      strokes = rw (same here.After-unwrap-strokes) c.requires.formed.1;
      room = omega (arith, c.put_corners-corners.ensures.within, c.put_corners-corners.auto.out, head, c.requires.room, c.unwrap-strokes.result.sizes);
    }

pub returns : goal.returns
unfolding described_as
returns c =
    let here = goal.at.returns c in
    let rest = put_then c.put_corners-corners.ensures.text c.put_strokes.ensures.text in
    let head = head_size here.After-put_head-head in
    record {
      text = put_then c.put_head-head.ensures (rw (same here.After-unwrap-strokes) at rest);
      within = omega (arith, c.put_strokes.ensures.within, c.put_corners-corners.ensures.within, head, c.unwrap-strokes.result.sizes);
    }

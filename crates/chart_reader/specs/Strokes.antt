-- The chart whose strokes were found, for the contracts.
use Rattle.chart.specs.Chart.{Chart}
use Rattle.chart.specs.Decode.{chart_in}
use Rattle.chart_reader.specs.declared.frame.Strokes.{Strokes}

abbrev pub chart_of : Strokes → Chart
chart_of s = chart_in s.chart.now

-- Every case of the list of known parts holds, by computation.
use mathlib.Core.Path.{refl}
use mathlib.Core.Logic.Dec
use mathlib.Core.List.{flat_map}
use native.Mathlib.Decide.{dec_le, dec_lt, ℕ_discrete}
use Rattle.lists.specs.Lists.{All, all_cons, all_nil, all?, below, choose, either?, keep, mem?, not?, numbers, put, recast?, sorted?, three?}
use Rattle.polygon.specs.Angles.{in_range?, allowed?}
use Rattle.polygon.specs.Carried.{angle_of, carried}
use Rattle.polygon.specs.Order.{before?, same?, cross?, none_cross?, diagonal?, distinct?, remove, place, insert, sort, lower_first}
use Rattle.polygon.specs.Tree.{span, chords_at, chords_past, inner, piece, tree_of, grow, far, farther, near?}
use Rattle.codec.specs.Answer.{fit, written}
use Rattle.codec.specs.TwoOutputs.{fit_both, written_both}
use Rattle.codec.specs.Numbers.{run16}
use Rattle.sheet.specs.Sheet.{ask, pairs, angles, count?, more, read_sheet, pair_bytes, map_byte, normal_sheet, outcome, ordered}
use Rattle.edit.specs.Rules.{up, down, both, entering, ear_added, neighbours, ear_removed, away?, result, side?, linked?, joined?, common, enter, flipped, rule}
use Rattle.edit.specs.Calls.{on_held, edited}
use Rattle.edit.specs.Model.{number_given}
use Rattle.seam.specs.Join.{matched, glued_edges, glue, join_rule, joined_sheets}
use Rattle.cut.specs.Cut.{beneath?, rest_corner, part_on, inner_part, rest_part, cuttable, halved, cut_sheet}
use Rattle.umbrella.specs.Plan.{fold}
use Rattle.umbrella.specs.Values.{ud}
use Rattle.umbrella.specs.Tight.{tight}
use Rattle.umbrella.specs.Best.{best, umbrella, left_at, right_at, stem_at, over_node}
use Rattle.plan.specs.Answer.{answer, planned}
use Rattle.chart.specs.Places.{cols, rows}
use Rattle.polygon.specs.Edges.{edges, edges_at, edges_past}
use Rattle.chart.specs.Chart.{stroke_edge, bars_of, meets?, first, last, stroke, layout, chart, bar_rows, closed_row, closed, chart_of}
use Rattle.chart.specs.Bytes.{bar_bytes, stroke_bytes, bytes_of}
use Rattle.chart.specs.Decode.{shaped, places, behind}
use Rattle.nearest.specs.Nearest as near
use Rattle.nearest.specs.Areas.{common?, common_of, between, shares?}
use Rattle.nearest.proofs.Areas.{stands?, crosses?}
use Rattle.chart_reader.specs.Formed.{formed?}
use Rattle.chart_reader.specs.Rules.{part_sides}
use Rattle.chart_reader.specs.Follow.{on_chart?, asked?, nearest_bar}
use Rattle.chart_reader.specs.Reader.{bars?, free?, joins?, strokes?, passes?, gaps?, part?, read_chart, chart_read}
use Rattle.log_line.specs.Line.{digits, decimal, line, refused_line}
use Rattle.draw.specs.Answer as draw
use Rattle.draw.specs.Label as draw-label
use Rattle.draw.specs.Printed.{printed_of, printed}
use Rattle.promises.specs.Case.{bars_in, rows_in, columns_in, values_in, Holds}
use Rattle.promises.specs.Known.{sheet, cases}

pub known : All Holds cases
unfolding sheet bars_in columns_in values_in piece read_sheet ask pairs angles carried angle_of allowed? in_range? three? recast? count? more pair_bytes run16 map_byte normal_sheet outcome ordered written fit Dec.and choose put keep
    numbers below all? diagonal? distinct? sorted? not? mem? same? none_cross? cross? sort insert place before? either? lower_first remove dec_le ℕ_discrete dec_lt
    side? linked? joined? common enter flipped result up down both entering ear_added neighbours ear_removed away? rule on_held edited planned answer draw.drawn draw.charted printed printed_of digits decimal line
    refused_line chart_of chart layout tree_of grow far farther near? span chords_at best umbrella left_at right_at stem_at over_node ud fold cols rows edges edges_at
    edges_past bars_of bar_rows closed_row closed meets? first last stroke bar_bytes stroke_bytes bytes_of flat_map rows_in
    chart_read read_chart formed? places behind shaped bars? free? joins? strokes? passes? gaps? part? part_sides common? common_of between stands? shares? crosses? stroke_edge
    tight inner chords_past draw-label.charted_within draw-label.keeps?
    joined_sheets join_rule glue glued_edges matched number_given
    cut_sheet halved cuttable part_on inner_part rest_part rest_corner beneath? written_both fit_both
    near.first near.or_else near.toward near.steps near.has? near.lowest_at near.nearest on_chart? asked? nearest_bar
known =
    all_cons refl (all_cons refl (all_cons refl (all_cons refl (all_cons refl (all_cons refl (all_cons refl
    (all_cons refl (all_cons refl (all_cons refl (all_cons refl (all_cons refl (all_cons refl (all_cons refl
    (all_cons refl (all_cons refl (all_cons refl (all_cons refl (all_cons refl (all_cons refl (all_cons refl
    (all_cons refl (all_cons refl (all_cons refl (all_cons refl (all_cons refl (all_cons refl (all_cons refl
    (all_cons refl (all_cons refl (all_cons refl (all_cons refl (all_cons refl (all_cons refl (all_cons refl
    (all_cons refl (all_cons refl (all_cons refl (all_cons refl (all_cons refl (all_cons refl (all_cons refl
    (all_cons refl (all_cons refl (all_cons refl (all_cons refl (all_cons refl (all_cons refl (all_cons refl
    (all_cons refl (all_cons refl (all_cons refl (all_cons refl (all_cons refl (all_cons refl (all_cons refl
    (all_cons refl (all_cons refl (all_cons refl (all_cons refl (all_cons refl (all_cons refl (all_cons refl
    (all_cons refl (all_cons refl (all_cons refl (all_cons refl (all_cons refl (all_cons refl (all_cons refl
    (all_cons refl (all_cons refl (all_cons refl (all_cons refl (all_cons refl (all_cons refl (all_cons refl
    (all_cons refl (all_cons refl (all_cons refl (all_cons refl (all_cons refl (all_cons refl (all_cons refl
    (all_cons refl (all_cons refl (all_cons refl (all_cons refl (all_cons refl (all_cons refl (all_cons refl
    (all_cons refl (all_cons refl (all_cons refl (all_cons refl (all_cons refl (all_cons refl (all_cons refl
    (all_cons refl (all_cons refl (all_cons refl (all_cons refl (all_cons refl (all_cons refl (all_cons refl
    (all_cons refl (all_cons refl (all_cons refl (all_cons refl (all_cons refl (all_cons refl (all_cons refl
    (all_cons refl (all_cons refl (all_cons refl (all_cons refl (all_cons refl (all_cons refl (all_cons refl
    (all_cons refl (all_cons refl (all_cons refl (all_cons refl (all_cons refl (all_cons refl (all_cons refl
    (all_cons refl (all_cons refl (all_cons refl (all_cons refl (all_cons refl (all_cons refl (all_cons refl
    (all_cons refl (all_cons refl (all_cons refl (all_cons refl (all_cons refl (all_cons refl (all_cons refl
    (all_cons refl (all_cons refl (all_cons refl (all_cons refl (all_cons refl (all_cons refl (all_cons refl
    (all_cons refl all_nil)))))))))))))))))))))))))))))))))))))))))))))))))))))))))))))))))))))))))))))))))))))))))))))))))))))))))))))))))))))))))))))))))))))))))))))))))))

use Rattle.std.proofs.Common.{ℕ, rules}
use Rattle.std.proofs.lemmas.Iterator.{YieldsList-from_slice, cases_from_all}
use Rattle.std.proofs.lemmas.Iterator.Adapters.{serves_from_places}
use Rattle.lists.proofs.Chains.{all_yes, all_no}
use Rattle.chart.specs.Decode.{chart_in, stroke_at}
use Rattle.chart_reader.specs.Rules.{BarsFit}
use Rattle.chart_reader.proofs.Stroked.{met_room, met_in, places_strokes, strokes_places}
use Rattle.chart_reader.proofs.strokes.all_fit.Goals as goal

pub all-requires : goal.all-requires
all-requires c =
    let N = c.requires.strokes in
    record { can = tt; finite = tt; callable = serves_from_places (YieldsList-from_slice c.args.strokes.now.at.now c.iter.ensures.rest) (λ x q k. search rules) (λ x k h e. let here = met_room _ _ _ c.args.strokes.now.found x.now k h e in let within = met_in _ _ _ c.args.strokes.now.found x.now k h e N in search (rules, within)) }

pub returns : goal.returns
returns c =
    let P = c.args.strokes.now.found in
    let C = chart_in c.args.strokes.now.chart.now in
    let fit = λ (p : ℕ). BarsFit C (stroke_at c.args.strokes.now.chart.now p) in
    let cases = cases_from_all _ _ _ fit (λ x. ¬ fit x) c.all.ensures.ran (YieldsList-from_slice c.args.strokes.now.at.now c.iter.ensures.rest) (λ x q k. search rules) (λ x q k. search rules) in
    record { yes = λ h. places_strokes _ _ _ P (all_yes _ cases h); no = λ h a. all_no _ cases h (strokes_places _ _ _ P a) }

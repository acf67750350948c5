-- What the reading of a chart has found out, put together.
use mathlib.Core.Path.{◌≡◌, ap, ap₂, sym, ◌∙◌}
use mathlib.Core.List.{List}
use Prim.Native.Nat.{ℕ, ◌+◌}
use lib.ListN.{length-map}
use Rattle.lists.specs.Lists.{keep}
use Rattle.lists.proofs.Lists.{all_map}
use Rattle.polygon.specs.Angles.{none}
use Rattle.polygon.specs.Polygon.{Edge, Valid}
use Rattle.polygon.specs.Order.{diagonal?}
use Rattle.keys.specs.Keys.{edges_of}
use Rattle.sheet.specs.Sheet.{refused, held}
use Rattle.sheet.specs.Hand.{flat_part}
use Rattle.chart.specs.Chart.{stroke_edge}
use Rattle.chart.specs.Decode.{chart_in}
use Rattle.nearest.specs.BarRule.{BarRule}
use Rattle.chart_reader.specs.Rules.{StrokeRule, GapRule, PartOf, PartRule, edges_in, diagonals_in, part_in}
use Rattle.chart_reader.specs.Reader.{read_chart}
use Rattle.chart_reader.specs.Held.{StrokesFound, EdgesOf}
use Rattle.chart_reader.proofs.Accepts.{strokes_count}
use Rattle.chart_reader.proofs.Shown.{rule_valid}
use Rattle.chart_reader.proofs.Verdict.{by_18, taken, read_by}

-- a chart whose bars and strokes keep their rules, and the keys of its edges
pub record Edged (s : List ℕ) (n : ℕ) (at edges : List ℕ) : Type 0 where
  pub placed : StrokesFound s n at
  pub bars : BarRule (chart_in s)
  pub strokes : StrokeRule (chart_in s)
  pub keys : edges_of edges ≡ edges_in (chart_in s)

module _ {s : List ℕ} {n : ℕ} {at edges : List ℕ} (E : Edged s n at edges) where
  pub edges_found : EdgesOf n (edges_of edges)
  edges_found =
      let F = E.placed.formed in
      rw (E.keys, E.placed.count) (record {
        least = F.least;
        named = all_map stroke_edge E.strokes.0;
        ascending = E.strokes.1;
        count = ap (λ (k : ℕ). k + 3) (length-map (chart_in s).strokes stroke_edge) ∙ strokes_count s F.least;
      })

  module _ (G : GapRule (chart_in s)) where
    pub no_part : (PartOf n (edges_of edges) → ⊥) → read_chart s ≡ refused 18
    no_part f = read_by s (by_18 E.placed.formed E.bars E.strokes G (λ R. f (rw (E.keys, E.placed.count) R)))

    module _ (ks : List ℕ) (R : PartOf n (edges_of edges) × (edges_of ks ≡ keep (diagonal? n) (edges_of edges))) where
      shown : flat_part n ks ≡ part_in (chart_in s)
      shown =
          let ds : edges_of ks ≡ diagonals_in (chart_in s) = R.1 ∙ ap₂ (λ (k : ℕ) (es : List Edge). keep (diagonal? k) es) E.placed.count E.keys in
          λ i. record { n = E.placed.count i; ds = ds i; angles = none }

      part_kept : PartRule (chart_in s)
      part_kept = rw (E.keys, E.placed.count) at R.0

      pub part_valid : Valid (flat_part n ks)
      part_valid =
          let F = E.placed.formed in
          let S = E.strokes in
          rw shown (rule_valid (chart_in s) F.least S.0 S.1 part_kept F.most (strokes_count s F.least))

      pub part_read : read_chart s ≡ held (flat_part n ks)
      part_read = read_by s (taken E.placed.formed E.bars E.strokes G part_kept) ∙ ap held (sym shown)

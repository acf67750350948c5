-- By the laws of Charting.antt, of what was placed and closed up.
use mathlib.Core.Path.{ap, sym, ◌∙◌}
use mathlib.Core.List.{List}
use Prim.Native.Nat.{ℕ}
use native.Mathlib.Omega.{arith}
use Rattle.codec.specs.Answer.{written, write}
use Rattle.drawing.proofs.Whole.{sized}
use Rattle.draw.proofs.Charting.{stopped_by, not_stopped, placed_few, placed_inside, front_size, placed_asks, placed_edges, placed_among, placed_laid, placed_chart, placed_corners, placed_rows, placed_columns}
use Rattle.draw.proofs.write_part.Goals as goal

pub slice_bounds-rows-end : goal.slice_bounds-rows-end
slice_bounds-rows-end c =
    let least = c.requires.least in
    let t = c.requires.filled.0 in
    let F = c.requires.filled.1 in
    omega (arith, sized F, (c.place-placed.ensures t F).ranks_kept)

pub slice_bounds-close-end : goal.slice_bounds-close-end
slice_bounds-close-end c = let least = c.requires.least in
    let t = c.requires.filled.0 in
    let F = c.requires.filled.1 in sym (front_size F least (c.place-placed.ensures t F))

pub close-height-requires : goal.close-height-requires
close-height-requires c =
    let least = c.requires.least in
    let t = c.requires.filled.0 in
    let F = c.requires.filled.1 in
    let P = c.place-placed.ensures t F in
    record { inside = placed_inside F least P; few = placed_few F least P }

-- the chart is refused before it is written
pub returns-in-Some : goal.returns-in-Some
returns-in-Some c t F =
    let P = c.place-placed.ensures t F in
    let shut = c.close-height in
    let rows_are = placed_rows F c.requires.least P shut.new.rows shut.ensures.rows shut.ensures.height in
    record {
      answer = stopped_by _ _ _ _ c.stop.ensures rows_are (placed_corners F c.requires.least P) _ c.in-Some.is;
      rows_are = rows_are;
      columns_are = placed_columns F c.requires.least P;
    }

pub write_chart-requires : goal.write_chart-requires
write_chart-requires c =
    let least = c.requires.least in
    let t = c.requires.filled.0 in
    let F = c.requires.filled.1 in
    let P = c.place-placed.ensures t F in
    let shut = c.close-height in
    record { sizes = placed_asks F least P shut.new.rows shut.ensures.rows shut.ensures.height; edges = placed_edges F least P; places = placed_among F least P }

pub returns : goal.returns
returns c t F =
    let least = c.requires.least in
    let P = c.place-placed.ensures t F in
    let shut = c.close-height in
    let front = shut.new.rows in
    let e = shut.ensures.rows in
    let k = shut.ensures.height in
    let rows_are = placed_rows F least P front e k in
    record {
      answer =
          c.write_chart.ensures _ _ _ (placed_laid F least P front e k)
          ∙ (ap (λ (bs : List ℕ). written (write bs) c.args.out.now) (placed_chart F least P front e k)
          ∙ not_stopped _ _ _ _ c.stop.ensures rows_are (placed_corners F least P) c.in_default.is);
      rows_are = rows_are;
      columns_are = placed_columns F least P;
    }

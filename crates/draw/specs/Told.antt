-- The facts of a line from a head and counts. For the contracts.
use Rattle.std.specs.Prelude.{ℕ}
use Rattle.sheet.specs.declared.Head.{Head}
use Rattle.plan.specs.declared.Totals.{Totals}
use Rattle.log_line.specs.declared.Facts.{Facts}

abbrev pub told : Head → Totals → ℕ → ℕ → Facts
told h c rows columns = record {
  corners = h.n;
  levels = c.levels;
  umbrellas = c.umbrellas;
  stems = c.stems;
  rows = rows;
  columns = columns;
}

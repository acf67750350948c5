-- No chart is longer than 20,465 bytes.
-- Rests on the count of a chart's strokes and on the size of its bytes (crate chart).
use mathlib.Core.Path.{◌≡◌, refl}
use mathlib.Core.List.{List}
use mathlib.Core.Option.{Option}
use Prim.Native.Nat.{ℕ, ◌≤◌}
use native.Mathlib.Omega.{arith}
use lib.ListN.{length}
use Rattle.lists.specs.Lists.{choose}
use Rattle.polygon.specs.Polygon.{Triangulated, Polygon}
use Rattle.polygon.proofs.TreeTheorem.{tree_of_lem}
use Rattle.codec.specs.Answer.{refuse, write, written}
use Rattle.sheet.specs.Sheet.{Reading, refused, held, read_sheet}
use Rattle.sheet.proofs.Size.{written_size_lem}
use Rattle.sheet.proofs.Valid.{read_valid}
use Rattle.umbrella.specs.Best.{plan_of}
use Rattle.chart.specs.Chart.{closed, chart_of}
use Rattle.chart.specs.Bytes.{bytes_of}
use Rattle.chart.proofs.Charts.{chart_size, chart_strokes}
use Rattle.chart.proofs.Sizes.{bytes_size}
use Rattle.draw.specs.Answer.{drawn}
use Rattle.draw.specs.Label.{tape, label, Keeps, keeps?, charted_within, labelled}
use Rattle.draw.proofs.Label.{tape_charted}

pub chart_bytes : (p : Polygon) → Triangulated p.n p.ds → p.n ≤ 1024 → length (bytes_of (chart_of p)) ≤ 20465
unfolding chart_of closed
chart_bytes p T most = omega (arith, (bytes_size (chart_of p)).1, (chart_size (plan_of p)).0, chart_strokes (plan_of p), most, (tree_of_lem p.n p.ds T).size)

-- so is what is written, with any limit
within_size : (limit : Option ℕ) (s out : List ℕ) → (written (charted_within limit (read_sheet s)) out).size ≤ 20465
unfolding charted_within written choose
within_size limit s out = go (read_sheet s) refl
  where
    fits : (p : Polygon) (d : Dec (Keeps limit (chart_of p).rows)) → length (bytes_of (chart_of p)) ≤ 20465 → (written (choose d (write (bytes_of (chart_of p))) (refuse 19)) out).size ≤ 20465
    fits p (yes w) h = omega (arith, written_size_lem (bytes_of (chart_of p)) out, h)
    fits p (no w) h = omega arith

    go : (r : Reading) → read_sheet s ≡ r → (written (charted_within limit (read_sheet s)) out).size ≤ 20465
    go (refused k) e = rw e (omega arith)
    go (held p) e = let v = read_valid s p e in rw e (fits p (keeps? limit (chart_of p).rows) (chart_bytes p v.triangulated v.most))

pub drawn_size : (s out : List ℕ) → (written (drawn s) out).size ≤ 20465
unfolding drawn
drawn_size s out = rw (tape_charted (read_sheet s)) at (within_size tape s out)

pub labelled_size : (s out : List ℕ) → (written (labelled s) out).size ≤ 20465
unfolding labelled
labelled_size s out = within_size label s out

-- What closing up does to any chart, ours or another's, true or not: what is claimed of `closed`, and proved as `closes_up` (proofs/Theorems.antt).
use Rattle.std.specs.Prelude.{◌≡◌, ◌↔◌, ℕ, ◌≤◌, ◌<◌, length}
use Rattle.polygon.specs.Polygon.{Polygon}
use Rattle.chart.specs.Chart.{Chart, closed, NoEmptyRow, True, Shows}
use Rattle.chart.specs.Bytes.{bytes_of}

-- its bars lie within its rows
abbrev pub BarsInside : Chart → Type 0
BarsInside c = (x : ℕ) → x < c.n → (c.bar x).row < c.rows

pub record ClosesUp (c : Chart) : Type 0 where
  -- a true chart stays true, and shows what it showed
  pub true : True c → True (closed c)
  pub shows : (p : Polygon) → Shows c p → Shows (closed c) p
  -- columns, the columns of each bar, strokes and the length in bytes stay
  pub columns : (closed c).columns ≡ c.columns
  pub spans : (x : ℕ) → (((closed c).bar x).left ≡ (c.bar x).left) × (((closed c).bar x).right ≡ (c.bar x).right)
  pub strokes : (closed c).strokes ≡ c.strokes
  pub size : length (bytes_of (closed c)) ≡ length (bytes_of c)
  -- no row is empty, and none is new
  pub full : NoEmptyRow (closed c)
  pub fewer : (closed c).rows ≤ c.rows
  -- bars keep their order of rows, and those on one row stay on one
  pub order : (x y : ℕ) → x < c.n → y < c.n → ((c.bar x).row < (c.bar y).row) ↔ (((closed c).bar x).row < ((closed c).bar y).row)
  pub level : (x y : ℕ) → x < c.n → y < c.n → ((c.bar x).row ≡ (c.bar y).row) ↔ (((closed c).bar x).row ≡ ((closed c).bar y).row)
  -- nothing is done to a chart without empty rows
  pub nothing : NoEmptyRow c → BarsInside c → bytes_of (closed c) ≡ bytes_of c

-- A chart of a part, ours or another's, as one statement about its bytes and the part. It names no order of tests; proofs/Theorems.antt holds `read_chart` against it.
use Rattle.std.specs.Prelude.{◌≡◌, List, ℕ}
use Rattle.polygon.specs.Angles.{none}
use Rattle.polygon.specs.Polygon.{Polygon, Valid}
use Rattle.chart.specs.Chart.{Chart, True, Shows}
use Rattle.chart.specs.Bytes.{bytes_of}

-- the bytes are those of a true chart that shows the part, a valid one without angles
pub record Charts (s : List ℕ) (p : Polygon) : Type 0 where
  pub valid : Valid p
  -- request (xi): a chart shows no angles
  pub bare : p.angles ≡ none
  pub chart : Chart
  pub bytes : s ≡ bytes_of chart
  pub is_true : True chart
  pub shows : Shows chart p

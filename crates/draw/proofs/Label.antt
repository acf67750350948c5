-- The drawing with a limit of rows: within the limit it is the tape's, and beyond it refuses by 19.
use mathlib.Core.Path.{◌≡◌, refl}
use mathlib.Core.Option.{Option}
use Prim.Native.Nat.{ℕ}
use Rattle.lists.proofs.Lists.{choose_yes, choose_no}
use Rattle.polygon.specs.Polygon.{Polygon}
use Rattle.codec.specs.Answer.{refuse}
use Rattle.codec.specs.TwoOutputs.{refuse_both}
use Rattle.sheet.specs.Sheet.{Reading, refused, held}
use Rattle.chart.specs.Chart.{chart_of}
use Rattle.draw.specs.Answer.{charted, charted_both}
use Rattle.draw.specs.Label.{tape, Keeps, keeps?, charted_within, charted_both_within}

module _ (limit : Option ℕ) (p : Polygon) where
  pub within_charted : Keeps limit (chart_of p).rows → charted_within limit (held p) ≡ charted (held p)
  unfolding charted_within charted
  within_charted h = choose_yes (keeps? limit (chart_of p).rows) _ h

  pub within_both : Keeps limit (chart_of p).rows → charted_both_within limit (held p) ≡ charted_both (held p)
  unfolding charted_both_within charted_both
  within_both h = choose_yes (keeps? limit (chart_of p).rows) _ h

  pub over_charted : ¬ Keeps limit (chart_of p).rows → charted_within limit (held p) ≡ refuse 19
  unfolding charted_within
  over_charted h = choose_no (keeps? limit (chart_of p).rows) _ h

  pub over_both : ¬ Keeps limit (chart_of p).rows → charted_both_within limit (held p) ≡ refuse_both 19
  unfolding charted_both_within
  over_both h = choose_no (keeps? limit (chart_of p).rows) _ h

-- the tape has no limit
pub tape_charted : (q : Reading) → charted_within tape q ≡ charted q
unfolding charted_within charted
tape_charted (refused k) = refl
tape_charted (held p) = within_charted tape p tt

pub tape_both : (q : Reading) → charted_both_within tape q ≡ charted_both q
unfolding charted_both_within charted_both
tape_both (refused k) = refl
tape_both (held p) = within_both tape p tt

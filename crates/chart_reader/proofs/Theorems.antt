-- What this crate proves of reading a chart, each theorem with its statement in plain words. The proofs are in the files beside this one.
-- To be read with specs/Reader.antt, specs/Rules.antt, specs/Formed.antt, specs/Charts.antt, specs/Follow.antt, specs/Nearest.antt of the crate nearest, and specs/Decode.antt of the crate chart.
use mathlib.Core.Path.{◌≡◌, refl, ap}
use mathlib.Core.Logic.{◌↔◌}
use mathlib.Core.List.{List}
use Prim.Native.Nat.{ℕ, ◌<◌}
use Rattle.lists.specs.Lists.{All}
use Rattle.lists.proofs.Lists.{all_imp}
use Rattle.lists.proofs.Places.{below_at}
use Rattle.polygon.specs.Polygon.{Polygon, bare, Valid}
use Rattle.polygon.proofs.Reading.{bare_valid}
use Rattle.codec.specs.Answer.{write}
use Rattle.sheet.specs.Sheet.{Reading, held, normal_sheet, outcome}
use Rattle.chart.specs.Chart.{Chart, chart_of}
use Rattle.chart.specs.Bytes.{bytes_of}
use Rattle.chart.specs.Decode.{chart_in}
use Rattle.chart.proofs.Theorems.{chart_bare, chart_is_true, chart_shows}
use Rattle.nearest.specs.declared.Cell.{Cell}
use Rattle.nearest.specs.Nearest.{none, nearest}
use Rattle.nearest.proofs.Line.{none_of}
use Rattle.chart_reader.specs.Rules.{ends, Free}
use Rattle.chart_reader.specs.Reader.{read_chart, chart_read}
use Rattle.chart_reader.specs.Charts.{Charts}
use Rattle.chart_reader.specs.Follow.{FollowAnswer, Asked, nearest_bar}
use Rattle.chart_reader.proofs.Verdict.{Verdict, read_by, by_reading}
use Rattle.chart_reader.proofs.Accepts.{held_keeps, held_charts, charts_held}
use Rattle.chart_reader.proofs.Standing.{none_free}
use Rattle.chart_reader.proofs.Following.{Follows, found, by_answer, followed_by}

-- Bytes are accepted, but for 8, exactly if they are those of a true chart that shows a valid part without angles; and they are read as that part.
pub accepts : (s : List ℕ) (p : Polygon) → All (λ b. b < 256) s → (read_chart s ≡ held p) ↔ Charts s p
accepts s p B = (λ e. held_charts s p B (held_keeps s p (by_reading s e) refl), charts_held)

-- What is refused is refused by the first number that applies: `Verdict` in Verdict.antt has a case for each.
pub refuses : (s : List ℕ) (r : Reading) → (read_chart s ≡ r) ↔ Verdict s r
refuses s r = (by_reading s, read_by s)

-- The sheet written is the normal sheet of that part.
pub writes : (s : List ℕ) (p : Polygon) → Charts s p → chart_read s ≡ write (normal_sheet p)
unfolding chart_read outcome
writes s p C = ap outcome (charts_held C)

-- The chart of every valid part is a chart of that part without its angles, and is read back as it.
unfoldable pub chart_charts : (p : Polygon) → Valid p → Charts (bytes_of (chart_of p)) (bare p)
chart_charts p v =
    let w = bare_valid p v in
    record { valid = w; bare = refl; chart = chart_of p; bytes = refl; is_true = chart_is_true p v; shows = rw (chart_bare p) at (chart_shows (bare p) w) }

pub reads_back : (p : Polygon) → Valid p → read_chart (bytes_of (chart_of p)) ≡ held (bare p)
reads_back p v = charts_held (chart_charts p v)

-- Request (x). What test 16 asks of two cells is the answer of `nearest`: no bar stands between them exactly if it is none. So both ends of a stroke of a chart that is taken can be joined with a finger.
pub free_answer : (c : Chart) (e : Cell × Cell) → Free c e ↔ (nearest c.bar c.n e ≡ none)
free_answer c e = (λ F. none_of c.bar c.n e (below_at F), none_free c c.n refl e)

pub strokes_free : (s : List ℕ) (p : Polygon) → read_chart s ≡ held p → All (λ t. nearest (chart_in s).bar (chart_in s).n (ends (chart_in s) t) ≡ none) (chart_in s).strokes
strokes_free s p h = all_imp (λ t F. (free_answer (chart_in s) (ends (chart_in s) t)).0 F.1) (held_keeps s p (by_reading s h) refl).strokes.2

-- A question to the bytes of a chart is refused by the first number that applies, 14, 15 or 9, or answered: `Follows` in Following.antt has a case for each.
pub follows : (s : List ℕ) (e : Cell × Cell) (r : FollowAnswer) → (nearest_bar s e ≡ r) ↔ Follows s e r
follows s e r = (by_answer s e, followed_by s e)

-- Of a chart that is taken, every two of its cells in one row or column are answered.
pub taken_followed : (s : List ℕ) (p : Polygon) → read_chart s ≡ held p → (e : Cell × Cell) → Asked (chart_in s) e → nearest_bar s e ≡ record { number = 0; found = nearest (chart_in s).bar (chart_in s).n e }
taken_followed s p h e A = let K = held_keeps s p (by_reading s h) refl in followed_by s e (found K.formed K.bars A)

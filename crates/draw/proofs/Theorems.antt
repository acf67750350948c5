-- What this crate proves of the label's calls, each theorem with its statement in plain words. To be read with specs/Label.antt.
use mathlib.Core.Path.{◌≡◌, refl, ap}
use mathlib.Core.Logic.{◌↔◌}
use mathlib.Core.List.{List}
use Prim.Native.Nat.{ℕ, suc, ◌+◌, ◌*◌, ◌^◌, ◌≤◌, ◌<◌}
use native.Mathlib.Decide.{dec_le}
use native.Mathlib.Omega.{arith}
use Rattle.polygon.specs.Polygon.{Polygon, Valid}
use Rattle.codec.specs.Answer.{refuse, written}
use Rattle.codec.specs.TwoOutputs.{BothOutcome, refusal_both, written_both}
use Rattle.sheet.specs.Sheet.{Reading, refused, held, read_sheet}
use Rattle.umbrella.specs.Tight.{tight_part}
use Rattle.umbrella.proofs.Theorems.{levels_below, tight_part_lem}
use Rattle.chart.specs.Chart.{Bar, chart_of}
use Rattle.chart.proofs.Theorems.{chart_rows_most, chart_rows_no_stem}
use Rattle.draw.specs.Answer.{charted, drawn, charted_both, drawn_with_bars}
use Rattle.draw.specs.Label.{tape, label, charted_within, charted_both_within, labelled, labelled_with_bars, Tall}
use Rattle.draw.proofs.Label.{within_charted, within_both, over_charted, over_both, tape_charted, tape_both}
use Rattle.draw.proofs.Nineteen.{TooTall, within_nineteen, both_nineteen}

-- A sheet that is refused is refused by its own number.
pub label_sheet_refused : (s : List ℕ) (k : ℕ) → read_sheet s ≡ refused k → (labelled s ≡ refuse k) × ((out : List ℕ) (bars : List Bar) → labelled_with_bars s out bars ≡ refusal_both k out bars)
unfolding labelled labelled_with_bars charted_within charted_both_within written_both
label_sheet_refused s k e = (rw e, λ out bars. rw e)

-- Of a part whose chart has at most fifteen rows the label's calls do what the tape's do, whatever is lent.
pub label_as_tape : (s : List ℕ) (p : Polygon) → read_sheet s ≡ held p → (chart_of p).rows ≤ 15 → (labelled s ≡ drawn s) × ((out : List ℕ) (bars : List Bar) → labelled_with_bars s out bars ≡ drawn_with_bars s out bars)
unfolding labelled labelled_with_bars drawn drawn_with_bars
label_as_tape s p e h = (
  rw e (within_charted label p h),
  λ out bars. rw e (ap (λ (o : BothOutcome Bar). written_both o out bars) (within_both label p h)),
)

-- With more rows they refuse by 19, whatever is lent, also where an output is too short.
pub label_refuses : (s : List ℕ) (p : Polygon) → read_sheet s ≡ held p → 15 < (chart_of p).rows → (labelled s ≡ refuse 19) × ((out : List ℕ) (bars : List Bar) → labelled_with_bars s out bars ≡ refusal_both 19 out bars)
unfolding labelled labelled_with_bars written_both
label_refuses s p e h = (
  rw e (over_charted label p (λ k. omega (arith, h, k))),
  λ out bars. rw e (ap (λ (o : BothOutcome Bar). written_both o out bars) (over_both label p (λ k. omega (arith, h, k)))),
)

-- 19 is the answer exactly then.
tall_by : (s : List ℕ) {A : Type 0} → A ↔ TooTall label (read_sheet s) → A ↔ Tall s
tall_by s (f, g) = (λ a. let (p, e, w) = f a in (p, e, omega (arith, w)), λ (p, e, h). g (p, e, λ k. omega (arith, h, k)))

pub label_nineteen : (s out : List ℕ) → ((written (labelled s) out).number ≡ 19) ↔ Tall s
unfolding labelled
label_nineteen s out = tall_by s (within_nineteen label s out)

pub label_nineteen_bars : (s out : List ℕ) (bars : List Bar) → ((labelled_with_bars s out bars).answer.number ≡ 19) ↔ Tall s
unfolding labelled_with_bars
label_nineteen_bars s out bars = tall_by s (both_nineteen label s out bars)

-- Else, taken or refused, the label's answers are the tape's.
pub label_else : (s : List ℕ) → ¬ Tall s → (labelled s ≡ drawn s) × ((out : List ℕ) (bars : List Bar) → labelled_with_bars s out bars ≡ drawn_with_bars s out bars)
unfolding drawn drawn_with_bars charted charted_both written_both
label_else s f = go (read_sheet s) refl
  where
    go : (r : Reading) → read_sheet s ≡ r → (labelled s ≡ drawn s) × ((out : List ℕ) (bars : List Bar) → labelled_with_bars s out bars ≡ drawn_with_bars s out bars)
    go (refused k) e = let (a, b) = label_sheet_refused s k e in (rw e a, λ out bars. rw e (b out bars))
    go (held p) e = fits (dec_le (chart_of p).rows 15)
      where
        fits : Dec ((chart_of p).rows ≤ 15) → (labelled s ≡ drawn s) × ((out : List ℕ) (bars : List Bar) → labelled_with_bars s out bars ≡ drawn_with_bars s out bars)
        fits (yes h) = label_as_tape s p e h
        fits (no h) = absurd (f (p, e, omega (arith, h)))

-- The tape's calls never give it.
pub tape_never : (s out : List ℕ) → ¬ ((written (drawn s) out).number ≡ 19)
unfolding drawn
tape_never s out e = ((within_nineteen tape s out).0 (rw (tape_charted (read_sheet s)) e)).2 tt

pub tape_never_bars : (s out : List ℕ) (bars : List Bar) → ¬ ((drawn_with_bars s out bars).answer.number ≡ 19)
unfolding drawn_with_bars
tape_never_bars s out bars e = ((both_nineteen tape s out bars).0 (rw (tape_both (read_sheet s)) e)).2 tt

-- The chart of a part with fewer corners than D levels need has fewer rows than two a level: with D = 8, under 511 corners, at most fifteen.
pub rows_below : (p : Polygon) → Valid p → (D : ℕ) → p.n + 1 < 2 ^ suc D → (chart_of p).rows < 2 * D
rows_below p v D h = omega (arith, chart_rows_most p v, levels_below p v D h)

-- The part of D levels with the fewest corners has a row a level and one more, so that the label takes it for every D.
pub tight_rows : (D : ℕ) → 1 ≤ D → D ≤ 9 → (chart_of (tight_part D)).rows ≡ D + 1
tight_rows D h k = let (v, n, l, s) = tight_part_lem D h k in omega (arith, chart_rows_no_stem (tight_part D) v s, l)

-- What `draw_within` answers, for any list of records that is filled afterwards, and Draw without the bar list as the case of room for any part.
-- By the cases of what was read, from the laws of WithBars.antt.
use mathlib.Core.Path.{◌≡◌, refl, ap, sym, ◌∙◌}
use mathlib.Core.List.{List, map}
use mathlib.Core.Option.{Option}
use Prim.Native.Nat.{ℕ, ◌≤◌}
use native.Mathlib.Decide.{dec_le}
use native.Mathlib.Omega.{arith}
use lib.ListN.{length, replicate, length-map, length-replicate}
use Rattle.lists.specs.Lists.{choose}
use Rattle.lists.proofs.Lists.{choose_yes}
use Rattle.polygon.specs.Polygon.{Triangulated, Polygon}
use Rattle.polygon.proofs.TreeTheorem.{tree_of_lem}
use Rattle.codec.specs.Answer.{Answer, refusal, refuse, write, written, answered}
use Rattle.codec.specs.TwoOutputs.{BothOutcome, refuse_both, write_both, BothAnswer, refusal_both, written_both, answered_both}
use Rattle.std.specs.Prelude.{Result, Ok, Err, Option as Given, Some}
use Rattle.codec.specs.declared.refusal.Refusal.{Refusal}
use Rattle.codec.specs.declared.refusal.Refusal.TheVariants.{Room}
use Rattle.codec.specs.Numbered.{number_of}
use Rattle.sheet.specs.Sheet.{Reading, refused, held, read_sheet}
use Rattle.sheet.proofs.Valid.{read_valid}
use Rattle.chart.specs.Chart as chart
use Rattle.chart.specs.Chart.{layout, closed, bars_of, chart_of}
use Rattle.chart.specs.Bytes.{bytes_of}
use Rattle.draw.specs.Answer.{charted_both}
use Rattle.draw.specs.Label.{tape, Keeps, keeps?, charted_within, charted_both_within}
use Rattle.draw.specs.Charted.{stopped, unless, unless_stopped}
use Rattle.draw.specs.WithBars.{filled_by, RecordsFit}
use Rattle.draw.proofs.Label.{within_both}
use Rattle.draw.proofs.WithBars.{few_records, both_written, none_written, wrote, enough_records}
use Rattle.chart.specs.declared.Bar.{Bar}
use Rattle.chart.specs.Decode.{bar_of}

-- the answer r with the bytes `after`, to a reading and an output, for any list of `room` records
abbrev pub For : Option ℕ → Reading → List ℕ → ℕ → Result (ℕ × ℕ) Refusal → List ℕ → Type 0
For limit q out room r after = (bars : List Bar) → length bars ≡ room → answered_both r after (map bar_of (filled_by r after bars)) ≡ written_both (charted_both_within limit q) out (map bar_of bars)

-- the chart has the part's corners
corners : (p : Polygon) → Triangulated p.n p.ds → (chart_of p).n ≡ p.n
unfolding chart_of closed chart.chart layout
corners p T = omega (arith, (tree_of_lem p.n p.ds T).size, T.full)

-- a refusal for the bytes is one for both outputs
refused_both : (k m : ℕ) (after out : List ℕ) (bars : List chart.Bar) → refusal k after ≡ refusal m out → refusal_both k after bars ≡ refusal_both m out bars
refused_both k m after out bars a i = record { answer = a i; count = 0; second = bars }

-- a part that was read
module _ (limit : Option ℕ) (p : Polygon) (T : Triangulated p.n p.ds) (out : List ℕ) (room : ℕ) (after : List ℕ) where
  -- nothing was written: the chart has too many rows, or there are too few records, or the output is too short
  pub for_none : (why : Refusal) → refusal (number_of why) after ≡ written (unless_stopped limit room (chart_of p)) out → For limit (held p) out room (Err why) after
  unfolding charted_both_within charted_both written_both written unless_stopped stopped unless choose
  for_none why a bars l = go (keeps? limit (chart_of p).rows) (dec_le (chart_of p).n room) refl refl
    where
      go : (d : Dec (Keeps limit (chart_of p).rows)) (e : Dec ((chart_of p).n ≤ room)) → keeps? limit (chart_of p).rows ≡ d → dec_le (chart_of p).n room ≡ e
          → refusal_both (number_of why) after (map bar_of bars) ≡ written_both (charted_both_within limit (held p)) out (map bar_of bars)
      go (yes w) (yes h) i j = rw i (none_written (chart_of p) out bars (omega (arith, h, l)) after (number_of why) (rw (i, j) at a))
      go (yes w) (no h) i j = rw i (refused_both (number_of why) 8 after out (map bar_of bars) (rw (i, j) at a) ∙ few_records (chart_of p) out bars (omega (arith, h, l)))
      go (no w) e i j = rw i (refused_both (number_of why) 19 after out (map bar_of bars) (rw i at a))

  -- a chart was written: it is within the limit, and there are records enough
  module _ (k : ℕ) (a : answered (Ok k) after ≡ written (unless_stopped limit room (chart_of p)) out) where
    taken : Keeps limit (chart_of p).rows × ((chart_of p).n ≤ room) × (answered (Ok k) after ≡ written (write (bytes_of (chart_of p))) out)
    unfolding written unless_stopped stopped unless choose
    taken = go (keeps? limit (chart_of p).rows) (dec_le (chart_of p).n room) refl refl
      where
        go : (d : Dec (Keeps limit (chart_of p).rows)) (e : Dec ((chart_of p).n ≤ room)) → keeps? limit (chart_of p).rows ≡ d → dec_le (chart_of p).n room ≡ e
            → Keeps limit (chart_of p).rows × ((chart_of p).n ≤ room) × (answered (Ok k) after ≡ written (write (bytes_of (chart_of p))) out)
        go (yes w) (yes h) i j = (w, h, rw (i, j) at a)
        go (yes w) (no h) i j = absurd (omega (arith, ap (λ (x : Answer). x.number) (rw (i, j) at a)))
        go (no w) e i j = absurd (omega (arith, ap (λ (x : Answer). x.number) (rw i at a)))

    pub for_chart : For limit (held p) out room (Ok (k, p.n)) after
    unfolding charted_both
    for_chart bars l =
        let (w, h, e) = taken in
        ap (λ (n : ℕ). answered_both (Ok (k, n)) after (map bar_of (filled_by (Ok (k, n)) after bars))) (sym (corners p T))
        ∙ (both_written (chart_of p) out bars (omega (arith, h, l)) after k e ∙ ap (λ (o : BothOutcome chart.Bar). written_both o out (map bar_of bars)) (sym (within_both limit p w)))

    pub chart_fits : RecordsFit (Ok (k, p.n)) room (length out)
    chart_fits = let (w, h, e) = taken in (omega (arith, h, corners p T), omega (arith, wrote (chart_of p) out after k e, corners p T))

-- on a tape with records enough nothing stops a chart but the output
pub tape_fits : (p : Polygon) (T : Triangulated p.n p.ds) (room : ℕ) → p.n ≤ room → unless_stopped tape room (chart_of p) ≡ write (bytes_of (chart_of p))
unfolding unless_stopped stopped unless choose keeps?
tape_fits p T room h = ap (λ (r : Given Refusal). unless r (bytes_of (chart_of p))) (choose_yes (dec_le (chart_of p).n room) (Some Room) (omega (arith, h, corners p T)))

-- room for any part
room_enough : (limit : Option ℕ) (s out : List ℕ) (bars : List Bar) → length bars ≡ 1024
    → (written_both (charted_both_within limit (read_sheet s)) out (map bar_of bars)).answer ≡ written (charted_within limit (read_sheet s)) out
unfolding charted_both_within written_both charted_within written choose
room_enough limit s out bars h = go (read_sheet s) refl
  where
    within : (p : Polygon) (d : Dec (Keeps limit (chart_of p).rows)) → (chart_of p).n ≤ 1024
        → (written_both (choose d (write_both (bytes_of (chart_of p)) (bars_of (chart_of p))) (refuse_both 19)) out (map bar_of bars)).answer ≡ written (choose d (write (bytes_of (chart_of p))) (refuse 19)) out
    within p (yes w) few = enough_records (chart_of p) out (map bar_of bars) (omega (arith, h, length-map bars bar_of, few))
    within p (no w) few = refl

    go : (r : Reading) → read_sheet s ≡ r → (written_both (charted_both_within limit (read_sheet s)) out (map bar_of bars)).answer ≡ written (charted_within limit (read_sheet s)) out
    go (refused k) e = rw e
    go (held p) e = let v = read_valid s p e in rw e (within p (keeps? limit (chart_of p).rows) (omega (arith, corners p v.triangulated, v.most)))

-- the answer without that for the bar list
abbrev pub alone : Result (ℕ × ℕ) Refusal → Result ℕ Refusal
alone (Ok (k, n)) = Ok k
alone (Err why) = Err why

alone_is : (r : Result (ℕ × ℕ) Refusal) (after : List ℕ) (bars : List chart.Bar) → answered (alone r) after ≡ (answered_both r after bars).answer
alone_is (Ok (k, n)) after bars = refl
alone_is (Err why) after bars = refl

pub without_bars : (limit : Option ℕ) (s out after : List ℕ) (r : Result (ℕ × ℕ) Refusal) → For limit (read_sheet s) out 1024 r after → answered (alone r) after ≡ written (charted_within limit (read_sheet s)) out
without_bars limit s out after r H =
    let bar : Bar = record { row = 0; left = 0; right = 0 } in
    let bars : List Bar = replicate 1024 bar in
    let l : length bars ≡ 1024 = length-replicate 1024 bar in
    alone_is r after (map bar_of (filled_by r after bars)) ∙ (ap (λ (a : BothAnswer chart.Bar). a.answer) (H bars l) ∙ room_enough limit s out bars l)

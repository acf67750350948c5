-- Which bytes are accepted: those of a true chart that shows a valid part.
use mathlib.Core.Path.{◌≡◌, refl, ap, ◌∙◌}
use mathlib.Core.List.{List}
use Prim.Native.Nat.{ℕ, zero, suc, ◌+◌, ◌*◌, ◌-◌, ◌≤◌, ◌<◌}
use native.Mathlib.Omega.{arith}
use lib.ListN.{length, get_or, length-map}
use Rattle.lists.specs.Lists.{All}
use Rattle.polygon.specs.Angles.{none}
use Rattle.polygon.specs.Polygon.{Polygon, Valid}
use Rattle.sheet.specs.Sheet.{Reading, refused, held}
use Rattle.chart.specs.Chart.{Chart, True, Shows}
use Rattle.chart.specs.Bytes.{bytes_of}
use Rattle.chart.specs.Decode.{count_in, stroke_size, stroke_at, places, stroke_places, chart_in}
use Rattle.nearest.specs.BarRule.{BarRule}
use Rattle.chart_reader.specs.Formed.{Formed}
use Rattle.chart_reader.specs.Rules.{StrokeRule, GapRule, PartRule, part_in}
use Rattle.chart_reader.specs.Reader.{read_chart}
use Rattle.chart_reader.specs.Charts.{Charts}
use Rattle.chart_reader.proofs.Verdict.{Verdict, taken, by_14, by_15, by_16, by_17, by_18, read_by}
use Rattle.chart_reader.proofs.Truth.{rules_true, true_rules}
use Rattle.chart_reader.proofs.Shown.{rule_shows, rule_valid, shows_named, shows_count, shows_rule, shows_part}
use Rattle.chart_reader.proofs.Same.{SameNumbers, same_true, same_shows}
use Rattle.chart_reader.proofs.Decoded.{decoded, decoded_formed}
use Rattle.chart_reader.proofs.Encoded.{encoded}

pub places_count : (s : List ℕ) (at k : ℕ) → length (places s at k) ≡ k
unfolding places
places_count s at zero = refl
places_count s at (suc k) = ap suc (places_count s (at + stroke_size (get_or s at 0)) k)

pub strokes_count : (s : List ℕ) → 3 ≤ count_in s → length (chart_in s).strokes + 3 ≡ 2 * count_in s
strokes_count s h = omega (arith, length-map (stroke_places s) (stroke_at s), places_count s (6 + 6 * count_in s) (2 * count_in s - 3))

not_held : (k : ℕ) (p : Polygon) → refused k ≡ held p → ⊥
not_held k p e = let z : ◌≡◌ {A = ℕ} 0 1 = cc in omega arith

-- what is held keeps every rule, and is the chart's part
pub record KeepsRules (s : List ℕ) (p : Polygon) : Type 0 where
  pub formed : Formed s
  pub bars : BarRule (chart_in s)
  pub strokes : StrokeRule (chart_in s)
  pub gaps : GapRule (chart_in s)
  pub part : PartRule (chart_in s)
  pub is : part_in (chart_in s) ≡ p

pub held_keeps : (s : List ℕ) (p : Polygon) {r : Reading} → Verdict s r → r ≡ held p → KeepsRules s p
held_keeps s p (taken F R S G P) e = record { formed = F; bars = R; strokes = S; gaps = G; part = P; is = cc }
held_keeps s p (by_14 a) e = absurd (not_held _ p e)
held_keeps s p (by_15 a b) e = absurd (not_held _ p e)
held_keeps s p (by_16 a b c) e = absurd (not_held _ p e)
held_keeps s p (by_17 a b c d) e = absurd (not_held _ p e)
held_keeps s p (by_18 a b c d f) e = absurd (not_held _ p e)

-- and it is shown
pub held_charts : (s : List ℕ) (p : Polygon) → All (λ b. b < 256) s → KeepsRules s p → Charts s p
held_charts s p B H =
    let c : Chart = chart_in s in
    let F = H.formed in
    let S = H.strokes in
    rw (← H.is) (record {
      valid = rule_valid c F.least S.0 S.1 H.part F.most (strokes_count s F.least);
      bare = refl;
      chart = c;
      bytes = encoded B F;
      is_true = rules_true c H.bars S H.gaps;
      shows = rule_shows c F.least S.0 S.1 H.part;
    })

-- what is shown is held
bytes_held : (c : Chart) (p : Polygon) → Valid p → p.angles ≡ none → True c → Shows c p → read_chart (bytes_of c) ≡ held p
bytes_held c p v b T H =
    let s : List ℕ = bytes_of c in
    let n = H.corners in
    let count : length c.strokes + 3 ≡ 2 * c.n = rw n (shows_count c p v H) in
    let S : SameNumbers (chart_in s) c = decoded c count in
    let D : Shows (chart_in s) p = same_shows (chart_in s) c S p H in
    let R = true_rules (chart_in s) (same_true (chart_in s) c S T) (shows_named (chart_in s) p v D) D.ascending in
    read_by s (taken (decoded_formed c (rw n v.least) (rw n v.most) count) R.0 R.1 R.2 (shows_rule (chart_in s) p v D)) ∙ ap held (shows_part (chart_in s) p v D b)

pub charts_held : {s : List ℕ} {p : Polygon} → Charts s p → read_chart s ≡ held p
charts_held {s} {p} C = rw C.bytes (bytes_held C.chart p C.valid C.bare C.is_true C.shows)

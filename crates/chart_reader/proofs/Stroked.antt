-- The strokes of a chart, place by place, as the code reads them.
use mathlib.Core.Path.{◌≡◌, refl, ap, sym, ◌∙◌}
use Rattle.std.specs.Prelude.{true, false, Option, Some, None, Err}
use Rattle.std.specs.Option.{is_some, ok_or}
use mathlib.Core.List.{List, [], ◌∷◌, map}
use Prim.Native.Nat.{ℕ, zero, suc, ◌+◌, ◌*◌, ◌-◌, ◌≤◌, ◌<◌}
use native.Mathlib.Omega.{arith}
use lib.ListN.{length, get_or, length-map, get_or-map}
use Rattle.lists.specs.Lists.{All, all_cons, all_nil}
use Rattle.lists.proofs.Lists.{all_map}
use Rattle.lists.proofs.Places.{all_at, at_all}
use Rattle.polygon.specs.Polygon.{◌—◌}
use Rattle.chart.specs.declared.Stroke as code
use Rattle.chart.specs.Chart.{Stroke, stroke_edge}
use Rattle.chart.specs.Decode.{count_in, stroke_size, stroke_at, places, behind, stroke_places, chart_in, drawn_as, stroke_of}
use Rattle.nearest.specs.Held.{Bars}
use Rattle.chart_reader.specs.Rules.{Named}
use Rattle.chart_reader.specs.Held.{StrokesFound, StrokeIn}
use Rattle.chart_reader.proofs.Accepts.{places_count}
use Rattle.chart_reader.proofs.Encoded.{behind_up}

-- the edge of a stroke that was read
pub edge_of_lem : (t : code.Stroke) → stroke_edge (stroke_of t) ≡ (t.a — t.b)
unfolding stroke_edge
edge_of_lem t = go t.column
  where
    go : (o : Option ℕ) → stroke_edge (drawn_as (t.a — t.b) o) ≡ (t.a — t.b)
    go None = refl
    go (Some j) = refl

-- whether there is a value, by std's test
pub none_is : {o : Option ℕ} → is_some o ≡ false → o ≡ None
none_is {o = None} h = refl
none_is {o = Some x} h = absurd (cc h)

pub some_is : {o : Option ℕ} → is_some o ≡ true → (x : ℕ) × (o ≡ Some x)
some_is {o = None} h = absurd (cc h)
some_is {o = Some x} h = (x, refl)

-- the refusal where there is none
pub refused_as : {A E : Type 0} (o : Option A) {r e : E} → Err e ≡ ok_or o r → e ≡ r
refused_as None h = cc
refused_as (Some x) h = absurd (cc h)

-- all strokes of a chart, by their places
module _ (s : List ℕ) (n : ℕ) (at : List ℕ) (P : StrokesFound s n at) where
  pub strokes_all : {Q : Stroke → Type 0} → ((k : ℕ) → k < length at → Q (stroke_at s (get_or at k 0))) → All Q (chart_in s).strokes
  strokes_all {Q} f = rw (← P.strokes) (all_at (stroke_at s 0) (map (stroke_at s) at) (λ k h. rw (get_or-map (stroke_at s) at k 0) (f k (omega (arith, length-map at (stroke_at s))))))

  pub strokes_at : {Q : Stroke → Type 0} → All Q (chart_in s).strokes → (k : ℕ) → k < length at → Q (stroke_at s (get_or at k 0))
  strokes_at {Q} a k h = rw (get_or-map (stroke_at s) at k 0) at (at_all (stroke_at s 0) (rw (← P.strokes) at a) k (omega (arith, length-map at (stroke_at s))))

  pub strokes_room : length at ≡ 2 * n - 3
  strokes_room = rw P.count (ap length P.strokes ∙ places_count s (6 + 6 * count_in s) (2 * count_in s - 3))

  pub bars_room : Bars s n
  bars_room = record { count = P.count; room = omega (arith, P.count, P.formed.exact, behind_up s (6 + 6 * count_in s) (2 * count_in s - 3)) }

-- each lies within the bytes
inside : (s : List ℕ) (at k : ℕ) → All (λ p. p + stroke_size (get_or s p 0) ≤ behind s at k) (places s at k)
unfolding places behind
inside s at zero = all_nil
inside s at (suc k) = all_cons {x = at} (behind_up s (at + stroke_size (get_or s at 0)) k) (inside s (at + stroke_size (get_or s at 0)) k)

module _ (s : List ℕ) (n : ℕ) (at : List ℕ) (P : StrokesFound s n at) (k : ℕ) (h : k < length at) where
  pub place_room : get_or at k 0 + stroke_size (get_or s (get_or at k 0) 0) ≤ length s
  place_room =
      let a : All (λ p. p + stroke_size (get_or s p 0) ≤ length s) (stroke_places s) = rw P.formed.exact at (inside s (6 + 6 * count_in s) (2 * count_in s - 3)) in
      at_all 0 (rw (← P.strokes) at a) k h

  pub stroke_in : {t : code.Stroke} → stroke_of t ≡ stroke_at s (get_or at k 0) → All (Named (chart_in s)) (chart_in s).strokes → StrokeIn n t
  stroke_in {t} e N =
      let q = rw (← e, edge_of_lem t) at (strokes_at s n at P N k h) in
      record { low = omega (arith, P.count); high = omega (arith, P.count) }

-- the same of a place that a loop or a chain meets
place_of : (at : List ℕ) (k : ℕ) → k < length at → (p : ℕ) → p ≡ get_or at k p → get_or at k 0 ≡ p
place_of [] k h p e = absurd (omega arith)
place_of (x ∷ at) zero h p e = sym e
place_of (x ∷ at) (suc k) h p e = place_of at k (omega arith) p e

module _ (s : List ℕ) (n : ℕ) (at : List ℕ) (P : StrokesFound s n at) (p k : ℕ) (h : k < length at) (e : p ≡ get_or at k p) where
  pub met_room : p + stroke_size (get_or s p 0) ≤ length s
  met_room = rw (place_of at k h p e) at (place_room s n at P k h)

  pub met_in : All (Named (chart_in s)) (chart_in s).strokes → (t : code.Stroke) → stroke_of t ≡ stroke_at s p → StrokeIn n t
  met_in N t q = stroke_in s n at P k h (q ∙ ap (stroke_at s) (sym (place_of at k h p e))) N

-- a property of all strokes, by their places
module _ (s : List ℕ) (n : ℕ) (at : List ℕ) (P : StrokesFound s n at) {Q : Stroke → Type 0} where
  pub places_strokes : All (λ p. Q (stroke_at s p)) at → All Q (chart_in s).strokes
  places_strokes a = rw (← P.strokes) (all_map (stroke_at s) a)

  pub strokes_places : All Q (chart_in s).strokes → All (λ p. Q (stroke_at s p)) at
  strokes_places a = all_at 0 at (λ k h. strokes_at s n at P a k h)

-- Keys in order number the strokes in order, from left to right.
-- Rests on putting a key in its place (crate keys).
use mathlib.Core.Path.{◌≡◌, refl, ap, ◌∙◌}
use mathlib.Core.List.{List, [], ◌∷◌, map, map-append}
use Prim.Native.Nat.{ℕ, zero, suc, ◌+◌, ◌/◌, ◌%◌, ◌<◌, ◌≤◌}
use native.Mathlib.Decide.{dec_le, dec_lt}
use native.Mathlib.Numerals.{add-one}
use native.Mathlib.Omega.{arith}
use lib.ListN.{length, take, set}
use lib.Seq.{take-suc-set}
use Rattle.lists.specs.Lists.{All, all_cons, all_nil, below, choose, numbers}
use Rattle.lists.proofs.Lists.{all_imp, all_map}
use Rattle.lists.proofs.Places.{numbers_in, below_next, map_places}
use Rattle.keys.specs.Sort.{insert_key, sort_keys}
use Rattle.keys.proofs.Insert.{insert_below, insert_past, all_sort}
use Rattle.chart.specs.Chart.{Stroke, Chart}
use Rattle.chart.specs.Decode.{stroke_at, chart_in}
use Rattle.chart_reader.specs.Held.{StrokesFound}
use Rattle.chart_reader.proofs.Stroked.{strokes_room}
use Rattle.chart_text.specs.Text.{standing, insert_stroke, left_to_right, stroke_lines}
use Rattle.chart_text.specs.Ordered.{stroke_no, key_for, stroke_keys, strokes_of, key_lines}

-- y is a key whose number is above that of x; f is the stroke of a key
abbrev Later : Chart → (ℕ → Stroke) → ℕ → ℕ → Type 0
Later c f x y = (y / 2048 ≡ standing c (f y)) × (x % 2048 < y % 2048)

-- a key whose number is below those of the others goes where its stroke enters
module _ (c : Chart) (f : ℕ → Stroke) (x : ℕ) (stands : x / 2048 ≡ standing c (f x)) where
  insert_enters : {ys : List ℕ} → All (Later c f x) ys → map f (insert_key x ys) ≡ insert_stroke c (f x) (map f ys)
  unfolding insert_key insert_stroke choose
  insert_enters all_nil = refl
  insert_enters (all_cons {x = y} {l = ys} p a) = go (dec_lt x y) (dec_le (standing c (f x)) (standing c (f y))) (insert_enters a)
    where
      go : Dec (x < y) → (d : Dec (standing c (f x) ≤ standing c (f y))) → map f (insert_key x ys) ≡ insert_stroke c (f x) (map f ys)
          → map f (insert_key x (y ∷ ys)) ≡ choose d (f x ∷ (f y ∷ map f ys)) (f y ∷ insert_stroke c (f x) (map f ys))
      go (yes h) (yes d) e = rw (insert_below x y ys h)
      go (yes h) (no d) e = absurd (d (omega arith))
      go (no h) (yes d) e = absurd (h (omega arith))
      go (no h) (no d) e = rw (insert_past x y ys (omega arith)) (ap (λ (l : List Stroke). f y ∷ l) e)

-- the keys of the strokes at these places: a key's number, and where its stroke stands
module _ (s at : List ℕ) where
  number_of : (i : ℕ) → i < 2048 → key_for s at i % 2048 ≡ i
  number_of i h = omega arith

  stands_at : (i : ℕ) → i < 2048 → key_for s at i / 2048 ≡ standing (chart_in s) (stroke_no s at (key_for s at i % 2048))
  stands_at i h = rw (number_of i h) (omega arith)

  -- the keys of later strokes
  later_keys : (k i : ℕ) → i + suc k ≤ 2048 → All (Later (chart_in s) (λ x. stroke_no s at (x % 2048)) (key_for s at i)) (map (key_for s at) (numbers k (suc i)))
  later_keys k i h = all_map (key_for s at) (all_imp (λ y p. (stands_at y (omega arith), omega (arith, number_of i (omega arith), number_of y (omega arith)))) (numbers_in k (suc i)))

  sorted_strokes : (k i : ℕ) → i + k ≤ 2048 → strokes_of s at (sort_keys (map (key_for s at) (numbers k i))) ≡ left_to_right (chart_in s) (map (stroke_no s at) (numbers k i))
  unfolding numbers sort_keys left_to_right
  sorted_strokes zero i h = refl
  sorted_strokes (suc k) i h =
      insert_enters (chart_in s) (λ x. stroke_no s at (x % 2048)) (key_for s at i) (stands_at i (omega arith)) (all_sort (later_keys k i (omega arith)))
      ∙ rw (number_of i (omega arith), sorted_strokes k (suc i) (omega arith))

  -- in order the keys number the strokes from left to right, and each numbers a stroke
  strokes_sorted : length at ≤ 2048 → strokes_of s at (sort_keys (stroke_keys s at)) ≡ left_to_right (chart_in s) (map (stroke_at s) at)
  unfolding below
  strokes_sorted few = sorted_strokes (length at) 0 (omega arith) ∙ ap (left_to_right (chart_in s)) (map_places (stroke_at s) (stroke_no s at) 0 at 0 (λ i h. let e : 0 + i ≡ i = omega arith in rw e))

  keys_number : length at ≤ 2048 → All (λ k. k % 2048 < length at) (sort_keys (stroke_keys s at))
  unfolding below
  keys_number few = all_sort (all_map (key_for s at) (all_imp (λ i p. omega (arith, number_of i (omega arith))) (numbers_in (length at) 0)))

-- the strokes of a chart, by their places
module _ (s : List ℕ) (n : ℕ) (at : List ℕ) (P : StrokesFound s n at) where
  -- 2n - 3 of at most 1,024 corners
  pub few_strokes : length at ≤ 2045
  few_strokes = omega (arith, strokes_room s n at P, P.count, P.formed.most)

  -- each of the keys in order numbers a stroke, and their lines are the text's lines of the strokes
  module _ (ks : List ℕ) (e : ks ≡ sort_keys (stroke_keys s at)) where
    pub ordered_number : All (λ k. k % 2048 < length at) ks
    ordered_number = rw e (keys_number s at (omega (arith, few_strokes)))

    pub ordered_lines : key_lines s at ks ≡ stroke_lines (chart_in s)
    unfolding stroke_lines
    ordered_lines = rw (e, strokes_sorted s at (omega (arith, few_strokes)), ← P.strokes)

-- the keys of the first i strokes, as the loop that writes them goes
abbrev pub keys_to : List ℕ → List ℕ → ℕ → List ℕ
keys_to s at i = map (key_for s at) (below i)

module _ (s at : List ℕ) where
  pub keys_none : (ks : List ℕ) → take 0 ks ≡ keys_to s at 0
  unfolding below numbers
  keys_none ks = refl

  pub keys_more : (i : ℕ) (ks : List ℕ) (k : ℕ) → i < length ks → take i ks ≡ keys_to s at i → k ≡ key_for s at i → take (i + 1) (set ks i k) ≡ keys_to s at (i + 1)
  keys_more i ks k h e f = rw (add-one i, take-suc-set ks i k h, below_next i, map-append (key_for s at) (below i) (i ∷ []), e, f)

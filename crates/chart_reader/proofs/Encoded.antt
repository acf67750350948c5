-- Bytes that form a chart are the bytes of that chart.
use mathlib.Core.Path.{◌≡◌, refl, ap, ap₂, sym, ◌∙◌}
use mathlib.Core.List.{List, ◌∷◌, ◌++◌, map, flat_map, append_assoc, append-nil}
use Prim.Native.Nat.{ℕ, zero, suc, ◌+◌, ◌*◌, ◌-◌, ◌/◌, ◌%◌, ◌≤◌, ◌<◌}
use native.Mathlib.Decide.{ℕ_discrete}
use native.Mathlib.Numerals.{add-one}
use native.Mathlib.Omega.{arith}
use lib.ListN.{length, drop, get_or}
use lib.Seq.{drop-cons, drop-length}
use Rattle.lists.specs.Lists.{All, all_cons, below, numbers}
use Rattle.codec.specs.Numbers.{bytes16, get16}
use Rattle.codec.proofs.Numbers.{Byte, byte_at}
use Rattle.chart.specs.Chart.{bars_of}
use Rattle.chart.specs.Bytes.{bar_bytes, stroke_bytes, bytes_of}
use Rattle.chart.specs.Decode.{count_in, bar_at, stroke_size, shaped, stroke_at, places, behind, stroke_places, chart_in}
use Rattle.chart_reader.specs.Formed.{Formed}

-- the strokes lie in order
pub behind_up : (s : List ℕ) (at k : ℕ) → at ≤ behind s at k
unfolding behind
behind_up s at zero = omega arith
behind_up s at (suc k) = omega (arith, behind_up s (at + stroke_size (get_or s at 0)) k)

module _ {s : List ℕ} (B : All Byte s) where
  -- a byte, a number of two bytes, a bar, a stroke
  byte_next : (at : ℕ) → at < length s → drop at s ≡ get_or s at 0 ∷ drop (at + 1) s
  byte_next at h = rw (add-one at) (drop-cons s at 0 h)

  number_next : (at next : ℕ) → at + 2 ≡ next → next ≤ length s → drop at s ≡ bytes16 (get16 s at) ++ drop next s
  number_next at next e h =
      let x = byte_at at B in
      let y = byte_at (at + 1) B in
      let p : get_or s at 0 ≡ get16 s at / 256 = omega arith in
      let q : get_or s (at + 1) 0 ≡ get16 s at % 256 = omega arith in
      let r : at + 1 + 1 ≡ next = omega arith in
      byte_next at (omega arith) ∙ ap₂ ◌∷◌ p (byte_next (at + 1) (omega arith) ∙ ap₂ ◌∷◌ q (rw r))

  bar_next : (at next : ℕ) → at + 6 ≡ next → next ≤ length s → drop at s ≡ bar_bytes (bar_at s at) ++ drop next s
  unfolding bar_bytes
  bar_next at next e h =
      number_next at (at + 2) refl (omega arith)
      ∙ ap (λ (l : List ℕ). bytes16 (get16 s at) ++ l) (number_next (at + 2) (at + 4) (omega arith) (omega arith)
      ∙ ap (λ (l : List ℕ). bytes16 (get16 s (at + 2)) ++ l) (number_next (at + 4) next (omega arith) h))

  stroke_next : (at : ℕ) → get_or s at 0 < 2 → at + stroke_size (get_or s at 0) ≤ length s → drop at s ≡ stroke_bytes (stroke_at s at) ++ drop (at + stroke_size (get_or s at 0)) s
  unfolding stroke_bytes shaped
  stroke_next at small h = go (ℕ_discrete (get_or s at 0) 0)
    where
      first : at + 5 ≤ length s → drop (at + 1) s ≡ bytes16 (get16 s (at + 1)) ++ (bytes16 (get16 s (at + 3)) ++ drop (at + 5) s)
      first k = number_next (at + 1) (at + 3) (omega arith) (omega arith) ∙ ap (λ (l : List ℕ). bytes16 (get16 s (at + 1)) ++ l) (number_next (at + 3) (at + 5) (omega arith) k)

      go : Dec (get_or s at 0 ≡ 0) → drop at s ≡ stroke_bytes (stroke_at s at) ++ drop (at + stroke_size (get_or s at 0)) s
      go (yes p) = byte_next at (omega arith) ∙ rw p (ap (λ (l : List ℕ). 0 ∷ l) (first (omega arith)))
      go (no p) =
          let q : get_or s at 0 ≡ 1 = omega arith in
          byte_next at (omega arith) ∙ rw q (ap (λ (l : List ℕ). 1 ∷ l) (first (omega arith) ∙ ap (λ (l : List ℕ). bytes16 (get16 s (at + 1)) ++ (bytes16 (get16 s (at + 3)) ++ l)) (number_next (at + 5) (at + 7) (omega arith) (omega arith))))

  -- the bars, and the strokes
  bars_next : (k u : ℕ) → 6 + 6 * (u + k) ≤ length s → drop (6 + 6 * u) s ≡ flat_map bar_bytes (map (λ x. bar_at s (6 + 6 * x)) (numbers k u)) ++ drop (6 + 6 * (u + k)) s
  unfolding numbers flat_map
  bars_next zero u h = let e : u + 0 ≡ u = omega arith in rw e
  bars_next (suc k) u h =
      let e : u + suc k ≡ suc u + k = omega arith in
      rw e (bar_next (6 + 6 * u) (6 + 6 * suc u) (omega arith) (omega arith)
      ∙ (ap (λ (l : List ℕ). bar_bytes (bar_at s (6 + 6 * u)) ++ l) (bars_next k (suc u) (omega arith))
      ∙ sym (append_assoc (bar_bytes (bar_at s (6 + 6 * u))) (flat_map bar_bytes (map (λ x. bar_at s (6 + 6 * x)) (numbers k (suc u)))) (drop (6 + 6 * (suc u + k)) s))))

  strokes_next : (k at : ℕ) → All (λ at. get_or s at 0 < 2) (places s at k) → behind s at k ≤ length s
      → drop at s ≡ flat_map stroke_bytes (map (stroke_at s) (places s at k)) ++ drop (behind s at k) s
  unfolding places behind flat_map
  strokes_next zero at a h = refl
  strokes_next (suc k) at (all_cons small a) h =
      let next : ℕ = at + stroke_size (get_or s at 0) in
      stroke_next at small (omega (arith, behind_up s next k))
      ∙ (ap (λ (l : List ℕ). stroke_bytes (stroke_at s at) ++ l) (strokes_next k next a h)
      ∙ sym (append_assoc (stroke_bytes (stroke_at s at)) (flat_map stroke_bytes (map (stroke_at s) (places s next k))) (drop (behind s next k) s)))

  -- the whole chart
  strokes_last : Formed s → drop (6 + 6 * count_in s) s ≡ flat_map stroke_bytes (map (stroke_at s) (stroke_places s))
  strokes_last F =
      strokes_next (2 * count_in s - 3) (6 + 6 * count_in s) F.bits (omega (arith, F.exact))
      ∙ rw (F.exact, drop-length s, append-nil (flat_map stroke_bytes (map (stroke_at s) (stroke_places s))))

  pub encoded : Formed s → s ≡ bytes_of (chart_in s)
  unfolding bytes_of bars_of below
  encoded F =
      let size : 6 + 6 * (0 + count_in s) ≤ length s = omega (arith, F.exact, behind_up s (6 + 6 * count_in s) (2 * count_in s - 3)) in
      let e : 0 + count_in s ≡ count_in s = omega arith in
      number_next 0 2 refl (omega (arith, F.head))
      ∙ ap (λ (l : List ℕ). bytes16 (get16 s 0) ++ l) (number_next 2 4 refl (omega (arith, F.head))
      ∙ ap (λ (l : List ℕ). bytes16 (get16 s 2) ++ l) (number_next 4 6 refl F.head
      ∙ ap (λ (l : List ℕ). bytes16 (count_in s) ++ l) (bars_next (count_in s) 0 size
      ∙ ap (λ (l : List ℕ). flat_map bar_bytes (bars_of (chart_in s)) ++ l) (rw e (strokes_last F)))))

-- Lines written one behind another: one more corner, one more stroke.
-- Rests on runs of bytes behind each other (crate log_line).
use mathlib.Core.Path.{◌≡◌, refl}
use mathlib.Core.List.{List, [], ◌∷◌, ◌++◌, map-append, append-nil, flat_map}
use Prim.Native.Nat.{ℕ, suc, ◌+◌, ◌%◌, ◌^◌, ◌<◌, ◌≤◌}
use native.Mathlib.Numerals.{add-one}
use native.Mathlib.Omega.{arith}
use lib.ListN.{length, take, get_or, length-append}
use lib.Seq.{take-suc}
use Rattle.lists.specs.Lists.{below, numbers}
use Rattle.lists.proofs.Lists.{flat_append}
use Rattle.lists.proofs.Places.{below_next}
use Rattle.chart.specs.Chart.{Bar, Stroke}
use Rattle.chart.specs.Decode.{count_in, chart_in}
use Rattle.log_line.specs.Line.{decimal}
use Rattle.log_line.specs.Put.{Put}
use Rattle.log_line.proofs.Putting.{put_then}
use Rattle.log_line.proofs.Size.{decimal_small}
use Rattle.chart_text.specs.Text.{corner_line, corner_lines, stroke_line}
use Rattle.chart_text.specs.Ordered.{stroke_no, strokes_of, key_lines}

-- a word and a number of at most j + 1 digits
pub field_end : (word : List ℕ) (j n : ℕ) {o₀ o₁ : List ℕ} {a b : ℕ} → n < 10 ^ suc j → Put (word ++ decimal n) o₀ a o₁ b → b ≤ a + length word + suc j
field_end word j n h p = omega (arith, p.end, length-append word (decimal n), decimal_small j n h)

-- no line yet
none_put : (o : List ℕ) (a : ℕ) → Put [] o a o a
none_put o a = record { bytes = refl; end = omega arith }

-- one line more
more_put : {A : Type 0} (f : A → List ℕ) (xs : List A) (x : A) {o₀ o₁ o₂ : List ℕ} {a b c : ℕ}
    → Put (flat_map f xs) o₀ a o₁ b → Put (f x) o₁ b o₂ c → Put (flat_map f (xs ++ (x ∷ []))) o₀ a o₂ c
unfolding flat_map
more_put f xs x p q = rw (flat_append f xs (x ∷ []), append-nil (f x)) (put_then p q)

-- the lines of the first i corners of a chart
abbrev pub corners_to : List ℕ → ℕ → List ℕ
corners_to s i = flat_map (λ x. corner_line x ((chart_in s).bar x)) (below i)

module _ (s : List ℕ) where
  pub corners_none : (o : List ℕ) (a : ℕ) → Put (corners_to s 0) o a o a
  unfolding below numbers flat_map
  corners_none o a = none_put o a

  pub corners_more : (i : ℕ) {bar : Bar} {o₀ o₁ o₂ : List ℕ} {a b c : ℕ}
      → Put (corners_to s i) o₀ a o₁ b → bar ≡ (chart_in s).bar i → Put (corner_line i bar) o₁ b o₂ c → Put (corners_to s (i + 1)) o₀ a o₂ c
  corners_more i p is q = rw (add-one i, below_next i) (more_put (λ x. corner_line x ((chart_in s).bar x)) (below i) i p (rw is at q))

  pub corners_all : (i : ℕ) → i ≡ count_in s → corners_to s i ≡ corner_lines (chart_in s)
  unfolding corner_lines
  corners_all i e = rw e

-- the lines of the strokes of the first i keys
abbrev pub lines_to : List ℕ → List ℕ → List ℕ → ℕ → List ℕ
lines_to s at ks i = key_lines s at (take i ks)

module _ (s at ks : List ℕ) where
  pub lines_none : (o : List ℕ) (a : ℕ) → Put (lines_to s at ks 0) o a o a
  unfolding flat_map
  lines_none o a = none_put o a

  pub lines_more : (i : ℕ) → i < length ks → {t : Stroke} {o₀ o₁ o₂ : List ℕ} {a b c : ℕ}
      → Put (lines_to s at ks i) o₀ a o₁ b → t ≡ stroke_no s at (get_or ks i 0 % 2048) → Put (stroke_line (chart_in s) t) o₁ b o₂ c → Put (lines_to s at ks (i + 1)) o₀ a o₂ c
  lines_more i h p is q =
      rw (add-one i, take-suc ks i 0 h, map-append (λ k. stroke_no s at (k % 2048)) (take i ks) (get_or ks i 0 ∷ []))
      (more_put (stroke_line (chart_in s)) (strokes_of s at (take i ks)) (stroke_no s at (get_or ks i 0 % 2048)) p (rw is at q))

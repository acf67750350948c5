-- The question in a column: which rows are free, what a walk down the rows has found, and which span is the nearest.
use mathlib.Core.Path.{◌≡◌, refl, sym, ◌∙◌, subst}
use mathlib.Core.Bool.{Bool, true, false, true≢false}
use mathlib.Core.List.{List}
use mathlib.Core.Logic.{inl, inr}
use Prim.Native.Nat.{ℕ, ◌+◌, ◌*◌, ◌/◌, ◌≤◌, ◌<◌, max}
use native.Mathlib.Decide.{dec_lt}
use native.Mathlib.Omega.{arith}
use lib.ListN.{length, get_or}
use Rattle.nearest.specs.declared.Cell.{Cell}
use Rattle.nearest.specs.Cells.{cell, Amid, Inside}
use Rattle.nearest.specs.Nearest.{Found, none, bar, nearest}
use Rattle.nearest.specs.Order.{address, span_at, Cut, Within, InOrder}
use Rattle.nearest.proofs.Spans.{Void, not_amid, gap_behind, nowhere, somewhere}

-- no span has a cell in column j on a row from lo up to hi, hi not counted
abbrev pub Free : List ℕ → List ℕ → ℕ → ℕ → ℕ → Type 0
Free S E j lo hi = (r : ℕ) → lo ≤ r → r < hi → Void S E (r * 65536 + j)

free_join : (S E : List ℕ) (j lo m hi : ℕ) → Free S E j lo m → Free S E j m hi → Free S E j lo hi
free_join S E j lo m hi F G r l h = elim (dec_lt r m) [ yes k ↦ F r l k | no k ↦ G r (omega arith) h ]

-- span i has a cell in column j on a row between top and bottom, and behind that no span has one before `row`
pub record LastOf (S E : List ℕ) (j top bottom row i : ℕ) : Type 0 where
  pub on : ℕ
  pub below : top < on
  pub above : on < bottom
  pub place : i < length S
  pub start : get_or S i 0 ≤ on * 65536 + j
  pub end : on * 65536 + j ≤ get_or E i 0
  pub free : Free S E j (on + 1) row

-- the last span in column j behind row top and before `row`, or none
abbrev pub Seen : List ℕ → List ℕ → ℕ → ℕ → ℕ → ℕ → Found → Type 0
Seen S E j top bottom row none = Free S E j (top + 1) row
Seen S E j top bottom row (bar i) = LastOf S E j top bottom row i

seen_to : (S E : List ℕ) (j top bottom : ℕ) (f : Found) (row next : ℕ) → Seen S E j top bottom row f → Free S E j row next → Seen S E j top bottom next f
seen_to S E j top bottom none row next F G = free_join S E j (top + 1) row next F G
seen_to S E j top bottom (bar i) row next L G = record { on = L.on; below = L.below; above = L.above; place = L.place; start = L.start; end = L.end; free = free_join S E j (L.on + 1) row next L.free G }

-- the walk at `row`: what was seen, nothing yet if the first span is asked for, and i spans that end before column j of the row
pub record Walk (S E : List ℕ) (j top bottom : ℕ) (last : Bool) (f : Found) (row i : ℕ) : Type 0 where
  pub below : top < row
  pub seen : Seen S E j top bottom row f
  pub only : last ≡ false → f ≡ none
  pub passed : Within E (row * 65536 + j) i (length E)

-- the answer to the question for the first span, and for the last
abbrev pub Answer : List ℕ → List ℕ → ℕ → ℕ → ℕ → Bool → Found → Type 0
Answer S E j top bottom last f = (last ≡ false → f ≡ nearest (span_at S E) (length S) (cell top j, cell bottom j)) × (last ≡ true → f ≡ nearest (span_at S E) (length S) (cell bottom j, cell top j))

cut_within : {t : List ℕ} {x i : ℕ} (y : ℕ) → x ≤ y → Cut t x i → Within t y i (length t)
cut_within y h C = record { order = C.upto; upto = omega arith; under = λ z k. omega (arith, C.under z k); rest = λ z k l. absurd (omega arith) }

module _ (S E : List ℕ) (O : InOrder S E) (j : ℕ) (small : j < 65536) where
  column_inside : (a b : ℕ) → ((r : ℕ) → Amid a b r → Void S E (r * 65536 + j)) → (d : Cell) → Inside (cell a j, cell b j) d → Void S E (address d)
  column_inside a b f d (inl h) = absurd (not_amid _ _ _ refl h.2)
  column_inside a b f d (inr h) = subst (λ c. Void S E (d.row * 65536 + c)) h.0 (f d.row h.2)

  column_none : (a b lo hi : ℕ) → Free S E j lo hi → ((r : ℕ) → Amid a b r → (lo ≤ r) × (r < hi)) → none ≡ nearest (span_at S E) (length S) (cell a j, cell b j)
  column_none a b lo hi F w = nowhere S E O (cell a j, cell b j) (column_inside a b (λ r A. F r (w r A).0 (w r A).1))

  column_hit : (a b lo hi t i : ℕ) → Free S E j lo hi → Amid a b t → ((r : ℕ) → Amid a t r → (lo ≤ r) × (r < hi)) → i < length S → get_or S i 0 ≤ t * 65536 + j → t * 65536 + j ≤ get_or E i 0 →
      bar i ≡ nearest (span_at S E) (length S) (cell a j, cell b j)
  column_hit a b lo hi t i F A w k s e = somewhere S E O (cell a j) (cell b j) (cell t j) (inr (refl, refl, A)) small i k s e (column_inside a t (λ r B. F r (w r B).0 (w r B).1))

  -- all rows are passed
  seen_all : (top bottom : ℕ) (last : Bool) (f : Found) (row : ℕ) → top ≤ bottom → bottom ≤ row → Seen S E j top bottom row f → (last ≡ false → f ≡ none) → Answer S E j top bottom last f
  seen_all top bottom last none row b l F o = (λ _. column_none top bottom (top + 1) row F (λ r A. omega arith), λ _. column_none bottom top (top + 1) row F (λ r A. omega arith))
  seen_all top bottom last (bar i) row b l L o = (
    λ h. absurd (let z : ◌≡◌ {A = ℕ} 0 1 = cc (o h) in omega arith),
    λ _. column_hit bottom top (L.on + 1) row L.on i L.free (omega arith) (λ r A. omega arith) L.place L.start L.end,
  )

module _ {S E : List ℕ} (O : InOrder S E) {j : ℕ} (small : j < 65536) {top bottom : ℕ} {last : Bool} where
  -- between neighbouring rows there is none
  pub walk_short : top ≤ bottom → bottom ≤ top + 1 → Answer S E j top bottom last none
  walk_short b l = seen_all S E O j small top bottom last none (top + 1) b l (λ r m h. absurd (omega arith)) (λ _. refl)

  module _ {f : Found} {row i₀ : ℕ} (W : Walk S E j top bottom last f row i₀) where
    pub walk_end : top ≤ bottom → bottom ≤ row → Answer S E j top bottom last f
    walk_end b l = seen_all S E O j small top bottom last f row b l W.seen W.only

    -- i spans end before column j of the row
    module _ (inside : row < bottom) {a i : ℕ} (e : a ≡ row * 65536 + j) (C : Cut E a i) where
      pub walk_none : i ≡ length S → Answer S E j top bottom last f
      walk_none h = seen_all S E O j small top bottom last f bottom (omega (arith, W.below)) (omega arith)
          (seen_to S E j top bottom f row bottom W.seen (λ r l k. gap_behind S E O (bottom * 65536 + j) C (λ w. absurd (omega arith)) (r * 65536 + j) (omega arith) (omega arith))) W.only

      pub walk_first : last ≡ false → i < length S → get_or S i 0 ≤ a → Answer S E j top bottom last (bar i)
      walk_first h k s =
          let late : a ≤ get_or E i 0 = C.rest i (omega arith) (omega (arith, O.size)) in
          let F : Free S E j (top + 1) row = subst (Seen S E j top bottom row) (W.only h) W.seen in
          (λ _. column_hit S E O j small top bottom (top + 1) row row i F (omega (arith, W.below)) (λ r A. omega arith) k (omega arith) (omega arith), λ l. absurd (true≢false (sym l ∙ h)))

      module _ (k : i < length S) {next : ℕ} (w : next ≡ max (row + 1) (get_or S i 0 / 65536)) where
        pub walk_hit : last ≡ true → get_or S i 0 ≤ a → Walk S E j top bottom last (bar i) next i
        walk_hit h s = record {
          below = omega (arith, W.below);
          seen = record { on = row; below = W.below; above = inside; place = k; start = omega arith; end = omega (arith, C.rest i (omega arith) (omega (arith, O.size))); free = λ r l m. absurd (omega arith) };
          only = λ l. absurd (true≢false (sym h ∙ l));
          passed = cut_within (next * 65536 + j) (omega arith) C;
        }

        pub walk_miss : a < get_or S i 0 → Walk S E j top bottom last f next i
        walk_miss s = record {
          below = omega (arith, W.below);
          seen = seen_to S E j top bottom f row next W.seen (λ r l h. gap_behind S E O (get_or S i 0) C (λ _. omega arith) (r * 65536 + j) (omega arith) (omega arith));
          only = W.only;
          passed = cut_within (next * 65536 + j) (omega arith) C;
        }

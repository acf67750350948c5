-- Two sheets that are read alike: what each test asks holds of both or of neither.
use mathlib.Core.Path.{◌≡◌, refl, ap, sym, ◌∙◌}
use mathlib.Core.Logic.{◌↔◌}
use mathlib.Core.List.{List}
use Prim.Native.Nat.{ℕ, ◌≤◌, ◌<◌}
use native.Mathlib.Omega.{arith}
use lib.ListN.{length, get_or}
use Rattle.codec.specs.Numbers.{get16}
use Rattle.sheet.specs.Sheet.{Reading, ask, bit0, bit1, sheet_length, more, read_sheet}
use Rattle.sheet.proofs.Asks.{edges_in, angles_of}
use Rattle.sheet.proofs.PairTests.{pair_tests}

-- a test passed by both or by neither, and what comes after it
pub ask_alike : {P Q : Type 0} (k : ℕ) (d : Dec P) (e : Dec Q) {r q : Reading} → P ↔ Q → (P → r ≡ q) → ask k d r ≡ ask k e q
unfolding ask
ask_alike k (yes p) (yes q) f h = h p
ask_alike k (yes p) (no q) f h = absurd (q (f.0 p))
ask_alike k (no p) (yes q) f h = absurd (p (f.1 q))
ask_alike k (no p) (no q) f h = refl

-- the sheet is exactly as long as its fields
abbrev pub Exact : List ℕ → Type 0
Exact s = length s ≡ sheet_length (get_or s 0 0) (get16 s 1)

-- the same pairs and the same angles
abbrev pub SameFields : List ℕ → List ℕ → Type 0
SameFields s t = (edges_in s ≡ edges_in t) × (angles_of s ≡ angles_of t)

-- the same bits 0 and 1, and the same count; once the tests of these are passed, the lengths exact or not alike, and the fields the same
pub record Alike (s t : List ℕ) : Type 0 where
  pub long : 3 ≤ length s
  pub long_too : 3 ≤ length t
  pub low : bit0 (get_or s 0 0) ≡ bit0 (get_or t 0 0)
  pub few : (get_or s 0 0 < 16) ↔ (get_or t 0 0 < 16)
  pub pairs_bit : bit1 (get_or s 0 0) ≡ bit1 (get_or t 0 0)
  pub count : get16 s 1 ≡ get16 t 1
  pub rest : bit0 (get_or s 0 0) ≡ 1 → 3 ≤ get16 s 1 → get16 s 1 ≤ 1024 → bit1 (get_or s 0 0) ≡ more (get16 s 1) → (Exact s ↔ Exact t) × (Exact s → SameFields s t)

pub read_alike : {s t : List ℕ} → Alike s t → read_sheet s ≡ read_sheet t
unfolding read_sheet
read_alike {s} {t} A =
    ask_alike 1 _ _ (λ h. (omega (arith, A.long_too), (sym A.low ∙ h.1.0, A.few.0 h.1.1)), λ h. (omega (arith, A.long), (A.low ∙ h.1.0, A.few.1 h.1.1)))
    (λ map. ask_alike 2 _ _ (λ h. A.long_too, λ h. A.long)
    (λ three. ask_alike 3 _ _ (λ h. rw A.count at h, λ h. rw A.count h)
    (λ range. ask_alike 4 _ _ (λ h. sym A.pairs_bit ∙ (h ∙ ap more A.count), λ h. A.pairs_bit ∙ (h ∙ ap more (sym A.count)))
    (λ agrees.
    let R = A.rest map.1.0 range.0 range.1 agrees in
    ask_alike 2 _ _ R.0 (λ exact. let same = R.1 exact in λ i. pair_tests (A.count i) (same.0 i) (same.1 i))))))

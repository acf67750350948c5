-- min, max and ≤ on numbers, for terms with more of them than omega takes apart at once.
-- Assumes nothing.
use Prim.Native.Nat.{ℕ, ◌≤◌, min, max}
use native.Mathlib.Decide.{dec_le}
use native.Mathlib.Omega.{arith}

pub min_mono : {a b c d : ℕ} → a ≤ c → b ≤ d → min a b ≤ min c d
min_mono {a} {b} {c} {d} p q = omega arith

pub max_mono : {a b c d : ℕ} → a ≤ c → b ≤ d → max a b ≤ max c d
max_mono {a} {b} {c} {d} p q = omega arith

-- the same, the larger side in the other order
pub max_swap : {a b c d : ℕ} → a ≤ c → b ≤ d → max a b ≤ max d c
max_swap {a} {b} {c} {d} p q = omega arith

pub max_lub : {a b c : ℕ} → a ≤ c → b ≤ c → max a b ≤ c
max_lub {a} {b} {c} p q = omega arith

pub min_glb : {a b c : ℕ} → c ≤ a → c ≤ b → c ≤ min a b
min_glb {a} {b} {c} p q = omega arith

pub min_left : {a c : ℕ} (b : ℕ) → a ≤ c → min a b ≤ c
min_left {a} {c} b p = omega arith

pub min_right : {b c : ℕ} (a : ℕ) → b ≤ c → min a b ≤ c
min_right {b} {c} a p = omega arith

pub max_left : {a c : ℕ} (b : ℕ) → c ≤ a → c ≤ max a b
max_left {a} {c} b p = omega arith

pub max_right : {b c : ℕ} (a : ℕ) → c ≤ b → c ≤ max a b
max_right {b} {c} a p = omega arith

pub max_fst : (x y d : ℕ) → max x y ≤ d → x ≤ d
max_fst x y d h = omega arith

pub max_snd : (x y d : ℕ) → max x y ≤ d → y ≤ d
max_snd x y d h = omega arith

-- The smaller of two maxima is within d. If the first is not, all of the second is; if the second is not, all of the first is.
pub by_second : (x y z w d : ℕ) → min (max x y) (max z w) ≤ d → ((x ≤ d) × (y ≤ d) → ⊥) → (z ≤ d) × (w ≤ d)
by_second x y z w d h f = go (dec_le (max x y) d)
  where
    go : Dec (max x y ≤ d) → (z ≤ d) × (w ≤ d)
    go (yes k) = absurd (f (omega arith))
    go (no k) = omega arith

pub by_first : (x y z w d : ℕ) → min (max x y) (max z w) ≤ d → ((z ≤ d) × (w ≤ d) → ⊥) → (x ≤ d) × (y ≤ d)
by_first x y z w d h f = by_second z w x y d (omega arith) f

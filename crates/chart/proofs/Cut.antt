-- A stretch of corners with a corner between its ends: what the counts of its two parts, and of what a drawing has of them, add up to.
-- Rests on Cells.antt.
use mathlib.Core.Path.{◌≡◌}
use Prim.Native.Nat.{ℕ, suc, ◌+◌, ◌≤◌, ◌<◌}
use native.Mathlib.Omega.{arith}
use Rattle.chart.proofs.Cells.{δ, lower_suc, range, range_is}

-- c lies between u and v
pub record Cut (u c v : ℕ) : Type 0 where
  pub low : u < c
  pub high : c < v

pub cut_at : (u s t : ℕ) {v : ℕ} → 1 ≤ s → 1 ≤ t → u + (s + t) ≡ v → Cut u (u + s) v
cut_at u s t f g h = record { low = omega arith; high = omega arith }

-- the first corner and the others; the last one and the others
range_first : (a b x : ℕ) → a < b → range a b x ≡ δ x a + range (suc a) b x
range_first a b x h = omega (arith, range_is a b x (omega arith), range_is (suc a) b x h, lower_suc a x)

range_last : (a b x : ℕ) → a ≤ b → range a (suc b) x ≡ range a b x + δ x b
range_last a b x h = omega (arith, range_is a (suc b) x (omega arith), range_is a b x h, lower_suc b x)

range_both : (a b c x : ℕ) → a ≤ b → b ≤ c → range a c x ≡ range a b x + range b c x
range_both a b c x h g = omega (arith, range_is a c x (omega arith), range_is a b x h, range_is b c x g)

module _ {u c v : ℕ} (C : Cut u c v) (x : ℕ) where
  -- the corners between, from either end
  pub inner : 0 + ((δ x c + range (suc u) c x) + range (suc c) v x) ≡ range (suc u) v x
  inner = omega (arith, range_both (suc u) c v x C.low (omega arith), range_first c v x C.high)

  pub inner_back : 0 + ((δ x c + range (suc c) v x) + range (suc u) c x) ≡ range (suc u) v x
  inner_back = omega (arith, inner)

  -- with those before the stretch from a on, and its last corner
  pub to_last : (a : ℕ) → a ≤ suc c → range a (suc c) x + ((δ x v + range (suc c) v x) + 0) ≡ range a (suc v) x
  to_last a h = omega (arith, range_both a (suc c) (suc v) x h (omega arith), range_last (suc c) v x C.high)

  -- with its first corner and those after it
  pub from_first : range c (suc v) x + ((δ x u + range (suc u) c x) + 0) ≡ range u (suc v) x
  from_first = omega (arith, range_both u c (suc v) x (omega arith) (omega arith), range_first u c x C.low)

  -- a rim below c, and above it
  pub rim_left : δ x u + range (suc u) (suc v) x ≤ (δ x u + range (suc u) (suc c) x) + (range (suc c) v x + (δ x u + δ x v))
  rim_left = omega (arith, to_last (suc u) (omega arith))

  pub rim_right : δ x v + range u v x ≤ (δ x v + δ x u) + (range (suc u) c x + (δ x v + range c v x))
  rim_right = omega (arith, inner, range_first u v x (omega arith), range_first c v x C.high)

  -- a stem that goes left or right at c, from the left and from the right
  pub stem_left_lem : range u (suc v) x ≤ (δ x v + δ x u) + (range (suc c) v x + range u (suc c) x)
  stem_left_lem = omega (arith, to_last u (omega arith))

  pub stem_right_lem : range u (suc v) x ≤ (δ x v + δ x u) + (range (suc u) c x + range c (suc v) x)
  stem_right_lem = omega (arith, from_first)

  pub back_left : range u (suc v) x ≤ range u (suc c) x + (range (suc c) v x + (δ x u + δ x v))
  back_left = omega (arith, to_last u (omega arith))

  pub back_right : range u (suc v) x ≤ range c (suc v) x + (range (suc u) c x + (δ x u + δ x v))
  back_right = omega (arith, from_first)

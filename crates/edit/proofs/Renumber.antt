-- Renumbering corners: what `up` and `down` do, and that a renumbering which keeps the order of the corners keeps the order of edges and makes none cross.
use mathlib.Core.Path.{◌≡◌, ap}
use mathlib.Core.Logic.{inl, inr}
use mathlib.Core.List.{List, map}
use Prim.Native.Nat.{ℕ, suc, ◌+◌, ◌-◌, ◌<◌}
use native.Mathlib.Decide.{dec_lt}
use native.Mathlib.Omega.{arith}
use Rattle.lists.specs.Lists.{All, choose}
use Rattle.lists.proofs.Lists.{all_both, all_map, sorted_map}
use Rattle.polygon.specs.Polygon.{Edge, Before, Ascending, Cross, NoneCross}
use Rattle.edit.specs.Rules.{up, down, both}

-- `up` and `down` as equations that omega reads
pub up_is : (i x : ℕ) → up i x ≡ x + (1 - (suc i - x))
unfolding up choose
up_is i x = go (dec_lt i x)
  where
    go : (d : Dec (i < x)) → choose d (suc x) x ≡ x + (1 - (suc i - x))
    go (yes p) = omega arith
    go (no p) = omega arith

pub down_is : (k x : ℕ) → down k x + (1 - (suc k - x)) ≡ x
unfolding down choose
down_is k x = go (dec_lt k x)
  where
    go : (d : Dec (k < x)) → choose d (x - 1) x + (1 - (suc k - x)) ≡ x
    go (yes p) = omega arith
    go (no p) = omega arith

pub up_mono : (i x y : ℕ) → x < y → up i x < up i y
up_mono i x y h = omega (arith, up_is i x, up_is i y)

pub up_same : (i x y : ℕ) → up i x ≡ up i y → x ≡ y
up_same i x y e = go (dec_lt x y) (dec_lt y x)
  where
    go : Dec (x < y) → Dec (y < x) → x ≡ y
    go (yes h) d = absurd (omega (arith, up_mono i x y h))
    go (no h) (yes d) = absurd (omega (arith, up_mono i y x d))
    go (no h) (no d) = omega arith

pub down_mono : (k x y : ℕ) → ¬ (x ≡ k) → ¬ (y ≡ k) → x < y → down k x < down k y
down_mono k x y f g h = omega (arith, down_is k x, down_is k y)

pub down_same : (k x y : ℕ) → ¬ (x ≡ k) → ¬ (y ≡ k) → down k x ≡ down k y → x ≡ y
down_same k x y f g e = go (dec_lt x y) (dec_lt y x)
  where
    go : Dec (x < y) → Dec (y < x) → x ≡ y
    go (yes h) d = absurd (omega (arith, down_mono k x y f g h))
    go (no h) (yes d) = absurd (omega (arith, down_mono k y x g f d))
    go (no h) (no d) = omega arith

pub down_up : (i x : ℕ) → down (suc i) (up i x) ≡ x
down_up i x = omega (arith, up_is i x, down_is (suc i) (up i x))

-- an edge whose two corners have the property
abbrev pub BothEnds : (ℕ → Type 0) → Edge → Type 0
BothEnds Q e = Q e.0 × Q e.1

-- a renumbering f that keeps the order of the corners that have Q
module _ (Q : ℕ → Type 0) (f : ℕ → ℕ) (mono : (x y : ℕ) → Q x → Q y → x < y → f x < f y) where
  back : (x y : ℕ) → Q x → Q y → f x < f y → x < y
  back x y a b h = go (dec_lt x y) (dec_lt y x)
    where
      go : Dec (x < y) → Dec (y < x) → x < y
      go (yes p) q = p
      go (no p) (yes q) = absurd (omega (arith, mono y x b a q))
      go (no p) (no q) = absurd (let e : x ≡ y = omega arith in omega (arith, ap f e))

  both_before : (p q : Edge) → BothEnds Q p → BothEnds Q q → Before p q → Before (both f p) (both f q)
  unfolding both
  both_before p q a b (inl h) = inl (mono _ _ a.0 b.0 h)
  both_before p q a b (inr h) = inr (ap f h.0, mono _ _ a.1 b.1 h.1)

  both_cross : (p q : Edge) → BothEnds Q p → BothEnds Q q → Cross (both f p) (both f q) → Cross p q
  unfolding both
  both_cross p q a b x = record { above = back _ _ a.0 b.0 x.above; below = back _ _ b.0 a.1 x.below; past = back _ _ a.1 b.1 x.past }

  pub renumbered_ascending : {ds : List Edge} → All (BothEnds Q) ds → Ascending ds → Ascending (map (both f) ds)
  renumbered_ascending a s = sorted_map {S = Before} {P = BothEnds Q} (both f) both_before a s

  pub renumbered_free : {ds : List Edge} → All (BothEnds Q) ds → NoneCross ds → NoneCross (map (both f) ds)
  renumbered_free a c = all_map _ (all_both (λ p i g. all_map _ (all_both (λ q j h x. h (both_cross p q i j x)) a g)) a c)

-- Cells of a column, and how many of them are a corner's.
-- Rests on lists alone.
use mathlib.Core.Path.{◌≡◌, refl, sym, ◌∙◌, ap}
use mathlib.Core.List.{List, [], ◌∷◌, ◌++◌, map, reverse, reverse-cons}
use Prim.Native.Nat.{ℕ, suc, ◌+◌, ◌-◌, ◌≤◌, ◌<◌, min}
use native.Mathlib.Decide.{dec_le}
use native.Mathlib.Omega.{arith}
use Rattle.lists.specs.Lists.{Mem, head, tail}

-- a corner and its row
abbrev pub Cell : Type 0
Cell = ℕ × ℕ

-- the same with the row put through f
abbrev pub row_by : (ℕ → ℕ) → Cell → Cell
row_by f z = (z.0, f z.1)

-- 1 if x is y; 1 if x is lower than h
pub δ : ℕ → ℕ → ℕ
δ x y = 1 - ((x - y) + (y - x))

pub lower : ℕ → ℕ → ℕ
lower h x = min 1 (h - x)

pub δ-self : (x : ℕ) → δ x x ≡ 1
unfolding δ
δ-self x = omega arith

pub δ-le : (x y : ℕ) → δ x y ≤ 1
unfolding δ
δ-le x y = omega arith

pub δ-one : (x y : ℕ) → δ x y ≡ 1 → x ≡ y
unfolding δ
δ-one x y h = omega arith

pub lower_suc : (a x : ℕ) → lower a x + δ x a ≡ lower (suc a) x
unfolding δ lower
lower_suc a x = omega arith

pub lower_mono : (a b x : ℕ) → a ≤ b → lower a x ≤ lower b x
unfolding lower
lower_mono a b x h = omega arith

pub lower_yes : (a x : ℕ) → x < a → lower a x ≡ 1
unfolding lower
lower_yes a x h = omega arith

pub lower_no : (a x : ℕ) → a ≤ x → lower a x ≡ 0
unfolding lower
lower_no a x h = omega arith

-- 1 if x is one of the corners a to b - 1
pub range : ℕ → ℕ → ℕ → ℕ
range a b x = lower b x - lower a x

pub range_is : (a b x : ℕ) → a ≤ b → lower a x + range a b x ≡ lower b x
unfolding range
range_is a b x h = omega (arith, lower_mono a b x h)

pub range_none : (a b x : ℕ) → b ≤ a → range a b x ≡ 0
unfolding range
range_none a b x h = omega (arith, lower_mono b a x h)

-- how many of the cells are x's
abbrev pub num : ℕ → List Cell → ℕ
num x [] = 0
num x (y ∷ c) = δ x y.0 + num x c

module _ (x : ℕ) where
  pub num_append : (s t : List Cell) → num x (s ++ t) ≡ num x s + num x t
  num_append [] t = omega arith
  num_append (y ∷ s) t = omega (arith, num_append s t)

  pub num_reverse : (l : List Cell) → num x (reverse l) ≡ num x l
  num_reverse [] = refl
  num_reverse (y ∷ l) = ap (num x) (reverse-cons y l) ∙ omega (arith, num_append (reverse l) (y ∷ []), num_reverse l)

  pub num_lay : (f : ℕ → ℕ) (l : List Cell) → num x (map (row_by f) l) ≡ num x l
  num_lay f [] = refl
  num_lay f (y ∷ l) = ap (δ x y.0 +◌) (num_lay f l)

  pub num_in : (r : ℕ) {l : List Cell} → Mem (x, r) l → 1 ≤ num x l
  num_in r (head {x = y} {l} e) = let h : δ x y.0 ≡ 1 = ap (λ (z : Cell). δ x z.0) (sym e) ∙ δ-self x in omega arith
  num_in r (tail {x = y} {l} m) = omega (arith, num_in r m)

  pub in_num : (l : List Cell) → 1 ≤ num x l → (r : ℕ) × Mem (x, r) l
  in_num [] h = absurd (omega arith)
  in_num (y ∷ l) h = go (dec_le 1 (num x l)) (in_num l)
    where
      go : Dec (1 ≤ num x l) → (1 ≤ num x l → (r : ℕ) × Mem (x, r) l) → (r : ℕ) × Mem (x, r) (y ∷ l)
      go (yes k) f = let (r, m) = f k in (r, tail m)
      go (no k) f = let e : x ≡ y.0 = δ-one x y.0 (omega (arith, δ-le x y.0)) in (y.1, head (ap {B = Cell} (λ z. (z, y.1)) e))

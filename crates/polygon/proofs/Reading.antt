-- The definitions of specs/Polygon.antt read against document 01: which pairs are diagonals, and that a set of diagonals has one list.
use mathlib.Core.Path.{◌≡◌}
use mathlib.Core.Logic.{inl, inr, ◌↔◌}
use mathlib.Core.List.{List}
use Prim.Native.Nat.{ℕ, suc, ◌+◌, ◌<◌}
use native.Mathlib.Decide.{dec_lt, ℕ_discrete}
use native.Mathlib.Omega.{arith}
use Rattle.lists.specs.Lists.{Sub}
use Rattle.lists.proofs.Lists.{sorted_same}
use Rattle.polygon.specs.Polygon.{Edge, ◌—◌, Side, Diagonal, Triangulated, Polygon, bare, Valid}
use Rattle.polygon.proofs.Order.{one_way}

-- a diagonal: two corners, lower first, that no side joins
pub diagonal_reads : (n a b : ℕ) → Diagonal n (a — b) ↔ ((a < b) × (b < n) × (¬ Side n a b))
diagonal_reads n a b = (there, back)
  where
    there : Diagonal n (a — b) → (a < b) × (b < n) × (¬ Side n a b)
    there d = (omega arith, d.corner, λ s. elim s [ inl k ↦ omega (arith, k) | inr k ↦ omega (arith, k) ])

    back : (a < b) × (b < n) × (¬ Side n a b) → Diagonal n (a — b)
    back (h, k, f) = go (ℕ_discrete b (suc a)) (dec_lt (a + n) (b + 2))
      where
        go : Dec (b ≡ suc a) → Dec (a + n < b + 2) → Diagonal n (a — b)
        go (yes p) q = absurd (f (inl (p, k)))
        go (no p) (yes q) = absurd (f (inr (omega arith, omega arith)))
        go (no p) (no q) = omega arith

-- a valid part without its angles is valid
pub bare_valid : (p : Polygon) → Valid p → Valid (bare p)
bare_valid p v = record { least = v.least; most = v.most; triangulated = v.triangulated; allowed = tt }

-- the set of diagonals determines the list
pub same_set : (n m : ℕ) (ds es : List Edge) → Triangulated n ds → Triangulated m es → Sub ds es → Sub es ds → ds ≡ es
same_set n m ds es P Q f g = sorted_same one_way ds es P.ascending Q.ascending f g

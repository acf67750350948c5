-- The new numbers of a joined part's corners, and of a cut part's, undo each other. And which diagonals of a joined part lie beneath its seam: exactly those of the second half.
use mathlib.Core.Path.{◌≡◌, refl, ap₂, ◌∙◌}
use mathlib.Core.List.{List, [], ◌∷◌, map}
use Prim.Native.Nat.{ℕ, ◌+◌, ◌-◌, ◌≤◌, ◌<◌}
use native.Mathlib.Decide.{dec_lt}
use native.Mathlib.Omega.{arith}
use Rattle.lists.proofs.Lists.{choose_no, choose_yes}
use Rattle.polygon.specs.Polygon.{Edge, Diagonal}
use Rattle.polygon.proofs.Order.{edge}
use Rattle.edit.specs.Rules.{both}
use Rattle.seam.specs.Join.{laid, matched, seam}
use Rattle.seam.proofs.Corners.{matched_stays, matched_moves}
use Rattle.cut.specs.Cut.{Beneath, inner_corner, rest_corner}

-- f undoes g
abbrev pub Undoes : (ℕ → ℕ) → (ℕ → ℕ) → Type 0
Undoes f g = (x : ℕ) → f (g x) ≡ x

pub laid_back : (i : ℕ) → Undoes (inner_corner i) (laid i)
laid_back i x = omega arith

pub matched_back : (m i : ℕ) → 3 ≤ m → Undoes (rest_corner (seam m i)) (matched m i)
unfolding rest_corner
matched_back m i large x = go (dec_lt i x)
  where
    go : Dec (i < x) → rest_corner (seam m i) (matched m i x) ≡ x
    go (yes h) = rw (matched_moves m i x h) (choose_yes (dec_lt i (x + (m - 2))) _ (omega arith) ∙ omega arith)
    go (no h) = rw (matched_stays m i x (omega arith)) (choose_no (dec_lt i x) _ h)

module _ (f g : ℕ → ℕ) (U : Undoes f g) where
  pub both_back : (e : Edge) → both f (both g e) ≡ e
  unfolding both
  both_back e = edge (U e.0) (U e.1)

  pub map_back : (es : List Edge) → map (both f) (map (both g) es) ≡ es
  map_back [] = refl
  map_back (e ∷ es) = ap₂ ◌∷◌ (both_back e) (map_back es)

-- of the n corners of the first half and the m of the second
module _ (m i : ℕ) (large : 3 ≤ m) where
  pub second_beneath : (d : Edge) → Diagonal m d → Beneath (seam m i) (both (laid i) d)
  unfolding both
  second_beneath d D = (omega arith, omega (arith, D.corner))

  pub first_beyond : (n : ℕ) (d : Edge) → Diagonal n d → ¬ Beneath (seam m i) (both (matched m i) d)
  unfolding both
  first_beyond n d D (low, high) = go (dec_lt i d.0)
    where
      go : Dec (i < d.0) → ⊥
      go (yes h) = omega (arith, D.forth, matched_moves m i d.1 (omega (arith, D.forth)))
      go (no h) = omega (arith, D.forth, matched_stays m i d.0 (omega arith), matched_moves m i d.1 (omega (arith, D.forth, matched_stays m i d.0 (omega arith))))

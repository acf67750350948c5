-- How the code holds the two halves of a joined part.
use Rattle.std.specs.Prelude.{◌≡◌, false, List, ◌∷◌, ◌++◌, map, ℕ, suc, ◌+◌, ◌*◌, ◌-◌, ◌≤◌, ◌<◌}
use Rattle.lists.specs.Lists.{All}
use Rattle.polygon.specs.Polygon.{Polygon}
use Rattle.keys.specs.Keys.{key_of, edges_of, keys_in, angle_in, flat_bend}
use Rattle.sheet.specs.declared.Head.{Head}
use Rattle.edit.specs.declared.shift.Shift.TheVariants.{Up}
use Rattle.edit.specs.Tables.{Whole, moved_bend}
use Rattle.seam.specs.Join.{seam}

-- the part p by its head and its bends, which have the angle 0 if it has no angles
pub record Half (p : Polygon) (h : Head) (bs : List ℕ) : Type 0 where
  pub part : Whole p h bs
  pub flat : h.angled ≡ false → All (λ b. angle_in b ≡ 0) bs

-- what the rule asks of a side i, and of the n and m corners of the two halves
abbrev pub Joins : ℕ → ℕ → ℕ → Type 0
Joins i n m = (suc i < n) × (n + m - 2 ≤ 1024)

-- a bend with both its corners i further on: i * 1,024 + i more in its key, so 1,025 * 4,096 for each; and that they stay below 1,024
abbrev pub raised_bend : ℕ → ℕ → ℕ
raised_bend i b = b + i * 4198400

abbrev pub Raisable : ℕ → List ℕ → Type 0
Raisable i bs = All (λ e. (i + e.0 < 1024) × (i + e.1 < 1024)) (edges_of (keys_in bs))

-- the bends of the second half, cs, of m corners, under their new numbers, and the seam's; and with those of the first half, bs: the bends of `glued_edges`
abbrev pub laid_bends : ℕ → ℕ → List ℕ → List ℕ
laid_bends i m cs = flat_bend (key_of (seam m i)) ∷ map (raised_bend i) cs

abbrev pub glued_bends : ℕ → ℕ → List ℕ → List ℕ → List ℕ
glued_bends i m bs cs = map (moved_bend (Up i (m - 2))) bs ++ laid_bends i m cs

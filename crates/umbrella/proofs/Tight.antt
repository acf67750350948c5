-- The piece of specs/Tight.antt: how many levels and corners it has, and that the plan drawn of it has no stem.
use mathlib.Core.Path.{◌≡◌, refl, ap, ◌∙◌}
use Prim.Native.Nat.{ℕ, zero, suc, ◌+◌, ◌^◌, ◌≤◌}
use native.Mathlib.Decide.{dec_le}
use native.Mathlib.Omega.{arith}
use Rattle.polygon.specs.Tree.{Tree, leaf, node, span}
use Rattle.umbrella.specs.Plan.{Plan, plain, stems, fold}
use Rattle.umbrella.specs.Values.{ud, fan_a, fan_b}
use Rattle.umbrella.specs.Best.{under, umbrella, best, best_left, best_right, gate_left, gate_right}
use Rattle.umbrella.specs.Tight.{tight}

-- a piece with t hung on either side of its apex
abbrev twice : Tree → Tree
twice t = node (node leaf t) (node t leaf)

-- has a level more
twice_ud : (t : Tree) → ud (twice t) ≡ suc (ud t)
unfolding ud
twice_ud t = omega arith

-- the plan drawn has no stem where all pieces on the rim do with the levels that those of the best umbrella need
no_stem : (l r : Tree) → fan_a l r ≤ under l r → fan_b l r ≤ under l r → best (node l r) ≡ plain (best_left l) (best_right r)
unfolding best umbrella
no_stem l r a b = go (dec_le (fan_a l r) (under l r)) (dec_le (fan_b l r) (under l r))
  where
    go : (h : Dec (fan_a l r ≤ under l r)) (k : Dec (fan_b l r ≤ under l r))
        → umbrella (under l r) l r h k (best_left l) (best_right r) (λ f. gate_left (under l r) l r f) (λ f. gate_right (under l r) l r f) ≡ plain (best_left l) (best_right r)
    go (yes h) (yes k) = refl
    go (no h) (yes k) = absurd (h a)
    go (yes h) (no k) = absurd (k b)
    go (no h) (no k) = absurd (k b)

twice_stems : (t : Tree) → stems (best (twice t)) ≡ stems (best t) + stems (best t)
unfolding fold best fan_a
twice_stems t =
    let e : stems (best (twice t)) ≡ stems (plain (best_left (node leaf t)) (best_right (node t leaf))) = ap (λ (p : Plan (twice t)). stems p) (no_stem (node leaf t) (node t leaf) (omega arith) (omega arith)) in
    omega (arith, e)

pub tight_ud : (k : ℕ) → ud (tight (suc k)) ≡ suc k
unfolding tight ud
tight_ud zero = refl
tight_ud (suc k) = twice_ud (tight (suc k)) ∙ ap suc (tight_ud k)

pub tight_span : (k : ℕ) → span (tight (suc k)) + 2 ≡ 2 ^ suc (suc k)
unfolding tight span
tight_span zero = refl
tight_span (suc k) = omega (arith, tight_span k)

pub tight_stems : (k : ℕ) → stems (best (tight (suc k))) ≡ 0
unfolding tight fold best fan_a
tight_stems zero = ap (λ (p : Plan (node leaf leaf)). stems p) (no_stem leaf leaf (omega arith) (omega arith))
tight_stems (suc k) = omega (arith, twice_stems (tight (suc k)), tight_stems k)

-- The angles beside the keys of bends: what an angle's twelve bits say of it, and whose angle stands with which diagonal when bends come from other bends.
use mathlib.Core.Path.{◌≡◌, refl, ap, ap₂, sym, ◌∙◌}
use mathlib.Core.Logic.{◌⊎◌, inl, inr}
use mathlib.Core.List.{List, [], ◌∷◌, map}
use Prim.Native.Nat.{ℕ, ◌+◌, ◌%◌, ◌≤◌}
use native.Mathlib.Omega.{arith}
use Rattle.lists.specs.Lists.{All, Mem, all_cons, all_nil, head, sorted_cons, tail}
use Rattle.lists.proofs.Lists.{all_mem, choose_no, choose_yes, mem_map, not_empty}
use Rattle.polygon.specs.Angles.{Angle, InRange, in_range?}
use Rattle.polygon.specs.Polygon.{Edge}
use Rattle.polygon.specs.Order.{Distinct}
use Rattle.polygon.specs.Carried.{angle_of}
use Rattle.polygon.proofs.Angles.{angle_here, angle_there, angle_unlisted}
use Rattle.keys.specs.Keys.{edge_of, edges_of, key_in, keys_in, angle_in, angles_in, code_of}

-- the bits of an angle in range, and of one that is not
pub code_in : (a : Angle) → InRange a → code_of a ≡ (a + 1800) % 65536
unfolding code_of
code_in a h = choose_yes (in_range? a) _ h

pub code_out : (a : Angle) → ¬ InRange a → code_of a ≡ 4095
unfolding code_of
code_out a h = choose_no (in_range? a) _ h

pub code_low : (a : Angle) → InRange a → code_of a ≤ 3600
code_low a (inl h) = omega (arith, code_in a (inl h))
code_low a (inr h) = omega (arith, code_in a (inr h))

pub low_code : (a : Angle) → code_of a ≤ 3600 → InRange a
low_code a h = go (in_range? a)
  where
    go : Dec (InRange a) → InRange a
    go (yes p) = p
    go (no p) = absurd (omega (arith, code_out a p))

-- and back
pub code_back : (a b : ℕ) → InRange a → b % 4096 ≡ code_of a → angle_in b ≡ a
code_back a b (inl h) e = omega (arith, code_in a (inl h))
code_back a b (inr h) e = omega (arith, code_in a (inr h))

-- the diagonals of bends
abbrev pub bend_edges : List ℕ → List Edge
bend_edges bs = edges_of (keys_in bs)

abbrev pub bend_edge : ℕ → Edge
bend_edge b = edge_of (key_in b)

pub mem_edge : {b : ℕ} {bs : List ℕ} → Mem b bs → Mem (bend_edge b) (bend_edges bs)
mem_edge m = mem_map edge_of (mem_map key_in m)

mem_cases : {x y : ℕ} {xs : List ℕ} → Mem x (y ∷ xs) → (x ≡ y) ⊎ Mem x xs
mem_cases (head e) = inl e
mem_cases (tail m) = inr m

distinct_first : {e : Edge} {es : List Edge} → Distinct (e ∷ es) → All (λ q. ¬ (q ≡ e)) es
distinct_first (sorted_cons o d) = o

distinct_rest : {e : Edge} {es : List Edge} → Distinct (e ∷ es) → Distinct es
distinct_rest (sorted_cons o d) = d

-- among bends of different diagonals each has its own angle
angle_own : (bs : List ℕ) (b : ℕ) → Distinct (bend_edges bs) → Mem b bs → angle_of (bend_edges bs) (angles_in bs) (bend_edge b) ≡ angle_in b
angle_own [] b d m = absurd (not_empty m)
angle_own (c ∷ bs) b d m = elim (mem_cases m) [
  | inl e ↦ angle_here (bend_edge c) (bend_edges bs) (angle_in c) (angles_in bs) (bend_edge b) (ap bend_edge (sym e)) ∙ ap angle_in (sym e)
  | inr k ↦
      angle_there (bend_edge c) (bend_edges bs) (angle_in c) (angles_in bs) (bend_edge b) (λ q. all_mem (distinct_first d) (mem_edge k) (sym q))
      ∙ angle_own bs b (distinct_rest d) k
]

-- a bend that comes from the bends bs: it is one of them, or its diagonal is new and its angle 0
abbrev pub ComesFrom : List ℕ → ℕ → Type 0
ComesFrom bs b = Mem b bs ⊎ ((angle_in b ≡ 0) × (¬ Mem (bend_edge b) (bend_edges bs)))

-- Bends that all come from others have the angles that those have, and 0.
pub carry : (bs : List ℕ) {cs : List ℕ} → Distinct (bend_edges bs) → All (ComesFrom bs) cs → angles_in cs ≡ map (angle_of (bend_edges bs) (angles_in bs)) (bend_edges cs)
carry bs d all_nil = refl
carry bs d (all_cons {x} (inl m) a) = ap₂ ◌∷◌ (sym (angle_own bs x d m)) (carry bs d a)
carry bs d (all_cons {x} (inr (z, f)) a) = ap₂ ◌∷◌ (z ∙ sym (angle_unlisted (bend_edges bs) (angles_in bs) (bend_edge x) f)) (carry bs d a)

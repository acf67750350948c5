-- Bends parted in two tables, one step of a pass over them at a time.
use mathlib.Core.Path.{◌≡◌, refl}
use mathlib.Core.List.{List}
use Prim.Native.Nat.{ℕ, ◌+◌, ◌-◌, ◌<◌, ◌≤◌}
use native.Mathlib.Omega.{arith}
use lib.ListN.{length, take, set, get_or, length-set}
use Rattle.lists.specs.Lists.{keep, not?}
use Rattle.lists.proofs.Kept.{kept_next, kept_past}
use Rattle.polygon.specs.Polygon.{Edge}
use Rattle.keys.specs.Keys.{edge_of, key_in}
use Rattle.cut.specs.Cut.{Beneath, beneath?}
use Rattle.cut.specs.Tables.{inner_bends, rest_bends}

-- what the loop keeps, in tables of n and m places: of the bends before j, the i inner ones stand at the front of `inside`, the others at the front of `outside`
pub record Splitting (c : Edge) (bends : List ℕ) (n m : ℕ) (inside outside : List ℕ) (i j : ℕ) : Type 0 where
  pub upto : j ≤ length bends
  pub low : i ≤ j
  pub kept_inside : length inside ≡ n
  pub kept_outside : length outside ≡ m
  pub inner : take i inside ≡ inner_bends c (take j bends)
  pub rest : take (j - i) outside ≡ rest_bends c (take j bends)

pub splitting_begin : (c : Edge) (bends inside outside : List ℕ) → Splitting c bends (length inside) (length outside) inside outside 0 0
unfolding keep
splitting_begin c bends inside outside = record { upto = omega arith; low = omega arith; kept_inside = refl; kept_outside = refl; inner = refl; rest = refl }

module _ {c : Edge} {bends : List ℕ} {n m : ℕ} {inside outside : List ℕ} {i j : ℕ} (S : Splitting c bends n m inside outside i j) (fits : (length bends ≤ n) × (length bends ≤ m)) where
  abbrev y : ℕ
  y = get_or bends j 0

  module _ (more : j < length bends) where
    pub split_inner : Beneath c (edge_of (key_in y)) → Splitting c bends n m (set inside i y) outside (i + 1) (j + 1)
    split_inner h =
        let e : j + 1 - (i + 1) ≡ j - i = omega arith in
        record {
          upto = omega arith;
          low = omega (arith, S.low);
          kept_inside = simp length-set S.kept_inside;
          kept_outside = S.kept_outside;
          inner = kept_next (λ b. beneath? c (edge_of (key_in b))) bends inside i j 0 more S.inner (omega (arith, S.low, S.kept_inside)) h;
          rest = rw e (kept_past (λ b. not? (beneath? c (edge_of (key_in b)))) bends outside (j - i) j 0 more S.rest (λ f. f h));
        }

    pub split_rest : ¬ Beneath c (edge_of (key_in y)) → Splitting c bends n m inside (set outside (j - i) y) i (j + 1)
    split_rest f =
        let e : j + 1 - i ≡ j - i + 1 = omega (arith, S.low) in
        record {
          upto = omega arith;
          low = omega (arith, S.low);
          kept_inside = S.kept_inside;
          kept_outside = simp length-set S.kept_outside;
          inner = kept_past (λ b. beneath? c (edge_of (key_in b))) bends inside i j 0 more S.inner f;
          rest = rw e (kept_next (λ b. not? (beneath? c (edge_of (key_in b)))) bends outside (j - i) j 0 more S.rest (omega (arith, S.low, S.kept_outside)) f);
        }

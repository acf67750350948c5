-- The pairs of a sheet, one after another, as the reading loop meets them.
use mathlib.Core.Path.{◌≡◌, refl, ap, ◌∙◌}
use mathlib.Core.Bool.{Bool, true}
use mathlib.Core.List.{List, [], ◌∷◌, ◌++◌, map, map-append}
use Prim.Native.Nat.{ℕ, zero, suc, ◌+◌, ◌*◌, ◌-◌, ◌%◌, ◌≤◌, ◌<◌}
use native.Mathlib.Nat.{min-eq_right, max-eq_left}
use native.Mathlib.Numerals.{add-one}
use native.Mathlib.Omega.{arith}
use lib.ListN.{length, take, set, length-set}
use lib.Seq.{take-suc-set}
use Rattle.lists.specs.Lists.{All, Mem, all_cons, all_nil, tail}
use Rattle.lists.proofs.Lists.{all_append, here}
use Rattle.polygon.specs.Polygon.{Edge, ◌—◌, Diagonal}
use Rattle.polygon.specs.Order.{lower_first}
use Rattle.codec.specs.Numbers.{get16}
use Rattle.keys.specs.Keys.{key_of, edge_of, edges_of, key_in, keys_in, code_of}
use Rattle.keys.proofs.InOrder.{edge_of_key}
use Rattle.sheet.specs.Sheet.{pairs, angles}
use Rattle.sheet.specs.Held.{pair_at}
use Rattle.sheet.proofs.Coded.{codes_in}

pub lower_above : (a b : ℕ) → b ≤ a → lower_first (a, b) ≡ b — a
unfolding lower_first
lower_above a b h = rw (min-eq_right h, max-eq_left h)

pairs_snoc : (s : List ℕ) (at k : ℕ) → pairs s at (suc k) ≡ pairs s at k ++ (pair_at s (at + 4 * k) ∷ [])
unfolding pairs
pairs_snoc s at zero = let e : at + 4 * 0 ≡ at = omega arith in rw e
pairs_snoc s at (suc k) =
    let e : at + 4 * suc k ≡ at + 4 + 4 * k = omega arith in
    rw e (ap (λ (l : List Edge). pair_at s at ∷ l) (pairs_snoc s (at + 4) k))

-- the pair at a place is one of them
pub pairs_at : (s : List ℕ) (at k i : ℕ) → i < k → Mem (pair_at s (at + 4 * i)) (pairs s at k)
unfolding pairs
pairs_at s at zero i h = absurd (omega arith)
pairs_at s at (suc k) zero h = let e : at + 4 * 0 ≡ at = omega arith in rw e here
pairs_at s at (suc k) (suc i) h =
    let e : at + 4 * suc i ≡ at + 4 + 4 * i = omega arith in
    rw e (tail (pairs_at s (at + 4) k i (omega arith)))

-- one angle more
angles_snoc : (s : List ℕ) (at k : ℕ) → angles s at (suc k) ≡ angles s at k ++ (get16 s (at + 2 * k) ∷ [])
unfolding angles
angles_snoc s at zero = let e : at + 2 * 0 ≡ at = omega arith in rw e
angles_snoc s at (suc k) =
    let e : at + 2 * suc k ≡ at + 2 + 2 * k = omega arith in
    rw e (ap (λ (l : List ℕ). get16 s at ∷ l) (angles_snoc s (at + 2) k))

-- what the loop keeps: the first i pairs are diagonals, and their bends stand in the table, with the bits of the angles from a place on if there are any
pub record Listed (s : List ℕ) (n : ℕ) (angled : Bool) (at : ℕ) (room : ℕ) (bends : List ℕ) (i : ℕ) : Type 0 where
  pub upto : i ≤ n - 3
  pub size : length bends ≡ room
  pub diagonals : All (Diagonal n) (pairs s 3 i)
  pub edges : edges_of (keys_in (take i bends)) ≡ pairs s 3 i
  pub codes : angled ≡ true → codes_in (take i bends) ≡ map code_of (angles s at i)

pub listed_none : (s : List ℕ) (n : ℕ) (angled : Bool) (at : ℕ) (bends : List ℕ) → Listed s n angled at (length bends) bends 0
unfolding pairs angles
listed_none s n angled at bends = record { upto = omega arith; size = refl; diagonals = all_nil; edges = refl; codes = λ a. refl }

-- the next bend: of the key k, with the bits c
pub listed_next : (s : List ℕ) (n : ℕ) (angled : Bool) (at room : ℕ) (bends : List ℕ) (i k c b : ℕ) → n ≤ 1024 → i < n - 3 → i < room → Listed s n angled at room bends i
    → Diagonal n (pair_at s (3 + 4 * i)) → k ≡ key_of (pair_at s (3 + 4 * i)) → c < 4096 → (angled ≡ true → c ≡ code_of (get16 s (at + 2 * i))) → b ≡ k * 4096 + c
    → Listed s n angled at room (set bends i b) (i + 1)
listed_next s n angled at room bends i k c b small more fits L d e low f g =
    let key : key_in b ≡ k = omega arith in
    let bits : b % 4096 ≡ c = omega arith in
    let next : take (suc i) (set bends i b) ≡ take i bends ++ (b ∷ []) = take-suc-set bends i b (omega (arith, L.size)) in
    let edge : edge_of (key_in b) ≡ pair_at s (3 + 4 * i) = ap edge_of (key ∙ e) ∙ edge_of_key (pair_at s (3 + 4 * i)) (omega (arith, d.corner)) in
    record {
      upto = omega arith;
      size = simp length-set L.size;
      diagonals = rw (add-one i, pairs_snoc s 3 i) (all_append L.diagonals (all_cons d all_nil));
      edges = rw (add-one i, next, map-append key_in (take i bends) (b ∷ []), map-append edge_of (keys_in (take i bends)) (key_in b ∷ []), L.edges, pairs_snoc s 3 i, edge);
      codes = λ a. rw (add-one i, next, map-append (λ (x : ℕ). x % 4096) (take i bends) (b ∷ []), L.codes a, angles_snoc s at i, map-append code_of (angles s at i) (get16 s (at + 2 * i) ∷ []), bits, f a);
    }

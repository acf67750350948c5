-- A part in the code's hands: what is known of its bends and keys.
use Rattle.std.specs.Prelude.{Result}
use Rattle.codec.specs.declared.refusal.Refusal.{Refusal}
use mathlib.Core.Path.{◌≡◌, refl, ap, ap₂, ◌∙◌}
use mathlib.Core.Bool.{false}
use mathlib.Core.List.{List, [], ◌∷◌, map}
use Prim.Native.Nat.{ℕ, ◌+◌, ◌-◌, ◌≤◌}
use native.Mathlib.Omega.{arith}
use lib.ListN.{length, take, length-map}
use lib.Seq.{length-take-le}
use Rattle.polygon.specs.Angles.{none}
use Rattle.polygon.specs.Polygon.{Polygon, Valid, Diagonal, bare}
use Rattle.keys.specs.Keys.{edge_of, edges_of, keys_in, flat_bend}
use Rattle.keys.proofs.InOrder.{edges_at}
use Rattle.sheet.specs.Sheet.{Reading, refused, held}
use Rattle.sheet.specs.Hand.{part_of, flat_part}
use Rattle.sheet.specs.Held.{reading_of, SmallKeys}

-- What is worked out of a reading is worked out of what the code answers.
pub read_is : {A : Type 0} {q : Reading} (r : Result Polygon Refusal) (f : Reading → A) → reading_of r ≡ q → f (reading_of r) ≡ f q
read_is r f e = ap f e

-- The keys of a part are as many as its diagonals, and their edges' corners are below 1,024
module _ {p : Polygon} (V : Valid p) (ks : List ℕ) (same : edges_of ks ≡ p.ds) where
  pub keys_count : length ks ≡ p.n - 3
  keys_count = omega (arith, V.triangulated.full, ap length same, length-map ks edge_of)

  pub keys_small : SmallKeys ks
  keys_small j i = let d = edges_at {Q = Diagonal p.n} ks (rw same V.triangulated.diagonals) j i in omega (arith, d.forth, d.corner, V.most)

-- what is read of a sheet by one who does not ask for angles
unfoldable pub bared : Reading → Reading
bared (refused k) = refused k
bared (held p) = held (bare p)

-- the keys of flat bends
pub flat_keys : (ks : List ℕ) → keys_in (map flat_bend ks) ≡ ks
flat_keys [] = refl
flat_keys (k ∷ ks) = ap₂ ◌∷◌ (omega arith) (flat_keys ks)

-- a part without angles, by flat bends
pub flat_same : (n : ℕ) (ks bs : List ℕ) → take (n - 3) bs ≡ map flat_bend ks → part_of (record { n = n; angled = false }) bs ≡ flat_part n ks
flat_same n ks bs flat = let e = ap keys_in flat ∙ flat_keys ks in λ i. record { n = n; ds = edges_of (e i); angles = none }

-- the keys of a part lie in the table, and are small
module _ (n : ℕ) (ks : List ℕ) (V : Valid (flat_part n ks)) where
  pub flat_count : length ks + 3 ≡ n
  flat_count = omega (arith, V.triangulated.full, length-map ks edge_of)

  pub flat_small : SmallKeys ks
  flat_small j i = let d = edges_at {Q = Diagonal n} ks V.triangulated.diagonals j i in omega (arith, d.forth, d.corner, V.most)

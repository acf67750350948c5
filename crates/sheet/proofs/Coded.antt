-- The angles of a sheet in the twelve bits beside the keys: whether they are allowed, and that each stays with its diagonal when the bends are put in order.
use mathlib.Core.Path.{◌≡◌, refl, ap, ap₂}
use mathlib.Core.Logic.{inl}
use mathlib.Core.Bool.{Bool, true, false}
use mathlib.Core.List.{List, [], ◌∷◌, map}
use Prim.Native.Nat.{ℕ, ◌+◌, ◌%◌}
use native.Mathlib.Omega.{arith}
use lib.ListN.{length}
use Rattle.lists.specs.Lists.{All, Sub, all_cons, all_nil}
use Rattle.lists.proofs.Lists.{all_of}
use Rattle.polygon.specs.Angles.{Angle, Angles, none, each, InRange, Allowed}
use Rattle.polygon.specs.Polygon.{Edge}
use Rattle.polygon.specs.Order.{Distinct}
use Rattle.polygon.specs.Carried.{carried}
use Rattle.keys.specs.Keys.{edges_of, keys_in, angles_in, code_of}
use Rattle.keys.proofs.Beside.{code_low, low_code, code_back, carry}
use Rattle.sheet.specs.Sheet.{angles_if}
use Rattle.sheet.specs.Hand.{angles_by}
use Rattle.sheet.specs.Held.{bit, CodeFits, CodesBy}

-- the twelve lowest bits of bends
abbrev pub codes_in : List ℕ → List ℕ
codes_in bs = map (λ b. b % 4096) bs

-- angles that stand if the head says so
abbrev pub stand_by : Bool → List Angle → Angles
stand_by true vs = each vs
stand_by false vs = none

pub stands_by : (b : Bool) (x : ℕ) (vs : List Angle) → bit b ≡ x → angles_if x vs ≡ stand_by b vs
stands_by true x vs e = rw (← e)
stands_by false x vs e = rw (← e)

-- bends whose bits are those of the angles vs
pub data Coded : List ℕ → List Angle → Type 0 where
  coded_nil : Coded [] []
  coded_cons : {b : ℕ} {bs : List ℕ} {v : Angle} {vs : List Angle} → b % 4096 ≡ code_of v → Coded bs vs → Coded (b ∷ bs) (v ∷ vs)

both_of : {x y : ℕ} {xs ys : List ℕ} → x ∷ xs ≡ y ∷ ys → (x ≡ y) × (xs ≡ ys)
both_of e = (cc, cc)

coded : (bs : List ℕ) (vs : List Angle) → codes_in bs ≡ map code_of vs → Coded bs vs
coded [] [] e = coded_nil
coded [] (v ∷ vs) e = absurd (omega (arith, ap length e))
coded (b ∷ bs) [] e = absurd (omega (arith, ap length e))
coded (b ∷ bs) (v ∷ vs) e = let (x, xs) = both_of e in coded_cons {b = b} {v = v} x (coded bs vs xs)

fits_range : {bs : List ℕ} {vs : List Angle} → Coded bs vs → All CodeFits bs → All InRange vs
fits_range coded_nil a = all_nil
fits_range (coded_cons {v = v} e c) (all_cons h a) = all_cons (low_code v (omega arith)) (fits_range c a)

range_fits : {bs : List ℕ} {vs : List Angle} → Coded bs vs → All InRange vs → All CodeFits bs
range_fits coded_nil a = all_nil
range_fits (coded_cons {b = b} {v = v} e c) (all_cons h a) = all_cons {x = b} (omega (arith, code_low v h)) (range_fits c a)

angles_back : {bs : List ℕ} {vs : List Angle} → Coded bs vs → All InRange vs → angles_in bs ≡ vs
angles_back coded_nil a = refl
angles_back (coded_cons {b = b} {v = v} e c) (all_cons h a) = ap₂ ◌∷◌ (code_back v b h e) (angles_back c a)

pub codes_allowed : (b : Bool) (n : ℕ) (bs : List ℕ) (vs : List Angle) → (b ≡ true → codes_in bs ≡ map code_of vs) → Allowed n (stand_by b vs) → CodesBy b n bs
codes_allowed true n bs vs e a = (a.0, range_fits (coded bs vs (e refl)) a.2)
codes_allowed false n bs vs e a = tt

pub allowed_codes : (b : Bool) (n : ℕ) (bs : List ℕ) (vs : List Angle) → (b ≡ true → codes_in bs ≡ map code_of vs) → length vs + 3 ≡ n → CodesBy b n bs → Allowed n (stand_by b vs)
allowed_codes true n bs vs e c a = (a.0, c, fits_range (coded bs vs (e refl)) a.1)
allowed_codes false n bs vs e c a = tt

-- of bends of the different diagonals es, some in another order
pub angles_moved : (b : Bool) (n : ℕ) (bs : List ℕ) (vs : List Angle) → (b ≡ true → codes_in bs ≡ map code_of vs) → {es : List Edge} → edges_of (keys_in bs) ≡ es → {o : List ℕ} → Sub o bs → Distinct es
    → CodesBy b n bs → angles_by b o ≡ carried es (stand_by b vs) (edges_of (keys_in o))
unfolding carried
angles_moved true n bs vs e {es} q {o} k d a =
    let C = coded bs vs (e refl) in
    let own : angles_in bs ≡ vs = angles_back C (fits_range C a.1) in
    ap each (rw (q, own) at (carry bs {cs = o} (rw q d) (all_of o (λ x m. inl (k x m)))))
angles_moved false n bs vs e q k d a = refl

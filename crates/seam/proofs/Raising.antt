-- Bends with both corners so many further on: their edges are laid there, and their angles stay.
use mathlib.Core.Path.{◌≡◌, refl, ap₂}
use mathlib.Core.List.{List, [], ◌∷◌, map}
use Prim.Native.Nat.{ℕ, ◌+◌, ◌*◌, ◌/◌, ◌%◌, ◌<◌}
use native.Mathlib.Omega.{arith}
use lib.ListN.{length, get_or, length-map, get_or-map}
use Rattle.lists.specs.Lists.{all_cons}
use Rattle.polygon.proofs.Order.{edge}
use Rattle.keys.specs.Keys.{key_in, keys_in, angle_in, angles_in}
use Rattle.keys.proofs.InOrder.{edges_at}
use Rattle.keys.proofs.Beside.{bend_edge, bend_edges}
use Rattle.edit.specs.Rules.{both}
use Rattle.seam.specs.Join.{laid}
use Rattle.seam.specs.Halves.{raised_bend, Raisable}

raised_key : (i b : ℕ) → key_in (raised_bend i b) ≡ key_in b + i * 1025
raised_key i b = omega arith

raised_edge : (i b : ℕ) → i + (bend_edge b).1 < 1024 → bend_edge (raised_bend i b) ≡ both (laid i) (bend_edge b)
unfolding both
raised_edge i b h = edge (omega (arith, raised_key i b)) (omega (arith, raised_key i b))

pub raised_edges : (i : ℕ) (bs : List ℕ) → Raisable i bs → bend_edges (map (raised_bend i) bs) ≡ map (both (laid i)) (bend_edges bs)
raised_edges i [] a = refl
raised_edges i (b ∷ bs) (all_cons h a) = ap₂ ◌∷◌ (raised_edge i b h.1) (raised_edges i bs a)

raised_angle : (i b : ℕ) → angle_in (raised_bend i b) ≡ angle_in b
raised_angle i b = let e : raised_bend i b % 4096 ≡ b % 4096 = omega arith in omega arith

pub raised_angles : (i : ℕ) (bs : List ℕ) → angles_in (map (raised_bend i) bs) ≡ angles_in bs
raised_angles i [] = refl
raised_angles i (b ∷ bs) = ap₂ ◌∷◌ (raised_angle i b) (raised_angles i bs)

-- the bend at j fits its type when it is raised
pub raised_fits : (i : ℕ) (bs : List ℕ) → Raisable i bs → (j : ℕ) → j < length bs → raised_bend i (get_or bs j 0) < 4294967296
raised_fits i bs a j h =
    let b : ℕ = get_or bs j 0 in
    let k : (i + key_in b / 1024 < 1024) × (i + key_in b % 1024 < 1024) =
    rw (get_or-map key_in bs j 0) at (edges_at {Q = λ e. (i + e.0 < 1024) × (i + e.1 < 1024)} (keys_in bs) a j (omega (arith, length-map bs key_in))) in
    omega arith

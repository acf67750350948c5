-- A table of bends renumbered place after place: their edges are renumbered, and their angles stay.
use mathlib.Core.Path.{◌≡◌, refl, ap, ap₂, ◌∙◌}
use mathlib.Core.List.{List, [], ◌∷◌, map}
use Prim.Native.Nat.{ℕ, ◌+◌, ◌-◌, ◌/◌, ◌%◌, ◌<◌, ◌≤◌}
use native.Mathlib.Decide.{dec_lt}
use native.Mathlib.Numerals.{add-one}
use native.Mathlib.Omega.{arith}
use lib.ListN.{length, take, set, get_or, length-set, length-map, get_or-map}
use Rattle.lists.specs.Lists.{all_cons, choose}
use Rattle.lists.proofs.Places.{mapped_next}
use Rattle.keys.specs.Keys.{key_of, edge_of, edges_of, key_in, keys_in, angle_in, angles_in}
use Rattle.keys.proofs.InOrder.{edge_of_key, edges_at}
use Rattle.edit.specs.declared.shift.Shift.{Shift}
use Rattle.edit.specs.declared.shift.Shift.TheVariants.{Up, Down}
use Rattle.edit.specs.Rules.{up, both}
use Rattle.edit.specs.Tables.{moved, moved_bend, Movable, AllMovable}

-- the rule of an added corner is the case of one
pub up_one : (i : ℕ) → moved (Up i 1) ≡ up i
unfolding up
up_one i = λ j x. choose (dec_lt i x) (add-one x j) x

-- a bend with its corners renumbered: its edge, and its angle
module _ (s : Shift) (b : ℕ) (low : moved s (edge_of (key_in b)).0 < 1024) (high : moved s (edge_of (key_in b)).1 < 1024) where
  moved_key : key_in (moved_bend s b) ≡ key_of (both (moved s) (edge_of (key_in b)))
  moved_key = omega arith

  moved_edge : edge_of (key_in (moved_bend s b)) ≡ both (moved s) (edge_of (key_in b))
  unfolding both
  moved_edge = ap edge_of moved_key ∙ edge_of_key (both (moved s) (edge_of (key_in b))) high

moved_angle : (s : Shift) (b : ℕ) → angle_in (moved_bend s b) ≡ angle_in b
moved_angle s b = let e : moved_bend s b % 4096 ≡ b % 4096 = omega arith in ap (λ (c : ℕ). (c + 63736) % 65536) e

-- the corners of bends that can be renumbered stay below 1,024
moved_low : (s : Shift) (x : ℕ) → Movable s x → moved s x < 1024
unfolding choose
moved_low (Up at by) x (h, f) = go (dec_lt at x)
  where
    go : (d : Dec (at < x)) → choose d (x + by) x < 1024
    go (yes l) = f l
    go (no l) = h
moved_low (Down at by) x (h, f) = go (dec_lt at x)
  where
    go : (d : Dec (at < x)) → choose d (x - by) x < 1024
    go (yes l) = omega arith
    go (no l) = h

pub moved_edges : (s : Shift) (bs : List ℕ) → AllMovable s bs → edges_of (keys_in (map (moved_bend s) bs)) ≡ map (both (moved s)) (edges_of (keys_in bs))
moved_edges s [] a = refl
moved_edges s (b ∷ bs) (all_cons (h, k) a) = ap₂ ◌∷◌ (moved_edge s b (moved_low s _ h) (moved_low s _ k)) (moved_edges s bs a)

pub moved_angles : (s : Shift) (bs : List ℕ) → angles_in (map (moved_bend s) bs) ≡ angles_in bs
moved_angles s [] = refl
moved_angles s (b ∷ bs) = ap₂ ◌∷◌ (moved_angle s b) (moved_angles s bs)

-- the corners of the bend at j
pub movable_at : (s : Shift) (bs : List ℕ) → AllMovable s bs → (j : ℕ) → j < length bs → Movable s (key_in (get_or bs j 0) / 1024) × Movable s (key_in (get_or bs j 0) % 1024)
movable_at s bs a j h =
    rw (get_or-map key_in bs j 0) at (edges_at {Q = λ e. Movable s e.0 × Movable s e.1} (keys_in bs) a j (omega (arith, length-map bs key_in)))

-- what the loop keeps: the bends before j are renumbered
pub record Mapping (s : Shift) (bends : List ℕ) (size : ℕ) (out : List ℕ) (j : ℕ) : Type 0 where
  pub upto : j ≤ length bends
  pub kept : length out ≡ size
  pub done : take j out ≡ map (moved_bend s) (take j bends)

module _ {s : Shift} {bends : List ℕ} {size : ℕ} {out : List ℕ} {j : ℕ} (M : Mapping s bends size out j) where
  pub mapping_next : length bends ≤ size → j < length bends → {v : ℕ} → v ≡ moved_bend s (get_or bends j 0) → Mapping s bends size (set out j v) (j + 1)
  mapping_next fits more {v} e = record {
    upto = omega arith;
    kept = simp length-set M.kept;
    done = mapped_next (moved_bend s) bends out j 0 more (omega (arith, M.kept)) e M.done;
  }

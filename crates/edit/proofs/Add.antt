-- Adding an ear to a valid polygon gives a valid polygon.
use mathlib.Core.Path.{◌≡◌}
use mathlib.Core.List.{List, map}
use Prim.Native.Nat.{ℕ, suc, ◌+◌, ◌≤◌, ◌<◌}
use native.Mathlib.Decide.{ℕ_discrete}
use native.Mathlib.Omega.{arith}
use lib.ListN.{length-map}
use Rattle.lists.specs.Lists.{All, choose}
use Rattle.lists.proofs.Lists.{all_imp, all_map}
use Rattle.polygon.specs.Polygon.{Edge, ◌—◌, Ascending, Diagonal, Triangulated, Polygon, Valid}
use Rattle.polygon.proofs.Order.{low_of, high_of}
use Rattle.edit.specs.Rules.{add_ear, up, both, entering, ear_added}
use Rattle.edit.proofs.Rule.{Takes, given}
use Rattle.edit.proofs.Result.{result_valid}
use Rattle.edit.proofs.Renumber.{up_is, up_mono, BothEnds, renumbered_ascending, renumbered_free}
use Rattle.edit.proofs.Enter.{ApartFrom, entered}

-- a diagonal stays one when the corners above i go up
up_diagonal : (n i : ℕ) (e : Edge) → Diagonal n e → Diagonal (suc n) (both (up i) e)
unfolding both
up_diagonal n i e d = omega (arith, up_is i e.0, up_is i e.1)

-- the edge that enters is a diagonal, and apart from all that were there
record Enters (n i : ℕ) (x : Edge) : Type 0 where
  diagonal : Diagonal (suc n) x
  apart : (e : Edge) → Diagonal n e → ApartFrom x (both (up i) e)

enters : (n i : ℕ) → 3 ≤ n → i < n → Enters n i (entering n i)
unfolding entering choose both
enters n i b h = go (ℕ_discrete (suc i) n)
  where
    go : (d : Dec (suc i ≡ n)) → Enters n i (choose d (0 — i) (i — (i + 2)))
    go (yes p) = record {
      diagonal = omega arith;
      apart = λ e d. let u = up_is i e.0 in let v = up_is i e.1 in record { other = λ q. omega (arith, low_of q, high_of q); over = λ c. omega arith; under = λ c. omega arith };
    }
    go (no p) = record {
      diagonal = omega arith;
      apart = λ e d. let u = up_is i e.0 in let v = up_is i e.1 in record { other = λ q. omega (arith, low_of q, high_of q); over = λ c. omega arith; under = λ c. omega arith };
    }

module _ (n i : ℕ) (ds : List Edge) (P : Triangulated n ds) (h : i < n) where
  abbrev pub moved : List Edge
  moved = map (both (up i)) ds

  E : Enters n i (entering n i)
  E = enters n i (omega (arith, P.full)) h

  -- any corner
  ends : All (BothEnds (λ x. Unit {0})) ds
  ends = all_imp (λ e d. (tt, tt)) P.diagonals

  -- the edge that enters is apart from the diagonals, renumbered
  pub entering_apart : All (ApartFrom (entering n i)) moved
  entering_apart = all_map _ (all_imp E.apart P.diagonals)

  pub moved_ascending : Ascending moved
  moved_ascending = renumbered_ascending _ (up i) (λ x y a b. up_mono i x y) ends P.ascending

  pub add_triangulated : Triangulated (suc n) (ear_added n i ds)
  unfolding ear_added
  add_triangulated = entered (suc n) (entering n i) moved
      (omega (arith, P.full))
      (omega (arith, length-map ds (both (up i)), P.full))
      moved_ascending
      (all_map _ (all_imp (up_diagonal n i) P.diagonals))
      (renumbered_free _ (up i) (λ x y a b. up_mono i x y) ends P.none_cross)
      E.diagonal
      entering_apart

pub add_valid : (p : Polygon) (i : ℕ) → Valid p → Takes (add_ear i) p → Valid (given (add_ear i) p)
add_valid p i A (h, k) =
    result_valid p.n _ _ _ p.angles (omega (arith, A.least)) (omega (arith, A.most)) (add_triangulated p.n i p.ds A.triangulated h) A.allowed

-- What is known of the two parts of a piece whose values stand in the table.
use mathlib.Core.Path.{◌≡◌}
use mathlib.Core.List.{List}
use Prim.Native.Nat.{ℕ, ◌+◌, ◌-◌, ◌<◌, ◌≤◌}
use native.Mathlib.Omega.{arith}
use Rattle.polygon.specs.Tree.{Tree, node}
use Rattle.umbrella.specs.Values.{ud}
use Rattle.tree.specs.Table.{apex_at, right_edge}
use Rattle.tree.proofs.Pieces.{Parts, opened}
use Rattle.levels.specs.Kept.{six, six_at, Deep, deep, Tabled}
use Rattle.levels.proofs.Storing.{deep_root}

pub record TabledParts (tr ds : List ℕ) (e u v : ℕ) (t : Tree) : Type 0 where
  pub parts : Parts tr e u v t
  pub known_l : Tabled tr ds (e - 1) u (apex_at tr e) parts.l
  pub known_r : Tabled tr ds (right_edge tr e) (apex_at tr e) v parts.r
  pub tall : 1 ≤ ud (node parts.l parts.r)
  pub six_t : six_at ds e ≡ six (node parts.l parts.r)
  pub six_l : six_at ds (e - 1) ≡ six parts.l
  pub six_r : six_at ds (right_edge tr e) ≡ six parts.r

pub tabled_parts : {tr ds : List ℕ} {e u v : ℕ} {t : Tree} → Tabled tr ds e u v t → u + 1 < v → TabledParts tr ds e u v t
unfolding ud
tabled_parts {tr} {ds} {e} {u} {v} {t} k h = of (opened k.shows h) k.deep
  where
    tall : (l r : Tree) → 1 ≤ ud (node l r)
    tall l r = omega arith

    with_deep : (d : Parts tr e u v t) → Deep tr ds e (node d.l d.r) → TabledParts tr ds e u v t
    with_deep d (deep s x y) = record {
      parts = d;
      known_l = record { shows = d.shows_l; deep = x };
      known_r = record { shows = d.shows_r; deep = y };
      tall = tall d.l d.r;
      six_t = s;
      six_l = deep_root x;
      six_r = deep_root y;
    }

    of : (d : Parts tr e u v t) → Deep tr ds e t → TabledParts tr ds e u v t
    of d x = with_deep d (rw d.is at x)

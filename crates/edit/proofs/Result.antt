-- The part that an edit gives is valid, if its diagonals triangulate it; and when its n is over 3, its angles are those that were there, and 0.
use mathlib.Core.Path.{◌≡◌}
use mathlib.Core.List.{List}
use Prim.Native.Nat.{ℕ, ◌≤◌, ◌<◌}
use native.Mathlib.Decide.{dec_lt}
use Rattle.lists.specs.Lists.{choose}
use Rattle.lists.proofs.Lists.{choose_yes}
use Rattle.polygon.specs.Angles.{Angles, none, Allowed}
use Rattle.polygon.specs.Polygon.{Edge, Triangulated, Valid}
use Rattle.polygon.specs.Carried.{carried}
use Rattle.polygon.proofs.Angles.{carried_allowed}
use Rattle.edit.specs.Rules.{result}

pub result_valid : (m n : ℕ) (es ds : List Edge) (xs : Angles) → 3 ≤ n → n ≤ 1024 → Triangulated n ds → Allowed m xs → Valid (result n es xs ds)
unfolding result choose
result_valid m n es ds xs low high T A = record { least = low; most = high; triangulated = T; allowed = go (dec_lt 3 n) }
  where
    go : (d : Dec (3 < n)) → Allowed n (choose d (carried es xs ds) none)
    go (yes h) = carried_allowed m n es ds xs (λ k. h) T.full A
    go (no h) = tt

pub result_over : (n : ℕ) (es ds : List Edge) (xs : Angles) → 3 < n → result n es xs ds ≡ record { n = n; ds = ds; angles = carried es xs ds }
unfolding result
result_over n es ds xs h = let e = choose_yes (dec_lt 3 n) {x = carried es xs ds} none h in λ i. record { n = n; ds = ds; angles = e i }

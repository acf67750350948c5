-- The linear test decides whether two diagonals cross. Rests on Crossing.antt of the crate polygon.
use mathlib.Core.Path.{◌≡◌, sym, ◌∙◌}
use mathlib.Core.List.{List}
use Prim.Native.Nat.{ℕ, ◌+◌, ◌/◌, ◌%◌, ◌<◌}
use native.Mathlib.Omega.{arith}
use lib.ListN.{length, get_or, length-map}
use Rattle.lists.proofs.Places.{all_at, at_all}
use Rattle.polygon.specs.Polygon.{◌—◌, NoneCross, Diagonal}
use Rattle.polygon.specs.Tree.{far}
use Rattle.polygon.proofs.Far.{far_ok}
use Rattle.polygon.proofs.Crossing.{Passes, passes_free, crossing_test}
use Rattle.keys.specs.Keys.{edge_of, edges_of}
use Rattle.keys.specs.Tops.{Diagonals, Tops, apex_of, Apexes, Reaches, Fails}
use Rattle.keys.proofs.Apexes.{diagonal_at, edge_at}

module _ (n : ℕ) (keys : List ℕ) (D : Diagonals n (edges_of keys)) (top apex : List ℕ) (T : Tops n (edges_of keys) top) (A : Apexes (edges_of keys) apex) where
  -- an apex lies below its diagonal's higher corner
  pub apex_below : (j : ℕ) → j < length keys → get_or apex j 0 < get_or keys j 0 % 1024
  apex_below j h =
      let d : Diagonal n (edge_of (get_or keys j 0)) = diagonal_at n keys D j h in
      let e : get_or apex j 0 ≡ apex_of (edges_of keys) (edge_of (get_or keys j 0)) = A j (omega (arith, length-map keys edge_of)) ∙ rw (edge_at n keys D j h) in
      rw e (far_ok (get_or keys j 0 / 1024) (get_or keys j 0 % 1024) (edges_of keys) (omega arith)).below

  -- what the table gives at a diagonal's apex is what the test asks of it
  reach_at : (j : ℕ) → j < length keys → get_or top (get_or apex j 0) 0 ≡ far (apex_of (edges_of keys) (edge_of (get_or keys j 0))) n (edges_of keys)
  reach_at j h =
      let d : Diagonal n (edge_of (get_or keys j 0)) = diagonal_at n keys D j h in
      let e : get_or apex j 0 ≡ apex_of (edges_of keys) (edge_of (get_or keys j 0)) = A j (omega (arith, length-map keys edge_of)) ∙ rw (edge_at n keys D j h) in
      T (get_or apex j 0) (omega (arith, apex_below j h, d.corner)) ∙ rw e

  pub reaches_free : Reaches keys top apex → NoneCross (edges_of keys)
  reaches_free R = passes_free n (edges_of keys) D.diagonals (all_at (0 — 0) (edges_of keys) (λ j h. let k : j < length keys = omega (arith, length-map keys edge_of) in rw (edge_at n keys D j k) (sym (reach_at j k) ∙ R j k)))

  pub fails_cross : length keys + 3 ≡ n → Fails keys top apex → NoneCross (edges_of keys) → ⊥
  fails_cross size (j, h, f) free =
      let passes = ((crossing_test n (edges_of keys) D.ascending D.diagonals (omega (arith, length-map keys edge_of))).0 free).1 in
      let p : Passes n (edges_of keys) (edge_of (get_or keys j 0)) = rw (edge_at n keys D j h) at (at_all (0 — 0) passes j (omega (arith, length-map keys edge_of))) in
      f (reach_at j h ∙ p)

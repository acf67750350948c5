-- The sides of n corners, and the sides and diagonals among the strokes of a chart: n sides are all of them exactly if n - 3 strokes are diagonals.
use mathlib.Core.Path.{◌≡◌, refl, ap, ◌∙◌}
use mathlib.Core.Logic.{◌⊎◌, inl, inr}
use mathlib.Core.List.{List, map}
use Prim.Native.Nat.{ℕ, suc, ◌+◌, ◌*◌, ◌-◌, ◌≤◌, ◌<◌}
use native.Mathlib.Decide.{ℕ_discrete}
use native.Mathlib.Omega.{arith}
use lib.ListN.{length, length-map}
use Rattle.lists.specs.Lists.{All, Mem, all_cons, head, keep, mem?, not?, numbers, sorted_cons, tail}
use Rattle.lists.proofs.Lists.{all_imp, all_map, all_mem, keep_mem, keep_sorted, keep_sub, keep_test, sorted_map, sorted_same, mem_map, keep_every, keep_full, keep_split}
use Rattle.lists.proofs.Places.{numbers_count, numbers_in, numbers_mem, numbers_sorted}
use Rattle.polygon.specs.Polygon.{Edge, ◌—◌, Before, Ascending, Side, Diagonal}
use Rattle.polygon.specs.Order.{same?, diagonal?}
use Rattle.polygon.proofs.Order.{one_way}
use Rattle.polygon.proofs.Reading.{diagonal_reads}
use Rattle.chart_reader.specs.Rules.{part_sides}

module _ (n : ℕ) (big : 3 ≤ n) where
  sides_count : length (part_sides n) ≡ n
  unfolding part_sides
  sides_count = omega (arith, length-map (numbers (n - 2) 1) (λ i. i — suc i), numbers_count (n - 2) 1)

  sides_ascending : Ascending (part_sides n)
  unfolding part_sides
  sides_ascending =
      let later : All (λ i. 1 ≤ i) (numbers (n - 2) 1) = all_imp (λ i h. h.0) (numbers_in (n - 2) 1) in
      let after : (k : ℕ) → All (Before (0 — k)) (map (λ i. i — suc i) (numbers (n - 2) 1)) = λ k. all_map (λ i. i — suc i) (all_imp (λ i h. inl h) later) in
      sorted_cons {x = 0 — 1} (all_cons {x = 0 — (n - 1)} (inr (refl, omega arith)) (after 1))
      (sorted_cons (after (n - 1)) (sorted_map (λ i. i — suc i) (λ x y p q h. inl h) later (numbers_sorted (n - 2) 1)))

  pub sides_are : All (λ e. Side n e.0 e.1) (part_sides n)
  unfolding part_sides
  sides_are = all_cons {x = 0 — 1} (inl (refl, omega arith)) (all_cons {x = 0 — (n - 1)} (inr (refl, omega arith)) (all_map (λ i. i — suc i) (all_imp (λ i h. inl (refl, omega arith)) (numbers_in (n - 2) 1))))

  pub side_among : (x y : ℕ) → Side n x y → Mem (x — y) (part_sides n)
  unfolding part_sides
  side_among x y (inl h) = go (ℕ_discrete x 0)
    where
      go : Dec (x ≡ 0) → Mem (x — y) (part_sides n)
      go (yes p) = head (λ i. (p i, (h.0 ∙ ap suc p) i))
      go (no p) = let m : Mem (x — y) (map (λ i. i — suc i) (numbers (n - 2) 1)) = rw h.0 (mem_map (λ i. i — suc i) (numbers_mem (n - 2) 1 x (omega arith) (omega arith))) in tail (tail m)
  side_among x y (inr h) = let e : y ≡ n - 1 = omega arith in tail (head (λ i. (h.0 i, e i)))

  -- strokes that ascend and name corners
  module _ (es : List Edge) (N : All (λ e. (e.0 < e.1) × (e.1 < n)) es) (A : Ascending es) where
    others : List Edge
    others = keep (λ e. not? (diagonal? n e)) es

    other_side : (e : Edge) → Mem e es → ¬ Diagonal n e → Side n e.0 e.1
    other_side e m f = let h = all_mem N m in go (ℕ_discrete e.1 (suc e.0)) (ℕ_discrete e.0 0) (ℕ_discrete (suc e.1) n)
      where
        go : Dec (e.1 ≡ suc e.0) → Dec (e.0 ≡ 0) → Dec (suc e.1 ≡ n) → Side n e.0 e.1
        go (yes p) q r = inl (p, (all_mem N m).1)
        go (no p) (yes q) (yes r) = inr (q, r)
        go (no p) (no q) r = absurd (f (let h = all_mem N m in omega arith))
        go (no p) (yes q) (no r) = absurd (f (let h = all_mem N m in omega arith))

    pub kinds : (e : Edge) → Mem e es → Side n e.0 e.1 ⊎ Mem e (keep (diagonal? n) es)
    kinds e m = go (diagonal? n e)
      where
        go : Dec (Diagonal n e) → Side n e.0 e.1 ⊎ Mem e (keep (diagonal? n) es)
        go (yes d) = inr (keep_mem (diagonal? n) es m d)
        go (no f) = inl (other_side e m f)

    -- those that are no diagonals are the sides among them
    others_are : others ≡ keep (λ e. mem? same? e es) (part_sides n)
    unfolding others
    others_are = sorted_same one_way others (keep (λ e. mem? same? e es) (part_sides n)) (keep_sorted _ A) (keep_sorted _ sides_ascending)
        (λ e m. let k = keep_sub _ es e m in keep_mem _ (part_sides n) (side_among e.0 e.1 (other_side e k (all_mem (keep_test _ es) m))) k)
        (λ e m. keep_mem _ es (all_mem (keep_test _ (part_sides n)) m) (λ d. ((diagonal_reads n e.0 e.1).0 d).2 (all_mem sides_are (keep_sub _ (part_sides n) e m))))

    module _ (count : length es + 3 ≡ 2 * n) where
      -- all sides are there exactly if n - 3 strokes are diagonals
      pub sides_full : All (λ e. Mem e es) (part_sides n) → length (keep (diagonal? n) es) + 3 ≡ n
      unfolding others
      sides_full a = omega (arith, keep_split (diagonal? n) es, ap length others_are, keep_every (λ e. mem? same? e es) a, sides_count)

      pub full_sides : length (keep (diagonal? n) es) + 3 ≤ n → All (λ e. Mem e es) (part_sides n)
      unfolding others
      full_sides h = keep_full (λ e. mem? same? e es) (part_sides n) (omega (arith, keep_split (diagonal? n) es, ap length others_are, sides_count))

-- Removing an ear from a valid polygon gives a valid polygon, and the diagonal between its neighbours was there to be taken (`ear_diagonal`).
-- Removing an ear that was added gives the polygon back (`remove_added`).
use mathlib.Core.Path.{◌≡◌, refl, ap, ap₂, ◌∙◌}
use mathlib.Core.Logic.{◌⊎◌, inl, inr}
use mathlib.Core.List.{List, [], ◌∷◌, map}
use Prim.Native.Nat.{ℕ, zero, suc, ◌+◌, ◌-◌, ◌≤◌, ◌<◌}
use native.Mathlib.Decide.{dec_le, dec_lt, ℕ_discrete}
use native.Mathlib.Omega.{arith}
use lib.ListN.{length, length-map}
use Rattle.lists.specs.Lists.{All, Mem, Sub, choose}
use Rattle.lists.proofs.Lists.{all_both, all_imp, all_map, all_mem, all_of, there}
use Rattle.polygon.specs.Angles.{Angles, none, each, Allowed}
use Rattle.polygon.specs.Polygon.{Edge, ◌—◌, Diagonal, Triangulated, Polygon, Valid}
use Rattle.polygon.specs.Order.{insert, remove}
use Rattle.polygon.specs.Carried.{carried}
use Rattle.polygon.proofs.Angles.{carried_via, carried_self, carried_renamed, allowed_each}
use Rattle.polygon.proofs.Order.{edge, low_of, high_of, remove_all, remove_other, remove_ascending, remove_length, removed, insert_all, insert_mem}
use Rattle.polygon.proofs.Sort.{distinct_of}
use Rattle.polygon.proofs.TreeTheorem.{from_enough}
use Rattle.sheet.specs.Sheet.{held}
use Rattle.edit.specs.Rules.{add_ear, remove_ear, up, down, both, entering, ear_added, neighbours, ear_removed, Away, result, rule}
use Rattle.edit.proofs.Result.{result_valid, result_over}
use Rattle.edit.proofs.Rule.{Takes, given, rule_takes, rule_taken}
use Rattle.edit.proofs.Renumber.{up_is, down_is, down_mono, down_same, down_up, renumbered_ascending, renumbered_free}
use Rattle.edit.proofs.Reading.{entering_joins}
use Rattle.edit.proofs.Enter.{remove_insert}
use Rattle.edit.proofs.Add.{moved_ascending, entering_apart}

-- an edge that is not the pair of k's neighbours
record Other (n k : ℕ) (e : Edge) : Type 0 where
  lowest : k ≡ 0 → e.0 ≡ 1 → suc e.1 ≡ n → ⊥
  highest : suc k ≡ n → e.0 ≡ 0 → suc e.1 ≡ k → ⊥
  middle : suc e.0 ≡ k → e.1 ≡ suc k → e.1 < n → ⊥

other : (n k : ℕ) (e : Edge) → 3 < n → ¬ (e ≡ neighbours n k) → Other n k e
unfolding neighbours choose
other n zero e b f = record { lowest = λ p q r. f (edge q (omega arith)); highest = λ p q r. omega arith; middle = λ p q r. omega arith }
other n (suc k) e b f = go (ℕ_discrete (suc (suc k)) n) f
  where
    go : (d : Dec (suc (suc k) ≡ n)) → ¬ (e ≡ choose d (0 — k) (k — (k + 2))) → Other n (suc k) e
    go (yes p) g = record { lowest = λ p q r. omega arith; highest = λ p q r. g (edge q (omega arith)); middle = λ i q r. omega arith }
    go (no p) g = record { lowest = λ p q r. omega arith; highest = λ i q r. omega arith; middle = λ i q r. g (edge (omega arith) (omega arith)) }

-- where a corner other than k goes
abbrev Goes : ℕ → ℕ → Type 0
Goes k x = ((x < k) × (down k x ≡ x)) ⊎ ((k < x) × (suc (down k x) ≡ x))

goes : (k x : ℕ) → ¬ (x ≡ k) → Goes k x
goes k x f = go (dec_lt k x)
  where
    go : Dec (k < x) → Goes k x
    go (yes p) = inr (p, omega (arith, down_is k x))
    go (no p) = inl (omega arith, omega (arith, down_is k x))

-- a diagonal away from k stays one when the corners above k go down, unless it joins k's neighbours
down_diagonal : (n k : ℕ) (e : Edge) → k < n → Diagonal n e → Away k e → Other n k e → Diagonal (n - 1) (both (down k) e)
unfolding both
down_diagonal n k e h d a o = go (goes k e.0 a.0) (goes k e.1 a.1) (dec_le (e.1 + 3) (e.0 + n)) (dec_le (e.0 + 3) e.1)
  where
    go : Goes k e.0 → Goes k e.1 → Dec (e.1 + 3 ≤ e.0 + n) → Dec (e.0 + 3 ≤ e.1) → Diagonal (n - 1) (down k e.0 — down k e.1)
    go (inl p) (inl q) (yes i) j = omega arith
    go (inl p) (inl q) (no i) j = absurd (o.highest (omega arith) (omega arith) (omega arith))
    go (inl p) (inr q) i (yes j) = omega arith
    go (inl p) (inr q) i (no j) = absurd (o.middle (omega arith) (omega arith) (omega arith))
    go (inr p) (inl q) i j = absurd (omega arith)
    go (inr p) (inr q) (yes i) j = omega arith
    go (inr p) (inr q) (no i) j = absurd (o.lowest (omega arith) (omega arith) (omega arith))

module _ (n k : ℕ) (ds : List Edge) (P : Triangulated n ds) (h : k < n) (b : 3 < n) (a : All (Away k) ds) where
  abbrev pair : Edge
  pair = neighbours n k

  pub remove_triangulated : Triangulated (n - 1) (ear_removed n k ds)
  unfolding ear_removed
  remove_triangulated =
      let A : All (Away k) (remove pair ds) = remove_all pair a in
      let B : All (λ e. Diagonal n e × Away k e) (remove pair ds) = all_both (λ e d c. (d, c)) (remove_all pair P.diagonals) A in
      from_enough (n - 1) _ (omega arith)
      (renumbered_ascending _ (down k) (down_mono k) A (remove_ascending pair P.ascending))
      (all_map _ (all_both (λ e c o. down_diagonal n k e h c.0 c.1 (other n k e b o)) B (remove_other pair ds)))
      (renumbered_free _ (down k) (down_mono k) A (remove_all pair (all_imp (λ p f. remove_all pair f) P.none_cross)))
      (omega (arith, length-map (remove pair ds) (both (down k)), remove_length pair P.ascending, P.full))

  -- n - 4 diagonals are left, so that one has gone
  pair_there : Mem pair ds
  unfolding ear_removed
  pair_there = removed pair ds (omega (arith, remove_triangulated.full, length-map (remove pair ds) (both (down k)), P.full))

pub remove_valid : (p : Polygon) (k : ℕ) → Valid p → Takes (remove_ear k) p → Valid (given (remove_ear k) p)
remove_valid p k A (h, f, a) =
    let b : 3 < p.n = omega (arith, A.least) in
    result_valid p.n _ _ _ p.angles (omega arith) (omega (arith, A.most)) (remove_triangulated p.n k p.ds A.triangulated h b a) A.allowed

pub ear_diagonal : (p : Polygon) (k : ℕ) → Valid p → Takes (remove_ear k) p → Mem (neighbours p.n k) p.ds
ear_diagonal p k A (h, f, a) = pair_there p.n k p.ds A.triangulated h (omega (arith, A.least)) a

-- neither the edge that enters nor one that went up ends at the new corner
entering_away : (n i : ℕ) → Away (suc i) (entering n i)
unfolding entering choose
entering_away n i = go (ℕ_discrete (suc i) n)
  where
    go : (d : Dec (suc i ≡ n)) → Away (suc i) (choose d (0 — i) (i — (i + 2)))
    go (yes p) = omega arith
    go (no p) = omega arith

up_away : (i : ℕ) (e : Edge) → Away (suc i) (both (up i) e)
unfolding both
up_away i e = omega (arith, up_is i e.0, up_is i e.1)

-- up and down again
down_up_edges : (i : ℕ) (ds : List Edge) → map (both (down (suc i))) (map (both (up i)) ds) ≡ ds
unfolding both
down_up_edges i [] = refl
down_up_edges i (e ∷ es) = ap₂ ◌∷◌ (edge (down_up i e.0) (down_up i e.1)) (down_up_edges i es)

module _ (n i : ℕ) (ds : List Edge) (P : Triangulated n ds) (h : i < n) where
  added_away : All (Away (suc i)) (ear_added n i ds)
  unfolding ear_added
  added_away = insert_all (entering n i) (entering_away n i) (all_map _ (all_of ds (λ e m. up_away i e)))

  added_off : ear_removed (suc n) (suc i) (ear_added n i ds) ≡ ds
  unfolding ear_added ear_removed
  added_off = rw (← entering_joins n i, remove_insert (entering n i) (map (both (up i)) ds) (moved_ascending n i ds P h) (all_imp (λ e a. a.other) (entering_apart n i ds P h))) (down_up_edges i ds)

  -- the angles that went up come down again, each with its diagonal
  down_one : (x y : Edge) → Away (suc i) x → Away (suc i) y → both (down (suc i)) x ≡ both (down (suc i)) y → x ≡ y
  unfolding both
  down_one x y a b q = edge (down_same (suc i) x.0 y.0 a.0 b.0 (low_of q)) (down_same (suc i) x.1 y.1 a.1 b.1 (high_of q))

  angles_off : (xs : Angles) → Allowed n xs → carried (map (both (down (suc i))) (ear_added n i ds)) (carried (map (both (up i)) ds) xs (ear_added n i ds)) ds ≡ xs
  unfolding ear_added
  angles_off xs A =
      let F : List Edge = map (both (up i)) ds in
      let Q : List Edge = insert (entering n i) F in
      let sub : Sub F Q = λ e m. insert_mem (entering n i) F e (there m) in
      let away : (e : Edge) → Mem e F → Away (suc i) e = λ e m. all_mem added_away (sub e m) in
      let renamed = carried_renamed (both (down (suc i))) Q F (carried F xs Q) (λ x y m k. down_one x y (all_mem added_away m) (away y k)) in
      let own = carried_self xs (distinct_of (moved_ascending n i ds P h)) (allowed_each n (length F) xs (omega (arith, length-map ds (both (up i)), P.full)) A) in
      rw (down_up_edges i ds) at renamed ∙ (carried_via F Q F xs sub ∙ own)

  result_off : (xs : Angles) → Allowed n xs → result n (map (both (down (suc i))) (ear_added n i ds)) (carried (map (both (up i)) ds) xs (ear_added n i ds)) ds ≡ record { n = n; ds = ds; angles = xs }
  unfolding result choose
  result_off xs A = let e = go (dec_lt 3 n) in λ j. record { n = n; ds = ds; angles = e j }
    where
      bare : (ys : Angles) → Allowed n ys → ¬ (3 < n) → none ≡ ys
      bare none a f = refl
      bare (each vs) a f = absurd (f a.0)

      go : (d : Dec (3 < n)) → choose d (carried (map (both (down (suc i))) (ear_added n i ds)) (carried (map (both (up i)) ds) xs (ear_added n i ds)) ds) none ≡ xs
      go (yes k) = angles_off xs A
      go (no k) = bare xs A k

pub remove_added : (p : Polygon) (i : ℕ) {q : Polygon} → Valid p → rule (add_ear i) p ≡ held q → rule (remove_ear (suc i)) q ≡ held p
remove_added p i A r =
    let ((h, k), g) = rule_taken (add_ear i) p r in
    let P = A.triangulated in
    let added = g ∙ result_over (suc p.n) _ _ p.angles (omega (arith, A.least)) in
    let size : suc p.n - 1 ≡ p.n = omega arith in
    rw added (rule_takes (remove_ear (suc i)) _ (omega arith, omega (arith, A.least), added_away p.n i p.ds P h)
    ∙ ap held (rw (size, added_off p.n i p.ds P h) (result_off p.n i p.ds P h p.angles A.allowed)))

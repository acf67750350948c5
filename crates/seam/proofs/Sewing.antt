-- The bends of both halves, renumbered and merged in the code's tables: they are in order, and their diagonals are the glued ones.
use mathlib.Core.Path.{◌≡◌, refl, ap, ap₂, sym, ◌∙◌}
use mathlib.Core.Bool.{true}
use mathlib.Core.List.{List, [], ◌∷◌, ◌++◌, map, map-append}
use Prim.Native.Nat.{ℕ, ◌+◌, ◌-◌, ◌≤◌}
use native.Mathlib.Omega.{arith}
use borrow.Author.Tests.{lt-ltb}
use lib.ListN.{length, take, length-map}
use Rattle.lists.specs.Lists.{sorted_cons}
use Rattle.lists.proofs.Lists.{all_imp, all_mem, all_of}
use Rattle.polygon.specs.Polygon.{Edge, Ascending, Diagonal, Valid}
use Rattle.polygon.specs.Order.{Distinct, sort}
use Rattle.keys.specs.Keys.{key_of, edge_of, edges_of, key_in, keys_in, flat_bend}
use Rattle.keys.specs.Sort.{ascends, insert_key, sort_keys, merge}
use Rattle.keys.proofs.Insert.{all_sort, length_sort, merge_one, merge_sorts}
use Rattle.keys.proofs.InOrder.{ascends_first, ascends_rest, ascends_same, edge_of_key, edges_ascend, sort_edges}
use Rattle.keys.proofs.Bends.{insert_keys}
use Rattle.keys.proofs.Beside.{bend_edge, bend_edges, mem_edge}
use Rattle.sheet.specs.declared.Head.{Head}
use Rattle.edit.specs.declared.shift.Shift.TheVariants.{Up}
use Rattle.edit.specs.Rules.{both}
use Rattle.edit.specs.Tables.{whole, Movable, AllMovable, moved_bend}
use Rattle.edit.proofs.InHand.{whole_count}
use Rattle.edit.proofs.Shifting.{moved_edges}
use Rattle.seam.specs.Join.{laid, matched, seam, glued_edges}
use Rattle.seam.specs.Halves.{Joins, raised_bend, Raisable, laid_bends, glued_bends}
use Rattle.seam.proofs.Corners.{laid_ascending, matched_ascending}
use Rattle.seam.proofs.Raising.{raised_edges}

-- bends whose diagonals ascend are in order
bends_ascend : (bs : List ℕ) → ascends (keys_in bs) ≡ true → ascends bs ≡ true
unfolding ascends
bends_ascend [] h = refl
bends_ascend (x ∷ []) h = refl
bends_ascend (x ∷ (y ∷ bs)) h = rw (lt-ltb x y (omega (arith, ascends_first (key_in x) (key_in y) (keys_in bs) h))) (bends_ascend (y ∷ bs) (ascends_rest (key_in x) (keys_in (y ∷ bs)) h))

in_order : (bs : List ℕ) → Ascending (bend_edges bs) → sort_keys bs ≡ bs
in_order bs s = ascends_same bs (bends_ascend bs (edges_ascend (keys_in bs) s))

-- of different diagonals the keys are sorted as the bends are
sorted_keys : (bs : List ℕ) → Distinct (bend_edges bs) → keys_in (sort_keys bs) ≡ sort_keys (keys_in bs)
unfolding sort_keys
sorted_keys [] d = refl
sorted_keys (b ∷ bs) (sorted_cons o d) = insert_keys b (all_sort (all_of bs (λ c m e. all_mem o (mem_edge m) (ap edge_of e)))) ∙ ap (insert_key (key_in b)) (sorted_keys bs d)

pub sorted_edges : (bs : List ℕ) → Distinct (bend_edges bs) → bend_edges (sort_keys bs) ≡ sort (bend_edges bs)
sorted_edges bs d = ap edges_of (sorted_keys bs d) ∙ sort_edges (keys_in bs)

edges_append : (xs ys : List ℕ) → bend_edges (xs ++ ys) ≡ bend_edges xs ++ bend_edges ys
edges_append xs ys = ap edges_of (map-append key_in xs ys) ∙ map-append edge_of (keys_in xs) (keys_in ys)

-- The second half, g with the table cs, on side i.
module _ (g : Head) (cs : List ℕ) (Q : Valid (whole g cs)) (i : ℕ) (small : i + g.n ≤ 1024) where
  pub second_raisable : Raisable i cs
  second_raisable = all_imp (λ e d. (omega (arith, d.forth, d.corner), omega (arith, d.corner))) Q.triangulated.diagonals

  second_edges : bend_edges (map (raised_bend i) cs) ≡ map (both (laid i)) (bend_edges cs)
  second_edges = raised_edges i cs second_raisable

  -- the seam's bend merged in
  laid_in_order : merge (flat_bend (key_of (seam g.n i)) ∷ []) (map (raised_bend i) cs) ≡ sort_keys (laid_bends i g.n cs)
  unfolding sort_keys
  laid_in_order =
      let L : List ℕ = map (raised_bend i) cs in
      let s : ℕ = flat_bend (key_of (seam g.n i)) in
      merge_one s L ∙ ap (insert_key s) (sym (in_order L (rw second_edges (laid_ascending i Q.triangulated))))

  -- the table `moved` begins with the renumbered bends, and `after` with them and the seam's, b
  pub laid_done : (moved after : List ℕ) {b : ℕ} → take (length cs) moved ≡ map (raised_bend i) cs → b ≡ flat_bend (key_of (seam g.n i))
      → take (1 + length (take (length cs) moved)) after ≡ merge (b ∷ []) (take (length cs) moved) → take (g.n - 2) after ≡ sort_keys (laid_bends i g.n cs)
  laid_done moved after {b} R e I =
      let k : 1 + length (take (length cs) moved) ≡ g.n - 2 = omega (arith, ap length R, length-map cs (raised_bend i), whole_count g cs Q, Q.least) in
      rw (k, R, e) at I ∙ laid_in_order

  seam_edge : bend_edge (flat_bend (key_of (seam g.n i))) ≡ seam g.n i
  seam_edge =
      let k : key_in (flat_bend (key_of (seam g.n i))) ≡ key_of (seam g.n i) = omega arith in
      ap edge_of k ∙ edge_of_key (seam g.n i) (omega (arith, Q.least))

-- Both halves.
module _ (h g : Head) (bs cs : List ℕ) (P : Valid (whole h bs)) (Q : Valid (whole g cs)) (i : ℕ) (J : Joins i h.n g.n) where
  abbrev glued : List ℕ
  glued = glued_bends i g.n bs cs

  small : i + g.n ≤ 1024
  small = omega (arith, J.0, J.1, Q.least)

  pub first_movable : AllMovable (Up i (g.n - 2)) bs
  first_movable = all_imp rises P.triangulated.diagonals
    where
      rises : (e : Edge) → Diagonal h.n e → Movable (Up i (g.n - 2)) e.0 × Movable (Up i (g.n - 2)) e.1
      rises e d =
          let k : g.n - 2 + h.n ≤ 1024 = omega (arith, J.1, P.least, Q.least) in
          ((omega (arith, d.forth, d.corner), λ l. omega (arith, d.forth, d.corner)), (omega (arith, d.corner), λ l. omega (arith, d.corner)))

  first_edges : bend_edges (map (moved_bend (Up i (g.n - 2))) bs) ≡ map (both (matched g.n i)) (bend_edges bs)
  unfolding matched
  first_edges = moved_edges (Up i (g.n - 2)) bs first_movable

  -- both merged
  glued_in_order : merge (map (moved_bend (Up i (g.n - 2))) bs) (sort_keys (laid_bends i g.n cs)) ≡ sort_keys glued
  glued_in_order =
      let A : List ℕ = map (moved_bend (Up i (g.n - 2))) bs in
      let B : List ℕ = laid_bends i g.n cs in
      ap (λ (l : List ℕ). merge l (sort_keys B)) (sym (in_order A (rw first_edges (matched_ascending g.n i P.triangulated)))) ∙ merge_sorts A B

  -- the tables `moved` and `laid` begin with the renumbered bends, and `after` with all of them
  pub glued_done : (moved laid after : List ℕ) → take (length bs) moved ≡ map (moved_bend (Up i (g.n - 2))) bs
      → take (g.n - 2) laid ≡ sort_keys (laid_bends i g.n cs)
      → take (length (take (length bs) moved) + length (take (g.n - 2) laid)) after ≡ merge (take (length bs) moved) (take (g.n - 2) laid)
      → take (h.n + g.n - 5) after ≡ sort_keys glued
  glued_done moved laid after R L I =
      let a : length (take (length bs) moved) ≡ h.n - 3 = ap length R ∙ (length-map bs (moved_bend (Up i (g.n - 2))) ∙ whole_count h bs P) in
      let c : length (laid_bends i g.n cs) ≡ g.n - 2 = omega (arith, length-map cs (raised_bend i), whole_count g cs Q, Q.least) in
      let b : length (take (g.n - 2) laid) ≡ g.n - 2 = ap length L ∙ (length_sort (laid_bends i g.n cs) ∙ c) in
      let k : length (take (length bs) moved) + length (take (g.n - 2) laid) ≡ h.n + g.n - 5 = omega (arith, a, b, P.least, Q.least) in
      rw (k, R, L) at I ∙ glued_in_order

  pub glued_edges_lem : bend_edges glued ≡ glued_edges i (whole h bs) (whole g cs)
  unfolding glued_edges
  glued_edges_lem =
      edges_append (map (moved_bend (Up i (g.n - 2))) bs) (laid_bends i g.n cs)
      ∙ ap₂ ◌++◌ first_edges (ap₂ ◌∷◌ (seam_edge g cs Q i small) (second_edges g cs Q i small))

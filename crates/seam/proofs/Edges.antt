-- The edges of a joined part, its sides and diagonals, are exactly those of its two halves under their new numbers.
-- The seam, one of its diagonals, is side i of the first half and the root edge of the second.
use mathlib.Core.Path.{◌≡◌, refl}
use mathlib.Core.Logic.{◌⊎◌, inl, inr, ◌↔◌}
use Prim.Native.Nat.{ℕ, suc, ◌+◌, ◌-◌, ◌≤◌, ◌<◌}
use native.Mathlib.Decide.{dec_lt}
use native.Mathlib.Omega.{arith}
use Rattle.lists.specs.Lists.{All, Mem, all_cons}
use Rattle.lists.proofs.Lists.{all_append, all_map, all_mem, all_of, here, mem_left, mem_map, mem_right, there}
use Rattle.polygon.specs.Polygon.{◌—◌, Polygon, Side, Linked}
use Rattle.polygon.proofs.Order.{edge}
use Rattle.polygon.proofs.Sort.{sort_mem, sort_sub}
use Rattle.edit.specs.Rules.{both}
use Rattle.seam.specs.Join.{laid, matched, seam, glued_edges, glue, Image}
use Rattle.seam.proofs.Corners.{matched_stays, matched_moves, firsts}

pub seam_of_both : (m i : ℕ) → 3 ≤ m → (both (matched m i) (i — suc i) ≡ seam m i) × (both (laid i) (0 — (m - 1)) ≡ seam m i)
unfolding both
seam_of_both m i large =
    (edge (matched_stays m i i (omega arith)) (omega (arith, matched_moves m i (suc i) (omega arith))), edge (omega arith) refl)

-- "The seam turns into a diagonal."
pub seam_diagonal : (i : ℕ) (p q : Polygon) → Mem (seam q.n i) (glue i p q).ds
unfolding glue glued_edges
seam_diagonal i p q = sort_mem _ _ (mem_right (firsts i p q) here)

module _ (i : ℕ) (p q : Polygon) (large : 3 ≤ q.n) (below : suc i < p.n) where
  abbrev Glued : ℕ → ℕ → Type 0
  Glued x y = Linked (glue i p q).n (glue i p q).ds x y

  abbrev FromHalf : ℕ → ℕ → Type 0
  FromHalf x y = Image (matched q.n i) p x y ⊎ Image (laid i) q x y

  stays : (x : ℕ) → x ≤ i → matched q.n i x ≡ x
  stays = matched_stays q.n i

  moves : (x : ℕ) → i < x → matched q.n i x ≡ x + (q.n - 2)
  moves = matched_moves q.n i

  -- an edge of a half is one of the joined part
  seam_linked : {x y : ℕ} → x ≡ i → y ≡ i + (q.n - 1) → Glued x y
  seam_linked e k = inr (rw (edge e k) (seam_diagonal i p q))

  first_linked : (a b : ℕ) → Linked p.n p.ds a b → Glued (matched q.n i a) (matched q.n i b)
  unfolding glue glued_edges both
  first_linked a b (inl (inl s)) = go (dec_lt a i) (dec_lt i a)
    where
      go : Dec (a < i) → Dec (i < a) → Glued (matched q.n i a) (matched q.n i b)
      go (yes h) k = inl (inl (omega (arith, stays a (omega arith), stays b (omega arith))))
      go (no h) (yes k) = inl (inl (omega (arith, moves a k, moves b (omega arith))))
      go (no h) (no k) = seam_linked (omega (arith, stays a (omega arith))) (omega (arith, moves b (omega arith)))
  first_linked a b (inl (inr s)) = inl (inr (omega (arith, stays a (omega arith), moves b (omega arith))))
  first_linked a b (inr m) = inr (sort_mem _ _ (mem_left _ (mem_map (both (matched q.n i)) m)))

  second_linked : (a b : ℕ) → Linked q.n q.ds a b → Glued (laid i a) (laid i b)
  unfolding glue glued_edges both
  second_linked a b (inl (inl s)) = inl (inl (omega arith))
  second_linked a b (inl (inr s)) = seam_linked (omega arith) (omega arith)
  second_linked a b (inr m) = inr (sort_mem _ _ (mem_right (firsts i p q) (there (mem_map (both (laid i)) m))))

  -- and it has no other: its sides up to corner i are the first half's, then come the second's, then the first's again
  side_from : (x y : ℕ) → Side (p.n + q.n - 2) x y → FromHalf x y
  side_from x y (inl s) = go (dec_lt x i) (dec_lt (suc x) (i + q.n))
    where
      go : Dec (x < i) → Dec (suc x < i + q.n) → FromHalf x y
      go (yes h) k = inl (x, y, inl (inl (omega arith)), omega (arith, stays x (omega arith)), omega (arith, stays y (omega arith)))
      go (no h) (yes k) = inr (x - i, y - i, inl (inl (omega arith)), omega arith, omega arith)
      go (no h) (no k) =
          let a : ℕ = x - (q.n - 2) in
          inl (a, suc a, inl (inl (omega arith)), omega (arith, moves a (omega arith)), omega (arith, moves (suc a) (omega arith)))
  side_from x y (inr s) =
      let b : ℕ = p.n - 1 in
      inl (0, b, inl (inr (omega arith)), omega (arith, stays 0 (omega arith)), omega (arith, moves b (omega arith)))

  diagonals_from : All (λ e. FromHalf e.0 e.1) (glued_edges i p q)
  unfolding glued_edges both
  diagonals_from =
      all_append
      (all_map _ (all_of p.ds (λ d m. inl (d.0, d.1, inr m, refl, refl))))
      (all_cons
      (inr (0, q.n - 1, inl (inr (omega arith)), omega arith, refl))
      (all_map _ (all_of q.ds (λ d m. inr (d.0, d.1, inr m, refl, refl)))))

  pub glued_edges_are : (x y : ℕ) → Linked (glue i p q).n (glue i p q).ds x y ↔ (Image (matched q.n i) p x y ⊎ Image (laid i) q x y)
  unfolding glue
  glued_edges_are x y = (forth, back)
    where
      forth : Glued x y → FromHalf x y
      forth (inl s) = side_from x y s
      forth (inr m) = all_mem diagonals_from (sort_sub (glued_edges i p q) _ m)

      back : FromHalf x y → Glued x y
      back (inl (a, b, l, e, k)) = rw (e, k) (first_linked a b l)
      back (inr (a, b, l, e, k)) = rw (e, k) (second_linked a b l)

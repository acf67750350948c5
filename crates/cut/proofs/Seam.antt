-- A joined part cut at its seam: the inner part's diagonals are the second half's, the rest's are the first half's.
use mathlib.Core.Path.{◌≡◌, refl}
use mathlib.Core.List.{List}
use Prim.Native.Nat.{ℕ}
use Rattle.lists.specs.Lists.{All, Mem, all_cons, not?}
use Rattle.lists.proofs.Lists.{all_append, all_imp, all_map, all_mem, all_of, keep_mem, keep_sorted, keep_sub, keep_test, mem_left, mem_right, sorted_same, there}
use Rattle.polygon.specs.Polygon.{Edge, Ascending, Polygon, Valid}
use Rattle.polygon.specs.Order.{sort, remove}
use Rattle.polygon.proofs.Order.{one_way, remove_all, remove_ascending, remove_mem, remove_other}
use Rattle.polygon.proofs.Sort.{sort_mem, sort_sub}
use Rattle.seam.specs.Join.{seam, glued_edges, glue}
use Rattle.seam.proofs.Corners.{firsts, seconds, matched_ascending, laid_ascending, seam_not_first, seam_not_second}
use Rattle.cut.specs.Cut.{Beneath, beneath?, inner_edges, rest_edges}
use Rattle.cut.proofs.Corners.{second_beneath, first_beyond}

module _ (i : ℕ) (p q : Polygon) (P : Valid p) (Q : Valid q) (ascending : Ascending (glue i p q).ds) where
  abbrev c : Edge
  c = seam q.n i

  beneath_second : All (Beneath c) (seconds i q)
  beneath_second = all_map _ (all_imp (second_beneath q.n i Q.least) Q.triangulated.diagonals)

  beyond_first : All (λ d. ¬ Beneath c d) (firsts i p q)
  beyond_first = all_map _ (all_imp (first_beyond q.n i Q.least p.n) P.triangulated.diagonals)

  -- a diagonal of the joined part other than the seam
  abbrev From : Edge → Type 0
  From d = ¬ (d ≡ c) → (Beneath c d → Mem d (seconds i q)) × (¬ Beneath c d → Mem d (firsts i p q))

  from : All From (glued_edges i p q)
  unfolding glued_edges
  from =
      all_append
      (all_of _ (λ d m other. (λ h. absurd (all_mem beyond_first m h), λ h. m)))
      (all_cons (λ other. absurd (other refl)) (all_of _ (λ d m other. (λ h. m, λ h. absurd (h (all_mem beneath_second m))))))

  others_from : All From (remove c (glue i p q).ds)
  unfolding glue
  others_from = remove_all c (all_of _ (λ d m. all_mem from (sort_sub (glued_edges i p q) d m)))

  in_others : (d : Edge) → Mem d (glued_edges i p q) → ¬ (d ≡ c) → Mem d (remove c (glue i p q).ds)
  unfolding glue
  in_others d m other = remove_mem c (sort (glued_edges i p q)) (sort_mem _ d m) other

  pub inner_seconds : inner_edges c (glue i p q).ds ≡ seconds i q
  unfolding glued_edges
  inner_seconds =
      let es : List Edge = remove c (glue i p q).ds in
      sorted_same one_way _ _ (keep_sorted (beneath? c) (remove_ascending c ascending)) (laid_ascending i Q.triangulated)
      (λ d m. let k = keep_sub (beneath? c) es d m in (all_mem others_from k (all_mem (remove_other c (glue i p q).ds) k)).0 (all_mem (keep_test (beneath? c) es) m))
      (λ d m. keep_mem (beneath? c) es (in_others d (mem_right (firsts i p q) (there m)) (all_mem (seam_not_second i p q P.triangulated Q.triangulated) m)) (all_mem beneath_second m))

  pub rest_firsts : rest_edges c (glue i p q).ds ≡ firsts i p q
  unfolding glued_edges
  rest_firsts =
      let es : List Edge = remove c (glue i p q).ds in
      let beyond? : (d : Edge) → Dec (¬ Beneath c d) = λ d. not? (beneath? c d) in
      sorted_same one_way _ _ (keep_sorted beyond? (remove_ascending c ascending)) (matched_ascending q.n i P.triangulated)
      (λ d m. let k = keep_sub beyond? es d m in (all_mem others_from k (all_mem (remove_other c (glue i p q).ds) k)).1 (all_mem (keep_test beyond? es) m))
      (λ d m. keep_mem beyond? es (in_others d (mem_left _ m) (all_mem (seam_not_first i p q P.triangulated Q.triangulated) m)) (all_mem beyond_first m))

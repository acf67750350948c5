-- The new numbers of a joined part's corners: they keep the order of each half, and the two halves share the two ends of the seam only.
use mathlib.Core.Path.{◌≡◌, sym}
use mathlib.Core.List.{List, map}
use Prim.Native.Nat.{ℕ, ◌+◌, ◌-◌, ◌≤◌, ◌<◌}
use native.Mathlib.Decide.{dec_lt}
use native.Mathlib.Omega.{arith}
use Rattle.lists.specs.Lists.{All, Mem, all_cons, sorted_cons}
use Rattle.lists.proofs.Lists.{all_imp, all_map, all_mem, all_self, choose_no, choose_yes, sorted_append}
use Rattle.polygon.specs.Polygon.{Edge, Ascending, Diagonal, Polygon, Triangulated}
use Rattle.polygon.specs.Order.{Distinct}
use Rattle.polygon.proofs.Order.{low_of, high_of}
use Rattle.polygon.proofs.Sort.{distinct_of}
use Rattle.edit.specs.Rules.{both}
use Rattle.edit.proofs.Renumber.{BothEnds, renumbered_ascending}
use Rattle.seam.specs.Join.{laid, matched, seam, glued_edges}

module _ (m i x : ℕ) where
  pub matched_stays : x ≤ i → matched m i x ≡ x
  unfolding matched
  matched_stays h = choose_no (dec_lt i x) _ (omega arith)

  pub matched_moves : i < x → matched m i x ≡ x + (m - 2)
  unfolding matched
  matched_moves h = choose_yes (dec_lt i x) _ h

  -- a corner of the first half: it stays and is at most i, or moves to the seam's end or beyond
  pub record Outside : Type 0 where
    pub below : matched m i x ≤ i → matched m i x ≡ x
    pub above : i < matched m i x → (i < x) × (matched m i x ≡ x + (m - 2))

  pub outside : Outside
  outside = go (dec_lt i x)
    where
      go : Dec (i < x) → Outside
      go (yes h) = record { below = λ k. absurd (omega (arith, matched_moves h)); above = λ k. (h, matched_moves h) }
      go (no h) = record { below = λ k. matched_stays (omega arith); above = λ k. absurd (omega (arith, matched_stays (omega arith))) }

pub matched_mono : (m i x y : ℕ) → x < y → matched m i x < matched m i y
matched_mono m i x y h = go (dec_lt i x) (dec_lt i y)
  where
    go : Dec (i < x) → Dec (i < y) → matched m i x < matched m i y
    go (yes p) (yes q) = omega (arith, matched_moves m i x p, matched_moves m i y q)
    go (yes p) (no q) = absurd (omega arith)
    go (no p) (yes q) = omega (arith, matched_stays m i x (omega arith), matched_moves m i y q)
    go (no p) (no q) = omega (arith, matched_stays m i x (omega arith), matched_stays m i y (omega arith))

-- an edge of the first half under its new numbers, and one of the second: diagonals d of n corners and f of m corners
module _ (n m i : ℕ) (large : 3 ≤ m) (d : Edge) (D : Diagonal n d) where
  seam_new_first : ¬ (both (matched m i) d ≡ seam m i)
  unfolding both
  seam_new_first e =
      let a = (outside m i d.0).below (omega (arith, low_of e)) in
      let b = (outside m i d.1).above (omega (arith, high_of e)) in
      omega (arith, low_of e, high_of e, b.1)

  halves_apart : (f : Edge) → Diagonal m f → ¬ (both (matched m i) d ≡ both (laid i) f)
  unfolding both
  halves_apart f F e = go (dec_lt i (matched m i d.0))
    where
      go : Dec (i < matched m i d.0) → ⊥
      go (yes h) = let a = (outside m i d.0).above h in omega (arith, low_of e, a.1)
      go (no h) =
          let a = (outside m i d.0).below (omega arith) in
          let b = (outside m i d.1).above (omega (arith, high_of e)) in
          omega (arith, low_of e, high_of e, b.1)

seam_new_second : (m i : ℕ) → 3 ≤ m → (f : Edge) → Diagonal m f → ¬ (both (laid i) f ≡ seam m i)
unfolding both
seam_new_second m i large f F e = omega (arith, low_of e, high_of e)

-- any corner
ends : {k : ℕ} {es : List Edge} → All (Diagonal k) es → All (BothEnds (λ x. Unit {0})) es
ends a = all_imp (λ e d. (tt, tt)) a

-- both renumberings keep the order of the diagonals
pub matched_ascending : (m i : ℕ) {n : ℕ} {ds : List Edge} → Triangulated n ds → Ascending (map (both (matched m i)) ds)
matched_ascending m i P = renumbered_ascending _ (matched m i) (λ x y a b. matched_mono m i x y) (ends P.diagonals) P.ascending

pub laid_ascending : (i : ℕ) {m : ℕ} {es : List Edge} → Triangulated m es → Ascending (map (both (laid i)) es)
laid_ascending i Q = renumbered_ascending _ (laid i) (λ x y a b h. omega arith) (ends Q.diagonals) Q.ascending

-- The diagonals of the two halves under their new numbers.
abbrev pub firsts : ℕ → Polygon → Polygon → List Edge
firsts i p q = map (both (matched q.n i)) p.ds

abbrev pub seconds : ℕ → Polygon → List Edge
seconds i q = map (both (laid i)) q.ds

module _ (i : ℕ) (p q : Polygon) (P : Triangulated p.n p.ds) (Q : Triangulated q.n q.ds) where
  large : 3 ≤ q.n
  large = omega (arith, Q.full)

  -- "The seam turns into a diagonal": a new one
  pub seam_not_second : All (λ e. ¬ (e ≡ seam q.n i)) (seconds i q)
  seam_not_second = all_map _ (all_imp (λ f F. seam_new_second q.n i large f F) Q.diagonals)

  pub seam_not_first : All (λ e. ¬ (e ≡ seam q.n i)) (firsts i p q)
  seam_not_first = all_map _ (all_imp (λ d D. seam_new_first p.n q.n i large d D) P.diagonals)

  -- no diagonal of the one half is one of the other
  pub halves_differ : All (λ f. All (λ e. ¬ (e ≡ f)) (firsts i p q)) (seconds i q)
  halves_differ = all_map _ (all_imp (λ f F. all_map _ (all_imp (λ d D. halves_apart p.n q.n i large d D f F) P.diagonals)) Q.diagonals)

  -- so all that are listed are different
  pub glued_distinct : Distinct (glued_edges i p q)
  unfolding glued_edges
  glued_distinct =
      sorted_append {P = λ x. Mem x (firsts i p q)} {Q = λ y. All (λ x. ¬ (x ≡ y)) (firsts i p q)}
      (λ x y h k e. all_mem k h (sym e))
      (distinct_of (matched_ascending q.n i P))
      (sorted_cons seam_not_second (distinct_of (laid_ascending i Q)))
      (all_self (firsts i p q))
      (all_cons seam_not_first halves_differ)

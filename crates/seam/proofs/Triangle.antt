-- Joining a triangle on a side other than the root is adding a corner there: the same part, the same refusals and the same bytes.
use mathlib.Core.Path.{◌≡◌, refl, ap, ap₂, sym, ◌∙◌}
use mathlib.Core.Logic.{inl, inr}
use mathlib.Core.List.{List, [], ◌∷◌, ◌++◌, map}
use Prim.Native.Nat.{ℕ, suc, ◌+◌, ◌-◌, ◌<◌}
use native.Mathlib.Decide.{dec_lt, ℕ_discrete}
use native.Mathlib.Numerals.{add-one}
use native.Mathlib.Omega.{arith}
use lib.ListN.{length, length-map}
use Rattle.lists.specs.Lists.{all_cons, all_nil, choose, head}
use Rattle.lists.proofs.Lists.{all_mem, all_of, choose_no, here, map_same, mem_left, mem_right, snoc_cases, there}
use Rattle.polygon.specs.Angles.{Angles, none, each, Allowed}
use Rattle.polygon.specs.Polygon.{Edge, ◌—◌, Polygon, Valid}
use Rattle.polygon.specs.Order.{insert, sort}
use Rattle.polygon.specs.Carried.{carried}
use Rattle.polygon.proofs.Angles.{OneEach, allowed_each, angle_left}
use Rattle.polygon.proofs.Order.{insert_all, insert_mem}
use Rattle.polygon.proofs.Sort.{sort_is}
use Rattle.sheet.specs.Sheet.{Reading, refused, held, read_sheet, outcome}
use Rattle.sheet.proofs.Alike.{ask_alike}
use Rattle.sheet.proofs.Valid.{read_valid}
use Rattle.edit.specs.Rules.{add_ear, up, both, entering, ear_added, rule}
use Rattle.edit.specs.Calls.{on_held, edited}
use Rattle.edit.proofs.Rule.{given}
use Rattle.edit.proofs.Result.{result_over}
use Rattle.edit.proofs.Add.{add_triangulated}
use Rattle.seam.specs.Join.{matched, seam, glued_edges, glued_angles, glue, join_rule, joined_sheets}
use Rattle.seam.proofs.Corners.{glued_distinct}
use Rattle.seam.proofs.Angles.{angle_zero}

-- there is one triangle: no diagonal, and no angles
abbrev triangle : Polygon
triangle = record { n = 3; ds = []; angles = none }

no_edges : (ds : List Edge) → length ds ≡ 0 → ds ≡ []
no_edges [] h = refl
no_edges (d ∷ ds) h = absurd (omega arith)

no_angles : (n : ℕ) (xs : Angles) → n ≡ 3 → Allowed n xs → xs ≡ none
no_angles n none h A = refl
no_angles n (each vs) h A = absurd (omega arith)

is_triangle : (q : Polygon) → Valid q → q.n ≡ 3 → q ≡ triangle
is_triangle q B h =
    let d = no_edges q.ds (omega (arith, B.triangulated.full)) in
    let a = no_angles q.n q.angles h B.allowed in
    λ k. record { n = h k; ds = d k; angles = a k }

-- Laid on side i it moves the corners above i up by one, and its seam is the edge that enters.
matched_up : (i x : ℕ) → matched 3 i x ≡ up i x
unfolding matched up
matched_up i x = ap (λ (y : ℕ). choose (dec_lt i x) y x) (add-one x)

renumbered_up : (i : ℕ) (e : Edge) → both (matched 3 i) e ≡ both (up i) e
unfolding both
renumbered_up i e = ap₂ ◌—◌ (matched_up i e.0) (matched_up i e.1)

seam_enters : (n i : ℕ) → ¬ (suc i ≡ n) → seam 3 i ≡ entering n i
unfolding entering
seam_enters n i h = sym (choose_no (ℕ_discrete (suc i) n) _ h)

-- one pair more, with the angle 0
carried_snoc : (es : List Edge) (x : Edge) (ds cs : List Edge) (xs : Angles) → OneEach (length es) xs →
    carried (es ++ (x ∷ [])) (glued_angles cs xs [] none) ds ≡ carried es xs ds
unfolding carried
carried_snoc es x ds cs none h = refl
carried_snoc es x ds cs (each vs) h =
    ap each (map_same (all_of ds (λ e m. angle_left (x ∷ []) (0 ∷ []) e es vs h (angle_zero (x ∷ []) e (all_cons refl all_nil)))))

module _ (i : ℕ) (p q : Polygon) (A : Valid p) (B : Valid q) (three : q.n ≡ 3) (h : suc i < p.n) where
  -- the diagonals of p under their new numbers, the edge that enters, and all of them, ascending
  abbrev moved : List Edge
  moved = map (both (up i)) p.ds

  abbrev new : Edge
  new = entering p.n i

  abbrev grown : List Edge
  grown = ear_added p.n i p.ds

  glued_list : glued_edges i p q ≡ moved ++ (new ∷ [])
  unfolding glued_edges
  glued_list =
      rw (is_triangle q B three)
      (ap₂ (λ (es : List Edge) (e : Edge). es ++ (e ∷ [])) (map_same (all_of p.ds (λ e m. renumbered_up i e))) (seam_enters p.n i (omega arith)))

  sorted_list : sort (moved ++ (new ∷ [])) ≡ grown
  unfolding ear_added
  sorted_list =
      sort_is _ (insert new moved)
      (rw glued_list at (glued_distinct i p q A.triangulated B.triangulated))
      (add_triangulated p.n i p.ds A.triangulated (omega arith)).ascending
      (λ x m. insert_mem new moved x (elim (snoc_cases moved new m) [ inl k ↦ there k | inr e ↦ head e ]))
      (λ x m. all_mem (insert_all new (mem_right moved here) (all_of moved (λ y k. mem_left (new ∷ []) k))) m)

  one_each : OneEach (length moved) p.angles
  one_each = allowed_each p.n (length moved) p.angles (omega (arith, length-map p.ds (both (up i)), A.triangulated.full)) A.allowed

  glued_angles_lem : (glue i p q).angles ≡ carried moved p.angles grown
  unfolding glue
  glued_angles_lem = rw (glued_list, sorted_list, is_triangle q B three) (carried_snoc moved new grown p.ds p.angles one_each)

  -- The same part.
  pub glue_triangle : glue i p q ≡ given (add_ear i) p
  unfolding glue
  glue_triangle =
      let n : p.n + q.n - 2 ≡ suc p.n = omega arith in
      let d = ap sort glued_list ∙ sorted_list in
      let e : glue i p q ≡ record { n = suc p.n; ds = grown; angles = carried moved p.angles grown } =
      λ k. record { n = n k; ds = d k; angles = glued_angles_lem k } in
      e ∙ sym (result_over (suc p.n) moved grown p.angles (omega (arith, A.least)))

-- The same refusals: 9 for the same sides, the root apart, and 10 for 1,024 corners, since 1,024 + 3 - 2 is more.
pub join_triangle : (i : ℕ) (p q : Polygon) → Valid p → Valid q → q.n ≡ 3 → ¬ (suc i ≡ p.n) → join_rule i p q ≡ rule (add_ear i) p
unfolding join_rule rule
join_triangle i p q A B three other =
    ask_alike 9 _ _ (omega arith)
    (λ h. ask_alike 10 _ _ (omega (arith, A.most)) (λ k. ap held (glue_triangle i p q A B three h)))

-- The same bytes, or the same refusal of the first sheet.
pub joined_triangle : (s t : List ℕ) (i : ℕ) (q : Polygon) → read_sheet t ≡ held q → q.n ≡ 3 → ((p : Polygon) → read_sheet s ≡ held p → ¬ (suc i ≡ p.n)) →
    joined_sheets s t i ≡ edited (add_ear i) s
unfolding joined_sheets edited on_held
joined_triangle s t i q r three other = rw r (ap outcome (go (read_sheet s) refl))
  where
    go : (x : Reading) → read_sheet s ≡ x → on_held x (λ p. join_rule i p q) ≡ on_held x (rule (add_ear i))
    go (refused k) e = refl
    go (held p) e = join_triangle i p q (read_valid s p e) (read_valid t q r) three (other p e)

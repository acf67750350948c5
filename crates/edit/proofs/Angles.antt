-- Request (xi): which diagonal has which angle after an edit, and when a result has angles.
use mathlib.Core.Path.{◌≡◌, refl, ap, ◌∙◌}
use mathlib.Core.Logic.{◌↔◌}
use mathlib.Core.List.{List, map}
use Prim.Native.Nat.{ℕ, suc, ◌-◌, ◌<◌}
use native.Mathlib.Decide.{dec_lt}
use native.Mathlib.Omega.{arith}
use Rattle.lists.specs.Lists.{Mem, choose}
use Rattle.lists.proofs.Lists.{all_mem, here, mem_map, there}
use Rattle.polygon.specs.Angles.{Angles, none, each}
use Rattle.polygon.specs.Polygon.{Edge, Polygon, Valid}
use Rattle.polygon.specs.Order.{insert, remove}
use Rattle.polygon.specs.Carried.{carried, angle_from, angle_at}
use Rattle.polygon.proofs.Angles.{angle_carried, angle_none, angle_moved}
use Rattle.polygon.proofs.Order.{edge, low_of, high_of, insert_mem, remove_mem}
use Rattle.sheet.specs.Sheet.{held, angled}
use Rattle.edit.specs.Rules.{Edit, add_ear, remove_ear, flip, up, down, both, entering, ear_added, neighbours, ear_removed, result, rule}
use Rattle.edit.proofs.Rule.{rule_taken}
use Rattle.edit.proofs.Renumber.{up_same, down_same}
use Rattle.edit.proofs.Result.{result_over}
use Rattle.edit.proofs.Add.{entering_apart}
use Rattle.edit.proofs.Flipped.{over_three}

result_corners : (n : ℕ) (es ds : List Edge) (xs : Angles) → (result n es xs ds).n ≡ n
unfolding result
result_corners n es ds xs = refl

-- q is a result of more than 3 corners: the angle of a diagonal is that of the same pair before, under the new numbers
module _ {q : Polygon} (n : ℕ) (es ds : List Edge) (xs : Angles) (g : q ≡ result n es xs ds) (h : 3 < n) where
  is : q ≡ record { n = n; ds = ds; angles = carried es xs ds }
  is = g ∙ result_over n es ds xs h

  same_diagonals : q.ds ≡ ds
  same_diagonals = ap (λ (x : Polygon). x.ds) is

  kept : (e : Edge) → Mem e ds → angle_at q e ≡ angle_from es xs e
  kept e m = rw is (angle_carried es ds xs e m)

pub turn_angles : (p q : Polygon) (a b : ℕ) → Valid p → rule (flip a b) p ≡ held q → (d : Edge) → Mem d q.ds → angle_at q d ≡ angle_at p d
turn_angles p q a b A r d m =
    let (t, g) = rule_taken (flip a b) p r in
    let h = over_three p.n A.triangulated t.1 in
    kept p.n p.ds _ p.angles g h d (rw (same_diagonals p.n p.ds _ p.angles g h) at m)

pub add_angles : (p q : Polygon) (i : ℕ) → Valid p → rule (add_ear i) p ≡ held q → ((d : Edge) → Mem d p.ds → angle_at q (both (up i) d) ≡ angle_at p d) × (angle_at q (entering p.n i) ≡ 0)
unfolding ear_added both
add_angles p q i A r =
    let ((h, k), g) = rule_taken (add_ear i) p r in
    let es : List Edge = map (both (up i)) p.ds in
    let had = kept (suc p.n) es (insert (entering p.n i) es) p.angles g (omega (arith, A.least)) in
    let new : ¬ Mem (entering p.n i) es = λ m. (all_mem (entering_apart p.n i p.ds A.triangulated h) m).other refl in
    let one : (x y : Edge) → both (up i) x ≡ both (up i) y → x ≡ y = λ x y e. edge (up_same i x.0 y.0 (low_of e)) (up_same i x.1 y.1 (high_of e)) in (
      λ d m. had (both (up i) d) (insert_mem (entering p.n i) es (both (up i) d) (there (mem_map (both (up i)) m))) ∙ angle_moved (both (up i)) p.ds p.angles d (λ x l. one x d),
      had (entering p.n i) (insert_mem (entering p.n i) es (entering p.n i) here) ∙ angle_none es p.angles (entering p.n i) new,
    )

pub off_angles : (p q : Polygon) (k : ℕ) → Valid p → rule (remove_ear k) p ≡ held q → 3 < q.n → (d : Edge) → Mem d p.ds → ¬ (d ≡ neighbours p.n k) → angle_at q (both (down k) d) ≡ angle_at p d
unfolding ear_removed both
off_angles p q k A r h d m f =
    let ((l, t, a), g) = rule_taken (remove_ear k) p r in
    let es : List Edge = map (both (down k)) p.ds in
    let n : q.n ≡ p.n - 1 = ap (λ (x : Polygon). x.n) g ∙ result_corners (p.n - 1) es _ p.angles in
    let had = kept (p.n - 1) es (map (both (down k)) (remove (neighbours p.n k) p.ds)) p.angles g (omega arith) in
    let one : (x : Edge) → Mem x p.ds → both (down k) x ≡ both (down k) d → x ≡ d =
    λ x i e. let u = all_mem a i in let v = all_mem a m in edge (down_same k x.0 d.0 u.0 v.0 (low_of e)) (down_same k x.1 d.1 u.1 v.1 (high_of e)) in
    had (both (down k) d) (mem_map (both (down k)) (remove_mem (neighbours p.n k) p.ds m f)) ∙ angle_moved (both (down k)) p.ds p.angles d one

-- "A result has bit 3 exactly when a sheet it comes from has and its own n is over 3"
over_and_angled : (n : ℕ) (es ds : List Edge) (xs : Angles) → (angled (result n es xs ds).angles ≡ 1) ↔ ((angled xs ≡ 1) × (3 < n))
unfolding result choose carried
over_and_angled n es ds xs = go (dec_lt 3 n) xs
  where
    go : (d : Dec (3 < n)) (ys : Angles) → (angled (choose d (carried es ys ds) none) ≡ 1) ↔ ((angled ys ≡ 1) × (3 < n))
    go (yes h) none = (λ e. absurd (omega arith), λ e. absurd (omega arith))
    go (yes h) (each vs) = (λ e. (refl, h), λ e. refl)
    go (no h) ys = (λ e. absurd (omega arith), λ e. absurd (h e.1))

pub result_angled : (e : Edit) (p q : Polygon) → rule e p ≡ held q → (angled q.angles ≡ 1) ↔ ((angled p.angles ≡ 1) × (3 < q.n))
unfolding result
result_angled (add_ear i) p q r = rw (rule_taken (add_ear i) p r).1 (over_and_angled (suc p.n) _ _ p.angles)
result_angled (remove_ear k) p q r = rw (rule_taken (remove_ear k) p r).1 (over_and_angled (p.n - 1) _ _ p.angles)
result_angled (flip a b) p q r = rw (rule_taken (flip a b) p r).1 (over_and_angled p.n _ _ p.angles)

-- A diagonal of a valid polygon has exactly two common neighbours (`two_common`); flipping it gives a valid polygon; flipping the new diagonal gives the old polygon back, but for a 0 on the diagonal.
use mathlib.Core.Path.{◌≡◌, refl, ap, sym, ◌∙◌}
use mathlib.Core.Logic.{◌⊎◌, inl, inr}
use mathlib.Core.List.{List, [], ◌∷◌, map}
use Prim.Native.Nat.{ℕ, ◌<◌}
use native.Mathlib.Omega.{arith}
use Rattle.lists.specs.Lists.{All, Mem, all_cons, all_nil, choose, head, sorted_cons, sorted_nil, tail}
use Rattle.lists.proofs.Lists.{all_both, all_imp, all_mem, all_of, all_self, choose_no, choose_yes, here, keep_sorted, map_same, not_empty, sorted_same, there}
use Rattle.lists.proofs.Places.{below_sorted}
use Rattle.polygon.specs.Polygon.{Edge, ◌—◌, Cross, Diagonal, Triangulated, Polygon, Valid, Linked, Joined}
use Rattle.polygon.specs.Angles.{Angles, none, each}
use Rattle.polygon.specs.Order.{same?, remove, insert, lower_first}
use Rattle.polygon.specs.Carried.{angle_of, carried}
use Rattle.polygon.proofs.Angles.{angle_given, angle_unlisted}
use Rattle.polygon.proofs.Order.{low_of, high_of, remove_all, remove_other, remove_ascending, remove_length, remove_mem, insert_all, insert_mem}
use Rattle.sheet.specs.Sheet.{held}
use Rattle.sheet.proofs.Normal.{lower_first_same}
use Rattle.edit.specs.Rules.{flip, common, enter, flipped, result, zero_at, flat_at, rule}
use Rattle.edit.proofs.Result.{result_valid, result_over}
use Rattle.edit.proofs.Rule.{Takes, given, rule_takes, rule_taken}
use Rattle.edit.proofs.Reading.{common_reads}
use Rattle.edit.proofs.Enter.{ApartFrom, entered, remove_insert, insert_remove}
use Rattle.edit.proofs.Quad.{Across, turn, across_back, joined_corners, across, only_one, no_third}

-- edges that cross have four different corners; f's lower one first
record Corners (e f : Edge) : Type 0 where
  order : f.0 < f.1
  low_low : ¬ (f.0 ≡ e.0)
  low_high : ¬ (f.0 ≡ e.1)
  high_low : ¬ (f.1 ≡ e.0)
  high_high : ¬ (f.1 ≡ e.1)

corners : {e f : Edge} → Cross e f ⊎ Cross f e → Corners e f
corners (inl x) = omega arith
corners (inr x) = omega arith

module _ (n : ℕ) (ds : List Edge) (P : Triangulated n ds) (e f : Edge) (A : Across n ds e f) where
  K : Corners e f
  K = corners A.crossing

  less : (x y : ℕ) → x < y → y < x → ⊥
  less x y h k = omega arith

  pub common_is : common n ds e ≡ f.0 ∷ (f.1 ∷ [])
  unfolding common
  common_is = sorted_same less _ _ (keep_sorted _ (below_sorted n)) (sorted_cons (all_cons K.order all_nil) (sorted_cons all_nil sorted_nil))
      into
      (λ z m. all_mem two m)
    where
      into : (z : ℕ) → Mem z (common n ds e) → Mem z (f.0 ∷ (f.1 ∷ []))
      into z m = let (h, i, j) = (common_reads n ds e z).0 m in elim (no_third n ds P e f A z i j) [ inl q ↦ head q | inr q ↦ tail (head q) ]

      two : All (λ z. Mem z (common n ds e)) (f.0 ∷ (f.1 ∷ []))
      two = all_cons ((common_reads n ds e f.0).1 ((joined_corners n ds P _ _ A.low_low).1, turn A.low_low, turn A.high_low))
          (all_cons ((common_reads n ds e f.1).1 ((joined_corners n ds P _ _ A.low_high).1, turn A.low_high, turn A.high_high)) all_nil)

  abbrev rest : List Edge
  rest = remove e ds

  pub flipped_is : flipped n e ds ≡ insert f rest
  unfolding flipped enter
  flipped_is = rw common_is

  module _ (m : Mem e ds) where
    pub fresh : ¬ Mem f ds
    fresh k = elim A.crossing [ inl x ↦ all_mem (all_mem P.none_cross m) k x | inr x ↦ all_mem (all_mem P.none_cross k) m x ]

    apart : (g : Edge) → Mem g ds → ¬ (g ≡ e) → ApartFrom f g
    apart g k h = record { other = λ q. fresh (rw q at k); over = λ x. h (only_one n ds P e f A g k (inl x)); under = λ x. h (only_one n ds P e f A g k (inr x)) }

    rest_apart : All (ApartFrom f) rest
    rest_apart = all_both apart (remove_all e (all_self ds)) (remove_other e ds)

    new_diagonal : Diagonal n f
    new_diagonal = go A.crossing (all_mem P.diagonals m) (joined_corners n ds P _ _ A.low_high)
      where
        go : Cross e f ⊎ Cross f e → Diagonal n e → (e.0 < n) × (f.1 < n) × (¬ (e.0 ≡ f.1)) → Diagonal n f
        go (inl x) d j = omega arith
        go (inr x) d j = omega arith

    pub flip_triangulated : Triangulated n (insert f rest)
    flip_triangulated = entered n f rest
        (omega (arith, P.full))
        (omega (arith, remove_length e P.ascending, P.full))
        (remove_ascending e P.ascending)
        (remove_all e P.diagonals)
        (remove_all e (all_imp (λ g k. remove_all e k) P.none_cross))
        new_diagonal
        rest_apart

  -- the quadrilateral is the same afterwards
  linked_stays : (p q : ℕ) → ¬ ((p — q) ≡ e) → Linked n ds p q → Linked n (insert f rest) p q
  linked_stays p q h (inl s) = inl s
  linked_stays p q h (inr k) = inr (insert_mem f rest _ (there (remove_mem e ds k h)))

  joined_stays : (p q : ℕ) → ¬ (q ≡ e.0) → ¬ (q ≡ e.1) → Joined n ds p q → Joined n (insert f rest) p q
  joined_stays p q h k (inl l) = inl (linked_stays p q (λ x. k (high_of x)) l)
  joined_stays p q h k (inr l) = inr (linked_stays q p (λ x. h (low_of x)) l)

  across_stays : Across n (insert f rest) e f
  across_stays = record {
    crossing = A.crossing;
    low_low = joined_stays _ _ K.low_low K.low_high A.low_low;
    low_high = joined_stays _ _ K.high_low K.high_high A.low_high;
    high_low = joined_stays _ _ K.low_low K.low_high A.high_low;
    high_high = joined_stays _ _ K.high_low K.high_high A.high_high;
  }

flipped_back : (n : ℕ) (ds : List Edge) (P : Triangulated n ds) (e f : Edge) (A : Across n ds e f) → Mem e ds → flipped n f (insert f (remove e ds)) ≡ ds
flipped_back n ds P e f A m =
    let B = across_back (across_stays n ds P e f A) in
    let s = remove_ascending e P.ascending in
    flipped_is n (insert f (remove e ds)) (flip_triangulated n ds P e f A m) f e B
    ∙ (ap (insert e) (remove_insert f (remove e ds) s (all_imp (λ g k. k.other) (rest_apart n ds P e f A m))) ∙ insert_remove e ds P.ascending m)

-- for a valid polygon
pub two_common : (p : Polygon) (e : Edge) → Valid p → Mem e p.ds → (x : ℕ) × (y : ℕ) × (x < y) × (common p.n p.ds e ≡ x ∷ (y ∷ []))
two_common p e A m =
    let (f, X) = across p.n p.ds A.triangulated e m in
    (f.0, f.1, (corners X.crossing).order, common_is p.n p.ds A.triangulated e f X)

pub flip_valid : (p : Polygon) (a b : ℕ) → Valid p → Takes (flip a b) p → Valid (given (flip a b) p)
flip_valid p a b A (h, m) =
    let e = lower_first (a, b) in
    let (f, X) = across p.n p.ds A.triangulated e m in
    result_valid p.n p.n _ _ p.angles A.least A.most (rw (flipped_is p.n p.ds A.triangulated e f X) (flip_triangulated p.n p.ds A.triangulated e f X m)) A.allowed

-- a part with a diagonal has more than 3 corners
pub over_three : (n : ℕ) {ds : List Edge} {e : Edge} → Triangulated n ds → Mem e ds → 3 < n
over_three n {ds = []} T m = absurd (not_empty m)
over_three n {ds = d ∷ ds} T m = omega (arith, T.full)

-- to the diagonals after the turn and back, an angle is lost at the turned diagonal only
angles_lost : (ds rest : List Edge) (e : Edge) (xs : Angles) → ¬ Mem e rest → ((d : Edge) → Mem d ds → ¬ (d ≡ e) → Mem d rest) → carried rest (carried ds xs rest) ds ≡ zero_at e ds xs
unfolding carried
angles_lost ds rest e none gone kept = refl
angles_lost ds rest e (each vs) gone kept = ap each (map_same (all_of ds at))
  where
    at : (d : Edge) → Mem d ds → angle_of rest (map (angle_of ds vs) rest) d ≡ choose (same? d e) 0 (angle_of ds vs d)
    at d m = go (same? d e)
      where
        go : Dec (d ≡ e) → angle_of rest (map (angle_of ds vs) rest) d ≡ choose (same? d e) 0 (angle_of ds vs d)
        go (yes q) = angle_unlisted rest (map (angle_of ds vs) rest) d (λ k. gone (rw q at k)) ∙ sym (choose_yes (same? d e) _ q)
        go (no q) = angle_given (angle_of ds vs) rest d (kept d m q) ∙ sym (choose_no (same? d e) _ q)

-- the new diagonal, flipped
flip_again : (p : Polygon) (e f : Edge) → Valid p → Across p.n p.ds e f → Mem e p.ds
    → let q = insert f (remove e p.ds) in rule (flip f.0 f.1) (record { n = p.n; ds = q; angles = carried p.ds p.angles q }) ≡ held (flat_at e p)
flip_again p e f A X m =
    let P = A.triangulated in
    let q : List Edge = insert f (remove e p.ds) in
    let l = lower_first_same f (omega (arith, (corners X.crossing).order)) in
    let k : Mem (lower_first f) q = rw l (insert_mem f (remove e p.ds) f here) in
    let back : flipped p.n (lower_first f) q ≡ p.ds = rw l (flipped_back p.n p.ds P e f X m) in
    let gone : ¬ Mem e q = λ i. all_mem (insert_all f (λ (j : f ≡ e). fresh p.n p.ds P e f X m (rw j m)) (remove_other e p.ds)) i refl in
    let lost = angles_lost p.ds q e p.angles gone (λ d i j. insert_mem f (remove e p.ds) d (there (remove_mem e p.ds i j))) in
    rule_takes (flip f.0 f.1) _ (((joined_corners p.n p.ds P _ _ X.low_low).1, (joined_corners p.n p.ds P _ _ X.low_high).1), k)
    ∙ ap held (ap (result p.n q _) back ∙ (result_over p.n q p.ds _ (over_three p.n P m) ∙ (λ i. record { n = p.n; ds = p.ds; angles = lost i })))

pub flip_back : (p : Polygon) (a b : ℕ) {q : Polygon} → Valid p → rule (flip a b) p ≡ held q
    → (f : Edge) × (q.ds ≡ insert f (remove (lower_first (a, b)) p.ds)) × (¬ Mem f p.ds) × (rule (flip f.0 f.1) q ≡ held (flat_at (lower_first (a, b)) p))
flip_back p a b {q} A r =
    let P = A.triangulated in
    let e = lower_first (a, b) in
    let ((h, m), g) = rule_taken (flip a b) p r in
    let (f, X) = across p.n p.ds P e m in
    let new = flipped_is p.n p.ds P e f X in
    let turned = g ∙ (ap (result p.n p.ds p.angles) new ∙ result_over p.n p.ds _ p.angles (over_three p.n P m)) in
    (f, ap (λ (x : Polygon). x.ds) turned, fresh p.n p.ds P e f X m, ap (rule (flip f.0 f.1)) turned ∙ flip_again p e f A X m)

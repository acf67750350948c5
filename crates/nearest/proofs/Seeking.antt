-- Where a number belongs in a column of a table of spans that climbs, as `partition_point` finds it.
use Rattle.std.proofs.Common.{◌≡◌, true, false, List, map, ℕ, ◌+◌, ◌-◌, ◌≤◌, ◌<◌, length, take, drop, get_or, ltb, ltb-true, ltb-false, length-take, length-drop, sym, subst, ◌∙◌, ap, arith}
use Rattle.std.proofs.Math.ListN.{get_or-map, length-map}
use Rattle.std.proofs.Math.Decide.{dec_lt}
use Rattle.std.proofs.lemmas.List.{get_or-take, get_or-drop}
use Rattle.std.proofs.lemmas.List.Sorted.{IsPartitionedBy-ltb, IsNonDecreasingBy-from_default}
use Rattle.std.specs.List.{take-map, drop-map}
use Rattle.std.specs.List.Sorted.{IsPartitionPoint, IsPartitionedBy}
use Rattle.nearest.specs.declared.Span.{Span}
use Rattle.nearest.specs.Order.{firsts, lasts, corners, Climbs, Cut, Within}

pub climb : (t : List ℕ) → Climbs t → (i j : ℕ) → i ≤ j → j < length t → get_or t i 0 ≤ get_or t j 0
climb t C i j h k = elim (dec_lt i j) [ yes l ↦ C i j l k | no l ↦ (let e : i ≡ j = omega arith in rw e (omega arith)) ]

-- the span that stands for none
abbrev pub blank : Span
blank = record { first = 0; last = 0; corner = 0 }

-- a column of a table, place by place
pub first_at : (t : List Span) (i : ℕ) → get_or (firsts t) i 0 ≡ (get_or t i blank).first
first_at t i = get_or-map (λ (s : Span). s.first) t i blank

pub last_at : (t : List Span) (i : ℕ) → get_or (lasts t) i 0 ≡ (get_or t i blank).last
last_at t i = get_or-map (λ (s : Span). s.last) t i blank

pub corner_at_lem : (t : List Span) (i : ℕ) → get_or (corners t) i 0 ≡ (get_or t i blank).corner
corner_at_lem t i = get_or-map (λ (s : Span). s.corner) t i blank

pub firsts_length : (t : List Span) → length (firsts t) ≡ length t
firsts_length t = length-map t (λ (s : Span). s.first)

pub lasts_length : (t : List Span) → length (lasts t) ≡ length t
lasts_length t = length-map t (λ (s : Span). s.last)

pub corners_length : (t : List Span) → length (corners t) ≡ length t
corners_length t = length-map t (λ (s : Span). s.corner)

-- what `partition_point` asks of a column that climbs, and what it finds there
module _ (f : Span → ℕ) (none : f blank ≡ 0) (t : List Span) where
  at : (i : ℕ) → get_or (map f t) i 0 ≡ f (get_or t i blank)
  at i = rw none at (get_or-map f t i blank)

  pub climbs_parts : (x : ℕ) → Climbs (map f t) → IsPartitionedBy (λ (s : Span). ltb (f s) x) t
  climbs_parts x C = IsPartitionedBy-ltb f t x (IsNonDecreasingBy-from_default f t blank (λ i j h k. rw (at i, at j) at (climb (map f t) C i j h (omega (arith, length-map t f)))))

  pub point_cut : (x r : ℕ) → r ≤ length t → IsPartitionPoint (λ (s : Span). ltb (f s) x ≡ true) (λ (s : Span). ltb (f s) x ≡ false) t r → Cut (map f t) x r
  point_cut x r upto P = record {
    upto = omega (arith, length-map t f);
    under = λ i h. rw (at i) (ltb-true _ _ (P.0 i blank (omega arith) h));
    rest = λ i h k. rw (at i) (ltb-false _ _ (P.1 i blank h (omega (arith, length-map t f))));
  }

-- a part of a table that climbs; a number that belongs there belongs in the table
part_at : (t : List ℕ) (from to i : ℕ) → from + i < to → get_or (take (to - from) (drop from t)) i 0 ≡ get_or t (from + i) 0
part_at t from to i h = let k : i < to - from = omega arith in rw (get_or-take (to - from) (drop from t) i 0 k) (get_or-drop from t i 0)

part_length : (t : List ℕ) (from to : ℕ) → from ≤ to → to ≤ length t → from + length (take (to - from) (drop from t)) ≡ to
part_length t from to h k = omega (arith, length-take (to - from) (drop from t), length-drop from t)

module _ (t : List ℕ) (from to : ℕ) (h : from ≤ to) (k : to ≤ length t) where
  part_climbs_of : Climbs t → Climbs (take (to - from) (drop from t))
  part_climbs_of C i j l m =
      let n = part_length t from to h k in
      rw (part_at t from to i (omega (arith, n)), part_at t from to j (omega (arith, n))) (C (from + i) (from + j) (omega arith) (omega (arith, n)))

  part_cut_of : (x r : ℕ) → Within t x from to → Cut (take (to - from) (drop from t)) x r → Cut t x (from + r)
  part_cut_of x r W C =
      let n = part_length t from to h k in record {
        upto = omega (arith, n, C.upto);
        under = λ i l. elim (dec_lt i from) [
          | yes b ↦ W.under i b
          | no b ↦ (let e : from + (i - from) ≡ i = omega arith in rw e at (rw (part_at t from to (i - from) (omega (arith, n, C.upto))) at (C.under (i - from) (omega arith))))
        ];
        rest = λ i l m. elim (dec_lt i to) [
          | yes b ↦ (let e : from + (i - from) ≡ i = omega arith in rw e at (rw (part_at t from to (i - from) (omega arith)) at (C.rest (i - from) (omega arith) (omega (arith, n)))))
          | no b ↦ W.rest i (omega arith) m
        ];
      }

module _ (f : Span → ℕ) (t : List Span) (from to : ℕ) (h : from ≤ to) (k : to ≤ length (map f t)) where
  part_map : map f (take (to - from) (drop from t)) ≡ take (to - from) (drop from (map f t))
  part_map = sym (take-map f (to - from) (drop from t)) ∙ ap (take (to - from)) (sym (drop-map f from t))

  pub part_climbs : Climbs (map f t) → Climbs (map f (take (to - from) (drop from t)))
  part_climbs C = subst Climbs (sym part_map) (part_climbs_of (map f t) from to h k C)

  pub part_cut : (x r : ℕ) → Within (map f t) x from to → Cut (map f (take (to - from) (drop from t))) x r → Cut (map f t) x (from + r)
  part_cut x r W C = part_cut_of (map f t) from to h k x r W (subst (λ (l : List ℕ). Cut l x r) part_map C)

-- The strokes from left to right have the same members as the chart's strokes, and ascend by where they stand; and since a chart has its strokes ascending, they tell its list of strokes.
-- Rests on the laws of lists (crate lists) and of edges (crate polygon).
use mathlib.Core.Path.{◌≡◌}
use mathlib.Core.Logic.{◌⊎◌, inl, inr}
use mathlib.Core.List.{List, [], ◌∷◌, map}
use Prim.Native.Nat.{◌≤◌}
use native.Mathlib.Decide.{dec_le}
use native.Mathlib.Nat.{le_trans}
use native.Mathlib.Omega.{arith}
use Rattle.lists.specs.Lists.{All, Mem, Sorted, Sub, all_cons, all_nil, choose, head, sorted_cons, sorted_nil, tail}
use Rattle.lists.proofs.Lists.{all_imp, all_mem, all_of, sorted_same, mem_map}
use Rattle.polygon.specs.Polygon.{Before, Ascending}
use Rattle.polygon.proofs.Order.{one_way}
use Rattle.chart.specs.Chart.{Stroke, stroke_edge, Chart}
use Rattle.chart_text.specs.Text.{standing, insert_stroke, left_to_right}

-- one of two lists
module _ {A P : Type 0} {x : A} where
  choose_has : (d : Dec P) {xs ys : List A} → Mem x xs → Mem x ys → Mem x (choose d xs ys)
  unfolding choose
  choose_has (yes p) m k = m
  choose_has (no p) m k = k

  choose_only : (d : Dec P) {xs ys : List A} → Mem x (choose d xs ys) → Mem x xs ⊎ Mem x ys
  unfolding choose
  choose_only (yes p) m = inl m
  choose_only (no p) m = inr m

module _ (c : Chart) where
  -- a stroke entered: it and the others, and no more
  enter_has : (s : Stroke) (ts : List Stroke) → Sub (s ∷ ts) (insert_stroke c s ts)
  unfolding insert_stroke
  enter_has s [] x m = m
  enter_has s (t ∷ ts) x m = choose_has (dec_le (standing c s) (standing c t)) m (later m (enter_has s ts x))
    where
      later : Mem x (s ∷ (t ∷ ts)) → (Mem x (s ∷ ts) → Mem x (insert_stroke c s ts)) → Mem x (t ∷ insert_stroke c s ts)
      later (head e) f = tail (f (head e))
      later (tail (head e)) f = head e
      later (tail (tail k)) f = tail (f (tail k))

  enter_only : (s : Stroke) (ts : List Stroke) → Sub (insert_stroke c s ts) (s ∷ ts)
  unfolding insert_stroke
  enter_only s [] x m = m
  enter_only s (t ∷ ts) x m = go (choose_only (dec_le (standing c s) (standing c t)) m) (enter_only s ts x)
    where
      past : Mem x (s ∷ ts) → Mem x (s ∷ (t ∷ ts))
      past (head e) = head e
      past (tail k) = tail (tail k)

      go : Mem x (s ∷ (t ∷ ts)) ⊎ Mem x (t ∷ insert_stroke c s ts) → (Mem x (insert_stroke c s ts) → Mem x (s ∷ ts)) → Mem x (s ∷ (t ∷ ts))
      go (inl k) f = k
      go (inr (head e)) f = tail (head e)
      go (inr (tail k)) f = past (f k)

  -- all strokes, and no other
  order_has : (ss : List Stroke) → Sub ss (left_to_right c ss)
  unfolding left_to_right
  order_has [] x x3 = elim x3 [ ]
  order_has (s ∷ ss) x (head e) = enter_has s (left_to_right c ss) x (head e)
  order_has (s ∷ ss) x (tail m) = enter_has s (left_to_right c ss) x (tail (order_has ss x m))

  order_only : (ss : List Stroke) → Sub (left_to_right c ss) ss
  unfolding left_to_right
  order_only [] x m = m
  order_only (s ∷ ss) x m = go (enter_only s (left_to_right c ss) x m) (order_only ss x)
    where
      go : Mem x (s ∷ left_to_right c ss) → (Mem x (left_to_right c ss) → Mem x ss) → Mem x (s ∷ ss)
      go (head e) f = head e
      go (tail k) f = tail (f k)

  -- they ascend by where they stand
  abbrev NoLater : Stroke → Stroke → Type 0
  NoLater s t = standing c s ≤ standing c t

  enter_sorted : (s : Stroke) {ts : List Stroke} → Sorted NoLater ts → Sorted NoLater (insert_stroke c s ts)
  unfolding insert_stroke choose
  enter_sorted s sorted_nil = sorted_cons all_nil sorted_nil
  enter_sorted s (sorted_cons {x = t} {xs = ts} a o) = go (dec_le (standing c s) (standing c t)) (enter_sorted s o)
    where
      others : NoLater t s → All (NoLater t) (insert_stroke c s ts)
      others h = all_of (insert_stroke c s ts) (λ x m. all_mem (all_cons h a) (enter_only s ts x m))

      go : (d : Dec (NoLater s t)) → Sorted NoLater (insert_stroke c s ts) → Sorted NoLater (choose d (s ∷ (t ∷ ts)) (t ∷ insert_stroke c s ts))
      go (yes p) i = sorted_cons (all_cons p (all_imp (λ x h. le_trans p h) a)) (sorted_cons a o)
      go (no p) i = sorted_cons (others (omega arith)) i

  pub order_sorted : (ss : List Stroke) → Sorted NoLater (left_to_right c ss)
  unfolding left_to_right
  order_sorted [] = sorted_nil
  order_sorted (s ∷ ss) = enter_sorted s (order_sorted ss)

  -- what holds of all strokes
  pub order_all : {Q : Stroke → Type 0} {ss : List Stroke} → All Q ss → All Q (left_to_right c ss)
  order_all {ss = ss} a = all_of (left_to_right c ss) (λ s m. all_mem a (order_only ss s m))

-- strokes by their edges
Earlier : Stroke → Stroke → Type 0
Earlier s t = Before (stroke_edge s) (stroke_edge t)

by_edges : (ss : List Stroke) → Ascending (map stroke_edge ss) → Sorted Earlier ss
unfolding Earlier
by_edges [] s = sorted_nil
by_edges (s ∷ ss) (sorted_cons a o) = sorted_cons (all_of ss (λ x m. all_mem a (mem_map stroke_edge m))) (by_edges ss o)

-- ascending strokes that are the same from left to right are the same
pub order_tells : (c d : Chart) (ss ts : List Stroke) → Ascending (map stroke_edge ss) → Ascending (map stroke_edge ts) → left_to_right c ss ≡ left_to_right d ts → ss ≡ ts
unfolding Earlier
order_tells c d ss ts a b e = sorted_same {R = Earlier} (λ x y. one_way (stroke_edge x) (stroke_edge y)) ss ts (by_edges ss a) (by_edges ts b)
    (λ x m. order_only d ts x (rw e at (order_has c ss x m)))
    (λ x m. order_only c ss x (rw (← e) at (order_has d ts x m)))

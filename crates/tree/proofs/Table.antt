-- All edges of a part's tree ascending, with the last edge of each corner, show the tree.
-- Rests on the places of the edges of a piece in that list (Edges.antt of the crate polygon): those at its lower corner, and those at the corners inside.
use mathlib.Core.Path.{◌≡◌, refl, sym, ◌∙◌, ap, subst}
use mathlib.Core.List.{List, [], ◌∷◌, ◌++◌}
use Prim.Native.Nat.{ℕ, suc, ◌+◌, ◌-◌, ◌≤◌, ◌<◌}
use native.Mathlib.Decide.{dec_lt}
use native.Mathlib.Nat.{zero-add}
use native.Mathlib.Omega.{arith}
use lib.ListN.{length, get_or, length-append, get_or-append}
use lib.Seq.{get_or-append-add}
use Rattle.lists.specs.Lists.{All}
use Rattle.lists.proofs.Lists.{all_imp}
use Rattle.lists.proofs.Places.{at_all}
use Rattle.polygon.specs.Polygon.{Edge, ◌—◌}
use Rattle.polygon.specs.Edges.{edges_at, edges_past, edges}
use Rattle.polygon.specs.Tree.{Tree, leaf, node, span, chords_at}
use Rattle.polygon.proofs.Order.{low_of, high_of}
use Rattle.polygon.proofs.Chords.{span_pos}
use Rattle.polygon.proofs.Edges.{at_in, past_in}
use Rattle.tree.specs.Table.{edge_at, apex_at, right_edge, TreeAt, side, triangle, Lasts}
use Rattle.tree.proofs.Pieces.{at_edge}

abbrev none : Edge
none = 0 — 0

module _ (m : ℕ) (tr : List ℕ) (most : m ≤ 2045) (lasts : Lasts m tr) where
  -- the edges xs stand from place p on
  record Stands (p : ℕ) (xs : List Edge) : Type 0 where
    upto : p + length xs ≤ m
    here : (i : ℕ) → i < length xs → edge_at tr (p + i) ≡ get_or xs i none

  -- from place q on all edges have a lower corner from v on
  abbrev From : ℕ → ℕ → Type 0
  From q v = (i : ℕ) → q ≤ i → i < m → v ≤ (edge_at tr i).0

  front : (p : ℕ) (xs ys : List Edge) → Stands p (xs ++ ys) → Stands p xs
  front p xs ys s = record { upto = omega (arith, s.upto, length-append xs ys); here = λ i h. s.here i (omega (arith, length-append xs ys)) ∙ get_or-append xs ys none i h }

  back : (p : ℕ) (xs ys : List Edge) → Stands p (xs ++ ys) → Stands (p + length xs) ys
  back p xs ys s = record {
    upto = omega (arith, s.upto, length-append xs ys);
    here = λ i h.
        let e : p + length xs + i ≡ p + (length xs + i) = omega arith in
        ap (edge_at tr) e ∙ (s.here (length xs + i) (omega (arith, length-append xs ys)) ∙ get_or-append-add xs ys i none);
  }

  -- edges that stand from p on and have a lower corner from v on, and those from behind them on
  on : {p v : ℕ} (xs : List Edge) → Stands p xs → All (λ e. v ≤ e.0) xs → From (p + length xs) v → From p v
  on {p} {v} xs s a f i h k = go (dec_lt i (p + length xs))
    where
      go : Dec (i < p + length xs) → v ≤ (edge_at tr i).0
      go (yes l) =
          let e : p + (i - p) ≡ i = omega arith in
          let b : edge_at tr (p + (i - p)) ≡ get_or xs (i - p) none = s.here (i - p) (omega arith) in
          omega (arith, low_of (ap (edge_at tr) (sym e) ∙ b), at_all none a (i - p) (omega arith))
      go (no l) = f i (omega arith) k

  -- the place of the root edge of a piece whose edges at its lower corner stand from p on
  abbrev root : ℕ → ℕ → Tree → ℕ
  root p u t = p + length (edges_at u t) - 1

  some : (u : ℕ) (t : Tree) → 1 ≤ length (edges_at u t)
  unfolding edges_at
  some u t = omega arith

  one_more : (u : ℕ) (l r : Tree) → length (edges_at u (node l r)) ≡ length (edges_at u l) + 1
  unfolding edges_at chords_at
  one_more u l r = length-append (edges_at u l) ((u — (u + (span l + span r))) ∷ [])

  made : {e u v c j : ℕ} {l r : Tree} → 1 ≤ e → e < 2045 → v < 1024 → edge_at tr e ≡ u — v → apex_at tr e ≡ c → get_or tr (2048 + c) 0 ≡ j → TreeAt tr (e - 1) u c l → TreeAt tr j c v r → TreeAt tr e u v (node l r)
  made {e} {v = v} {l = l} {r = r} a b k q p o x y =
      let o' : right_edge tr e ≡ _ = ap (λ (i : ℕ). get_or tr (2048 + i) 0) p ∙ o in
      triangle {l = l} {r = r} a b k q (rw p x) (rw (o', p) y)

  -- the last edge of a corner at which all edges of a piece stand
  last_edge : (c p : ℕ) (t : Tree) → Stands p (edges_at c t) → (edge_at tr (root p c t)).0 ≡ c → From (p + length (edges_at c t)) (suc c) → get_or tr (2048 + c) 0 ≡ root p c t
  last_edge c p t s e f =
      let k : root p c t < m = omega (arith, s.upto, some c t) in
      subst (λ (x : ℕ). get_or tr (2048 + x) 0 ≡ root p c t) e (lasts (root p c t) k (λ i h j q. omega (arith, q, e, f i (omega arith) j)))

  shows : (t : Tree) (u p q : ℕ) → u + span t < 1024 → Stands p (edges_at u t) → Stands q (edges_past u t) → From (q + length (edges_past u t)) (u + span t) → TreeAt tr (root p u t) u (u + span t) t
  unfolding edges_at edges_past chords_at span
  shows leaf u p q k s z f =
      let e : p + 1 - 1 ≡ p + 0 = omega arith in
      let g : edge_at tr (p + 1 - 1) ≡ u — suc u = ap (edge_at tr) e ∙ s.here 0 (omega arith) in
      side {e = p + 1 - 1} {u = u} (omega (arith, s.upto)) k refl (g ∙ ap (λ x. u — x) (omega arith))
  shows (node l r) u p q k s z f =
      let c : ℕ = u + span l in
      let v : ℕ = u + (span l + span r) in
      let i : c + span r ≡ v = omega arith in
      let pr : ℕ = q + length (edges_past u l) in
      let qr : ℕ = pr + length (edges_at c r) in
      let rest = back q (edges_past u l) (edges_at c r ++ edges_past c r) z in
      let at_r = front pr (edges_at c r) (edges_past c r) rest in
      let past_r = back pr (edges_at c r) (edges_past c r) rest in
      let size : length (edges_past u l ++ (edges_at c r ++ edges_past c r)) ≡ length (edges_past u l) + (length (edges_at c r) + length (edges_past c r)) = length-append (edges_past u l) _ ∙ ap (length (edges_past u l) +◌) (length-append (edges_at c r) (edges_past c r)) in
      let beyond_r : From (qr + length (edges_past c r)) v = λ x h. f x (omega (arith, size)) in
      let past_c : From qr (suc c) = on (edges_past c r) past_r (all_imp (λ e h. omega arith) (past_in c r)) (λ x h j. omega (arith, beyond_r x h j, span_pos r)) in
      let from_c : From pr c = on (edges_at c r) at_r (all_imp (λ e h. omega arith) (at_in c r)) (λ x h j. omega (arith, past_c x h j)) in
      let x = shows l u p q (omega (arith, span_pos r)) (front p (edges_at u l) _ s) (front q (edges_past u l) _ z) from_c in
      let y = shows r c pr qr (omega arith) at_r past_r (rw i beyond_r) in
      let top = back p (edges_at u l) ((u — v) ∷ []) s in
      let e : p + length (edges_at u (node l r)) - 1 ≡ p + length (edges_at u l) + 0 = omega (arith, one_more u l r, some u l) in
      let e' : p + length (edges_at u (node l r)) - 1 - 1 ≡ root p u l = omega (arith, one_more u l r, some u l) in
      made (omega (arith, some u l, one_more u l r)) (omega (arith, top.upto, some u l, one_more u l r)) k (ap (edge_at tr) e ∙ top.here 0 (omega arith)) (ap (λ (j : ℕ). (edge_at tr j).1) e' ∙ high_of (at_edge x))
      (last_edge c pr r at_r (low_of (at_edge y)) past_c) (rw e' x) (rw (← i) y)

  -- the tree of a whole part
  pub shows_all : (t : Tree) → span t < 1024 → length (edges 0 t) ≡ m → ((i : ℕ) → i < length (edges 0 t) → edge_at tr i ≡ get_or (edges 0 t) i none) → TreeAt tr (get_or tr 2048 0) 0 (0 + span t) t
  unfolding edges
  shows_all t k size f =
      let s : Stands 0 (edges_at 0 t ++ edges_past 0 t) = record { upto = omega arith; here = λ i h. ap (edge_at tr) (zero-add i) ∙ f i h } in
      let q : ℕ = 0 + length (edges_at 0 t) in
      let at_zero = front 0 (edges_at 0 t) (edges_past 0 t) s in
      let past = back 0 (edges_at 0 t) (edges_past 0 t) s in
      let none_behind : (v : ℕ) → From (q + length (edges_past 0 t)) v = λ v i h j. absurd (omega (arith, size, length-append (edges_at 0 t) (edges_past 0 t))) in
      let x = shows t 0 0 q (omega arith) at_zero past (none_behind _) in
      let e = last_edge 0 0 t at_zero (low_of (at_edge x)) (on (edges_past 0 t) past (all_imp (λ e h. omega arith) (past_in 0 t)) (none_behind _)) in
      rw e x

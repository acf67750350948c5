-- A diagonal turned in the code's table: it is taken out, and the pair of its ends' two common neighbours put in.
use mathlib.Core.Path.{◌≡◌, refl, ap, sym, ◌∙◌}
use mathlib.Core.Logic.{◌⊎◌, inl, inr}
use Rattle.std.proofs.Common.{Option, None, Some}
use mathlib.Core.List.{List, [], ◌∷◌}
use Prim.Native.Nat.{ℕ, ◌+◌, ◌-◌, ◌≤◌, ◌<◌}
use native.Mathlib.Decide.{dec_lt}
use native.Mathlib.Omega.{arith}
use lib.ListN.{length, take}
use Rattle.lists.specs.Lists.{Mem, Sorted, all_cons, head, sorted_cons, tail}
use Rattle.lists.proofs.Lists.{all_imp, all_mem, all_of, all_self, here, keep_sorted, not_empty, there}
use Rattle.lists.proofs.Places.{below_sorted}
use Rattle.polygon.specs.Polygon.{Edge, ◌—◌, Polygon, Valid}
use Rattle.polygon.specs.Order.{insert, remove, lower_first}
use Rattle.polygon.proofs.Order.{remove_all}
use Rattle.polygon.proofs.Sort.{distinct_of}
use Rattle.keys.specs.Keys.{key_of, edge_of, edges_of, flat_bend}
use Rattle.keys.specs.Sort.{insert_key, merge}
use Rattle.keys.proofs.InOrder.{edge_of_key}
use Rattle.keys.proofs.Insert.{merge_one}
use Rattle.keys.proofs.Removal.{edges_mem, mem_edges}
use Rattle.keys.proofs.Beside.{bend_edges}
use Rattle.sheet.specs.declared.Head.{Head}
use Rattle.sheet.specs.Sheet.{refused}
use Rattle.sheet.specs.Hand.{angles_by, part_of}
use Rattle.sheet.proofs.Asks.{ask_yes, ask_no}
use Rattle.sheet.proofs.Normal.{lower_first_same}
use Rattle.edit.specs.Rules.{flip, rule, common, flipped, result}
use Rattle.edit.specs.Tables.{Near, InBoth, Common, Whole}
use Rattle.edit.proofs.Reading.{common_reads}
use Rattle.edit.proofs.Quad.{across, joined_corners}
use Rattle.edit.proofs.Flipped.{common_is, flipped_is, fresh}
use Rattle.edit.proofs.InHand.{Gives, edited, result_part, keeps_angles, inserted, new_comes, Without}

-- two tables of near corners, and the first and second corner marked in both
module _ (n a b : ℕ) (ds : List Edge) (p q : List ℕ) (A : Near n ds a p) (B : Near n ds b q) (x y : ℕ) (two : common n ds (a — b) ≡ x ∷ (y ∷ [])) where
  both_marked : (z : ℕ) → z < n → InBoth p q z → (z ≡ x) ⊎ (z ≡ y)
  both_marked z h (i, j) = go (rw two at ((common_reads n ds (a — b) z).1 (h, A.joined z h i, B.joined z h j)))
    where
      go : Mem z (x ∷ (y ∷ [])) → (z ≡ x) ⊎ (z ≡ y)
      go (head e) = inl e
      go (tail (head e)) = inr e
      go (tail (tail m)) = absurd (not_empty m)

  marked : (z : ℕ) → Mem z (x ∷ (y ∷ [])) → (z < n) × InBoth p q z
  marked z m = let (h, i, j) = (common_reads n ds (a — b) z).0 (rw two m) in (h, (A.marked z h i, B.marked z h j))

  common_sorted : Sorted ◌<◌ (common n ds (a — b))
  unfolding common
  common_sorted = keep_sorted _ (below_sorted n)

  ordered : x < y
  ordered = go (rw two at common_sorted)
    where
      go : Sorted ◌<◌ (x ∷ (y ∷ [])) → x < y
      go (sorted_cons (all_cons h k) s) = h

  -- the first corner that is found is x, and the next one y
  found : (from : ℕ) (r : Option ℕ) (z : ℕ) → Mem z (x ∷ (y ∷ [])) → from ≤ z → Common p q from n r → (i : ℕ) × (r ≡ Some i) × (from ≤ i) × (i ≤ z) × ((i ≡ x) ⊎ (i ≡ y))
  found from None z m h C = absurd (C z h (marked z m).0 (marked z m).1)
  found from (Some i) z m h (low, inside, both, before) = (i, refl, low, go (dec_lt z i), both_marked i inside both)
    where
      go : Dec (z < i) → i ≤ z
      go (yes l) = absurd (before z h l (marked z m).1)
      go (no l) = omega arith

  pub first_found : (r : Option ℕ) → Common p q 0 n r → r ≡ Some x
  first_found r C = go (found 0 r x here (omega arith) C)
    where
      go : (i : ℕ) × (r ≡ Some i) × (0 ≤ i) × (i ≤ x) × ((i ≡ x) ⊎ (i ≡ y)) → r ≡ Some x
      go (i, s, o, l, inl e) = s ∙ ap (λ (j : ℕ). Some j) e
      go (i, s, o, l, inr e) = absurd (omega (arith, ordered))

  pub second_found : (r : Option ℕ) → Common p q (x + 1) n r → r ≡ Some y
  second_found r C = go (found (x + 1) r y (there here) (omega (arith, ordered)) C)
    where
      go : (i : ℕ) × (r ≡ Some i) × (x + 1 ≤ i) × (i ≤ y) × ((i ≡ x) ⊎ (i ≡ y)) → r ≡ Some y
      go (i, s, o, l, inl e) = absurd (omega arith)
      go (i, s, o, l, inr e) = s ∙ ap (λ (j : ℕ). Some j) e

module _ (p : Polygon) (a b : ℕ) where
  pub turn_outside : ¬ ((a < p.n) × (b < p.n)) → rule (flip a b) p ≡ refused 9
  unfolding rule
  turn_outside f = ask_no 9 _ _ f

  module _ (V : Valid p) (up : a ≤ b) (inside : b < p.n) {k : ℕ} (K : k ≡ key_of (a — b)) (ks : List ℕ) (same : edges_of ks ≡ p.ds) where
    edge_k : edge_of k ≡ a — b
    edge_k = ap edge_of K ∙ edge_of_key (a — b) (omega (arith, V.most))

    -- it is a diagonal exactly if its key is there
    pub has_diagonal : Mem k ks → Mem (a — b) p.ds
    has_diagonal M = rw (edge_k, same) at (mem_edges k ks M)

    pub lacks_diagonal : ¬ Mem k ks → ¬ Mem (lower_first (a, b)) p.ds
    lacks_diagonal f m = f (edges_mem k ks (rw (edge_k, ← lower_first_same (a — b) up, same) m))

    pub turn_lacks : ¬ Mem k ks → rule (flip a b) p ≡ refused 13
    unfolding rule
    turn_lacks f = ask_yes 9 _ _ (omega arith, inside) ∙ ask_no 13 _ _ (lacks_diagonal f)

  -- two corners are joined to both its ends
  pub two_corners : Valid p → Mem (a — b) p.ds → (f : Edge) × (common p.n p.ds (a — b) ≡ f.0 ∷ (f.1 ∷ []))
  two_corners V m = let (f, A) = across p.n p.ds V.triangulated (a — b) m in (f, common_is p.n p.ds V.triangulated (a — b) f A)

module _ {p : Polygon} {h : Head} {bs : List ℕ} (H : Whole p h bs) (a b : ℕ) where
  pub flipped_over : a ≤ b → b < h.n → {rest : List ℕ} → Without h bs (a — b) rest → {other turned : ℕ}
      → ((x y : ℕ) → common h.n (bend_edges bs) (a — b) ≡ x ∷ (y ∷ []) → other ≡ key_of (x — y)) → turned ≡ flat_bend other
      → (after : List ℕ) → take (1 + length rest) after ≡ merge (turned ∷ []) rest → Gives (rule (flip a b) p) (part_of h after)
  flipped_over up inside {rest} W {other} {turned} O B after I =
      let T = H.valid.triangulated in
      let ds : List Edge = bend_edges bs in
      let (f, A) = across h.n ds T (a — b) W.member in
      let low : f.1 < 1024 = omega (arith, (joined_corners h.n ds T _ _ A.low_high).1, H.valid.most) in
      let key : turned ≡ flat_bend (key_of f) = B ∙ ap flat_bend (O f.0 f.1 (common_is h.n ds T (a — b) f A)) in
      let m : h.n - 3 ≡ 1 + length rest = omega (arith, W.size) in
      let new : ¬ Mem f ds = fresh h.n ds T (a — b) f A W.member in
      let newer : ¬ Mem f (bend_edges rest) = λ k. new (all_mem (remove_all (a — b) (all_self ds)) (rw W.left at k)) in
      let edges : bend_edges (insert_key turned rest) ≡ insert f (remove (a — b) ds) = inserted turned f rest key low newer ∙ ap (insert f) W.left in
      let first : take (h.n - 3) after ≡ insert_key turned rest = ap (λ (j : ℕ). take j after) m ∙ (I ∙ merge_one turned rest) in
      let comes = new_comes turned f rest key low newer new (all_imp (λ c q. inl q) (all_of rest W.kept)) in
      let over : 3 < h.n = omega (arith, W.size) in
      let same = lower_first_same (a — b) up in
      let turn : insert f (remove (a — b) ds) ≡ flipped h.n (lower_first (a, b)) ds = rw same (sym (flipped_is h.n ds T (a — b) f A)) in
      edited (flip a b) H ((omega arith, inside), rw same W.member)
      (result_part h.angled h.n bs (insert_key turned rest) bs refl (distinct_of T.ascending) comes after refl (keeps_angles h.angled h.n over) first
      ∙ ap (result h.n ds (angles_by h.angled bs)) (edges ∙ turn))

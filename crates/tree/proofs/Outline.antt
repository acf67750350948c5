-- The ascending list of all edges: the diagonals put at their places, and the edges around the part at the places left free.
use mathlib.Core.Path.{◌≡◌, refl, sym, ◌∙◌, ap, subst}
use mathlib.Core.Logic.{inl, inr}
use mathlib.Core.List.{List, [], ◌∷◌, map}
use Prim.Native.Nat.{ℕ, zero, suc, ◌+◌, ◌*◌, ◌-◌, ◌/◌, ◌≤◌, ◌<◌}
use native.Mathlib.Decide.{ℕ_discrete, dec_lt}
use native.Mathlib.Nat.{zero-add}
use native.Mathlib.Omega.{arith}
use lib.ListN.{length, take, get_or, set, length-map, length-take}
use lib.Seq.{get_or-set_same, get_or-set_other, get_or-take}
use Rattle.std.proofs.lemmas.List.{get_or_past}
use Rattle.lists.specs.Lists.{Sorted, sorted_cons, below}
use Rattle.lists.proofs.Lists.{choose_yes, choose_no}
use Rattle.lists.proofs.Places.{below_count, number_at}
use Rattle.polygon.specs.Polygon.{Before, Diagonal, Triangulated}
use Rattle.keys.specs.Keys.{edge_of, edges_of}
use Rattle.keys.proofs.InOrder.{edges_at}
use Rattle.keys.proofs.Merging.{Merging, merging_first, merging_second}
use Rattle.tree.specs.Outline.{side, outline_at, outline, outline_before, place_of, Stood}

pub outline_count : (n : ℕ) → length (outline n) ≡ n
outline_count n = length-map (below n) (outline_at n) ∙ below_count n

-- the edges around n corners, one by one
pub root_edge : (n i : ℕ) → i ≡ 1 → outline_at n i ≡ n - 1
root_edge n i h = choose_yes (ℕ_discrete i 1) _ h

pub side_edge : (n i : ℕ) → ¬ (i ≡ 1) → outline_at n i ≡ side (i - 1)
side_edge n i h = choose_no (ℕ_discrete i 1) _ h

pub outline_is : (n i x : ℕ) → (i ≡ 1 → x ≡ n - 1) → (¬ (i ≡ 1) → x ≡ side (i - 1)) → x ≡ outline_at n i
outline_is n i x f g = go (ℕ_discrete i 1)
  where
    go : Dec (i ≡ 1) → x ≡ outline_at n i
    go (yes e) = f e ∙ sym (root_edge n i e)
    go (no e) = g e ∙ sym (side_edge n i e)

outline_there : (n i : ℕ) → i < n → get_or (outline n) i 0 ≡ outline_at n i
unfolding below
outline_there n i h =
    let b : i < length (below n) = omega (arith, below_count n) in
    get_or_map_at (outline_at n) (below n) i b ∙ ap (outline_at n) (number_at n 0 i h ∙ zero-add i)
  where
    get_or_map_at : (f : ℕ → ℕ) (l : List ℕ) (j : ℕ) → j < length l → get_or (map f l) j 0 ≡ f (get_or l j 0)
    get_or_map_at f [] j q = absurd (omega arith)
    get_or_map_at f (x ∷ l) zero q = refl
    get_or_map_at f (x ∷ l) (suc j) q = get_or_map_at f l j (omega arith)

-- the order of two keys
rising : (ks : List ℕ) → Sorted Before (edges_of ks) → (i j : ℕ) → i ≤ j → j < length ks → get_or ks i 0 / 1024 ≤ get_or ks j 0 / 1024
rising [] s i j h k = absurd (omega arith)
rising (x ∷ ks) (sorted_cons a s) zero zero h k = omega arith
rising (x ∷ ks) (sorted_cons a s) zero (suc j) h k = elim (edges_at ks a j (omega arith)) [ inl p ↦ omega arith | inr p ↦ omega arith ]
rising (x ∷ ks) (sorted_cons a s) (suc i) zero h k = absurd (omega arith)
rising (x ∷ ks) (sorted_cons a s) (suc i) (suc j) h k = rising ks s i j (omega arith) (omega arith)

-- how many edges around the part come before the diagonal j
abbrev pub before : List ℕ → ℕ → ℕ
before ks j = outline_before (get_or ks j 0 / 1024)

-- the first k places are filled, i of them with edges around the part
pub record Filling (n : ℕ) (ks out₀ out : List ℕ) (i k : ℕ) : Type 0 where
  pub merging : Merging (outline n) ks (length out₀) out i k
  pub kept : (j : ℕ) → k ≤ j → get_or out j 0 ≡ get_or out₀ j 0
  pub behind : (j : ℕ) → j < k - i → before ks j ≤ i
  pub ahead : (j : ℕ) → k - i ≤ j → j < length ks → i ≤ before ks j

module _ {n : ℕ} (ks : List ℕ) (P : Triangulated n (edges_of ks)) (small : n ≤ 1024) where
  pub count : length ks + 3 ≡ n
  count = ap (◌+ 3) (sym (length-map ks edge_of)) ∙ P.full

  up : (i j : ℕ) → i ≤ j → j < length ks → before ks i ≤ before ks j
  up i j h k = omega (arith, rising ks P.ascending i j h k)

  pub inside : (j : ℕ) → j < length ks → (before ks j < n) × (place_of ks j < 2 * n - 3)
  inside j h = let d = edges_at ks P.diagonals j h in omega (arith, d.forth, d.corner, count)

  -- they do
  comes_before : (i j : ℕ) → j < length ks → i < before ks j → outline_at n i < get_or ks j 0
  comes_before i j h k = let d = edges_at ks P.diagonals j h in go (ℕ_discrete i 1) d
    where
      go : Dec (i ≡ 1) → Diagonal n (edge_of (get_or ks j 0)) → outline_at n i < get_or ks j 0
      go (yes e) d = omega (arith, root_edge n i e, d.forth)
      go (no e) d = omega (arith, side_edge n i e, d.forth)

  comes_behind : (i j : ℕ) → j < length ks → before ks j ≤ i → get_or ks j 0 ≤ outline_at n i
  comes_behind i j h k = let d = edges_at ks P.diagonals j h in go (ℕ_discrete i 1) d
    where
      go : Dec (i ≡ 1) → Diagonal n (edge_of (get_or ks j 0)) → get_or ks j 0 ≤ outline_at n i
      go (yes e) d = omega (arith, root_edge n i e, d.back)
      go (no e) d = omega (arith, side_edge n i e, d.corner)

  -- one diagonal more at its place
  pub stood_next : {out : List ℕ} {j : ℕ} → Stood j ks out → j < length ks → place_of ks j < length out → Stood (j + 1) ks (set out (place_of ks j) (get_or ks j 0))
  stood_next {out} {j} S h room = record { there = λ i k. go i k (ℕ_discrete i j); free = λ k f. get_or-set_other out (place_of ks j) k _ 0 (f j (omega arith)) ∙ S.free k (λ i l. f i (omega arith)) }
    where
      go : (i : ℕ) → i < j + 1 → Dec (i ≡ j) → get_or (set out (place_of ks j) (get_or ks j 0)) (place_of ks i) 0 ≡ get_or ks i 0
      go i k (yes e) = rw e (get_or-set_same out (place_of ks j) _ 0 room)
      go i k (no e) = get_or-set_other out (place_of ks j) (place_of ks i) _ 0 (λ q. omega (arith, up i j (omega arith) h)) ∙ S.there i (omega arith)

  module _ {out₀ out : List ℕ} {i k : ℕ} (S : Stood (length ks) ks out₀) (F : Filling n ks out₀ out i k) (upto : k < n + length ks) (room : k < length out₀) where
    kept_on : (x j : ℕ) → k + 1 ≤ j → get_or (set out k x) j 0 ≡ get_or out₀ j 0
    kept_on x j h = get_or-set_other out k j x 0 (λ e. omega arith) ∙ F.kept j (omega arith)

    -- a diagonal stands at k, and is the next one; or none does
    diagonal : (k - i < length ks) × (before ks (k - i) ≡ i) → (get_or out₀ k 0 ≡ get_or ks (k - i) 0) × (0 < get_or ks (k - i) 0)
    diagonal h =
        let e : k ≡ place_of ks (k - i) = omega (arith, F.merging.both, h.1) in
        (ap (λ (x : ℕ). get_or out₀ x 0) e ∙ S.there (k - i) h.0, omega (arith, (edges_at ks P.diagonals (k - i) h.0).forth))

    next? : Dec ((k - i < length ks) × (before ks (k - i) ≡ i))
    next? = go (dec_lt (k - i) (length ks)) (ℕ_discrete (before ks (k - i)) i)
      where
        go : Dec (k - i < length ks) → Dec (before ks (k - i) ≡ i) → Dec ((k - i < length ks) × (before ks (k - i) ≡ i))
        go (yes p) (yes q) = yes (p, q)
        go (no p) q = no (λ h. p h.0)
        go (yes p) (no q) = no (λ h. q h.1)

    none : ¬ ((k - i < length ks) × (before ks (k - i) ≡ i)) → get_or out₀ k 0 ≡ 0
    none f = S.free k (λ j h e. go j h e (dec_lt j (k - i)))
      where
        go : (j : ℕ) → j < length ks → k ≡ place_of ks j → Dec (j < k - i) → ⊥
        go j h e (yes p) = omega (arith, F.behind j p)
        go j h e (no p) = f (omega arith, omega (arith, F.ahead (k - i) (omega arith) (omega arith), up (k - i) j (omega arith) h, F.merging.both))

    -- an edge around the part
    pub fill_free : get_or out₀ k 0 ≡ 0 → Filling n ks out₀ (set out k (outline_at n i)) (i + 1) (k + 1)
    fill_free z =
        record {
          merging = subst (λ (x : ℕ). Merging (outline n) ks (length out₀) (set out k x) (i + 1) (k + 1)) (outline_there n i few)
              (merging_first F.merging room (omega (arith, few, outline_count n)) (λ p. rw (outline_there n i few) (comes_before i (k - i) p (less p))));
          kept = kept_on _;
          behind = λ j h. omega (arith, F.behind j (omega arith));
          ahead = λ j h p. omega (arith, less (omega arith), up (k - i) j (omega arith) p);
        }
      where
        less : k - i < length ks → i < before ks (k - i)
        less p = go (ℕ_discrete (before ks (k - i)) i)
          where
            go : Dec (before ks (k - i) ≡ i) → i < before ks (k - i)
            go (yes q) = absurd (omega (arith, z, diagonal (p, q)))
            go (no q) = omega (arith, F.ahead (k - i) (omega arith) p)

        few : i < n
        few = go (dec_lt (k - i) (length ks))
          where
            go : Dec (k - i < length ks) → i < n
            go (yes p) = omega (arith, less p, inside (k - i) p, count)
            go (no p) = omega (arith, F.merging.second)

    -- a diagonal, which stands there already
    pub fill_taken : ¬ (get_or out₀ k 0 ≡ 0) → Filling n ks out₀ (set out k (get_or out k 0)) i (k + 1)
    fill_taken z = go next?
      where
        go : Dec ((k - i < length ks) × (before ks (k - i) ≡ i)) → Filling n ks out₀ (set out k (get_or out k 0)) i (k + 1)
        go (no f) = absurd (z (none f))
        go (yes h) = record {
          merging = rw (F.kept k (omega arith) ∙ (diagonal h).0) (merging_second F.merging room h.0 (λ p. rw (outline_there n i (omega (arith, outline_count n))) (comes_behind i (k - i) h.0 (omega (arith, h.1)))));
          kept = kept_on _;
          behind = λ j p. omega (arith, up j (k - i) (omega (arith, F.merging.both)) h.0, h.1);
          ahead = λ j p q. F.ahead j (omega arith) q;
        }

  -- behind all edges nothing stands
  pub none_behind : {out : List ℕ} → Stood (length ks) ks out → (k : ℕ) → 2 * n - 3 ≤ k → get_or out k 0 ≡ 0
  none_behind S k h = S.free k (λ j p e. omega (arith, inside j p))

  -- nor does a diagonal
  pub stood_front : {out : List ℕ} → Stood (length ks) ks out → Stood (length ks) ks (take (n + length ks) out)
  stood_front {out} S = record { there = λ j h. get_or-take m out (place_of ks j) 0 (omega (arith, inside j h, count)) ∙ S.there j h; free = λ k f. go k f (dec_lt k m) }
    where
      m : ℕ
      m = n + length ks

      go : (k : ℕ) → ((j : ℕ) → j < length ks → ¬ (k ≡ place_of ks j)) → Dec (k < m) → get_or (take m out) k 0 ≡ 0
      go k f (yes h) = get_or-take m out k 0 h ∙ S.free k f
      go k f (no h) = get_or_past (take m out) k 0 (omega (arith, length-take m out))

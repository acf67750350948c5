-- The table of the corners joined to a corner, marked one edge after another; and the corners marked in two such tables.
use mathlib.Core.Path.{◌≡◌, refl, sym, ◌∙◌}
use mathlib.Core.Logic.{◌⊎◌, inl, inr}
use mathlib.Core.List.{List, [], ◌∷◌, ◌++◌}
use Prim.Native.Nat.{ℕ, zero, suc, ◌+◌, ◌-◌, ◌<◌, ◌≤◌}
use native.Mathlib.Decide.{ℕ_discrete}
use native.Mathlib.Omega.{arith}
use lib.ListN.{length, set, get_or, length-set}
use lib.Seq.{get_or-set_same, get_or-set_other}
use Rattle.std.proofs.Common.{Option, Some, None}
use Rattle.std.specs.Option.{unwrap_or}
use Rattle.lists.specs.Lists.{head, All, all_nil, all_cons}
use Rattle.lists.proofs.Lists.{mem_left, mem_right, not_empty, snoc_cases, choose_yes, choose_no}
use Rattle.polygon.specs.Polygon.{Edge, ◌—◌, Side, Joined}
use Rattle.polygon.proofs.Order.{edge, low_of, high_of}
use Rattle.keys.specs.Keys.{edge_of, edges_of}
use Rattle.edit.specs.Rules.{neighbours, Away}
use Rattle.edit.specs.Tables.{OtherEnd, Near}
use Rattle.edit.proofs.Reading.{neighbours_read}

-- the two corners next to k along the outline
pub neighbours_first : (n k : ℕ) → k ≡ 0 → neighbours n k ≡ 1 — (n - 1)
unfolding neighbours
neighbours_first n k e = rw e

pub neighbours_last : (n k : ℕ) → ¬ (k ≡ 0) → k + 1 ≡ n → neighbours n k ≡ 0 — (k - 1)
unfolding neighbours
neighbours_last n zero f e = absurd (f refl)
neighbours_last n (suc k) f e = let z : suc k - 1 ≡ k = omega arith in choose_yes (ℕ_discrete (suc (suc k)) n) _ (omega arith) ∙ rw z

pub neighbours_inside : (n k : ℕ) → ¬ (k ≡ 0) → ¬ (k + 1 ≡ n) → neighbours n k ≡ (k - 1) — (k + 1)
unfolding neighbours
neighbours_inside n zero f e = absurd (f refl)
neighbours_inside n (suc k) f e =
    let z : suc k - 1 ≡ k = omega arith in
    let w : suc k + 1 ≡ k + 2 = omega arith in
    choose_no (ℕ_discrete (suc (suc k)) n) _ (λ p. e (omega arith)) ∙ rw (z, w)

-- edges that do not end at k, by their keys
pub keys_away : {k : ℕ} (ks : List ℕ) → All (Away k) (edges_of ks) → All (λ x. Away k (edge_of x)) ks
keys_away [] a = all_nil
keys_away (x ∷ ks) (all_cons h a) = all_cons h (keys_away ks a)

-- a place stays marked when a second one is marked
still : (near : List ℕ) (p x : ℕ) → x < length near → get_or near x 0 ≡ 1 → get_or (set near p 1) x 0 ≡ 1
still near p x h e = go (ℕ_discrete x p)
  where
    go : Dec (x ≡ p) → get_or (set near p 1) x 0 ≡ 1
    go (yes q) = rw q (get_or-set_same near p 1 0 (omega (arith, q)))
    go (no q) = get_or-set_other near p x 1 0 q ∙ e

-- at first, with no diagonal: the two neighbours on the outline are marked
pub near_begin : (n c : ℕ) (near : List ℕ) → 3 ≤ n → n ≤ 1024 → c < n → 1024 ≤ length near → ((x : ℕ) → get_or near x 0 ≡ 0)
    → Near n [] c (set (set near (neighbours n c).0 1) (neighbours n c).1 1)
near_begin n c near h k i size blank = record { joined = joined; marked = λ x l J. marked x l (of_joined x J) }
  where
    a : ℕ
    a = (neighbours n c).0

    b : ℕ
    b = (neighbours n c).1

    side_of : (x : ℕ) → Side n x c ⊎ Side n c x → Joined n [] x c
    side_of x (inl s) = inl (inl s)
    side_of x (inr s) = inr (inl s)

    of_joined : (x : ℕ) → Joined n [] x c → Side n x c ⊎ Side n c x
    of_joined x (inl (inl s)) = inl s
    of_joined x (inl (inr m)) = absurd (not_empty m)
    of_joined x (inr (inl s)) = inr s
    of_joined x (inr (inr m)) = absurd (not_empty m)

    joined : (x : ℕ) → x < n → get_or (set (set near a 1) b 1) x 0 ≡ 1 → Joined n [] x c
    joined x l e = go (ℕ_discrete x a) (ℕ_discrete x b)
      where
        go : Dec (x ≡ a) → Dec (x ≡ b) → Joined n [] x c
        go (yes p) q = side_of x ((neighbours_read n c x h i l).1 (inl p))
        go (no p) (yes q) = side_of x ((neighbours_read n c x h i l).1 (inr q))
        go (no p) (no q) = (let z = get_or-set_other (set near a 1) b x 1 0 q ∙ (get_or-set_other near a x 1 0 p ∙ blank x) in absurd (omega (arith, z, e)))

    marked : (x : ℕ) → x < n → Side n x c ⊎ Side n c x → get_or (set (set near a 1) b 1) x 0 ≡ 1
    marked x l s = go ((neighbours_read n c x h i l).0 s)
      where
        go : (x ≡ a) ⊎ (x ≡ b) → get_or (set (set near a 1) b 1) x 0 ≡ 1
        go (inl p) = still (set near a 1) b x (simp length-set (omega arith)) (rw p (get_or-set_same near a 1 0 (omega (arith, p))))
        go (inr p) = rw p (get_or-set_same (set near a 1) b 1 0 (simp length-set (omega (arith, p))))

-- a corner that is joined to c may be marked again
near_again : (n c : ℕ) (ds : List Edge) (near : List ℕ) → Near n ds c near → n ≤ length near → (a : ℕ) → Joined n ds a c → Near n ds c (set near a 1)
near_again n c ds near N room a J = record { joined = λ x l q. joined x l q (ℕ_discrete x a); marked = λ x l K. still near a x (omega (arith, l, room)) (N.marked x l K) }
  where
    joined : (x : ℕ) → x < n → get_or (set near a 1) x 0 ≡ 1 → Dec (x ≡ a) → Joined n ds x c
    joined x l q (yes h) = rw h J
    joined x l q (no h) = N.joined x l (sym (get_or-set_other near a x 1 0 h) ∙ q)

-- as is a neighbour along the outline
pub neighbour_joined : (n c : ℕ) (ds : List Edge) → 3 ≤ n → c < n → (neighbours n c).0 < n → Joined n ds (neighbours n c).0 c
neighbour_joined n c ds h i l = elim ((neighbours_read n c (neighbours n c).0 h i l).1 (inl refl)) [ inl s ↦ inl (inl s) | inr s ↦ inr (inl s) ]

-- one more edge
module _ (n c : ℕ) (ds : List Edge) (e : Edge) where
  grown : (x : ℕ) → Joined n ds x c → Joined n (ds ++ (e ∷ [])) x c
  grown x (inl (inl s)) = inl (inl s)
  grown x (inl (inr m)) = inl (inr (mem_left (e ∷ []) m))
  grown x (inr (inl s)) = inr (inl s)
  grown x (inr (inr m)) = inr (inr (mem_left (e ∷ []) m))

  by_edge : (x : ℕ) → OtherEnd e c (Some x) → Joined n (ds ++ (e ∷ [])) x c
  by_edge x (inl (h, k)) = inr (inr (mem_right ds (head (sym (edge h (sym k))))))
  by_edge x (inr (h, k)) = inl (inr (mem_right ds (head (sym (edge (sym k) h)))))

  -- what is joined now was so before, or is the edge's other end
  parted : (x : ℕ) → Joined n (ds ++ (e ∷ [])) x c → Joined n ds x c ⊎ OtherEnd e c (Some x)
  parted x (inl (inl s)) = inl (inl (inl s))
  parted x (inl (inr m)) = elim (snoc_cases ds e m) [ inl k ↦ inl (inl (inr k)) | inr q ↦ inr (inr (high_of (sym q), sym (low_of (sym q)))) ]
  parted x (inr (inl s)) = inl (inr (inl s))
  parted x (inr (inr m)) = elim (snoc_cases ds e m) [ inl k ↦ inl (inr (inr k)) | inr q ↦ inr (inl (low_of (sym q), sym (high_of (sym q)))) ]

  one_end : (x p : ℕ) → OtherEnd e c (Some x) → OtherEnd e c (Some p) → x ≡ p
  one_end x p (inl (h, k)) (inl (i, j)) = omega arith
  one_end x p (inl (h, k)) (inr (i, j)) = omega arith
  one_end x p (inr (h, k)) (inl (i, j)) = omega arith
  one_end x p (inr (h, k)) (inr (i, j)) = omega arith

  module _ (near : List ℕ) (N : Near n ds c near) where
    pub near_away : OtherEnd e c None → Near n (ds ++ (e ∷ [])) c near
    near_away O = record {
      joined = λ x l q. grown x (N.joined x l q);
      marked = λ x l J. elim (parted x J) [ inl K ↦ N.marked x l K | inr E ↦ absurd (away x E) ];
    }
      where
        away : (x : ℕ) → ¬ OtherEnd e c (Some x)
        away x (inl (h, k)) = O.0 h
        away x (inr (h, k)) = O.1 h

    pub near_end : n ≤ length near → (p : ℕ) → OtherEnd e c (Some p) → Near n (ds ++ (e ∷ [])) c (set near p 1)
    near_end room p O = record { joined = λ x l q. joined x l q (ℕ_discrete x p); marked = λ x l J. marked x l (parted x J) }
      where
        joined : (x : ℕ) → x < n → get_or (set near p 1) x 0 ≡ 1 → Dec (x ≡ p) → Joined n (ds ++ (e ∷ [])) x c
        joined x l q (yes h) = rw h (by_edge p O)
        joined x l q (no h) = grown x (N.joined x l (sym (get_or-set_other near p x 1 0 h) ∙ q))

        marked : (x : ℕ) → x < n → Joined n ds x c ⊎ OtherEnd e c (Some x) → get_or (set near p 1) x 0 ≡ 1
        marked x l (inl K) = still near p x (omega arith) (N.marked x l K)
        marked x l (inr E) = let q = one_end x p E O in rw q (get_or-set_same near p 1 0 (omega (arith, q)))

    -- the edge's other end is marked, or the corner a again
    pub near_marked : n ≤ length near → (a : ℕ) → Joined n ds a c → (r : Option ℕ) → OtherEnd e c r → Near n (ds ++ (e ∷ [])) c (set near (unwrap_or r a) 1)
    near_marked room a J None O = near_again n c (ds ++ (e ∷ [])) near (near_away O) room a (grown a J)
    near_marked room a J (Some p) O = near_end room p O

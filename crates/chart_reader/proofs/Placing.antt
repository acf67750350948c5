-- The places of the strokes, one after another, as the loop that finds them meets them.
use mathlib.Core.Path.{◌≡◌, refl, sym, ◌∙◌}
use mathlib.Core.List.{List, [], ◌∷◌, ◌++◌, append-nil}
use Prim.Native.Nat.{ℕ, suc, ◌+◌, ◌*◌, ◌-◌, ◌≤◌, ◌<◌}
use native.Mathlib.Numerals.{add-one}
use native.Mathlib.Omega.{arith}
use lib.ListN.{length, take, drop, set, get_or, length-set}
use lib.Seq.{take-suc-set, take_all, take_at, append_snoc, length-take-le}
use Rattle.lists.specs.Lists.{All, all_cons, all_nil}
use Rattle.lists.proofs.Lists.{all_append, all_mem, here, mem_right}
use Rattle.chart_reader.specs.Held.{Ending, StrokesFound}
use Rattle.chart_reader.proofs.Encoded.{behind_up}
use Rattle.chart.specs.Decode.{count_in, stroke_size, places, behind}

-- what the loop keeps: i places are found, and the rest start at p
pub record Placing (s : List ℕ) (from room : ℕ) (at : List ℕ) (i p : ℕ) : Type 0 where
  pub upto : i ≤ room
  pub size : length at ≡ room
  pub near : p ≤ from + 7 * i
  pub found : take i at ++ places s p (room - i) ≡ places s from room
  pub bits : All (λ q. get_or s q 0 < 2) (take i at)
  pub end : behind s p (room - i) ≡ behind s from room

pub placing_none : (s : List ℕ) (from : ℕ) (at : List ℕ) → Placing s from (length at) at 0 from
placing_none s from at = let e : length at - 0 ≡ length at = omega arith in record { upto = omega arith; size = refl; near = omega arith; found = rw e; bits = all_nil; end = rw e }

module _ (s : List ℕ) (from room : ℕ) (at : List ℕ) (i p : ℕ) (P : Placing s from room at i p) where
  module _ (more : i < room) where
    abbrev next : ℕ
    next = p + stroke_size (get_or s p 0)

    left : room - i ≡ suc (room - suc i)
    left = omega arith

    found_next : take i at ++ (p ∷ places s next (room - suc i)) ≡ places s from room
    unfolding places
    found_next = rw left at P.found

    end_next : behind s next (room - suc i) ≡ behind s from room
    unfolding behind
    end_next = rw left at P.end

    -- past the end
    pub past_end : length s ≤ p → Ending s from room → ⊥
    past_end h E = omega (arith, E.exact, end_next, behind_up s next (room - suc i))

    -- another bit
    pub other_bit : 2 ≤ get_or s p 0 → Ending s from room → ⊥
    other_bit h E =
        let b : get_or s p 0 < 2 = all_mem (rw (← found_next) at E.bits) (mem_right (take i at) here) in
        omega arith

    pub placing_next : get_or s p 0 < 2 → (q : ℕ) → q ≡ p + (5 + 2 * get_or s p 0) → Placing s from room (set at i p) (i + 1) q
    placing_next small q e =
        let k : q ≡ next = omega arith in
        let t : take (suc i) (set at i p) ≡ take i at ++ (p ∷ []) = take-suc-set at i p (omega (arith, P.size)) in
        rw (k, add-one i) (record {
          upto = more;
          size = length-set at i p ∙ P.size;
          near = omega (arith, P.near);
          found = rw (t, append_snoc (take i at) p (places s next (room - suc i))) found_next;
          bits = rw t (all_append P.bits (all_cons small all_nil));
          end = end_next;
        })

  -- all found
  module _ (last : room ≤ i) where
    none_left : room - i ≡ 0
    none_left = omega arith

    all_found : at ≡ places s from room
    unfolding places
    all_found =
        let f : take i at ++ [] ≡ places s from room = rw none_left at P.found in
        sym (append-nil at) ∙ rw (take_all i at (omega (arith, P.size))) at f

    end_found : p ≡ behind s from room
    unfolding behind
    end_found = rw none_left at P.end

    pub placed : p ≡ length s → (at ≡ places s from room) × Ending s from room
    placed e = (all_found, record { bits = rw (take_all i at (omega (arith, P.size)), all_found) at P.bits; exact = sym end_found ∙ e })

    pub not_ending : (p ≡ length s → ⊥) → Ending s from room → ⊥
    not_ending f E = f (end_found ∙ E.exact)

-- the frame of a chart of n corners
module _ (s : List ℕ) (n : ℕ) (count : n ≡ count_in s) (at : List ℕ) (room : length at ≡ 2045) (least : 3 ≤ n) (most : n ≤ 1024) where
  pub room_is : length (take (2 * n - 3) at) ≡ 2 * n - 3
  room_is = length-take-le (2 * n - 3) at (omega arith)

  pub framed : (o : List ℕ) → 6 ≤ length s → (o ≡ places s (6 + 6 * n) (length (take (2 * n - 3) at))) × Ending s (6 + 6 * n) (length (take (2 * n - 3) at)) → length o ≡ length (take (2 * n - 3) at) → StrokesFound s n (take (2 * n - 3) (o ++ drop (2 * n - 3) at))
  framed o six (p, E) kept =
      let G : Ending s (6 + 6 * count_in s) (2 * count_in s - 3) = rw (room_is, count) at E in
      let q : o ≡ places s (6 + 6 * n) (2 * n - 3) = rw room_is at p in
      record {
        formed = record { head = six; least = omega arith; most = omega arith; bits = G.bits; exact = G.exact };
        count = count;
        strokes = take_at o (drop (2 * n - 3) at) (2 * n - 3) (kept ∙ room_is) ∙ rw (← count) q;
      }

-- Lengths on a desk: an answer is no longer than what was lent, the buffers keep their lengths, and the next edit reads what the last taken one wrote.
use mathlib.Core.Path.{◌≡◌, refl, sym, ◌∙◌}
use mathlib.Core.Logic.{inl, inr}
use mathlib.Core.List.{List, ◌++◌}
use Prim.Native.Nat.{ℕ, zero, suc, ◌≤◌}
use native.Mathlib.Decide.{ℕ_discrete}
use native.Mathlib.Omega.{arith}
use lib.ListN.{length, take, drop, length-append, length-drop}
use lib.Seq.{length-take-le, length_front, take-append-le}
use Rattle.lists.specs.Lists.{choose}
use Rattle.codec.specs.Answer.{Outcome, refuse, write, Answer, written}
use Rattle.codec.proofs.Answers.{written_is}
use Rattle.edit.specs.Rules.{Edit}
use Rattle.edit.specs.Calls.{edited, called, sheet_after}
use Rattle.edit_list.specs.Desk.{placed, Desk, desk_of, current, other, buffer, answer_of, answered_desk, desk_step}
use Rattle.edit_list.specs.Steps.{SheetLies, Spacious}

-- an answer is no longer than the output, and keeps the output's length
pub written_within : (o : Outcome) (out : List ℕ) → ((written o out).size ≤ length out) × (length (written o out).bytes ≡ length out)
unfolding written
written_within (refuse k) out = (omega arith, refl)
written_within (write bs) out = elim (written_is bs out) [ inl w ↦ rw w.1 (w.0, simp (length-append, length-drop) (omega arith)) | inr w ↦ rw w.1 (omega arith, refl) ]

-- the buffer has the length to lend
lent_length : (place room : ℕ) (front back : List ℕ) → room ≤ length front → room ≤ length back → length (take room (placed place front back front)) ≡ room
unfolding placed
lent_length zero room front back f b = length-take-le room front f
lent_length (suc zero) room front back f b = length-take-le room back b
lent_length (suc (suc k)) room front back f b = length-take-le room front f

-- an answer to an edit that lent `room` bytes
record Within (room : ℕ) (a : Answer) : Type 0 where
  size_within : a.size ≤ room
  bytes_within : length a.bytes ≡ room

answer_within : (first : List ℕ) (d : Desk) (x : Edit × ℕ) → Spacious x.1 d → Within x.1 (answer_of first d x)
unfolding answer_of called
answer_within first d x S =
    let l = lent_length d.place x.1 d.front d.back S.0 S.1 in
    let w = written_within (edited x.0 (current first d)) (take x.1 (buffer d)) in
    record { size_within = omega (arith, w.0, l); bytes_within = w.1 ∙ l }

module _ (place size room : ℕ) (front back : List ℕ) (a : Answer) (S : Spacious room (desk_of place size front back)) (W : Within room a) where
  -- a buffer with the answer's bytes at its start
  length_refilled : (l : List ℕ) → room ≤ length l → length (a.bytes ++ drop room l) ≡ length l
  length_refilled l h = length_front l a.bytes room (W.bytes_within ∙ sym (length-take-le room l h))

  take_refilled : (l : List ℕ) → take a.size (a.bytes ++ drop room l) ≡ take a.size a.bytes
  take_refilled l = take-append-le a.size a.bytes (drop room l) (omega (arith, W.size_within, W.bytes_within))

  front_kept : length (answered_desk (desk_of place size front back) room a).front ≡ length front
  unfolding answered_desk placed
  front_kept = go place
    where
      go : (p : ℕ) → let bytes = a.bytes ++ drop room (placed p front back front) in length (placed p bytes front bytes) ≡ length front
      go zero = length_refilled front S.0
      go (suc zero) = refl
      go (suc (suc k)) = length_refilled front S.0

  back_kept : length (answered_desk (desk_of place size front back) room a).back ≡ length back
  unfolding answered_desk placed
  back_kept = go place
    where
      go : (p : ℕ) → let bytes = a.bytes ++ drop room (placed p front back front) in length (placed p back bytes back) ≡ length back
      go zero = refl
      go (suc zero) = length_refilled back S.1
      go (suc (suc k)) = refl

  lies_still : SheetLies (desk_of place size front back) → SheetLies (answered_desk (desk_of place size front back) room a)
  unfolding answered_desk choose
  lies_still l = go (ℕ_discrete a.number 0)
    where
      go : (n : Dec (a.number ≡ 0)) → SheetLies (desk_of (choose n (other place) place) (choose n a.size size) (answered_desk (desk_of place size front back) room a).front (answered_desk (desk_of place size front back) room a).back)
      go (yes p) q = (omega (arith, front_kept, W.size_within, S.0), omega (arith, back_kept, W.size_within, S.1))
      go (no p) q = (omega (arith, front_kept, (l q).0), omega (arith, back_kept, (l q).1))

  reads_next : (first : List ℕ) → current first (answered_desk (desk_of place size front back) room a) ≡ sheet_after (current first (desk_of place size front back)) a
  unfolding answered_desk sheet_after placed other choose
  reads_next first = go place (ℕ_discrete a.number 0)
    where
      go : (p : ℕ) (n : Dec (a.number ≡ 0)) → let bytes = a.bytes ++ drop room (placed p front back front) in
          placed (choose n (other p) p) first (take (choose n a.size size) (placed p bytes front bytes)) (take (choose n a.size size) (placed p back bytes back))
          ≡ choose n (take a.size a.bytes) (placed p first (take size front) (take size back))
      go zero (yes e) = take_refilled front
      go (suc zero) (yes e) = take_refilled back
      go (suc (suc k)) (yes e) = take_refilled front
      go zero (no e) = refl
      go (suc zero) (no e) = refl
      go (suc (suc k)) (no e) = refl

-- a desk whose buffers have these lengths, with the sheet inside them
pub record Sound (front back : ℕ) (d : Desk) : Type 0 where
  pub front_length : length d.front ≡ front
  pub back_length : length d.back ≡ back
  pub lies : SheetLies d

module _ (first : List ℕ) {front back : ℕ} (d : Desk) (x : Edit × ℕ) (D : Sound front back d) (S : (x.1 ≤ front) × (x.1 ≤ back)) where
  pub spacious : Spacious x.1 d
  spacious = (omega (arith, D.front_length, S.0), omega (arith, D.back_length, S.1))

  pub step_sound : Sound front back (desk_step first d x)
  unfolding desk_step
  step_sound =
      let W = answer_within first d x spacious in
      record {
        front_length = front_kept d.place d.size x.1 d.front d.back (answer_of first d x) spacious W ∙ D.front_length;
        back_length = back_kept d.place d.size x.1 d.front d.back (answer_of first d x) spacious W ∙ D.back_length;
        lies = lies_still d.place d.size x.1 d.front d.back (answer_of first d x) spacious W D.lies;
      }

  pub step_reads : current first (desk_step first d x) ≡ sheet_after (current first d) (answer_of first d x)
  unfolding desk_step
  step_reads = reads_next d.place d.size x.1 d.front d.back (answer_of first d x) spacious (answer_within first d x spacious) first

  -- the call that the edit makes lends the length asked for
  pub lent_asked : length (take x.1 (buffer d)) ≡ x.1
  lent_asked = lent_length d.place x.1 d.front d.back spacious.0 spacious.1

-- One edit, from the code's answer to the desk afterwards.
use mathlib.Core.Path.{◌≡◌, refl, ap, sym, ◌∙◌}
use mathlib.Core.List.{List, ◌++◌}
use Prim.Native.Nat.{ℕ, zero, suc, ◌<◌}
use native.Mathlib.Omega.{arith}
use lib.ListN.{take, drop}
use Rattle.std.proofs.Common.{Result, Ok, Err, rules}
use Rattle.lists.proofs.Lists.{choose_no, choose_yes}
use Rattle.codec.specs.declared.refusal.Refusal.{Refusal}
use Rattle.codec.specs.Numbered.{number_of}
use Rattle.codec.specs.Answer.{Answer, written, answered}
use Rattle.codec.proofs.Answers.{bytes_left}
use Rattle.edit.specs.Rules.{Edit, flip}
use Rattle.edit.specs.Calls.{edited, called}
use Rattle.edit_list.specs.declared.Left.{Left}
use Rattle.edit_list.specs.declared.Place.{Place}
use Rattle.edit_list.specs.declared.Place.TheVariants.{First, Front, Back}
use Rattle.edit_list.specs.Script.{edit_by}
use Rattle.edit_list.specs.Desk.{placed, Desk, desk_of, other, buffer, answer_of, answered_desk, desk_step}
use Rattle.edit_list.specs.Result.{place_number}
use Rattle.edit_list.specs.Steps.{desk_by, written_number, written_size, number_after, Lent}

-- the number and the length of an answer do not depend on the lent bytes
answer_number : (w : Result ℕ Refusal) (out : List ℕ) → (answered w out).number ≡ written_number w
answer_number (Ok k) out = refl
answer_number (Err r) out = refl

answer_size : (w : Result ℕ Refusal) (out : List ℕ) → (answered w out).size ≡ written_size w
answer_size (Ok k) out = refl
answer_size (Err r) out = refl

-- no refusal has the number 0, and each fits two bytes
proper : (r : Refusal) → 0 < number_of r
proper r = search rules

pub number_fits : (w : Result (Unit {0}) Refusal) → number_after w < 65536
number_fits (Ok l) = omega arith
number_fits (Err r) = small r
  where
    small : (r : Refusal) → number_of r < 65536
    small r = search rules

-- the code's answer to an edit, by the place of the sheet
module _ (first : List ℕ) where
  lent_at : (d : Desk) (x : Edit × ℕ) (w : Result ℕ Refusal) (last : List ℕ) → answered w last ≡ answer_of first d x
      → let bytes = last ++ drop x.1 (buffer d) in Lent first d x w (placed d.place bytes d.front bytes) (placed d.place d.back bytes d.back)
  unfolding desk_step answered_desk
  lent_at d x w last e =
      record {
        answer_number = sym (answer_number w last) ∙ ap (λ (a : Answer). a.number) e;
        answer_size = sym (answer_size w last) ∙ ap (λ (a : Answer). a.size) e;
        front_after = rw (bytes_left w last e);
        back_after = rw (bytes_left w last e);
      }

  module _ (front back : List ℕ) (l : Left) (room : ℕ) (e : Edit) (w : Result ℕ Refusal) (last : List ℕ) where
    pub lent_first : l.place ≡ First → answered w last ≡ written (edited e first) (take room front) → Lent first (desk_by l front back) (e, room) w (last ++ drop room front) back
    unfolding placed answer_of called
    lent_first p h = rw p (lent_at (desk_of 0 l.size front back) (e, room) w last h)

    pub lent_front : l.place ≡ Front → answered w last ≡ written (edited e (take l.size front)) (take room back) → Lent first (desk_by l front back) (e, room) w front (last ++ drop room back)
    unfolding placed answer_of called
    lent_front p h = rw p (lent_at (desk_of 1 l.size front back) (e, room) w last h)

    pub lent_back : l.place ≡ Back → answered w last ≡ written (edited e (take l.size back)) (take room front) → Lent first (desk_by l front back) (e, room) w (last ++ drop room front) back
    unfolding placed answer_of called
    lent_back p h = rw p (lent_at (desk_of 2 l.size front back) (e, room) w last h)

  desk_same : (d : Desk) {place size : ℕ} {front back : List ℕ} → place ≡ d.place → size ≡ d.size → front ≡ d.front → back ≡ d.back → desk_of place size front back ≡ d
  desk_same d p s f b = rw (p, s, f, b)

  -- what is left: the sheet lies in the other buffer if the edit was taken, else where it lay
  module _ (l : Left) (front₀ back₀ : List ℕ) (x : Edit × ℕ) {w : Result ℕ Refusal} {front back : List ℕ} (L : Lent first (desk_by l front₀ back₀) x w front back) where
    abbrev d : Desk
    d = desk_by l front₀ back₀

    pub taken : {k : ℕ} → w ≡ Ok k → (q : Place) → place_number q ≡ other (place_number l.place)
        → (desk_by (record { place = q; size = k }) front back ≡ desk_step first d x) × (0 ≡ (answer_of first d x).number)
    unfolding desk_step answered_desk
    taken {k} e q p =
        let n : (answer_of first d x).number ≡ 0 = sym L.answer_number ∙ ap written_number e in
        let size : k ≡ (answer_of first d x).size = sym (ap written_size e) ∙ L.answer_size in
        (desk_same (desk_step first d x) (p ∙ sym (choose_yes _ _ n)) (size ∙ sym (choose_yes _ _ n)) L.front_after L.back_after, sym n)

    pub stays : {r : Refusal} → w ≡ Err r → (desk_by l front back ≡ desk_step first d x) × (number_of r ≡ (answer_of first d x).number)
    unfolding desk_step answered_desk
    stays {r} e =
        let same : number_of r ≡ (answer_of first d x).number = sym (ap written_number e) ∙ L.answer_number in
        let n : ¬ ((answer_of first d x).number ≡ 0) = omega (arith, same, proper r) in
        (desk_same (desk_step first d x) (sym (choose_no _ _ n)) (sym (choose_no _ _ n)) L.front_after L.back_after, same)

-- the last kind
pub edit_else : (kind a b : ℕ) → ¬ (kind ≡ 0) → ¬ (kind ≡ 1) → edit_by kind a b ≡ flip a b
unfolding edit_by
edit_else zero a b h g = absurd (h refl)
edit_else (suc zero) a b h g = absurd (g refl)
edit_else (suc (suc k)) a b h g = refl

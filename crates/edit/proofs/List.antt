-- The list of edits: the operations, called one after another from an accepted sheet, give the plain part's numbers and leave the plain part's sheet.
use mathlib.Core.Path.{◌≡◌, refl, ap, ap₂, ◌∙◌}
use mathlib.Core.Bool.{◌||◌}
use mathlib.Core.List.{List, [], ◌∷◌, map}
use Prim.Native.Nat.{ℕ, ◌≤◌, ◌<◌}
use native.Mathlib.Decide.{dec_le}
use native.Mathlib.Omega.{arith}
use lib.ListN.{length}
use lib.Seq.{take-append_seam}
use Rattle.lists.proofs.Lists.{all_mem, choose_yes, choose_no}
use Rattle.polygon.specs.Polygon.{Polygon, Valid}
use Rattle.codec.specs.Answer.{Answer, fit, written}
use Rattle.sheet.specs.Sheet.{Reading, refused, held, ask, read_sheet, normal_sheet, outcome}
use Rattle.sheet.specs.Refusals.{RefusedBy, by, holds}
use Rattle.sheet.proofs.Valid.{read_valid}
use Rattle.sheet.proofs.Back.{read_back}
use Rattle.edit.specs.Rules.{Edit, rule_tests, rule}
use Rattle.edit.specs.Model.{fitting, step, number_given, after, is_taken, model_numbers, left, taken, chosen, model_sheet}
use Rattle.edit.specs.Calls.{on_held, edited, Call, called, lent, sheet_after, answers, sheet_left}
use Rattle.edit.proofs.Refusals.{rule_refuses, rule_proper}
use Rattle.edit.proofs.Keeps.{rule_valid}

-- what the plain part says of an edit: refused by a number that is not 0, or a valid polygon is held
abbrev Fair : Reading → Type 0
Fair (refused k) = 0 < k
Fair (held q) = Valid q

rule_fair : (e : Edit) (p : Polygon) → Valid p → Fair (rule e p)
rule_fair e p A = go (rule e p) refl (rule_refuses e p)
  where
    go : (r : Reading) → rule e p ≡ r → RefusedBy (rule_tests e) r → Fair r
    go r x (by m) = (all_mem (rule_proper e) m).0
    go r x holds = rule_valid e p x A

-- the sheet after it
abbrev sheet_of : List ℕ → Reading → List ℕ
sheet_of s (refused k) = s
sheet_of s (held q) = normal_sheet q

-- the answer of a call that reads the sheet s agrees with what the plain part says
record Agrees (s : List ℕ) (a : Answer) (m : Reading) : Type 0 where
  number : a.number ≡ number_given m
  sheet : sheet_after s a ≡ sheet_of s m
  fair : Fair m

written_agrees : (s out : List ℕ) (r : Reading) → Fair r → Agrees s (written (outcome r) out) (fitting (length out) r)
unfolding written fit outcome fitting ask number_given sheet_after
written_agrees s out (refused k) f = record { number = refl; sheet = choose_no _ _ (omega arith); fair = f }
written_agrees s out (held q) A = go (dec_le (length (normal_sheet q)) (length out))
  where
    go : (d : Dec (length (normal_sheet q) ≤ length out)) → Agrees s (fit d (normal_sheet q) out) (ask 8 d (held q))
    go (yes h) = record { number = refl; sheet = choose_yes _ _ refl ∙ take-append_seam (normal_sheet q) _; fair = A }
    go (no h) = record { number = refl; sheet = choose_no _ _ (omega arith); fair = omega arith }

call_agrees : (s : List ℕ) (p : Polygon) (c : Call) → Valid p → read_sheet s ≡ held p → Agrees s (called s c) (step p c.edit (length c.out))
unfolding called edited on_held step
call_agrees s p c A e = rw e (written_agrees s c.out (rule c.edit p) (rule_fair c.edit p A))

-- from a normal sheet the sheet left is the normal sheet, whether an edit was taken or not
from_normal : (p : Polygon) (xs : List (Edit × ℕ)) → model_sheet (normal_sheet p) p xs ≡ normal_sheet (left p xs)
unfolding model_sheet chosen taken left is_taken after
from_normal p [] = refl
from_normal p (x ∷ xs) = go (step p x.0 x.1) (from_normal p xs)
  where
    go : (m : Reading) → model_sheet (normal_sheet p) p xs ≡ normal_sheet (left p xs)
        → chosen (is_taken m || taken (after p m) xs) (normal_sheet (left (after p m) xs)) (normal_sheet p) ≡ normal_sheet (left (after p m) xs)
    go (refused k) h = h
    go (held q) h = refl

-- THE LIST OF EDITS. s is the first sheet, p the part that it holds, cs the calls: edits with the bytes of the outputs lent.
pub record Follows (s : List ℕ) (p : Polygon) (cs : List Call) : Type 0 where
  -- each edit's number is the plain part's, which is fed the edits and the lengths of the outputs
  pub same_numbers : answers s cs ≡ model_numbers p (map lent cs)
  -- the sheet left is the plain part's normal sheet, or s if no edit was taken
  pub same_sheet : sheet_left s cs ≡ model_sheet s p (map lent cs)
  -- the part that the plain part is left with is valid, and it is what an operation reads from the sheet left
  pub valid : Valid (left p (map lent cs))
  pub reads : read_sheet (sheet_left s cs) ≡ held (left p (map lent cs))

-- the sheet of one edit, and then of the rest
one_then_rest : (s : List ℕ) (p : Polygon) (m : Reading) (xs : List (Edit × ℕ))
    → model_sheet (sheet_of s m) (after p m) xs ≡ chosen (is_taken m || taken (after p m) xs) (normal_sheet (left (after p m) xs)) s
unfolding model_sheet chosen is_taken after
one_then_rest s p (refused k) xs = refl
one_then_rest s p (held q) xs = from_normal q xs

follows : (cs : List Call) (s : List ℕ) (p : Polygon) → Valid p → read_sheet s ≡ held p → Follows s p cs
unfolding answers model_numbers sheet_left model_sheet chosen taken left after
follows [] s p A e = record { same_numbers = refl; same_sheet = refl; valid = A; reads = e }
follows (c ∷ cs) s p A e =
    let m = step p c.edit (length c.out) in
    let G = call_agrees s p c A e in
    let R = rest m G (follows cs) in
    record {
      same_numbers = ap₂ ◌∷◌ G.number R.same_numbers;
      same_sheet = R.same_sheet ∙ (ap (λ t. model_sheet t (after p m) (map lent cs)) G.sheet ∙ one_then_rest s p m (map lent cs));
      valid = R.valid;
      reads = R.reads;
    }
  where
    rest : (m : Reading) → Agrees s (called s c) m → ((s : List ℕ) (p : Polygon) → Valid p → read_sheet s ≡ held p → Follows s p cs) → Follows (sheet_after s (called s c)) (after p m) cs
    rest (refused k) G ih = rw G.sheet (ih s p A e)
    rest (held q) G ih = rw G.sheet (ih (normal_sheet q) q G.fair (read_back q G.fair))

pub list_of_edits : (s : List ℕ) (p : Polygon) → read_sheet s ≡ held p → (cs : List Call) → Follows s p cs
list_of_edits s p e cs = follows cs s p (read_valid s p e) e

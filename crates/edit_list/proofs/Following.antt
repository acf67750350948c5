-- The calls that a run makes, and what follows of it from the list of edits (`list_of_edits` of the crate edit).
use mathlib.Core.Path.{◌≡◌, refl, ap, ap₂, sym, ◌∙◌}
use mathlib.Core.List.{List, ◌∷◌, map}
use Prim.Native.Nat.{ℕ, ◌≤◌}
use native.Mathlib.Decide.{ℕ_discrete}
use lib.ListN.{length}
use Rattle.lists.specs.Lists.{All, all_cons, all_nil, choose}
use Rattle.polygon.specs.Polygon.{Polygon}
use Rattle.sheet.specs.Sheet.{read_sheet, held}
use Rattle.edit.specs.Rules.{Edit}
use Rattle.edit.specs.Model.{model_numbers, model_sheet}
use Rattle.edit.specs.Calls.{lent, answers, sheet_left}
use Rattle.edit.proofs.List.{list_of_edits}
use Rattle.edit_list.specs.Script.{script_of, fault_of}
use Rattle.edit_list.specs.Desk.{placed, Desk, begin, current, answer_of, desk_step, desk_after, numbers_of, calls_of}
use Rattle.edit_list.specs.Result.{Result, numbered, finished, unchanged, result_of, AsModel}
use Rattle.edit_list.proofs.Tests.{fault_rooms, script_rooms}
use Rattle.edit_list.proofs.Within.{Sound, step_sound, step_reads, lent_asked}

-- at first no sheet lies in a buffer
pub begin_sound : (first front back : List ℕ) → Sound (length front) (length back) (begin first front back)
begin_sound first front back = record { front_length = refl; back_length = refl; lies = λ h. absurd (h refl) }

-- the run is the list of its calls
pub record Calling (first : List ℕ) (d : Desk) (xs : List (Edit × ℕ)) : Type 0 where
  pub call_numbers : answers (current first d) (calls_of first d xs) ≡ numbers_of first d xs
  pub call_sheet : sheet_left (current first d) (calls_of first d xs) ≡ current first (desk_after first d xs)
  pub call_edits : map lent (calls_of first d xs) ≡ xs

calling : (first : List ℕ) {front back : ℕ} (d : Desk) {xs : List (Edit × ℕ)} → Sound front back d → All (λ x. (x.1 ≤ front) × (x.1 ≤ back)) xs → Calling first d xs
unfolding answers sheet_left desk_after numbers_of calls_of answer_of
calling first d D all_nil = record { call_numbers = refl; call_sheet = refl; call_edits = refl }
calling first d D (all_cons {x} {l} s a) =
    let next = step_reads first d x D s in
    let C = calling first (desk_step first d x) (step_sound first d x D s) a in
    record {
      call_numbers = ap (λ (ns : List ℕ). (answer_of first d x).number ∷ ns) (ap (λ (t : List ℕ). answers t (calls_of first (desk_step first d x) l)) (sym next) ∙ C.call_numbers);
      call_sheet = ap (λ (t : List ℕ). sheet_left t (calls_of first (desk_step first d x) l)) (sym next) ∙ C.call_sheet;
      call_edits = ap₂ ◌∷◌ (ap (λ (n : ℕ). (x.0, n)) (lent_asked first d x D s)) C.call_edits;
    }

finished_model : (first list front back outs : List ℕ) (p : Polygon) → read_sheet first ≡ held p → fault_of list (length front) (length back) (length outs) ≡ 0
    → AsModel first p list outs (finished first list front back outs)
unfolding finished placed
finished_model first list front back outs p e f =
    let d = begin first front back in
    let C = calling first d (begin_sound first front back) (script_rooms list _ _ (fault_rooms list (length front) (length back) (length outs) f)) in
    let F = list_of_edits first p e (calls_of first d (script_of list)) in
    record {
      same_numbers = ap (λ (ns : List ℕ). numbered ns outs) (sym C.call_numbers ∙ (F.same_numbers ∙ ap (model_numbers p) C.call_edits));
      same_sheet = sym C.call_sheet ∙ (F.same_sheet ∙ ap (model_sheet first p) C.call_edits);
    }

-- THE LIST OF EDITS, RUN. From a first sheet that holds p, a run that is not refused writes the plain part's numbers and leaves the plain part's sheet.
pub run_follows : (first list front back outs : List ℕ) (p : Polygon) → read_sheet first ≡ held p → (result_of first list front back outs).number ≡ 0
    → AsModel first p list outs (result_of first list front back outs)
unfolding result_of choose
run_follows first list front back outs p e = go _ (finished_model first list front back outs p e) (ℕ_discrete _ 0)
  where
    go : (k : ℕ) → (k ≡ 0 → AsModel first p list outs (finished first list front back outs)) → (d : Dec (k ≡ 0))
        → (choose d (finished first list front back outs) (unchanged k front back outs)).number ≡ 0 → AsModel first p list outs (choose d (finished first list front back outs) (unchanged k front back outs))
    go k f (yes z) h = f z
    go k f (no z) h = absurd (z h)

pub ran_model : (first list front back outs : List ℕ) (r : Result) → r ≡ result_of first list front back outs
    → (p : Polygon) → read_sheet first ≡ held p → r.number ≡ 0 → AsModel first p list outs r
ran_model first list front back outs r q p e z = rw q (run_follows first list front back outs p e (rw q at z))

-- Request (xii) is proved: what is read of a sheet settles every answer, and nothing of bit 2 is read but its length.
use mathlib.Core.Path.{◌≡◌, refl, ap, ap₂, sym, ◌∙◌}
use mathlib.Core.List.{List, [], ◌∷◌, map}
use Prim.Native.Nat.{ℕ}
use lib.ListN.{take}
use native.Mathlib.Decide.{ℕ_discrete}
use Rattle.lists.specs.Lists.{choose}
use Rattle.polygon.specs.Polygon.{Polygon}
use Rattle.polygon.specs.Order.{lower_first}
use Rattle.codec.specs.Answer.{Answer}
use Rattle.sheet.specs.Sheet.{Reading, refused, held, read_sheet, normal_sheet, outcome, ordered}
use Rattle.sheet.proofs.Hand.{bared}
use Rattle.sheet.proofs.Normal.{map_byte_lem}
use Rattle.sheet.proofs.Back.{normal_map}
use Rattle.sheet.proofs.Skipped.{skips, same_reading, only_there}
use Rattle.edit.specs.Rules.{rule}
use Rattle.edit.specs.Model.{left, chosen, model_sheet}
use Rattle.edit.specs.Calls.{on_held, edited, Call, called, lent, sheet_after, answers, sheet_left}
use Rattle.seam.specs.Join.{join_rule, joined_sheets}
use Rattle.cut.specs.Cut.{cuttable, halved, cut_sheet}
use Rattle.cut.proofs.Theorems.{cut_wrote}
use Rattle.edit.proofs.List.{list_of_edits}
use Rattle.log_line.specs.Line.{line}
use Rattle.chart_reader.specs.Reader.{read_chart, chart_read}
use Rattle.promises.proofs.SameDrawing.{drawn_alike}
use Rattle.promises.proofs.Runs.{alike_called, run_alike}
use Rattle.promises.specs.PartNumbers.{NoBit2, WritesNone, SameAnswers, LeftBy, PartNumbersGo}

normal_bare : (p : Polygon) → NoBit2 (normal_sheet p)
normal_bare p = rw (normal_map p) (map_byte_lem p.n p.angles).bare

outcome_bare : (r : Reading) → WritesNone (outcome r)
unfolding outcome
outcome_bare (refused k) = tt
outcome_bare (held p) = normal_bare p

-- two sheets that are read alike: an edit answers alike, and the sheets after it are read alike
alike_after : (s t : List ℕ) (a : Answer) → read_sheet s ≡ read_sheet t → read_sheet (sheet_after s a) ≡ read_sheet (sheet_after t a)
unfolding sheet_after choose
alike_after s t a e = go (ℕ_discrete a.number 0)
  where
    go : (d : Dec (a.number ≡ 0)) → read_sheet (choose d (take a.size a.bytes) s) ≡ read_sheet (choose d (take a.size a.bytes) t)
    go (yes h) = refl
    go (no h) = e

alike_list : (cs : List Call) (s t : List ℕ) → read_sheet s ≡ read_sheet t → (answers s cs ≡ answers t cs) × (read_sheet (sheet_left s cs) ≡ read_sheet (sheet_left t cs))
unfolding answers sheet_left
alike_list [] s t e = (refl, e)
alike_list (c ∷ cs) s t e =
    let a : called s c ≡ called t c = alike_called s t c e in
    let L = alike_list cs (sheet_after s (called s c)) (sheet_after t (called t c)) (alike_after s t (called s c) e ∙ ap (λ (x : Answer). read_sheet (sheet_after t x)) a) in
    (ap₂ ◌∷◌ (ap (λ (x : Answer). x.number) a) L.0, L.1)

-- what is read of a sheet settles every answer
alike_answers : (s t : List ℕ) → read_sheet s ≡ read_sheet t → SameAnswers s t
unfolding ordered edited joined_sheets cut_sheet
alike_answers s t e = record {
  order = ap outcome e;
  edit = λ x. ap (λ (r : Reading). outcome (on_held r (rule x))) e;
  join_first = λ u i. ap (λ (r : Reading). outcome (on_held r (λ p. on_held (read_sheet u) (join_rule i p)))) e;
  join_second = λ u i. ap (λ (r : Reading). outcome (on_held (read_sheet u) (λ p. on_held r (join_rule i p)))) e;
  cut = λ a b. ap (λ (r : Reading). halved (lower_first (a, b)) (on_held r (cuttable a b))) e;
  drawing = drawn_alike s t (ap bared e);
  run = run_alike s t e;
  numbers = λ cs. (alike_list cs s t e).0;
  left = λ cs. (alike_list cs s t e).1;
}

left_by : (s : List ℕ) (p : Polygon) → read_sheet s ≡ held p → (cs : List Call) → LeftBy s p cs
unfolding model_sheet chosen
left_by s p e cs =
    let F = list_of_edits s p e cs in
    record {
      none_taken = λ h. F.same_sheet ∙ rw h;
      some_taken = λ h. rw (F.same_sheet, h) (normal_bare (left p (map lent cs)));
    }

pub part_numbers_go : PartNumbersGo
unfolding ordered edited joined_sheets chart_read line
part_numbers_go = record {
  order = λ s. outcome_bare (read_sheet s);
  edit = λ e s. outcome_bare (on_held (read_sheet s) (rule e));
  read_chart_lem = λ c. outcome_bare (read_chart c);
  join = λ s t i. outcome_bare (on_held (read_sheet s) (λ p. on_held (read_sheet t) (join_rule i p)));
  cut = λ s t u a b w. (let (p, d, n, o) = cut_wrote s a b w in (rw (sym n) (normal_bare _), rw (sym o) (normal_bare _)));
  skips = λ s. sym (skips s);
  log = λ f. refl;
  there = only_there;
  same = λ s t e. alike_answers s t (same_reading s t e);
  list = left_by;
}

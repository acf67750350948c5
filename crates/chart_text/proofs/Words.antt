-- The words of a stroke, as the code reads it in the bytes: where it stands, how it is found, its corners.
-- Rests on the cells that a stroke runs between (crate chart_reader).
use mathlib.Core.Path.{◌≡◌, ap}
use Rattle.std.specs.Prelude.{Some, None}
use mathlib.Core.List.{List, [], ◌∷◌, ◌++◌}
use Prim.Native.Nat.{ℕ, ◌+◌, ◌<◌, ◌≤◌}
use native.Mathlib.Omega.{arith}
use lib.ListN.{length}
use Rattle.polygon.specs.Polygon.{◌—◌, Diagonal}
use Rattle.polygon.specs.Order.{diagonal?}
use Rattle.lists.proofs.Lists.{choose_no, choose_yes}
use Rattle.keys.specs.Keys.{key_of, edge_of}
use Rattle.keys.proofs.InOrder.{edge_of_key}
use Rattle.chart.specs.declared.Stroke as code
use Rattle.chart.specs.Chart.{Chart}
use Rattle.chart.specs.Decode.{stroke_of}
use Rattle.log_line.specs.Line.{decimal, corners_word}
use Rattle.log_line.specs.Put.{Put}
use Rattle.log_line.proofs.Putting.{put_then}
use Rattle.nearest.specs.declared.Cell.{Cell}
use Rattle.chart_reader.specs.declared.Ends.{Ends}
use Rattle.chart_reader.specs.Held.{EndsOf}
use Rattle.chart_reader.proofs.Stroked.{edge_of_lem}
use Rattle.chart_text.specs.Text.{line_word, level_word, to_word, bend_word, side_word, leaves, arrives, stroke_name, edge_name, stroke_line}
use Rattle.chart_text.proofs.Lines.{field_end}

module _ (c : Chart) (t : code.Stroke) {e : Ends} (E : EndsOf c t e) where
  -- a level stroke runs from the column that it leaves to the column that it arrives at
  module _ (l : t.column ≡ None) where
    left_at_lem : e.first.column ≡ leaves c (t.a — t.b)
    left_at_lem = ap (λ (x : Cell × Cell). x.0.column) (rw l at E.same)

    right_at_lem : e.last.column ≡ arrives c (t.a — t.b)
    right_at_lem = ap (λ (x : Cell × Cell). x.1.column) (rw l at E.same)

    pub level_put : {o₀ o₁ : List ℕ} {a b : ℕ} → Put ((level_word ++ decimal e.first.column) ++ (to_word ++ decimal e.last.column)) o₀ a o₁ b → Put (stroke_name c (stroke_of t)) o₀ a o₁ b
    unfolding stroke_name
    level_put q = rw l (rw (left_at_lem, right_at_lem) at q)

  -- an upright stands in its column
  module _ {j : ℕ} (u : t.column ≡ Some j) where
    column_at : e.first.column ≡ j
    column_at = ap (λ (x : Cell × Cell). x.0.column) (rw u at E.same)

    pub line_put : {o₀ o₁ : List ℕ} {a b : ℕ} → Put (line_word ++ decimal e.first.column) o₀ a o₁ b → Put (stroke_name c (stroke_of t)) o₀ a o₁ b
    unfolding stroke_name
    line_put q = rw u (rw column_at at q)

-- the corners a and b, of at most four digits, and then the word by whether their key is that of a diagonal
module _ (n a b : ℕ) (low : a < 1024) (high : b < 1024) {o₀ o₁ o₂ o₃ : List ℕ} {x y z e : ℕ} (p : Put (corners_word ++ decimal a) o₀ x o₁ y) (q : Put ((32 ∷ []) ++ decimal b) o₁ y o₂ z) where
  word_end : (word : List ℕ) → length word ≤ 6 → Put word o₂ z o₃ e → e ≤ x + 24
  word_end word h w = omega (arith, w.end, field_end corners_word 3 a (omega arith) p, field_end (32 ∷ []) 3 b (omega arith) q)

  pub bend_put : Diagonal n (edge_of (key_of (a — b))) → Put bend_word o₂ z o₃ e → Put (edge_name n (a — b)) o₀ x o₃ e × (e ≤ x + 24)
  unfolding edge_name
  bend_put d w = (rw (choose_yes (diagonal? n (a — b)) side_word (rw (edge_of_key (a — b) high) at d)) (put_then p (put_then q w)), word_end bend_word (omega arith) w)

  pub side_put : ¬ Diagonal n (edge_of (key_of (a — b))) → Put side_word o₂ z o₃ e → Put (edge_name n (a — b)) o₀ x o₃ e × (e ≤ x + 24)
  unfolding edge_name
  side_put f w = (rw (choose_no (diagonal? n (a — b)) bend_word (rw (edge_of_key (a — b) high) at f)) (put_then p (put_then q w)), word_end side_word (omega arith) w)

-- the name of a stroke, and then its corners
pub stroke_put : (c : Chart) (t : code.Stroke) {n : ℕ} {o₀ o₁ : List ℕ} {x y : ℕ} → n ≡ c.n
    → Put (stroke_name c (stroke_of t) ++ edge_name n (t.a — t.b)) o₀ x o₁ y → Put (stroke_line c (stroke_of t)) o₀ x o₁ y
unfolding stroke_line
stroke_put c t e q = rw (edge_of_lem t) (rw e at q)

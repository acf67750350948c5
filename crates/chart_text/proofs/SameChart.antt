-- Two charts with the same numbers have the same lines and the same bytes. (The bars beyond the corners do not matter.)
use mathlib.Core.Path.{◌≡◌, refl, ap, ap₂, ◌∙◌}
use mathlib.Core.List.{List, ◌∷◌, ◌++◌, map, flat_map}
use native.Mathlib.Omega.{arith}
use Rattle.lists.specs.Lists.{All, all_cons, all_nil, below}
use Rattle.lists.proofs.Lists.{all_imp}
use Rattle.lists.proofs.Places.{below_all}
use Rattle.chart.specs.Chart.{Stroke, upright, level, stroke_edge, Chart, bars_of}
use Rattle.chart.specs.Bytes.{bytes_of}
use Rattle.chart_reader.specs.Rules.{Named}
use Rattle.chart_reader.proofs.Same.{SameNumbers}
use Rattle.chart_text.specs.Text.{corner_line, corner_lines, standing, stroke_name, stroke_line, insert_stroke, left_to_right, stroke_lines}
use Rattle.chart_text.proofs.Order.{order_all}

-- lists made of equal parts
map_same : {A B : Type 0} {f g : A → B} {xs : List A} → All (λ x. f x ≡ g x) xs → map f xs ≡ map g xs
map_same all_nil = refl
map_same (all_cons e a) = ap₂ ◌∷◌ e (map_same a)

flat_same : {A B : Type 0} {f g : A → List B} {xs : List A} → All (λ x. f x ≡ g x) xs → flat_map f xs ≡ flat_map g xs
unfolding flat_map
flat_same all_nil = refl
flat_same (all_cons e a) = ap₂ ◌++◌ e (flat_same a)

module _ (d c : Chart) (S : SameNumbers d c) where
  -- the bars
  bars_same : All (λ x. d.bar x ≡ c.bar x) (below c.n)
  bars_same = below_all c.n S.bars

  pub same_bytes : bytes_of d ≡ bytes_of c
  unfolding bytes_of bars_of
  same_bytes = rw (S.rows, S.columns, S.corners, map_same bars_same, S.strokes)

  pub same_corners : corner_lines d ≡ corner_lines c
  unfolding corner_lines
  same_corners = rw S.corners (flat_same (all_imp (λ x e. ap (corner_line x) e) bars_same))

  -- the strokes
  same_standing : (s : Stroke) → Named c s → standing d s ≡ standing c s
  unfolding stroke_edge
  same_standing (upright e j) N = refl
  same_standing (level e) N = rw (S.bars e.0 (omega arith), S.bars e.1 (omega arith))

  same_line : (s : Stroke) → Named c s → stroke_line d s ≡ stroke_line c s
  unfolding stroke_edge stroke_line stroke_name
  same_line (upright e j) N = rw S.corners
  same_line (level e) N = rw (S.corners, S.bars e.0 (omega arith), S.bars e.1 (omega arith))

  same_enter : (s : Stroke) → Named c s → {ts : List Stroke} → All (Named c) ts → insert_stroke d s ts ≡ insert_stroke c s ts
  unfolding insert_stroke
  same_enter s N all_nil = refl
  same_enter s N (all_cons {x} M a) = rw (same_standing s N, same_standing x M, same_enter s N a)

  same_order : {ss : List Stroke} → All (Named c) ss → left_to_right d ss ≡ left_to_right c ss
  unfolding left_to_right
  same_order all_nil = refl
  same_order (all_cons {x} N a) = rw (same_order a) (same_enter x N (order_all c a))

  pub same_strokes : All (Named c) c.strokes → stroke_lines d ≡ stroke_lines c
  unfolding stroke_lines
  same_strokes N =
      let order : left_to_right d d.strokes ≡ left_to_right c c.strokes = ap (left_to_right d) S.strokes ∙ same_order N in
      ap (flat_map (stroke_line d)) order ∙ flat_same (all_imp same_line (order_all c N))

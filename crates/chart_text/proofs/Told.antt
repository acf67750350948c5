-- What the lines of a text tell: a corner's line its bar, a stroke's line the stroke. Two texts that are the same and begin with such a line tell the same.
-- Rests on reading numbers in decimal (crate log_line).
use mathlib.Core.Path.{◌≡◌, refl, ap, ap₂, sym}
use mathlib.Core.List.{List, [], ◌∷◌, ◌++◌, map, flat_map, append_assoc, append_cancel_left}
use Prim.Native.Nat.{ℕ, ◌<◌}
use native.Mathlib.Omega.{arith}
use lib.ListN.{drop, get_or}
use Rattle.lists.specs.Lists.{All, all_cons, all_nil, below, choose}
use Rattle.lists.proofs.Lists.{all_both}
use Rattle.lists.proofs.Places.{below_all, below_at}
use Rattle.polygon.specs.Polygon.{Edge, Ascending}
use Rattle.polygon.specs.Order.{diagonal?}
use Rattle.chart.specs.Chart.{Bar, Stroke, upright, level, stroke_edge, Chart}
use Rattle.chart.specs.Bytes.{StrokeFits, Fits}
use Rattle.log_line.specs.Line.{decimal}
use Rattle.log_line.proofs.Reading.{number_told}
use Rattle.chart_reader.specs.Rules.{Named}
use Rattle.chart_text.specs.Text.{to_word, level_word, bend_word, side_word, corner_line, corner_lines, leaves, arrives, stroke_name, edge_name, stroke_line, left_to_right, stroke_lines}
use Rattle.chart_text.proofs.Order.{order_all, order_tells}

-- numbers of two bytes, in front of two texts that are the same
module _ (a b : ℕ) (h : a < 65536) (k : b < 65536) (x : ℕ) (l : x < 48) (us vs xs ys : List ℕ) where
  small_told : (decimal a ++ (x ∷ us)) ++ xs ≡ (decimal b ++ (x ∷ vs)) ++ ys → (a ≡ b) × ((x ∷ us) ++ xs ≡ (x ∷ vs) ++ ys)
  small_told = number_told a b (omega arith) (omega arith) x l us vs xs ys

abbrev EdgeFits : Edge → Type 0
EdgeFits e = (e.0 < 65536) × (e.1 < 65536)

-- a corner's line
abbrev BarFits : Bar → Type 0
BarFits b = (b.row < 65536) × (b.left < 65536) × (b.right < 65536)

corner_told : (x : ℕ) (a b : Bar) (xs ys : List ℕ) → x < 65536 → BarFits a → BarFits b → corner_line x a ++ xs ≡ corner_line x b ++ ys → (a ≡ b) × (xs ≡ ys)
unfolding corner_line
corner_told x a b xs ys h A B e =
    let n = small_told x x h h 32 (omega arith) _ _ xs ys (ap (drop 7) e) in
    let r = small_told a.row b.row A.0 B.0 32 (omega arith) _ _ xs ys (ap (drop 5) n.1) in
    let f = small_told a.left b.left A.1 B.1 32 (omega arith) _ _ xs ys (ap (drop 9) r.1) in
    let g = small_told a.right b.right A.2 B.2 10 (omega arith) _ _ xs ys (ap (drop 4) f.1) in
    (λ i. record { row = r.0 i; left = f.0 i; right = g.0 i }, ap (drop 1) g.1)

-- the corners' lines
module _ (f g : ℕ → Bar) (xs ys : List ℕ) where
  corners_go : (is : List ℕ) → All (λ x. (x < 65536) × BarFits (f x) × BarFits (g x)) is
      → flat_map (λ x. corner_line x (f x)) is ++ xs ≡ flat_map (λ x. corner_line x (g x)) is ++ ys → All (λ x. f x ≡ g x) is × (xs ≡ ys)
  unfolding flat_map
  corners_go [] all_nil e = (all_nil, e)
  corners_go (x ∷ is) (all_cons h a) e =
      let us : List ℕ = flat_map (λ x. corner_line x (f x)) is in
      let vs : List ℕ = flat_map (λ x. corner_line x (g x)) is in
      let d : corner_line x (f x) ++ (us ++ xs) ≡ corner_line x (g x) ++ (vs ++ ys) = rw (append_assoc (corner_line x (f x)) us xs, append_assoc (corner_line x (g x)) vs ys) at e in
      let r = corner_told x (f x) (g x) (us ++ xs) (vs ++ ys) h.0 h.1 h.2 d in
      let t = corners_go is a r.1 in
      (all_cons r.0 t.0, t.1)

-- the corners' lines of two charts with as many corners
module _ (c d : Chart) (F : Fits c) (G : Fits d) (n : c.n ≡ d.n) where
  small : (x : ℕ) → x < d.n → (x < 65536) × BarFits (c.bar x) × BarFits (d.bar x)
  small x h = (omega (arith, G.corners), F.bars x (omega arith), G.bars x h)

  corners_told : (xs ys : List ℕ) → corner_lines c ++ xs ≡ corner_lines d ++ ys → ((x : ℕ) → x < d.n → c.bar x ≡ d.bar x) × (xs ≡ ys)
  unfolding corner_lines
  corners_told xs ys e =
      let a = below_all d.n small in
      let r = corners_go c.bar d.bar xs ys (below d.n) a (rw n at e) in
      (below_at r.0, r.1)

-- the corners of an edge, and the word behind them, which begins with a blank
choose_word : {P : Type 0} (d : Dec P) (x : ℕ) (us vs : List ℕ) → choose d (x ∷ us) (x ∷ vs) ≡ x ∷ choose d us vs
unfolding choose
choose_word (yes p) x us vs = refl
choose_word (no p) x us vs = refl

edge_told : (n : ℕ) (e f : Edge) (xs ys : List ℕ) → EdgeFits e → EdgeFits f → edge_name n e ++ xs ≡ edge_name n f ++ ys → (e ≡ f) × (xs ≡ ys)
unfolding edge_name
edge_told n e f xs ys E F h =
    let a = small_told e.0 f.0 E.0 F.0 32 (omega arith) _ _ xs ys (ap (drop 9) h) in
    let k = rw (choose_word (diagonal? n e) 32 (drop 1 bend_word) (drop 1 side_word), choose_word (diagonal? n f) 32 (drop 1 bend_word) (drop 1 side_word)) at a.1 in
    let b = small_told e.1 f.1 E.1 F.1 32 (omega arith) _ _ xs ys (ap (drop 1) k) in
    let same : e ≡ f = λ i. (a.0 i, b.0 i) in
    let word : List ℕ = choose (diagonal? n f) (drop 1 bend_word) (drop 1 side_word) in
    (same, append_cancel_left word xs ys (rw same at (ap (drop 1) b.1)))

-- a stroke's line, and the numbers in it
abbrev StrokeShort : Chart → Stroke → Type 0
StrokeShort c (upright e j) = EdgeFits e × (j < 65536)
StrokeShort c (level e) = EdgeFits e × (leaves c e < 65536) × (arrives c e < 65536)

level_line : (c : Chart) (e : Edge) → stroke_line c (level e) ≡ level_word ++ (decimal (leaves c e) ++ (to_word ++ (decimal (arrives c e) ++ edge_name c.n e)))
unfolding stroke_line stroke_name stroke_edge
level_line c e = ap (λ (l : List ℕ). level_word ++ l) (append_assoc (decimal (leaves c e)) (to_word ++ decimal (arrives c e)) (edge_name c.n e))

module _ (c d : Chart) (n : c.n ≡ d.n) (xs ys : List ℕ) where
  level_told : (e f : Edge) → StrokeShort c (level e) → StrokeShort d (level f) → stroke_line c (level e) ++ xs ≡ stroke_line d (level f) ++ ys → (level e ≡ level f) × (xs ≡ ys)
  unfolding edge_name
  level_told e f S T h =
      let g = rw (level_line c e, level_line d f) at h in
      let a = small_told (leaves c e) (leaves d f) S.1 T.1 32 (omega arith) _ _ xs ys (ap (drop 6) g) in
      let b = small_told (arrives c e) (arrives d f) S.2 T.2 32 (omega arith) _ _ xs ys (ap (drop 4) a.1) in
      let r = edge_told d.n e f xs ys S.0 T.0 (rw n at b.1) in
      (ap level r.0, r.1)

  stroke_told : (s t : Stroke) → StrokeShort c s → StrokeShort d t → stroke_line c s ++ xs ≡ stroke_line d t ++ ys → (s ≡ t) × (xs ≡ ys)
  unfolding stroke_line stroke_name stroke_edge edge_name
  stroke_told (upright e j) (upright f k) S T h =
      let a = small_told j k S.1 T.1 32 (omega arith) _ _ xs ys (ap (drop 5) h) in
      let b = edge_told d.n e f xs ys S.0 T.0 (rw n at a.1) in
      (ap₂ upright b.0 a.0, b.1)
  stroke_told (upright e j) (level f) S T h = absurd (let z : ◌≡◌ {A = ℕ} 105 101 = ap (λ (l : List ℕ). get_or l 1 0) h in omega arith)
  stroke_told (level e) (upright f k) S T h = absurd (let z : ◌≡◌ {A = ℕ} 101 105 = ap (λ (l : List ℕ). get_or l 1 0) h in omega arith)
  stroke_told (level e) (level f) S T h = level_told e f S T h

-- a stroke's line is not empty
line_there : (c : Chart) (xs : List ℕ) (s : Stroke) → [] ≡ stroke_line c s ++ xs → ⊥
unfolding stroke_line stroke_name
line_there c xs (upright e j) h = let z : ◌≡◌ {A = ℕ} 0 108 = ap (λ (l : List ℕ). get_or l 0 0) h in omega arith
line_there c xs (level e) h = let z : ◌≡◌ {A = ℕ} 0 108 = ap (λ (l : List ℕ). get_or l 0 0) h in omega arith

-- the strokes' lines, to the end of the text
module _ (c d : Chart) (n : c.n ≡ d.n) where
  strokes_told : (ss ts : List Stroke) → All (StrokeShort c) ss → All (StrokeShort d) ts → flat_map (stroke_line c) ss ≡ flat_map (stroke_line d) ts → ss ≡ ts
  unfolding flat_map
  strokes_told [] [] S T h = refl
  strokes_told [] (t ∷ ts) S T h = absurd (line_there d (flat_map (stroke_line d) ts) t h)
  strokes_told (s ∷ ss) [] S T h = absurd (line_there c (flat_map (stroke_line c) ss) s (sym h))
  strokes_told (s ∷ ss) (t ∷ ts) (all_cons p S) (all_cons q T) h =
      let r = stroke_told c d n (flat_map (stroke_line c) ss) (flat_map (stroke_line d) ts) s t p q h in
      ap₂ ◌∷◌ r.0 (strokes_told ss ts S T r.1)

-- a chart whose numbers fit two bytes, with strokes between its corners, ascending
pub record Readable (c : Chart) : Type 0 where
  pub fits : Fits c
  pub named : All (Named c) c.strokes
  pub ascending : Ascending (map stroke_edge c.strokes)

stroke_short : (c : Chart) → Fits c → (s : Stroke) → Named c s → StrokeFits s → StrokeShort c s
unfolding stroke_edge StrokeFits
stroke_short c F (upright e j) N S = ((omega arith, omega arith), omega arith)
stroke_short c F (level e) N S =
    let a = F.bars e.0 (omega arith) in
    let b = F.bars e.1 (omega arith) in
    ((omega arith, omega arith), omega arith, omega arith)

lines_short : (c : Chart) → Readable c → All (StrokeShort c) (left_to_right c c.strokes)
lines_short c R = order_all c (all_both (stroke_short c R.fits) R.named R.fits.strokes)

-- Two charts with as many corners and the same lines have the same bars and the same strokes.
pub lines_tell : (c d : Chart) → Readable c → Readable d → c.n ≡ d.n → corner_lines c ++ stroke_lines c ≡ corner_lines d ++ stroke_lines d
    → ((x : ℕ) → x < d.n → c.bar x ≡ d.bar x) × (c.strokes ≡ d.strokes)
unfolding stroke_lines
lines_tell c d R T n e =
    let r = corners_told c d R.fits T.fits n (stroke_lines c) (stroke_lines d) e in
    let o = strokes_told c d n (left_to_right c c.strokes) (left_to_right d d.strokes) (lines_short c R) (lines_short d T) r.1 in
    (r.0, order_tells c d c.strokes d.strokes R.ascending T.ascending o)

-- The rows of a piece's inner corners, each with its corner: how many they are, and what is known of parts of them.
-- Rests on the definition of rows alone.
use mathlib.Core.Path.{◌≡◌, refl, sym, ◌∙◌, ap, subst}
use mathlib.Core.List.{List, [], ◌∷◌, ◌++◌, map}
use Prim.Native.Nat.{ℕ, suc, ◌+◌, ◌≤◌, ◌<◌}
use native.Mathlib.Omega.{arith}
use lib.ListN.{length, get_or, length-append, length-map, get_or-append}
use lib.Seq.{get_or_at}
use Rattle.lists.specs.Lists.{Mem, head, tail}
use Rattle.lists.proofs.Lists.{here, mem_left, mem_right, not_empty, mem_map}
use Rattle.polygon.specs.Tree.{Tree, span}
use Rattle.umbrella.specs.Plan.{Plan, none, plain, stem_left, stem_right, LeftRim, left_end, left_on, RightRim, right_end, right_on, LeftGate, left_gate, left_past, RightGate, right_gate, right_past, Stem, end_both, end_left, end_right, go_left, go_right}
use Rattle.chart.specs.Chart.{corner_rows}
use Rattle.chart.specs.Places.{rows, left_rows, right_rows, left_gate_rows, right_gate_rows, stem_rows}
use Rattle.chart.proofs.Cells.{Cell, row_by}

-- the cells of the corners from a on, on these rows
unfoldable pub label : ℕ → List ℕ → List Cell
label a [] = []
label a (r ∷ rs) = (a, r) ∷ label (suc a) rs

-- R holds of those cells
pub record Knows (R : Cell → Type 0) (a : ℕ) (rs : List ℕ) : Type 0 where
  pub all : (z : Cell) → Mem z (label a rs) → R z

label_append : (a : ℕ) (xs ys : List ℕ) → label a (xs ++ ys) ≡ label a xs ++ label (a + length xs) ys
unfolding label
label_append a [] ys = ap (λ (b : ℕ). label b ys) (omega arith)
label_append a (x ∷ xs) ys = ap ((a, x) ∷◌) (label_append (suc a) xs ys ∙ ap (λ (b : ℕ). label (suc a) xs ++ label b ys) (omega arith))

label_map : (f : ℕ → ℕ) (a : ℕ) (rs : List ℕ) → label a (map f rs) ≡ map (row_by f) (label a rs)
unfolding label
label_map f a [] = refl
label_map f a (r ∷ rs) = ap ((a, f r) ∷◌) (label_map f (suc a) rs)

module _ {R : Cell → Type 0} where
  pub knows_left : {a : ℕ} (xs ys : List ℕ) → Knows R a (xs ++ ys) → Knows R a xs
  knows_left {a} xs ys K = record { all = λ z m. K.all z (subst (Mem z) (sym (label_append a xs ys)) (mem_left (label (a + length xs) ys) m)) }

  pub knows_right : {a : ℕ} (b : ℕ) (xs ys : List ℕ) → a + length xs ≡ b → Knows R a (xs ++ ys) → Knows R b ys
  knows_right {a} b xs ys h K = record { all = λ z m. K.all z (subst (Mem z) (sym (label_append a xs ys)) (mem_right (label a xs) (subst (λ (c : ℕ). Mem z (label c ys)) (sym h) m))) }

  pub knows_head : {a r : ℕ} {rs : List ℕ} → Knows R a (r ∷ rs) → R (a, r)
  unfolding label
  knows_head {a} {r} K = K.all (a, r) here

  pub knows_tail : {a r : ℕ} {rs : List ℕ} → Knows R a (r ∷ rs) → Knows R (suc a) rs
  unfolding label
  knows_tail K = record { all = λ z m. K.all z (tail m) }

pub knows_map : {R : Cell → Type 0} {a : ℕ} (f : ℕ → ℕ) (rs : List ℕ) → Knows R a (map f rs) → Knows (λ z. R (row_by f z)) a rs
knows_map {R} {a} f rs K = record { all = λ z m. K.all (row_by f z) (subst (Mem (row_by f z)) (sym (label_map f a rs)) (mem_map (row_by f) m)) }

-- the row of each corner of the piece (0,v), and a cell on its corner's row
abbrev pub row_of : List ℕ → ℕ → ℕ
row_of rs x = get_or (corner_rows rs) x 0

abbrev pub OnRow : ℕ → List ℕ → Cell → Type 0
OnRow v rs z = (z.0 ≤ v) × (z.1 ≡ row_of rs z.0)

label_mem : {z : Cell} (a : ℕ) (rs : List ℕ) → Mem z (label a rs) → (i : ℕ) × (i < length rs) × (z ≡ (a + i, get_or rs i 0))
unfolding label
label_mem a [] m = absurd (not_empty m)
label_mem a (r ∷ rs) (head e) = (0, omega arith, e ∙ ap {B = Cell} (λ b. (b, r)) (omega arith))
label_mem a (r ∷ rs) (tail m) = let (i, h, e) = label_mem (suc a) rs m in (suc i, omega arith, e ∙ ap {B = Cell} (λ b. (b, get_or rs i 0)) (omega arith))

module _ (rs : List ℕ) (v : ℕ) (h : suc (length rs) ≡ v) where
  pub last_row : row_of rs v ≡ 0
  last_row = get_or_at (0 ∷ rs) 0 [] 0 v h

  pub rows_known : Knows (OnRow v rs) 1 rs
  rows_known = record { all = λ z m. go z (label_mem 1 rs m) }
    where
      go : (z : Cell) → (i : ℕ) × (i < length rs) × (z ≡ (1 + i, get_or rs i 0)) → OnRow v rs z
      go z (i, k, e) =
          let x : z.0 ≡ suc i = omega (arith, ap (λ (y : Cell). y.0) e) in
          (omega arith, ap (λ (y : Cell). y.1) e ∙ (sym (get_or-append rs (0 ∷ []) 0 i k) ∙ ap (row_of rs) (sym x)))

-- how many rows: one less than sides
both_lengths : (xs ys : List ℕ) (r x y : ℕ) → suc (length xs) ≡ x → suc (length ys) ≡ y → suc (length (xs ++ (r ∷ ys))) ≡ x + y
both_lengths xs ys r x y h k = omega (arith, length-append xs (r ∷ ys))

map_length : (f : ℕ → ℕ) (xs : List ℕ) (x : ℕ) → suc (length xs) ≡ x → suc (length (map f xs)) ≡ x
map_length f xs x h = omega (arith, length-map xs f)

mutual
  unfolding rows span

  pub rows_length : {t : Tree} (p : Plan t) → suc (length (rows p)) ≡ span t
  rows_length none = refl
  rows_length (plain A B) = both_lengths (left_rows _ A) (right_rows _ B) _ _ _ (left_length _ A) (right_length _ B)
  rows_length (stem_left G B) = both_lengths (left_gate_rows _ G) (right_rows _ B) _ _ _ (left_gate_length _ G) (right_length _ B)
  rows_length (stem_right A G) = both_lengths (left_rows _ A) (right_gate_rows _ G) _ _ _ (left_length _ A) (right_gate_length _ G)

  pub left_length : {t : Tree} (f : ℕ → ℕ) (A : LeftRim t) → suc (length (left_rows f A)) ≡ span t
  left_length f left_end = refl
  left_length f (left_on A p) = both_lengths (left_rows f A) (map f (rows p)) (f 0) _ _ (left_length f A) (map_length f (rows p) _ (rows_length p))

  pub right_length : {t : Tree} (f : ℕ → ℕ) (B : RightRim t) → suc (length (right_rows f B)) ≡ span t
  right_length f right_end = refl
  right_length f (right_on p B) = both_lengths (map f (rows p)) (right_rows f B) (f 0) _ _ (map_length f (rows p) _ (rows_length p)) (right_length f B)

  pub left_gate_length : {t : Tree} (f : ℕ → ℕ) (G : LeftGate t) → suc (length (left_gate_rows f G)) ≡ span t
  left_gate_length f (left_gate A S) = both_lengths (left_rows suc A) (stem_rows f suc S) 1 _ _ (left_length suc A) (stem_length f suc S)
  left_gate_length f (left_past G p) = both_lengths (left_gate_rows f G) (map f (rows p)) (f 0) _ _ (left_gate_length f G) (map_length f (rows p) _ (rows_length p))

  pub right_gate_length : {t : Tree} (f : ℕ → ℕ) (G : RightGate t) → suc (length (right_gate_rows f G)) ≡ span t
  right_gate_length f (right_gate S B) = both_lengths (stem_rows suc f S) (right_rows suc B) 1 _ _ (stem_length suc f S) (right_length suc B)
  right_gate_length f (right_past p G) = both_lengths (map f (rows p)) (right_gate_rows f G) (f 0) _ _ (map_length f (rows p) _ (rows_length p)) (right_gate_length f G)

  pub stem_length : {t : Tree} (g h : ℕ → ℕ) (S : Stem t) → suc (length (stem_rows g h S)) ≡ span t
  stem_length g h end_both = refl
  stem_length g h (end_left c) = both_lengths [] (map g (rows c)) (g 0) _ _ refl (map_length g (rows c) _ (rows_length c))
  stem_length g h (end_right c) = both_lengths (map h (rows c)) [] (h 0) _ _ (map_length h (rows c) _ (rows_length c)) refl
  stem_length g h (go_left S c) = both_lengths (stem_rows g h S) (map g (rows c)) (g 0) _ _ (stem_length g h S) (map_length g (rows c) _ (rows_length c))
  stem_length g h (go_right c S) = both_lengths (map h (rows c)) (stem_rows g h S) (h 0) _ _ (map_length h (rows c) _ (rows_length c)) (stem_length g h S)

-- The bars of the corners, field by field: a number stored in a field stands in the list of that field, and the other lists stay; a bar set; the first n bars.
use Rattle.std.proofs.Common.{◌≡◌, refl, sym, ◌∙◌, ap, List, map, ℕ, ◌<◌, ◌≤◌, length, take, get_or, arith}
use Rattle.std.proofs.Math.ListN.{length-map, set}
use Rattle.std.proofs.Math.Seq.{map-set_same, length-take-le}
use Rattle.std.proofs.lemmas.List.{map-set, get_or-take}
use Rattle.std.specs.List.{take-map}
use Rattle.lists.proofs.Places.{stored}
use Rattle.polygon.specs.Polygon.{Edge}
use Rattle.chart.specs.declared.Bar.{Bar}
use Rattle.chart_writer.specs.Tables.{Spans, rows_of, lefts_of, rights_of}

-- the bar that stands for none
abbrev pub blank : Bar
blank = record { row = 0; left = 0; right = 0 }

pub lefts_length : (bars : List Bar) → length (lefts_of bars) ≡ length bars
lefts_length bars = length-map bars (λ (b : Bar). b.left)

pub rights_length : (bars : List Bar) → length (rights_of bars) ≡ length bars
rights_length bars = length-map bars (λ (b : Bar). b.right)

-- one field of the bar of corner x set
module _ (bars : List Bar) (x v : ℕ) where
  abbrev pub with_left : List Bar
  with_left = set bars x (record { row = (get_or bars x blank).row; left = v; right = (get_or bars x blank).right })

  abbrev pub with_right : List Bar
  with_right = set bars x (record { row = (get_or bars x blank).row; left = (get_or bars x blank).left; right = v })

  pub left_set : lefts_of with_left ≡ set (lefts_of bars) x v
  left_set = map-set (λ (b : Bar). b.left) bars x _

  pub left_rows : rows_of with_left ≡ rows_of bars
  left_rows = map-set_same (λ (b : Bar). b.row) bars x _ blank refl

  pub left_rights : rights_of with_left ≡ rights_of bars
  left_rights = map-set_same (λ (b : Bar). b.right) bars x _ blank refl

  pub right_set : rights_of with_right ≡ set (rights_of bars) x v
  right_set = map-set (λ (b : Bar). b.right) bars x _

  pub right_rows : rows_of with_right ≡ rows_of bars
  right_rows = map-set_same (λ (b : Bar). b.row) bars x _ blank refl

  pub right_lefts : lefts_of with_right ≡ lefts_of bars
  right_lefts = map-set_same (λ (b : Bar). b.left) bars x _ blank refl

-- the same field of two bars set
module _ (bars : List Bar) (x y v : ℕ) where
  pub both_lefts : lefts_of (with_left (with_left bars x v) y v) ≡ set (set (lefts_of bars) x v) y v
  both_lefts = left_set (with_left bars x v) y v ∙ ap (λ (l : List ℕ). set l y v) (left_set bars x v)

  pub both_rights : rights_of (with_right (with_right bars x v) y v) ≡ set (set (rights_of bars) x v) y v
  both_rights = right_set (with_right bars x v) y v ∙ ap (λ (l : List ℕ). set l y v) (right_set bars x v)

-- a field of each bar once the bar of corner x is set
pub bar_set : (f : Bar → ℕ) (bars : List Bar) (x : ℕ) (b : Bar) (y v : ℕ) → x < length bars → (y ≡ x → f b ≡ v) → ((y ≡ x → ⊥) → get_or (map f bars) y 0 ≡ v)
    → get_or (map f (set bars x b)) y 0 ≡ v
bar_set f bars x b y v h new old = rw (map-set f bars x b) (stored (λ z. z ≡ v) (map f bars) x (f b) y (omega (arith, length-map bars f)) new old)

-- the first n bars
module _ (n : ℕ) (bars : List Bar) where
  front_at : (f : Bar → ℕ) (x : ℕ) → x < n → get_or (map f (take n bars)) x 0 ≡ get_or (map f bars) x 0
  front_at f x h = ap (λ (l : List ℕ). get_or l x 0) (sym (take-map f n bars)) ∙ get_or-take n (map f bars) x 0 h

  pub front_spans : (us : List Edge) → Spans n us (lefts_of bars) (rights_of bars) → Spans n us (lefts_of (take n bars)) (rights_of (take n bars))
  front_spans us S = record {
    lefts = λ x h. front_at (λ (b : Bar). b.left) x h ∙ S.lefts x h;
    rights = λ x h. front_at (λ (b : Bar). b.right) x h ∙ S.rights x h;
  }

  pub front_rows : (rows : List ℕ) (first : List Bar) → n ≤ length rows → rows_of bars ≡ rows_of first
      → ((x : ℕ) → x < length (take n rows) → get_or (rows_of first) x 0 ≡ get_or (take n rows) x 0)
      → (x : ℕ) → x < n → get_or (rows_of (take n bars)) x 0 ≡ get_or rows x 0
  front_rows rows first fits e R x h =
      front_at (λ (b : Bar). b.row) x h ∙ (ap (λ (l : List ℕ). get_or l x 0) e ∙ (R x (omega (arith, length-take-le n rows fits)) ∙ get_or-take n rows x 0 h))

-- A hung piece: the two rims of its umbrella, one after the other.
-- Rests on Following.antt.
use mathlib.Core.Path.{◌≡◌, refl, sym, ◌∙◌, ap}
use mathlib.Core.Bool.{Bool, true, false}
use mathlib.Core.List.{List, [], ◌∷◌, ◌++◌, reverse-append}
use Prim.Native.Nat.{ℕ, ◌+◌, ◌*◌, ◌-◌, ◌<◌, ◌≤◌}
use native.Mathlib.Omega.{arith}
use lib.ListN.{length, set, length-set}
use lib.Seq.{sets}
use Rattle.polygon.specs.Polygon.{Edge}
use Rattle.polygon.specs.Tree.{Tree, leaf, node}
use Rattle.umbrella.specs.Values.{ud}
use Rattle.umbrella.specs.declared.roles.Role.{Role}
use Rattle.umbrella.specs.declared.roles.Role.TheVariants.{Hung, LeftRim, RightRim}
use Rattle.umbrella.specs.Roles.{is_hung}
use Rattle.tree.specs.declared.Root.{Root}
use Rattle.tree.specs.declared.Two.{Two}
use Rattle.tree.specs.Table.{apex_at, beyond}
use Rattle.umbrella.proofs.Wide.{nine}
use Rattle.tree.proofs.Pieces.{closed, ends}
use Rattle.levels.specs.Kept.{Tabled}
use Rattle.levels.proofs.Knowing.{TabledParts, tabled_parts}
use Rattle.drawing.specs.declared.lines.Line.{Line}
use Rattle.drawing.specs.declared.lines.Way.{Way}
use Rattle.drawing.specs.declared.lines.Rims.{Rims}
use Rattle.drawing.specs.Columns.{columns}
use Rattle.drawing.specs.Lines.{on_line, far_line, near_line, ranks}
use Rattle.drawing.specs.Walk.{rims_of, turn_if, Walked, Room}
use Rattle.drawing.proofs.Orders.{turn_if_none, hung_side, rims}
use Rattle.drawing.proofs.OnLines.{hung_ranks}
use Rattle.drawing.proofs.Walking.{none, seq, same, left_then_right, right_then_left, ranks_length}
use Rattle.drawing.proofs.Following.{walked_columns, walked_rows, walked_end}

-- nothing is drawn of a piece that is empty
pub hung_empty : {tr ds : List ℕ} {p : Root} {w : Way} {t : Tree} (at : ℕ) (cols rows : List ℕ) → w.role ≡ Hung → Tabled tr ds p.e p.u p.v t → p.v ≤ p.u + 1 → Walked tr p w t at cols rows cols rows at
unfolding ranks
hung_empty {tr} {p = p} {w} {t} at cols rows e k h =
    let q : t ≡ leaf = closed k.shows h in
    let f : turn_if w.turned (columns w.role w.d t p.u p.v) ≡ [] = ap (λ (r : Role). turn_if w.turned (columns r w.d t p.u p.v)) e ∙ (ap (turn_if w.turned) (hung_side w.d t p.u p.v q) ∙ turn_if_none w.turned) in
    record { drawn = same (sym f) (none at cols); ranked = rw q }

-- the ways of its rims
abbrev pub rim_way : Role → Way → ℕ → Line → Line → Way
rim_way r w n far near = record { role = r; turned = w.turned; d = n - 1; far = far; near = near }

-- the two rims in the order of their columns; in rows₁ the row of the third corner is stored
pub record RimPair (tr ds : List ℕ) (p : Root) (w : Way) (t : Tree) (at : ℕ) (cols rows rows₁ : List ℕ) (n : ℕ) (far near : Line) (r : Rims) : Type 0 where
  pub first : Tree
  pub second : Tree
  pub known_first : Tabled tr ds r.first.e r.first.u r.first.v first
  pub known_second : Tabled tr ds r.second.e r.second.u r.second.v second
  pub narrow_first : r.first.v - r.first.u < p.v - p.u
  pub narrow_second : r.second.v - r.second.u < p.v - p.u
  pub not_hung_first : is_hung r.role ≡ false
  pub not_hung_second : is_hung r.other ≡ false
  pub room_first : Room r.first (rim_way r.role w n far near) at cols rows₁
  pub room_second : (cols₁ rows₂ : List ℕ) (m : ℕ) → Walked tr r.first (rim_way r.role w n far near) first at cols rows₁ cols₁ rows₂ m → Room r.second (rim_way r.other w n far near) m cols₁ rows₂
  pub walked : (cols₁ rows₂ : List ℕ) (m : ℕ) (cols₂ rows₃ : List ℕ) (q : ℕ) → Walked tr r.first (rim_way r.role w n far near) first at cols rows₁ cols₁ rows₂ m
      → Walked tr r.second (rim_way r.other w n far near) second m cols₁ rows₂ cols₂ rows₃ q → Walked tr p w t at cols rows cols₂ rows₃ q

-- the columns of two rims, turned or not
turned_both : {b : Bool} (xs ys : List Edge) → b ≡ true → turn_if b (xs ++ ys) ≡ turn_if b ys ++ turn_if b xs
turned_both xs ys e = rw e (reverse-append xs ys)

kept_both : {b : Bool} (xs ys : List Edge) → b ≡ false → turn_if b (xs ++ ys) ≡ turn_if b xs ++ turn_if b ys
kept_both xs ys e = rw e

on_line_small : (down : Bool) (base r : ℕ) → on_line down base r ≤ base + r
on_line_small true base r = omega arith
on_line_small false base r = omega arith

module _ {tr ds cols rows : List ℕ} {p : Root} {w : Way} {t : Tree} {at n : ℕ} (k : Tabled tr ds p.e p.u p.v t) (apart : p.u + 1 < p.v) (R : Room p w at cols rows) (hung : w.role ≡ Hung) (levels_are : n ≡ ud t) where
  K : TabledParts tr ds p.e p.u p.v t
  K = tabled_parts k apart

  abbrev l : Tree
  l = K.parts.l

  abbrev r : Tree
  r = K.parts.r

  abbrev c : ℕ
  c = apex_at tr p.e

  abbrev far : Line
  far = far_line n w.far

  abbrev near : Line
  near = near_line w.far

  abbrev rows₁ : List ℕ
  rows₁ = set rows c far.base

  few : n ≤ 9
  few = omega (arith, levels_are, nine t (omega (arith, K.parts, ends k.shows)))

  -- there is room for a rim
  room_at : (y : Root) (role : Role) (j : ℕ) (cols₁ rows₂ : List ℕ) → y.v - y.u < p.v - p.u → j + 2 * (y.v - y.u) ≤ 2048 → length cols₁ ≡ 2048 → length rows₂ ≡ 1024 → Room y (rim_way role w n far near) j cols₁ rows₂
  room_at y role j cols₁ rows₂ a b e f =
      let g : on_line w.far.down w.far.base (2 * n) ≤ w.far.base + 2 * n = on_line_small w.far.down w.far.base (2 * n) in
      let h : on_line w.far.down w.far.base 1 ≤ w.far.base + 1 = on_line_small w.far.down w.far.base 1 in
      record { fits = b; far_small = omega (arith, g, few, R.far_small); near_small = omega (arith, h, R.far_small); columns_size = e; rows_size = f }

  columns_are : columns w.role w.d t p.u p.v ≡ columns LeftRim (n - 1) l p.u c ++ columns RightRim (n - 1) r c p.v
  columns_are =
      let i : ud (node l r) - 1 ≡ n - 1 = ap (◌- 1) (sym (levels_are ∙ ap ud K.parts.is)) in
      ap (λ (y : Role). columns y w.d t p.u p.v) hung ∙ (ap (λ (y : Tree). columns Hung w.d y p.u p.v) K.parts.is ∙ (rims w.d l r p.u p.v (n - 1) i ∙ rw (← K.parts.middle)))

  rows_are : ranks w.role w.d w.far w.near t ≡ ranks LeftRim (n - 1) far near l ++ (far.base ∷ ranks RightRim (n - 1) far near r)
  rows_are =
      ap (λ (y : Role). ranks y w.d w.far w.near t) hung
      ∙ (ap (λ (y : Tree). ranks Hung w.d w.far w.near y) K.parts.is ∙ hung_ranks w.d w.far w.near l r n (n - 1) (sym (levels_are ∙ ap ud K.parts.is)) refl)

  middle : p.u + 1 + length (ranks LeftRim (n - 1) far near l) ≡ c
  middle = omega (arith, ranks_length l LeftRim (n - 1) far near, K.parts.middle)

  -- the rims in one order: the columns of the first and then those of the second, and the rows of both with that of the third corner, are those of the piece
  in_order : (z : Rims) {t₁ t₂ : Tree} → Tabled tr ds z.first.e z.first.u z.first.v t₁ → Tabled tr ds z.second.e z.second.u z.second.v t₂
      → (z.first.u < z.first.v) × (z.second.u < z.second.v) × ((z.first.v - z.first.u) + (z.second.v - z.second.u) ≡ p.v - p.u)
      → is_hung z.role ≡ false → is_hung z.other ≡ false
      → turn_if w.turned (columns w.role w.d t p.u p.v) ≡ turn_if w.turned (columns z.role (n - 1) t₁ z.first.u z.first.v) ++ turn_if w.turned (columns z.other (n - 1) t₂ z.second.u z.second.v)
      → sets (sets rows₁ (z.first.u + 1) (ranks z.role (n - 1) far near t₁)) (z.second.u + 1) (ranks z.other (n - 1) far near t₂) ≡ sets rows (p.u + 1) (ranks w.role w.d w.far w.near t)
      → RimPair tr ds p w t at cols rows rows₁ n far near z
  in_order z {t₁} {t₂} k₁ k₂ wide h₁ h₂ both-columns both-rows = record {
    first = t₁;
    second = t₂;
    known_first = k₁;
    known_second = k₂;
    narrow_first = omega arith;
    narrow_second = omega arith;
    not_hung_first = h₁;
    not_hung_second = h₂;
    room_first = room_at z.first z.role at cols rows₁ (omega arith) (omega (arith, R.fits)) R.columns_size size;
    room_second = λ cols₁ rows₂ m W.
        room_at z.second z.other m cols₁ rows₂ (omega arith) (omega (arith, R.fits, walked_end k₁.shows W)) (walked_columns k₁.shows W ∙ R.columns_size) (walked_rows k₁.shows W ∙ size);
    walked = λ cols₁ rows₂ m cols₂ rows₃ q W X. record {
      drawn = same (sym both-columns) (seq W.drawn X.drawn);
      ranked = X.ranked ∙ (ap (λ (o : List ℕ). sets o (z.second.u + 1) (ranks z.other (n - 1) far near t₂)) W.ranked ∙ both-rows);
    };
  }
    where
      size : length rows₁ ≡ 1024
      size = length-set rows c far.base ∙ R.rows_size

  pair : (b : Bool) → w.turned ≡ b → RimPair tr ds p w t at cols rows rows₁ n far near (rims_of (beyond tr p) b)
  pair true e =
      in_order (rims_of (beyond tr p) true) K.known_r K.known_l (omega (arith, K.parts)) refl refl
      (ap (turn_if w.turned) columns_are ∙ turned_both _ _ e)
      (right_then_left p.u c far.base (ranks LeftRim (n - 1) far near l) (ranks RightRim (n - 1) far near r) rows middle ∙ ap (sets rows (p.u + 1)) (sym rows_are))
  pair false e =
      in_order (rims_of (beyond tr p) false) K.known_l K.known_r (omega (arith, K.parts)) refl refl
      (ap (turn_if w.turned) columns_are ∙ kept_both _ _ e)
      (left_then_right p.u c far.base (ranks LeftRim (n - 1) far near l) (ranks RightRim (n - 1) far near r) rows middle ∙ ap (sets rows (p.u + 1)) (sym rows_are))

  -- as the code has it
  pub rim_pair : (y : Two) (z : Rims) (f g : Line) → y ≡ beyond tr p → z ≡ rims_of y w.turned → f ≡ far → g ≡ near → RimPair tr ds p w t at cols rows (set rows y.left.v f.base) n f g z
  rim_pair y z f g ey ez ef eg = rw (ez, ey, ef, eg) (pair w.turned refl)

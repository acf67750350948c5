-- A rim or a stem followed from its first piece on: what the loop keeps, and one turn of it.
-- Rests on Walking.antt and Orders.antt.
use mathlib.Core.Path.{◌≡◌, refl, sym, ◌∙◌, ap}
use mathlib.Core.Bool.{Bool, true, false, not, beq}
use mathlib.Core.List.{List, [], ◌∷◌, ◌++◌, reverse}
use Prim.Native.Nat.{ℕ, ◌+◌, ◌*◌, ◌-◌, ◌<◌, ◌≤◌}
use native.Mathlib.Omega.{arith}
use borrow.Rule.Slice.PartMut.{put_mid}
use lib.ListN.{length, set, take, drop, length-set, length-map}
use lib.Seq.{sets, length-sets}
use Rattle.polygon.specs.Polygon.{◌—◌}
use Rattle.polygon.specs.Tree.{Tree, leaf, span}
use Rattle.polygon.proofs.Order.{low_of, high_of}
use Rattle.umbrella.specs.Values.{ud, handle}
use Rattle.umbrella.specs.declared.roles.Role.{Role}
use Rattle.umbrella.specs.declared.roles.Step.{Step}
use Rattle.umbrella.specs.Roles.{from_right, step_at, step_of}
use Rattle.tree.specs.declared.Root.{Root}
use Rattle.tree.specs.declared.Two.{Two}
use Rattle.tree.specs.Table.{edge_at, apex_at, TreeAt, beyond}
use Rattle.tree.proofs.Pieces.{at_edge, closed, corners, ends, inside}
use Rattle.levels.specs.declared.Six.{Six}
use Rattle.levels.specs.Kept.{six, six_at, Tabled}
use Rattle.levels.proofs.Knowing.{TabledParts, tabled_parts}
use Rattle.drawing.specs.declared.lines.Line.{Line}
use Rattle.drawing.specs.declared.lines.Way.{Way}
use Rattle.drawing.specs.declared.lines.Next.{Next}
use Rattle.drawing.specs.Columns.{around, columns}
use Rattle.drawing.specs.Lines.{ranks}
use Rattle.drawing.specs.Walk.{differ, beside_line, next_by, next_of, turn_if, HoldsEdge, Noted, Walked, Room}
use Rattle.drawing.proofs.Orders.{Built, built, turn_if_turned, turn_if_kept, turn_if_one, side_columns, own_columns, few_columns, turn_if_length}
use Rattle.drawing.proofs.Walking.{one, seq, same, turned, left_then_right, right_then_left, RanksBy, ranks_by, ranks_length, on_role, OnRole, on_role_lem}

-- a piece that the table shows has its edge there
pub held : {tr : List ℕ} {e u v : ℕ} {t : Tree} → TreeAt tr e u v t → HoldsEdge tr e
held s = record { inside = inside s; lower_first = omega (arith, low_of (at_edge s), high_of (at_edge s), corners s) }

-- a rim or a stem as it is built
pub record Forward (tr : List ℕ) (p : Root) (w : Way) (t : Tree) (at : ℕ) (cols rows cols' rows' : List ℕ) (n : ℕ) : Type 0 where
  pub drawn : Noted tr (turn_if (from_right w.role) (columns w.role w.d t p.u p.v)) at cols cols' n
  pub ranked : rows' ≡ sets rows (p.u + 1) (ranks w.role w.d w.far w.near t)

-- The piece x is reached: what is written of it is what is left.
pub record Along (tr ds : List ℕ) (p : Root) (w : Way) (at : ℕ) (cols₀ rows₀ cols rows : List ℕ) (role : Role) (x : Root) (k : ℕ) : Type 0 where
  pub t₀ : Tree
  pub t : Tree
  pub whole : Tabled tr ds p.e p.u p.v t₀
  pub known : Tabled tr ds x.e x.u x.v t
  pub role_is : OnRole w.role role
  pub columns_size : length cols ≡ 2048
  pub rows_size : length rows ≡ 1024
  pub begun : at ≤ k
  pub fits : k + 2 * (x.v - x.u) ≤ at + 2 * (p.v - p.u)
  pub rest : (cols' rows' : List ℕ) (n : ℕ) → Noted tr (turn_if (from_right role) (columns role w.d t x.u x.v)) k cols cols' n → rows' ≡ sets rows (x.u + 1) (ranks role w.d w.far w.near t) → Forward tr p w t₀ at cols₀ rows₀ cols' rows' n

-- the rim or stem ends at a side
pub along_ends : {tr ds cols₀ rows₀ cols rows : List ℕ} {p x : Root} {w : Way} {at k : ℕ} {role : Role} (A : Along tr ds p w at cols₀ rows₀ cols rows role x k) → x.v ≤ x.u + 1 → Forward tr p w A.t₀ at cols₀ rows₀ (set cols k x.e) rows (k + 1)
unfolding ranks
along_ends {tr} {cols = cols} {rows} {x = x} {w} {k = k} {role} A h =
    let s = A.known.shows in
    let e : A.t ≡ leaf = closed s h in
    let f : turn_if (from_right role) (columns role w.d A.t x.u x.v) ≡ (x.u — x.v) ∷ [] = ap (turn_if (from_right role)) (side_columns role w.d A.t x.u x.v A.role_is.not_hung e) ∙ turn_if_one (from_right role) (x.u — x.v) in
    A.rest _ _ _ (same (sym f) (one (x.u — x.v) x.e k cols (at_edge s) (held s))) (rw e)

-- as the code finds out whether it is to be turned
pub differ_is : (a b : Bool) → differ a b ≡ not (beq a b)
differ_is true true = refl
differ_is true false = refl
differ_is false true = refl
differ_is false false = refl

-- it is turned, or stays as it is built
module _ {tr : List ℕ} {p : Root} {w : Way} {t : Tree} {at : ℕ} {cols rows cols' rows' : List ℕ} {n : ℕ} (F : Forward tr p w t at cols rows cols' rows' n) where
  pub walked_turned : {run : List ℕ} → differ (from_right w.role) w.turned ≡ true → n ≤ length cols → run ≡ reverse (take (n - at) (drop at cols')) → Walked tr p w t at cols rows (put_mid at (n - at) cols' run) rows' n
  walked_turned h i q = record { drawn = same (turn_if_turned (from_right w.role) w.turned (columns w.role w.d t p.u p.v) h) (turned i F.drawn q); ranked = F.ranked }

  pub walked_kept : differ (from_right w.role) w.turned ≡ false → Walked tr p w t at cols rows cols' rows' n
  walked_kept h = record { drawn = same (turn_if_kept (from_right w.role) w.turned (columns w.role w.d t p.u p.v) h) F.drawn; ranked = F.ranked }

-- how many columns were written, and the tables' lengths
module _ {tr cols rows cols' rows' : List ℕ} {p : Root} {w : Way} {t : Tree} {at n e : ℕ} (s : TreeAt tr e p.u p.v t) (W : Walked tr p w t at cols rows cols' rows' n) where
  pub walked_end : (at ≤ n) × (n < at + 2 * (p.v - p.u))
  walked_end =
      let D = W.drawn in
      let a : length D.places ≡ length (columns w.role w.d t p.u p.v) = sym (length-map D.places (edge_at tr)) ∙ (ap length D.are ∙ turn_if_length w.turned (columns w.role w.d t p.u p.v)) in
      (omega (arith, D.end), omega (arith, D.end, a, few_columns t w.role w.d p.u p.v, ends s))

  pub walked_columns : length cols' ≡ length cols
  walked_columns = ap length W.drawn.outs ∙ length-sets cols at W.drawn.places

  pub walked_rows : length rows' ≡ length rows
  walked_rows = ap length W.ranked ∙ length-sets rows (p.u + 1) (ranks w.role w.d w.far w.near t)

-- on from a triangle: the piece beside, and the piece that the rim or stem goes on to
pub record Onward (tr ds : List ℕ) (p : Root) (w : Way) (at : ℕ) (cols₀ rows₀ cols rows : List ℕ) (x : Root) (k c : ℕ) (m : Line) (n : Next) : Type 0 where
  pub beside : Tree
  pub known_beside : Tabled tr ds n.beside.e n.beside.u n.beside.v beside
  pub narrow : n.beside.v - n.beside.u < x.v - x.u
  pub narrow_on : n.on.v - n.on.u < x.v - x.u
  pub room : Room n.beside n.way (k + 1) (set cols k x.e) (set rows c m.base)
  pub on : (cols' rows' : List ℕ) (q : ℕ) → Walked tr n.beside n.way beside (k + 1) (set cols k x.e) (set rows c m.base) cols' rows' q → Along tr ds p w at cols₀ rows₀ cols' rows' n.role n.on q

module _ {tr ds cols₀ rows₀ cols rows : List ℕ} {p x : Root} {w : Way} {at k : ℕ} {role : Role} (A : Along tr ds p w at cols₀ rows₀ cols rows role x k) (apart : x.u + 1 < x.v) (R : Room p w at cols₀ rows₀) where
  K : TabledParts tr ds x.e x.u x.v A.t
  K = tabled_parts A.known apart

  abbrev l : Tree
  l = K.parts.l

  abbrev r : Tree
  r = K.parts.r

  abbrev c : ℕ
  c = apex_at tr x.e

  abbrev s : Step
  s = step_of role w.d l r

  abbrev m : Line
  m = beside_line s.crossed w.far w.near

  line_small : (b : Bool) (i : ℕ) → i ≤ p.v - p.u → (beside_line b w.far w.near).base + 20 * i ≤ 50000
  line_small true i h = omega (arith, R.near_small)
  line_small false i h = omega (arith, R.far_small)

  -- the columns and rows of the piece reached are those of its own edge, of the piece beside, and of the piece ahead
  built_columns : (g : Bool) → differ (from_right role) s.crossed ≡ g → turn_if (from_right role) (columns role w.d A.t x.u x.v) ≡ Built g (from_right role) (x.u — x.v) (columns s.left w.d l x.u c) (columns s.right w.d r c x.v)
  built_columns g e =
      let mid : x.u + span l ≡ c = sym K.parts.middle in
      let a : columns role w.d A.t x.u x.v ≡ around (from_right role) s.crossed (x.u — x.v) (columns s.left w.d l x.u c) (columns s.right w.d r c x.v) =
      ap (λ (y : Tree). columns role w.d y x.u x.v) K.parts.is ∙ (own_columns role w.d l r x.u x.v s A.role_is.not_hung refl ∙ rw mid) in
      ap (turn_if (from_right role)) a ∙ (built (x.u — x.v) (columns s.left w.d l x.u c) (columns s.right w.d r c x.v) (from_right role) s.crossed ∙ rw e)

  built_rows : (g : Bool) → differ (from_right role) s.crossed ≡ g → ranks role w.d w.far w.near A.t ≡ RanksBy g w.far m w.near w.d s l r
  built_rows g e = ap (λ (y : Tree). ranks role w.d w.far w.near y) K.parts.is ∙ (ranks_by role w.d w.far w.near l r A.role_is.not_hung ∙ ap (λ (b : Bool). RanksBy b w.far m w.near w.d s l r) e)

  next_role : (g : Bool) → differ (from_right role) s.crossed ≡ g → OnRole w.role (on_role g s)
  next_role g e =
      let o = on_role_lem role w.d (ud l) (ud r) (handle l) A.role_is.not_hung in
      let q : OnRole role (on_role g s) = rw e at o in
      record { not_hung = q.not_hung; same_side = q.same_side ∙ A.role_is.same_side }

  own : Noted tr ((x.u — x.v) ∷ []) k cols (set cols k x.e) (k + 1)
  own = one (x.u — x.v) x.e k cols (at_edge A.known.shows) (held A.known.shows)

  room_for : (y : Root) (v : Way) → y.u < y.v → y.v - y.u < x.v - x.u → v.far ≡ m → v.near ≡ w.near → Room y v (k + 1) (set cols k x.e) (set rows c m.base)
  room_for y v i j e f = record {
    fits = omega (arith, A.fits, R.fits);
    far_small = rw e (line_small s.crossed (y.v - y.u) (omega (arith, A.fits, A.begun)));
    near_small = rw f (omega (arith, R.near_small, A.fits, A.begun));
    columns_size = length-set cols k x.e ∙ A.columns_size;
    rows_size = length-set rows c m.base ∙ A.rows_size;
  }

  -- the piece beside and the piece ahead, in either order: their columns behind that of the own edge, and their rows with that of the third corner, are those of the piece reached
  on_to : (z : Next) {tb ta : Tree} → Tabled tr ds z.beside.e z.beside.u z.beside.v tb → Tabled tr ds z.on.e z.on.u z.on.v ta
      → (z.beside.u < z.beside.v) × (z.on.u < z.on.v) × ((z.beside.v - z.beside.u) + (z.on.v - z.on.u) ≡ x.v - x.u)
      → z.way.far ≡ m → z.way.near ≡ w.near → OnRole w.role z.role
      → turn_if (from_right role) (columns role w.d A.t x.u x.v) ≡ (x.u — x.v) ∷ (turn_if z.way.turned (columns z.way.role z.way.d tb z.beside.u z.beside.v) ++ turn_if (from_right role) (columns z.role w.d ta z.on.u z.on.v))
      → sets (sets (set rows c m.base) (z.beside.u + 1) (ranks z.way.role z.way.d z.way.far z.way.near tb)) (z.on.u + 1) (ranks z.role w.d w.far w.near ta)
      ≡ sets rows (x.u + 1) (ranks role w.d w.far w.near A.t)
      → Onward tr ds p w at cols₀ rows₀ cols rows x k c m z
  on_to z {tb} {ta} kb ka wide far near role_is all-columns all-rows = record {
    beside = tb;
    known_beside = kb;
    narrow = omega arith;
    narrow_on = omega arith;
    room = room_for z.beside z.way (omega arith) (omega arith) far near;
    on = λ cols' rows' q W. record {
      t₀ = A.t₀;
      t = ta;
      whole = A.whole;
      known = ka;
      role_is = role_is;
      columns_size = walked_columns kb.shows W ∙ (length-set cols k x.e ∙ A.columns_size);
      rows_size = walked_rows kb.shows W ∙ (length-set rows c m.base ∙ A.rows_size);
      begun = omega (arith, A.begun, walked_end kb.shows W);
      fits = omega (arith, A.fits, walked_end kb.shows W);
      rest = λ cols'' rows'' n D f. A.rest cols'' rows'' n
          (same (sym all-columns) (seq own (seq W.drawn (rw (role_is.same_side ∙ sym A.role_is.same_side) at D))))
          (f ∙ (ap (λ (o : List ℕ). sets o (z.on.u + 1) (ranks z.role w.d w.far w.near ta)) W.ranked ∙ all-rows));
    };
  }

  -- to the left, or to the right
  onward : (g : Bool) → differ (from_right role) s.crossed ≡ g → Onward tr ds p w at cols₀ rows₀ cols rows x k c m (next_by g m (beyond tr x) s w)
  onward true e =
      let middle : x.u + 1 + length (ranks s.left w.d w.far w.near l) ≡ c = omega (arith, ranks_length l s.left w.d w.far w.near, K.parts.middle) in
      on_to (next_by true m (beyond tr x) s w) K.known_r K.known_l (omega (arith, K.parts)) refl refl (next_role true e) (built_columns true e)
      (right_then_left x.u c m.base (ranks s.left w.d w.far w.near l) (ranks s.right w.d m w.near r) rows middle ∙ ap (sets rows (x.u + 1)) (sym (built_rows true e)))
  onward false e =
      let middle : x.u + 1 + length (ranks s.left w.d m w.near l) ≡ c = omega (arith, ranks_length l s.left w.d m w.near, K.parts.middle) in
      on_to (next_by false m (beyond tr x) s w) K.known_l K.known_r (omega (arith, K.parts)) refl refl (next_role false e) (built_columns false e)
      (left_then_right x.u c m.base (ranks s.left w.d m w.near l) (ranks s.right w.d w.far w.near r) rows middle ∙ ap (sets rows (x.u + 1)) (sym (built_rows false e)))

  -- as the code works it out
  pub onward_is : (t : Two) (a b : Six) (st : Step) (right : Bool) (n : Next) (line : Line) → t ≡ beyond tr x → a ≡ six_at ds t.left.e → b ≡ six_at ds t.right.e → st ≡ step_at role w.d a.ud b.ud a.handle
      → right ≡ from_right w.role → n ≡ next_of t st right w → line ≡ beside_line st.crossed w.far w.near → Onward tr ds p w at cols₀ rows₀ cols rows x k t.left.v line n
  onward_is t a b st right n line et ea eb es er en el =
      let fa : a ≡ six l = ea ∙ (ap (λ (y : Two). six_at ds y.left.e) et ∙ K.six_l) in
      let fb : b ≡ six r = eb ∙ (ap (λ (y : Two). six_at ds y.right.e) et ∙ K.six_r) in
      let fs : st ≡ s = es ∙ rw (fa, fb) in
      let fr : right ≡ from_right role = er ∙ sym A.role_is.same_side in
      let fn : n ≡ next_by (differ (from_right role) s.crossed) m (beyond tr x) s w = en ∙ rw (et, fs, fr) in
      let fl : line ≡ m = el ∙ ap (λ (y : Step). beside_line y.crossed w.far w.near) fs in
      rw (fn, fl, et) (onward (differ (from_right role) s.crossed) refl)

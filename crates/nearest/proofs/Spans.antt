-- Spans in order (specs/Order.antt): which addresses no span has, and which span is nearest a cell.
use Rattle.std.specs.Prelude.{Option, Some, None}
use mathlib.Core.Path.{◌≡◌, refl, sym, ◌∙◌, ap, subst}
use mathlib.Core.List.{List}
use mathlib.Core.Logic.{◌⊎◌, inl, inr}
use Prim.Native.Nat.{ℕ, ◌+◌, ◌*◌, ◌-◌, ◌/◌, ◌%◌, ◌≤◌, ◌<◌, min, max}
use native.Mathlib.Decide.{dec_le, dec_lt}
use native.Mathlib.Omega.{arith}
use lib.ListN.{length, get_or}
use Rattle.chart.specs.Chart.{Bar}
use Rattle.nearest.specs.declared.Cell.{Cell}
use Rattle.nearest.specs.Cells.{cell, HasCell, Amid, Inside, Stands}
use Rattle.nearest.specs.Nearest.{none, bar, apart, away, IsNearest, nearest, found_of}
use Rattle.nearest.specs.Order.{address, span_at, Climbs, Cut, InOrder, Ordered}
use Rattle.nearest.proofs.Seeking.{climb}
use Rattle.nearest.proofs.Line.{nearest_of, of_nearest, none_of, of_none}

-- a span of addresses s to e, on one row, has a cell exactly if it has the cell's address
pub has_address : (s e r c : ℕ) → s / 65536 ≡ e / 65536 → (s / 65536 ≡ r) × (s % 65536 ≤ c) × (c ≤ e % 65536) → (s ≤ r * 65536 + c) × (r * 65536 + c ≤ e)
has_address s e r c same h = omega arith

pub address_has : (s e r c : ℕ) → s / 65536 ≡ e / 65536 → c < 65536 → s ≤ r * 65536 + c → r * 65536 + c ≤ e → (s / 65536 ≡ r) × (s % 65536 ≤ c) × (c ≤ e % 65536)
address_has s e r c same small l h = omega arith

-- what `away` adds up; of two numbers between a and b, the one nearer a is between a and the other
apart_none : (a b : ℕ) → a ≡ b → apart a b ≡ 0
apart_none a b e = omega arith

apart_sum : (a x : ℕ) → (a + apart a x ≡ x) ⊎ (x + apart a x ≡ a)
apart_sum a x = elim (dec_le a x) [ yes l ↦ inl (omega arith) | no l ↦ inr (omega arith) ]

amid_nearer : (a b x y m n : ℕ) → Amid a b x → Amid a b y → (a + n ≡ x) ⊎ (x + n ≡ a) → (a + m ≡ y) ⊎ (y + m ≡ a) → m < n → Amid a x y
amid_nearer a b x y m n h k (inl e) (inl w) l = omega arith
amid_nearer a b x y m n h k (inl e) (inr w) l = omega arith
amid_nearer a b x y m n h k (inr e) (inl w) l = omega arith
amid_nearer a b x y m n h k (inr e) (inr w) l = omega arith

less_of : (u v m n : ℕ) → u ≡ 0 → v ≡ 0 → (u + m < v + n → m < n) × (m + u < n + v → m < n)
less_of u v m n e w = omega arith

pub not_amid : (a b x : ℕ) → a ≡ b → ¬ Amid a b x
not_amid a b x e h = omega arith

-- of two cells between p and q, the one nearer p is between p and the other
nearer : (p q at d : Cell) → Inside (p, q) at → Inside (p, q) d → away p d < away p at → Inside (p, at) d
nearer p q at d (inl h) (inl k) l = inl (
  k.0,
  sym h.0 ∙ k.0,
  amid_nearer _ q.column _ _ _ _ h.2 k.2 (apart_sum _ _) (apart_sum _ _)
      ((less_of _ _ _ _ (apart_none p.row d.row k.0) (apart_none p.row at.row h.0)).0 l),
)
nearer p q at d (inl h) (inr k) l = absurd (not_amid _ _ _ (k.0 ∙ sym k.1) h.2)
nearer p q at d (inr h) (inl k) l = absurd (not_amid _ _ _ (k.0 ∙ sym k.1) h.2)
nearer p q at d (inr h) (inr k) l = inr (
  k.0,
  sym h.0 ∙ k.0,
  amid_nearer _ q.row _ _ _ _ h.2 k.2 (apart_sum _ _) (apart_sum _ _)
      ((less_of _ _ _ _ (apart_none p.column d.column k.0) (apart_none p.column at.column h.0)).1 l),
)

-- no span has the address a; none has an address from x up to y, y not counted
abbrev pub Void : List ℕ → List ℕ → ℕ → Type 0
Void S E a = (i : ℕ) → i < length S → get_or S i 0 ≤ a → a ≤ get_or E i 0 → ⊥

abbrev pub Gap : List ℕ → List ℕ → ℕ → ℕ → Type 0
Gap S E x y = (a : ℕ) → x ≤ a → a < y → Void S E a

module _ (S E : List ℕ) (O : InOrder S E) where
  pub starts_climb : Climbs S
  starts_climb i j h k = omega (arith, O.span i (omega arith), O.apart i j h k)

  pub ends_climb : Climbs E
  ends_climb i j h k = let l : j < length S = omega arith in omega (arith, O.apart i j h l, O.span j l)

  -- behind the spans that end before x, up to where the next one starts
  pub gap_behind : {x i : ℕ} (y : ℕ) → Cut E x i → (i < length S → y ≤ get_or S i 0) → Gap S E x y
  gap_behind {x} {i} y C h a l k z w s e = elim (dec_lt z i) [
    | yes b ↦ omega (arith, C.under z b)
    | no b ↦ omega (arith, climb S starts_climb i z (omega arith) w, h (omega arith))
  ]

  -- before the spans that start at y or later, down to where the one before them ends
  pub gap_before : {y i : ℕ} (x : ℕ) → Cut S y i → (0 < i → get_or E (i - 1) 0 < x) → Gap S E x y
  gap_before {y} {i} x C h a l k z w s e = elim (dec_lt z i) [
    | yes b ↦ omega (arith, climb E ends_climb z (i - 1) (omega arith) (omega (arith, C.upto, O.size)), h (omega arith))
    | no b ↦ omega (arith, C.rest z (omega arith) w)
  ]

  has : (i : ℕ) → i < length S → (d : Cell) → HasCell (span_at S E i) d → (get_or S i 0 ≤ address d) × (address d ≤ get_or E i 0)
  has i k d h = has_address (get_or S i 0) (get_or E i 0) d.row d.column (O.row i k) h

  -- of two spans that share a cell neither stands before the other
  place_le : (i j : ℕ) → i < length S → j < length S → (d : Cell) → HasCell (span_at S E i) d → HasCell (span_at S E j) d → i ≤ j
  place_le i j k l d h w = elim (dec_le i j) [ yes b ↦ b | no b ↦ absurd (omega (arith, O.apart j i (omega arith) k, has i k d h, has j l d w)) ]

  pub nowhere : (e : Cell × Cell) → ((d : Cell) → Inside e d → Void S E (address d)) → none ≡ nearest (span_at S E) (length S) e
  nowhere e f = sym (none_of (span_at S E) (length S) e λ i k s. let h = has i k s.0 s.2 in f s.0 s.1 i k h.0 h.1)

  -- span i has a cell between p and q, and no span has one before it
  pub somewhere : (p q at : Cell) → Inside (p, q) at → at.column < 65536 → (i : ℕ) → i < length S → get_or S i 0 ≤ address at → address at ≤ get_or E i 0 → ((d : Cell) → Inside (p, at) d → Void S E (address d)) →
      bar i ≡ nearest (span_at S E) (length S) (p, q)
  somewhere p q at b small i k s e f =
      let h : HasCell (span_at S E i) at = address_has (get_or S i 0) (get_or E i 0) at.row at.column (O.row i k) small s e in
      sym (nearest_of (span_at S E) (length S) (p, q) i (record {
        corner = k;
        at = at;
        between = b;
        has = h;
        least = λ y w d c v. elim (dec_le (away p at) (away p d)) [ yes l ↦ l | no l ↦ absurd (let a = has y w d v in f d (nearer p q at d b c (omega arith)) y w a.0 a.1) ];
        lowest = λ y w v. place_le i y k w at h v;
      }))

  module _ (p q : Cell) (row : p.row ≡ q.row) (p_small : p.column < 65536) (q_small : q.column < 65536) where
    -- in a row the cells between p and q are the addresses between theirs
    row_inside : (at : Cell) → p.row ≡ at.row → ((a : ℕ) → Amid (address p) (address at) a → Void S E a) → (d : Cell) → Inside (p, at) d → Void S E (address d)
    row_inside at e f d (inl h) = f (address d) (omega arith)
    row_inside at e f d (inr h) = absurd (not_amid _ _ _ e h.2)

    pub row_none : ((a : ℕ) → Amid (address p) (address q) a → Void S E a) → none ≡ nearest (span_at S E) (length S) (p, q)
    row_none f = nowhere (p, q) (row_inside q row f)

    row_hit : (m i : ℕ) → Amid (address p) (address q) m → i < length S → get_or S i 0 ≤ m → m ≤ get_or E i 0 → ((a : ℕ) → Amid (address p) m a → Void S E a) → bar i ≡ nearest (span_at S E) (length S) (p, q)
    row_hit m i h k s e f =
        let at = cell p.row (m - p.row * 65536) in
        let is : m ≡ address at = omega arith in
        somewhere p q at (inl (refl, sym row, omega arith)) (omega arith) i k (rw (← is) s) (rw (← is) e) (row_inside at refl (λ a w. f a (omega arith)))

    -- to the right: i spans end at p or before
    pub right_none : p.column < q.column → (a b i : ℕ) → a ≡ address p → b ≡ address q → Cut E (a + 1) i → (i < length S → b ≤ get_or S i 0) → none ≡ nearest (span_at S E) (length S) (p, q)
    right_none l a b i e w C h = row_none (λ x A. gap_behind b C h x (omega arith) (omega arith))

    pub right_hit : p.column + 1 < q.column → (a b i : ℕ) → a ≡ address p → b ≡ address q → Cut E (a + 1) i → i < length S → get_or S i 0 < b → get_or S i 0 ≤ get_or E i 0 → bar i ≡ nearest (span_at S E) (length S) (p, q)
    right_hit l a b i e w C k s whole =
        let late : a + 1 ≤ get_or E i 0 = C.rest i (omega arith) (omega (arith, O.size)) in
        row_hit (max (get_or S i 0) (a + 1)) i (omega arith) k (omega arith) (omega arith) (λ x A. gap_behind (get_or S i 0) C (λ _. omega arith) x (omega arith) (omega arith))

    -- to the left: i spans start before p
    pub left_none : q.column < p.column → (a b i : ℕ) → a ≡ address p → b ≡ address q → Cut S a i → (0 < i → get_or E (i - 1) 0 ≤ b) → none ≡ nearest (span_at S E) (length S) (p, q)
    left_none l a b i e w C h = row_none (λ x A. gap_before (b + 1) C (λ k. omega (arith, h k)) x (omega arith) (omega arith))

    pub left_hit : q.column + 1 < p.column → (a b i : ℕ) → a ≡ address p → b ≡ address q → Cut S a i → 0 < i → b < get_or E (i - 1) 0 → get_or S (i - 1) 0 ≤ get_or E (i - 1) 0 → bar (i - 1) ≡ nearest (span_at S E) (length S) (p, q)
    left_hit l a b i e w C k s whole =
        let early : get_or S (i - 1) 0 < a = C.under (i - 1) (omega arith) in
        row_hit (min (get_or E (i - 1) 0) (a - 1)) (i - 1) (omega arith) (omega (arith, C.upto)) (omega arith) (omega arith) (λ x A. gap_before (get_or E (i - 1) 0 + 1) C (λ _. omega arith) x (omega arith) (omega arith))

-- the same answer for the corners that stand beside the places
module _ (bars : ℕ → Bar) (n : ℕ) (S E C : List ℕ) (O : Ordered bars n S E C) (e : Cell × Cell) where
  place : (x : ℕ) → x < n → (i : ℕ) × (i < length S) × (get_or C i 0 ≡ x) × (span_at S E i ≡ bars x)
  place x k = let (i, l, h) = O.place x k in (i, omega (arith, O.count), h, O.held i l ∙ ap bars h)

  pub corner_none : (r : Option ℕ) → r ≡ None → found_of r ≡ nearest (span_at S E) (length S) e → none ≡ nearest bars n e
  corner_none r w h = sym (none_of bars n e λ x k s. let P = place x k in of_none (span_at S E) (length S) e (sym h ∙ ap found_of w) P.0 P.1 (subst (Stands e) (sym P.3) s))

  module _ (r : Option ℕ) (i : ℕ) (w : r ≡ Some i) (h : found_of r ≡ nearest (span_at S E) (length S) e) where
    found : IsNearest (span_at S E) (length S) e i
    found = of_nearest (span_at S E) (length S) e i (sym h ∙ ap found_of w)

    pub place_lt : i < length C
    place_lt = omega (arith, found.corner, O.count, O.beside)

    pub corner_bar : bar (get_or C i 0) ≡ nearest bars n e
    corner_bar =
        let k : i < n = omega (arith, place_lt, O.beside) in
        sym (nearest_of bars n e (get_or C i 0) (record {
          corner = O.corner i k;
          at = found.at;
          between = found.between;
          has = subst (λ b. HasCell b found.at) (O.held i k) found.has;
          least = λ x l d b v. let P = place x l in found.least P.0 P.1 d b (subst (λ b. HasCell b d) (sym P.3) v);
          lowest = λ x l v.
              let P = place x l in
              let u : HasCell (span_at S E P.0) found.at = subst (λ b. HasCell b found.at) (sym P.3) v in
              let m : i ≡ P.0 = omega (arith, found.lowest P.0 P.1 u, place_le S E O.order P.0 i P.1 found.corner found.at u found.has) in
              rw (m, P.2) (omega arith);
        }))

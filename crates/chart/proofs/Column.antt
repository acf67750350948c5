-- One column: its rows ascend, and its upright joins two neighbouring cells, so that no cell lies between the upright's ends.
-- Rests on lists and cells.
use mathlib.Core.Path.{◌≡◌, refl, sym, ◌∙◌, ap, subst}
use mathlib.Core.Logic.{◌⊎◌, inl, inr, ◌≢◌}
use mathlib.Core.List.{List, [], ◌∷◌, ◌++◌, map, reverse, append_assoc, reverse-cons, reverse-append, reverse_aux-eq, map-append}
use Prim.Native.Nat.{ℕ, suc, ◌-◌, ◌≤◌, ◌<◌}
use native.Mathlib.Omega.{arith}
use Rattle.lists.specs.Lists.{All, Mem, head, tail}
use Rattle.lists.proofs.Lists.{here, mem_right}
use Rattle.polygon.specs.Polygon.{Edge}
use Rattle.chart.specs.Chart.{Meets, Between}
use Rattle.chart.proofs.Cells.{Cell, row_by}
use Rattle.chart.proofs.Runs.{Col}

-- rows that ascend, from lo on and below hi
pub data Asc (hi : ℕ) : ℕ → List Cell → Type 0 where
  end : {lo : ℕ} → lo ≤ hi → Asc hi lo []
  rise : {lo : ℕ} {y : Cell} {c : List Cell} → lo ≤ y.1 → Asc hi (suc y.1) c → Asc hi lo (y ∷ c)

-- the constructors as functions, whose indices are known before their arguments are read
pub asc_end : {hi lo : ℕ} → lo ≤ hi → Asc hi lo []
asc_end h = end h

pub asc_rise : {hi lo : ℕ} {y : Cell} {c : List Cell} → lo ≤ y.1 → Asc hi (suc y.1) c → Asc hi lo (y ∷ c)
asc_rise h a = rise h a

asc_le : {hi lo : ℕ} {c : List Cell} → Asc hi lo c → lo ≤ hi
asc_le (end h) = h
asc_le (rise h a) = omega (arith, asc_le a)

pub asc_low : {hi lo lo' : ℕ} {c : List Cell} → lo' ≤ lo → Asc hi lo c → Asc hi lo' c
asc_low k (end h) = asc_end (omega arith)
asc_low k (rise h a) = asc_rise (omega arith) a

pub asc_high : {hi hi' lo : ℕ} {c : List Cell} → hi ≤ hi' → Asc hi lo c → Asc hi' lo c
asc_high k (end h) = asc_end (omega arith)
asc_high k (rise h a) = asc_rise h (asc_high k a)

pub asc_append : {hi mid lo : ℕ} {c d : List Cell} → Asc mid lo c → Asc hi mid d → Asc hi lo (c ++ d)
asc_append (end h) b = asc_low h b
asc_append (rise h a) b = asc_rise h (asc_append a b)

pub asc_suc : {hi lo : ℕ} {c : List Cell} → Asc hi lo c → Asc (suc hi) (suc lo) (map (row_by suc) c)
asc_suc (end h) = asc_end (omega arith)
asc_suc (rise h a) = asc_rise (omega arith) (asc_suc a)

-- turned over at row k
abbrev pub over : ℕ → List Cell → List Cell
over k c = reverse (map (row_by (k -◌)) c)

pub asc_over : {hi lo : ℕ} {c : List Cell} (k : ℕ) → hi ≤ suc k → Asc hi lo c → Asc (suc k - lo) (suc k - hi) (over k c)
asc_over k b (end h) = asc_end (omega arith)
asc_over {hi} {lo} k b (rise {y = y} {c} h a) =
    let g : suc y.1 ≤ hi = asc_le a in
    subst (Asc (suc k - lo) (suc k - hi)) (sym (reverse-cons (row_by (k -◌) y) (map (row_by (k -◌)) c))) (asc_append (asc_over k b a) (asc_rise (omega arith) (asc_end (omega arith))))

-- the corner x has a cell on row r
abbrev pub CellOn : ℕ → ℕ → List Cell → Type 0
CellOn x r c = Mem {A = Cell} (x, r) c

row_of : {y z : Cell} → y ≡ z → y.1 ≡ z.1
row_of e = ap (λ (w : Cell). w.1) e

asc_above : {hi lo : ℕ} {c : List Cell} (x r : ℕ) → Asc hi lo c → CellOn x r c → lo ≤ r
asc_above x r (rise {y = y} h a) (head e) = omega (arith, row_of e)
asc_above x r (rise h a) (tail m) = omega (arith, asc_above x r a m)
asc_above {hi = hi} x r (end {lo = lo} _) x9 = elim x9 [ ]

pub asc_below : {hi lo : ℕ} {c : List Cell} (x r : ℕ) → Asc hi lo c → CellOn x r c → r < hi
asc_below x r (rise {y = y} h a) (head e) = omega (arith, row_of e, asc_le a)
asc_below x r (rise h a) (tail m) = asc_below x r a m
asc_below {hi = hi} x r (end {lo = lo} _) x9 = elim x9 [ ]

pub asc_one : {hi lo : ℕ} {c : List Cell} (x y r : ℕ) → Asc hi lo c → CellOn x r c → CellOn y r c → x ≡ y
asc_one x y r (rise h a) (head e) (head g) = ap (λ (w : Cell). w.0) (e ∙ sym g)
asc_one x y r (rise {y = z} h a) (head e) (tail m) = absurd (omega (arith, row_of e, asc_above y r a m))
asc_one x y r (rise {y = z} h a) (tail m) (head g) = absurd (omega (arith, row_of g, asc_above x r a m))
asc_one x y r (rise h a) (tail m) (tail k) = asc_one x y r a m k
asc_one {hi = hi} x y r (end {lo = lo} _) x12 _ = elim x12 [ ]

asc_tail : {hi lo : ℕ} {y : Cell} {c : List Cell} → Asc hi lo (y ∷ c) → Asc hi (suc y.1) c
asc_tail (rise h a) = a

-- neighbouring cells: the second is on a higher row, and no cell lies between
asc_next : {hi lo : ℕ} (pre : List Cell) (a b : Cell) (post : List Cell) → Asc hi lo (pre ++ (a ∷ (b ∷ post))) → a.1 < b.1
asc_next [] a b post h = asc_above b.0 b.1 (asc_tail h) here
asc_next (z ∷ pre) a b post h = asc_next pre a b post (asc_tail h)

asc_apart : {hi lo : ℕ} (pre : List Cell) (a b : Cell) (post : List Cell) (x r : ℕ) → Asc hi lo (pre ++ (a ∷ (b ∷ post))) → CellOn x r (pre ++ (a ∷ (b ∷ post))) → (r ≤ a.1) ⊎ (b.1 ≤ r)
asc_apart [] a b post x r h (head e) = inl (omega (arith, row_of e))
asc_apart [] a b post x r h (tail m) = inr (asc_above x r (asc_low (omega arith) (asc_next_on h)) m)
  where
    asc_next_on : {hi lo : ℕ} {y z : Cell} {c : List Cell} → Asc hi lo (y ∷ (z ∷ c)) → Asc hi z.1 (z ∷ c)
    asc_next_on (rise h (rise k a)) = asc_rise (omega arith) a
asc_apart (z ∷ pre) a b post x r h (head e) = inl (omega (arith, row_of e, asc_above a.0 a.1 (asc_tail h) (mem_right pre here)))
asc_apart (z ∷ pre) a b post x r h (tail m) = asc_apart pre a b post x r (asc_tail h) m

-- e is the edge of a and b
abbrev pub EdgeBetween : Edge → ℕ → ℕ → Type 0
EdgeBetween e a b = (e ≡ (a, b)) ⊎ (e ≡ (b, a))

pub joins_sym : {e : Edge} {a b : ℕ} → EdgeBetween e a b → EdgeBetween e b a
joins_sym (inl h) = inr h
joins_sym (inr h) = inl h

pub joins_left : {e : Edge} {a b : ℕ} → EdgeBetween e a b → Meets a e
joins_left (inl h) = inl (ap (λ (x : Edge). x.0) h)
joins_left (inr h) = inr (ap (λ (x : Edge). x.1) h)

-- an upright joins two cells, one next to the other
pub record Adj (e : Edge) (c : List Cell) : Type 0 where
  pub pre : List Cell
  pub a : Cell
  pub b : Cell
  pub post : List Cell
  pub is : c ≡ pre ++ (a ∷ (b ∷ post))
  pub ends : EdgeBetween e a.0 b.0

pub adj_pre : {e : Edge} {c : List Cell} (p : List Cell) → Adj e c → Adj e (p ++ c)
adj_pre p j = record { pre = p ++ j.pre; a = j.a; b = j.b; post = j.post; is = ap (p ++◌) j.is ∙ sym (append_assoc p j.pre (j.a ∷ (j.b ∷ j.post))); ends = j.ends }

pub adj_post : {e : Edge} {c : List Cell} (q : List Cell) → Adj e c → Adj e (c ++ q)
adj_post q j = record { pre = j.pre; a = j.a; b = j.b; post = j.post ++ q; is = ap (◌++ q) j.is ∙ append_assoc j.pre (j.a ∷ (j.b ∷ j.post)) q; ends = j.ends }

pub adj_lay : {e : Edge} {c : List Cell} (f : ℕ → ℕ) → Adj e c → Adj e (map (row_by f) c)
adj_lay f j = record { pre = map (row_by f) j.pre; a = row_by f j.a; b = row_by f j.b; post = map (row_by f) j.post; is = ap (map (row_by f)) j.is ∙ map-append (row_by f) j.pre (j.a ∷ (j.b ∷ j.post)); ends = j.ends }

pub adj_reverse : {e : Edge} {c : List Cell} → Adj e c → Adj e (reverse c)
adj_reverse {e} {c} j = record { pre = reverse j.post; a = j.b; b = j.a; post = reverse j.pre; is = eq; ends = joins_sym j.ends }
  where
    eq : reverse c ≡ reverse j.post ++ (j.b ∷ (j.a ∷ reverse j.pre))
    eq = ap reverse j.is ∙ (reverse-append j.pre (j.a ∷ (j.b ∷ j.post)) ∙ (ap (◌++ reverse j.pre) (reverse_aux-eq j.post (j.b ∷ (j.a ∷ []))) ∙ append_assoc (reverse j.post) (j.b ∷ (j.a ∷ [])) (reverse j.pre)))

pub adj_two : (e : Edge) (a b : Cell) (post : List Cell) → EdgeBetween e a.0 b.0 → Adj e (a ∷ (b ∷ post))
adj_two e a b post j = record { pre = []; a = a; b = b; post = post; is = refl; ends = j }

-- the ends of an upright lie on different rows, with no cell between
pub record UprightEnds (e : Edge) (c : List Cell) : Type 0 where
  pub r : ℕ
  pub s : ℕ
  pub low : CellOn e.0 r c
  pub high : CellOn e.1 s c
  pub differ : r ≢ s
  pub free : (x t : ℕ) → CellOn x t c → Between r s t → ⊥

ends_swap : {e : Edge} {a b : ℕ} {c : List Cell} → e ≡ (b, a) → UprightEnds (a, b) c → UprightEnds e c
ends_swap {c = c} g E = subst (λ (f : Edge). UprightEnds f c) (sym g) (record {
  r = E.s;
  s = E.r;
  low = E.high;
  high = E.low;
  differ = λ q. E.differ (sym q);
  free = λ x t i b. E.free x t i (elim b [ inl k ↦ inr k | inr k ↦ inl k ]);
})

pub adj_ends : {e : Edge} {c : List Cell} {hi lo : ℕ} → Asc hi lo c → Adj e c → UprightEnds e c
adj_ends {e} {c} {hi} {lo} h j = elim j.ends [ inl g ↦ subst (λ (f : Edge). UprightEnds f c) (sym g) between | inr g ↦ ends_swap g between ]
  where
    h' : Asc hi lo (j.pre ++ (j.a ∷ (j.b ∷ j.post)))
    h' = subst (Asc hi lo) j.is h

    lt : j.a.1 < j.b.1
    lt = asc_next j.pre j.a j.b j.post h'

    none : (t : ℕ) → (t ≤ j.a.1) ⊎ (j.b.1 ≤ t) → Between j.a.1 j.b.1 t → ⊥
    none t (inl k) (inl b) = omega arith
    none t (inl k) (inr b) = omega (arith, lt)
    none t (inr k) (inl b) = omega arith
    none t (inr k) (inr b) = omega (arith, lt)

    between : UprightEnds (j.a.0, j.b.0) c
    between = record {
      r = j.a.1;
      s = j.b.1;
      low = subst (Mem j.a) (sym j.is) (mem_right j.pre here);
      high = subst (Mem j.b) (sym j.is) (mem_right j.pre (tail here));
      differ = λ q. omega (arith, lt);
      free = λ x t i b. none t (asc_apart j.pre j.a j.b j.post x t h' (subst (CellOn x t) j.is i)) b;
    }

-- so a corner at which the upright ends has a cell
pub ends_has : {e : Edge} {c : List Cell} (x : ℕ) → UprightEnds e c → Meets x e → (r : ℕ) × CellOn x r c
ends_has {e} {c} x E (inl h) = (E.r, subst (λ (y : ℕ). CellOn y E.r c) h E.low)
ends_has {e} {c} x E (inr h) = (E.s, subst (λ (y : ℕ). CellOn y E.s c) h E.high)

-- a column that can stand in a drawing with rows to k, R being what is known of its cells
pub record Good (k : ℕ) (R : Cell → Type 0) (c : Col) : Type 0 where
  pub asc : Asc (suc k) 0 c.0
  pub joins : Adj c.1 c.0
  pub known : All R c.0

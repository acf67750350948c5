-- Two columns side by side in which the bars of a level edge end side by side.
-- Rests on Column.antt.
use mathlib.Core.Path.{◌≡◌, refl, sym, ap, subst}
use mathlib.Core.Logic.{◌⊎◌, inl, inr}
use mathlib.Core.List.{List, [], ◌∷◌, ◌++◌, map, reverse, reverse-cons}
use Prim.Native.Nat.{ℕ}
use Rattle.polygon.specs.Polygon.{Edge, ◌—◌}
use Rattle.lists.proofs.Lists.{not_empty}
use Rattle.chart.specs.Chart.{Meets}
use Rattle.chart.proofs.Cells.{Cell}
use Rattle.chart.proofs.Runs.{Col, on}
use Rattle.chart.proofs.Column.{CellOn, EdgeBetween}

-- a column's upright ends at x, on row r
abbrev pub Tip : ℕ → ℕ → Col → Type 0
Tip x r c = CellOn x r c.0 × Meets x c.1

-- the bars of e's corners end in these two columns, on one row
abbrev pub Facing : Edge → Col → Col → Type 0
Facing e b c = ((r : ℕ) × Tip e.0 r b × Tip e.1 r c) ⊎ ((r : ℕ) × Tip e.1 r b × Tip e.0 r c)

pub near_edge : {e : Edge} {a b r : ℕ} {S T : Col} → EdgeBetween e a b → Tip a r S → Tip b r T → Facing e S T
near_edge {e} {a} {b} {r} {S} {T} (inl h) i j = inl (r, subst (λ z. Tip z r S) (ap (λ (x : Edge). x.0) (sym h)) i, subst (λ z. Tip z r T) (ap (λ (x : Edge). x.1) (sym h)) j)
near_edge {e} {a} {b} {r} {S} {T} (inr h) i j = inr (r, subst (λ z. Tip z r S) (ap (λ (x : Edge). x.1) (sym h)) i, subst (λ z. Tip z r T) (ap (λ (x : Edge). x.0) (sym h)) j)

near_sym : {e : Edge} {S T : Col} → Facing e S T → Facing e T S
near_sym (inl n) = inr (n.0, n.2, n.1)
near_sym (inr n) = inl (n.0, n.2, n.1)

near_swap : {a b : ℕ} {S T : Col} → Facing (a — b) S T → Facing (b — a) S T
near_swap (inl m) = inr m
near_swap (inr m) = inl m

-- no column at all
abbrev pub start : Col
start = ([], (0, 0))

pub near_start : {e : Edge} {T : Col} → Facing e start T → ⊥
near_start (inl n) = not_empty n.1.0
near_start (inr n) = not_empty n.1.0

-- somewhere in the columns S, then L
pub data FacingIn (e : Edge) : Col → List Col → Type 0 where
  near : {S : Col} {c : Col} {L : List Col} → Facing e S c → FacingIn e S (c ∷ L)
  later : {S : Col} {c : Col} {L : List Col} → FacingIn e c L → FacingIn e S (c ∷ L)

pub touch_joins : {e : Edge} {a b : ℕ} {S : Col} {L : List Col} → EdgeBetween e a b → FacingIn (a — b) S L → FacingIn e S L
touch_joins {e} {a} {b} {S} {L} (inl h) t = subst (λ (f : Edge). FacingIn f S L) (sym h) t
touch_joins {e} {a} {b} {S} {L} (inr h) t = subst (λ (f : Edge). FacingIn f S L) (sym h) (swap t)
  where
    swap : {a b : ℕ} {S : Col} {L : List Col} → FacingIn (a — b) S L → FacingIn (b — a) S L
    swap (near n) = near (near_swap n)
    swap (later t) = later (swap t)

-- the first column of a list may be any
pub touch_any : {e : Edge} {S : Col} {L : List Col} → FacingIn e start L → FacingIn e S L
touch_any (near n) = absurd (near_start n)
touch_any (later t) = later t

pub touch_tail : {e : Edge} {c : Col} {L : List Col} → FacingIn e start (c ∷ L) → FacingIn e c L
touch_tail (near n) = absurd (near_start n)
touch_tail (later t) = t

abbrev pub last_of : Col → List Col → Col
last_of S [] = S
last_of S (c ∷ L) = last_of c L

pub last_append : (S : Col) (L M : List Col) → last_of S (L ++ M) ≡ last_of (last_of S L) M
last_append S [] M = refl
last_append S (c ∷ L) M = last_append c L M

pub touch_left : {e : Edge} {S : Col} {L : List Col} (M : List Col) → FacingIn e S L → FacingIn e S (L ++ M)
touch_left M (near n) = near n
touch_left M (later t) = later (touch_left M t)

pub touch_right : {e : Edge} (S : Col) (L : List Col) {M : List Col} → FacingIn e (last_of S L) M → FacingIn e S (L ++ M)
touch_right S [] t = t
touch_right S (c ∷ L) t = later (touch_right c L t)

-- read from the right, S last
pub touch_back : {e : Edge} {S : Col} {L : List Col} → FacingIn e S L → FacingIn e start (reverse L ++ (S ∷ []))
touch_back {e} {S} (near {c = c} {L = L} n) =
    subst (λ (M : List Col). FacingIn e start (M ++ (S ∷ []))) (sym (reverse-cons c L))
    (touch_right start (reverse L ++ (c ∷ [])) (subst (λ (T : Col). FacingIn e T (S ∷ [])) (sym (last_append start (reverse L) (c ∷ []))) (near (near_sym n))))
touch_back {e} {S} (later {c = c} {L = L} t) = subst (λ (M : List Col). FacingIn e start (M ++ (S ∷ []))) (sym (reverse-cons c L)) (touch_left (S ∷ []) (touch_back t))

pub touch_reverse : {e : Edge} {L : List Col} → FacingIn e start L → FacingIn e start (reverse L)
touch_reverse (near n) = absurd (near_start n)
touch_reverse {e} (later {c = c} {L = L} t) = subst (FacingIn e start) (sym (reverse-cons c L)) (touch_back t)

-- the cells of all columns put elsewhere, their rows by f
module _ (pl : List Cell → List Cell) (f : ℕ → ℕ) (h : (x r : ℕ) (c : List Cell) → CellOn x r c → CellOn x (f r) (pl c)) where
  near_place : {e : Edge} {S T : Col} → Facing e S T → Facing e (on pl S) (on pl T)
  near_place (inl m) = inl (f m.0, (h _ _ _ m.1.0, m.1.1), (h _ _ _ m.2.0, m.2.1))
  near_place (inr m) = inr (f m.0, (h _ _ _ m.1.0, m.1.1), (h _ _ _ m.2.0, m.2.1))

  pub touch_place : {e : Edge} {S : Col} {L : List Col} → FacingIn e S L → FacingIn e (on pl S) (map (on pl) L)
  touch_place (near n) = near (near_place n)
  touch_place (later t) = later (touch_place t)

  pub touch_into : {e : Edge} {L : List Col} (T : Col) → FacingIn e start L → FacingIn e T (map (on pl) L)
  touch_into T (near n) = absurd (near_start n)
  touch_into T (later t) = later (touch_place t)

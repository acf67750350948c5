-- Where the pieces of a plan stand in a chart, and document 01's rule for the bars of their root corners:
-- "In every piece, before any reversal, u's bar starts in the piece's first column and v's ends in its last. Root-edge bars meet side by side."
use Rattle.std.specs.Prelude.{◌≡◌, ◌⊎◌, List, reverse, ℕ, suc, ◌+◌, ◌-◌, ◌<◌, length, get_or}
use Rattle.lists.specs.Lists.{Mem}
use Rattle.polygon.specs.Polygon.{Edge, ◌—◌}
use Rattle.polygon.specs.Tree.{Tree, node, span}
use Rattle.umbrella.specs.Plan.{Plan, none, plain, stem_left, stem_right, LeftRim, left_end, left_on, RightRim, right_end, right_on, LeftGate, left_gate, left_past, RightGate, right_gate, right_past, Stem, end_both, end_left, end_right, go_left, go_right}
use Rattle.chart.specs.Chart.{upright, Chart, Covers}

-- The columns xs of a piece with the root corners a, left, and b, right, stand in the chart from column `at` on.
pub record Rooted (c : Chart) (xs : List Edge) (a b : ℕ) : Type 0 where
  pub at : ℕ
  -- column j of the piece is column at + j of the chart
  pub named : (j : ℕ) → j < length xs → Mem (upright (get_or xs j (0 — 0)) (at + j)) c.strokes
  -- the left corner's bar has a cell in the first of them, the right corner's in the last; and between them the two bars meet side by side
  pub starts : Covers c a at
  pub ends : Covers c b (at + length xs - 1)
  pub meet : suc (c.bar a).right ≡ (c.bar b).left

-- so stand the columns of the piece (u,v), or reversed, and then with v left
abbrev pub RootBars : Chart → List Edge → ℕ → ℕ → Type 0
RootBars c xs u v = Rooted c xs u v ⊎ Rooted c (reverse xs) v u

-- Q holds of the plan of the piece (u,v), and of each hung piece in it that is not empty
module _ (Q : (s : Tree) → Plan s → ℕ → ℕ → Type 0) where
  unfoldable mutual
    pub EveryPiece : {t : Tree} → Plan t → ℕ → ℕ → Type 0
    EveryPiece none u v = Unit {0}
    EveryPiece (plain {l} {r} A B) u v = Q (node l r) (plain A B) u v × EveryLeft A u (u + span l) × EveryRight B (u + span l) v
    EveryPiece (stem_left {l} {r} G B) u v = Q (node l r) (stem_left G B) u v × EveryLeftGate G u (u + span l) × EveryRight B (u + span l) v
    EveryPiece (stem_right {l} {r} A G) u v = Q (node l r) (stem_right A G) u v × EveryLeft A u (u + span l) × EveryRightGate G (u + span l) v

    pub EveryLeft : {t : Tree} → LeftRim t → ℕ → ℕ → Type 0
    EveryLeft left_end u v = Unit {0}
    EveryLeft (left_on {a} A p) u v = EveryLeft A u (u + span a) × EveryPiece p (u + span a) v

    pub EveryRight : {t : Tree} → RightRim t → ℕ → ℕ → Type 0
    EveryRight right_end u v = Unit {0}
    EveryRight (right_on {a} p B) u v = EveryPiece p u (u + span a) × EveryRight B (u + span a) v

    pub EveryLeftGate : {t : Tree} → LeftGate t → ℕ → ℕ → Type 0
    EveryLeftGate (left_gate {a} A S) u v = EveryLeft A u (u + span a) × EveryStem S (u + span a) v
    EveryLeftGate (left_past {a} G p) u v = EveryLeftGate G u (u + span a) × EveryPiece p (u + span a) v

    pub EveryRightGate : {t : Tree} → RightGate t → ℕ → ℕ → Type 0
    EveryRightGate (right_gate {a} S B) u v = EveryStem S u (u + span a) × EveryRight B (u + span a) v
    EveryRightGate (right_past {a} p G) u v = EveryPiece p u (u + span a) × EveryRightGate G (u + span a) v

    pub EveryStem : {t : Tree} → Stem t → ℕ → ℕ → Type 0
    EveryStem end_both p q = Unit {0}
    EveryStem (end_left c) p q = EveryPiece c (suc p) q
    EveryStem (end_right {a} {b} c) p q = EveryPiece c p (p + span (node a b))
    EveryStem (go_left {a} S c) p q = EveryStem S p (p + span a) × EveryPiece c (p + span a) q
    EveryStem (go_right {a} c S) p q = EveryPiece c p (p + span a) × EveryStem S (p + span a) q

-- What holds of every plan: an induction over its parts, for any claims about pieces, rims, gates and stems.
-- The recursion is written here, once: antt compiles the functions of such a block together and reads each clause again, so that a proof in a clause costs several times what it costs in a step.
use Rattle.polygon.specs.Tree.{Tree, leaf, node}
use Rattle.umbrella.specs.Plan.{Plan, none, plain, stem_left, stem_right, LeftRim, left_end, left_on, RightRim, right_end, right_on, LeftGate, left_gate, left_past, RightGate, right_gate, right_past, Stem, end_both, end_left, end_right, go_left, go_right}

pub record Claims : Type 1 where
  pub Piece : (t : Tree) → Plan t → Type 0
  pub Left : (t : Tree) → LeftRim t → Type 0
  pub Right : (t : Tree) → RightRim t → Type 0
  pub LeftGated : (t : Tree) → LeftGate t → Type 0
  pub RightGated : (t : Tree) → RightGate t → Type 0
  pub Entered : (t : Tree) → Stem t → Type 0

pub record Steps (C : Claims) : Type 0 where
  pub empty : C.Piece leaf none
  pub bare : (l r : Tree) (A : LeftRim l) (B : RightRim r) → C.Left l A → C.Right r B → C.Piece (node l r) (plain A B)
  pub stem_below : (l r : Tree) (G : LeftGate l) (B : RightRim r) → C.LeftGated l G → C.Right r B → C.Piece (node l r) (stem_left G B)
  pub stem_above : (l r : Tree) (A : LeftRim l) (G : RightGate r) → C.Left l A → C.RightGated r G → C.Piece (node l r) (stem_right A G)
  pub left_end_lem : C.Left leaf left_end
  pub left_on_lem : (a b : Tree) (A : LeftRim a) (p : Plan b) → C.Left a A → C.Piece b p → C.Left (node a b) (left_on A p)
  pub right_end_lem : C.Right leaf right_end
  pub right_on_lem : (a b : Tree) (p : Plan a) (B : RightRim b) → C.Piece a p → C.Right b B → C.Right (node a b) (right_on p B)
  pub left_gate_lem : (a b : Tree) (A : LeftRim a) (S : Stem b) → C.Left a A → C.Entered b S → C.LeftGated (node a b) (left_gate A S)
  pub left_past_lem : (a b : Tree) (G : LeftGate a) (p : Plan b) → C.LeftGated a G → C.Piece b p → C.LeftGated (node a b) (left_past G p)
  pub right_gate_lem : (a b : Tree) (S : Stem a) (B : RightRim b) → C.Entered a S → C.Right b B → C.RightGated (node a b) (right_gate S B)
  pub right_past_lem : (a b : Tree) (p : Plan a) (G : RightGate b) → C.Piece a p → C.RightGated b G → C.RightGated (node a b) (right_past p G)
  pub ends : C.Entered (node leaf leaf) end_both
  pub ends_left : (a b : Tree) (c : Plan (node a b)) → C.Piece (node a b) c → C.Entered (node leaf (node a b)) (end_left c)
  pub ends_right : (a b : Tree) (c : Plan (node a b)) → C.Piece (node a b) c → C.Entered (node (node a b) leaf) (end_right c)
  pub goes_left_lem : (a b : Tree) (S : Stem a) (c : Plan b) → C.Entered a S → C.Piece b c → C.Entered (node a b) (go_left S c)
  pub goes_right : (a b : Tree) (c : Plan a) (S : Stem b) → C.Piece a c → C.Entered b S → C.Entered (node a b) (go_right c S)

module _ (C : Claims) (N : Steps C) where
  mutual
    pub of_plan : {t : Tree} (p : Plan t) → C.Piece t p
    of_plan none = N.empty
    of_plan (plain {l} {r} A B) = N.bare l r A B (of_left A) (of_right B)
    of_plan (stem_left {l} {r} G B) = N.stem_below l r G B (of_left_gate G) (of_right B)
    of_plan (stem_right {l} {r} A G) = N.stem_above l r A G (of_left A) (of_right_gate G)

    of_left : {t : Tree} (A : LeftRim t) → C.Left t A
    of_left left_end = N.left_end_lem
    of_left (left_on {a} {b} A p) = N.left_on_lem a b A p (of_left A) (of_plan p)

    of_right : {t : Tree} (B : RightRim t) → C.Right t B
    of_right right_end = N.right_end_lem
    of_right (right_on {a} {b} p B) = N.right_on_lem a b p B (of_plan p) (of_right B)

    of_left_gate : {t : Tree} (G : LeftGate t) → C.LeftGated t G
    of_left_gate (left_gate {a} {b} A S) = N.left_gate_lem a b A S (of_left A) (of_stem S)
    of_left_gate (left_past {a} {b} G p) = N.left_past_lem a b G p (of_left_gate G) (of_plan p)

    of_right_gate : {t : Tree} (G : RightGate t) → C.RightGated t G
    of_right_gate (right_gate {a} {b} S B) = N.right_gate_lem a b S B (of_stem S) (of_right B)
    of_right_gate (right_past {a} {b} p G) = N.right_past_lem a b p G (of_plan p) (of_right_gate G)

    of_stem : {t : Tree} (S : Stem t) → C.Entered t S
    of_stem end_both = N.ends
    of_stem (end_left {a} {b} c) = N.ends_left a b c (of_plan c)
    of_stem (end_right {a} {b} c) = N.ends_right a b c (of_plan c)
    of_stem (go_left {a} {b} S c) = N.goes_left_lem a b S c (of_stem S) (of_plan c)
    of_stem (go_right {a} {b} c S) = N.goes_right a b c S (of_plan c) (of_stem S)

-- Document 01: "Every diagonal left on the umbrella's border, root edge excepted, carries a hung piece, planned likewise."
-- An umbrella takes the upper part of its piece's tree; the pieces below it hang on its border, an empty one on each side there. (`border_is` and `hung_on_diagonal` in proofs/Theorems.antt.)
use Rattle.std.specs.Prelude.{◌≡◌, ◌⊎◌, ◌≢◌, List, [], ◌∷◌, ◌++◌, ℕ, ◌+◌}
use Rattle.lists.specs.Lists.{Mem, All}
use Rattle.polygon.specs.Polygon.{Edge}
use Rattle.polygon.specs.Tree.{Tree, leaf, node, span}
use Rattle.umbrella.specs.Plan.{Plan, none, plain, stem_left, stem_right, LeftRim, left_end, left_on, RightRim, right_end, right_on, LeftGate, left_gate, left_past, RightGate, right_gate, right_past, Stem, end_both, end_left, end_right, go_left, go_right}
use Rattle.umbrella.specs.Triangles.{Triangle, Inner, Outer}

-- of a piece: it hangs, or the triangle at its root edge is taken
pub data Cut : Tree → Type 0 where
  hangs : {t : Tree} → Cut t
  takes : {l r : Tree} → Cut l → Cut r → Cut (node l r)

-- what the umbrella at the root edge takes: a piece with a plan of its own hangs
unfoldable pub cut_left : {t : Tree} → LeftRim t → Cut t
cut_left left_end = hangs
cut_left (left_on A p) = takes (cut_left A) hangs

unfoldable pub cut_right : {t : Tree} → RightRim t → Cut t
cut_right right_end = hangs
cut_right (right_on p B) = takes hangs (cut_right B)

unfoldable pub cut_stem : {t : Tree} → Stem t → Cut t
cut_stem end_both = takes hangs hangs
cut_stem (end_left p) = takes hangs hangs
cut_stem (end_right p) = takes hangs hangs
cut_stem (go_left S p) = takes (cut_stem S) hangs
cut_stem (go_right p S) = takes hangs (cut_stem S)

unfoldable pub cut_left_gate : {t : Tree} → LeftGate t → Cut t
cut_left_gate (left_gate A S) = takes (cut_left A) (cut_stem S)
cut_left_gate (left_past G p) = takes (cut_left_gate G) hangs

unfoldable pub cut_right_gate : {t : Tree} → RightGate t → Cut t
cut_right_gate (right_gate S B) = takes (cut_stem S) (cut_right B)
cut_right_gate (right_past p G) = takes hangs (cut_right_gate G)

unfoldable pub cut : {t : Tree} → Plan t → Cut t
cut none = hangs
cut (plain A B) = takes (cut_left A) (cut_right B)
cut (stem_left G B) = takes (cut_left_gate G) (cut_right B)
cut (stem_right A G) = takes (cut_left A) (cut_right_gate G)

-- the pieces that hang, each by its lower corner and its tree
unfoldable pub hung_in : {t : Tree} → ℕ → Cut t → List (ℕ × Tree)
hung_in u (hangs {t}) = (u, t) ∷ []
hung_in u (takes {l} L R) = hung_in u L ++ hung_in (u + span l) R

unfoldable pub hung : {t : Tree} → Plan t → ℕ → List (ℕ × Tree)
hung p u = hung_in u (cut p)

-- nothing is hung: each of them is empty
abbrev pub NothingHung : {t : Tree} → Plan t → Type 0
NothingHung p = All (λ s. s.1 ≡ leaf) (hung p 0)

-- a hung piece stands on the edge
abbrev pub Carries : List (ℕ × Tree) → Edge → Type 0
Carries hs e = (s : Tree) × Mem (e.0, s) hs × (e.0 + span s ≡ e.1)

-- "the umbrella's border, root edge excepted": an edge of one of the triangles only, the one on this side of it or the one on that
abbrev pub Border : List Triangle → Edge → Edge → Type 0
Border xs root e = (e ≢ root) × ((Inner xs e × ¬ Outer xs e) ⊎ (Outer xs e × ¬ Inner xs e))

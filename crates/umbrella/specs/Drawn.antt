-- Document 01: "The plan drawn has least levels in every piece. Ties: no stem first, then the lower first gate, then the words of E, L, R letter by letter, E < L < R."
-- It is defined by this property alone. (`each_best` and `unique` in proofs/Unique.antt: there is exactly one such plan, `best`.)
use Rattle.std.specs.Prelude.{◌≡◌, List, [], ◌∷◌, ℕ, suc, ◌≤◌, ◌<◌}
use Rattle.polygon.specs.Tree.{Tree, leaf, node}
use Rattle.umbrella.specs.Plan.{Plan, none, plain, stem_left, stem_right, LeftRim, left_end, left_on, RightRim, right_end, right_on, LeftGate, left_gate, left_past, RightGate, right_gate, right_past, Stem, end_both, end_left, end_right, go_left, go_right, levels}

-- a stem's word: E is 0, L is 1, R is 2
unfoldable pub word : {t : Tree} → Stem t → List ℕ
word end_both = 0 ∷ []
word (end_left p) = 0 ∷ []
word (end_right p) = 0 ∷ []
word (go_left S p) = 1 ∷ word S
word (go_right p S) = 2 ∷ word S

-- how many rim edges the piece (u,rj), j ≤ i, has: j
unfoldable pub rim_edges : Tree → ℕ
rim_edges leaf = 0
rim_edges (node a b) = suc (rim_edges a)

-- the number s of the first gate (rs, rs+1), then the stem's word
unfoldable pub code_left : {t : Tree} → LeftGate t → List ℕ
code_left (left_gate {a} A S) = rim_edges a ∷ word S
code_left (left_past G p) = code_left G

unfoldable pub code_right : {t : Tree} → ℕ → RightGate t → List ℕ
code_right s (right_gate S B) = s ∷ word S
code_right s (right_past p G) = code_right (suc s) G

-- an umbrella by a list of numbers: the empty one if it has no stem
unfoldable pub code : {t : Tree} → Plan t → List ℕ
code none = []
code (plain A B) = []
code (stem_left G B) = code_left G
code (stem_right {l} A G) = code_right (rim_edges l) G

-- no later in the order of the ties: the empty list first, then number by number
pub data Earlier : List ℕ → List ℕ → Type 0 where
  first : {ys : List ℕ} → Earlier [] ys
  less : {x y : ℕ} {xs ys : List ℕ} → x < y → Earlier (x ∷ xs) (y ∷ ys)
  same : {x y : ℕ} {xs ys : List ℕ} → x ≡ y → Earlier xs ys → Earlier (x ∷ xs) (y ∷ ys)

-- no plan of the piece has fewer levels, and none that has as few has an earlier umbrella
abbrev pub Chosen : {t : Tree} → Plan t → Type 0
Chosen {t} p = ((q : Plan t) → levels p ≤ levels q) × ((q : Plan t) → levels q ≤ levels p → Earlier (code p) (code q))

-- "in every piece": at the plan and at every hung piece in it
unfoldable mutual
  pub Each : {t : Tree} → Plan t → Type 0
  Each none = Unit {0}
  Each (plain A B) = Chosen (plain A B) × EachLeft A × EachRight B
  Each (stem_left G B) = Chosen (stem_left G B) × EachLeftGate G × EachRight B
  Each (stem_right A G) = Chosen (stem_right A G) × EachLeft A × EachRightGate G

  pub EachLeft : {t : Tree} → LeftRim t → Type 0
  EachLeft left_end = Unit {0}
  EachLeft (left_on A p) = EachLeft A × Each p

  pub EachRight : {t : Tree} → RightRim t → Type 0
  EachRight right_end = Unit {0}
  EachRight (right_on p B) = Each p × EachRight B

  pub EachLeftGate : {t : Tree} → LeftGate t → Type 0
  EachLeftGate (left_gate A S) = EachLeft A × EachStem S
  EachLeftGate (left_past G p) = EachLeftGate G × Each p

  pub EachRightGate : {t : Tree} → RightGate t → Type 0
  EachRightGate (right_gate S B) = EachStem S × EachRight B
  EachRightGate (right_past p G) = Each p × EachRightGate G

  pub EachStem : {t : Tree} → Stem t → Type 0
  EachStem end_both = Unit {0}
  EachStem (end_left p) = Each p
  EachStem (end_right p) = Each p
  EachStem (go_left S p) = EachStem S × Each p
  EachStem (go_right p S) = Each p × EachStem S

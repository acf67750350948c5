-- Request (iv), "Depth in the thesis's order": what each of the six values of an edge is the least of, by corners.
-- Document 004, chapter 6, Definitions 6.1, 6.3 and 6.5. All of it is of a part with n corners and the diagonals ds.
-- (`depth` in proofs/Theorems.antt: so it is for every edge (a,b) of a part whose piece is not empty, with the stems of document 01; `depth_of_paths`: and with
-- those of document 004, which may end anywhere.)
use Rattle.std.specs.Prelude.{◌≡◌, ◌⊎◌, List, [], ◌∷◌, ◌++◌, ℕ, suc, ◌+◌, ◌≤◌, max}
use Rattle.polygon.specs.Polygon.{Edge, ◌—◌, Side}
use Rattle.polygon.specs.Tree.{span, piece, PieceOf}
use Rattle.umbrella.specs.Plan.{Plan, Stem, fold_stem, levels}
use Rattle.umbrella.specs.Values.{handle, ud, fan_of_a, fan_of_b, partial_of_a, partial_of_b}
use Rattle.umbrella.specs.Triangles.{AllJoined}

-- m is the least value: a lower bound, and reached by one
pub record Least (A : Type 0) (value : A → ℕ) (m : ℕ) : Type 0 where
  pub low : (x : A) → m ≤ value x
  pub reached : (x : A) × (value x ≡ m)

-- "the most levels of a piece left hanging .. (0 if none)": of the pieces on these edges, each with its least levels; 0 on a side
unfoldable pub most : List Edge → List Edge → ℕ
most ds [] = 0
most ds (e ∷ es) = max (ud (piece ds e.0 e.1)) (most ds es)

-- where a stem may end, at the triangle (p,x,q). Document 01: "E needs (p,x) or (x,q) to be a side."
abbrev pub AtSide : ℕ → ℕ → ℕ → ℕ → Type 0
AtSide n p x q = Side n p x ⊎ Side n x q

-- Document 004: "A handle umbrella with cap (a,b) is an outerplanar path P with end-edge (a,b)." It may end at any triangle.
abbrev pub Anywhere : ℕ → ℕ → ℕ → Type 0
Anywhere p x q = Unit {0}

-- "At gate (p,q) it takes triangle (p,x,q), p < x < q, and then E ends, L goes on across (p,x) or R across (x,q).": the stems with first gate (p,q)
pub data StemAt (Ends : ℕ → ℕ → ℕ → Type 0) (n : ℕ) (ds : List Edge) : ℕ → ℕ → Type 0 where
  E : {p x q : ℕ} → AllJoined n ds (p, x, q) → Ends p x q → StemAt Ends n ds p q
  L : {p x q : ℕ} → AllJoined n ds (p, x, q) → StemAt Ends n ds p x → StemAt Ends n ds p q
  R : {p x q : ℕ} → AllJoined n ds (p, x, q) → StemAt Ends n ds x q → StemAt Ends n ds p q

-- what hangs beside it
unfoldable pub beside : {Ends : ℕ → ℕ → ℕ → Type 0} {n : ℕ} {ds : List Edge} {p q : ℕ} → StemAt Ends n ds p q → List Edge
beside (E {p} {x} {q} t e) = (p — x) ∷ (x — q) ∷ []
beside (L {p} {x} {q} t S) = (x — q) ∷ beside S
beside (R {p} {x} {q} t S) = (p — x) ∷ beside S

-- The triangles at a of the piece on (a,b), none if it is a side; and the edges opposite a in them. The same of b.
pub data FanA (n : ℕ) (ds : List Edge) : ℕ → ℕ → Type 0 where
  end : {a b : ℕ} → b ≡ suc a → FanA n ds a b
  on : {a c b : ℕ} → AllJoined n ds (a, c, b) → FanA n ds a c → FanA n ds a b

unfoldable pub opposite_a : {n : ℕ} {ds : List Edge} {a b : ℕ} → FanA n ds a b → List Edge
opposite_a (end h) = []
opposite_a (on {a} {c} {b} t F) = (c — b) ∷ opposite_a F

pub data FanB (n : ℕ) (ds : List Edge) : ℕ → ℕ → Type 0 where
  end : {a b : ℕ} → b ≡ suc a → FanB n ds a b
  on : {a c b : ℕ} → AllJoined n ds (a, c, b) → FanB n ds c b → FanB n ds a b

unfoldable pub opposite_b : {n : ℕ} {ds : List Edge} {a b : ℕ} → FanB n ds a b → List Edge
opposite_b (end h) = []
opposite_b (on {a} {c} {b} t F) = (a — c) ∷ opposite_b F

-- Definition 6.3: "the unique fan umbrella with cap (a,b) that contains all neighbors of a", its triangle at (a,b) being (a,c,b);
-- "any hanging subgraph .. that does not contain vertex b" hangs on an edge opposite a, but not on (c,b).
pub record FanUmbrellaA (n : ℕ) (ds : List Edge) (a b : ℕ) : Type 0 where
  pub c : ℕ
  pub first : AllJoined n ds (a, c, b)
  pub fan : FanA n ds a c

pub record FanUmbrellaB (n : ℕ) (ds : List Edge) (a b : ℕ) : Type 0 where
  pub c : ℕ
  pub first : AllJoined n ds (a, c, b)
  pub fan : FanB n ds c b

-- All the triangles at a of the piece on (a,b), and at most one stem, across an edge opposite a.
pub data StemmedA (Ends : ℕ → ℕ → ℕ → Type 0) (n : ℕ) (ds : List Edge) : ℕ → ℕ → Type 0 where
  bare : {a b : ℕ} → FanA n ds a b → StemmedA Ends n ds a b
  gate : {a c b : ℕ} → AllJoined n ds (a, c, b) → FanA n ds a c → StemAt Ends n ds c b → StemmedA Ends n ds a b
  past : {a c b : ℕ} → AllJoined n ds (a, c, b) → StemmedA Ends n ds a c → StemmedA Ends n ds a b

unfoldable pub hanging_a : {Ends : ℕ → ℕ → ℕ → Type 0} {n : ℕ} {ds : List Edge} {a b : ℕ} → StemmedA Ends n ds a b → List Edge
hanging_a (bare F) = opposite_a F
hanging_a (gate t F S) = beside S ++ opposite_a F
hanging_a (past {a} {c} {b} t P) = (c — b) ∷ hanging_a P

pub data StemmedB (Ends : ℕ → ℕ → ℕ → Type 0) (n : ℕ) (ds : List Edge) : ℕ → ℕ → Type 0 where
  bare : {a b : ℕ} → FanB n ds a b → StemmedB Ends n ds a b
  gate : {a c b : ℕ} → AllJoined n ds (a, c, b) → FanB n ds c b → StemAt Ends n ds a c → StemmedB Ends n ds a b
  past : {a c b : ℕ} → AllJoined n ds (a, c, b) → StemmedB Ends n ds c b → StemmedB Ends n ds a b

unfoldable pub hanging_b : {Ends : ℕ → ℕ → ℕ → Type 0} {n : ℕ} {ds : List Edge} {a b : ℕ} → StemmedB Ends n ds a b → List Edge
hanging_b (bare F) = opposite_b F
hanging_b (gate t F S) = beside S ++ opposite_b F
hanging_b (past {a} {c} {b} t P) = (a — c) ∷ hanging_b P

-- Definition 6.5: "a partial umbrella of a with cap (a,b) that contains all neighbors of a", and before it: "A partial umbrella of a is an umbrella with cap (a,b)
-- in which b has exactly two neighbors", a and c, so that no stem goes on across (c,b); "any hanging subgraph .. that does not contain vertex b" does not hang on (c,b).
pub record PartialUmbrellaA (Ends : ℕ → ℕ → ℕ → Type 0) (n : ℕ) (ds : List Edge) (a b : ℕ) : Type 0 where
  pub c : ℕ
  pub first : AllJoined n ds (a, c, b)
  pub rest : StemmedA Ends n ds a c

pub record PartialUmbrellaB (Ends : ℕ → ℕ → ℕ → Type 0) (n : ℕ) (ds : List Edge) (a b : ℕ) : Type 0 where
  pub c : ℕ
  pub first : AllJoined n ds (a, c, b)
  pub rest : StemmedB Ends n ds c b

-- What is claimed of every edge (a,b) whose piece is not empty, and proved in proofs/Depth.antt.
pub record Depth (Ends : ℕ → ℕ → ℕ → Type 0) (n : ℕ) (ds : List Edge) (a b : ℕ) : Type 0 where
  -- the piece on (a,b)
  pub whole_piece : PieceOf n ds a (piece ds a b) × (a + span (piece ds a b) ≡ b)
  -- "the handle's value is the least, over stems .. with that edge as first gate .., of the most levels of a piece left hanging beside the stem (0 if none)"
  -- (Definition 6.1)
  pub of_handle : Least (StemAt Ends n ds a b) (λ S. most ds (beside S)) (handle (piece ds a b))
  -- the same over the stems of plans of pieces, with the levels that the plans of the hung pieces have
  pub of_planned_handle : Least (Stem (piece ds a b)) (fold_stem max suc suc) (handle (piece ds a b))
  -- Definition 6.3: "the unique fan umbrella", so that the least is the only one
  pub of_fan_a : Least (FanUmbrellaA n ds a b) (λ U. most ds (opposite_a U.fan)) (fan_of_a (piece ds a b))
  pub each_fan_a : (U : FanUmbrellaA n ds a b) → most ds (opposite_a U.fan) ≡ fan_of_a (piece ds a b)
  pub of_fan_b : Least (FanUmbrellaB n ds a b) (λ U. most ds (opposite_b U.fan)) (fan_of_b (piece ds a b))
  pub each_fan_b : (U : FanUmbrellaB n ds a b) → most ds (opposite_b U.fan) ≡ fan_of_b (piece ds a b)
  -- Definition 6.5
  pub of_partial_a : Least (PartialUmbrellaA Ends n ds a b) (λ U. most ds (hanging_a U.rest)) (partial_of_a (piece ds a b))
  pub of_partial_b : Least (PartialUmbrellaB Ends n ds a b) (λ U. most ds (hanging_b U.rest)) (partial_of_b (piece ds a b))
  -- "and .. the whole's is the least levels of its piece"
  pub of_whole : Least (Plan (piece ds a b)) levels (ud (piece ds a b))

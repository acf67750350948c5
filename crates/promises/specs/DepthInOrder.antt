-- Request (iv), "Depth in the thesis's order", sentence by sentence.
-- "the same steps in the order of that text": the six values of an edge are defined by the lemmas of document 004, chapter 6, in the crate umbrella (specs/Values.antt);
-- what each is the least of stands in its specs/Depth.antt. The code that works them out is `join` of the crate levels.
use Rattle.std.specs.Prelude.{◌≡◌, List, [], ◌∷◌, ℕ, suc, ◌-◌, ◌<◌}
use Rattle.polygon.specs.Polygon.{Edge, Polygon, Valid, Linked}
use Rattle.polygon.specs.Tree.{piece, tree_of}
use Rattle.sheet.specs.Sheet.{held, read_sheet}
use Rattle.umbrella.specs.Values.{ud, values}
use Rattle.umbrella.specs.Depth.{AtSide, Anywhere, Depth}
use Rattle.tree.specs.declared.Root.{Root}
use Rattle.levels.specs.Kept.{Filled, KeptAt}
use Rattle.plan.specs.Answer.{planned}

pub record DepthInOrder : Type 0 where
  -- "handle, fans, partial umbrellas, then the whole, each kept per edge": in the tables of a part that `fill` leaves, which Plan and Draw read
  pub kept : (p : Polygon) → Valid p → {tr ds : List ℕ} {r : Root} → Filled p.n (tree_of p.n p.ds) tr ds r
      → (a b : ℕ) → Linked p.n p.ds a b → KeptAt p tr ds a b
  -- a side other than the root
  pub sides : (ds : List Edge) (a : ℕ) → values (piece ds a (suc a)) ≡ 0 ∷ 0 ∷ 0 ∷ 0 ∷ 0 ∷ 0 ∷ []
  -- "For each edge whose piece is not empty it is proved that the handle's value is the least, over stems by document 01's letters with that edge as first gate
  -- (also where it is the root or no rim edge), of the most levels of a piece left hanging beside the stem (0 if none), and that the whole's is the least levels of its piece."
  pub least : (p : Polygon) → Valid p → (a b : ℕ) → Linked p.n p.ds a b → suc a < b → Depth (AtSide p.n) p.n p.ds a b
  -- the root is such an edge
  pub root : (p : Polygon) → Valid p → Linked p.n p.ds 0 (p.n - 1) × (1 < p.n - 1)
  -- and so it is with the stems of document 004, which may end anywhere
  pub paths : (p : Polygon) → Valid p → (a b : ℕ) → Linked p.n p.ds a b → suc a < b → Depth Anywhere p.n p.ds a b
  -- "No figure printed moves.": the levels that Plan tells are the whole's value of the root edge
  pub told : (s : List ℕ) (p : Polygon) → read_sheet s ≡ held p → (planned s).levels ≡ ud (piece p.ds 0 (p.n - 1))

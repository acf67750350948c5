-- The umbrellas and stems of a piece, counted triangle by triangle by the roles of the pieces.
-- (`counted_best` in proofs/Counted.antt: they are those of the plan drawn.)
use Rattle.std.specs.Prelude.{◌≡◌, Bool, true, false, List, ℕ, ◌+◌, ◌-◌, ◌<◌, ◌≤◌, Some, None, MatchOption}
use Rattle.polygon.specs.Tree.{Tree, leaf, node}
use Rattle.umbrella.specs.Plan.{Plan, levels, umbrellas, stems}
use Rattle.umbrella.specs.Values.{ud}
use Rattle.umbrella.specs.declared.roles.Role.{Role}
use Rattle.umbrella.specs.declared.roles.Role.TheVariants.{Hung, LeftRim, RightRim, FromLeft, FromRight}
use Rattle.umbrella.specs.Roles.{step_of, levels_under}
use Rattle.umbrella.specs.declared.roles.Step.{Step}
use Rattle.tree.specs.declared.Root.{Root}
use Rattle.levels.specs.Kept.{Tabled}
use Rattle.plan.specs.declared.Totals.{Totals}
use Rattle.plan.specs.declared.counts.Tally.{Tally}
use Rattle.plan.specs.declared.counts.Spot.{Spot}
use Rattle.plan.specs.declared.counts.Fork.{Fork}

-- a number of the triangle of a piece: x if the piece is hung, y if it lies on a rim
abbrev pub adds : Role → ℕ → ℕ → ℕ
adds Hung x y = x
adds LeftRim x y = y
adds RightRim x y = y
adds FromLeft x y = 0
adds FromRight x y = 0

abbrev pub at_gate : ℕ → Bool → ℕ
at_gate y true = y
at_gate y false = 0

-- x for an umbrella and y for a stem: each hung piece has an umbrella of its own, whose stem enters where a step from its rim is crossed (it has at most one first gate)
unfoldable pub weight : (x y : ℕ) → Role → ℕ → Tree → ℕ
weight x y p d leaf = 0
weight x y p d (node l r) =
    let s = step_of p d l r in
    let k = levels_under p d (ud (node l r) - 1) in
    weight x y s.left k l + weight x y s.right k r + adds p x (at_gate y s.crossed)

abbrev pub counted : Role → ℕ → Tree → Tally
counted p d t = record { umbrellas = weight 1 0 p d t; stems = weight 0 1 p d t }

-- the counts of a plan
abbrev pub totals_of : {t : Tree} → Plan t → Totals
totals_of p = record { levels = levels p; umbrellas = umbrellas p; stems = stems p }

-- a piece beyond a triangle, with k levels under the umbrella
abbrev pub spot : ℕ → Root → Role → Spot
spot k p r = record { piece = p; role = r; d = k }

-- at a triangle whose piece has the role p: what it adds, and the two pieces beyond
abbrev pub fork_of : Role → Step → Spot → Spot → Fork
fork_of p s x y = record { adds = record { umbrellas = adds p 1 0; stems = adds p 0 (at_gate 1 s.crossed) }; rest = Some (x, y) }

-- at an umbrella with one level and so many stems
abbrev pub low_fork : ℕ → Fork
low_fork n = record { adds = record { umbrellas = 1; stems = n }; rest = None }

-- the tree t is to be counted at x, and nothing where x has no triangle
pub record ToCount (tr ds : List ℕ) (x : Spot) (t : Tree) : Type 0 where
  pub known : x.piece.u + 1 < x.piece.v → Tabled tr ds x.piece.e x.piece.u x.piece.v t
  pub none : x.piece.v ≤ x.piece.u + 1 → t ≡ leaf
  pub low : x.piece.u < 1024

-- what the triangle at x adds, and the two pieces left, are the counts of its piece t
pub record ForkedInto (tr ds : List ℕ) (x : Spot) (t : Tree) (adds : Tally) (x' y' : Spot) : Type 0 where
  pub small : Tree
  pub large : Tree
  pub left_small : ToCount tr ds x' small
  pub left_large : ToCount tr ds y' large
  pub less_small : x'.piece.v - x'.piece.u < x.piece.v - x.piece.u
  pub less_large : y'.piece.v - y'.piece.u < x.piece.v - x.piece.u
  pub umbrellas_are : weight 1 0 x.role x.d t ≡ adds.umbrellas + weight 1 0 x'.role x'.d small + weight 1 0 y'.role y'.d large
  pub stems_are : weight 0 1 x.role x.d t ≡ adds.stems + weight 0 1 x'.role x'.d small + weight 0 1 y'.role y'.d large

-- or what it adds is all
abbrev pub Forked : List ℕ → List ℕ → Spot → Tree → Fork → Type 0
Forked tr ds x t w = MatchOption w.rest (counted x.role x.d t ≡ w.adds) (λ y. ForkedInto tr ds x t w.adds y.0 y.1)

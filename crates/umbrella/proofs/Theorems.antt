-- What this crate proves of plans, each theorem with its statement in plain words. The proofs are in the files beside this one.
use mathlib.Core.Path.{◌≡◌, refl, sym, ◌∙◌}
use mathlib.Core.Logic.{◌⊎◌, ◌↔◌}
use mathlib.Core.List.{[]}
use mathlib.Core.Option.{none}
use Prim.Native.Nat.{ℕ, zero, suc, ◌+◌, ◌^◌, ◌≤◌, ◌<◌}
use native.Mathlib.Decide.{dec_le}
use native.Mathlib.Nat.{le_trans}
use native.Mathlib.Omega.{arith}
use lib.Pow.{pow_mono}
use Rattle.lists.specs.Lists.{Mem, Sorted}
use Rattle.polygon.specs.Angles.{none as bare}
use Rattle.polygon.specs.Polygon.{Edge, ◌—◌, Polygon, Valid, Linked}
use Rattle.polygon.specs.Tree.{Tree, leaf, node, span, tree_of, PieceOf}
use Rattle.polygon.proofs.Theorems.{polygon_is_tree, tree_is_polygon}
use Rattle.polygon.proofs.TreeTheorem.{tree_of_lem}
use Rattle.umbrella.specs.Plan.{Plan, levels, umbrellas, stems}
use Rattle.umbrella.specs.Values.{ud}
use Rattle.umbrella.specs.Drawn.{code, Earlier, Each}
use Rattle.umbrella.specs.Best.{best, plan_of}
use Rattle.umbrella.specs.Triangles.{Triangle, triangles, AllJoined, own, Taken}
use Rattle.umbrella.specs.Rim.{rim, first_gate, Gate}
use Rattle.umbrella.specs.Border.{hung, Carries, Border}
use Rattle.umbrella.specs.Depth.{AtSide, Anywhere, Depth}
use Rattle.umbrella.specs.Tight.{tight, tight_part}
use Rattle.umbrella.proofs.Low.{low}
use Rattle.umbrella.proofs.Least.{best_le, best_levels, best_least}
use Rattle.umbrella.proofs.First.{best_first}
use Rattle.umbrella.proofs.Unique.{each_best, unique}
use Rattle.umbrella.proofs.Triangles.{taken_once}
use Rattle.umbrella.proofs.Corners.{triangles_joined, whole_joined}
use Rattle.umbrella.proofs.Rim.{rim_ascends, rim_joined, apex_joined}
use Rattle.umbrella.proofs.Gates.{gate_of}
use Rattle.umbrella.proofs.Border.{border_hung, hung_diagonal}
use Rattle.umbrella.proofs.Bounds.{bounds}
use Rattle.umbrella.proofs.Wide.{span_bound, nine}
use Rattle.umbrella.proofs.Tight.{tight_ud, tight_span, tight_stems}
use Rattle.umbrella.proofs.Depth.{depth_at}

-- Every plan of a piece has at least ud levels, the number that document 004, chapter 6, computes.
pub every_plan_has : {t : Tree} (p : Plan t) → ud t ≤ levels p
every_plan_has p = low p

-- The plan that is computed has exactly that many: no plan of the piece has fewer levels.
pub computed_has : (t : Tree) → levels (best t) ≡ ud t
computed_has t = best_levels t

pub none_has_fewer : {t : Tree} (p : Plan t) → levels (best t) ≤ levels p
none_has_fewer p = best_least p

-- Among the plans of a piece with as few levels, its umbrella comes first: no stem, then the lower first gate, then the word letter by letter.
pub comes_first : {t : Tree} (p : Plan t) → levels p ≤ levels (best t) → Earlier (code (best t)) (code p)
comes_first {t} p h = best_first t p (le_trans h (best_le t))

-- So it is in every piece, and no other plan is so in every piece: it is the plan drawn, and there is exactly one.
pub is_drawn : (t : Tree) → Each (best t)
is_drawn t = each_best t

pub only_drawn : {t : Tree} (p : Plan t) → Each p → p ≡ best t
only_drawn p e = unique p e

-- The triangles of a valid polygon's tree are exactly the triples of corners that sides or diagonals join, each to each.
pub triangles_of_part : (p : Polygon) → Valid p → (x : Triangle) → Mem x (triangles 0 (tree_of p.n p.ds)) ↔ AllJoined p.n p.ds x
triangles_of_part p v = whole_joined p.n p.ds v.triangulated

-- "The piece (u,v) is all triangles on corners u to v": those of them whose lowest corner is at least u and whose highest is at most v.
pub triangles_of_piece : (p : Polygon) → Valid p → {u : ℕ} {t : Tree} → PieceOf p.n p.ds u t
    → (x : Triangle) → Mem x (triangles u t) ↔ ((u ≤ x.0) × (x.2 ≤ u + span t) × AllJoined p.n p.ds x)
triangles_of_piece p v s = triangles_joined p.n p.ds v.triangulated s

-- "The rim r0 < r1 < ... < rk is every corner strictly between u and v joined to u or v": for every piece (u,v) of a valid polygon, v = u + span t.
pub rim_is : (p : Polygon) → Valid p → {u : ℕ} {t : Tree} → PieceOf p.n p.ds u t
    → Sorted ◌<◌ (rim u t) × ((x : ℕ) → Mem x (rim u t) ↔ ((u < x) × (x < u + span t) × (Linked p.n p.ds u x ⊎ Linked p.n p.ds x (u + span t))))
rim_is p v {u} {t} s = (rim_ascends u t, rim_joined p.n p.ds v.triangulated s)

-- "c = ri is joined to both": c = u + span l, of the piece with triangle (u,c,v) at its root edge, and no other corner of the rim is.
pub apex_is : (p : Polygon) → Valid p → {u : ℕ} {l r : Tree} → PieceOf p.n p.ds u (node l r)
    → (x : ℕ) → (Mem x (rim u (node l r)) × Linked p.n p.ds u x × Linked p.n p.ds x (u + span (node l r))) ↔ (x ≡ u + span l)
apex_is p v s = apex_joined p.n p.ds v.triangulated s

-- "A stem enters across a rim edge that is a diagonal, its first gate": a plan of a piece has no stem, or its first gate is a diagonal (rs, rs+1),
-- two neighbours on the rim, s being the first number of the list by which the ties are decided (`code`), and the stem takes the triangle behind it.
pub first_gate_lem : (p : Polygon) → Valid p → {u : ℕ} {t : Tree} → PieceOf p.n p.ds u t → (q : Plan t) → ((first_gate q u ≡ none) × (code q ≡ [])) ⊎ Gate p.ds q u
first_gate_lem p v s q = gate_of p.n p.ds v.triangulated s q

-- "Every diagonal left on the umbrella's border, root edge excepted, carries a hung piece": the edges of one of its triangles only, the root edge excepted,
-- are exactly those that its hung pieces stand on, an empty one on each side there. This is of any plan, on any corners u to v.
pub border_is : {l r : Tree} (p : Plan (node l r)) (u v : ℕ) → u + span (node l r) ≡ v → (e : Edge) → Border (own p u v) (u — v) e ↔ Carries (hung p u) e
border_is p u v h e = border_hung p u v h e

-- In a valid polygon they are pieces of it, and each that is not empty stands on a diagonal.
pub hung_on_diagonal : (p : Polygon) → Valid p → {u : ℕ} {t : Tree} → PieceOf p.n p.ds u t → (q : Plan t) (s : ℕ × Tree) → Mem s (hung q u)
    → PieceOf p.n p.ds s.0 s.1 × ((s.1 ≡ leaf) ⊎ Mem (s.0 — (s.0 + span s.1)) p.ds)
hung_on_diagonal p v a q s k = hung_diagonal p.n p.ds v.triangulated a q s k

-- Every plan takes every triangle of its piece exactly once, on any corners u to v.
pub takes_each_once : {t : Tree} (p : Plan t) (u v : ℕ) → u + span t ≡ v → Taken p u v
takes_each_once p u v h = taken_once p u v h

-- A plan has at least as many umbrellas as levels and as stems, and fewer umbrellas than its piece has sides besides the root edge.
pub umbrellas_bound : {t : Tree} (p : Plan t) → (levels p ≤ umbrellas p) × (stems p ≤ umbrellas p) × (umbrellas p < span t)
umbrellas_bound p = let b = bounds p in (b.levels_few, b.stems_few, b.umbrellas_few)

-- A piece that needs D levels has at least 2 ^ (D + 1) - 1 corners.
pub corners_of_levels : (t : Tree) → 2 ^ suc (ud t) ≤ suc (span t) + 1
corners_of_levels t = omega (arith, span_bound t)

-- So a part of D levels does.
pub part_corners : (p : Polygon) → Valid p → 2 ^ suc (levels (plan_of p)) ≤ p.n + 1
part_corners p v =
    let t = tree_of p.n p.ds in
    let e : levels (plan_of p) ≡ ud t = best_levels t in
    rw e (omega (arith, corners_of_levels t, (tree_of_lem p.n p.ds v.triangulated).size))

-- One with fewer corners than D levels need has fewer levels.
pub levels_below : (p : Polygon) → Valid p → (D : ℕ) → p.n + 1 < 2 ^ suc D → levels (plan_of p) < D
levels_below p v D h = go (dec_le D (levels (plan_of p)))
  where
    go : Dec (D ≤ levels (plan_of p)) → levels (plan_of p) < D
    go (yes k) = let q : suc D ≤ suc (levels (plan_of p)) = omega (arith, k) in absurd (omega (arith, pow_mono q, part_corners p v, h))
    go (no k) = omega (arith, k)

-- "and for each D from 1 .. some part has exactly that many": for every D from 1 on a piece of D levels has them,
pub tight_has : (D : ℕ) → 1 ≤ D → (ud (tight D) ≡ D) × (suc (span (tight D)) + 1 ≡ 2 ^ suc D) × (stems (best (tight D)) ≡ 0)
tight_has zero h = absurd (omega (arith, h))
tight_has (suc k) h = (tight_ud k, omega (arith, tight_span k), tight_stems k)

-- and "to 9" it is a valid part. The plan drawn of it has no stem.
pub tight_part_lem : (D : ℕ) → 1 ≤ D → D ≤ 9 → Valid (tight_part D) × ((tight_part D).n + 1 ≡ 2 ^ suc D) × (levels (plan_of (tight_part D)) ≡ D) × (stems (plan_of (tight_part D)) ≡ 0)
tight_part_lem D h k =
    let (deep, size, flat) = tight_has D h in
    let low : 2 ≤ suc D = omega (arith, h) in
    let high : suc D ≤ 10 = omega (arith, k) in
    let v = tree_is_polygon (tight D) bare (omega (arith, size, pow_mono low)) (omega (arith, size, pow_mono high)) tt in
    let e = (polygon_is_tree (tight_part D) v).2 (tight D) refl refl in
    (v, size, rw (sym e) (best_levels (tight D) ∙ deep), rw (sym e) flat)

-- The plan drawn of a valid polygon has at most 9 levels.
pub at_most_nine : (p : Polygon) → Valid p → levels (plan_of p) ≤ 9
at_most_nine p h =
    let t = tree_of p.n p.ds in
    let T = tree_of_lem p.n p.ds h.triangulated in
    le_trans (best_le t) (nine t (omega (arith, T.size, h.most)))

-- Each of the six values of a diagonal or of the root edge is the least that document 004, chapter 6, defines it to be, by corners (specs/Depth.antt):
-- under any rule for the ends of a stem that allows document 01's.
pub depth_by : (Ends : ℕ → ℕ → ℕ → Type 0) (p : Polygon) → Valid p → ((x y z : ℕ) → AtSide p.n x y z → Ends x y z)
    → (a b : ℕ) → Linked p.n p.ds a b → suc a < b → Depth Ends p.n p.ds a b
depth_by Ends p v allows = depth_at p.n p.ds v.triangulated Ends allows

-- So it is with document 01's stems, which end at a side, and with document 004's, which may end anywhere.
pub depth : (p : Polygon) → Valid p → (a b : ℕ) → Linked p.n p.ds a b → suc a < b → Depth (AtSide p.n) p.n p.ds a b
depth p v = depth_by (AtSide p.n) p v (λ x y z s. s)

pub depth_of_paths : (p : Polygon) → Valid p → (a b : ℕ) → Linked p.n p.ds a b → suc a < b → Depth Anywhere p.n p.ds a b
depth_of_paths p v = depth_by Anywhere p v (λ x y z s. tt)

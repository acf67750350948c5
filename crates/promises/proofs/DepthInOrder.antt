-- Request (iv) is proved, from the theorems of the crates umbrella and levels.
use mathlib.Core.Path.{◌≡◌, refl, ◌∙◌, ap}
use mathlib.Core.Logic.{inl, inr}
use mathlib.Core.List.{List, [], ◌∷◌}
use Prim.Native.Nat.{ℕ, suc, ◌-◌}
use native.Mathlib.Omega.{arith}
use Rattle.polygon.specs.Polygon.{Edge, Polygon}
use Rattle.polygon.specs.Tree.{piece, tree_of}
use Rattle.polygon.proofs.PieceTheorem.{piece_is}
use Rattle.polygon.proofs.Theorems.{whole_part}
use Rattle.sheet.specs.Sheet.{held, read_sheet}
use Rattle.sheet.proofs.Valid.{read_valid}
use Rattle.umbrella.specs.Values.{ud, values}
use Rattle.umbrella.proofs.Behind.{piece_leaf}
use Rattle.umbrella.proofs.Theorems.{computed_has, depth, depth_of_paths}
use Rattle.levels.proofs.Theorems.{kept}
use Rattle.plan.specs.Answer.{answer, planned}
use Rattle.promises.specs.DepthInOrder.{DepthInOrder}

sides : (ds : List Edge) (a : ℕ) → values (piece ds a (suc a)) ≡ 0 ∷ 0 ∷ 0 ∷ 0 ∷ 0 ∷ 0 ∷ []
unfolding ud
sides ds a = ap values (piece_leaf ds refl)

told : (s : List ℕ) (p : Polygon) → read_sheet s ≡ held p → (planned s).levels ≡ ud (piece p.ds 0 (p.n - 1))
unfolding planned answer
told s p e =
    let v = read_valid s p e in
    let w = whole_part p v in
    rw e (computed_has (tree_of p.n p.ds) ∙ ap ud (piece_is p.n p.ds v.triangulated w.0 (p.n - 1) w.1))

pub depth_in_order : DepthInOrder
depth_in_order = record {
  kept = λ p v F a b L. kept p v F a b L;
  sides = sides;
  least = depth;
  root = λ p v. (inl (inr (refl, omega (arith, v.least))), omega (arith, v.least));
  paths = depth_of_paths;
  told = told;
}

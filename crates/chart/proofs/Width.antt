-- How many columns a piece has: one for each side besides its root edge, umbrella and stem, less one.
-- By recursion on the plan.
use mathlib.Core.Path.{◌≡◌, refl}
use mathlib.Core.List.{List, [], ◌∷◌, ◌++◌, reverse}
use Prim.Native.Nat.{ℕ, suc, ◌+◌}
use native.Mathlib.Omega.{arith}
use lib.ListN.{length, length-append, length-reverse}
use Rattle.polygon.specs.Polygon.{Edge, ◌—◌}
use Rattle.polygon.specs.Tree.{Tree, span}
use Rattle.umbrella.specs.Plan.{Plan, LeftRim, RightRim, LeftGate, RightGate, Stem}
use Rattle.umbrella.proofs.Parts.{Claims, Steps, of_plan}
use Rattle.umbrella.specs.Plan.{fold, fold_left, fold_right, fold_left_gate, fold_right_gate, fold_stem, umbrellas, stems}
use Rattle.chart.specs.Places.{cols, left_cols, right_cols, left_gate_cols, right_gate_cols, stem_cols, back_cols}

-- umbrellas and stems together
module _ {t : Tree} where
  abbrev left_both : LeftRim t → ℕ
  left_both A = fold_left ◌+◌ suc suc A + fold_left ◌+◌ (λ n. n) suc A

  abbrev right_both : RightRim t → ℕ
  right_both B = fold_right ◌+◌ suc suc B + fold_right ◌+◌ (λ n. n) suc B

  abbrev left_gate_both : LeftGate t → ℕ
  left_gate_both G = fold_left_gate ◌+◌ suc suc G + fold_left_gate ◌+◌ (λ n. n) suc G

  abbrev right_gate_both : RightGate t → ℕ
  right_gate_both G = fold_right_gate ◌+◌ suc suc G + fold_right_gate ◌+◌ (λ n. n) suc G

  abbrev stem_both : Stem t → ℕ
  stem_both S = fold_stem ◌+◌ suc suc S + fold_stem ◌+◌ (λ n. n) suc S

-- the length of three lists, the middle one perhaps reversed
three : (xs ys zs : List Edge) → length (xs ++ (ys ++ zs)) ≡ length xs + (length ys + length zs)
three xs ys zs = omega (arith, length-append xs (ys ++ zs), length-append ys zs)

three_reversed : (xs ys zs : List Edge) → length (xs ++ (reverse ys ++ zs)) ≡ length xs + (length ys + length zs)
three_reversed xs ys zs = omega (arith, length-append xs (reverse ys ++ zs), length-append (reverse ys) zs, length-reverse ys)

abbrev Wide : Claims
Wide = record {
  Piece = λ t p. (u v : ℕ) → suc (length (cols p u v)) ≡ span t + (umbrellas p + stems p);
  Left = λ t A. (u v : ℕ) → length (left_cols A u v) ≡ span t + left_both A;
  Right = λ t B. (u v : ℕ) → length (right_cols B u v) ≡ span t + right_both B;
  LeftGated = λ t G. (u v : ℕ) → length (left_gate_cols G u v) ≡ suc (span t + left_gate_both G);
  RightGated = λ t G. (u v : ℕ) → length (right_gate_cols G u v) ≡ suc (span t + right_gate_both G);
  Entered = λ t S. ((p q : ℕ) → length (stem_cols S p q) ≡ span t + stem_both S) × ((p q : ℕ) → length (back_cols S p q) ≡ span t + stem_both S);
}

wide : Steps Wide
unfolding span fold cols
wide = record {
  empty = λ u v. refl;
  bare = λ l r A B left right u v. let c : ℕ = u + span l in omega (arith, length-append (left_cols A u c) (right_cols B c v), left u c, right c v);
  stem_below = λ l r G B left right u v. let c : ℕ = u + span l in omega (arith, length-append (left_gate_cols G u c) (right_cols B c v), left u c, right c v);
  stem_above = λ l r A G left right u v. let c : ℕ = u + span l in omega (arith, length-append (left_cols A u c) (right_gate_cols G c v), left u c, right c v);
  left_end_lem = λ u v. refl;
  left_on_lem = λ a b A p rim hung u v. let c : ℕ = u + span a in omega (arith, three (left_cols A u c) (cols p c v) ((u — v) ∷ []), rim u c, hung c v);
  right_end_lem = λ u v. refl;
  right_on_lem = λ a b p B hung rim u v. let c : ℕ = u + span a in omega (arith, length-append (cols p u c) (right_cols B c v), hung u c, rim c v);
  left_gate_lem = λ a b A S rim stem u v. let c : ℕ = u + span a in omega (arith, three_reversed (back_cols S c v) (left_cols A u c) ((u — v) ∷ []), stem.1 c v, rim u c);
  left_past_lem = λ a b G p gate hung u v. let c : ℕ = u + span a in omega (arith, three (left_gate_cols G u c) (cols p c v) ((u — v) ∷ []), gate u c, hung c v);
  right_gate_lem = λ a b S B stem rim u v. let c : ℕ = u + span a in omega (arith, three_reversed [] (right_cols B c v) (stem_cols S u c), stem.0 u c, rim c v);
  right_past_lem = λ a b p G hung gate u v. let c : ℕ = u + span a in omega (arith, length-append (cols p u c) (right_gate_cols G c v), gate c v, hung u c);
  ends = (
    λ p q. refl,
    λ p q. refl,
  );
  ends_left = λ a b c hung. (
    λ p q. omega (arith, three_reversed [] (cols c (suc p) q) ((p — suc p) ∷ []), hung (suc p) q),
    λ p q. omega (arith, length-append (cols c (suc p) q) ((p — q) ∷ []), hung (suc p) q),
  );
  ends_right = λ a b c hung. (
    λ p q. let x : ℕ = p + (span a + span b) in omega (arith, length-append (cols c p x) ((x — q) ∷ []), hung p x),
    λ p q. let x : ℕ = p + (span a + span b) in omega (arith, three_reversed [] (cols c p x) ((p — q) ∷ []), hung p x),
  );
  goes_left_lem = λ a b S c stem hung. (
    λ p q. let x : ℕ = p + span a in omega (arith, three_reversed [] (cols c x q) (stem_cols S p x), hung x q, stem.0 p x),
    λ p q. let x : ℕ = p + span a in omega (arith, three (back_cols S p x) (cols c x q) ((p — q) ∷ []), hung x q, stem.1 p x),
  );
  goes_right = λ a b c S hung stem. (
    λ p q. let x : ℕ = p + span a in omega (arith, length-append (cols c p x) (stem_cols S x q), hung p x, stem.0 x q),
    λ p q. let x : ℕ = p + span a in omega (arith, three_reversed (back_cols S x q) (cols c p x) ((p — q) ∷ []), hung p x, stem.1 x q),
  );
}

pub width : {t : Tree} (p : Plan t) (u v : ℕ) → suc (length (cols p u v)) ≡ span t + (umbrellas p + stems p)
width = of_plan Wide wide

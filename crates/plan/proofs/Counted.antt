-- The counts by roles are those of the plan drawn, by the one induction over its walk (crate umbrella); and by the same induction those of an umbrella with one level.
use mathlib.Core.Path.{◌≡◌, refl, ◌∙◌}
use mathlib.Core.Logic.{◌⊎◌, inl, inr}
use mathlib.Core.Bool.{Bool, true, false, true≢false}
use Prim.Native.Nat.{ℕ, suc, ◌+◌, ◌-◌, ◌≤◌, min, max}
use native.Mathlib.Omega.{arith}
use Rattle.polygon.specs.Tree.{Tree, leaf, node}
use Rattle.umbrella.specs.Plan.{fold, fold_left, fold_right, fold_left_gate, fold_right_gate, fold_stem, umbrellas, stems}
use Rattle.umbrella.specs.Values.{ud, fan_a, fan_b}
use Rattle.umbrella.specs.Best.{best}
use Rattle.umbrella.specs.declared.roles.Role.{Role}
use Rattle.umbrella.specs.declared.roles.Role.TheVariants.{Hung, LeftRim, RightRim, FromLeft, FromRight}
use Rattle.umbrella.specs.declared.roles.Step.{Step}
use Rattle.umbrella.specs.Roles.{is_hung, stem_step, step_at, step_of}
use Rattle.umbrella.proofs.Induction.{stem, by_recursion}
use Rattle.plan.specs.Counts.{adds, at_gate, weight, counted}

-- x for an umbrella and y for a stem
module _ (x y : ℕ) where
  -- the weight at a triangle
  hung_total : (d : ℕ) (l r : Tree) (k : ℕ) → ud (node l r) - 1 ≡ k → weight x y Hung d (node l r) ≡ weight x y LeftRim k l + weight x y RightRim k r + x
  unfolding weight step_at
  hung_total d l r k e = rw e

  own_total : (p : Role) (d : ℕ) (l r : Tree) (s : Step) → is_hung p ≡ false → step_of p d l r ≡ s → weight x y p d (node l r) ≡ weight x y s.left d l + weight x y s.right d r + adds p x (at_gate y s.crossed)
  unfolding weight
  own_total Hung d l r s h e = absurd (true≢false h)
  own_total LeftRim d l r s h e = rw e
  own_total RightRim d l r s h e = rw e
  own_total FromLeft d l r s h e = rw e
  own_total FromRight d l r s h e = rw e

  stem_total : (k : Bool) (d : ℕ) (l r : Tree) (s : Step) → step_of (stem k) d l r ≡ s → weight x y (stem k) d (node l r) ≡ weight x y s.left d l + weight x y s.right d r
  stem_total true d l r s e = own_total FromRight d l r s refl e ∙ omega arith
  stem_total false d l r s e = own_total FromLeft d l r s refl e ∙ omega arith

  -- a stem is counted at its first gate; the steps of the fold that x and y belong to
  module _ (bare stemmed : ℕ → ℕ) (bare_is : (n : ℕ) → bare n ≡ n + x) (stemmed_is : (n : ℕ) → stemmed n ≡ n + y + x) where
    hung_is : (t : Tree) (d : ℕ) → weight x y Hung d t ≡ fold ◌+◌ bare stemmed (best t)
    unfolding weight fold stem_step
    hung_is = by_recursion (record {
      Hung = λ t p. (d : ℕ) → weight x y Hung d t ≡ fold ◌+◌ bare stemmed p;
      Left = λ d t A. weight x y LeftRim d t ≡ fold_left ◌+◌ bare stemmed A;
      LeftGated = λ d t G. weight x y LeftRim d t ≡ fold_left_gate ◌+◌ bare stemmed G + y;
      Right = λ d t B. weight x y RightRim d t ≡ fold_right ◌+◌ bare stemmed B;
      RightGated = λ d t G. weight x y RightRim d t ≡ fold_right_gate ◌+◌ bare stemmed G + y;
      Entered = λ k d t T. weight x y (stem k) d t ≡ fold_stem ◌+◌ bare stemmed T;
    }) (record {
      empty = λ d. refl;
      bare = λ k l r A B h L R d. hung_total d l r k (omega (arith, h)) ∙ rw (bare_is, L, R);
      stem_below = λ k l r G B h L R d. hung_total d l r k (omega (arith, h)) ∙ rw (stemmed_is, L, R) (omega arith);
      stem_above = λ k l r A G h L R d. hung_total d l r k (omega (arith, h)) ∙ rw (stemmed_is, L, R) (omega arith);
      left_end_lem = λ d. refl;
      left_on_lem = λ d a b A p e i L P. own_total LeftRim d a b _ refl e ∙ rw (L, P d) (omega arith);
      left_past_lem = λ d a b G p e i L P. own_total LeftRim d a b _ refl e ∙ rw (L, P d) (omega arith);
      left_gate_lem = λ d a b A T e L s. own_total LeftRim d a b _ refl e ∙ rw (L, s);
      right_end_lem = λ d. refl;
      right_on_lem = λ d a b p B e i P R. own_total RightRim d a b _ refl e ∙ rw (P d, R) (omega arith);
      right_past_lem = λ d a b p G e i P R. own_total RightRim d a b _ refl e ∙ rw (P d, R) (omega arith);
      right_gate_lem = λ d a b T B e s R. own_total RightRim d a b _ refl e ∙ rw (s, R);
      ends = λ k d e. stem_total k d leaf leaf _ e;
      ends_left = λ k d v w p e i P. stem_total k d leaf (node v w) _ e ∙ rw (P d) (omega arith);
      ends_right = λ k d v w p e i P. stem_total k d (node v w) leaf _ e ∙ rw (P d) (omega arith);
      goes_left_lem = λ k d a b T p e i s P. stem_total k d a b _ e ∙ rw (s, P d);
      goes_right = λ k d a b p T e i P s. stem_total k d a b _ e ∙ rw (P d, s);
    })

  -- a hung piece with no levels is a side
  hung_side : (d : ℕ) (t : Tree) → ud t ≤ 0 → weight x y Hung d t ≡ 0
  unfolding weight ud
  hung_side d leaf h = refl
  hung_side d (node l r) h = absurd (omega arith)

  -- an umbrella with one level: sides are hung on it and beside its stem, which it has if a piece on its rim is no side
  abbrev OneLevel : Tree → Type 0
  OneLevel leaf = Unit {0}
  OneLevel (node l r) = (d : ℕ) → ud (node l r) ≡ 1 → ((max (fan_a l r) (fan_b l r) ≡ 0) × (weight x y Hung d (node l r) ≡ x)) ⊎ ((1 ≤ max (fan_a l r) (fan_b l r)) × (weight x y Hung d (node l r) ≡ x + y))

  one_level : (t : Tree) → OneLevel t
  unfolding weight ud stem_step
  one_level = by_recursion (record {
    Hung = λ t p. OneLevel t;
    Left = λ d t A. (s : Tree) → d ≡ 0 → (fan_a t s ≡ 0) × (weight x y LeftRim d t ≡ 0);
    LeftGated = λ d t G. (s : Tree) → d ≡ 0 → (1 ≤ fan_a t s) × (weight x y LeftRim d t ≡ y);
    Right = λ d t B. (s : Tree) → d ≡ 0 → (fan_b s t ≡ 0) × (weight x y RightRim d t ≡ 0);
    RightGated = λ d t G. (s : Tree) → d ≡ 0 → (1 ≤ fan_b s t) × (weight x y RightRim d t ≡ y);
    Entered = λ k d t T. d ≡ 0 → (1 ≤ ud t) × (weight x y (stem k) d t ≡ 0);
  }) (record {
    empty = tt;
    bare = λ k l r A B h L R d e. let (u, m) = L r (omega (arith, h)) in let (v, n) = R l (omega (arith, h)) in inl (omega (arith, u, v), hung_total d l r k (omega (arith, h)) ∙ rw (m, n) (omega arith));
    stem_below = λ k l r G B h L R d e. let (u, m) = L r (omega (arith, h)) in let (v, n) = R l (omega (arith, h)) in inr (omega (arith, u), hung_total d l r k (omega (arith, h)) ∙ rw (m, n) (omega arith));
    stem_above = λ k l r A G h L R d e. let (u, m) = L r (omega (arith, h)) in let (v, n) = R l (omega (arith, h)) in inr (omega (arith, v), hung_total d l r k (omega (arith, h)) ∙ rw (m, n) (omega arith));
    left_end_lem = λ d s z. (refl, refl);
    left_on_lem = λ d a b A p e i L P s z. (omega (arith, L b z), own_total LeftRim d a b _ refl e ∙ rw ((L b z).1, hung_side d b (omega arith)) (omega arith));
    left_past_lem = λ d a b G p e i L P s z. (omega (arith, L b z), own_total LeftRim d a b _ refl e ∙ rw ((L b z).1, hung_side d b (omega arith)) (omega arith));
    left_gate_lem = λ d a b A T e L f s z. (omega (arith, f z), own_total LeftRim d a b _ refl e ∙ rw ((L b z).1, (f z).1) (omega arith));
    right_end_lem = λ d s z. (refl, refl);
    right_on_lem = λ d a b p B e i P R s z. (omega (arith, R a z), own_total RightRim d a b _ refl e ∙ rw ((R a z).1, hung_side d a (omega arith)) (omega arith));
    right_past_lem = λ d a b p G e i P R s z. (omega (arith, R a z), own_total RightRim d a b _ refl e ∙ rw ((R a z).1, hung_side d a (omega arith)) (omega arith));
    right_gate_lem = λ d a b T B e f R s z. (omega (arith, f z), own_total RightRim d a b _ refl e ∙ rw ((R a z).1, (f z).1) (omega arith));
    ends = λ k d e z. (omega arith, stem_total k d leaf leaf _ e);
    ends_left = λ k d v w p e i P z. absurd (omega arith);
    ends_right = λ k d v w p e i P z. absurd (omega arith);
    goes_left_lem = λ k d a b T p e i s P z. (omega arith, stem_total k d a b _ e ∙ rw ((s z).1, hung_side d b (omega arith)) (omega arith));
    goes_right = λ k d a b p T e i P s z. (omega arith, stem_total k d a b _ e ∙ rw ((s z).1, hung_side d a (omega arith)) (omega arith));
  })

-- The umbrellas and stems of the plan drawn of a piece; d is not looked at there.
pub counted_best : (t : Tree) (d : ℕ) → counted Hung d t ≡ record { umbrellas = umbrellas (best t); stems = stems (best t) }
counted_best t d = rw (hung_is 1 0 suc suc (λ n. omega arith) (λ n. omega arith) t d, hung_is 0 1 (λ n. n) suc (λ n. omega arith) (λ n. omega arith) t d)

-- an umbrella with one level: the code looks at its fans
pub counted_one_level : (l r : Tree) (d : ℕ) → ud (node l r) ≡ 1 → counted Hung d (node l r) ≡ record { umbrellas = 1; stems = min (max (fan_a l r) (fan_b l r)) 1 }
counted_one_level l r d h = rw (umbrella_is (one_level 1 0 (node l r) d h), stem_is (one_level 0 1 (node l r) d h))
  where
    umbrella_is : {f n : ℕ} → ((f ≡ 0) × (n ≡ 1)) ⊎ ((1 ≤ f) × (n ≡ 1 + 0)) → n ≡ 1
    umbrella_is (inl p) = omega arith
    umbrella_is (inr p) = omega arith

    stem_is : {f n : ℕ} → ((f ≡ 0) × (n ≡ 0)) ⊎ ((1 ≤ f) × (n ≡ 0 + 1)) → n ≡ min f 1
    stem_is (inl p) = omega arith
    stem_is (inr p) = omega arith

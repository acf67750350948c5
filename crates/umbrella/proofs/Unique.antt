-- The plan `best` is chosen in every piece, and it is the only plan that is: the plan drawn.
-- Rests on Least.antt and First.antt; two plans chosen in every piece have one code in every piece, and a code names one umbrella.
use mathlib.Core.Path.{◌≡◌, refl, ap, ap₂}
use mathlib.Core.List.{List, [], ◌∷◌}
use Prim.Native.Nat.{ℕ, suc, ◌≤◌, ◌<◌}
use native.Mathlib.Nat.{le_trans}
use native.Mathlib.Decide.{dec_le}
use native.Mathlib.Omega.{arith}
use Rattle.polygon.specs.Tree.{Tree, leaf, node}
use Rattle.umbrella.specs.Plan.{Plan, none, plain, stem_left, stem_right, LeftRim, left_end, left_on, RightRim, right_end, right_on, LeftGate, left_gate, left_past, RightGate, right_gate, right_past, Stem, end_both, end_left, end_right, go_left, go_right}
use Rattle.umbrella.specs.Values.{ud, handle, fan_a, fan_b}
use Rattle.umbrella.specs.Drawn.{word, rim_edges, code_left, code_right, code, Earlier, first, less, same, Chosen, Each, EachLeft, EachRight, EachLeftGate, EachRightGate, EachStem}
use Rattle.umbrella.specs.Best.{Over, GateLeft, GateRight, Through, Node, umbrella, left_at, right_at, stem_at, under, best, best_left, best_right, gate_left, gate_right, best_stem}
use Rattle.umbrella.proofs.Least.{best_le, best_least}
use Rattle.umbrella.proofs.First.{best_first}

-- no plan has fewer levels than `best`, and none with as few has an earlier umbrella
chosen : (t : Tree) → Chosen (best t)
chosen t = ((λ q. best_least q), λ q h. best_first t q (le_trans h (best_le t)))

-- each step of the choice is chosen in every piece, if the choices below it are
abbrev EachGateLeft : (d : ℕ) (l r : Tree) → GateLeft d l r → Type 0
EachGateLeft d l r G = (f : Over (fan_a l r) d) → EachLeftGate (G f)

abbrev EachGateRight : (d : ℕ) (l r : Tree) → GateRight d l r → Type 0
EachGateRight d l r G = (f : Over (fan_b l r) d) → EachRightGate (G f)

abbrev EachThrough : (t : Tree) → Through t → Type 0
EachThrough t S = (n : Node t) → EachStem (S n)

each_umbrella : (d : ℕ) (l r : Tree) (h : Dec (fan_a l r ≤ d)) (k : Dec (fan_b l r ≤ d)) (A : LeftRim l) (B : RightRim r) (G : GateLeft d l r) (H : GateRight d l r)
    → Chosen (umbrella d l r h k A B G H) → EachLeft A → EachRight B → EachGateLeft d l r G → EachGateRight d l r H → Each (umbrella d l r h k A B G H)
unfolding umbrella Each
each_umbrella d l r (yes h) (yes k) A B G H c a b g e = (c, a, b)
each_umbrella d l r (no h) (yes k) A B G H c a b g e = (c, g h, b)
each_umbrella d l r h (no k) A B G H c a b g e = (c, a, e k)

each_left_at : (d : ℕ) (a b r : Tree) (f : Over (fan_a (node a b) r) d) (h : Dec (ud b ≤ d)) (A : LeftRim a) (p : Plan b) (G : GateLeft d a b) (S : Through b)
    → EachLeft A → Each p → EachGateLeft d a b G → EachThrough b S → EachLeftGate (left_at d a b r f h A p G S)
unfolding left_at Each
each_left_at d a b r f (yes h) A p G S x y g s = (g _, y)
each_left_at d a b r f (no h) A p G S x y g s = (x, s _)

each_right_at : (d : ℕ) (l a b : Tree) (f : Over (fan_b l (node a b)) d) (h : Dec (ud a ≤ d)) (p : Plan a) (B : RightRim b) (G : GateRight d a b) (S : Through a)
    → Each p → EachRight B → EachGateRight d a b G → EachThrough a S → EachRightGate (right_at d l a b f h p B G S)
unfolding right_at Each
each_right_at d l a b f (yes h) p B G S x y g s = (x, g _)
each_right_at d l a b f (no h) p B G S x y g s = (s _, y)

each_stem_at : (d : ℕ) (a b : Tree) (h : Dec (ud a ≤ d)) (k : Dec (ud b ≤ d)) (j : Dec (handle a ≤ d)) (p : Plan a) (q : Plan b) (S : Through a) (R : Through b)
    → Each p → Each q → EachThrough a S → EachThrough b R → EachStem (stem_at d a b h k j p q S R)
unfolding stem_at Each
each_stem_at d leaf leaf h k j p q S R x y s r = tt
each_stem_at d leaf (node z w) h (yes k) j p q S R x y s r = y
each_stem_at d leaf (node z w) h (no k) j p q S R x y s r = (x, r _)
each_stem_at d (node z w) leaf (yes h) k j p q S R x y s r = x
each_stem_at d (node z w) leaf (no h) k j p q S R x y s r = (s _, y)
each_stem_at d (node z w) (node z' w') h (yes k) (yes j) p q S R x y s r = (s _, y)
each_stem_at d (node z w) (node z' w') h (yes k) (no j) p q S R x y s r = (x, r _)
each_stem_at d (node z w) (node z' w') h (no k) j p q S R x y s r = (x, r _)

mutual
  unfolding best Each fan_a

  pub each_best : (t : Tree) → Each (best t)
  each_best leaf = tt
  each_best (node l r) =
      let d : ℕ = under l r in
      each_umbrella d l r (dec_le (fan_a l r) d) (dec_le (fan_b l r) d) (best_left l) (best_right r) (λ f. gate_left d l r f) (λ f. gate_right d l r f)
      (chosen (node l r)) (each_left l) (each_right r) (λ f. each_gate_left d l r f) (λ f. each_gate_right d l r f)

  each_left : (t : Tree) → EachLeft (best_left t)
  each_left leaf = tt
  each_left (node a b) = (each_left a, each_best b)

  each_right : (t : Tree) → EachRight (best_right t)
  each_right leaf = tt
  each_right (node a b) = (each_best a, each_right b)

  each_gate_left : (d : ℕ) (l r : Tree) (f : Over (fan_a l r) d) → EachLeftGate (gate_left d l r f)
  each_gate_left d leaf r f = absurd (f (omega arith))
  each_gate_left d (node a b) r f =
      each_left_at d a b r f (dec_le (ud b) d) (best_left a) (best b) (λ g. gate_left d a b g) (λ n. best_stem d b n)
      (each_left a) (each_best b) (λ g. each_gate_left d a b g) (λ n. each_stem d b n)

  each_gate_right : (d : ℕ) (l r : Tree) (f : Over (fan_b l r) d) → EachRightGate (gate_right d l r f)
  each_gate_right d l leaf f = absurd (f (omega arith))
  each_gate_right d l (node a b) f =
      each_right_at d l a b f (dec_le (ud a) d) (best a) (best_right b) (λ g. gate_right d a b g) (λ n. best_stem d a n)
      (each_best a) (each_right b) (λ g. each_gate_right d a b g) (λ n. each_stem d a n)

  each_stem : (d : ℕ) (t : Tree) (n : Node t) → EachStem (best_stem d t n)
  each_stem d leaf n = elim n [ ]
  each_stem d (node a b) n =
      each_stem_at d a b (dec_le (ud a) d) (dec_le (ud b) d) (dec_le (handle a) d) (best a) (best b) (λ m. best_stem d a m) (λ m. best_stem d b m)
      (each_best a) (each_best b) (λ m. each_stem d a m) (λ m. each_stem d b m)

-- the first number of a code, from 1 on; 0 of the empty code
lead : List ℕ → ℕ
lead [] = 0
lead (x ∷ xs) = suc x

tails : (x y : ℕ) (xs ys : List ℕ) → x ∷ xs ≡ y ∷ ys → xs ≡ ys
tails x y xs ys e = cc

heads : {xs ys : List ℕ} → xs ≡ ys → lead xs ≡ lead ys
heads e = ap lead e

-- each no later than the other: they are the same
earlier_both : {xs ys : List ℕ} → Earlier xs ys → Earlier ys xs → xs ≡ ys
earlier_both first first = refl
earlier_both (less h) (less k) = absurd (omega arith)
earlier_both (less h) (same e k) = absurd (omega arith)
earlier_both (same e h) (less k) = absurd (omega arith)
earlier_both (same e h) (same g k) = ap₂ (λ (x : ℕ) (l : List ℕ). x ∷ l) e (earlier_both h k)

-- the first gates below c have lower numbers than those above c
left_lead : {t : Tree} (G : LeftGate t) → (1 ≤ lead (code_left G)) × (lead (code_left G) ≤ rim_edges t)
unfolding code_left rim_edges lead
left_lead (left_gate A S) = (omega arith, omega arith)
left_lead (left_past G p) = let h = left_lead G in (h.0, omega arith)

right_lead : {t : Tree} (s : ℕ) (G : RightGate t) → s < lead (code_right s G)
unfolding code_right lead
right_lead s (right_gate S B) = omega arith
right_lead s (right_past p G) = omega (arith, right_lead (suc s) G)

-- two plans of a piece that are both chosen have the same umbrella, and so in every piece
codes : {t : Tree} (p q : Plan t) → Chosen p → Chosen q → code p ≡ code q
codes p q c d = earlier_both (c.1 q (d.0 p)) (d.1 p (c.0 q))

mutual
  unfolding Each code code_left code_right word lead

  plan_one : {t : Tree} (p q : Plan t) → Each p → Each q → p ≡ q
  plan_one none none x y = refl
  plan_one (plain {l} {r} A B) (plain A' B') x y = ap₂ {C = Plan (node l r)} plain (left_one A A' x.1 y.1) (right_one B B' x.2 y.2)
  plan_one (plain A B) (stem_left G B') x y = absurd (omega (arith, heads (codes (plain A B) (stem_left G B') x.0 y.0), left_lead G))
  plan_one (plain {l} A B) (stem_right A' G) x y = absurd (omega (arith, heads (codes (plain A B) (stem_right A' G) x.0 y.0), right_lead (rim_edges l) G))
  plan_one (stem_left G B) (plain A' B') x y = absurd (omega (arith, heads (codes (stem_left G B) (plain A' B') x.0 y.0), left_lead G))
  plan_one (stem_left {l} {r} G B) (stem_left G' B') x y = ap₂ {C = Plan (node l r)} stem_left (left_gate_one G G' (codes (stem_left G B) (stem_left G' B') x.0 y.0) x.1 y.1) (right_one B B' x.2 y.2)
  plan_one (stem_left {l} G B) (stem_right A' G') x y = absurd (omega (arith, heads (codes (stem_left G B) (stem_right A' G') x.0 y.0), left_lead G, right_lead (rim_edges l) G'))
  plan_one (stem_right {l} A G) (plain A' B') x y = absurd (omega (arith, heads (codes (stem_right A G) (plain A' B') x.0 y.0), right_lead (rim_edges l) G))
  plan_one (stem_right {l} A G) (stem_left G' B') x y = absurd (omega (arith, heads (codes (stem_right A G) (stem_left G' B') x.0 y.0), left_lead G', right_lead (rim_edges l) G))
  plan_one (stem_right {l} {r} A G) (stem_right A' G') x y = ap₂ {C = Plan (node l r)} stem_right (left_one A A' x.1 y.1) (right_gate_one G G' (rim_edges l) (codes (stem_right A G) (stem_right A' G') x.0 y.0) x.2 y.2)

  left_one : {t : Tree} (A A' : LeftRim t) → EachLeft A → EachLeft A' → A ≡ A'
  left_one left_end left_end x y = refl
  left_one (left_on {a} {b} A p) (left_on A' p') x y = ap₂ {C = LeftRim (node a b)} left_on (left_one A A' x.0 y.0) (plan_one p p' x.1 y.1)

  right_one : {t : Tree} (B B' : RightRim t) → EachRight B → EachRight B' → B ≡ B'
  right_one right_end right_end x y = refl
  right_one (right_on {a} {b} p B) (right_on p' B') x y = ap₂ {C = RightRim (node a b)} right_on (plan_one p p' x.0 y.0) (right_one B B' x.1 y.1)

  left_gate_one : {t : Tree} (G G' : LeftGate t) → code_left G ≡ code_left G' → EachLeftGate G → EachLeftGate G' → G ≡ G'
  left_gate_one (left_gate {a} {b} A S) (left_gate A' S') e x y = ap₂ {C = LeftGate (node a b)} left_gate (left_one A A' x.0 y.0) (stem_one S S' (tails _ _ _ _ e) x.1 y.1)
  left_gate_one (left_gate A S) (left_past G' p') e x y = absurd (omega (arith, heads e, left_lead G'))
  left_gate_one (left_past G p) (left_gate A' S') e x y = absurd (omega (arith, heads e, left_lead G))
  left_gate_one (left_past {a} {b} G p) (left_past G' p') e x y = ap₂ {C = LeftGate (node a b)} left_past (left_gate_one G G' e x.0 y.0) (plan_one p p' x.1 y.1)

  right_gate_one : {t : Tree} (G G' : RightGate t) (s : ℕ) → code_right s G ≡ code_right s G' → EachRightGate G → EachRightGate G' → G ≡ G'
  right_gate_one (right_gate {a} {b} S B) (right_gate S' B') s e x y = ap₂ {C = RightGate (node a b)} right_gate (stem_one S S' (tails _ _ _ _ e) x.0 y.0) (right_one B B' x.1 y.1)
  right_gate_one (right_gate S B) (right_past p' G') s e x y = absurd (omega (arith, heads e, right_lead (suc s) G'))
  right_gate_one (right_past p G) (right_gate S' B') s e x y = absurd (omega (arith, heads e, right_lead (suc s) G))
  right_gate_one (right_past {a} {b} p G) (right_past p' G') s e x y = ap₂ {C = RightGate (node a b)} right_past (plan_one p p' x.0 y.0) (right_gate_one G G' (suc s) e x.1 y.1)

  stem_one : {t : Tree} (S S' : Stem t) → word S ≡ word S' → EachStem S → EachStem S' → S ≡ S'
  stem_one end_both end_both e x y = refl
  stem_one end_both (go_left S p) e x y = absurd (omega (arith, heads e))
  stem_one end_both (go_right p S) e x y = absurd (omega (arith, heads e))
  stem_one (end_left {a} {b} p) (end_left p') e x y = ap {B = Stem (node leaf (node a b))} end_left (plan_one p p' x y)
  stem_one (end_left p) (go_left S p') e x y = absurd (omega (arith, heads e))
  stem_one (end_left p) (go_right p' S) e x y = absurd (omega (arith, heads e))
  stem_one (end_right {a} {b} p) (end_right p') e x y = ap {B = Stem (node (node a b) leaf)} end_right (plan_one p p' x y)
  stem_one (end_right p) (go_left S p') e x y = absurd (omega (arith, heads e))
  stem_one (end_right p) (go_right p' S) e x y = absurd (omega (arith, heads e))
  stem_one (go_left S p) end_both e x y = absurd (omega (arith, heads e))
  stem_one (go_left S p) (end_left p') e x y = absurd (omega (arith, heads e))
  stem_one (go_left S p) (end_right p') e x y = absurd (omega (arith, heads e))
  stem_one (go_left {a} {b} S p) (go_left S' p') e x y = ap₂ {C = Stem (node a b)} go_left (stem_one S S' (tails _ _ _ _ e) x.0 y.0) (plan_one p p' x.1 y.1)
  stem_one (go_left S p) (go_right p' S') e x y = absurd (omega (arith, heads e))
  stem_one (go_right p S) end_both e x y = absurd (omega (arith, heads e))
  stem_one (go_right p S) (end_left p') e x y = absurd (omega (arith, heads e))
  stem_one (go_right p S) (end_right p') e x y = absurd (omega (arith, heads e))
  stem_one (go_right p S) (go_left S' p') e x y = absurd (omega (arith, heads e))
  stem_one (go_right {a} {b} p S) (go_right p' S') e x y = ap₂ {C = Stem (node a b)} go_right (plan_one p p' x.0 y.0) (stem_one S S' (tails _ _ _ _ e) x.1 y.1)

pub unique : {t : Tree} (p : Plan t) → Each p → p ≡ best t
unique {t} p x = plan_one p (best t) x (each_best t)

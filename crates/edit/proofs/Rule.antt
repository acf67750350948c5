-- When a rule takes an edit, and what it then gives (`rule_takes`, `rule_taken`); else it refuses (`rule_settled`).
use mathlib.Core.Path.{◌≡◌, refl, ap}
use mathlib.Core.List.{map}
use Prim.Native.Nat.{ℕ, suc, ◌-◌, ◌<◌}
use Rattle.lists.specs.Lists.{Mem, All}
use Rattle.polygon.specs.Polygon.{Polygon}
use Rattle.polygon.specs.Order.{lower_first}
use Rattle.sheet.specs.Sheet.{Reading, refused, held, ask}
use Rattle.edit.specs.Rules.{Edit, add_ear, remove_ear, flip, up, down, both, Away, ear_added, ear_removed, flipped, result, rule}

-- a test is passed, or it refuses
pub ask_cases : {P : Type 0} (Q : Reading → Type 0) (k : ℕ) (d : Dec P) (r : Reading) → (¬ P → Q (refused k)) → (P → Q r) → Q (ask k d r)
unfolding ask
ask_cases Q k (yes p) r f g = g p
ask_cases Q k (no n) r f g = f n

-- what the rule asks of an edit
abbrev pub Takes : Edit → Polygon → Type 0
Takes (add_ear i) p = (i < p.n) × (¬ (p.n ≡ 1024))
Takes (remove_ear k) p = (k < p.n) × (¬ (p.n ≡ 3)) × All (Away k) p.ds
Takes (flip a b) p = ((a < p.n) × (b < p.n)) × Mem (lower_first (a, b)) p.ds

-- what it then gives
abbrev pub given : Edit → Polygon → Polygon
given (add_ear i) p = result (suc p.n) (map (both (up i)) p.ds) p.angles (ear_added p.n i p.ds)
given (remove_ear k) p = result (p.n - 1) (map (both (down k)) p.ds) p.angles (ear_removed p.n k p.ds)
given (flip a b) p = result p.n p.ds p.angles (flipped p.n (lower_first (a, b)) p.ds)

abbrev pub Ruled : Edit → Polygon → Reading → Type 0
Ruled e p (refused k) = ¬ Takes e p
Ruled e p (held q) = Takes e p × (q ≡ given e p)

pub rule_settled : (e : Edit) (p : Polygon) → Ruled e p (rule e p)
unfolding rule
rule_settled (add_ear i) p =
    let Q : Reading → Type 0 = Ruled (add_ear i) p in
    ask_cases Q 9 _ _ (λ f t. f t.0)
    (λ h. ask_cases Q 10 _ _ (λ f t. f t.1)
    (λ k. ((h, k), refl)))
rule_settled (remove_ear j) p =
    let Q : Reading → Type 0 = Ruled (remove_ear j) p in
    ask_cases Q 9 _ _ (λ f t. f t.0)
    (λ h. ask_cases Q 11 _ _ (λ f t. f t.1)
    (λ k. ask_cases Q 12 _ _ (λ f t. f t.2)
    (λ a. ((h, k, a), refl))))
rule_settled (flip a b) p =
    let Q : Reading → Type 0 = Ruled (flip a b) p in
    ask_cases Q 9 _ _ (λ f t. f t.0)
    (λ h. ask_cases Q 13 _ _ (λ f t. f t.1)
    (λ m. ((h, m), refl)))

pub rule_takes : (e : Edit) (p : Polygon) → Takes e p → rule e p ≡ held (given e p)
rule_takes e p t = go (rule e p) (rule_settled e p)
  where
    go : (r : Reading) → Ruled e p r → r ≡ held (given e p)
    go (refused k) s = absurd (s t)
    go (held q) s = ap held s.1

pub rule_taken : (e : Edit) (p : Polygon) {q : Polygon} → rule e p ≡ held q → Takes e p × (q ≡ given e p)
rule_taken e p r = rw r at (rule_settled e p)

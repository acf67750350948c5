-- The answer of `nearest` is the one that request (x) asks for, and the only one.
use mathlib.Core.Path.{◌≡◌, refl, sym, ◌∙◌, ap}
use mathlib.Core.Logic.{◌⊎◌, inl, inr, ◌≢◌}
use Prim.Native.Nat.{ℕ, zero, suc, ◌+◌, ◌-◌, ◌≤◌, ◌<◌, min, max}
use native.Mathlib.Decide.{dec_le, ℕ_discrete}
use native.Mathlib.Nat.{zero-add, add-zero}
use native.Mathlib.Omega.{arith}
use Rattle.lists.specs.Lists.{choose, numbers, below}
use Rattle.lists.proofs.Lists.{choose_yes, choose_no}
use Rattle.chart.specs.Chart.{Bar}
use Rattle.nearest.specs.declared.Cell.{Cell}
use Rattle.nearest.specs.Cells.{HasCell, Amid, Inside, Stands}
use Rattle.nearest.specs.Nearest.{Found, none, bar, apart, away, IsNearest, toward, step, steps, or_else, first, has?, lowest_at, nearest}

-- none is no bar
differ : {x : ℕ} → bar x ≡ none → ⊥
differ h = let z : ◌≡◌ {A = ℕ} 0 1 = cc in omega arith

-- what `first` finds: at a number of the list, and nothing before it
record First (f : ℕ → Found) (m u y : ℕ) : Type 0 where
  at : ℕ
  low : u ≤ at
  high : at < u + m
  found : f at ≡ bar y
  before : (j : ℕ) → u ≤ j → j < at → f j ≡ none

or_else_none : (g r : Found) → or_else g r ≡ none → (g ≡ none) × (r ≡ none)
unfolding or_else
or_else_none none r h = (refl, h)
or_else_none (bar x) r h = absurd (differ h)

or_else_bar : (g r : Found) (y : ℕ) → or_else g r ≡ bar y → (g ≡ bar y) ⊎ ((g ≡ none) × (r ≡ bar y))
unfolding or_else
or_else_bar none r y h = inr (refl, h)
or_else_bar (bar x) r y h = inl h

module _ (f : ℕ → Found) where
  onward : (u t : ℕ) → f u ≡ none → ((k : ℕ) → suc u ≤ k → k < t → f k ≡ none) → (k : ℕ) → u ≤ k → k < t → f k ≡ none
  onward u t p g k a b = go (ℕ_discrete k u)
    where
      go : Dec (k ≡ u) → f k ≡ none
      go (yes e) = rw e p
      go (no e) = g k (omega arith) b

  first_none : (m u : ℕ) → first f (numbers m u) ≡ none → (k : ℕ) → u ≤ k → k < u + m → f k ≡ none
  unfolding numbers first
  first_none zero u h k a b = absurd (omega arith)
  first_none (suc m) u h k a b = let (p, q) = or_else_none (f u) (first f (numbers m (suc u))) h in onward u (u + suc m) p (λ j c d. first_none m (suc u) q j c (omega arith)) k a b

  first_bar : (m u y : ℕ) → first f (numbers m u) ≡ bar y → First f m u y
  unfolding numbers first
  first_bar zero u y h = absurd (differ (sym h))
  first_bar (suc m) u y h = elim (or_else_bar (f u) (first f (numbers m (suc u))) y h) [
    | inl p ↦ record { at = u; low = omega arith; high = omega arith; found = p; before = λ j a b. absurd (omega arith) }
    | inr p ↦ let F = first_bar m (suc u) y p.1 in record { at = F.at; low = omega arith; high = omega arith; found = F.found; before = onward u F.at p.0 F.before }
  ]

-- the lowest corner whose bar has a cell
module _ {P : Type 0} (k : ℕ) where
  chosen_none : (d : Dec P) → choose d (bar k) none ≡ none → ¬ P
  unfolding choose
  chosen_none (yes p) h q = differ h
  chosen_none (no p) h q = p q

  chosen_bar : (d : Dec P) (x : ℕ) → choose d (bar k) none ≡ bar x → P × (k ≡ x)
  unfolding choose
  chosen_bar (yes p) x h = (p, cc)
  chosen_bar (no p) x h = absurd (differ (sym h))

module _ (bars : ℕ → Bar) (n : ℕ) (c : Cell) where
  lowest_none : lowest_at bars n c ≡ none → (y : ℕ) → y < n → ¬ HasCell (bars y) c
  unfolding lowest_at below
  lowest_none h y k = chosen_none y (has? (bars y) c) (first_none _ n 0 h y (omega arith) (omega arith))

  lowest_bar : (x : ℕ) → lowest_at bars n c ≡ bar x → (x < n) × HasCell (bars x) c × ((y : ℕ) → y < n → HasCell (bars y) c → x ≤ y)
  unfolding lowest_at below
  lowest_bar x h =
      let F = first_bar _ n 0 x h in
      let (p, e) = chosen_bar F.at (has? (bars F.at) c) x F.found in
      (omega arith, rw e at p, λ y k w. elim (dec_le x y) [ yes q ↦ q | no q ↦ absurd (chosen_none y (has? (bars y) c) (F.before y (omega arith) (omega (arith, q, e))) w) ])

-- steps from a towards b, without a choice; where there is no way to go
toward_is : (a b k : ℕ) → toward a b k ≡ max (a - k) (min (a + k) b)
unfolding toward choose
toward_is a b k = go (dec_le a b)
  where
    go : (d : Dec (a ≤ b)) → choose d (min (a + k) b) (max (a - k) b) ≡ max (a - k) (min (a + k) b)
    go (yes p) = omega arith
    go (no p) = omega arith

stay : (a b k : ℕ) → a ≡ b → toward a b k ≡ a
stay a b k p = omega (arith, toward_is a b k)

same : (a b : ℕ) → a ≡ b → apart a b ≡ 0
same a b h = omega arith

-- x is k steps from a towards b, before b: so it is for each x between them, and after each number of steps that is small enough
record Met (a b x k : ℕ) : Type 0 where
  amid : Amid a b x
  far : apart a x ≡ k
  least : 1 ≤ k
  most : k < 1 + (apart a b - 1)
  lands : toward a b k ≡ x

met : (a b x k : ℕ) → 1 ≤ k → ((a + k ≡ x) × (x < b)) ⊎ ((x + k ≡ a) × (b < x)) → Met a b x k
met a b x k h (inl i) = record { amid = omega arith; far = omega arith; least = h; most = omega arith; lands = omega (arith, toward_is a b k) }
met a b x k h (inr i) = record { amid = omega arith; far = omega arith; least = h; most = omega arith; lands = omega (arith, toward_is a b k) }

met_amid : (a b x : ℕ) → Amid a b x → Met a b x (apart a x)
met_amid a b x h = met a b x (apart a x) (omega arith) (elim (dec_le a b) [ yes p ↦ inl (omega (arith, p)) | no p ↦ inr (omega (arith, p)) ])

met_step : (a b k : ℕ) → 1 ≤ k → k < 1 + (apart a b - 1) → Met a b (toward a b k) k
met_step a b k h i = elim (dec_le a b) [
  | yes p ↦ let M = met a b (a + k) k h (inl (refl, omega (arith, p))) in rw M.lands M
  | no p ↦ let M = met a b (a - k) k h (inr (omega (arith, p), omega (arith, p))) in rw M.lands M
]

module _ (e : Cell × Cell) where
  -- a cell between the two is met after as many steps as it is away
  of_inside : (d : Cell) → Inside e d → (1 ≤ away e.0 d) × (away e.0 d < 1 + steps e) × (step e (away e.0 d) ≡ d)
  unfolding steps
  of_inside d (inl h) =
      let M = met_amid e.0.column e.1.column d.column h.2 in
      let p = h.0 ∙ sym h.1 in
      let s = stay e.0.row e.1.row (apart e.0.column d.column) p in
      rw (same e.0.row d.row h.0, zero-add, choose_yes (ℕ_discrete e.0.row e.1.row) _ p) (M.least, M.most, λ i. record { row = (s ∙ h.0) i; column = M.lands i })
  of_inside d (inr h) =
      let f : e.0.row ≢ e.1.row = omega arith in
      let M = met_amid e.0.row e.1.row d.row h.2 in
      let p = h.0 ∙ sym h.1 in
      let s = stay e.0.column e.1.column (apart e.0.row d.row) p in
      rw (same e.0.column d.column h.0, add-zero, choose_no (ℕ_discrete e.0.row e.1.row) _ f, choose_yes (ℕ_discrete e.0.column e.1.column) _ p)
      (M.least, M.most, λ i. record { row = M.lands i; column = (s ∙ h.0) i })

  -- and each of the steps meets such a cell
  step_inside : (k : ℕ) → 1 ≤ k → k < 1 + steps e → Inside e (step e k) × (away e.0 (step e k) ≡ k)
  unfolding steps choose
  step_inside k h = go (ℕ_discrete e.0.row e.1.row) (ℕ_discrete e.0.column e.1.column)
    where
      go : (p : Dec (e.0.row ≡ e.1.row)) (q : Dec (e.0.column ≡ e.1.column)) → k < 1 + choose p (apart e.0.column e.1.column - 1) (choose q (apart e.0.row e.1.row - 1) 0)
          → Inside e (step e k) × (away e.0 (step e k) ≡ k)
      go (yes p) q i =
          let M = met_step e.0.column e.1.column k h i in
          let s = sym (stay e.0.row e.1.row k p) in
          (inl (s, sym p ∙ s, M.amid), rw (same e.0.row _ s, zero-add) M.far)
      go (no p) (yes q) i =
          let M = met_step e.0.row e.1.row k h i in
          let s = sym (stay e.0.column e.1.column k q) in
          (inr (s, sym q ∙ s, M.amid), rw (same e.0.column _ s, add-zero) M.far)
      go (no p) (no q) i = absurd (omega arith)

module _ (bars : ℕ → Bar) (n : ℕ) (e : Cell × Cell) where
  -- no bar has a cell between the two where none is found
  clear : (d : Cell) → Inside e d → lowest_at bars n (step e (away e.0 d)) ≡ none → (y : ℕ) → y < n → ¬ HasCell (bars y) d
  clear d i h = let s = (of_inside e d i).2 in lowest_none bars n d (rw s at h)

  pub of_none : nearest bars n e ≡ none → (y : ℕ) → y < n → ¬ Stands e (bars y)
  unfolding nearest
  of_none h y k (d, i, w) = let (a, b, s) = of_inside e d i in clear d i (first_none _ (steps e) 1 h (away e.0 d) a b) y k w

  pub of_nearest : (x : ℕ) → nearest bars n e ≡ bar x → IsNearest bars n e x
  unfolding nearest
  of_nearest x h =
      let F = first_bar _ (steps e) 1 x h in
      let (i, p) = step_inside e F.at F.low F.high in
      let (a, b, c) = lowest_bar bars n (step e F.at) x F.found in
      record {
        corner = a;
        at = step e F.at;
        between = i;
        has = b;
        least = λ y k d j w. rw p (elim (dec_le F.at (away e.0 d)) [ yes q ↦ q | no q ↦ absurd (clear d j (F.before (away e.0 d) (of_inside e d j).0 (omega (arith, q))) y k w) ]);
        lowest = c;
      }

  -- there is one nearest corner at most
  nearest_once : {x y : ℕ} → IsNearest bars n e x → IsNearest bars n e y → x ≡ y
  nearest_once {x} {y} N M =
      let p : away e.0 N.at ≡ away e.0 M.at = omega (arith, N.least y M.corner M.at M.between M.has, M.least x N.corner N.at N.between N.has) in
      let q : N.at ≡ M.at = sym (of_inside e N.at N.between).2 ∙ ap (step e) p ∙ (of_inside e M.at M.between).2 in
      omega (arith, N.lowest y M.corner (rw q M.has), M.lowest x N.corner (rw (← q) N.has))

  pub nearest_of : (x : ℕ) → IsNearest bars n e x → nearest bars n e ≡ bar x
  nearest_of x N = go (nearest bars n e) refl
    where
      go : (g : Found) → nearest bars n e ≡ g → nearest bars n e ≡ bar x
      go none h = absurd (of_none h x N.corner (N.at, N.between, N.has))
      go (bar y) h = h ∙ ap bar (nearest_once (of_nearest y h) N)

  pub none_of : ((y : ℕ) → y < n → ¬ Stands e (bars y)) → nearest bars n e ≡ none
  none_of f = go (nearest bars n e) refl
    where
      go : (g : Found) → nearest bars n e ≡ g → nearest bars n e ≡ none
      go none h = h
      go (bar x) h = let N = of_nearest x h in absurd (f x N.corner (N.at, N.between, N.has))

-- By the tests.
use Rattle.std.proofs.Common.{◌≡◌, ℕ, suc, ◌≤◌, ◌<◌, Bool, true, false, sym, ◌∙◌, arith, leb, inl, inr}
use Rattle.std.proofs.lemmas.Bool.Decides.{leb_tells}
use Rattle.umbrella.proofs.Cases.{end_both_lem, end_left_lem, only_right, end_right_lem, only_left, both_left, both_right}
use Rattle.umbrella.proofs.roles.goes_left.Goals as goal

-- a test has the value that x has in each of its cases
by_test : (a b : ℕ) {x : Bool} → (a ≤ b → x ≡ true) → (b < a → x ≡ false) → leb a b ≡ x
by_test a b f g = elim (leb_tells a b) [ inl w ↦ w.0 ∙ sym (f w.1) | inr w ↦ w.0 ∙ sym (g w.1) ]

pub returns-in-0-eq0 : goal.returns-in-0-eq0
returns-in-0-eq0 c = sym (end_both_lem c.args.right c.args.d c.args.handle_l c.args.ud_l c.args.ud_r c.in-0-eq0.is-0 c.in-0-eq0.is-1)

pub returns-in-0-default : goal.returns-in-0-default
returns-in-0-default c =
    let a = c.args in
    by_test a.ud_r a.d (λ h. end_left_lem a.right a.d a.handle_l a.ud_l a.ud_r c.in-0-default.is-0 c.in-0-default.is-1.1 h) (λ h. only_right a.right a.d a.handle_l a.ud_l a.ud_r c.in-0-default.is-0 (λ k. omega arith))

pub returns-in_default-eq0 : goal.returns-in_default-eq0
returns-in_default-eq0 c =
    let a = c.args in
    by_test (suc a.d) a.ud_l (λ h. only_left a.right a.d a.handle_l a.ud_l a.ud_r (λ k. omega arith) c.in_default-eq0.is-1) (λ h. end_right_lem a.right a.d a.handle_l a.ud_l a.ud_r c.in_default-eq0.is-0.1 c.in_default-eq0.is-1 (omega arith))

pub returns-then-ud_r-d : goal.returns-then-ud_r-d
returns-then-ud_r-d c =
    let a = c.args in
    by_test a.handle_l a.d (λ h. both_left a.right a.d a.handle_l a.ud_l a.ud_r c.in_default.is-0.1 c.in_default.is-1.1 c.if-ud_r-d.true h)
    (λ h. both_right a.right a.d a.handle_l a.ud_l a.ud_r c.in_default.is-0.1 c.in_default.is-1.1 (λ m n. omega arith))

pub returns-else-ud_r-d : goal.returns-else-ud_r-d
returns-else-ud_r-d c =
    let a = c.args in
    let right = both_right a.right a.d a.handle_l a.ud_l a.ud_r c.in_default.is-0.1 c.in_default.is-1.1 (λ m n. omega (arith, c.if-ud_r-d.false)) in
    by_test a.ud_r a.d (λ h. absurd (omega (arith, c.if-ud_r-d.false))) (λ h. right)

-- The cases of a step from a triangle to the two pieces beyond it, each by the tests that lead to it. Rests on the definitions alone.
use mathlib.Core.Path.{◌≡◌, refl, ◌∙◌}
use mathlib.Core.Bool.{Bool, true, false, not}
use Prim.Native.Nat.{ℕ, zero, suc, ◌≤◌}
use native.Mathlib.Decide.{dec_le}
use native.Mathlib.Omega.{arith}
use Rattle.lists.specs.Lists.{choose}
use Rattle.lists.proofs.Lists.{choose_no, choose_yes}
use Rattle.umbrella.specs.declared.roles.Role.TheVariants.{Hung, LeftRim, RightRim, FromLeft, FromRight}
use Rattle.umbrella.specs.Roles.{left_step, right_step, goes_left}

module _ (d n : ℕ) where
  pub left_hung : n ≤ d → left_step d n ≡ record { left = LeftRim; right = Hung; crossed = false }
  unfolding left_step
  left_hung h = choose_yes (dec_le n d) _ h

  pub left_entered : (n ≤ d → ⊥) → left_step d n ≡ record { left = LeftRim; right = FromRight; crossed = true }
  unfolding left_step
  left_entered h = choose_no (dec_le n d) _ h

  pub right_hung : n ≤ d → right_step d n ≡ record { left = Hung; right = RightRim; crossed = false }
  unfolding right_step
  right_hung h = choose_yes (dec_le n d) _ h

  pub right_entered : (n ≤ d → ⊥) → right_step d n ≡ record { left = FromLeft; right = RightRim; crossed = true }
  unfolding right_step
  right_entered h = choose_no (dec_le n d) _ h

-- E, L and R
module _ (k : Bool) (d h : ℕ) where
  pub end_both_lem : (a b : ℕ) → a ≡ 0 → b ≡ 0 → goes_left k d a b h ≡ not k
  unfolding goes_left
  end_both_lem a b p q = rw (p, q)

  pub end_left_lem : (a b : ℕ) → a ≡ 0 → (b ≡ 0 → ⊥) → b ≤ d → goes_left k d a b h ≡ true
  unfolding goes_left
  end_left_lem a zero p f i = absurd (f refl)
  end_left_lem a (suc b) p f i = rw p (choose_yes (dec_le (suc b) d) false i)

  pub only_right : (a b : ℕ) → a ≡ 0 → (b ≤ d → ⊥) → goes_left k d a b h ≡ false
  unfolding goes_left
  only_right a zero p f = absurd (f (omega arith))
  only_right a (suc b) p f = rw p (choose_no (dec_le (suc b) d) true f)

  pub end_right_lem : (a b : ℕ) → (a ≡ 0 → ⊥) → b ≡ 0 → a ≤ d → goes_left k d a b h ≡ false
  unfolding goes_left
  end_right_lem zero b f q i = absurd (f refl)
  end_right_lem (suc a) b f q i = rw q (choose_yes (dec_le (suc a) d) true i)

  pub only_left : (a b : ℕ) → (a ≤ d → ⊥) → b ≡ 0 → goes_left k d a b h ≡ true
  unfolding goes_left
  only_left zero b f q = absurd (f (omega arith))
  only_left (suc a) b f q = rw q (choose_no (dec_le (suc a) d) false f)

  pub both_left : (a b : ℕ) → (a ≡ 0 → ⊥) → (b ≡ 0 → ⊥) → b ≤ d → h ≤ d → goes_left k d a b h ≡ true
  unfolding goes_left
  both_left zero b f g i j = absurd (f refl)
  both_left (suc a) zero f g i j = absurd (g refl)
  both_left (suc a) (suc b) f g i j = choose_yes (dec_le (suc b) d) false i ∙ choose_yes (dec_le h d) false j

  pub both_right : (a b : ℕ) → (a ≡ 0 → ⊥) → (b ≡ 0 → ⊥) → (b ≤ d → h ≤ d → ⊥) → goes_left k d a b h ≡ false
  unfolding goes_left choose
  both_right zero b f g i = absurd (f refl)
  both_right (suc a) zero f g i = absurd (g refl)
  both_right (suc a) (suc b) f g i = go (dec_le (suc b) d) (dec_le h d) i
    where
      go : (x : Dec (suc b ≤ d)) (y : Dec (h ≤ d)) → (suc b ≤ d → h ≤ d → ⊥) → choose x (choose y true false) false ≡ false
      go (yes x) (yes y) f = absurd (f x y)
      go (yes x) (no y) f = refl
      go (no x) y f = refl

-- What joining answers: the part that it gives, the numbers that it refuses by, and how long what it writes can be.
use mathlib.Core.Path.{◌≡◌, refl, ap, ◌∙◌}
use mathlib.Core.List.{List, [], ◌∷◌, ◌++◌}
use Prim.Native.Nat.{ℕ, suc, ◌+◌, ◌-◌, ◌≤◌, ◌<◌}
use native.Mathlib.Omega.{arith}
use Rattle.lists.specs.Lists.{All, all_cons, all_nil}
use Rattle.lists.proofs.Lists.{all_append, here, mem_left, mem_right, there}
use Rattle.polygon.specs.Polygon.{Polygon, Valid}
use Rattle.codec.specs.Answer.{refuse, write, written}
use Rattle.codec.specs.Refusals.{Proper, Settled}
use Rattle.codec.proofs.Refusals.{settled}
use Rattle.sheet.specs.Sheet.{Reading, refused, held, longest, read_sheet, normal_sheet, outcome}
use Rattle.sheet.specs.Refusals.{sheet_tests, RefusedBy, holds}
use Rattle.sheet.proofs.Asks.{ask_no, ask_yes}
use Rattle.sheet.proofs.Refusals.{ask_refuses, outcome_refuses, read_refuses, tests_proper}
use Rattle.sheet.proofs.Size.{ValidPart, outcome_size}
use Rattle.sheet.proofs.Valid.{read_valid}
use Rattle.edit.specs.Calls.{on_held}
use Rattle.edit.proofs.Rule.{ask_cases}
use Rattle.edit.proofs.Refusals.{held_refuses, refused_among}
use Rattle.seam.specs.Join.{glue, join_rule, joined_sheets, join_tests}
use Rattle.seam.specs.Halves.{Joins}
use Rattle.seam.proofs.Grafted.{glued_valid}

-- what the rule asks, what it refuses by else, and what it gives
module _ (i : ℕ) (p q : Polygon) where
  pub join_outside : ¬ (suc i < p.n) → join_rule i p q ≡ refused 9
  unfolding join_rule
  join_outside f = ask_no 9 _ _ f

  pub join_many : suc i < p.n → ¬ (p.n + q.n - 2 ≤ 1024) → join_rule i p q ≡ refused 10
  unfolding join_rule
  join_many h f = ask_yes 9 _ _ h ∙ ask_no 10 _ _ f

  pub join_gives : Joins i p.n q.n → join_rule i p q ≡ held (glue i p q)
  unfolding join_rule
  join_gives (h, k) = ask_yes 9 _ _ h ∙ ask_yes 10 _ _ k

  abbrev Ruled : Reading → Type 0
  Ruled (refused k) = ¬ Joins i p.n q.n
  Ruled (held g) = Joins i p.n q.n × (g ≡ glue i p q)

  ruled : Ruled (join_rule i p q)
  unfolding join_rule
  ruled = ask_cases Ruled 9 _ _ (λ f j. f j.0) (λ h. ask_cases Ruled 10 _ _ (λ f j. f j.1) (λ k. ((h, k), refl)))

  pub join_given : {g : Polygon} → join_rule i p q ≡ held g → Joins i p.n q.n × (g ≡ glue i p q)
  join_given e = rw e at ruled

  pub join_valid : {g : Polygon} → join_rule i p q ≡ held g → Valid p → Valid q → Valid g
  join_valid e P Q = let ((h, k), same) = join_given e in rw same (glued_valid i p q P Q h k)

  join_refuses : RefusedBy join_tests (join_rule i p q)
  unfolding join_rule
  join_refuses = ask_refuses 9 _ here (ask_refuses 10 _ (there here) holds)

join_proper : All Proper join_tests
join_proper = all_cons {x = 9} (omega arith, omega arith) (all_cons {x = 10} (omega arith, omega arith) all_nil)

-- "The first sheet's refusals come before the second's; then 9 .., 10 .., then 8.": the sheets s and t, the second on side i
module _ (s t : List ℕ) (i : ℕ) where
  pub joined_settled : (out : List ℕ) → Settled ((sheet_tests ++ join_tests) ++ (8 ∷ [])) (joined_sheets s t i) out (written (joined_sheets s t i) out)
  unfolding joined_sheets
  joined_settled out =
      settled _ out (all_append tests_proper join_proper)
      (outcome_refuses (held_refuses (sheet s) (λ p. held_refuses (sheet t) (λ q. refused_among (λ k m. mem_right sheet_tests m) (join_refuses i p q)))))
    where
      sheet : (x : List ℕ) → RefusedBy (sheet_tests ++ join_tests) (read_sheet x)
      sheet x = refused_among (λ k m. mem_left join_tests m) (read_refuses x)

  pub joined_size : (out : List ℕ) → (written (joined_sheets s t i) out).size ≤ longest
  unfolding joined_sheets on_held
  joined_size out = outcome_size _ out (go (read_sheet s) refl (read_sheet t) refl)
    where
      valid : (p q : Polygon) → read_sheet s ≡ held p → read_sheet t ≡ held q → (r : Reading) → join_rule i p q ≡ r → ValidPart r
      valid p q d e (refused k) h = tt
      valid p q d e (held g) h = join_valid i p q h (read_valid s p d) (read_valid t q e)

      go : (x : Reading) → read_sheet s ≡ x → (y : Reading) → read_sheet t ≡ y → ValidPart (on_held x (λ p. on_held y (join_rule i p)))
      go (refused k) d y e = tt
      go (held p) d (refused k) e = tt
      go (held p) d (held q) e = valid p q d e (join_rule i p q) refl

  -- each of them
  pub first_refused : {k : ℕ} → read_sheet s ≡ refused k → joined_sheets s t i ≡ refuse k
  unfolding joined_sheets on_held outcome
  first_refused e = rw e

  module _ {p : Polygon} (d : read_sheet s ≡ held p) where
    pub second_refused : {k : ℕ} → read_sheet t ≡ refused k → joined_sheets s t i ≡ refuse k
    unfolding joined_sheets on_held outcome
    second_refused e = rw (d, e)

    module _ {q : Polygon} (e : read_sheet t ≡ held q) where
      ruled_by : joined_sheets s t i ≡ outcome (join_rule i p q)
      unfolding joined_sheets on_held
      ruled_by = rw (d, e)

      pub by_9 : ¬ (suc i < p.n) → joined_sheets s t i ≡ refuse 9
      unfolding outcome
      by_9 f = ruled_by ∙ ap outcome (join_outside i p q f)

      pub by_10 : suc i < p.n → ¬ (p.n + q.n - 2 ≤ 1024) → joined_sheets s t i ≡ refuse 10
      unfolding outcome
      by_10 h f = ruled_by ∙ ap outcome (join_many i p q h f)

      pub joined_writes : Joins i p.n q.n → joined_sheets s t i ≡ write (normal_sheet (glue i p q))
      unfolding outcome
      joined_writes j = ruled_by ∙ ap outcome (join_gives i p q j)

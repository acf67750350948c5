-- The numbers that an edit is refused by: those of the sheet's tests, those of its rule, and 8.
use mathlib.Core.List.{List, [], ◌∷◌, ◌++◌}
use Prim.Native.Nat.{ℕ}
use native.Mathlib.Omega.{arith}
use Rattle.lists.specs.Lists.{All, Sub, all_cons, all_nil}
use Rattle.lists.proofs.Lists.{all_append, here, mem_left, mem_right, there}
use Rattle.polygon.specs.Polygon.{Polygon}
use Rattle.codec.specs.Answer.{written}
use Rattle.sheet.specs.Sheet.{Reading}
use Rattle.sheet.specs.Refusals.{sheet_tests, RefusedBy, by, holds}
use Rattle.codec.specs.Refusals.{Proper, Settled}
use Rattle.sheet.proofs.Refusals.{ask_refuses, outcome_refuses, read_refuses, tests_proper}
use Rattle.codec.proofs.Refusals.{settled}
use Rattle.edit.specs.Rules.{Edit, add_ear, remove_ear, flip, rule_tests, rule}
use Rattle.edit.specs.Calls.{on_held, edited}

pub rule_refuses : (e : Edit) (p : Polygon) → RefusedBy (rule_tests e) (rule e p)
unfolding rule
rule_refuses (add_ear i) p = ask_refuses 9 _ here (ask_refuses 10 _ (there here) holds)
rule_refuses (remove_ear k) p = ask_refuses 9 _ here (ask_refuses 11 _ (there here) (ask_refuses 12 _ (there (there here)) holds))
rule_refuses (flip a b) p = ask_refuses 9 _ here (ask_refuses 13 _ (there here) holds)

pub rule_proper : (e : Edit) → All Proper (rule_tests e)
rule_proper (add_ear i) = all_cons {x = 9} (omega arith, omega arith) (all_cons {x = 10} (omega arith, omega arith) all_nil)
rule_proper (remove_ear k) = all_cons {x = 9} (omega arith, omega arith) (all_cons {x = 11} (omega arith, omega arith) (all_cons {x = 12} (omega arith, omega arith) all_nil))
rule_proper (flip a b) = all_cons {x = 9} (omega arith, omega arith) (all_cons {x = 13} (omega arith, omega arith) all_nil)

-- a part that is held, and what is done with it, refused by the same numbers; and by more
pub held_refuses : {ks : List ℕ} {r : Reading} {f : Polygon → Reading} → RefusedBy ks r → ((p : Polygon) → RefusedBy ks (f p)) → RefusedBy ks (on_held r f)
unfolding on_held
held_refuses (by m) F = by m
held_refuses (holds {p}) F = F p

pub refused_among : {ks js : List ℕ} {r : Reading} → Sub ks js → RefusedBy ks r → RefusedBy js r
refused_among s (by {k} m) = by (s k m)
refused_among s holds = holds

pub edited_settled : (e : Edit) (s out : List ℕ) → Settled ((sheet_tests ++ rule_tests e) ++ (8 ∷ [])) (edited e s) out (written (edited e s) out)
unfolding edited
edited_settled e s out =
    let sheet = refused_among (λ k m. mem_left (rule_tests e) m) (read_refuses s) in
    settled _ out (all_append tests_proper (rule_proper e)) (outcome_refuses (held_refuses sheet (λ p. refused_among (λ k m. mem_right sheet_tests m) (rule_refuses e p))))

-- What cutting answers: the two parts that it gives, the numbers that it refuses by, and how long what it writes can be.
use mathlib.Core.Path.{◌≡◌, refl, ap, ap₂, ◌∙◌}
use mathlib.Core.Logic.{inl, inr, ◌↔◌}
use mathlib.Core.List.{List, [], ◌∷◌, ◌++◌}
use Prim.Native.Nat.{ℕ, ◌≤◌, ◌<◌}
use native.Mathlib.Omega.{arith}
use lib.ListN.{length}
use Rattle.lists.specs.Lists.{Mem}
use Rattle.lists.proofs.Lists.{all_append, all_mem, here, mem_left, mem_right, there}
use Rattle.polygon.specs.Polygon.{Edge, Polygon, Valid, Diagonal}
use Rattle.polygon.specs.Order.{lower_first}
use Rattle.codec.specs.Answer.{refuse}
use Rattle.codec.specs.TwoOutputs.{refuse_both, write_both, BothAnswer, written_both}
use Rattle.codec.specs.Refusals.{RefusesBoth, number_both, writes_both, BothSettled}
use Rattle.codec.proofs.Refusals.{settled_both}
use Rattle.codec.proofs.TwoOutputs.{both_is}
use Rattle.sheet.specs.Sheet.{Reading, refused, held, ask, longest, read_sheet, normal_sheet, outcome}
use Rattle.sheet.specs.Refusals.{sheet_tests, RefusedBy, by, holds}
use Rattle.sheet.proofs.Asks.{ask_no, ask_yes}
use Rattle.sheet.proofs.Refusals.{ask_refuses, read_refuses, tests_proper}
use Rattle.sheet.proofs.Size.{normal_size}
use Rattle.sheet.proofs.Valid.{read_valid}
use Rattle.edit.specs.Rules.{flip, rule}
use Rattle.edit.specs.Calls.{on_held, edited}
use Rattle.edit.proofs.Reading.{either_order, either_way}
use Rattle.edit.proofs.Rule.{ask_cases}
use Rattle.edit.proofs.Refusals.{held_refuses, refused_among, rule_proper}
use Rattle.cut.specs.Cut.{inner_part, rest_part, cuttable, halved, cut_sheet, cut_tests}
use Rattle.cut.proofs.Valid.{inner_valid, rest_valid}

-- two rules that ask the same refuse by the same
asks_same : {P Q : Type 0} (i j : ℕ) (d : Dec P) (e : Dec Q) (p q : Polygon) (k : ℕ) → (ask i d (ask j e (held p)) ≡ refused k) ↔ (ask i d (ask j e (held q)) ≡ refused k)
unfolding ask
asks_same i j (no f) e p q k = (λ h. h, λ h. h)
asks_same i j (yes x) (no f) p q k = (λ h. h, λ h. h)
asks_same i j (yes x) (yes y) p q k = (λ h. absurd (let z : ◌≡◌ {A = ℕ} 0 1 = cc in omega arith), λ h. absurd (let z : ◌≡◌ {A = ℕ} 0 1 = cc in omega arith))

-- what the rule asks, what it refuses by else, and that it holds the part
module _ (a b : ℕ) (p : Polygon) where
  pub cut_outside : ¬ ((a < p.n) × (b < p.n)) → cuttable a b p ≡ refused 9
  unfolding cuttable
  cut_outside f = ask_no 9 _ _ f

  pub cut_lacks : (a < p.n) × (b < p.n) → ¬ Mem (lower_first (a, b)) p.ds → cuttable a b p ≡ refused 13
  unfolding cuttable
  cut_lacks h f = ask_yes 9 _ _ h ∙ ask_no 13 _ _ f

  pub cut_holds : (a < p.n) × (b < p.n) → Mem (lower_first (a, b)) p.ds → cuttable a b p ≡ held p
  unfolding cuttable
  cut_holds h m = ask_yes 9 _ _ h ∙ ask_yes 13 _ _ m

  pub cut_either : cuttable a b p ≡ cuttable b a p
  unfolding cuttable
  cut_either = rw (either_order a b) (either_way a b p.n _)

  abbrev Ruled : Reading → Type 0
  Ruled (refused k) = Unit {0}
  Ruled (held q) = Mem (lower_first (a, b)) p.ds × (q ≡ p)

  ruled : Ruled (cuttable a b p)
  unfolding cuttable
  ruled = ask_cases Ruled 9 _ _ (λ f. tt) (λ h. ask_cases Ruled 13 _ _ (λ f. tt) (λ m. (m, refl)))

  pub cut_held : {q : Polygon} → cuttable a b p ≡ held q → Mem (lower_first (a, b)) p.ds × (q ≡ p)
  cut_held e = rw e at ruled

  cut_refuses : RefusedBy cut_tests (cuttable a b p)
  unfolding cuttable
  cut_refuses = ask_refuses 9 _ here (ask_refuses 13 _ (there here) holds)

  -- "Refusals are those of turning a diagonal"
  as_flip : (k : ℕ) → (cuttable a b p ≡ refused k) ↔ (rule (flip a b) p ≡ refused k)
  unfolding cuttable rule
  as_flip k = asks_same 9 13 _ _ p _ k

-- a diagonal's corners are corners
pub corners_below : {p : Polygon} → Valid p → (a b : ℕ) → Mem (lower_first (a, b)) p.ds → (a < p.n) × (b < p.n)
unfolding lower_first
corners_below P a b m = let D : Diagonal _ _ = all_mem P.triangulated.diagonals m in (omega (arith, D.forth, D.corner), omega (arith, D.forth, D.corner))

-- a reading that is refused, and no other, is answered by its number
halved_by : (c : Edge) (r : Reading) (k : ℕ) → (halved c r ≡ refuse_both k) ↔ (r ≡ refused k)
unfolding halved
halved_by c (refused j) k = (λ e. (let z : j ≡ k = cc in ap refused z), λ e. (let z : j ≡ k = cc in ap refuse_both z))
halved_by c (held p) k = (λ e. absurd (let z : ◌≡◌ {A = ℕ} 0 1 = cc in omega arith), λ e. absurd (let z : ◌≡◌ {A = ℕ} 0 1 = cc in omega arith))

outcome_by : (r : Reading) (k : ℕ) → (outcome r ≡ refuse k) ↔ (r ≡ refused k)
unfolding outcome
outcome_by (refused j) k = (λ e. (let z : j ≡ k = cc in ap refused z), λ e. (let z : j ≡ k = cc in ap refuse z))
outcome_by (held p) k = (λ e. absurd (let z : ◌≡◌ {A = ℕ} 0 1 = cc in omega arith), λ e. absurd (let z : ◌≡◌ {A = ℕ} 0 1 = cc in omega arith))

halved_wrote : (c : Edge) (r : Reading) {t u : List ℕ} → halved c r ≡ write_both t u
    → (p : Polygon) × (r ≡ held p) × (normal_sheet (inner_part c p) ≡ t) × (normal_sheet (rest_part c p) ≡ u)
unfolding halved
halved_wrote c (refused k) e = absurd (let z : ◌≡◌ {A = ℕ} 0 1 = cc in omega arith)
halved_wrote c (held p) e = (p, refl, cc, cc)

was_held : (r : Reading) {f : Polygon → Reading} {q : Polygon} → on_held r f ≡ held q → (p : Polygon) × (r ≡ held p) × (f p ≡ held q)
unfolding on_held
was_held (refused k) e = absurd (let z : ◌≡◌ {A = ℕ} 0 1 = cc in omega arith)
was_held (held p) e = (p, refl, e)

halved_refuses : {ks : List ℕ} (c : Edge) {r : Reading} → RefusedBy ks r → RefusesBoth ks (halved c r)
unfolding halved
halved_refuses c (by m) = number_both m
halved_refuses c holds = writes_both

-- neither length is over that of the longest sheet
abbrev pub Small : BothAnswer ℕ → Type 0
Small d = (d.answer.size ≤ longest) × (d.count ≤ longest)

small_sizes : (bs xs out ys : List ℕ) → length bs ≤ longest → length xs ≤ longest → Small (written_both (write_both bs xs) out ys)
small_sizes bs xs out ys h k = elim (both_is bs out xs ys) [ inl w ↦ rw w.1 (h, k) | inr w ↦ rw w.1 (omega arith, omega arith) ]

-- the sheet s, and any two numbers
module _ (s : List ℕ) (a b : ℕ) where
  abbrev c : Edge
  c = lower_first (a, b)

  pub cut_settled : (out ys : List ℕ) → BothSettled ((sheet_tests ++ cut_tests) ++ (8 ∷ [])) (cut_sheet s a b) out ys (written_both (cut_sheet s a b) out ys)
  unfolding cut_sheet
  cut_settled out ys =
      settled_both out ys _ (all_append tests_proper (rule_proper (flip a b)))
      (halved_refuses c (held_refuses (refused_among (λ k m. mem_left cut_tests m) (read_refuses s)) (λ p. refused_among (λ k m. mem_right sheet_tests m) (cut_refuses a b p))))

  pub sheet_refused : {k : ℕ} → read_sheet s ≡ refused k → cut_sheet s a b ≡ refuse_both k
  unfolding cut_sheet on_held halved
  sheet_refused e = rw e

  module _ {p : Polygon} (e : read_sheet s ≡ held p) where
    ruled_by : cut_sheet s a b ≡ halved c (cuttable a b p)
    unfolding cut_sheet on_held
    ruled_by = rw e

    pub by_9 : ¬ ((a < p.n) × (b < p.n)) → cut_sheet s a b ≡ refuse_both 9
    unfolding halved
    by_9 f = ruled_by ∙ ap (halved c) (cut_outside a b p f)

    pub by_13 : (a < p.n) × (b < p.n) → ¬ Mem c p.ds → cut_sheet s a b ≡ refuse_both 13
    unfolding halved
    by_13 h f = ruled_by ∙ ap (halved c) (cut_lacks a b p h f)

    pub cut_writes : Mem c p.ds → cut_sheet s a b ≡ write_both (normal_sheet (inner_part c p)) (normal_sheet (rest_part c p))
    unfolding halved
    cut_writes m = ruled_by ∙ ap (halved c) (cut_holds a b p (corners_below (read_valid s p e) a b m) m)

  -- "Refusals are those of turning a diagonal"
  pub refused_as_turning : (k : ℕ) → (cut_sheet s a b ≡ refuse_both k) ↔ (edited (flip a b) s ≡ refuse k)
  unfolding cut_sheet edited on_held
  refused_as_turning k = go (read_sheet s)
    where
      go : (r : Reading) → (halved c (on_held r (cuttable a b)) ≡ refuse_both k) ↔ (outcome (on_held r (rule (flip a b))) ≡ refuse k)
      go (refused j) = (λ e. (outcome_by _ k).1 ((halved_by c _ k).0 e), λ e. (halved_by c _ k).1 ((outcome_by _ k).0 e))
      go (held p) = (λ e. (outcome_by _ k).1 ((as_flip a b p k).0 ((halved_by c _ k).0 e)), λ e. (halved_by c _ k).1 ((as_flip a b p k).1 ((outcome_by _ k).0 e)))

  -- the corners are named in either order
  pub either_named : cut_sheet s a b ≡ cut_sheet s b a
  unfolding cut_sheet on_held
  either_named = ap₂ halved (either_order a b) (go (read_sheet s))
    where
      go : (r : Reading) → on_held r (cuttable a b) ≡ on_held r (cuttable b a)
      go (refused k) = refl
      go (held p) = cut_either a b p

  pub cut_wrote : {t u : List ℕ} → cut_sheet s a b ≡ write_both t u
      → (p : Polygon) × (read_sheet s ≡ held p) × (normal_sheet (inner_part c p) ≡ t) × (normal_sheet (rest_part c p) ≡ u)
  unfolding cut_sheet
  cut_wrote w =
      let (q, e, n, o) = halved_wrote c _ w in
      let (p, d, f) = was_held (read_sheet s) e in
      let k = (cut_held a b p f).1 in
      (p, d, rw k at n, rw k at o)

  -- what is written to each output is no longer than a sheet
  pub cut_sizes : (out ys : List ℕ) → Small (written_both (cut_sheet s a b) out ys)
  unfolding cut_sheet on_held halved written_both
  cut_sizes out ys = go (read_sheet s) refl
    where
      halves : (p : Polygon) → Valid p → (r : Reading) → cuttable a b p ≡ r → Small (written_both (halved c r) out ys)
      halves p P (refused k) e = (omega arith, omega arith)
      halves p P (held q) e =
          let (m, same) = cut_held a b p e in
          rw same (small_sizes (normal_sheet (inner_part c p)) (normal_sheet (rest_part c p)) out ys (normal_size _ (inner_valid c p P m)) (normal_size _ (rest_valid c p P m)))

      go : (r : Reading) → read_sheet s ≡ r → Small (written_both (halved c (on_held r (cuttable a b))) out ys)
      go (refused k) e = (omega arith, omega arith)
      go (held p) e = halves p (read_valid s p e) (cuttable a b p) refl

-- A corner added in the code's table: renumbered, and the new diagonal put in.
use mathlib.Core.Path.{◌≡◌, refl, ap, ap₂, ◌∙◌}
use mathlib.Core.Logic.{inl}
use mathlib.Core.List.{List, [], ◌∷◌, map}
use Prim.Native.Nat.{ℕ, suc, ◌+◌, ◌-◌, ◌≤◌, ◌<◌}
use native.Mathlib.Decide.{ℕ_discrete}
use native.Mathlib.Omega.{arith}
use native.Mathlib.Numerals.{add-one}
use lib.ListN.{length, take, length-map}
use Rattle.lists.specs.Lists.{Mem}
use Rattle.lists.proofs.Lists.{all_imp, all_mem, all_self, choose_no, choose_yes}
use Rattle.polygon.specs.Polygon.{Edge, ◌—◌, Polygon, Diagonal, Triangulated}
use Rattle.polygon.specs.Order.{Distinct, insert}
use Rattle.polygon.proofs.Sort.{distinct_of}
use Rattle.keys.specs.Keys.{key_of, flat_bend}
use Rattle.keys.specs.Sort.{insert_key, merge}
use Rattle.keys.proofs.Insert.{merge_one}
use Rattle.keys.proofs.Beside.{bend_edges}
use Rattle.sheet.specs.declared.Head.{Head}
use Rattle.sheet.specs.Sheet.{refused}
use Rattle.sheet.specs.Hand.{angles_by, part_of}
use Rattle.sheet.proofs.Asks.{ask_yes, ask_no}
use Rattle.edit.specs.Rules.{add_ear, rule, up, both, entering, ear_added, result}
use Rattle.edit.specs.declared.shift.Shift.TheVariants.{Up}
use Rattle.edit.specs.Tables.{Movable, moved_bend, AllMovable, Whole, whole}
use Rattle.edit.proofs.Rule.{given}
use Rattle.edit.proofs.Add.{moved_ascending, entering_apart}
use Rattle.edit.proofs.InHand.{bends_count, Gives, edited, result_part, keeps_angles, inserted, new_comes}
use Rattle.edit.proofs.Shifting.{up_one, moved_edges, moved_angles}

-- the pair that enters
pub entering_root : (n i : ℕ) → i + 1 ≡ n → entering n i ≡ 0 — i
unfolding entering
entering_root n i e = choose_yes (ℕ_discrete (suc i) n) _ (omega arith)

pub entering_side : (n i : ℕ) → ¬ (i + 1 ≡ n) → entering n i ≡ i — (i + 2)
unfolding entering
entering_side n i f = choose_no (ℕ_discrete (suc i) n) _ (λ e. f (omega arith))

entering_low : (n i : ℕ) → i < n → n ≤ 1023 → (entering n i).1 < 1024
entering_low n i h k = go (ℕ_discrete (i + 1) n)
  where
    go : Dec (i + 1 ≡ n) → (entering n i).1 < 1024
    go (yes e) = rw (entering_root n i e) (omega arith)
    go (no e) = rw (entering_side n i e) (omega arith)

module _ (p : Polygon) (i : ℕ) where
  pub add_outside : ¬ (i < p.n) → rule (add_ear i) p ≡ refused 9
  unfolding rule
  add_outside f = ask_no 9 _ _ f

  pub add_full : i < p.n → p.n ≡ 1024 → rule (add_ear i) p ≡ refused 10
  unfolding rule
  add_full inside e = ask_yes 9 _ _ inside ∙ ask_no 10 _ _ (λ f. f e)

module _ {p : Polygon} {h : Head} {bs : List ℕ} (H : Whole p h bs) (i : ℕ) (inside : i < h.n) (space : ¬ (h.n ≡ 1024)) where
  small : h.n ≤ 1023
  small = omega (arith, H.valid.most, space)

  pub can_rise : AllMovable (Up i 1) bs
  can_rise = all_imp rises H.valid.triangulated.diagonals
    where
      rises : (e : Edge) → Diagonal h.n e → Movable (Up i 1) e.0 × Movable (Up i 1) e.1
      rises e d = ((omega (arith, d.forth, d.corner, small), λ l. omega (arith, d.forth, d.corner, small)), (omega (arith, d.corner, small), λ l. omega (arith, d.corner, small)))

  -- the table `moved` begins with the renumbered bends, and `after` with them and the bend that enters
  module _ (moved : List ℕ) (R : take (length bs) moved ≡ map (moved_bend (Up i 1)) bs)
      {b : ℕ} (E : b ≡ flat_bend (key_of (entering h.n i))) (after : List ℕ) (I : take (1 + length (take (length bs) moved)) after ≡ merge (b ∷ []) (take (length bs) moved)) where
    abbrev risen : List ℕ
    risen = map (moved_bend (Up i 1)) bs

    edges : bend_edges risen ≡ map (both (up i)) (bend_edges bs)
    edges = moved_edges (Up i 1) bs can_rise ∙ rw (up_one i)

    T : Triangulated h.n (bend_edges bs)
    T = H.valid.triangulated

    -- the diagonal that enters is a new one
    fresh : ¬ Mem (entering h.n i) (bend_edges risen)
    fresh m = (all_mem (entering_apart h.n i (bend_edges bs) T inside) (rw edges at m)).other refl

    now_first : take (h.n + 1 - 3) after ≡ insert_key b risen
    now_first =
        let e : h.n + 1 - 3 ≡ 1 + length (take (length bs) moved) = omega (arith, H.valid.least, ap length R, length-map bs (moved_bend (Up i 1)), bends_count H) in
        ap (λ (k : ℕ). take k after) e ∙ (I ∙ (merge_one b (take (length bs) moved) ∙ ap (insert_key b) R))

    low : (entering h.n i).1 < 1024
    low = entering_low h.n i inside small

    all_edges : bend_edges (insert_key b risen) ≡ ear_added h.n i (bend_edges bs)
    unfolding ear_added
    all_edges = inserted b (entering h.n i) risen E low fresh ∙ ap (insert (entering h.n i)) edges

    part : part_of (record { n = h.n + 1; angled = h.angled }) after ≡ given (add_ear i) (whole h bs)
    part =
        let apart : Distinct (bend_edges risen) = rw edges (distinct_of (moved_ascending h.n i (bend_edges bs) T inside)) in
        let comes = new_comes b (entering h.n i) risen E low fresh fresh (all_imp (λ c m. inl m) (all_self risen)) in
        let over : 3 < suc h.n = omega (arith, H.valid.least) in
        let first_so : take (suc h.n - 3) after ≡ insert_key b risen = rw (add-one h.n) at now_first in
        result_part h.angled (suc h.n) risen (insert_key b risen) bs (moved_angles (Up i 1) bs) apart comes after (add-one h.n) (keeps_angles h.angled (suc h.n) over) first_so
        ∙ ap₂ (λ (es ds : List Edge). result (suc h.n) es (angles_by h.angled bs) ds) edges all_edges

    pub added : Gives (rule (add_ear i) p) (part_of (record { n = h.n + 1; angled = h.angled }) after)
    added = edited (add_ear i) H (inside, space) part

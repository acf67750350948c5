-- A corner taken off in the code's table: the ear's diagonal taken out, and the rest renumbered.
use mathlib.Core.Path.{◌≡◌, refl, ap, ap₂, ◌∙◌}
use mathlib.Core.Logic.{inl}
use mathlib.Core.Bool.{Bool, ◌&&◌}
use mathlib.Core.List.{List, map}
use Prim.Native.Nat.{ℕ, ◌-◌, ◌<◌}
use native.Mathlib.Omega.{arith}
use Rattle.std.proofs.lemmas.Bool.Decides.{nat_tests}
use lib.Dec.{ltb}
use lib.ListN.{length, take}
use Rattle.lists.specs.Lists.{All, Mem}
use Rattle.lists.proofs.Lists.{all_imp, all_map, all_of, mem_map}
use Rattle.polygon.specs.Polygon.{Edge, Polygon}
use Rattle.polygon.specs.Order.{Distinct}
use Rattle.polygon.proofs.Order.{remove_all}
use Rattle.polygon.proofs.Sort.{distinct_of}
use Rattle.keys.specs.Keys.{key_of}
use Rattle.keys.specs.Change.{remove_key}
use Rattle.keys.proofs.Beside.{bend_edges}
use Rattle.sheet.specs.declared.Head.{Head}
use Rattle.sheet.specs.Sheet.{refused}
use Rattle.sheet.specs.Hand.{angles_by, part_of}
use Rattle.sheet.proofs.Asks.{ask_yes, ask_no}
use Rattle.edit.specs.Rules.{remove_ear, rule, down, both, neighbours, Away, ear_removed, result}
use Rattle.edit.specs.declared.shift.Shift.TheVariants.{Down}
use Rattle.edit.specs.Tables.{Movable, moved_bend, AllMovable, moved, Whole, whole}
use Rattle.edit.proofs.Rule.{Takes}
use Rattle.edit.proofs.Renumber.{down_mono, renumbered_ascending}
use Rattle.edit.proofs.Remove.{ear_diagonal}
use Rattle.edit.proofs.InHand.{Gives, edited, result_part, Without, taken_out}
use Rattle.edit.proofs.Shifting.{moved_edges, moved_angles}

-- functions of some of the bends are among those of all
all_mapped : (f : ℕ → ℕ) {xs ys : List ℕ} → All (λ x. Mem x ys) xs → All (λ y. Mem y (map f ys)) (map f xs)
all_mapped f a = all_map f (all_imp (λ x m. mem_map f m) a)

module _ (p : Polygon) (c : ℕ) where
  pub remove_outside : ¬ (c < p.n) → rule (remove_ear c) p ≡ refused 9
  unfolding rule
  remove_outside f = ask_no 9 _ _ f

  module _ (inside : c < p.n) where
    pub remove_triangle : p.n ≡ 3 → rule (remove_ear c) p ≡ refused 11
    unfolding rule
    remove_triangle e = ask_yes 9 _ _ inside ∙ ask_no 11 _ _ (λ f. f e)

    pub remove_no_ear : ¬ (p.n ≡ 3) → ¬ All (Away c) p.ds → rule (remove_ear c) p ≡ refused 12
    unfolding rule
    remove_no_ear big f = ask_yes 9 _ _ inside ∙ (ask_yes 11 _ _ big ∙ ask_no 12 _ _ f)

-- a corner that can be taken off
module _ {p : Polygon} {h : Head} {bs : List ℕ} (H : Whole p h bs) (c : ℕ) (t : Takes (remove_ear c) (whole h bs)) where
  pub ear_out : {ends : Edge} {k : ℕ} → ends ≡ neighbours h.n c → k ≡ key_of ends → {rest : List ℕ}
      → rest ≡ remove_key k bs → Without h bs (neighbours h.n c) rest
  ear_out E K = taken_out H (neighbours h.n c) (ear_diagonal (whole h bs) c H.valid t) (K ∙ ap key_of E)

  -- all bends under their new numbers: the ear's diagonal has become a side
  falls : All (λ e. Movable (Down c 1) e.0 × Movable (Down c 1) e.1) (bend_edges bs)
  falls = all_imp (λ e d. ((omega (arith, d.forth, d.corner, H.valid.most), λ l. omega arith), (omega (arith, d.corner, H.valid.most), λ l. omega arith))) H.valid.triangulated.diagonals

  abbrev fallen : List ℕ
  fallen = map (moved_bend (Down c 1)) bs

  edges : bend_edges fallen ≡ map (both (down c)) (bend_edges bs)
  unfolding down
  edges = moved_edges (Down c 1) bs falls

  apart : Distinct (bend_edges fallen)
  apart = rw edges (distinct_of (renumbered_ascending _ (down c) (down_mono c) t.2 H.valid.triangulated.ascending))

  module _ {rest : List ℕ} (W : Without h bs (neighbours h.n c) rest) where
    pub can_fall : AllMovable (Down c 1) rest
    can_fall = rw W.left (remove_all (neighbours h.n c) falls)

    new_edges : bend_edges (map (moved_bend (Down c 1)) rest) ≡ ear_removed h.n c (bend_edges bs)
    unfolding ear_removed down
    new_edges = moved_edges (Down c 1) rest can_fall ∙ ap (map (both (moved (Down c 1)))) W.left

    pub shrunk : (after : List ℕ) → take (length rest) after ≡ map (moved_bend (Down c 1)) rest → {angled : Bool} → angled ≡ (h.angled && ltb 3 (h.n - 1))
        → Gives (rule (remove_ear c) p) (part_of (record { n = h.n - 1; angled = angled }) after)
    shrunk after S a =
        let e : h.n - 1 - 3 ≡ length rest = omega (arith, W.size) in
        let comes = all_imp (λ x m. inl m) (all_mapped (moved_bend (Down c 1)) (all_of rest W.kept)) in
        edited (remove_ear c) H t
        (result_part h.angled (h.n - 1) fallen (map (moved_bend (Down c 1)) rest) bs (moved_angles (Down c 1) bs) apart comes after refl a (ap (λ (k : ℕ). take k after) e ∙ S)
        ∙ ap₂ (λ (es ds : List Edge). result (h.n - 1) es (angles_by h.angled bs) ds) edges new_edges)

-- without the ear a square has become a triangle
pub ear_angles : (n : ℕ) → ltb 4 n ≡ ltb 3 (n - 1)
ear_angles n = grind (arith, nat_tests)

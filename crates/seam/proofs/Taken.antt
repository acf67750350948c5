-- The bends of a half, and the part that joining gives.
use mathlib.Core.Path.{◌≡◌, refl, ap, sym, ◌∙◌}
use mathlib.Core.Bool.{Bool, false, ◌||◌, false≢true}
use mathlib.Core.List.{List, map}
use Prim.Native.Nat.{ℕ, ◌+◌, ◌-◌}
use native.Mathlib.Omega.{arith}
use lib.ListN.{take}
use Rattle.lists.proofs.Lists.{all_map, all_of}
use Rattle.polygon.specs.Angles.{Angles, none, each}
use Rattle.polygon.specs.Polygon.{Polygon, Valid}
use Rattle.keys.specs.Keys.{edges_of, flat_bend}
use Rattle.keys.specs.Sort.{sort_keys}
use Rattle.sheet.specs.declared.Head.{Head}
use Rattle.sheet.specs.Sheet.{held}
use Rattle.sheet.specs.Hand.{part_of, has_angles, head_of}
use Rattle.sheet.proofs.Hand.{flat_keys}
use Rattle.edit.specs.Tables.{whole}
use Rattle.edit.proofs.InHand.{Gives}
use Rattle.seam.specs.Join.{join_rule}
use Rattle.seam.specs.Halves.{Half, Joins, glued_bends}
use Rattle.seam.proofs.Grafted.{glued_valid}
use Rattle.seam.proofs.Answers.{join_gives}
use Rattle.seam.proofs.Sewn.{glued_part}

-- a half without: its keys, with the angle 0 at each
no_angles : (a : Angles) → has_angles a ≡ false → none ≡ a
no_angles none e = refl
no_angles (each vs) e = absurd (false≢true (sym e))

pub flat_half : {p : Polygon} (ks : List ℕ) → Valid p → has_angles p.angles ≡ false → edges_of ks ≡ p.ds → Half p (head_of p) (map flat_bend ks)
flat_half {p} ks V a same =
    let e : p ≡ whole (head_of p) (map flat_bend ks) = rw a (λ i. record { n = p.n; ds = sym (ap edges_of (flat_keys ks) ∙ same) i; angles = sym (no_angles p.angles a) i }) in
    record { part = record { same = e; valid = rw e at V }; flat = λ f. all_map flat_bend (all_of ks (λ k m. omega arith)) }

-- by the head as the code has it
pub by_head : {p : Polygon} {h : Head} (bs : List ℕ) → h.n ≡ p.n → h.angled ≡ has_angles p.angles → Half p (head_of p) (take (p.n - 3) bs) → Half p h (take (h.n - 3) bs)
by_head {p} {h} bs n a H = let e : h ≡ head_of p = λ i. record { n = n i; angled = a i } in rw e H

-- Two halves, the second on side i.
module _ {p q : Polygon} {h g : Head} {bs cs : List ℕ} (P : Half p h bs) (Q : Half q g cs) (i : ℕ) where
  -- the table `after` begins with the bends of both, in order
  pub join_taken : Joins i h.n g.n → {a : Bool} → a ≡ (h.angled || g.angled) → (after : List ℕ)
      → take (h.n + g.n - 5) after ≡ sort_keys (glued_bends i g.n bs cs) → Gives (join_rule i p q) (part_of (record { n = h.n + g.n - 2; angled = a }) after)
  join_taken J {a} e after first =
      let l = whole h bs in
      let r = whole g cs in
      let part = ap (λ (b : Bool). part_of (record { n = h.n + g.n - 2; angled = b }) after) e ∙ glued_part P Q i J after first in
      let valid = glued_valid i l r P.part.valid Q.part.valid J.0 J.1 in
      rw (P.part.same, Q.part.same) (record { same = join_gives i l r J ∙ ap held (sym part); valid = rw part valid })

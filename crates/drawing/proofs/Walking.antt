-- Columns and rows in their tables: how those of the pieces beyond a triangle make those of its piece.
-- Rests on Orders.antt and Sets.antt.
use mathlib.Core.Path.{◌≡◌, refl, sym, ◌∙◌, ap}
use mathlib.Core.Bool.{Bool, true, false, true≢false}
use mathlib.Core.List.{List, [], ◌∷◌, ◌++◌, reverse, map-append}
use Prim.Native.Nat.{ℕ, suc, ◌+◌, ◌-◌, ◌≤◌}
use native.Mathlib.Nat.{add-zero}
use native.Mathlib.Decide.{dec_le}
use native.Mathlib.Omega.{arith}
use borrow.Rule.Slice.PartMut.{put_mid}
use lib.ListN.{length, set, take, drop, length-append, length-reverse}
use lib.Seq.{sets}
use Rattle.lists.specs.Lists.{all_cons, all_nil, choose}
use Rattle.lists.proofs.Lists.{all_append, all_reverse, map_reverse}
use Rattle.lists.proofs.Stores.{sets_append, sets_comm, sets_set}
use Rattle.polygon.specs.Polygon.{Edge}
use Rattle.polygon.specs.Tree.{Tree, leaf, node, span}
use Rattle.umbrella.specs.declared.roles.Role.{Role}
use Rattle.umbrella.specs.declared.roles.Role.TheVariants.{Hung, LeftRim, RightRim, FromLeft, FromRight}
use Rattle.umbrella.specs.declared.roles.Step.{Step}
use Rattle.umbrella.specs.Roles.{from_right, is_hung, left_step, right_step, goes_left, stem_step, step_at, step_of}
use Rattle.tree.specs.Table.{edge_at}
use Rattle.drawing.specs.declared.lines.Line.{Line}
use Rattle.drawing.specs.Lines.{aside, lines_of, ranks}
use Rattle.drawing.specs.Walk.{differ, beside_line, HoldsEdge, Noted}
use Rattle.drawing.proofs.OnLines.{own_ranks}
use Rattle.drawing.proofs.Sets.{turned_run}

module _ {tr : List ℕ} where
  pub none : (at : ℕ) (o : List ℕ) → Noted tr [] at o o at
  none at o = record { places = []; are = refl; held = all_nil; outs = refl; end = sym (add-zero at) }

  pub one : (f : Edge) (e at : ℕ) (o : List ℕ) → edge_at tr e ≡ f → HoldsEdge tr e → Noted tr (f ∷ []) at o (set o at e) (at + 1)
  one f e at o p h = record { places = e ∷ []; are = rw p; held = all_cons h all_nil; outs = refl; end = refl }

  pub seq : {xs ys : List Edge} {at n m : ℕ} {o o₁ o₂ : List ℕ} → Noted tr xs at o o₁ n → Noted tr ys n o₁ o₂ m → Noted tr (xs ++ ys) at o o₂ m
  seq {at = at} {o = o} d f = record {
    places = d.places ++ f.places;
    are = map-append (edge_at tr) d.places f.places ∙ rw (d.are, f.are);
    held = all_append d.held f.held;
    outs = f.outs ∙ (rw (d.outs, d.end) (sym (sets_append d.places f.places o at)));
    end = f.end ∙ rw (d.end, length-append d.places f.places) (omega arith);
  }

  pub same : {xs ys : List Edge} {at n : ℕ} {o o₁ : List ℕ} → xs ≡ ys → Noted tr xs at o o₁ n → Noted tr ys at o o₁ n
  same p d = rw p at d

  -- put in the opposite order by `reverse` of the part of the table
  pub turned : {es : List Edge} {at n : ℕ} {o o₁ run : List ℕ} → n ≤ length o → Noted tr es at o o₁ n → run ≡ reverse (take (n - at) (drop at o₁)) → Noted tr (reverse es) at o (put_mid at (n - at) o₁ run) n
  turned {at = at} {n} {o} {o₁} {run} h d q = record {
    places = reverse d.places;
    are = map_reverse (edge_at tr) d.places ∙ ap reverse d.are;
    held = all_reverse d.held;
    outs = rw d.outs (turned_run d.places o run at n d.end h (rw d.outs at q));
    end = d.end ∙ ap (at +◌) (sym (length-reverse d.places));
  }

-- the row of the third corner, and the rows inside the two pieces in either order
module _ (u c v : ℕ) (xs ys o : List ℕ) (middle : u + 1 + length xs ≡ c) where
  pub left_then_right : sets (sets (set o c v) (u + 1) xs) (c + 1) ys ≡ sets o (u + 1) (xs ++ (v ∷ ys))
  left_then_right =
      let i : c + 1 ≡ suc c = omega arith in
      let a : sets (sets (set o c v) (u + 1) xs) (suc c) ys ≡ sets (set (sets o (u + 1) xs) c v) (suc c) ys = ap (λ (l : List ℕ). sets l (suc c) ys) (sym (sets_set xs o (u + 1) c v (λ h k. omega arith))) in
      let b : sets o (u + 1) (xs ++ (v ∷ ys)) ≡ sets (set (sets o (u + 1) xs) c v) (suc c) ys = sets_append xs (v ∷ ys) o (u + 1) ∙ rw middle in
      rw i (a ∙ sym b)

  pub right_then_left : sets (sets (set o c v) (c + 1) ys) (u + 1) xs ≡ sets o (u + 1) (xs ++ (v ∷ ys))
  right_then_left = sets_comm xs ys (set o c v) (u + 1) (c + 1) (omega arith) ∙ left_then_right

-- the rows of a rim or a stem: the piece that it goes on to lies on the far line, the one beside it on the line m
abbrev pub RanksBy : Bool → (far m near : Line) → ℕ → Step → Tree → Tree → List ℕ
RanksBy true far m near d s l r = ranks s.left d far near l ++ (m.base ∷ ranks s.right d m near r)
RanksBy false far m near d s l r = ranks s.left d m near l ++ (m.base ∷ ranks s.right d far near r)

by_aside : (k x : Bool) (d : ℕ) (far near : Line) (s : Step) (l r : Tree) → let q = aside k x d far near in
    ranks s.left q.d q.left q.near l ++ (q.middle ∷ ranks s.right q.d q.right q.near r) ≡ RanksBy (differ k x) far (beside_line x far near) near d s l r
unfolding aside
by_aside false false d far near s l r = refl
by_aside false true d far near s l r = refl
by_aside true false d far near s l r = refl
by_aside true true d far near s l r = refl

pub ranks_by : (p : Role) (d : ℕ) (far near : Line) (l r : Tree) → is_hung p ≡ false → let s = step_of p d l r in
    ranks p d far near (node l r) ≡ RanksBy (differ (from_right p) s.crossed) far (beside_line s.crossed far near) near d s l r
ranks_by p d far near l r h = let s = step_of p d l r in own_ranks d far near l r p s h refl ∙ by_aside (from_right p) s.crossed d far near s l r

-- one row less than sides
pub ranks_length : (t : Tree) (p : Role) (d : ℕ) (far near : Line) → suc (length (ranks p d far near t)) ≡ span t
unfolding ranks span
ranks_length leaf p d far near = refl
ranks_length (node l r) p d far near =
    let s = step_of p d l r in
    let q = lines_of p d far near l r in
    let xs : List ℕ = ranks s.left q.d q.left q.near l in
    let ys : List ℕ = ranks s.right q.d q.right q.near r in
    omega (arith, length-append xs (q.middle ∷ ys), ranks_length l s.left q.d q.left q.near, ranks_length r s.right q.d q.right q.near)

-- the role of the piece that a rim or a stem goes on to
abbrev pub on_role : Bool → Step → Role
on_role true s = s.left
on_role false s = s.right

pub record OnRole (p q : Role) : Type 0 where
  pub not_hung : is_hung q ≡ false
  pub same_side : from_right q ≡ from_right p

pub on_role_lem : (p : Role) (d a b h : ℕ) → is_hung p ≡ false → let s = step_at p d a b h in OnRole p (on_role (differ (from_right p) s.crossed) s)
unfolding step_at left_step right_step stem_step choose
on_role_lem Hung d a b h e = absurd (true≢false e)
on_role_lem LeftRim d a b h e = go (dec_le b d)
  where
    go : (x : Dec (b ≤ d)) → let s : Step = choose x (record { left = LeftRim; right = Hung; crossed = false }) (record { left = LeftRim; right = FromRight; crossed = true }) in OnRole LeftRim (on_role (differ true s.crossed) s)
    go (yes x) = record { not_hung = refl; same_side = refl }
    go (no x) = record { not_hung = refl; same_side = refl }
on_role_lem RightRim d a b h e = go (dec_le a d)
  where
    go : (x : Dec (a ≤ d)) → let s : Step = choose x (record { left = Hung; right = RightRim; crossed = false }) (record { left = FromLeft; right = RightRim; crossed = true }) in OnRole RightRim (on_role (differ false s.crossed) s)
    go (yes x) = record { not_hung = refl; same_side = refl }
    go (no x) = record { not_hung = refl; same_side = refl }
on_role_lem FromLeft d a b h e = go (goes_left false d a b h)
  where
    go : (x : Bool) → let s = stem_step FromLeft false x in OnRole FromLeft (on_role (differ false s.crossed) s)
    go true = record { not_hung = refl; same_side = refl }
    go false = record { not_hung = refl; same_side = refl }
on_role_lem FromRight d a b h e = go (goes_left true d a b h)
  where
    go : (x : Bool) → let s = stem_step FromRight true x in OnRole FromRight (on_role (differ true s.crossed) s)
    go true = record { not_hung = refl; same_side = refl }
    go false = record { not_hung = refl; same_side = refl }

-- The way down into the larger parts: what the loop keeps, and one turn of it.
-- Rests on Passing.antt.
use mathlib.Core.Path.{◌≡◌, refl, ◌∙◌}
use mathlib.Core.Logic.{◌⊎◌, inl, inr}
use mathlib.Core.List.{List}
use Prim.Native.Nat.{ℕ, suc, ◌+◌, ◌-◌, ◌<◌, ◌≤◌}
use native.Mathlib.Omega.{arith}
use lib.ListN.{length, get_or, set}
use lib.Seq.{get_or-set_same, get_or-set_other}
use Rattle.polygon.specs.Tree.{Tree, node}
use Rattle.tree.specs.declared.Root.{Root}
use Rattle.tree.specs.declared.Two.{Two}
use Rattle.tree.specs.Table.{TreeAt, beyond}
use Rattle.tree.proofs.Pieces.{Parts, opened}
use Rattle.levels.specs.Kept.{Deep, Grows, Leaves, Passed, begun, left, right}
use Rattle.levels.proofs.Storing.{grows_on, grows_self, leaves_grow}
use Rattle.levels.proofs.Passing.{passed_grows}

-- from the piece p the piece x is reached, after k places of the path
pub record Descending (tr ds₀ path₀ : List ℕ) (from : ℕ) (p : Root) (ds path : List ℕ) (x : Root) (k : ℕ) : Type 0 where
  pub t₀ : Tree
  pub t : Tree
  pub whole : TreeAt tr p.e p.u p.v t₀
  pub shows : TreeAt tr x.e x.u x.v t
  pub passed : Passed tr ds path from p.e t₀ k x.e t
  pub grows : Grows tr ds₀ ds
  pub leaves : Leaves tr ds
  pub kept : (j : ℕ) → j < from → get_or path j 0 ≡ get_or path₀ j 0
  pub room : length ds ≡ 12270
  pub path_room : length path ≡ 1024
  pub started : from ≤ k
  pub fits : k + (x.v - x.u) ≤ from + (p.v - p.u)

pub descending_begins : (tr ds path : List ℕ) (from : ℕ) (p : Root) (t : Tree) → TreeAt tr p.e p.u p.v t → Leaves tr ds → length ds ≡ 12270 → length path ≡ 1024 → Descending tr ds path from p ds path p from
descending_begins tr ds path from p t s l h i = record {
  t₀ = t;
  t = t;
  whole = s;
  shows = s;
  passed = begun refl refl refl;
  grows = grows_self;
  leaves = l;
  kept = λ j k. refl;
  room = h;
  path_room = i;
  started = omega arith;
  fits = omega arith;
}

-- the tables after the smaller part y, with the tree s, has its values; k places of the path are taken
pub record Dealt (tr ds path ds' path' : List ℕ) (k : ℕ) (y : Root) (s : Tree) : Type 0 where
  pub grows : Grows tr ds ds'
  pub deep : Deep tr ds' y.e s
  pub kept : (j : ℕ) → j < k → get_or path' j 0 ≡ get_or path j 0
  pub room : length ds' ≡ 12270
  pub path_room : length path' ≡ 1024

-- the two parts of the piece reached, the one to be gone into second
pub record Halves (tr ds₀ path₀ : List ℕ) (from : ℕ) (p : Root) (ds path : List ℕ) (x : Root) (k : ℕ) (b : Two) : Type 0 where
  pub small : Tree
  pub large : Tree
  pub shows_small : TreeAt tr b.left.e b.left.u b.left.v small
  pub shows_large : TreeAt tr b.right.e b.right.u b.right.v large
  pub wide_small : b.left.u < b.left.v
  pub wide_large : b.right.u < b.right.v
  pub both : (b.left.v - b.left.u) + (b.right.v - b.right.u) ≡ x.v - x.u
  pub on : (ds' path' : List ℕ) → Dealt tr ds (set path k x.e) ds' path' (k + 1) b.left small → Descending tr ds₀ path₀ from p ds' path' b.right (k + 1)

module _ {tr ds₀ path₀ : List ℕ} {from : ℕ} {p : Root} {ds path : List ℕ} {x : Root} {k : ℕ} (D : Descending tr ds₀ path₀ from p ds path x k) (apart : x.u + 1 < x.v) (fits : from + (p.v - p.u) ≤ 1024) where
  d : Parts tr x.e x.u x.v D.t
  d = opened D.shows apart

  -- the way further down, when the smaller part has its values
  module _ {ds' path' : List ℕ} {y : Root} {s : Tree} (S : Dealt tr ds (set path k x.e) ds' path' (k + 1) y s) where
    at_x : get_or path' k 0 ≡ x.e
    at_x = S.kept k (omega arith) ∙ get_or-set_same path k x.e 0 (omega (arith, D.path_room, D.fits))

    before : (j : ℕ) → j < k → get_or path' j 0 ≡ get_or path j 0
    before j h = S.kept j (omega arith) ∙ get_or-set_other path k j x.e 0 (λ e. omega arith)

    down : (z : Root) (t : Tree) → TreeAt tr z.e z.u z.v t → Passed tr ds' path' from p.e D.t₀ (k + 1) z.e t → (z.v - z.u) + 1 ≤ x.v - x.u → Descending tr ds₀ path₀ from p ds' path' z (k + 1)
    down z t a b w = record {
      t₀ = D.t₀;
      t = t;
      whole = D.whole;
      shows = a;
      passed = b;
      grows = grows_on D.grows S.grows;
      leaves = leaves_grow S.grows D.leaves;
      kept = λ j h. before j (omega (arith, D.started)) ∙ D.kept j h;
      room = S.room;
      path_room = S.path_room;
      started = omega (arith, D.started);
      fits = omega (arith, D.fits);
    }

    passed_on : Passed tr ds' path' from p.e D.t₀ k x.e (node d.l d.r)
    passed_on = passed_grows S.grows before (rw d.is at D.passed)

    shows_on : TreeAt tr x.e x.u x.v (node d.l d.r)
    shows_on = rw d.is at D.shows

    next : k + 1 ≡ suc k
    next = omega arith

  pub halves : (t b : Two) → t ≡ beyond tr x → (b ≡ t) ⊎ (b ≡ record { left = t.right; right = t.left }) → Halves tr ds₀ path₀ from p ds path x k b
  halves t b e (inl q) = rw (q, e) (record {
    small = d.l;
    large = d.r;
    shows_small = d.shows_l;
    shows_large = d.shows_r;
    wide_small = omega (arith, d);
    wide_large = omega (arith, d);
    both = omega (arith, d);
    on = λ ds' path' S. down S (beyond tr x).right d.r d.shows_r (right (next S) (passed_on S) (shows_on S) (at_x S) S.deep) (omega (arith, d));
  })
  halves t b e (inr q) = rw (q, e) (record {
    small = d.r;
    large = d.l;
    shows_small = d.shows_r;
    shows_large = d.shows_l;
    wide_small = omega (arith, d);
    wide_large = omega (arith, d);
    both = omega (arith, d);
    on = λ ds' path' S. down S (beyond tr x).left d.l d.shows_l (left (next S) (passed_on S) (shows_on S) (at_x S) S.deep) (omega (arith, d));
  })

-- Laws of the counts as the code meets them: that they are small, what a triangle adds, and one turn of the loop.
-- Rests on Counted.antt, and on what the crates tree and levels show of their tables.
use mathlib.Core.Path.{◌≡◌, refl, ◌∙◌, ap, ap₂}
use mathlib.Core.Logic.{◌⊎◌, inl, inr}
use mathlib.Core.Bool.{Bool, true, false}
use mathlib.Core.List.{List}
use Prim.Native.Nat.{ℕ, ◌+◌, ◌-◌, ◌≤◌, ◌<◌, min, max}
use native.Mathlib.Omega.{arith}
use Rattle.std.specs.Prelude.{Some, None}
use Rattle.std.proofs.lemmas.Option.{MatchOption-at_some, MatchOption-at_none}
use Rattle.polygon.specs.Tree.{Tree, leaf, node, span}
use Rattle.umbrella.specs.Values.{ud}
use Rattle.umbrella.specs.declared.roles.Role.{Role}
use Rattle.umbrella.specs.declared.roles.Role.TheVariants.{Hung, LeftRim, RightRim, FromLeft, FromRight}
use Rattle.umbrella.specs.declared.roles.Step.{Step}
use Rattle.umbrella.specs.Roles.{step_at, step_of, levels_under}
use Rattle.tree.specs.declared.Root.{Root}
use Rattle.tree.specs.declared.Two.{Two}
use Rattle.tree.specs.Table.{beyond}
use Rattle.tree.proofs.Pieces.{closed, corners, ends, one_piece}
use Rattle.levels.specs.declared.Six.{Six}
use Rattle.levels.specs.Kept.{six, six_at, Tabled}
use Rattle.levels.proofs.Knowing.{TabledParts}
use Rattle.plan.specs.declared.counts.Tally.{Tally}
use Rattle.plan.specs.declared.counts.Spot.{Spot}
use Rattle.plan.specs.declared.counts.Fork.{Fork}
use Rattle.plan.specs.Counts.{adds, at_gate, weight, counted, spot, fork_of, low_fork, ToCount, ForkedInto, Forked}
use Rattle.plan.proofs.Counted.{counted_one_level}

no_gate : (k : Bool) → at_gate 0 k ≡ 0
no_gate true = refl
no_gate false = refl

-- a triangle adds at most one umbrella or one stem
adds_few : (x y : ℕ) (p : Role) (k : Bool) → adds p x (at_gate y k) ≤ x + y
adds_few x y Hung k = omega arith
adds_few x y LeftRim true = omega arith
adds_few x y LeftRim false = omega arith
adds_few x y RightRim true = omega arith
adds_few x y RightRim false = omega arith
adds_few x y FromLeft k = omega arith
adds_few x y FromRight k = omega arith

-- so there are fewer umbrellas, and fewer stems, than sides besides the root edge
few : (x y : ℕ) → x + y ≤ 1 → (t : Tree) (p : Role) (d : ℕ) → weight x y p d t < span t
unfolding weight span
few x y h leaf p d = omega arith
few x y h (node l r) p d =
    let s = step_of p d l r in
    let k : ℕ = levels_under p d (ud (node l r) - 1) in
    omega (arith, adds_few x y p s.crossed, few x y h l s.left k, few x y h r s.right k)

-- a piece beyond a triangle is left to be counted
to_count : {tr ds : List ℕ} {p : Root} {t : Tree} (k : ℕ) (r : Role) → Tabled tr ds p.e p.u p.v t → ToCount tr ds (spot k p r) t
to_count k r K = record { known = λ h. K; none = λ h. closed K.shows h; low = omega (arith, corners K.shows) }

-- or nothing is
pub none_to_count : {tr ds : List ℕ} {x : Spot} {t : Tree} → ToCount tr ds x t → x.piece.v ≤ x.piece.u + 1 → (y z : ℕ) → weight y z x.role x.d t ≡ 0
unfolding weight
none_to_count L h y z = rw (L.none h)

-- the values that the code reads at the triangle of x: its own, and those of the pieces beyond
module _ {tr ds : List ℕ} (x : Spot) {own : Six} {t : Tree} (own_is : own ≡ six_at ds x.piece.e) (K : TabledParts tr ds x.piece.e x.piece.u x.piece.v t) where
  abbrev a : Tree
  a = K.parts.l

  abbrev c : Tree
  c = K.parts.r

  own_six : own ≡ six (node a c)
  own_six = own_is ∙ K.six_t

  own_levels : own.ud ≡ ud (node a c)
  own_levels = ap (λ (z : Six). z.ud) own_six

  -- the counts are those of a triangle's piece
  of_node : (y z : ℕ) → weight y z x.role x.d t ≡ weight y z x.role x.d (node a c)
  of_node y z = ap (weight y z x.role x.d) K.parts.is

  -- an umbrella with one level is counted at once
  pub fork_low : {w : Fork} → own.ud ≡ 1 → x.role ≡ Hung → w ≡ low_fork (min (max own.fan_a own.fan_b) 1) → Forked tr ds x t w
  fork_low z h e = rw (e, own_six) (ap (counted x.role x.d) K.parts.is ∙ rw h (counted_one_level a c x.d (omega (arith, own_levels))))

  -- else the two pieces beyond are left
  module _ {b : Two} {l r : Six} (two_is : b ≡ beyond tr x.piece) (left_is : l ≡ six_at ds b.left.e) (right_is : r ≡ six_at ds b.right.e) where
    l_is : l ≡ six a
    l_is = left_is ∙ (ap (λ (z : Two). six_at ds z.left.e) two_is ∙ K.six_l)

    r_is : r ≡ six c
    r_is = right_is ∙ (ap (λ (z : Two). six_at ds z.right.e) two_is ∙ K.six_r)

    module _ {s : Step} {k : ℕ} (s_is : s ≡ step_at x.role x.d l.ud r.ud l.handle) (k_is : k ≡ levels_under x.role x.d (own.ud - 1)) where
      split : (y z : ℕ) → weight y z x.role x.d t ≡ weight y z s.left k a + weight y z s.right k c + adds x.role y (at_gate z s.crossed)
      unfolding weight
      split y z = of_node y z ∙ rw (s_is, k_is, l_is, r_is, own_levels)

      umbrellas_split : weight 1 0 x.role x.d t ≡ weight 1 0 s.left k a + weight 1 0 s.right k c + adds x.role 1 0
      umbrellas_split = split 1 0 ∙ rw (no_gate s.crossed)

      pub fork_both : {w : Fork} → (w ≡ fork_of x.role s (spot k b.left s.left) (spot k b.right s.right)) ⊎ (w ≡ fork_of x.role s (spot k b.right s.right) (spot k b.left s.left)) → Forked tr ds x t w
      fork_both (inl e) = rw (e, two_is) (record {
        small = a;
        large = c;
        left_small = to_count k s.left K.known_l;
        left_large = to_count k s.right K.known_r;
        less_small = omega (arith, K.parts);
        less_large = omega (arith, K.parts);
        umbrellas_are = omega (arith, umbrellas_split);
        stems_are = omega (arith, split 0 1);
      })
      fork_both (inr e) = rw (e, two_is) (record {
        small = c;
        large = a;
        left_small = to_count k s.right K.known_r;
        left_large = to_count k s.left K.known_l;
        less_small = omega (arith, K.parts);
        less_large = omega (arith, K.parts);
        umbrellas_are = omega (arith, umbrellas_split);
        stems_are = omega (arith, split 0 1);
      })

-- m umbrellas and n stems are counted of the piece begun with, at x₀, and the piece at x is left
pub record Counting (tr ds : List ℕ) (x₀ x : Spot) (m n : ℕ) : Type 0 where
  pub t₀ : Tree
  pub t : Tree
  pub whole : Tabled tr ds x₀.piece.e x₀.piece.u x₀.piece.v t₀
  pub left : ToCount tr ds x t
  pub umbrellas_are : m + weight 1 0 x.role x.d t ≡ weight 1 0 x₀.role x₀.d t₀
  pub stems_are : n + weight 0 1 x.role x.d t ≡ weight 0 1 x₀.role x₀.d t₀
  pub few_umbrellas : weight 1 0 x₀.role x₀.d t₀ < 1024
  pub few_stems : weight 0 1 x₀.role x₀.d t₀ < 1024
  pub narrower : x.piece.v - x.piece.u ≤ x₀.piece.v - x₀.piece.u

pub counting_begins : {tr ds : List ℕ} (x : Spot) {t : Tree} → Tabled tr ds x.piece.e x.piece.u x.piece.v t → Counting tr ds x x 0 0
counting_begins x {t} K = record {
  t₀ = t;
  t = t;
  whole = K;
  left = to_count x.d x.role K;
  umbrellas_are = omega arith;
  stems_are = omega arith;
  few_umbrellas = omega (arith, few 1 0 (omega arith) t x.role x.d, ends K.shows, corners K.shows);
  few_stems = omega (arith, few 0 1 (omega arith) t x.role x.d, ends K.shows, corners K.shows);
  narrower = omega arith;
}

module _ (tr ds : List ℕ) (x : Spot) (t : Tree) (w : Fork) where
  -- where two pieces are left, and where none is
  pub into : Forked tr ds x t w → (y z : Spot) → w.rest ≡ Some (y, z) → ForkedInto tr ds x t w.adds y z
  into F y z e = MatchOption-at_some (counted x.role x.d t ≡ w.adds) (λ (p : Spot × Spot). ForkedInto tr ds x t w.adds p.0 p.1) (y, z) e F

  pub low : Forked tr ds x t w → w.rest ≡ None → counted x.role x.d t ≡ w.adds
  low F e = MatchOption-at_none (counted x.role x.d t ≡ w.adds) (λ (p : Spot × Spot). ForkedInto tr ds x t w.adds p.0 p.1) e F

module _ {tr ds : List ℕ} {x₀ x : Spot} {m n : ℕ} (C : Counting tr ds x₀ x m n) where
  pub counting_on : {adds : Tally} {x' y' : Spot} (T : ForkedInto tr ds x C.t adds x' y') {m' n' : ℕ}
      → (m' ≡ m + adds.umbrellas + weight 1 0 x'.role x'.d T.small) × (n' ≡ n + adds.stems + weight 0 1 x'.role x'.d T.small) → Counting tr ds x₀ y' m' n'
  counting_on T p = record {
    t₀ = C.t₀;
    t = T.large;
    whole = C.whole;
    left = T.left_large;
    umbrellas_are = omega (arith, C.umbrellas_are, T.umbrellas_are);
    stems_are = omega (arith, C.stems_are, T.stems_are);
    few_umbrellas = C.few_umbrellas;
    few_stems = C.few_stems;
    narrower = omega (arith, C.narrower, T.less_large);
  }

  -- at the end nothing is left
  module _ {t : Tree} (K : Tabled tr ds x₀.piece.e x₀.piece.u x₀.piece.v t) where
    pub counting_ends : x.piece.v ≤ x.piece.u + 1 → ◌≡◌ {A = Tally} (record { umbrellas = m; stems = n }) (counted x₀.role x₀.d t)
    unfolding weight
    counting_ends h = rw (one_piece K.shows C.whole.shows, ← C.umbrellas_are, ← C.stems_are, C.left.none h) (ap₂ (λ (y z : ℕ). record { umbrellas = y; stems = z }) (omega arith) (omega arith))

    pub counting_ends_low : {adds : Tally} → counted x.role x.d C.t ≡ adds → ◌≡◌ {A = Tally} (record { umbrellas = m + adds.umbrellas; stems = n + adds.stems }) (counted x₀.role x₀.d t)
    counting_ends_low {adds} e =
        let u = ap (λ (z : Tally). z.umbrellas) e in
        let s = ap (λ (z : Tally). z.stems) e in
        rw (one_piece K.shows C.whole.shows, ← C.umbrellas_are, ← C.stems_are) (ap₂ (λ (y z : ℕ). record { umbrellas = y; stems = z }) (omega arith) (omega arith))

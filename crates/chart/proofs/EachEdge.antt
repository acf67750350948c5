-- The uprights of a piece's columns, its level edges and its root edge are together the edges of the piece, each as often.
-- By recursion on the plan: each kind of a plan's part draws the edges of its part of the piece.
use mathlib.Core.Path.{◌≡◌, refl, ap}
use mathlib.Core.List.{List, [], ◌∷◌, ◌++◌, reverse}
use Prim.Native.Nat.{ℕ, suc, ◌+◌}
use native.Mathlib.Omega.{arith}
use Rattle.polygon.specs.Polygon.{Edge, ◌—◌}
use Rattle.polygon.specs.Order.{same?}
use Rattle.polygon.specs.Tree.{Tree, leaf, node, span, chords_at}
use Rattle.umbrella.specs.Plan.{Plan}
use Rattle.umbrella.proofs.Parts.{Claims, Steps, of_plan}
use Rattle.lists.specs.Lists.{occurs, times}
use Rattle.lists.proofs.Occurs.{occurs_append, occurs_reverse}
use Rattle.chart.specs.Places.{cols, left_cols, right_cols, left_gate_cols, right_gate_cols, stem_cols, back_cols}
use Rattle.polygon.specs.Edges.{edges, edges_at, edges_past}
use Rattle.chart.proofs.Flats.{flats, left_flats, right_flats, left_gate_flats, right_gate_flats, stem_flats, back_flats}

plus_one : (p : ℕ) → p + 1 ≡ suc p
plus_one p = omega arith

module _ (e : Edge) where
  -- how often e is in a list; is it the edge (a,b); how often is it an edge of a piece
  abbrev o : List Edge → ℕ
  o l = occurs same? e l

  abbrev one : ℕ → ℕ → ℕ
  one a b = times (same? e (a — b))

  abbrev all : ℕ → Tree → ℕ
  all u t = o (edges u t)

  two : (xs ys : List Edge) → o (xs ++ ys) ≡ o xs + o ys
  two = occurs_append same? e

  three : (xs ys zs : List Edge) → o (xs ++ (ys ++ zs)) ≡ o xs + (o ys + o zs)
  three xs ys zs = omega (arith, two xs (ys ++ zs), two ys zs)

  three_reversed : (xs ys zs : List Edge) → o (xs ++ (reverse ys ++ zs)) ≡ o xs + (o ys + o zs)
  three_reversed xs ys zs = omega (arith, two xs (reverse ys ++ zs), two (reverse ys) zs, occurs_reverse same? e ys)

  at_node : (u v : ℕ) (l r : Tree) → u + (span l + span r) ≡ v → all u (node l r) ≡ all u l + (all (u + span l) r + one u v)
  unfolding edges edges_at edges_past chords_at occurs
  at_node u v l r h =
      let c : ℕ = u + span l in
      let w : ℕ = u + (span l + span r) in
      omega (
        arith,
        two (edges_at u l ++ ((u — w) ∷ [])) (edges_past u l ++ (edges_at c r ++ edges_past c r)),
        two (edges_at u l) ((u — w) ∷ []),
        three (edges_past u l) (edges_at c r) (edges_past c r),
        two (edges_at u l) (edges_past u l),
        two (edges_at c r) (edges_past c r),
        ap (one u) h,
      )

  at_leaf : (u v : ℕ) → u + 1 ≡ v → all u leaf ≡ one u v
  unfolding edges edges_at edges_past chords_at occurs
  at_leaf u v h = omega (arith, ap (one u) (one_more h))
    where
      one_more : {u v : ℕ} → u + 1 ≡ v → v ≡ suc u
      one_more q = omega arith

  abbrev Drawn : Claims
  Drawn = record {
    Piece = λ t p. (u v : ℕ) → u + span t ≡ v → o (cols p u v) + (o (flats p u v) + one u v) ≡ all u t;
    Left = λ t A. (u v : ℕ) → u + span t ≡ v → o (left_cols A u v) + o (left_flats A u v) ≡ all u t;
    Right = λ t B. (u v : ℕ) → u + span t ≡ v → o (right_cols B u v) + o (right_flats B u v) ≡ all u t;
    LeftGated = λ t G. (u v : ℕ) → u + span t ≡ v → o (left_gate_cols G u v) + o (left_gate_flats G u v) ≡ all u t;
    RightGated = λ t G. (u v : ℕ) → u + span t ≡ v → o (right_gate_cols G u v) + o (right_gate_flats G u v) ≡ all u t;
    Entered = λ t S. ((p q : ℕ) → p + span t ≡ q → o (stem_cols S p q) + o (stem_flats S p q) ≡ all p t) × ((p q : ℕ) → p + span t ≡ q → o (back_cols S p q) + o (back_flats S p q) ≡ all p t);
  }

  drawn : Steps Drawn
  unfolding span cols flats occurs
  drawn = record {
    empty = λ u v h. omega (arith, at_leaf u v h);
    bare = λ l r A B left right u v h.
        let c : ℕ = u + span l in
        omega (arith, at_node u v l r h, two (left_cols A u c) (right_cols B c v), two (left_flats A u c) (right_flats B c v), left u c refl, right c v (omega arith));
    stem_below = λ l r G B left right u v h.
        let c : ℕ = u + span l in
        omega (arith, at_node u v l r h, two (left_gate_cols G u c) (right_cols B c v), two (left_gate_flats G u c) (right_flats B c v), left u c refl, right c v (omega arith));
    stem_above = λ l r A G left right u v h.
        let c : ℕ = u + span l in
        omega (arith, at_node u v l r h, two (left_cols A u c) (right_gate_cols G c v), two (left_flats A u c) (right_gate_flats G c v), left u c refl, right c v (omega arith));
    left_end_lem = λ u v h. omega (arith, at_leaf u v h);
    left_on_lem = λ a b A p rim hung u v h.
        let c : ℕ = u + span a in
        omega (
          arith,
          at_node u v a b h,
          three (left_cols A u c) (cols p c v) ((u — v) ∷ []),
          two (left_flats A u c) ((c — v) ∷ (flats p c v ++ [])),
          two (flats p c v) [],
          rim u c refl,
          hung c v (omega arith),
        );
    right_end_lem = λ u v h. omega (arith, at_leaf u v h);
    right_on_lem = λ a b p B hung rim u v h.
        let c : ℕ = u + span a in
        omega (arith, at_node u v a b h, two (cols p u c) (right_cols B c v), two (flats p u c) (right_flats B c v), hung u c refl, rim c v (omega arith));
    left_gate_lem = λ a b A S rim stem u v h.
        let c : ℕ = u + span a in
        omega (arith, at_node u v a b h, three_reversed (back_cols S c v) (left_cols A u c) ((u — v) ∷ []), three (back_flats S c v) (left_flats A u c) [], stem.1 c v (omega arith), rim u c refl);
    left_past_lem = λ a b G p gate hung u v h.
        let c : ℕ = u + span a in
        omega (
          arith,
          at_node u v a b h,
          three (left_gate_cols G u c) (cols p c v) ((u — v) ∷ []),
          two (left_gate_flats G u c) ((c — v) ∷ (flats p c v ++ [])),
          two (flats p c v) [],
          gate u c refl,
          hung c v (omega arith),
        );
    right_gate_lem = λ a b S B stem rim u v h.
        let c : ℕ = u + span a in
        omega (arith, at_node u v a b h, three_reversed [] (right_cols B c v) (stem_cols S u c), two (right_flats B c v) (stem_flats S u c), stem.0 u c refl, rim c v (omega arith));
    right_past_lem = λ a b p G hung gate u v h.
        let c : ℕ = u + span a in
        omega (arith, at_node u v a b h, two (cols p u c) (right_gate_cols G c v), two (flats p u c) (right_gate_flats G c v), hung u c refl, gate c v (omega arith));
    ends = (
      λ p q h. omega (arith, at_node p q leaf leaf h, at_leaf p (suc p) (omega arith), at_leaf (p + 1) q (omega arith), ap (λ (x : ℕ). one x q) (plus_one p)),
      λ p q h. omega (arith, at_node p q leaf leaf h, at_leaf p (suc p) (omega arith), at_leaf (p + 1) q (omega arith), ap (λ (x : ℕ). one x q) (plus_one p)),
    );
    ends_left = λ a b c hung. (
      λ p q h.
          omega (
            arith,
            at_node p q leaf (node a b) h,
            at_leaf p (suc p) (omega arith),
            three_reversed [] (cols c (suc p) q) ((p — suc p) ∷ []),
            two (flats c (suc p) q) [],
            hung (suc p) q (omega arith),
            ap (λ (x : ℕ). all x (node a b)) (plus_one p),
          ),
      λ p q h.
          omega (
            arith,
            at_node p q leaf (node a b) h,
            at_leaf p (suc p) (omega arith),
            two (cols c (suc p) q) ((p — q) ∷ []),
            two (flats c (suc p) q) [],
            hung (suc p) q (omega arith),
            ap (λ (x : ℕ). all x (node a b)) (plus_one p),
          ),
    );
    ends_right = λ a b c hung. (
      λ p q h.
          let x : ℕ = p + (span a + span b) in
          omega (
            arith,
            at_node p q (node a b) leaf h,
            two (cols c p x) ((x — q) ∷ []),
            two (flats c p x) [],
            hung p x refl,
            at_leaf x q (omega arith),
          ),
      λ p q h.
          let x : ℕ = p + (span a + span b) in
          omega (
            arith,
            at_node p q (node a b) leaf h,
            three_reversed [] (cols c p x) ((p — q) ∷ []),
            two (flats c p x) [],
            hung p x refl,
            at_leaf x q (omega arith),
          ),
    );
    goes_left_lem = λ a b S c stem hung. (
      λ p q h.
          let x : ℕ = p + span a in
          omega (arith, at_node p q a b h, three_reversed [] (cols c x q) (stem_cols S p x), two (flats c x q) (stem_flats S p x), hung x q (omega arith), stem.0 p x refl),
      λ p q h.
          let x : ℕ = p + span a in
          omega (
            arith,
            at_node p q a b h,
            three (back_cols S p x) (cols c x q) ((p — q) ∷ []),
            two (back_flats S p x) ((x — q) ∷ (flats c x q ++ [])),
            two (flats c x q) [],
            hung x q (omega arith),
            stem.1 p x refl,
          ),
    );
    goes_right = λ a b c S hung stem. (
      λ p q h.
          let x : ℕ = p + span a in
          omega (arith, at_node p q a b h, two (cols c p x) (stem_cols S x q), two (flats c p x) (stem_flats S x q), hung p x refl, stem.0 x q (omega arith)),
      λ p q h.
          let x : ℕ = p + span a in
          omega (
            arith,
            at_node p q a b h,
            three_reversed (back_cols S x q) (cols c p x) ((p — q) ∷ []),
            two (back_flats S x q) ((p — x) ∷ (flats c p x ++ [])),
            two (flats c p x) [],
            hung p x refl,
            stem.1 x q (omega arith),
          ),
    );
  }

  pub each_drawn : {t : Tree} (p : Plan t) (u v : ℕ) → u + span t ≡ v → o (cols p u v) + (o (flats p u v) + one u v) ≡ all u t
  each_drawn = of_plan Drawn drawn

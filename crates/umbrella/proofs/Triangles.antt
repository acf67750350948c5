-- A plan of a piece takes every triangle of the piece exactly once, and its umbrella takes all triangles at u or v.
-- Both by recursion on the plan; that the triangles of a piece are all different follows from their middle corners, which ascend.
use mathlib.Core.Path.{◌≡◌, refl, sym, ap, subst}
use mathlib.Core.Logic.{inl, inr}
use mathlib.Core.List.{List, [], ◌∷◌, ◌++◌, flatten}
use Prim.Native.Nat.{ℕ, suc, ◌+◌, ◌≤◌, ◌<◌}
use native.Mathlib.Omega.{arith}
use lib.ListN.{length, length-append}
use Rattle.lists.specs.Lists.{All, Mem, Sorted, all_cons, all_nil, sorted_cons, sorted_nil, occurs, times}
use Rattle.lists.proofs.Lists.{all_append, all_both, all_imp, all_mem, here, mem_left, mem_right, sorted_append, there}
use Rattle.lists.proofs.Occurs.{mem_occurs, occurs_append, occurs_flatten, occurs_mem, occurs_once}
use Rattle.polygon.specs.Tree.{Tree, leaf, node, span}
use Rattle.polygon.proofs.Chords.{span_pos}
use Rattle.umbrella.specs.Plan.{Plan, none, plain, stem_left, stem_right, LeftRim, left_end, left_on, RightRim, right_end, right_on, LeftGate, left_gate, left_past, RightGate}
use Rattle.umbrella.specs.Plan.{right_gate, right_past, fold, fold_left, fold_right, fold_left_gate, fold_right_gate, fold_stem, umbrellas}
use Rattle.umbrella.proofs.Parts.{Claims, Steps, of_plan}
use Rattle.umbrella.specs.Triangles.{Triangle, same_triangle?, triangles, AtRoot, own, own_left, own_right, own_left_gate, own_right_gate, own_stem, shares, shares_left, shares_right, shares_left_gate, shares_right_gate, shares_stem, Taken}

-- where the triangles of a piece lie; by their middle corners they ascend
pub triangles_in : (u : ℕ) (t : Tree) → All (λ x. (u ≤ x.0) × (x.0 < x.1) × (x.1 < x.2) × (x.2 ≤ u + span t)) (triangles u t)
unfolding triangles span
triangles_in u leaf = all_nil
triangles_in u (node l r) =
    let p = span_pos l in
    let q = span_pos r in
    all_append (all_imp (λ x h. omega arith) (triangles_in u l)) (all_cons {x = (u, u + span l, u + (span l + span r))} (omega arith) (all_imp (λ x h. omega arith) (triangles_in (u + span l) r)))

triangles_ascend : (u : ℕ) (t : Tree) → Sorted (λ x y. x.1 < y.1) (triangles u t)
unfolding triangles
triangles_ascend u leaf = sorted_nil
triangles_ascend u (node l r) =
    let c : ℕ = u + span l in
    sorted_append {P = λ x. x.1 < c} {Q = λ x. c ≤ x.1}
    (λ x y h k. omega arith)
    (triangles_ascend u l)
    (sorted_cons (all_imp (λ x h. omega arith) (triangles_in c r)) (triangles_ascend c r))
    (all_imp (λ x h. omega arith) (triangles_in u l))
    (all_cons (omega arith) (all_imp (λ x h. omega arith) (triangles_in c r)))

-- how often a triangle is taken
module _ (x : Triangle) where
  abbrev o : List Triangle → ℕ
  o l = occurs same_triangle? x l

  abbrev one : ℕ → ℕ → ℕ → ℕ
  one p c q = times (same_triangle? x (p, c, q))

  around : (s t : List Triangle) (p c q : ℕ) → o (s ++ ((p, c, q) ∷ t)) ≡ o s + (one p c q + o t)
  unfolding occurs
  around s t p c q = occurs_append same_triangle? x s ((p, c, q) ∷ t)

  at_node : (u v : ℕ) (l r : Tree) → u + (span l + span r) ≡ v → o (triangles u (node l r)) ≡ o (triangles u l) + (one u (u + span l) v + o (triangles (u + span l) r))
  unfolding triangles
  at_node u v l r h = omega (arith, around (triangles u l) (triangles (u + span l) r) u (u + span l) (u + (span l + span r)), ap (one u (u + span l)) h)

  both : (s t : List (List Triangle)) → o (flatten (s ++ t)) ≡ o (flatten s) + o (flatten t)
  both = occurs_flatten same_triangle? x

  abbrev Counted : Claims
  Counted = record {
    Piece = λ t p. (u v : ℕ) → u + span t ≡ v → o (flatten (shares p u v)) ≡ o (triangles u t);
    Left = λ t A. (u v : ℕ) → u + span t ≡ v → o (own_left A u v) + o (flatten (shares_left A u v)) ≡ o (triangles u t);
    Right = λ t B. (u v : ℕ) → u + span t ≡ v → o (own_right B u v) + o (flatten (shares_right B u v)) ≡ o (triangles u t);
    LeftGated = λ t G. (u v : ℕ) → u + span t ≡ v → o (own_left_gate G u v) + o (flatten (shares_left_gate G u v)) ≡ o (triangles u t);
    RightGated = λ t G. (u v : ℕ) → u + span t ≡ v → o (own_right_gate G u v) + o (flatten (shares_right_gate G u v)) ≡ o (triangles u t);
    Entered = λ t S. (p q : ℕ) → p + span t ≡ q → o (own_stem S p q) + o (flatten (shares_stem S p q)) ≡ o (triangles p t);
  }

  counted : Steps Counted
  unfolding span triangles own own_left own_right own_left_gate own_right_gate own_stem shares occurs flatten
  counted = record {
    empty = λ u v h. refl;
    bare = λ l r A B left right u v h.
        let c : ℕ = u + span l in
        omega (
          arith,
          at_node u v l r h,
          occurs_append same_triangle? x (own (plain A B) u v) (flatten (shares_left A u c ++ shares_right B c v)),
          around (own_left A u c) (own_right B c v) u c v,
          both (shares_left A u c) (shares_right B c v),
          left u c refl,
          right c v (omega arith),
        );
    stem_below = λ l r G B left right u v h.
        let c : ℕ = u + span l in
        omega (
          arith,
          at_node u v l r h,
          occurs_append same_triangle? x (own (stem_left G B) u v) (flatten (shares_left_gate G u c ++ shares_right B c v)),
          around (own_left_gate G u c) (own_right B c v) u c v,
          both (shares_left_gate G u c) (shares_right B c v),
          left u c refl,
          right c v (omega arith),
        );
    stem_above = λ l r A G left right u v h.
        let c : ℕ = u + span l in
        omega (
          arith,
          at_node u v l r h,
          occurs_append same_triangle? x (own (stem_right A G) u v) (flatten (shares_left A u c ++ shares_right_gate G c v)),
          around (own_left A u c) (own_right_gate G c v) u c v,
          both (shares_left A u c) (shares_right_gate G c v),
          left u c refl,
          right c v (omega arith),
        );
    left_end_lem = λ u v h. refl;
    left_on_lem = λ a b A p rim hung u v h.
        let c : ℕ = u + span a in
        omega (arith, at_node u v a b h, around (own_left A u c) [] u c v, both (shares_left A u c) (shares p c v), rim u c refl, hung c v (omega arith));
    right_end_lem = λ u v h. refl;
    right_on_lem = λ a b p B hung rim u v h.
        let c : ℕ = u + span a in
        omega (arith, at_node u v a b h, both (shares p u c) (shares_right B c v), hung u c refl, rim c v (omega arith));
    left_gate_lem = λ a b A S rim stem u v h.
        let c : ℕ = u + span a in
        omega (arith, at_node u v a b h, around (own_left A u c) (own_stem S c v) u c v, both (shares_left A u c) (shares_stem S c v), rim u c refl, stem c v (omega arith));
    left_past_lem = λ a b G p gate hung u v h.
        let c : ℕ = u + span a in
        omega (arith, at_node u v a b h, around (own_left_gate G u c) [] u c v, both (shares_left_gate G u c) (shares p c v), gate u c refl, hung c v (omega arith));
    right_gate_lem = λ a b S B stem rim u v h.
        let c : ℕ = u + span a in
        omega (arith, at_node u v a b h, around (own_stem S u c) (own_right B c v) u c v, both (shares_stem S u c) (shares_right B c v), stem u c refl, rim c v (omega arith));
    right_past_lem = λ a b p G hung gate u v h.
        let c : ℕ = u + span a in
        omega (arith, at_node u v a b h, both (shares p u c) (shares_right_gate G c v), hung u c refl, gate c v (omega arith));
    ends = λ p q h. omega (arith, at_node p q leaf leaf h);
    ends_left = λ a b c hung p q h. omega (arith, at_node p q leaf (node a b) h, hung (p + 1) q (omega arith));
    ends_right = λ a b c hung p q h. omega (arith, at_node p q (node a b) leaf h, hung p (p + (span a + span b)) refl);
    goes_left_lem = λ a b S c stem hung p q h.
        let x : ℕ = p + span a in
        omega (arith, at_node p q a b h, both (shares_stem S p x) (shares c x q), stem p x refl, hung x q (omega arith));
    goes_right = λ a b c S hung stem p q h.
        let x : ℕ = p + span a in
        omega (arith, at_node p q a b h, both (shares c p x) (shares_stem S x q), hung p x refl, stem x q (omega arith));
  }

-- there is one share for each umbrella
abbrev OneEach : Claims
OneEach = record {
  Piece = λ t p. (u v : ℕ) → length (shares p u v) ≡ umbrellas p;
  Left = λ t A. (u v : ℕ) → length (shares_left A u v) ≡ fold_left ◌+◌ suc suc A;
  Right = λ t B. (u v : ℕ) → length (shares_right B u v) ≡ fold_right ◌+◌ suc suc B;
  LeftGated = λ t G. (u v : ℕ) → length (shares_left_gate G u v) ≡ fold_left_gate ◌+◌ suc suc G;
  RightGated = λ t G. (u v : ℕ) → length (shares_right_gate G u v) ≡ fold_right_gate ◌+◌ suc suc G;
  Entered = λ t S. (p q : ℕ) → length (shares_stem S p q) ≡ fold_stem ◌+◌ suc suc S;
}

one_each : Steps OneEach
unfolding shares fold
one_each = record {
  empty = λ u v. refl;
  bare = λ l r A B left right u v. let c : ℕ = u + span l in omega (arith, length-append (shares_left A u c) (shares_right B c v), left u c, right c v);
  stem_below = λ l r G B left right u v. let c : ℕ = u + span l in omega (arith, length-append (shares_left_gate G u c) (shares_right B c v), left u c, right c v);
  stem_above = λ l r A G left right u v. let c : ℕ = u + span l in omega (arith, length-append (shares_left A u c) (shares_right_gate G c v), left u c, right c v);
  left_end_lem = λ u v. refl;
  left_on_lem = λ a b A p rim hung u v. let c : ℕ = u + span a in omega (arith, length-append (shares_left A u c) (shares p c v), rim u c, hung c v);
  right_end_lem = λ u v. refl;
  right_on_lem = λ a b p B hung rim u v. let c : ℕ = u + span a in omega (arith, length-append (shares p u c) (shares_right B c v), hung u c, rim c v);
  left_gate_lem = λ a b A S rim stem u v. let c : ℕ = u + span a in omega (arith, length-append (shares_left A u c) (shares_stem S c v), rim u c, stem c v);
  left_past_lem = λ a b G p gate hung u v. let c : ℕ = u + span a in omega (arith, length-append (shares_left_gate G u c) (shares p c v), gate u c, hung c v);
  right_gate_lem = λ a b S B stem rim u v. let c : ℕ = u + span a in omega (arith, length-append (shares_stem S u c) (shares_right B c v), stem u c, rim c v);
  right_past_lem = λ a b p G hung gate u v. let c : ℕ = u + span a in omega (arith, length-append (shares p u c) (shares_right_gate G c v), hung u c, gate c v);
  ends = λ p q. refl;
  ends_left = λ a b c hung p q. hung (p + 1) q;
  ends_right = λ a b c hung p q. hung p (p + span (node a b));
  goes_left_lem = λ a b S c stem hung p q. let x : ℕ = p + span a in omega (arith, length-append (shares_stem S p x) (shares c x q), stem p x, hung x q);
  goes_right = λ a b c S hung stem p q. let x : ℕ = p + span a in omega (arith, length-append (shares c p x) (shares_stem S x q), hung p x, stem x q);
}

-- the umbrella takes all triangles at u, and all at v
none_at_low : (Q : Triangle → Type 0) (u c : ℕ) (t : Tree) → u < c → All (λ x. x.0 ≡ u → Q x) (triangles c t)
none_at_low Q u c t h = all_imp (λ x k e. absurd (omega arith)) (triangles_in c t)

none_at_high : (Q : Triangle → Type 0) (u v : ℕ) (t : Tree) → u + span t < v → All (λ x. x.2 ≡ v → Q x) (triangles u t)
none_at_high Q u v t h = all_imp (λ x k e. absurd (omega arith)) (triangles_in u t)

module _ (P : Triangle → Type 0) (xs : List Triangle) (u v : ℕ) (l r : Tree) (h : u + (span l + span r) ≡ v) where
  fan_node : All (λ x. P x → Mem x xs) (triangles u l) → Mem (u, u + span l, v) xs → All (λ x. P x → Mem x xs) (triangles (u + span l) r) → All (λ x. P x → Mem x xs) (triangles u (node l r))
  unfolding triangles
  fan_node a m b = all_append a (all_cons (λ p. subst (λ w. Mem (u, u + span l, w) xs) (sym h) m) b)

fan_left : {t : Tree} (A : LeftRim t) (u v : ℕ) → u + span t ≡ v → All (λ x. x.0 ≡ u → Mem x (own_left A u v)) (triangles u t)
unfolding span triangles own_left
fan_left left_end u v h = all_nil
fan_left (left_on {a} {b} A p) u v h =
    let c : ℕ = u + span a in
    fan_node _ _ u v a b h (all_imp (λ x f e. mem_left _ (f e)) (fan_left A u c refl)) (mem_right (own_left A u c) here) (none_at_low _ u c b (omega (arith, span_pos a)))

fan_left_gate : {t : Tree} (G : LeftGate t) (u v : ℕ) → u + span t ≡ v → All (λ x. x.0 ≡ u → Mem x (own_left_gate G u v)) (triangles u t)
unfolding span own_left_gate
fan_left_gate (left_gate {a} {b} A S) u v h =
    let c : ℕ = u + span a in
    fan_node _ _ u v a b h (all_imp (λ x f e. mem_left _ (f e)) (fan_left A u c refl)) (mem_right (own_left A u c) here) (none_at_low _ u c b (omega (arith, span_pos a)))
fan_left_gate (left_past {a} {b} G p) u v h =
    let c : ℕ = u + span a in
    fan_node _ _ u v a b h (all_imp (λ x f e. mem_left _ (f e)) (fan_left_gate G u c refl)) (mem_right (own_left_gate G u c) here) (none_at_low _ u c b (omega (arith, span_pos a)))

fan_right : {t : Tree} (B : RightRim t) (u v : ℕ) → u + span t ≡ v → All (λ x. x.2 ≡ v → Mem x (own_right B u v)) (triangles u t)
unfolding span triangles own_right
fan_right right_end u v h = all_nil
fan_right (right_on {a} {b} p B) u v h =
    let c : ℕ = u + span a in
    fan_node _ _ u v a b h (none_at_high _ u v a (omega (arith, span_pos b))) here (all_imp (λ x f e. there (f e)) (fan_right B c v (omega arith)))

fan_right_gate : {t : Tree} (G : RightGate t) (u v : ℕ) → u + span t ≡ v → All (λ x. x.2 ≡ v → Mem x (own_right_gate G u v)) (triangles u t)
unfolding span own_right_gate
fan_right_gate (right_gate {a} {b} S B) u v h =
    let c : ℕ = u + span a in
    fan_node _ _ u v a b h (none_at_high _ u v a (omega (arith, span_pos b))) (mem_right (own_stem S u c) here) (all_imp (λ x f e. mem_right (own_stem S u c) (there (f e))) (fan_right B c v (omega arith)))
fan_right_gate (right_past {a} {b} p G) u v h =
    let c : ℕ = u + span a in
    fan_node _ _ u v a b h (none_at_high _ u v a (omega (arith, span_pos b))) here (all_imp (λ x f e. there (f e)) (fan_right_gate G c v (omega arith)))

fan_both : (xs ys : List Triangle) (u v : ℕ) (l r : Tree) → u + (span l + span r) ≡ v → All (λ x. x.0 ≡ u → Mem x xs) (triangles u l) → All (λ x. x.2 ≡ v → Mem x ys) (triangles (u + span l) r)
    → All (λ x. AtRoot u v x → Mem x (xs ++ ((u, u + span l, v) ∷ ys))) (triangles u (node l r))
fan_both xs ys u v l r h a b =
    fan_node _ _ u v l r h
    (all_both {Q = λ x. x.0 ≡ u → Mem x xs} {R = λ x. x.2 ≡ v → Mem x (xs ++ ((u, u + span l, v) ∷ ys))} (λ x f g s. elim s [ inl e ↦ mem_left _ (f e) | inr e ↦ g e ]) a (none_at_high _ u v l (omega (arith, span_pos r))))
    (mem_right xs here)
    (all_both {Q = λ x. x.2 ≡ v → Mem x ys} {R = λ x. x.0 ≡ u → Mem x (xs ++ ((u, u + span l, v) ∷ ys))} (λ x f g s. elim s [ inl e ↦ g e | inr e ↦ mem_right xs (there (f e)) ]) b (none_at_low _ u (u + span l) r (omega (arith, span_pos l))))

fan_plan : {t : Tree} (p : Plan t) (u v : ℕ) → u + span t ≡ v → All (λ x. AtRoot u v x → Mem x (own p u v)) (triangles u t)
unfolding span triangles own
fan_plan none u v h = all_nil
fan_plan (plain {l} {r} A B) u v h = fan_both _ _ u v l r h (fan_left A u (u + span l) refl) (fan_right B (u + span l) v (omega arith))
fan_plan (stem_left {l} {r} G B) u v h = fan_both _ _ u v l r h (fan_left_gate G u (u + span l) refl) (fan_right B (u + span l) v (omega arith))
fan_plan (stem_right {l} {r} A G) u v h = fan_both _ _ u v l r h (fan_left A u (u + span l) refl) (fan_right_gate G (u + span l) v (omega arith))

pub taken_once : {t : Tree} (p : Plan t) (u v : ℕ) → u + span t ≡ v → Taken p u v
taken_once {t} p u v h = record {
  each = λ x m. omega (arith, of_plan (Counted x) (counted x) p u v h, mem_occurs same_triangle? x m, occurs_once same_triangle? x (λ y z. y.1 < z.1) (λ y k. omega arith) (triangles_ascend u t));
  only = λ x m. occurs_mem same_triangle? x (triangles u t) (omega (arith, of_plan (Counted x) (counted x) p u v h, mem_occurs same_triangle? x m));
  umbrella_each = of_plan OneEach one_each p u v;
  at_root = λ x m. all_mem (fan_plan p u v h) m;
}

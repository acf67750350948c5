-- In the columns of every plan each hung piece stands between two columns with uprights to its root corners: to the lower corner before it, to the higher after it, or reversed.
-- `every_piece` carries a property from there to every hung piece. By recursion on the plan, over lists alone.
use mathlib.Core.Path.{◌≡◌, refl, sym}
use mathlib.Core.Logic.{inl, inr}
use mathlib.Core.List.{List, [], ◌∷◌, ◌++◌, reverse, append_assoc}
use Prim.Native.Nat.{ℕ, suc, ◌+◌}
use native.Mathlib.Omega.{arith}
use Rattle.lists.specs.Lists.{Mem, Sub, tail}
use Rattle.lists.proofs.Lists.{here, mem_left, mem_right}
use Rattle.polygon.specs.Polygon.{Edge, ◌—◌}
use Rattle.polygon.specs.Tree.{Tree, node, span}
use Rattle.umbrella.proofs.Parts.{Claims, Steps, of_plan}
use Rattle.umbrella.specs.Plan.{Plan, LeftRim, left_end, left_on, RightRim, right_end, right_on, LeftGate, left_gate, left_past, RightGate, right_gate, right_past, Stem, end_both, end_left, end_right, go_left, go_right}
use Rattle.umbrella.specs.Best.{Node, two}
use Rattle.chart.specs.Places.{cols, left_cols, right_cols, left_gate_cols, right_gate_cols, stem_cols, back_cols}
use Rattle.chart.specs.Chart.{Meets}
use Rattle.chart.specs.Pieces.{EveryPiece, EveryLeft, EveryRight, EveryLeftGate, EveryRightGate, EveryStem}
use Rattle.chart.proofs.Flats.{flats, left_flats, right_flats, left_gate_flats, right_gate_flats, stem_flats, back_flats}
use Rattle.chart.proofs.Segments.{Segment, segment_part, segment_turn, segment_between, within_left, within_right, within_middle, Last, First, within_last, within_first}

-- the last column up to u is v's, the first column up to v is u's; and a stem starts with its gate's column
last_of : (xs ys : List Edge) (e : Edge) → Last (xs ++ (ys ++ (e ∷ []))) e
last_of xs ys e = record { init = xs ++ ys; is = sym (append_assoc xs ys (e ∷ [])) }

left_last : {t : Tree} (A : LeftRim t) (u v : ℕ) → Last (left_cols A u v) (u — v)
unfolding cols
left_last left_end u v = record { init = []; is = refl }
left_last (left_on {a} A p) u v = last_of (left_cols A u (u + span a)) (cols p (u + span a) v) (u — v)

left_gate_last : {t : Tree} (G : LeftGate t) (u v : ℕ) → Last (left_gate_cols G u v) (u — v)
unfolding cols
left_gate_last (left_gate {a} A S) u v = last_of (back_cols S (u + span a) v) (reverse (left_cols A u (u + span a))) (u — v)
left_gate_last (left_past {a} G p) u v = last_of (left_gate_cols G u (u + span a)) (cols p (u + span a) v) (u — v)

back_last : {t : Tree} (S : Stem t) (p q : ℕ) → Last (back_cols S p q) (p — q)
unfolding cols
back_last end_both p q = record { init = (suc p — q) ∷ []; is = refl }
back_last (end_left c) p q = last_of ((p — suc p) ∷ []) (cols c (suc p) q) (p — q)
back_last (end_right {a} {b} c) p q = last_of (((p + span (node a b)) — q) ∷ []) (reverse (cols c p (p + span (node a b)))) (p — q)
back_last (go_left {a} S c) p q = last_of (back_cols S p (p + span a)) (cols c (p + span a) q) (p — q)
back_last (go_right {a} c S) p q = last_of (back_cols S (p + span a) q) (reverse (cols c p (p + span a))) (p — q)

right_first : {t : Tree} (B : RightRim t) (u v : ℕ) → First (right_cols B u v) (u — v)
unfolding cols
right_first right_end u v = record { rest = []; is = refl }
right_first (right_on p B) u v = record { rest = _; is = refl }

right_gate_first : {t : Tree} (G : RightGate t) (u v : ℕ) → First (right_gate_cols G u v) (u — v)
unfolding cols
right_gate_first (right_gate S B) u v = record { rest = _; is = refl }
right_gate_first (right_past p G) u v = record { rest = _; is = refl }

stem_first : {t : Tree} (S : Stem t) (p q : ℕ) → First (stem_cols S p q) (p — q)
unfolding cols
stem_first end_both p q = record { rest = _; is = refl }
stem_first (end_left c) p q = record { rest = _; is = refl }
stem_first (end_right c) p q = record { rest = _; is = refl }
stem_first (go_left S c) p q = record { rest = _; is = refl }
stem_first (go_right c S) p q = record { rest = _; is = refl }

-- parts of the level edges
sub_left : {xs fs : List Edge} (ys : List Edge) → Sub (xs ++ ys) fs → Sub xs fs
sub_left ys f x m = f x (mem_left ys m)

sub_right : {ys fs : List Edge} (xs : List Edge) → Sub (xs ++ ys) fs → Sub ys fs
sub_right xs f x m = f x (mem_right xs m)

sub_tail : {e : Edge} {xs fs : List Edge} → Sub (e ∷ xs) fs → Sub xs fs
sub_tail f x m = f x (tail m)

-- us are the columns of a drawing, fs its level edges; Q holds of each piece that stands so
module _ (Q : (s : Tree) → Plan s → ℕ → ℕ → Type 0) (us fs : List Edge)
    (hung : (s : Tree) (q : Plan s) (a b : ℕ) (e f : Edge) → Node s → a + span s ≡ b → Meets a e → Meets b f → Segment us (e ∷ (cols q a b ++ (f ∷ []))) → Mem (a — b) fs → Q s q a b) where
  -- a hung piece, and what is in it
  hang : {s : Tree} (q : Plan s) (a b : ℕ) (e f : Edge) → a + span s ≡ b → Meets a e → Meets b f → Segment us (e ∷ (cols q a b ++ (f ∷ []))) → Mem (a — b) fs
      → ((Node s → Q s q a b) → Segment us (cols q a b) → EveryPiece Q q a b) → EveryPiece Q q a b
  hang q a b e f h i j k m r = r (λ n. hung _ q a b e f n h i j k m) (segment_part k (within_middle (e ∷ []) (cols q a b) (f ∷ [])))

  abbrev Hangs : Claims
  Hangs = record {
    Piece = λ t p. (u v : ℕ) → u + span t ≡ v → (Node t → Q t p u v) → Segment us (cols p u v) → Sub (flats p u v) fs → EveryPiece Q p u v;
    Left = λ t A. (u v : ℕ) → u + span t ≡ v → Segment us (left_cols A u v) → Sub (left_flats A u v) fs → EveryLeft Q A u v;
    Right = λ t B. (u v : ℕ) → u + span t ≡ v → Segment us (right_cols B u v) → Sub (right_flats B u v) fs → EveryRight Q B u v;
    LeftGated = λ t G. (u v : ℕ) → u + span t ≡ v → Segment us (left_gate_cols G u v) → Sub (left_gate_flats G u v) fs → EveryLeftGate Q G u v;
    RightGated = λ t G. (u v : ℕ) → u + span t ≡ v → Segment us (right_gate_cols G u v) → Sub (right_gate_flats G u v) fs → EveryRightGate Q G u v;
    Entered = λ t S. ((p q : ℕ) → p + span t ≡ q → Segment us (stem_cols S p q) → Sub (stem_flats S p q) fs → EveryStem Q S p q) × ((p q : ℕ) → p + span t ≡ q → Segment us (back_cols S p q) → Sub (back_flats S p q) fs → EveryStem Q S p q);
  }

  hangs : Steps Hangs
  unfolding span cols flats EveryPiece
  hangs = record {
    empty = λ u v h q g s. tt;
    bare = λ l r A B left right u v h q g s.
        let c : ℕ = u + span l in (
          q two,
          left u c refl (segment_part g (within_left (left_cols A u c) (right_cols B c v))) (sub_left (right_flats B c v) s),
          right c v (omega arith) (segment_part g (within_right (left_cols A u c) (right_cols B c v))) (sub_right (left_flats A u c) s),
        );
    stem_below = λ l r G B left right u v h q g s.
        let c : ℕ = u + span l in (
          q two,
          left u c refl (segment_part g (within_left (left_gate_cols G u c) (right_cols B c v))) (sub_left (right_flats B c v) s),
          right c v (omega arith) (segment_part g (within_right (left_gate_cols G u c) (right_cols B c v))) (sub_right (left_gate_flats G u c) s),
        );
    stem_above = λ l r A G left right u v h q g s.
        let c : ℕ = u + span l in (
          q two,
          left u c refl (segment_part g (within_left (left_cols A u c) (right_gate_cols G c v))) (sub_left (right_gate_flats G c v) s),
          right c v (omega arith) (segment_part g (within_right (left_cols A u c) (right_gate_cols G c v))) (sub_right (left_flats A u c) s),
        );
    left_end_lem = λ u v h g s. tt;
    left_on_lem = λ a b A p rim hung u v h g s.
        let c : ℕ = u + span a in
        let k : Segment us ((u — c) ∷ (cols p c v ++ ((u — v) ∷ []))) = segment_part g (within_last (cols p c v ++ ((u — v) ∷ [])) (left_last A u c)) in (
          rim u c refl (segment_part g (within_left (left_cols A u c) (cols p c v ++ ((u — v) ∷ [])))) (sub_left _ s),
          hang p c v (u — c) (u — v) (omega arith) (inr refl) (inr refl) k (s _ (mem_right (left_flats A u c) here)) (λ n j. hung c v (omega arith) n j (sub_left [] (sub_tail (sub_right (left_flats A u c) s)))),
        );
    right_end_lem = λ u v h g s. tt;
    right_on_lem = λ a b p B hung rim u v h g s.
        let c : ℕ = u + span a in
        let k : Segment us ((u — v) ∷ (cols p u c ++ ((c — v) ∷ []))) = segment_part g (within_first ((u — v) ∷ cols p u c) (right_first B c v)) in (
          hang p u c (u — v) (c — v) refl (inl refl) (inl refl) k (s _ here) (λ n j. hung u c refl n j (sub_left _ (sub_tail s))),
          rim c v (omega arith) (segment_part g (within_right ((u — v) ∷ cols p u c) (right_cols B c v))) (sub_right (flats p u c) (sub_tail s)),
        );
    left_gate_lem = λ a b A S rim stem u v h g s.
        let c : ℕ = u + span a in (
          rim u c refl (segment_turn (segment_part g (within_middle (back_cols S c v) (reverse (left_cols A u c)) ((u — v) ∷ [])))) (sub_left [] (sub_right (back_flats S c v) s)),
          stem.1 c v (omega arith) (segment_part g (within_left (back_cols S c v) (reverse (left_cols A u c) ++ ((u — v) ∷ [])))) (sub_left _ s),
        );
    left_past_lem = λ a b G p gate hung u v h g s.
        let c : ℕ = u + span a in
        let k : Segment us ((u — c) ∷ (cols p c v ++ ((u — v) ∷ []))) = segment_part g (within_last (cols p c v ++ ((u — v) ∷ [])) (left_gate_last G u c)) in (
          gate u c refl (segment_part g (within_left (left_gate_cols G u c) (cols p c v ++ ((u — v) ∷ [])))) (sub_left _ s),
          hang p c v (u — c) (u — v) (omega arith) (inr refl) (inr refl) k (s _ (mem_right (left_gate_flats G u c) here)) (λ n j. hung c v (omega arith) n j (sub_left [] (sub_tail (sub_right (left_gate_flats G u c) s)))),
        );
    right_gate_lem = λ a b S B stem rim u v h g s.
        let c : ℕ = u + span a in (
          stem.0 u c refl (segment_part g (within_right ((u — v) ∷ reverse (right_cols B c v)) (stem_cols S u c))) (sub_right (right_flats B c v) s),
          rim c v (omega arith) (segment_turn (segment_part g (within_middle ((u — v) ∷ []) (reverse (right_cols B c v)) (stem_cols S u c)))) (sub_left _ s),
        );
    right_past_lem = λ a b p G hung gate u v h g s.
        let c : ℕ = u + span a in
        let k : Segment us ((u — v) ∷ (cols p u c ++ ((c — v) ∷ []))) = segment_part g (within_first ((u — v) ∷ cols p u c) (right_gate_first G c v)) in (
          hang p u c (u — v) (c — v) refl (inl refl) (inl refl) k (s _ here) (λ n j. hung u c refl n j (sub_left _ (sub_tail s))),
          gate c v (omega arith) (segment_part g (within_right ((u — v) ∷ cols p u c) (right_gate_cols G c v))) (sub_right (flats p u c) (sub_tail s)),
        );
    ends = (
      λ p q h g s. tt,
      λ p q h g s. tt,
    );
    ends_left = λ a b c hung. (
      λ p q h g s.
          let k : Segment us ((p — suc p) ∷ (cols c (suc p) q ++ ((p — q) ∷ []))) = segment_between (p — suc p) (p — q) (cols c (suc p) q) g in
          hang c (suc p) q (p — suc p) (p — q) (omega arith) (inr refl) (inr refl) k (s _ here) (λ n j. hung (suc p) q (omega arith) n j (sub_left [] (sub_tail s))),
      λ p q h g s.
          hang c (suc p) q (p — suc p) (p — q) (omega arith) (inr refl) (inr refl) g (s _ here) (λ n j. hung (suc p) q (omega arith) n j (sub_left [] (sub_tail s))),
    );
    ends_right = λ a b c hung. (
      λ p q h g s.
          let x : ℕ = p + (span a + span b) in
          hang c p x (p — q) (x — q) refl (inl refl) (inl refl) g (s _ here) (λ n j. hung p x refl n j (sub_left [] (sub_tail s))),
      λ p q h g s.
          let x : ℕ = p + (span a + span b) in
          let k : Segment us ((p — q) ∷ (cols c p x ++ ((x — q) ∷ []))) = segment_between (p — q) (x — q) (cols c p x) g in
          hang c p x (p — q) (x — q) refl (inl refl) (inl refl) k (s _ here) (λ n j. hung p x refl n j (sub_left [] (sub_tail s))),
    );
    goes_left_lem = λ a b S c stem hung. (
      λ p q h g s.
          let x : ℕ = p + span a in
          let k : Segment us ((p — x) ∷ (cols c x q ++ ((p — q) ∷ []))) = segment_between (p — x) (p — q) (cols c x q) (segment_part g (within_first ((p — q) ∷ reverse (cols c x q)) (stem_first S p x))) in (
            stem.0 p x refl (segment_part g (within_right ((p — q) ∷ reverse (cols c x q)) (stem_cols S p x))) (sub_right (flats c x q) (sub_tail s)),
            hang c x q (p — x) (p — q) (omega arith) (inr refl) (inr refl) k (s _ here) (λ n j. hung x q (omega arith) n j (sub_left _ (sub_tail s))),
          ),
      λ p q h g s.
          let x : ℕ = p + span a in
          let k : Segment us ((p — x) ∷ (cols c x q ++ ((p — q) ∷ []))) = segment_part g (within_last (cols c x q ++ ((p — q) ∷ [])) (back_last S p x)) in (
            stem.1 p x refl (segment_part g (within_left (back_cols S p x) (cols c x q ++ ((p — q) ∷ [])))) (sub_left _ s),
            hang c x q (p — x) (p — q) (omega arith) (inr refl) (inr refl) k (s _ (mem_right (back_flats S p x) here)) (λ n j. hung x q (omega arith) n j (sub_left [] (sub_tail (sub_right (back_flats S p x) s)))),
          ),
    );
    goes_right = λ a b c S hung stem. (
      λ p q h g s.
          let x : ℕ = p + span a in
          let k : Segment us ((p — q) ∷ (cols c p x ++ ((x — q) ∷ []))) = segment_part g (within_first ((p — q) ∷ cols c p x) (stem_first S x q)) in (
            hang c p x (p — q) (x — q) refl (inl refl) (inl refl) k (s _ here) (λ n j. hung p x refl n j (sub_left _ (sub_tail s))),
            stem.0 x q (omega arith) (segment_part g (within_right ((p — q) ∷ cols c p x) (stem_cols S x q))) (sub_right (flats c p x) (sub_tail s)),
          ),
      λ p q h g s.
          let x : ℕ = p + span a in
          let k : Segment us ((p — q) ∷ (cols c p x ++ ((x — q) ∷ []))) = segment_between (p — q) (x — q) (cols c p x) (segment_part g (within_last (reverse (cols c p x) ++ ((p — q) ∷ [])) (back_last S x q))) in (
            hang c p x (p — q) (x — q) refl (inl refl) (inl refl) k (s _ (mem_right (back_flats S x q) here)) (λ n j. hung p x refl n j (sub_left [] (sub_tail (sub_right (back_flats S x q) s)))),
            stem.1 x q (omega arith) (segment_part g (within_left (back_cols S x q) (reverse (cols c p x) ++ ((p — q) ∷ [])))) (sub_left _ s),
          ),
    );
  }

  pub every_piece : {t : Tree} (p : Plan t) (u v : ℕ) → u + span t ≡ v → (Node t → Q t p u v) → Segment us (cols p u v) → Sub (flats p u v) fs → EveryPiece Q p u v
  every_piece = of_plan Hangs hangs

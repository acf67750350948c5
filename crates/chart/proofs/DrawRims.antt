-- The columns of a rim, and of a rim with a gate, from those of its parts.
use mathlib.Core.Path.{◌≡◌, refl, sym, ap, subst}
use mathlib.Core.Logic.{inl, inr}
use mathlib.Core.List.{[], ◌∷◌, map}
use Prim.Native.Nat.{ℕ, suc, ◌+◌, ◌-◌}
use native.Mathlib.Omega.{arith}
use lib.ListN.{length-map}
use Rattle.lists.specs.Lists.{all_nil}
use Rattle.polygon.specs.Polygon.{◌—◌}
use Rattle.polygon.specs.Tree.{Tree, span}
use Rattle.polygon.proofs.Chords.{span_pos}
use Rattle.umbrella.specs.Plan.{Plan, LeftRim, left_end, left_on, RightRim, right_end, right_on, LeftGate, left_gate, left_past, RightGate, right_gate, right_past, Stem, fold}
use Rattle.chart.specs.Places.{cols, rows, left_rows, right_rows, left_gate_rows, right_gate_rows, stem_rows}
use Rattle.chart.proofs.Cells.{row_by, δ, lower, lower_suc, range, range_is, range_none}
use Rattle.chart.proofs.Cut.{Cut, cut_at, inner, to_last, rim_left, rim_right}
use Rattle.chart.proofs.Block.{piece_raise, Block, block_is, block_join, block_link, block_reverse}
use Rattle.chart.proofs.Umbrella.{to_link, from_link, to_join, from_join}
use Rattle.chart.proofs.Rows.{Knows, knows_left, knows_right, knows_head, knows_tail, knows_map, rows_length, left_length, left_gate_length, stem_length}
use Rattle.chart.proofs.Rim.{Rim, rim_up, rim_down, rim_column}
use Rattle.chart.proofs.Flats.{flats}
use Rattle.chart.proofs.Drawn.{OfPlan, OfLeft, OfRight, OfLeftGate, OfRightGate, OfStem, OfBack, row_k}

pub left_end_lem : OfLeft left_end
unfolding span fold cols rows flats rim_up rim_down
left_end_lem k m R f u v X h lv K rv =
    let e : v ≡ suc u = omega arith in
    subst (λ (y : ℕ). Block k R (X.st (suc u), (u — suc u)) (X.st y, (u — y)) (range (suc (suc u)) (suc v)) (λ x. δ x u + range (suc u) (suc v) x) ((u — y) ∷ []) []) (sym e)
    (block_is (range (suc (suc u)) (suc v)) (λ x. δ x u + range (suc u) (suc v) x) (λ x. sym (range_none (suc (suc u)) (suc v) x (omega arith)))
    (λ x. omega (arith, range_is (suc u) (suc v) x (omega arith), lower_suc (suc u) x, ap (λ (y : ℕ). lower (suc y) x) e))
    (rim_column X (suc u) (u — suc u) (inl refl) (subst (λ (y : ℕ). R (y, f 0)) e rv)))

pub left_on_lem : {a b : Tree} (A : LeftRim a) (p : Plan b) → OfLeft A → OfPlan p → OfLeft (left_on A p)
unfolding span fold cols rows flats rim_up rim_down
left_on_lem {a} {b} A p rim hung k m R f u v X h lv K rv =
    let c : ℕ = u + span a in
    let C : Cut u c v = cut_at u (span a) (span b) (span_pos a) (span_pos b) h in
    let K₂ : Knows R c (f 0 ∷ map f (rows p)) = knows_right c (left_rows f A) (f 0 ∷ map f (rows p)) (omega (arith, left_length f A)) K in
    block_is (range (suc (suc u)) (suc v)) (λ x. δ x u + range (suc u) (suc v) x)
    (λ x. to_last C x (suc (suc u)) (omega arith)) (rim_left C)
    (block_link (c — v) (inl refl) X.place X.known (inr refl) (inr refl)
    (rim k m R f u c X refl (omega arith) (knows_left (left_rows f A) (f 0 ∷ map f (rows p)) K) (knows_head K₂))
    (piece_raise (omega arith) (hung (λ z. R (row_by f z)) c v (omega arith) (knows_head K₂) rv (knows_map f (rows p) (knows_tail K₂))).piece)
    (rim_column X v (u — v) (inl refl) rv))

pub right_end_lem : OfRight right_end
unfolding span fold cols rows flats rim_up rim_down
right_end_lem k m R f u v w X h e lv ru K =
    let g : u ≡ w = omega arith in
    subst (λ (y : ℕ). Block k R (X.st u, (u — v)) (X.st y, (y — v)) (range (suc u) v) (λ x. δ x v + range u v x) ((u — v) ∷ []) []) g
    (block_is (range (suc u) v) (λ x. δ x v + range u v x) (λ x. sym (range_none (suc u) v x (omega arith)))
    (λ x. omega (arith, range_is u v x (omega arith), lower_suc u x, ap (λ (y : ℕ). lower y x) (e_suc h)))
    (rim_column X u (u — v) (inr refl) ru))
  where
    e_suc : {u v : ℕ} → u + 1 ≡ v → v ≡ suc u
    e_suc q = omega arith

pub right_on_lem : {a b : Tree} (p : Plan a) (B : RightRim b) → OfPlan p → OfRight B → OfRight (right_on p B)
unfolding span fold cols rows flats rim_up rim_down
right_on_lem {a} {b} p B hung rim k m R f u v w X h e lv ru K =
    let c : ℕ = u + span a in
    let C : Cut u c v = cut_at u (span a) (span b) (span_pos a) (span_pos b) h in
    let K₂ : Knows R c (f 0 ∷ right_rows f B) = knows_right c (map f (rows p)) (f 0 ∷ right_rows f B) (omega (arith, length-map (rows p) f, rows_length p)) K in
    block_is (range (suc u) v) (λ x. δ x v + range u v x)
    (inner C) (rim_right C)
    (block_link (u — c) (inl refl) X.place X.known (inl refl) (inl refl)
    (rim_column X u (u — v) (inr refl) ru)
    (piece_raise (omega arith) (hung (λ z. R (row_by f z)) u c refl ru (knows_head K₂) (knows_map f (rows p) (knows_left (map f (rows p)) (f 0 ∷ right_rows f B) K))).piece)
    (rim k m R f c v w X (omega arith) e (omega arith) (knows_head K₂) (knows_tail K₂)))

pub right_past_lem : {a b : Tree} (p : Plan a) (G : RightGate b) → OfPlan p → OfRightGate G → OfRightGate (right_past p G)
unfolding span fold cols rows flats rim_up rim_down
right_past_lem {a} {b} p G hung gate k m R u v w h e fit lv rv ru K =
    let f : ℕ → ℕ = λ r. k - r in
    let c : ℕ = u + span a in
    let C : Cut u c v = cut_at u (span a) (span b) (span_pos a) (span_pos b) h in
    let X : Rim k m R v f = rim_up k m R v fit rv in
    let K₂ : Knows R c (f 0 ∷ right_gate_rows f G) = knows_right c (map f (rows p)) (f 0 ∷ right_gate_rows f G) (omega (arith, length-map (rows p) f, rows_length p)) K in
    to_link (u — c) (range (suc u) v) (λ x. δ x v + range u v x)
    (inner C) (rim_right C)
    (inl refl) X.place X.known (inl refl) (inl refl)
    (rim_column X u (u — v) (inr refl) ru)
    (piece_raise (omega arith) (hung (λ z. R (row_by f z)) u c refl ru (knows_head K₂) (knows_map f (rows p) (knows_left (map f (rows p)) (f 0 ∷ right_gate_rows f G) K))).piece)
    (gate k m R c v w (omega arith) e fit (omega arith) rv (knows_head K₂) (knows_tail K₂))

pub right_gate_lem : {a b : Tree} (S : Stem a) (B : RightRim b) → OfStem S → OfRight B → OfRightGate (right_gate S B)
unfolding span fold cols rows flats rim_up rim_down
right_gate_lem {a} {b} S B stem rim k m R u v w h e fit lv rv ru K =
    let f : ℕ → ℕ = λ r. k - r in
    let c : ℕ = u + span a in
    let X : Rim k m R v suc = rim_down k m R v u fit rv (row_k R u k ru) in
    let K₂ : Knows R c (1 ∷ right_rows suc B) = knows_right c (stem_rows suc f S) (1 ∷ right_rows suc B) (omega (arith, stem_length suc f S)) K in
    to_join (λ x. δ x w) (range (suc u) v) (λ x. δ x v + range u v x)
    (λ x. omega (arith, range_is (suc u) v x (omega (arith, span_pos a)), range_is c w x (omega (arith, span_pos b)), range_is (suc u) c x (omega (arith, span_pos a)), lower_suc w x, ap (λ (y : ℕ). lower y x) e))
    (λ x. omega (arith, range_is u v x (omega arith), range_is c v x (omega arith), range_is u (suc c) x (omega arith), lower_suc c x))
    (λ x. omega arith)
    (rim_column (rim_up k m R v fit rv) u (u — v) (inr refl) ru)
    (to_join (λ x. 0) (λ x. range c w x + range (suc u) c x) (λ x. range c v x + range u (suc c) x) (λ x. omega arith) (λ x. omega arith) (λ x. omega arith)
    (block_reverse (range c w) (λ x. omega (arith, range_is (suc c) v x (omega (arith, span_pos b)), range_is c w x (omega (arith, span_pos b)), lower_suc c x, lower_suc w x, ap (λ (y : ℕ). lower y x) e))
    (rim k m R suc c v w X (omega arith) e (omega arith) (knows_head K₂) (knows_tail K₂)))
    (stem k m R v u c refl fit (omega arith) rv (row_k R u k ru) (knows_head K₂) (knows_left (stem_rows suc f S) (1 ∷ right_rows suc B) K)))

pub left_past_lem : {a b : Tree} (G : LeftGate a) (p : Plan b) → OfLeftGate G → OfPlan p → OfLeftGate (left_past G p)
unfolding span fold cols rows flats rim_up rim_down
left_past_lem {a} {b} G p gate hung k m R u v h fit lv ru K rv =
    let f : ℕ → ℕ = λ r. k - r in
    let c : ℕ = u + span a in
    let C : Cut u c v = cut_at u (span a) (span b) (span_pos a) (span_pos b) h in
    let X : Rim k m R u f = rim_up k m R u fit ru in
    let K₂ : Knows R c (f 0 ∷ map f (rows p)) = knows_right c (left_gate_rows f G) (f 0 ∷ map f (rows p)) (omega (arith, left_gate_length f G)) K in
    from_link (c — v) (range (suc u) (suc v)) (λ x. δ x u + range (suc u) (suc v) x)
    (λ x. to_last C x (suc u) (omega arith)) (rim_left C)
    (inl refl) X.place X.known (inr refl) (inr refl)
    (gate k m R u c refl fit (omega arith) ru (knows_left (left_gate_rows f G) (f 0 ∷ map f (rows p)) K) (knows_head K₂))
    (piece_raise (omega arith) (hung (λ z. R (row_by f z)) c v (omega arith) (knows_head K₂) rv (knows_map f (rows p) (knows_tail K₂))).piece)
    (rim_column X v (u — v) (inl refl) rv)

pub left_gate_lem : {a b : Tree} (A : LeftRim a) (S : Stem b) → OfLeft A → OfBack S → OfLeftGate (left_gate A S)
unfolding span fold cols rows flats rim_up rim_down
left_gate_lem {a} {b} A S rim stem k m R u v h fit lv ru K rv =
    let f : ℕ → ℕ = λ r. k - r in
    let c : ℕ = u + span a in
    let X : Rim k m R u suc = rim_down k m R u v fit ru (row_k R v k rv) in
    let K₂ : Knows R c (1 ∷ stem_rows f suc S) = knows_right c (left_rows suc A) (1 ∷ stem_rows f suc S) (omega (arith, left_length suc A)) K in
    from_join (range (suc u) (suc v)) (λ x. δ x u + range (suc u) (suc v) x)
    (λ x. omega (arith, range_is (suc u) (suc v) x (omega arith), range_is (suc u) c x (omega (arith, span_pos a)), range_is c (suc v) x (omega arith)))
    (λ x. omega (arith, range_is (suc u) (suc v) x (omega arith), range_is (suc u) (suc c) x (omega arith), range_is c (suc v) x (omega arith), lower_suc c x))
    (λ x. omega arith)
    (stem k m R u c v (omega arith) fit (omega arith) ru (knows_head K₂) (row_k R v k rv) (knows_tail K₂))
    (block_is (range (suc u) c) (λ x. δ x u + range (suc u) (suc c) x) (λ x. omega arith) (λ x. omega arith)
    (block_join {gs = []} (λ x. 0) (λ x. omega arith) all_nil
    (block_reverse (range (suc u) c) (λ x. omega (arith, range_is (suc (suc u)) (suc c) x (omega (arith, span_pos a)), range_is (suc u) c x (omega (arith, span_pos a)), lower_suc c x, lower_suc (suc u) x))
    (rim k m R suc u c X refl (omega arith) (knows_left (left_rows suc A) (1 ∷ stem_rows f suc S) K) (knows_head K₂)))
    (rim_column (rim_up k m R u fit ru) v (u — v) (inl refl) rv)))

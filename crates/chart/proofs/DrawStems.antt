-- The columns of a stem from those of its parts.
use mathlib.Core.Path.{◌≡◌, refl, ap}
use mathlib.Core.Logic.{inl, inr}
use mathlib.Core.List.{[], ◌∷◌, map}
use Prim.Native.Nat.{ℕ, suc, ◌+◌, ◌-◌}
use native.Mathlib.Omega.{arith}
use lib.ListN.{length-map}
use Rattle.lists.specs.Lists.{all_cons, all_nil}
use Rattle.polygon.specs.Polygon.{◌—◌}
use Rattle.polygon.specs.Tree.{Tree, node, span}
use Rattle.polygon.proofs.Chords.{span_pos}
use Rattle.umbrella.specs.Plan.{Plan, Stem, end_both, end_left, end_right, go_left, go_right, fold}
use Rattle.chart.specs.Places.{cols, rows, stem_rows}
use Rattle.chart.proofs.Cells.{row_by, δ, lower, lower_suc, range, range_is}
use Rattle.chart.proofs.Cut.{Cut, cut_at, inner, inner_back, to_last, from_first, stem_left_lem, stem_right_lem, back_left, back_right}
use Rattle.chart.proofs.Block.{piece_blank, piece_raise, piece_reverse}
use Rattle.chart.proofs.Umbrella.{to_block, from_block, to_link, from_link}
use Rattle.chart.proofs.Rows.{Knows, knows_left, knows_right, knows_head, knows_tail, knows_map, rows_length, stem_length}
use Rattle.chart.proofs.Rim.{Rim, rim_down, gate_column, gate_place}
use Rattle.chart.proofs.Flats.{flats}
use Rattle.chart.proofs.Drawn.{OfPlan, OfStem, OfBack, row_k, row_0}

-- the last corner of a piece whose last part is a side, or whose two parts are
two_sides : {p q : ℕ} → p + (1 + 1) ≡ q → q ≡ suc (suc p)
two_sides e = omega arith

last_side : (p s : ℕ) {q : ℕ} → p + (s + 1) ≡ q → q ≡ suc (p + s)
last_side p s e = omega arith

pub stem_ends : OfStem end_both
unfolding span fold cols rows flats rim_down
stem_ends k m R w p q h fit lv rw rp rq K =
    let X : Rim k m R w suc = rim_down k m R w p fit rw rp in
    to_link (suc p — q) (range (suc p) q) (range p (suc q))
    (λ x. omega (arith, range_is (suc p) q x (omega arith), lower_suc (suc p) x, ap (λ (y : ℕ). lower y x) (two_sides h)))
    (λ x. omega (arith, range_is p (suc q) x (omega arith), lower_suc p x, lower_suc (suc p) x, lower_suc q x, ap (λ (y : ℕ). lower y x) (two_sides h)))
    (inr refl) X.place X.known (inr refl) (inr refl)
    (gate_column w q p (p — q) (omega arith) (inr refl) rw rq rp)
    (piece_blank q (suc p) m _ (λ x. 0) (λ x. refl))
    (to_block (λ x. omega arith) (gate_column w (suc p) p (p — suc p) (omega arith) (inr refl) rw (knows_head K) rp))

pub stem_ends_left : {a b : Tree} (c : Plan (node a b)) → OfPlan c → OfStem (end_left c)
unfolding span fold cols rows flats rim_down
stem_ends_left {a} {b} c hung k m R w p q h fit lv rw rp rq K =
    let X : Rim k m R w suc = rim_down k m R w p fit rw rp in
    to_link (suc p — q) (range (suc p) q) (range p (suc q))
    (λ x. omega (arith, range_is (suc p) q x (omega arith), range_is (suc (suc p)) q x (omega (arith, span_pos a)), lower_suc (suc p) x))
    (λ x. omega (arith, range_is p (suc q) x (omega arith), range_is (suc (suc p)) q x (omega (arith, span_pos a)), lower_suc p x, lower_suc (suc p) x, lower_suc q x))
    (inr refl) X.place X.known (inr refl) (inr refl)
    (gate_column w q p (p — q) (omega arith) (inr refl) rw rq rp)
    (piece_reverse (piece_raise lv (hung (λ z. R (row_by suc z)) (suc p) q (omega arith) (knows_head K) rq (knows_map suc (rows c) (knows_tail K))).piece))
    (to_block (λ x. omega arith) (gate_column w (suc p) p (p — suc p) (omega arith) (inr refl) rw (knows_head K) rp))

pub stem_ends_right : {a b : Tree} (c : Plan (node a b)) → OfPlan c → OfStem (end_right c)
unfolding span fold cols rows flats rim_down
stem_ends_right {a} {b} c hung k m R w p q h fit lv rw rp rq K =
    let f : ℕ → ℕ = λ r. k - r in
    let x : ℕ = p + (span a + span b) in
    let K₂ : Knows R x (f 0 ∷ []) = knows_right x (map f (rows c)) (f 0 ∷ []) (omega (arith, length-map (rows c) f, rows_length c)) K in
    to_link (p — x) (range (suc p) q) (range p (suc q))
    (λ z. omega (arith, range_is (suc p) q z (omega arith), range_is (suc p) x z (omega (arith, span_pos a)), lower_suc x z, ap (λ (y : ℕ). lower y z) (last_side p (span a + span b) h)))
    (λ z. omega (arith, range_is p (suc q) z (omega arith), range_is (suc p) x z (omega (arith, span_pos a)), lower_suc p z, lower_suc x z, lower_suc q z, ap (λ (y : ℕ). lower y z) (last_side p (span a + span b) h)))
    (inl refl) (gate_place k m w q fit) (all_cons rw (all_cons rq all_nil)) (inl refl) (inl refl)
    (gate_column w q p (p — q) (omega arith) (inr refl) rw rq rp)
    (piece_raise lv (hung (λ z. R (row_by f z)) p x refl (row_0 R p k rp) (knows_head K₂) (knows_map f (rows c) (knows_left (map f (rows c)) (f 0 ∷ []) K))).piece)
    (to_block (λ z. omega arith) (gate_column w q x (x — q) (omega arith) (inr refl) rw rq (row_k R x k (knows_head K₂))))

pub stem_goes_left : {a b : Tree} (S : Stem a) (c : Plan b) → OfStem S → OfPlan c → OfStem (go_left S c)
unfolding span fold cols rows flats rim_down
stem_goes_left {a} {b} S c stem hung k m R w p q h fit lv rw rp rq K =
    let f : ℕ → ℕ = λ r. k - r in
    let x : ℕ = p + span a in
    let C : Cut p x q = cut_at p (span a) (span b) (span_pos a) (span_pos b) h in
    let X : Rim k m R w suc = rim_down k m R w p fit rw rp in
    let K₂ : Knows R x (1 ∷ map suc (rows c)) = knows_right x (stem_rows suc f S) (1 ∷ map suc (rows c)) (omega (arith, stem_length suc f S)) K in
    to_link (x — q) (range (suc p) q) (range p (suc q))
    (inner_back C) (stem_left_lem C)
    (inr refl) X.place X.known (inr refl) (inr refl)
    (gate_column w q p (p — q) (omega arith) (inr refl) rw rq rp)
    (piece_reverse (piece_raise (omega arith) (hung (λ z. R (row_by suc z)) x q (omega arith) (knows_head K₂) rq (knows_map suc (rows c) (knows_tail K₂))).piece))
    (stem k m R w p x refl fit (omega arith) rw rp (knows_head K₂) (knows_left (stem_rows suc f S) (1 ∷ map suc (rows c)) K))

pub stem_goes_right : {a b : Tree} (c : Plan a) (S : Stem b) → OfPlan c → OfStem S → OfStem (go_right c S)
unfolding span fold cols rows flats rim_down
stem_goes_right {a} {b} c S hung stem k m R w p q h fit lv rw rp rq K =
    let f : ℕ → ℕ = λ r. k - r in
    let x : ℕ = p + span a in
    let C : Cut p x q = cut_at p (span a) (span b) (span_pos a) (span_pos b) h in
    let K₂ : Knows R x (f 0 ∷ stem_rows suc f S) = knows_right x (map f (rows c)) (f 0 ∷ stem_rows suc f S) (omega (arith, length-map (rows c) f, rows_length c)) K in
    to_link (p — x) (range (suc p) q) (range p (suc q))
    (inner C) (stem_right_lem C)
    (inl refl) (gate_place k m w q fit) (all_cons rw (all_cons rq all_nil)) (inl refl) (inl refl)
    (gate_column w q p (p — q) (omega arith) (inr refl) rw rq rp)
    (piece_raise (omega arith) (hung (λ z. R (row_by f z)) p x refl (row_0 R p k rp) (knows_head K₂) (knows_map f (rows c) (knows_left (map f (rows c)) (f 0 ∷ stem_rows suc f S) K))).piece)
    (stem k m R w x q (omega arith) fit (omega arith) rw (row_k R x k (knows_head K₂)) rq (knows_tail K₂))

pub back_ends : OfBack end_both
unfolding span fold cols rows flats rim_down
back_ends k m R w p q h fit lv rw rp rq K =
    let X : Rim k m R w suc = rim_down k m R w q fit rw rq in
    from_link (p — suc p) (range p (suc q)) (range p (suc q))
    (λ x. omega (arith, range_is p (suc q) x (omega arith), lower_suc p x, lower_suc (suc p) x, lower_suc q x, ap (λ (y : ℕ). lower y x) (two_sides h)))
    (λ x. omega (arith, range_is p (suc q) x (omega arith), lower_suc p x, lower_suc (suc p) x, lower_suc q x, ap (λ (y : ℕ). lower y x) (two_sides h)))
    (inr refl) X.place X.known (inl refl) (inl refl)
    (from_block (λ x. δ x (suc p) + δ x q) (λ x. omega arith) (λ x. omega arith) (gate_column w (suc p) q (suc p — q) (omega arith) (inl refl) rw (knows_head K) rq))
    (piece_blank (suc p) p m _ (λ x. 0) (λ x. refl))
    (gate_column w p q (p — q) (omega arith) (inl refl) rw rp rq)

pub back_ends_left : {a b : Tree} (c : Plan (node a b)) → OfPlan c → OfBack (end_left c)
unfolding span fold cols rows flats rim_down
back_ends_left {a} {b} c hung k m R w p q h fit lv rw rp rq K =
    let f : ℕ → ℕ = λ r. k - r in
    from_link (suc p — q) (range p (suc q)) (range p (suc q))
    (λ x. omega (arith, range_is p (suc q) x (omega arith), range_is (suc (suc p)) q x (omega (arith, span_pos a)), lower_suc p x, lower_suc (suc p) x, lower_suc q x))
    (λ x. omega (arith, range_is p (suc q) x (omega arith), range_is (suc (suc p)) q x (omega (arith, span_pos a)), lower_suc p x, lower_suc (suc p) x, lower_suc q x))
    (inl refl) (gate_place k m w p fit) (all_cons rw (all_cons rp all_nil)) (inr refl) (inr refl)
    (from_block (λ x. δ x p + δ x (suc p)) (λ x. omega arith) (λ x. omega arith) (gate_column w p (suc p) (p — suc p) (omega arith) (inl refl) rw rp (row_k R (suc p) k (knows_head K))))
    (piece_raise lv (hung (λ z. R (row_by f z)) (suc p) q (omega arith) (knows_head K) (row_0 R q k rq) (knows_map f (rows c) (knows_tail K))).piece)
    (gate_column w p q (p — q) (omega arith) (inl refl) rw rp rq)

pub back_ends_right : {a b : Tree} (c : Plan (node a b)) → OfPlan c → OfBack (end_right c)
unfolding span fold cols rows flats rim_down
back_ends_right {a} {b} c hung k m R w p q h fit lv rw rp rq K =
    let x : ℕ = p + (span a + span b) in
    let X : Rim k m R w suc = rim_down k m R w q fit rw rq in
    let K₂ : Knows R x (1 ∷ []) = knows_right x (map suc (rows c)) (1 ∷ []) (omega (arith, length-map (rows c) suc, rows_length c)) K in
    from_link (p — x) (range p (suc q)) (range p (suc q))
    (λ z. omega (arith, range_is p (suc q) z (omega arith), range_is (suc p) x z (omega (arith, span_pos a)), lower_suc p z, lower_suc x z, lower_suc q z, ap (λ (y : ℕ). lower y z) (last_side p (span a + span b) h)))
    (λ z. omega (arith, range_is p (suc q) z (omega arith), range_is (suc p) x z (omega (arith, span_pos a)), lower_suc p z, lower_suc x z, lower_suc q z, ap (λ (y : ℕ). lower y z) (last_side p (span a + span b) h)))
    (inr refl) X.place X.known (inl refl) (inl refl)
    (from_block (λ z. δ z x + δ z q) (λ z. omega arith) (λ z. omega arith) (gate_column w x q (x — q) (omega arith) (inl refl) rw (knows_head K₂) rq))
    (piece_reverse (piece_raise lv (hung (λ z. R (row_by suc z)) p x refl rp (knows_head K₂) (knows_map suc (rows c) (knows_left (map suc (rows c)) (1 ∷ []) K))).piece))
    (gate_column w p q (p — q) (omega arith) (inl refl) rw rp rq)

pub back_goes_left : {a b : Tree} (S : Stem a) (c : Plan b) → OfBack S → OfPlan c → OfBack (go_left S c)
unfolding span fold cols rows flats rim_down
back_goes_left {a} {b} S c stem hung k m R w p q h fit lv rw rp rq K =
    let f : ℕ → ℕ = λ r. k - r in
    let x : ℕ = p + span a in
    let C : Cut p x q = cut_at p (span a) (span b) (span_pos a) (span_pos b) h in
    let K₂ : Knows R x (f 0 ∷ map f (rows c)) = knows_right x (stem_rows f suc S) (f 0 ∷ map f (rows c)) (omega (arith, stem_length f suc S)) K in
    from_link (x — q) (range p (suc q)) (range p (suc q))
    (λ z. to_last C z p (omega arith)) (back_left C)
    (inl refl) (gate_place k m w p fit) (all_cons rw (all_cons rp all_nil)) (inr refl) (inr refl)
    (stem k m R w p x refl fit (omega arith) rw rp (row_k R x k (knows_head K₂)) (knows_left (stem_rows f suc S) (f 0 ∷ map f (rows c)) K))
    (piece_raise (omega arith) (hung (λ z. R (row_by f z)) x q (omega arith) (knows_head K₂) (row_0 R q k rq) (knows_map f (rows c) (knows_tail K₂))).piece)
    (gate_column w p q (p — q) (omega arith) (inl refl) rw rp rq)

pub back_goes_right : {a b : Tree} (c : Plan a) (S : Stem b) → OfPlan c → OfBack S → OfBack (go_right c S)
unfolding span fold cols rows flats rim_down
back_goes_right {a} {b} c S hung stem k m R w p q h fit lv rw rp rq K =
    let f : ℕ → ℕ = λ r. k - r in
    let x : ℕ = p + span a in
    let C : Cut p x q = cut_at p (span a) (span b) (span_pos a) (span_pos b) h in
    let X : Rim k m R w suc = rim_down k m R w q fit rw rq in
    let K₂ : Knows R x (1 ∷ stem_rows f suc S) = knows_right x (map suc (rows c)) (1 ∷ stem_rows f suc S) (omega (arith, length-map (rows c) suc, rows_length c)) K in
    from_link (p — x) (range p (suc q)) (range p (suc q))
    (from_first C) (back_right C)
    (inr refl) X.place X.known (inl refl) (inl refl)
    (stem k m R w x q (omega arith) fit (omega arith) rw (knows_head K₂) rq (knows_tail K₂))
    (piece_reverse (piece_raise (omega arith) (hung (λ z. R (row_by suc z)) p x refl rp (knows_head K₂) (knows_map suc (rows c) (knows_left (map suc (rows c)) (1 ∷ stem_rows f suc S) K))).piece))
    (gate_column w p q (p — q) (omega arith) (inl refl) rw rp rq)

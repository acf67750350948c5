-- Request (xi) is proved: the theorems of the crates sheet, edit, seam and cut on the angles of parts, and that nothing planned or drawn depends on them.
use mathlib.Core.Path.{◌≡◌, refl, ap, sym, ◌∙◌}
use mathlib.Core.Logic.{◌⊎◌, ◌↔◌, inl, inr}
use mathlib.Core.List.{List}
use Prim.Native.Nat.{ℕ, ◌<◌}
use native.Mathlib.Omega.{arith}
use lib.ListN.{get_or}
use Rattle.lists.specs.Lists.{Sub}
use Rattle.polygon.specs.Angles.{none}
use Rattle.polygon.specs.Polygon.{Polygon}
use Rattle.polygon.specs.Order.{lower_first}
use Rattle.polygon.specs.Carried.{carried}
use Rattle.polygon.proofs.Angles.{angle_none}
use Rattle.codec.specs.Numbers.{get16}
use Rattle.codec.specs.Answer.{write}
use Rattle.codec.specs.TwoOutputs.{write_both}
use Rattle.sheet.specs.Sheet.{bit3, Reading, refused, held, listed_angles, angled, read_sheet, normal_sheet, outcome, ordered}
use Rattle.sheet.specs.Listing.{pairs_of}
use Rattle.sheet.proofs.Hand.{bared}
use Rattle.sheet.proofs.Asks.{refused_1c, refused_by_23}
use Rattle.sheet.proofs.Accepts.{read_angles, read_bit, same_normal}
use Rattle.sheet.proofs.Back.{normal_bit, normal_count}
use Rattle.sheet.proofs.Normal.{normal_length_lem}
use Rattle.sheet.proofs.Valid.{read_valid}
use Rattle.edit.specs.Rules.{Edit, rule}
use Rattle.edit.specs.Calls.{on_held, edited}
use Rattle.edit.proofs.Theorems.{turn_angles, add_angles, off_angles, result_angled}
use Rattle.seam.specs.Join.{join_rule, joined_sheets}
use Rattle.seam.proofs.Theorems.{first_angles, second_angles, seam_angle, joined_angled}
use Rattle.cut.specs.Cut.{inner_part, rest_part, cut_sheet}
use Rattle.cut.proofs.Theorems.{inner_angles, rest_angles, inner_angled, rest_angled, joined_again, many_rejoined, four_rejoined, both_triangles, cut_wrote}
use Rattle.chart_reader.specs.Reader.{read_chart, chart_read}
use Rattle.chart_reader.proofs.Verdict.{by_reading}
use Rattle.chart_reader.proofs.Accepts.{held_keeps}
use Rattle.promises.specs.SameDrawing.{SameDrawing}
use Rattle.promises.specs.BendAngles.{Bit3, BendAngles}
use Rattle.promises.proofs.SameDrawing.{drawn_alike}

-- what is written is the normal sheet of the part that a reading holds
wrote : {A : Type 0} (r : Reading) (t : List ℕ) → outcome r ≡ write t → ((p : Polygon) → r ≡ held p → normal_sheet p ≡ t → A) → A
unfolding outcome
wrote (refused k) t e f = absurd (let z : ◌≡◌ {A = ℕ} 0 1 = cc in omega arith)
wrote (held p) t e f = f p refl cc

-- a refusal writes nothing
none_written : {A : Type 0} (k : ℕ) (t : List ℕ) → outcome (refused k) ≡ write t → A
none_written k t x = wrote (refused k) t x (λ p r n. let z : ◌≡◌ {A = ℕ} 0 1 = cc in absurd (omega arith))

wrote_bit : (p : Polygon) (t : List ℕ) → normal_sheet p ≡ t → bit3 (get_or t 0 0) ≡ angled p.angles
wrote_bit p t n = sym (ap (λ (x : List ℕ). bit3 (get_or x 0 0)) n) ∙ normal_bit p

order_bit : (s t : List ℕ) → ordered s ≡ write t → Bit3 t ↔ Bit3 s
unfolding ordered
order_bit s t e = wrote (read_sheet s) t e (λ p r n. let b = wrote_bit p t n ∙ sym (read_bit s p r) in (λ h. sym b ∙ h, λ h. b ∙ h))

-- of a part q that comes from one that was read
from_bit : (s t : List ℕ) (p q : Polygon) → read_sheet s ≡ held p → normal_sheet q ≡ t → ((angled q.angles ≡ 1) ↔ ((angled p.angles ≡ 1) × (3 < q.n))) → Bit3 t ↔ (Bit3 s × (3 < get16 t 1))
from_bit s t p q d n A =
    let b = wrote_bit q t n in
    let c = read_bit s p d in
    let m : get16 t 1 ≡ q.n = sym (ap (λ (x : List ℕ). get16 x 1) n) ∙ normal_count q in
    (λ h. let a = A.0 (sym b ∙ h) in (c ∙ a.0, rw m a.1), λ h. b ∙ A.1 (sym c ∙ h.0, rw m at h.1))

edit_bit : (e : Edit) (s t : List ℕ) → edited e s ≡ write t → Bit3 t ↔ (Bit3 s × (3 < get16 t 1))
unfolding edited on_held
edit_bit e s t w = go (read_sheet s) refl w
  where
    go : (r : Reading) → read_sheet s ≡ r → outcome (on_held r (rule e)) ≡ write t → Bit3 t ↔ (Bit3 s × (3 < get16 t 1))
    go (refused k) d x = none_written k t x
    go (held p) d x = wrote (rule e p) t x (λ q r n.
        from_bit s t p q d n (result_angled e p q r))

join_bit : (s t u : List ℕ) (i : ℕ) → joined_sheets s t i ≡ write u → (Bit3 u ↔ (Bit3 s ⊎ Bit3 t)) × (3 < get16 u 1)
unfolding joined_sheets on_held
join_bit s t u i w = go (read_sheet s) refl (read_sheet t) refl w
  where
    go : (x : Reading) → read_sheet s ≡ x → (y : Reading) → read_sheet t ≡ y → outcome (on_held x (λ p. on_held y (join_rule i p))) ≡ write u → (Bit3 u ↔ (Bit3 s ⊎ Bit3 t)) × (3 < get16 u 1)
    go (refused k) d y e x = none_written k u x
    go (held p) d (refused k) e x = none_written k u x
    go (held p) d (held q) e x = wrote (join_rule i p q) u x (λ g r n.
        let A = joined_angled i p q r in
        let b = wrote_bit g u n in
        let c = read_bit s p d in
        let f = read_bit t q e in
        let m : get16 u 1 ≡ g.n = sym (ap (λ (x : List ℕ). get16 x 1) n) ∙ normal_count g in (
          (λ h. elim (A.0.0 (sym b ∙ h)) [ inl a ↦ inl (c ∙ a) | inr a ↦ inr (f ∙ a) ], λ h. elim h [ inl a ↦ b ∙ A.0.1 (inl (sym c ∙ a)) | inr a ↦ b ∙ A.0.1 (inr (sym f ∙ a)) ]),
          rw m (A.1 (read_valid s p d) (read_valid t q e)),
        ))

cut_bit : (s t u : List ℕ) (a b : ℕ) → cut_sheet s a b ≡ write_both t u → (Bit3 t ↔ (Bit3 s × (3 < get16 t 1))) × (Bit3 u ↔ (Bit3 s × (3 < get16 u 1)))
cut_bit s t u a b w =
    let c = lower_first (a, b) in
    let (p, d, n, o) = cut_wrote s a b w in
    (from_bit s t p (inner_part c p) d n (inner_angled c p), from_bit s u p (rest_part c p) d o (rest_angled c p))

chart_bit : (c t : List ℕ) → chart_read c ≡ write t → ¬ Bit3 t
unfolding chart_read
chart_bit c t w = wrote (read_chart c) t w (λ p r n h.
    let bare_part : p.angles ≡ none = sym (ap (λ (x : Polygon). x.angles) (held_keeps c p (by_reading c r) refl).is) in
    omega (arith, wrote_bit p t n, ap angled bare_part, h))

moves : (s t : List ℕ) (p q : Polygon) → read_sheet s ≡ held p → read_sheet t ≡ held q
    → Sub (pairs_of s p.n) (pairs_of t q.n) → Sub (pairs_of t q.n) (pairs_of s p.n)
    → listed_angles t q.n ≡ carried (pairs_of s p.n) (listed_angles s p.n) (pairs_of t q.n)
    → ordered s ≡ ordered t
unfolding ordered outcome
moves s t p q d e f g h = ap outcome d ∙ (ap write (same_normal s t p q d e f g h) ∙ sym (ap outcome e))

-- of two sheets that hold parts which differ in angles only
same_drawing : (s t : List ℕ) (p q : Polygon) → read_sheet s ≡ held p → read_sheet t ≡ held q → p.n ≡ q.n → p.ds ≡ q.ds → SameDrawing s t
unfolding bared
same_drawing s t p q d e n ds = drawn_alike s t (ap bared d ∙ ((λ i. held (record { n = n i; ds = ds i; angles = none })) ∙ sym (ap bared e)))

pub bend_angles : BendAngles
bend_angles = record {
  stands = λ s p e. (λ h. sym (read_bit s p e) ∙ h, λ h. read_bit s p e ∙ h);
  listed = read_angles;
  moves = moves;
  zero = inl (omega arith);
  allowed = λ s p e. (read_valid s p e).allowed;
  turned = turn_angles;
  none_before = λ p d f. angle_none p.ds p.angles d f;
  added = add_angles;
  joined = λ i p q P Q. (first_angles i p q P Q, second_angles i p q P Q, seam_angle i p q P Q);
  off = off_angles;
  cut = λ c p P m. (inner_angles c p P m, rest_angles c p P m);
  joined_again = λ c p P m h. joined_again c p P m ∙ many_rejoined c p h;
  triangles_again = λ c p P m h k. joined_again c p P m ∙ four_rejoined c p ((both_triangles c p P m).0 (h, k));
  both_triangles = both_triangles;
  order_bit = order_bit;
  edit_bit = edit_bit;
  join_bit = join_bit;
  cut_bit = cut_bit;
  chart_bit = chart_bit;
  size = normal_length_lem;
  old_edition = λ s h. omega arith;
  same = same_drawing;
  by_23 = refused_by_23;
  by_1 = λ s h. refused_1c s h;
}

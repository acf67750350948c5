-- The tests of a sheet: which facts refuse it by which number, and the facts of a sheet that is held.
use mathlib.Core.Path.{◌≡◌, refl, sym, ◌∙◌}
use mathlib.Core.Logic.{◌↔◌}
use mathlib.Core.List.{List}
use Prim.Native.Nat.{ℕ, ◌-◌, ◌≤◌, ◌<◌}
use native.Mathlib.Omega.{arith}
use lib.ListN.{length, get_or}
use Rattle.lists.specs.Lists.{All}
use Rattle.polygon.specs.Angles.{Angles, Allowed, allowed?}
use Rattle.polygon.specs.Polygon.{Edge, NoneCross, Diagonal, Polygon}
use Rattle.polygon.specs.Order.{Distinct, sort}
use Rattle.polygon.specs.Carried.{carried}
use Rattle.codec.specs.Numbers.{get16}
use Rattle.sheet.specs.Sheet.{Reading, refused, held, ask, bit0, bit1, sheet_length, pairs, listed_angles, more, read_sheet}
use Rattle.sheet.specs.Framed.{Framed, Paired}
use Rattle.sheet.proofs.PairTests.{pair_tests}

-- a test that is passed, and one that is not
pub ask_yes : {P : Type 0} (k : ℕ) (d : Dec P) (r : Reading) → P → ask k d r ≡ r
unfolding ask
ask_yes k (yes p) r h = refl
ask_yes k (no p) r h = absurd (p h)

pub ask_no : {P : Type 0} (k : ℕ) (d : Dec P) (r : Reading) → ¬ P → ask k d r ≡ refused k
unfolding ask
ask_no k (yes p) r h = absurd (h p)
ask_no k (no p) r h = refl

pub past : {P : Type 0} {t : Reading} (k : ℕ) (d : Dec P) (r : Reading) → P → r ≡ t → ask k d r ≡ t
past k d r h e = ask_yes k d r h ∙ e

-- the pairs of a sheet, and what it holds if it passes every test
abbrev pub edges_in : List ℕ → List Edge
edges_in s = pairs s 3 (get16 s 1 - 3)

abbrev pub angles_of : List ℕ → Angles
angles_of s = listed_angles s (get16 s 1)

abbrev pub part_in : List ℕ → Polygon
part_in s = record { n = get16 s 1; ds = sort (edges_in s); angles = carried (edges_in s) (angles_of s) (sort (edges_in s)) }

-- a sheet that passes every test
pub record Form (s : List ℕ) : Type 0 where
  pub paired : Paired s
  pub allowed : Allowed (get16 s 1) (angles_of s)

module _ (s : List ℕ) where
  -- 1: empty, bit 0 clear, or bit 4 to 7 set
  pub refused_1a : length s ≡ 0 → read_sheet s ≡ refused 1
  unfolding read_sheet
  refused_1a h = ask_no 1 _ _ (λ t. omega arith)

  pub refused_1b : bit0 (get_or s 0 0) ≡ 0 → read_sheet s ≡ refused 1
  unfolding read_sheet
  refused_1b h = ask_no 1 _ _ (λ t. omega arith)

  pub refused_1c : 16 ≤ get_or s 0 0 → read_sheet s ≡ refused 1
  unfolding read_sheet
  refused_1c h = ask_no 1 _ _ (λ t. omega arith)

  module _ (some : 1 ≤ length s) (low : bit0 (get_or s 0 0) ≡ 1) (small : get_or s 0 0 < 16) where
    -- 2: under 3 bytes
    pub refused_2a : length s < 3 → read_sheet s ≡ refused 2
    unfolding read_sheet
    refused_2a h = past 1 _ _ (some, (low, small)) (ask_no 2 _ _ (λ t. omega arith))

    module _ (three : 3 ≤ length s) where
      -- 3: n outside 3 to 1,024
      counted : ¬ ((3 ≤ get16 s 1) × (get16 s 1 ≤ 1024)) → read_sheet s ≡ refused 3
      unfolding read_sheet
      counted h = past 1 _ _ (some, (low, small)) (past 2 _ _ three (ask_no 3 _ _ h))

      pub refused_3a : get16 s 1 < 3 → read_sheet s ≡ refused 3
      refused_3a h = counted (λ t. omega arith)

      pub refused_3b : 1024 < get16 s 1 → read_sheet s ≡ refused 3
      refused_3b h = counted (λ t. omega arith)

      module _ (least : 3 ≤ get16 s 1) (most : get16 s 1 ≤ 1024) where
        -- 4: bit 1 disagrees with n
        pub refused_4 : ¬ (bit1 (get_or s 0 0) ≡ more (get16 s 1)) → read_sheet s ≡ refused 4
        unfolding read_sheet
        refused_4 h = past 1 _ _ (some, (low, small)) (past 2 _ _ three (past 3 _ _ (least, most) (ask_no 4 _ _ h)))

        -- 2: length not exact
        pub refused_2b : bit1 (get_or s 0 0) ≡ more (get16 s 1) → ¬ (length s ≡ sheet_length (get_or s 0 0) (get16 s 1)) → read_sheet s ≡ refused 2
        unfolding read_sheet
        refused_2b agrees h = past 1 _ _ (some, (low, small)) (past 2 _ _ three (past 3 _ _ (least, most) (past 4 _ _ agrees (ask_no 2 _ _ h))))

pub framed : {s : List ℕ} → Framed s → read_sheet s ≡ pair_tests (get16 s 1) (edges_in s) (angles_of s)
unfolding read_sheet
framed F = past 1 _ _ (F.some, (F.low, F.small)) (past 2 _ _ F.three (past 3 _ _ (F.least, F.most) (past 4 _ _ F.agrees (ask_yes 2 _ _ F.exact))))

module _ {s : List ℕ} (F : Framed s) where
  -- 5: some pair no diagonal
  pub refused_5 : ¬ All (Diagonal (get16 s 1)) (edges_in s) → read_sheet s ≡ refused 5
  refused_5 h = framed F ∙ ask_no 5 _ _ h

  module _ (diagonals : All (Diagonal (get16 s 1)) (edges_in s)) where
    -- 6: a pair repeated, either way round
    pub refused_6 : ¬ Distinct (edges_in s) → read_sheet s ≡ refused 6
    refused_6 h = framed F ∙ past 5 _ _ diagonals (ask_no 6 _ _ h)

    -- 7: two cross
    pub refused_7 : Distinct (edges_in s) → ¬ NoneCross (edges_in s) → read_sheet s ≡ refused 7
    refused_7 distinct h = framed F ∙ past 5 _ _ diagonals (past 6 _ _ distinct (ask_no 7 _ _ h))

-- 23: an angle out of range, or bit 3 with n = 3
pub refused_23 : {s : List ℕ} → Paired s → ¬ Allowed (get16 s 1) (angles_of s) → read_sheet s ≡ refused 23
refused_23 P h = framed P.framed ∙ past 5 _ _ P.diagonals (past 6 _ _ P.distinct (past 7 _ _ P.none_cross (ask_no 23 _ _ h)))

-- a sheet is held exactly if it passes every test, and what is held is one part
pub form_held : {s : List ℕ} → Form s → read_sheet s ≡ held (part_in s)
form_held W = let P = W.paired in framed P.framed ∙ past 5 _ _ P.diagonals (past 6 _ _ P.distinct (past 7 _ _ P.none_cross (ask_yes 23 _ _ W.allowed)))

-- a test that another number than k refuses is passed, and those up to 7 one after another
on : {P : Type 0} {q : Reading} (k : ℕ) (d : Dec P) (r : Reading) → ¬ (refused k ≡ q) → ask k d r ≡ q → P × (r ≡ q)
unfolding ask
on k (yes h) r f e = (h, e)
on k (no h) r f e = absurd (f e)

paired_on : (s : List ℕ) (q : Reading) → ((k : ℕ) → k < 8 → ¬ (refused k ≡ q)) → read_sheet s ≡ q → Paired s × (ask 23 (allowed? (get16 s 1) (angles_of s)) (held (part_in s)) ≡ q)
unfolding read_sheet
paired_on s q f e =
    let A = on 1 _ _ (f 1 (omega arith)) e in
    let B = on 2 _ _ (f 2 (omega arith)) A.1 in
    let C = on 3 _ _ (f 3 (omega arith)) B.1 in
    let D = on 4 _ _ (f 4 (omega arith)) C.1 in
    let E = on 2 _ _ (f 2 (omega arith)) D.1 in
    let F = on 5 _ _ (f 5 (omega arith)) E.1 in
    let G = on 6 _ _ (f 6 (omega arith)) F.1 in
    let H = on 7 _ _ (f 7 (omega arith)) G.1 in
    let T : Framed s = record { some = A.0.0; low = A.0.1.0; small = A.0.1.1; three = B.0; least = C.0.0; most = C.0.1; agrees = D.0; exact = E.0 } in
    (record { framed = T; diagonals = F.0; distinct = G.0; none_cross = H.0 }, H.1)

pub held_form : (s : List ℕ) (p : Polygon) → read_sheet s ≡ held p → Form s × (p ≡ part_in s)
held_form s p e =
    let (P, a) = paired_on s (held p) (λ k h x. not_held k p x) e in
    let (A, x) = on 23 _ _ (not_held 23 p) a in
    (record { paired = P; allowed = A }, cc)
  where
    not_held : (k : ℕ) (p : Polygon) → refused k ≡ held p → ⊥
    not_held k p x = let z : ◌≡◌ {A = ℕ} 0 1 = cc in omega arith

-- Refusal 23, "right after 7": exactly if the tests up to 7 are passed and the angles are not allowed.
pub refused_by_23 : (s : List ℕ) → (read_sheet s ≡ refused 23) ↔ (Paired s × (¬ Allowed (get16 s 1) (angles_of s)))
refused_by_23 s = (there, λ h. refused_23 h.0 h.1)
  where
    other : (k : ℕ) → k < 8 → ¬ (refused k ≡ refused 23)
    other k h x = let z : k ≡ 23 = cc in omega arith

    there : read_sheet s ≡ refused 23 → Paired s × (¬ Allowed (get16 s 1) (angles_of s))
    there e = let (P, a) = paired_on s (refused 23) other e in (P, λ A. let x = sym (ask_yes 23 (allowed? (get16 s 1) (angles_of s)) (held (part_in s)) A) ∙ a in let z : ◌≡◌ {A = ℕ} 0 1 = cc in omega arith)

-- Request (xii): a sheet is read as the same sheet without bit 2 and its four bytes, and so two sheets that differ only there are read alike.
use mathlib.Core.Path.{◌≡◌, refl, ap, ap₂, sym, ◌∙◌}
use mathlib.Core.Logic.{◌↔◌}
use mathlib.Core.List.{List, ◌∷◌, ◌++◌}
use Prim.Native.Nat.{ℕ, zero, suc, ◌+◌, ◌*◌, ◌-◌, ◌/◌, ◌%◌, ◌≤◌, ◌<◌}
use native.Mathlib.Omega.{arith}
use lib.ListN.{length, take, drop, set, get_or, length-set, length-append, length-drop, get_or-append}
use lib.Seq.{get_or-append-add, get_or-drop, get_or-take, get_or-set_same, get_or-set_other, length-take-le, take_at, drop_at, drop-append-add}
use Rattle.lists.specs.Lists.{choose}
use Rattle.lists.proofs.Lists.{choose_yes, choose_no}
use Rattle.polygon.specs.Polygon.{Edge}
use Rattle.polygon.specs.Order.{lower_first}
use Rattle.codec.specs.Numbers.{get16}
use Rattle.codec.proofs.Numbers.{get16_same}
use Rattle.sheet.specs.Sheet.{bit0, bit1, bit2, bit3, field, sheet_length, angles_at, angles_if, more, pairs, angles, read_sheet}
use Rattle.sheet.specs.Skipped.{pairs_end, HasNumber, has_number?, stripped, skipped, OnlyThere}
use Rattle.sheet.proofs.Alike.{Alike, Exact, read_alike}
use Rattle.sheet.proofs.Asks.{edges_in, angles_of}
use Rattle.sheet.proofs.Fields.{length_is, angles_at_lem}

-- pairs that have the same bytes
pairs_same : (s t : List ℕ) (at k : ℕ) → ((i : ℕ) → at ≤ i → i < at + 4 * k → get_or s i 0 ≡ get_or t i 0) → pairs s at k ≡ pairs t at k
unfolding pairs
pairs_same s t at zero h = refl
pairs_same s t at (suc k) h =
    let a = get16_same s t at (h at (omega arith) (omega arith)) (h (at + 1) (omega arith) (omega arith)) in
    let b = get16_same s t (at + 2) (h (at + 2) (omega arith) (omega arith)) (h (at + 2 + 1) (omega arith) (omega arith)) in
    ap₂ (λ (e : Edge) (es : List Edge). e ∷ es) (λ i. lower_first (a i, b i)) (pairs_same s t (at + 4) k (λ i l m. h i (omega arith) (omega arith)))

-- angles that have the same bytes four places on
angles_same : (s t : List ℕ) (at k : ℕ) → ((i : ℕ) → at ≤ i → get_or s i 0 ≡ get_or t (i + 4) 0) → angles s at k ≡ angles t (at + 4) k
unfolding angles
angles_same s t at zero h = refl
angles_same s t at (suc k) h =
    let e : at + 4 + 1 ≡ at + 1 + 4 = omega arith in
    let f : at + 4 + 2 ≡ at + 2 + 4 = omega arith in
    ap₂ ◌∷◌ (ap₂ (λ (x y : ℕ). x * 256 + y) (h at (omega arith)) (rw e (h (at + 1) (omega arith)))) (rw f (angles_same s t (at + 2) k (λ i l. h i (omega arith))))

-- a sheet with bit 2 and its four bytes, and the same sheet without them
module _ (s : List ℕ) (N : HasNumber s) where
  ends : length (take (pairs_end s) s) ≡ pairs_end s
  ends = length-take-le (pairs_end s) s (omega arith)

  size : length (stripped s) + 4 ≡ length s
  unfolding stripped
  size = simp (length-set, length-append, length-drop) (omega (arith, ends))

  map : get_or (stripped s) 0 0 ≡ get_or s 0 0 - 4
  unfolding stripped
  map = get_or-set_same (take (pairs_end s) s ++ drop (pairs_end s + 4) s) 0 (get_or s 0 0 - 4) 0 (omega (arith, ends, length-append (take (pairs_end s) s) (drop (pairs_end s + 4) s)))

  byte : (i : ℕ) → 0 < i → i < pairs_end s → get_or (stripped s) i 0 ≡ get_or s i 0
  unfolding stripped
  byte i h k =
      let xs : List ℕ = take (pairs_end s) s in
      let ys : List ℕ = drop (pairs_end s + 4) s in
      get_or-set_other (xs ++ ys) 0 i (get_or s 0 0 - 4) 0 (λ e. omega arith) ∙ (get_or-append xs ys 0 i (omega (arith, ends)) ∙ get_or-take (pairs_end s) s i 0 k)

  byte_behind : (i : ℕ) → pairs_end s ≤ i → get_or (stripped s) i 0 ≡ get_or s (i + 4) 0
  unfolding stripped
  byte_behind i h =
      let xs : List ℕ = take (pairs_end s) s in
      let ys : List ℕ = drop (pairs_end s + 4) s in
      let e : i ≡ length xs + (i - pairs_end s) = omega (arith, ends) in
      let f : pairs_end s + 4 + (i - pairs_end s) ≡ i + 4 = omega arith in
      get_or-set_other (xs ++ ys) 0 i (get_or s 0 0 - 4) 0 (λ q. omega arith) ∙ (ap (λ (j : ℕ). get_or (xs ++ ys) j 0) e ∙ (get_or-append-add xs ys (i - pairs_end s) 0 ∙ (get_or-drop (pairs_end s + 4) s (i - pairs_end s) 0 ∙ ap (λ (j : ℕ). get_or s j 0) f)))

  count : get16 (stripped s) 1 ≡ get16 s 1
  count = get16_same (stripped s) s 1 (byte 1 (omega arith) (omega arith)) (byte 2 (omega arith) (omega arith))

  edges : edges_in (stripped s) ≡ edges_in s
  edges = rw count (pairs_same (stripped s) s 3 (get16 s 1 - 3) (λ i l m. byte i (omega arith) (omega arith)))

  -- bit 3 stays, and the angles stand four bytes before
  angles_bit : bit3 (get_or s 0 0 - 4) ≡ bit3 (get_or s 0 0)
  angles_bit = let e : (get_or s 0 0 - 4) / 8 ≡ get_or s 0 0 / 8 = omega arith in ap (λ (x : ℕ). x % 2) e

  angles_place : angles_at (get_or s 0 0 - 4) (get16 s 1) ≡ pairs_end s
  angles_place = omega (arith, angles_at_lem (get_or s 0 0 - 4) (get16 s 1))

  angles_were : angles_at (get_or s 0 0) (get16 s 1) ≡ pairs_end s + 4
  angles_were = omega (arith, angles_at_lem (get_or s 0 0) (get16 s 1))

  angles_stay : angles_of (stripped s) ≡ angles_of s
  angles_stay = rw (count, map, angles_place, angles_were, angles_bit) (ap (angles_if (bit3 (get_or s 0 0))) (angles_same (stripped s) s (pairs_end s) (get16 s 1 - 3) byte_behind))

  exact : bit0 (get_or s 0 0) ≡ 1 → 3 ≤ get16 s 1 → bit1 (get_or s 0 0) ≡ more (get16 s 1) → Exact (stripped s) ↔ Exact s
  exact low least agrees =
      let a = length_is (get_or s 0 0) (get16 s 1) low least agrees in
      let b = length_is (get_or s 0 0 - 4) (get16 s 1) (omega arith) least (omega (arith, agrees)) in
      let f = ap (λ (x : ℕ). field x (2 * (get16 s 1 - 3))) angles_bit in
      let c : sheet_length (get_or (stripped s) 0 0) (get16 (stripped s) 1) + 4 ≡ sheet_length (get_or s 0 0) (get16 s 1) = rw (map, count) (omega (arith, a, b, f, angles_place, angles_were)) in
      (λ e. omega (arith, size, c, e), λ e. omega (arith, size, c, e))

  pairs_bit : bit1 (get_or (stripped s) 0 0) ≡ bit1 (get_or s 0 0)
  pairs_bit = omega (arith, map)

  stripped_alike : Alike (stripped s) s
  stripped_alike = record {
    long = omega (arith, size);
    long_too = omega arith;
    low = omega (arith, map);
    few = (λ l. omega (arith, map), λ l. omega (arith, map));
    pairs_bit = pairs_bit;
    count = count;
    rest = λ low least most agrees. (exact (omega (arith, map)) (rw count at least) (sym pairs_bit ∙ (agrees ∙ ap more count)), λ e. (edges, angles_stay));
  }

-- Reading a sheet is reading it without bit 2 and its four bytes.
pub skips : (s : List ℕ) → read_sheet (skipped s) ≡ read_sheet s
unfolding skipped choose
skips s = go (has_number? s)
  where
    go : (d : Dec (HasNumber s)) → read_sheet (choose d (stripped s) s) ≡ read_sheet s
    go (yes h) = read_alike (stripped_alike s h)
    go (no h) = refl

-- Two sheets that differ only there are read alike: refused by the same number, or the same part is held.
pub same_reading : (s t : List ℕ) → OnlyThere s t → read_sheet s ≡ read_sheet t
same_reading s t e = sym (skips s) ∙ (ap read_sheet e ∙ skips t)

-- A sheet without bit 2, of which `front` ends with its pairs and `back` is what follows them, and the same sheet with bit 2 and any four bytes between these: they differ only there.
pub only_there : (m : ℕ) (front four back : List ℕ) → bit2 m ≡ 0 → length (m ∷ front) ≡ pairs_end (m ∷ front) → length four ≡ 4 → OnlyThere (m ∷ (front ++ back)) ((m + 4) ∷ (front ++ (four ++ back)))
unfolding skipped stripped
only_there m front four back clear ends size =
    let s : List ℕ = m ∷ (front ++ back) in
    let t : List ℕ = (m + 4) ∷ (front ++ (four ++ back)) in
    let two : 2 ≤ length front = omega arith in
    let count : get16 t 1 ≡ get16 (m ∷ front) 1 = get16_same t (m ∷ front) 1 (get_or-append front (four ++ back) 0 0 (omega arith)) (get_or-append front (four ++ back) 0 1 (omega arith)) in
    let end : pairs_end t ≡ suc (length front) = omega (arith, count) in
    let first : take (pairs_end t) t ≡ (m + 4) ∷ front = take_at ((m + 4) ∷ front) (four ++ back) (pairs_end t) (sym end) in
    let N : HasNumber t = (omega arith, omega (arith, end, length-append front (four ++ back), length-append four back)) in
    let rest : drop (pairs_end t + 4) t ≡ back = ap (λ (k : ℕ). drop (k + 4) t) end ∙ (drop-append-add ((m + 4) ∷ front) (four ++ back) 4 ∙ drop_at four back 4 size) in
    let same : stripped t ≡ s = ap₂ (λ (xs ys : List ℕ). set (xs ++ ys) 0 (m + 4 - 4)) first rest ∙ ap (λ (x : ℕ). x ∷ (front ++ back)) (omega arith) in
    choose_no (has_number? s) _ (λ N. omega arith) ∙ sym (choose_yes (has_number? t) _ N ∙ same)

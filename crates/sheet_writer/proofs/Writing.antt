-- Writing a normal sheet field by field into an output: stores one behind the other are the sheet's bytes, followed by what was there.
use mathlib.Core.Path.{◌≡◌, refl, ap, sym, ◌∙◌}
use mathlib.Core.Bool.{Bool}
use mathlib.Core.List.{List, [], ◌∷◌, ◌++◌, map-append}
use Prim.Native.Nat.{ℕ, ◌+◌, ◌*◌, ◌-◌, ◌/◌, ◌%◌, ◌≤◌, ◌<◌}
use native.Mathlib.Omega.{arith}
use lib.ListN.{length, take, set, get_or, length-append, length-map}
use lib.Seq.{sets, length-take-le, take_all}
use Rattle.polygon.specs.Polygon.{Edge, Polygon, Valid}
use Rattle.codec.specs.Numbers.{bytes16, run16}
use Rattle.codec.proofs.Numbers.{length_run16, run16_snoc}
use Rattle.codec.specs.Answer.{whole}
use Rattle.lists.proofs.Places.{map_next}
use Rattle.lists.proofs.Stores.{sets_append, sets_front}
use Rattle.keys.specs.Keys.{edge_of, edges_of, key_in, keys_in, angle_in, angles_in}
use Rattle.sheet.specs.Sheet.{field, pair_bytes, angle_bytes, map_byte, normal_sheet}
use Rattle.polygon.specs.Angles.{Angles, none, each, Allowed}
use Rattle.sheet.specs.Hand.{angles_by, part_of, head_of, has_angles}
use Rattle.sheet.specs.Held.{bit, normal_length}
use Rattle.sheet.proofs.Normal.{pairs_length}

pairs_snoc : (es : List Edge) (e : Edge) → pair_bytes (es ++ (e ∷ [])) ≡ pair_bytes es ++ (bytes16 e.0 ++ bytes16 e.1)
unfolding pair_bytes
pairs_snoc [] e = refl
pairs_snoc (x ∷ es) e = ap (λ (l : List ℕ). bytes16 x.0 ++ (bytes16 x.1 ++ l)) (pairs_snoc es e)

-- one more edge, and one more angle, in an output
pub edges_next : (bends out : List ℕ) (at i : ℕ) → i < length bends
    → sets (sets (sets out at (pair_bytes (edges_of (keys_in (take i bends))))) (at + i * 4) (bytes16 (key_in (get_or bends i 0) / 1024))) (at + i * 4 + 2) (bytes16 (key_in (get_or bends i 0) % 1024))
    ≡ sets out at (pair_bytes (edges_of (keys_in (take (i + 1) bends))))
edges_next bends out at i h =
    let es : List Edge = edges_of (keys_in (take i bends)) in
    let k : ℕ = key_in (get_or bends i 0) in
    let n : length (pair_bytes es) ≡ i * 4 = omega (arith, pairs_length es, length-map (keys_in (take i bends)) edge_of, length-map (take i bends) key_in, length-take-le i bends (omega arith)) in
    let high : List ℕ = bytes16 (k / 1024) in
    let low : List ℕ = bytes16 (k % 1024) in
    rw (map_next key_in bends i 0 h, map-append edge_of (keys_in (take i bends)) (k ∷ []), pairs_snoc es (edge_of k), sets_append (pair_bytes es) (high ++ low) out at, n, sets_append high low (sets out at (pair_bytes es)) (at + i * 4))

pub angles_next : (bends out : List ℕ) (at i : ℕ) → i < length bends
    → sets (sets out at (run16 (angles_in (take i bends)))) (at + i * 2) (bytes16 (angle_in (get_or bends i 0))) ≡ sets out at (run16 (angles_in (take (i + 1) bends)))
angles_next bends out at i h =
    let vs : List ℕ = angles_in (take i bends) in
    let v : ℕ = angle_in (get_or bends i 0) in
    let n : length (run16 vs) ≡ i * 2 = omega (arith, length_run16 vs, length-map (take i bends) angle_in, length-take-le i bends (omega arith)) in
    rw (map_next angle_in bends i 0 h, run16_snoc vs v, sets_append (run16 vs) (bytes16 v) out at, n)

angles_size : (n : ℕ) (a : Angles) → Allowed n a → length (angle_bytes a) ≡ field (bit (has_angles a)) (2 * (n - 3))
angles_size n none h = refl
angles_size n (each vs) h = omega (arith, length_run16 vs, h)

pub size_is : {p : Polygon} → Valid p → length (normal_sheet p) ≡ normal_length (head_of p)
unfolding normal_sheet
size_is {p} V = omega (arith, pairs_length p.ds, V.triangulated.full, angles_size p.n p.angles V.allowed, length-append (pair_bytes p.ds) (angle_bytes p.angles))

pub size_by : {p : Polygon} → Valid p → (b : Bool) → has_angles p.angles ≡ b → length (normal_sheet p) ≡ 3 + 4 * (p.n - 3) + field (bit b) (2 * (p.n - 3))
size_by V b e = rw e at (size_is V)

-- bit 3 of the map byte hangs on whether there are angles, and not on which
pub map_of : (n : ℕ) (a : Angles) → map_byte n (angles_by (has_angles a) []) ≡ map_byte n a
unfolding map_byte
map_of n none = refl
map_of n (each vs) = refl

-- all fields of a part p, whose bends are bs, are stored one behind the other in an output
module _ {p : Polygon} (V : Valid p) (bs : List ℕ) (same : part_of (head_of p) bs ≡ p) (all : length bs ≡ p.n - 3) (out : List ℕ) where
  front : take (p.n - 3) bs ≡ bs
  front = take_all (p.n - 3) bs (omega (arith, all))

  edges_same : edges_of (keys_in bs) ≡ p.ds
  edges_same = rw front at (ap (λ (q : Polygon). q.ds) same)

  angles_same : angles_by (has_angles p.angles) bs ≡ p.angles
  angles_same = rw front at (ap (λ (q : Polygon). q.angles) same)

  pub finished : (o : List ℕ) (b : Bool) → has_angles p.angles ≡ b → length (normal_sheet p) ≤ length out
      → o ≡ sets (sets (sets (set out 0 (map_byte p.n (angles_by (has_angles p.angles) []))) 1 (bytes16 p.n)) 3 (pair_bytes (edges_of (keys_in bs)))) (3 + 4 * (p.n - 3)) (angle_bytes (angles_by b bs))
      → o ≡ (whole (normal_sheet p) out).bytes
  unfolding normal_sheet
  finished o b a fits e =
      let es : List ℕ = pair_bytes p.ds in
      let vs : List ℕ = angle_bytes p.angles in
      let m : ℕ = map_byte p.n p.angles in
      let at : 3 + 4 * (p.n - 3) ≡ 3 + length es = omega (arith, pairs_length p.ds, V.triangulated.full) in
      let count : List ℕ = sets (set out 0 m) 1 (bytes16 p.n) in
      let own : o ≡ sets (sets count 3 es) (3 + 4 * (p.n - 3)) vs = rw (← a, map_of p.n p.angles, edges_same, angles_same) at e in
      own ∙ (ap (λ (j : ℕ). sets (sets count 3 es) j vs) at ∙ (sym (sets_append es vs count 3) ∙ (sym (sets_append (bytes16 p.n) (es ++ vs) (set out 0 m) 1) ∙ sets_front (m ∷ (bytes16 p.n ++ (es ++ vs))) out fits)))

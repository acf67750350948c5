-- A part in the code's hands after an edit, and its table with a bend put in or taken out.
use mathlib.Core.Path.{◌≡◌, refl, ap, sym, ◌∙◌}
use mathlib.Core.Logic.{inr}
use mathlib.Core.Bool.{Bool, true, false, ◌&&◌}
use mathlib.Core.List.{List}
use Prim.Native.Nat.{ℕ, ◌+◌, ◌-◌, ◌<◌}
use native.Mathlib.Decide.{dec_lt}
use native.Mathlib.Omega.{arith}
use borrow.Author.Tests.{lt-ltb, le-ltb}
use lib.Dec.{ltb}
use lib.ListN.{length, take, length-map}
use Rattle.lists.specs.Lists.{All, Mem, Sub, choose}
use Rattle.lists.proofs.Lists.{all_mem, all_of, choose_no, choose_yes}
use Rattle.polygon.specs.Angles.{none, each}
use Rattle.polygon.specs.Polygon.{Edge, Polygon, Valid}
use Rattle.polygon.specs.Order.{Distinct, insert, remove}
use Rattle.polygon.specs.Carried.{carried}
use Rattle.polygon.proofs.Order.{insert_length}
use Rattle.keys.specs.Keys.{key_of, edge_of, edges_of, key_in, keys_in, angle_in, angles_in, flat_bend}
use Rattle.keys.specs.Sort.{insert_key}
use Rattle.keys.specs.Change.{remove_key}
use Rattle.keys.proofs.InOrder.{edge_of_key, insert_edges}
use Rattle.keys.proofs.Insert.{all_insert}
use Rattle.keys.proofs.Removal.{remove_edges, remove_sub}
use Rattle.keys.proofs.Bends.{insert_keys}
use Rattle.keys.proofs.Beside.{bend_edges, ComesFrom, carry, mem_edge}
use Rattle.sheet.specs.declared.Head.{Head}
use Rattle.sheet.specs.Sheet.{Reading, held}
use Rattle.sheet.specs.Hand.{angles_by, part_of, has_angles, head_of}
use lib.Seq.{take_all}
use Rattle.edit.specs.Tables.{whole, Whole}
use Rattle.edit.specs.Rules.{Edit, result, rule}
use Rattle.edit.proofs.Rule.{Takes, given, rule_takes}
use Rattle.edit.proofs.Enter.{insert_remove}
use Rattle.edit.proofs.Keeps.{given_valid}

-- so a part tells them
pub in_whole : {p : Polygon} {h : Head} {bs : List ℕ} → Valid p → h.n ≡ p.n → h.angled ≡ has_angles p.angles → part_of (head_of p) bs ≡ p → length bs ≡ p.n - 3 → Whole p h bs
in_whole {p} {h} {bs} V n a same all =
    let e : p ≡ whole h bs = sym same ∙ rw (take_all (p.n - 3) bs (omega arith), n, a) in
    record { same = e; valid = rw e at V }

pub whole_count : (h : Head) (bs : List ℕ) → Valid (whole h bs) → length bs ≡ h.n - 3
whole_count h bs V = omega (arith, V.triangulated.full, length-map (keys_in bs) edge_of, length-map bs key_in)

pub bends_count : {p : Polygon} {h : Head} {bs : List ℕ} → Whole p h bs → length bs ≡ h.n - 3
bends_count H = whole_count _ _ H.valid

-- what an edit gives: a part, which is valid
pub record Gives (q : Reading) (p : Polygon) : Type 0 where
  pub same : q ≡ held p
  pub valid : Valid p

pub edited : (e : Edit) {p q : Polygon} {h : Head} {bs : List ℕ} → Whole p h bs → Takes e (whole h bs) → q ≡ given e (whole h bs) → Gives (rule e p) q
edited e {h = h} {bs} H t same =
    let w = whole h bs in
    rw H.same (record { same = rule_takes e w t ∙ ap held (sym same); valid = rw same (given_valid e w H.valid t) })

-- The bends `new` of a part of n corners, which all come from `old`, the bends before the edit under their new numbers: they are those of the result.
module _ (b : Bool) (n : ℕ) (old new : List ℕ) (before : List ℕ) (same : angles_in old ≡ angles_in before) (apart : Distinct (bend_edges old)) (comes : All (ComesFrom old) new) where
  pub result_angles : {d : Bool} → d ≡ (b && ltb 3 n) → angles_by d new ≡ choose (dec_lt 3 n) (carried (bend_edges old) (angles_by b before) (bend_edges new)) none
  unfolding carried
  result_angles {d} e = ap (λ (x : Bool). angles_by x new) e ∙ go b (dec_lt 3 n)
    where
      go : (b : Bool) → Dec (3 < n) → angles_by (b && ltb 3 n) new ≡ choose (dec_lt 3 n) (carried (bend_edges old) (angles_by b before) (bend_edges new)) none
      go true (yes h) = rw (lt-ltb 3 n h) (ap each (rw same at (carry old {cs = new} apart comes)) ∙ sym (choose_yes (dec_lt 3 n) _ h))
      go true (no h) = rw (le-ltb 3 n (omega arith)) (sym (choose_no (dec_lt 3 n) _ h))
      go false (yes h) = sym (choose_yes (dec_lt 3 n) _ h)
      go false (no h) = sym (choose_no (dec_lt 3 n) _ h)

  -- the part of a head g and a table that begins with them
  pub result_part : {g : Head} (after : List ℕ) → g.n ≡ n → g.angled ≡ (b && ltb 3 n) → take (n - 3) after ≡ new → part_of g after ≡ result n (bend_edges old) (angles_by b before) (bend_edges new)
  unfolding result
  result_part {g} after size a first =
      let k : take (g.n - 3) after ≡ new = ap (λ (m : ℕ). take (m - 3) after) size ∙ first in
      let ds = ap bend_edges k in
      let vs = ap (angles_by g.angled) k ∙ result_angles a in
      λ i. record { n = size i; ds = ds i; angles = vs i }

-- with more than 3 corners the result has angles if there were any
pub keeps_angles : (b : Bool) (n : ℕ) → 3 < n → b ≡ (b && ltb 3 n)
keeps_angles true n h = sym (lt-ltb 3 n h)
keeps_angles false n h = refl

-- a bend merged in is an edge put in, if it is a new one
module _ (b : ℕ) (e : Edge) (bs : List ℕ) (key : b ≡ flat_bend (key_of e)) (small : e.1 < 1024) (new : ¬ Mem e (bend_edges bs)) where
  pub new_edge : edge_of (key_in b) ≡ e
  new_edge = let k : key_in b ≡ key_of e = omega arith in ap edge_of k ∙ edge_of_key e small

  other_keys : All (λ c. ¬ (key_in c ≡ key_in b)) bs
  other_keys = all_of bs (λ c m q. new (rw (ap edge_of q ∙ new_edge) at (mem_edge m)))

  pub inserted : bend_edges (insert_key b bs) ≡ insert e (bend_edges bs)
  inserted = ap edges_of (insert_keys b other_keys) ∙ (insert_edges (key_in b) (keys_in bs) ∙ ap (λ (f : Edge). insert f (bend_edges bs)) new_edge)

  -- it is new, and its angle is 0
  flat : angle_in b ≡ 0
  flat = omega arith

  pub new_comes : {old cs : List ℕ} → ¬ Mem e (bend_edges old) → All (ComesFrom old) cs → All (ComesFrom old) (insert_key b cs)
  new_comes f a = all_insert b (inr (flat, λ m. f (rw new_edge at m))) a

-- the bends of a part's diagonals without that of the diagonal e
pub record Without (h : Head) (bs : List ℕ) (e : Edge) (rest : List ℕ) : Type 0 where
  pub member : Mem e (bend_edges bs)
  pub left : bend_edges rest ≡ remove e (bend_edges bs)
  pub kept : Sub rest bs
  pub size : length rest + 1 ≡ h.n - 3

-- it is taken out by its key
pub taken_out : {p : Polygon} {h : Head} {bs : List ℕ} (H : Whole p h bs) (e : Edge) → Mem e (bend_edges bs) → {k : ℕ} → k ≡ key_of e → {rest : List ℕ}
    → rest ≡ remove_key k bs → Without h bs e rest
taken_out {h = h} {bs} H e m {k} K {rest} R =
    let T = H.valid.triangulated in
    let ds : List Edge = bend_edges bs in
    let key : edge_of k ≡ e = ap edge_of K ∙ edge_of_key e (omega (arith, (all_mem T.diagonals m).corner, H.valid.most)) in
    let left : bend_edges rest ≡ remove e ds = ap bend_edges R ∙ (remove_edges k bs ∙ ap (λ (f : Edge). remove f ds) key) in
    let again : length (insert e (remove e ds)) ≡ length ds = ap length (insert_remove e ds T.ascending m) in
    record {
      member = m;
      left = left;
      kept = rw R (remove_sub k bs);
      size = omega (arith, T.full, again, insert_length e (remove e ds), ap length left, length-map (keys_in rest) edge_of, length-map rest key_in);
    }

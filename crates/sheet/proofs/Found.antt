-- What the reading of a sheet has found out about its pairs, step by step, and what follows for the sheet.
use mathlib.Core.Path.{◌≡◌, ap, sym, ◌∙◌}
use mathlib.Core.Bool.{true, false, true≢false}
use mathlib.Core.List.{List, [], ◌∷◌, ◌++◌, map}
use Prim.Native.Nat.{ℕ, ◌+◌, ◌*◌, ◌-◌, ◌≤◌}
use native.Mathlib.Omega.{arith}
use lib.ListN.{length, take, drop, get_or, length-map}
use lib.Seq.{take_at, length-take-le}
use Rattle.lists.specs.Lists.{All, Sub, all_cons, all_nil}
use Rattle.lists.proofs.Lists.{all_mem, all_of}
use Rattle.polygon.specs.Angles.{Angle, Allowed}
use Rattle.polygon.specs.Polygon.{Edge, Valid, Ascending, NoneCross, Diagonal}
use Rattle.polygon.specs.Order.{Distinct, sort}
use Rattle.polygon.specs.Carried.{carried}
use Rattle.polygon.proofs.Sort.{sort_all, sort_sub, sort_mem, sort_ascends}
use Rattle.codec.specs.Numbers.{get16}
use Rattle.keys.specs.Keys.{edges_of, key_in, keys_in, code_of}
use Rattle.keys.specs.Sort.{ascends, sort_keys, FewBits}
use Rattle.keys.specs.Tops.{Diagonals}
use Rattle.keys.proofs.Insert.{length_sort}
use Rattle.keys.proofs.InOrder.{sort_edges, ascends_edges, edges_ascend}
use Rattle.sheet.specs.declared.Head.{Head}
use Rattle.sheet.specs.Sheet.{refused, held, bit3, field, angles_at, angles, listed_angles, read_sheet, pairs}
use Rattle.sheet.specs.Framed.{Paired}
use Rattle.sheet.specs.Hand.{angles_by, part_of}
use Rattle.sheet.specs.Held.{bit, HeadOf, BendsRead, CodesAllowed}
use Rattle.sheet.proofs.Asks.{refused_5, refused_6, refused_7, refused_23, form_held, edges_in, part_in}
use Rattle.sheet.proofs.Fields.{length_is, angles_at_lem}
use Rattle.sheet.proofs.Normal.{angles_count}
use Rattle.sheet.proofs.Coded.{codes_in, stand_by, stands_by, codes_allowed, allowed_codes, angles_moved}
use Rattle.sheet.proofs.Valid.{read_valid}

none_cross_sub : (xs ys : List Edge) → Sub xs ys → NoneCross ys → NoneCross xs
none_cross_sub xs ys f N = all_of xs (λ p m. all_of xs (λ q k. all_mem (all_mem N (f p m)) (f q k)))

-- keys of diagonals are small
pub small_all : (n : ℕ) (ks : List ℕ) → n ≤ 1024 → All (Diagonal n) (edges_of ks) → FewBits 20 ks
small_all n [] h a = all_nil
small_all n (k ∷ ks) h (all_cons d a) = all_cons {x = k} (omega (arith, d.forth, d.corner)) (small_all n ks h a)

-- there is room for the pairs, and for the angles behind them if there are any
pub room : {s : List ℕ} {h : Head} → HeadOf s h → (3 ≤ h.n) × (h.n ≤ 1024) × (3 + 4 * (h.n - 3) ≤ length s)
room {s} H =
    let F = H.frame in
    let c = H.corners in
    omega (arith, F.least, F.most, F.exact, length_is _ _ F.low F.least F.agrees, angles_at_lem (get_or s 0 0) (get16 s 1))

module _ {s : List ℕ} {h : Head} (H : HeadOf s h) (A : h.angled ≡ true) where
  bit_stands : bit3 (get_or s 0 0) ≡ 1
  bit_stands = sym H.with_angles ∙ ap bit A

  size : length s ≡ angles_at (get_or s 0 0) h.n + 2 * (h.n - 3)
  size =
      let F = H.frame in
      let e = length_is _ _ F.low F.least F.agrees in
      let b : field (bit3 (get_or s 0 0)) (2 * (get16 s 1 - 3)) ≡ 2 * (get16 s 1 - 3) = ap (λ (x : ℕ). field x (2 * (get16 s 1 - 3))) bit_stands in
      rw H.corners (omega (arith, F.exact, e, b))

  pub block : 2 * (h.n - 3) ≤ length s
  block = omega (arith, size)

  -- the angles are the last bytes
  pub at_end : length s - 2 * (h.n - 3) ≡ angles_at (get_or s 0 0) h.n
  at_end = omega (arith, size)

pub no_diagonals : {s : List ℕ} {h : Head} → HeadOf s h → ¬ All (Diagonal h.n) (pairs s 3 (h.n - 3)) → read_sheet s ≡ refused 5
no_diagonals H f = refused_5 H.frame (λ a. f (rw H.corners a))

-- what was found out about the angles
module _ {s : List ℕ} {h : Head} {bs : List ℕ} (H : HeadOf s h) (L : BendsRead s h.n h.angled bs) where
  abbrev vs : List Angle
  vs = angles s (angles_at (get_or s 0 0) h.n) (h.n - 3)

  listed_is : listed_angles s h.n ≡ stand_by h.angled vs
  listed_is = stands_by h.angled _ vs H.with_angles

  codes : h.angled ≡ true → codes_in (take (h.n - 3) bs) ≡ map code_of vs
  codes a = rw (at_end H a) at (L.codes a)

  angles_fit : Allowed h.n (listed_angles s h.n) → CodesAllowed h (take (h.n - 3) bs)
  angles_fit a = codes_allowed h.angled h.n _ vs codes (rw listed_is at a)

  fit_angles : CodesAllowed h (take (h.n - 3) bs) → Allowed h.n (listed_angles s h.n)
  fit_angles c = rw listed_is (allowed_codes h.angled h.n _ vs codes (omega (arith, angles_count s (angles_at (get_or s 0 0) h.n) (h.n - 3), room H)) c)

  moved : {o : List ℕ} → Sub o (take (h.n - 3) bs) → Distinct (pairs s 3 (h.n - 3)) → CodesAllowed h (take (h.n - 3) bs)
      → angles_by h.angled o ≡ carried (pairs s 3 (h.n - 3)) (listed_angles s h.n) (edges_of (keys_in o))
  moved k d c = rw listed_is (angles_moved h.angled h.n _ vs codes L.edges k d c)

-- the bends bs that were read of a sheet's pairs; o, the same in order, and k, their keys
pub record Ordered (s : List ℕ) (h : Head) (bs o k : List ℕ) : Type 0 where
  pub head : HeadOf s h
  pub listed : BendsRead s h.n h.angled bs
  pub long : 1021 ≤ length bs
  pub order : k ≡ sort_keys (keys_in (take (h.n - 3) bs))
  pub keys : keys_in o ≡ k
  pub kept : Sub o (take (h.n - 3) bs)

module _ {s : List ℕ} {h : Head} {bs o k : List ℕ} (F : Ordered s h bs o k) where
  abbrev es : List Edge
  es = pairs s 3 (h.n - 3)

  abbrev table : List ℕ
  table = o ++ drop (h.n - 3) bs

  sorted : edges_of k ≡ sort es
  sorted = ap edges_of F.order ∙ (sort_edges (keys_in (take (h.n - 3) bs)) ∙ ap sort F.listed.edges)

  pub keys_count : length k ≡ h.n - 3
  keys_count = ap length F.order ∙ (length_sort (keys_in (take (h.n - 3) bs)) ∙ (length-map (take (h.n - 3) bs) key_in ∙ length-take-le (h.n - 3) bs (omega (arith, F.long, room F.head))))

  pub bends_count : length o ≡ h.n - 3
  bends_count = sym (length-map o key_in) ∙ (ap length F.keys ∙ keys_count)

  first : take (h.n - 3) table ≡ o
  first = take_at o (drop (h.n - 3) bs) (h.n - 3) bends_count

  diagonals : All (Diagonal (get16 s 1)) (edges_in s)
  diagonals = rw F.head.corners at F.listed.diagonals

  pub repeated : false ≡ ascends k → read_sheet s ≡ refused 6
  repeated f = refused_6 F.head.frame diagonals
      (λ d. true≢false (sym (edges_ascend k (rw sorted ((sort_ascends es).1 (rw F.head.corners d)))) ∙ sym f))

  -- the keys in their own table
  module _ (ks : List ℕ) where
    abbrev keys : List ℕ
    keys = k ++ drop (h.n - 3) ks

    first_key : take (h.n - 3) keys ≡ k
    first_key = take_at k (drop (h.n - 3) ks) (h.n - 3) keys_count

    pub first_count : length (take (h.n - 3) keys) ≡ h.n - 3
    first_count = ap length first_key ∙ keys_count

    -- they are those of the bends
    pub keys_said : edges_of (take (h.n - 3) keys) ≡ edges_of (keys_in (take (h.n - 3) table))
    keys_said = ap edges_of (first_key ∙ (sym F.keys ∙ ap keys_in (sym first)))

    module _ (B : true ≡ ascends k) where
      ascending : Ascending (edges_of k)
      ascending = ascends_edges k (sym B)

      pub in_order : Diagonals h.n (edges_of (take (h.n - 3) keys))
      in_order = rw first_key (record { ascending = ascending; diagonals = rw sorted (sort_all F.listed.diagonals) })

      distinct : Distinct (edges_in s)
      distinct = rw F.head.corners at ((sort_ascends es).0 (rw sorted at ascending))

      pub crossing : (NoneCross (edges_of (take (h.n - 3) keys)) → ⊥) → read_sheet s ≡ refused 7
      crossing f = refused_7 F.head.frame diagonals distinct (λ N. f (rw (first_key, sorted) (none_cross_sub _ _ (sort_sub es) (rw F.head.corners N))))

      module _ (N : NoneCross (edges_of (take (h.n - 3) keys))) where
        paired : Paired s
        paired =
            let M : NoneCross es = none_cross_sub _ _ (sort_mem es) (rw (first_key, sorted) at N) in
            record { framed = F.head.frame; diagonals = diagonals; distinct = distinct; none_cross = rw F.head.corners at M }

        -- the angles of the sheet
        pub forbidden : (CodesAllowed h (take (h.n - 3) bs) → ⊥) → read_sheet s ≡ refused 23
        forbidden f = refused_23 paired (λ a. f (angles_fit F.head F.listed (rw F.head.corners a)))

        module _ (C : CodesAllowed h (take (h.n - 3) bs)) where
          same : part_in s ≡ part_of h table
          same =
              let d : Distinct es = rw F.head.corners distinct in
              let e : edges_of (keys_in o) ≡ sort es = ap edges_of F.keys ∙ sorted in
              let a : angles_by h.angled o ≡ carried es (listed_angles s h.n) (sort es) = rw e at (moved F.head F.listed F.kept d C) in
              rw (← F.head.corners, first, e, a)

          is : read_sheet s ≡ held (part_of h table)
          is = form_held (record { paired = paired; allowed = rw F.head.corners at (fit_angles F.head F.listed C) }) ∙ ap held same

          pub read : Valid (part_of h table) × (held (part_of h table) ≡ read_sheet s)
          read = (read_valid s _ is, sym is)

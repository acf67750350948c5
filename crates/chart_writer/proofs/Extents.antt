-- The first and the last column of each corner, one column at a time.
use mathlib.Core.Path.{◌≡◌, sym, ◌∙◌}
use mathlib.Core.Logic.{inl, inr}
use mathlib.Core.List.{List, [], ◌∷◌, ◌++◌, map, map-append, reverse, reverse-append}
use Prim.Native.Nat.{ℕ, suc, ◌+◌, ◌-◌, ◌/◌, ◌%◌, ◌<◌, ◌≤◌}
use native.Mathlib.Decide.{ℕ_discrete}
use native.Mathlib.Numerals.{add-one}
use native.Mathlib.Omega.{arith}
use lib.ListN.{length, take, drop, get_or, set, length-set, length-map, length-append, drop_of_length-le}
use lib.Seq.{drop-cons, take-suc, length-take-le}
use Rattle.lists.specs.Lists.{choose}
use Rattle.lists.proofs.Lists.{choose_no, choose_yes}
use Rattle.lists.proofs.Places.{stored}
use Rattle.polygon.specs.Polygon.{Edge}
use Rattle.keys.specs.Keys.{edge_of}
use Rattle.tree.specs.Table.{edge_at}
use Rattle.chart.specs.Chart.{Meets, meets?, first, last}
use Rattle.chart_writer.specs.Tables.{Uprights, Spans}

-- one column more, before the others or behind them
first_met : (x : ℕ) (e : Edge) (us : List Edge) → Meets x e → first x (e ∷ us) ≡ 0
unfolding first
first_met x e us m = choose_yes (meets? x e) _ m

first_past : (x : ℕ) (e : Edge) (us : List Edge) → (Meets x e → ⊥) → first x (e ∷ us) ≡ suc (first x us)
unfolding first
first_past x e us f = choose_no (meets? x e) _ f

last_met : (x : ℕ) (e : Edge) (us : List Edge) → Meets x e → last x (us ++ (e ∷ [])) ≡ length us
unfolding last
last_met x e us m = rw (reverse-append us (e ∷ []), first_met x e (reverse us) m) (omega (arith, length-append us (e ∷ [])))

last_past : (x : ℕ) (e : Edge) (us : List Edge) → (Meets x e → ⊥) → last x (us ++ (e ∷ [])) ≡ last x us
unfolding last
last_past x e us f = rw (reverse-append us (e ∷ []), first_past x e (reverse us) f) (omega (arith, length-append us (e ∷ [])))

-- a column stored at both corners of its upright
abbrev pub store_both : List ℕ → ℕ → ℕ → List ℕ
store_both table k j = set (set table (k / 1024) j) (k % 1024) j

both_stored : (P : ℕ → Type 0) (table : List ℕ) (k j x : ℕ) → length table ≡ 1024 → k < 1047552 → (Meets x (edge_of k) → P j) → ((Meets x (edge_of k) → ⊥) → P (get_or table x 0)) → P (get_or (store_both table k j) x 0)
both_stored P table k j x size h f g =
    stored P (set table (k / 1024) j) (k % 1024) j x (rw (length-set table (k / 1024) j) (omega arith)) (λ p. f (inr (sym p)))
    (λ p. stored P table (k / 1024) j x (omega arith) (λ q. f (inl (sym q))) (λ q. g (λ m. elim m [ inl a ↦ q (sym a) | inr a ↦ p (sym a) ])))

module _ (tr columns : List ℕ) where
  abbrev us : List Edge
  us = map (edge_at tr) columns

  -- the upright of column j
  abbrev up : ℕ → Edge
  up j = edge_at tr (get_or columns j 0)

  -- the columns from j on are stored
  abbrev pub Lefts : List ℕ → List ℕ → ℕ → Type 0
  Lefts old left j = (x : ℕ) → get_or old x 0 ≡ length columns → get_or left x 0 ≡ j + first x (map (edge_at tr) (drop j columns))

  pub lefts_begin : (left : List ℕ) → Lefts left left (length columns)
  unfolding first
  lefts_begin left x z = rw (drop_of_length-le columns {i = length columns} (omega arith)) (omega (arith, z))

  pub lefts_next : (old left : List ℕ) (j : ℕ) → Uprights tr columns → length left ≡ 1024 → j < length columns → Lefts old left (suc j) → Lefts old (store_both left (get_or tr (get_or columns j 0) 0) j) j
  lefts_next old left j K size h L x k =
      let rest : List Edge = map (edge_at tr) (drop (suc j) columns) in
      rw (drop-cons columns j 0 h)
      (both_stored (λ v. v ≡ j + first x (up j ∷ rest)) left (get_or tr (get_or columns j 0) 0) j x size (K j h).keyed
      (λ m. omega (arith, first_met x (up j) rest m))
      (λ f. omega (arith, L x k, first_past x (up j) rest f)))

  -- the first j columns are stored
  abbrev pub Rights : List ℕ → List ℕ → ℕ → Type 0
  Rights old right j = (x : ℕ) → get_or old x 0 ≡ 0 → get_or right x 0 ≡ last x (map (edge_at tr) (take j columns))

  pub rights_begin : (right : List ℕ) → Rights right right 0
  unfolding last first
  rights_begin right x z = z

  pub rights_next : (old right : List ℕ) (j : ℕ) → Uprights tr columns → length right ≡ 1024 → j < length columns → Rights old right j → Rights old (store_both right (get_or tr (get_or columns j 0) 0) j) (j + 1)
  rights_next old right j K size h L x k =
      let front : List Edge = map (edge_at tr) (take j columns) in
      let n : length (map (edge_at tr) (take j columns)) ≡ j = length-map (take j columns) (edge_at tr) ∙ length-take-le j columns (omega arith) in
      rw (add-one j, take-suc columns j 0 h, map-append (edge_at tr) (take j columns) (get_or columns j 0 ∷ []))
      (both_stored (λ v. v ≡ last x (front ++ (up j ∷ []))) right (get_or tr (get_or columns j 0) 0) j x size (K j h).keyed
      (λ m. omega (arith, n, last_met x (up j) front m))
      (λ f. omega (arith, L x k, last_past x (up j) front f)))

  -- the bars of the root corners
  pub spans_end : (n : ℕ) (left right : List ℕ) → 1 ≤ n → n ≤ 1024 → length left ≡ 1024 → length right ≡ 1024
      → ((x : ℕ) → x < n → get_or left x 0 ≡ first x us) → ((x : ℕ) → x < n → get_or right x 0 ≡ last x us)
      → Spans n us (set left 0 0) (set right (n - 1) (length columns - 1))
  spans_end n left right h k p q L R = record {
    lefts = λ x i. stored (λ v. v ≡ choose (ℕ_discrete x 0) 0 (first x us)) left 0 0 x (omega arith) (λ e. sym (choose_yes (ℕ_discrete x 0) _ e)) (λ e. L x i ∙ sym (choose_no (ℕ_discrete x 0) _ e));
    rights = λ x i.
        stored (λ v. v ≡ choose (ℕ_discrete x (n - 1)) (length us - 1) (last x us)) right (n - 1) (length columns - 1) x (omega arith)
        (λ e. omega (arith, length-map columns (edge_at tr), choose_yes (ℕ_discrete x (n - 1)) {x = length us - 1} (last x us) e))
        (λ e. R x i ∙ sym (choose_no (ℕ_discrete x (n - 1)) _ e));
  }

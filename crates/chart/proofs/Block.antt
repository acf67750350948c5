-- The columns of a hung piece (`Strip`), and a block of columns of an umbrella (`Block`): one column, two blocks side by side, a hung piece between two blocks, a block turned round.
-- Rests on runs of cells, touching columns and places.
use mathlib.Core.Path.{◌≡◌, refl, sym, ◌∙◌, ap, subst}
use mathlib.Core.List.{List, [], ◌∷◌, ◌++◌, map, reverse, append_assoc, reverse-cons, reverse-append, map-append}
use Prim.Native.Nat.{ℕ, ◌+◌, ◌≤◌}
use native.Mathlib.Omega.{arith}
use Rattle.lists.specs.Lists.{All, all_cons, all_nil}
use Rattle.lists.proofs.Lists.{all_append, all_imp, all_map, here, all_reverse, map_reverse}
use Rattle.polygon.specs.Polygon.{Edge}
use Rattle.chart.specs.Chart.{Meets}
use Rattle.chart.proofs.Cells.{Cell, row_by, δ, num}
use Rattle.chart.proofs.Runs.{Col, on, Trans, trans_append, trans_col, trans_skip, trans_reverse, trans_place, trans_weak}
use Rattle.chart.proofs.Column.{asc_high, EdgeBetween, joins_sym, Good}
use Rattle.chart.proofs.Touch.{Tip, Facing, near_edge, start, FacingIn, near, touch_any, touch_tail, last_of, last_append, touch_left, touch_right, touch_back, touch_reverse, touch_place, touch_into}
use Rattle.chart.proofs.Place.{Place}
use Rattle.chart.proofs.Hull.{Served, served_both, served_reverse}

abbrev pub up_of : Col → Edge
up_of c = c.1

-- What lies beyond the edge of a and b, drawn with a left and b right in the rows 0 to m: its uprights us, its level edges fs, n x cells' worth of each other corner x. Nothing at all if the edge is a side.
pub record Strip (a b m : ℕ) (R : Cell → Type 0) (us fs : List Edge) (n : ℕ → ℕ) : Type 0 where
  pub L : List Col
  pub ups : map up_of L ≡ us
  pub good : All (Good m R) L
  pub run : (x : ℕ) → Trans x (δ x a) L (δ x b) (δ x b + n x)
  pub flats : All (λ e. FacingIn e start L) fs
  pub root : (e : Edge) → EdgeBetween e a b → (S c : Col) → Tip a 0 S → Tip b 0 c → FacingIn e S (L ++ (c ∷ []))
  pub served : (x : ℕ) → 1 ≤ n x → Served x us

pub piece_blank : (a b m : ℕ) (R : Cell → Type 0) (n : ℕ → ℕ) → ((x : ℕ) → n x ≡ 0) → Strip a b m R [] [] n
piece_blank a b m R n z = record {
  L = [];
  ups = refl;
  good = all_nil;
  run = λ x. trans_skip (omega arith);
  flats = all_nil;
  root = λ e k S c i j. near (near_edge k i j);
  served = λ x h. absurd (omega (arith, z x));
}

pub piece_raise : {a b m k : ℕ} {R : Cell → Type 0} {us fs : List Edge} {n : ℕ → ℕ} → m ≤ k → Strip a b m R us fs n → Strip a b k R us fs n
piece_raise h p = record {
  L = p.L;
  ups = p.ups;
  good = all_imp (λ c g. record { asc = asc_high (omega arith) g.asc; joins = g.joins; known = g.known }) p.good;
  run = p.run;
  flats = p.flats;
  root = p.root;
  served = p.served;
}

-- reversed left to right
pub piece_reverse : {a b m : ℕ} {R : Cell → Type 0} {us fs : List Edge} {n : ℕ → ℕ} → Strip a b m R us fs n → Strip b a m R (reverse us) fs n
piece_reverse {a} {b} {m} {R} {us} {fs} {n} p = record {
  L = reverse p.L;
  ups = map_reverse up_of p.L ∙ ap reverse p.ups;
  good = all_reverse p.good;
  run = λ x. trans_reverse (omega arith) (p.run x);
  flats = all_imp (λ e t. touch_reverse t) p.flats;
  root = λ e k S c i j. touch_tail (subst (λ (M : List Col). FacingIn e start (M ++ (c ∷ []))) (reverse-append p.L (S ∷ [])) (touch_back (p.root e (joins_sym k) c S j i)));
  served = λ x h. served_reverse (p.served x h);
}

-- Columns from F to T, with n x cells' worth of x that F has not; each x with s x ≥ 1 has an upright in them.
pub record Block (k : ℕ) (R : Cell → Type 0) (F T : Col) (n s : ℕ → ℕ) (us fs : List Edge) : Type 0 where
  pub rest : List Col
  pub last : last_of F rest ≡ T
  pub ups : map up_of (F ∷ rest) ≡ us
  pub good : All (Good k R) (F ∷ rest)
  pub run : (x : ℕ) → Trans x (num x F.0) (F ∷ rest) (num x T.0) (n x)
  pub flats : All (λ e. FacingIn e start (F ∷ rest)) fs
  pub served : (x : ℕ) → 1 ≤ s x → Served x us

map_on : (pl : List Cell → List Cell) (L : List Col) → map up_of (map (on pl) L) ≡ map up_of L
map_on pl [] = refl
map_on pl (c ∷ L) = ap (c.1 ∷◌) (map_on pl L)

split : (F : Col) (l : List Col) → (i : List Col) × (F ∷ l ≡ i ++ (last_of F l ∷ []))
split F [] = ([], refl)
split F (c ∷ l) = let (i, h) = split c l in (F ∷ i, ap (F ∷◌) h)

module _ {k : ℕ} {R : Cell → Type 0} where
  -- n and s said otherwise
  pub block_is : {F T : Col} {n s : ℕ → ℕ} {us fs : List Edge} (n' s' : ℕ → ℕ) → ((x : ℕ) → n x ≡ n' x) → ((x : ℕ) → s' x ≤ s x) → Block k R F T n s us fs → Block k R F T n' s' us fs
  block_is {F} {T} n' s' h g p = record {
    rest = p.rest;
    last = p.last;
    ups = p.ups;
    good = p.good;
    run = λ x. subst (Trans x (num x F.0) (F ∷ p.rest) (num x T.0)) (h x) (p.run x);
    flats = p.flats;
    served = λ x i. p.served x (omega (arith, g x));
  }

  pub block_one : (F : Col) → Good k R F → (s : ℕ → ℕ) → ((x : ℕ) → 1 ≤ s x → Meets x F.1) → Block k R F F (λ x. 0) s (F.1 ∷ []) []
  block_one F g s m = record { rest = []; last = refl; ups = refl; good = all_cons g all_nil; run = λ x. trans_col x F; flats = all_nil; served = λ x h. (F.1, here, m x h) }

  -- side by side; the level edges gs end where the two meet
  pub block_join : {F T F' T' : Col} {n s n' s' : ℕ → ℕ} {us fs us' fs' gs : List Edge} (c : ℕ → ℕ) → ((x : ℕ) → num x F'.0 ≤ num x T.0 + c x) → All (λ g. Facing g T F') gs
      → Block k R F T n s us fs → Block k R F' T' n' s' us' fs' → Block k R F T' (λ x. n x + (c x + n' x)) (λ x. s x + s' x) (us ++ us') (fs ++ (gs ++ fs'))
  block_join {F} {T} {F'} {T'} {n} {s} {n'} {s'} {us} {fs} {us'} {fs'} {gs} c h a p q = record {
    rest = p.rest ++ (F' ∷ q.rest);
    last = last_append F p.rest (F' ∷ q.rest) ∙ q.last;
    ups = map-append up_of (F ∷ p.rest) (F' ∷ q.rest) ∙ (ap (◌++ map up_of (F' ∷ q.rest)) p.ups ∙ ap (us ++◌) q.ups);
    good = all_append p.good q.good;
    run = λ x. trans_append (p.run x) (trans_append (trans_skip (h x)) (q.run x));
    flats = all_append (all_imp (λ e t. touch_left (F' ∷ q.rest) t) p.flats)
        (all_append (all_imp (λ e m. touch_right start (F ∷ p.rest) (subst (λ (X : Col). FacingIn e X (F' ∷ q.rest)) (sym p.last) (near m))) a)
        (all_imp (λ e t. touch_right start (F ∷ p.rest) (touch_any t)) q.flats));
    served = λ x i. served_both (s x) (s' x) (p.served x) (q.served x) i;
  }

  -- a hung piece between
  pub block_link : {m a b : ℕ} {pl : List Cell → List Cell} {E : List Cell} {st : ℕ → List Cell} {f : ℕ → ℕ} {us₀ fs₀ : List Edge} {n₀ : ℕ → ℕ} {e₀ e₁ : Edge}
      {F T : Col} {n s n' s' : ℕ → ℕ} {us fs us' fs' : List Edge} (e : Edge)
      → EdgeBetween e a b → Place pl E st f m k → All R E → Meets a e₀ → Meets b e₁
      → Block k R F (st a, e₀) n s us fs → Strip a b m (λ z. R (row_by f z)) us₀ fs₀ n₀ → Block k R (st b, e₁) T n' s' us' fs'
      → Block k R F T (λ x. n x + ((δ x b + n₀ x) + n' x)) (λ x. s x + (n₀ x + s' x)) (us ++ (us₀ ++ us')) (fs ++ (e ∷ (fs₀ ++ fs')))
  block_link {m} {a} {b} {pl} {E} {st} {f} {us₀} {fs₀} {n₀} {e₀} {e₁} {F} {T} {n} {s} {n'} {s'} {us} {fs} {us'} {fs'} e je g re m₀ m₁ p d q = record {
    rest = p.rest ++ (mid ++ (N ∷ q.rest));
    last = last_append F p.rest (mid ++ (N ∷ q.rest)) ∙ (last_append (last_of F p.rest) mid (N ∷ q.rest) ∙ q.last);
    ups = map-append up_of (F ∷ p.rest) (mid ++ (N ∷ q.rest)) ∙ (ap (◌++ map up_of (mid ++ (N ∷ q.rest))) p.ups
        ∙ ap (us ++◌) (map-append up_of mid (N ∷ q.rest) ∙ (ap (◌++ map up_of (N ∷ q.rest)) (map_on pl d.L ∙ d.ups) ∙ ap (us₀ ++◌) q.ups)));
    good = all_append p.good (all_append
        (all_map (on pl) (all_imp (λ c h. record { asc = g.ascs c.0 h.asc; joins = g.adjs h.joins; known = g.alls (λ z. R (row_by f z)) R c.0 (λ z r. r) re h.known }) d.good))
        q.good);
    run = λ x. trans_append (p.run x) (trans_append
        (trans_weak (num x (st a)) (num x (st b)) (δ x b + n₀ x) (omega (arith, at_num x a)) (omega (arith, at_num x b)) (omega (arith, at_num x a)) (trans_place (num x E) pl (g.nums x) (d.run x)))
        (q.run x));
    flats = all_append (all_imp (λ h t. touch_left (mid ++ (N ∷ q.rest)) t) p.flats)
        (all_cons (after e (subst (FacingIn e (st a, e₀)) (append_assoc mid (N ∷ []) q.rest) (touch_left q.rest joined)))
        (all_append (all_imp (λ h t. after h (touch_left (N ∷ q.rest) (touch_into pl f g.ins (st a, e₀) t))) d.flats)
        (all_imp (λ h t. after h (touch_right (st a, e₀) mid (touch_any t))) q.flats)));
    served = λ x i. served_both (s x) (n₀ x + s' x) (p.served x) (λ j. served_both (n₀ x) (s' x) (d.served x) (q.served x) j) i;
  }
    where
      N : Col
      N = (st b, e₁)

      mid : List Col
      mid = map (on pl) d.L

      at_num : (x y : ℕ) → num x (st y) ≡ num x E + δ x y
      at_num x y = ap (num x) (sym (g.at y)) ∙ omega (arith, g.nums x ((y, 0) ∷ []))

      after : (h : Edge) → FacingIn h (st a, e₀) (mid ++ (N ∷ q.rest)) → FacingIn h start ((F ∷ p.rest) ++ (mid ++ (N ∷ q.rest)))
      after h t = touch_right start (F ∷ p.rest) (subst (λ (X : Col). FacingIn h X (mid ++ (N ∷ q.rest))) (sym p.last) t)

      joined : FacingIn e (st a, e₀) (mid ++ (N ∷ []))
      joined = subst (λ (X : List Cell). FacingIn e (st a, e₀) (mid ++ ((X, e₁) ∷ []))) (g.at b)
          (subst (λ (X : List Cell). FacingIn e (X, e₀) (mid ++ ((pl ((b, 0) ∷ []), e₁) ∷ []))) (g.at a)
          (subst (FacingIn e (pl ((a, 0) ∷ []), e₀)) (map-append (on pl) d.L ((((b, 0) ∷ []), e₁) ∷ []))
          (touch_place pl f g.ins (d.root e je (((a, 0) ∷ []), e₀) (((b, 0) ∷ []), e₁) (here, m₀) (here, m₁)))))

  -- turned round
  pub block_reverse : {F T : Col} {n s : ℕ → ℕ} {us fs : List Edge} (n' : ℕ → ℕ) → ((x : ℕ) → num x F.0 + n x ≡ num x T.0 + n' x) → Block k R F T n s us fs → Block k R T F n' s (reverse us) fs
  block_reverse {F} {T} {n} {s} {us} {fs} n' h p = record {
    rest = reverse i;
    last = ap (last_of start) (sym eq) ∙ (ap (last_of start) (reverse-cons F p.rest) ∙ last_append start (reverse p.rest) (F ∷ []));
    ups = ap (map up_of) (sym eq) ∙ (map_reverse up_of (F ∷ p.rest) ∙ ap reverse p.ups);
    good = subst (All (Good k R)) eq (all_reverse p.good);
    run = λ x. subst (λ (M : List Col). Trans x (num x T.0) M (num x F.0) (n' x)) eq (trans_reverse (h x) (p.run x));
    flats = all_imp (λ e t. subst (FacingIn e start) eq (touch_reverse t)) p.flats;
    served = λ x j. served_reverse (p.served x j);
  }
    where
      i : List Col
      i = (split F p.rest).0

      eq : reverse (F ∷ p.rest) ≡ T ∷ reverse i
      eq = ap reverse (split F p.rest).1 ∙ (reverse-append i (last_of F p.rest ∷ []) ∙ ap (◌∷ reverse i) p.last)

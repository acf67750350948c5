-- Blocks of columns of which one end is not known (`To`, `From`), and an umbrella made of two of them (`draw_umbrella`).
-- Rests on Block.antt.
use mathlib.Core.Path.{◌≡◌, refl}
use mathlib.Core.Logic.{inl, inr}
use mathlib.Core.List.{List, [], ◌∷◌, ◌++◌}
use Prim.Native.Nat.{ℕ, suc, ◌+◌, ◌≤◌, ◌<◌}
use native.Mathlib.Omega.{arith}
use Rattle.lists.specs.Lists.{All, all_cons, all_nil}
use Rattle.lists.proofs.Lists.{here}
use Rattle.polygon.specs.Polygon.{Edge, ◌—◌}
use Rattle.chart.specs.Chart.{Meets}
use Rattle.chart.proofs.Cells.{Cell, row_by, δ, δ-self, lower_suc, range, range_is, num}
use Rattle.chart.proofs.Runs.{Col, trans_weak}
use Rattle.chart.proofs.Column.{EdgeBetween}
use Rattle.chart.proofs.Touch.{near_edge, start, FacingIn, touch_joins, touch_any, touch_left}
use Rattle.chart.proofs.Place.{Place}
use Rattle.chart.proofs.Hull.{Served}
use Rattle.chart.proofs.Block.{Strip, Block, block_is, block_join, block_link}

-- a block to some last column that still has w
pub record To (k : ℕ) (R : Cell → Type 0) (w : ℕ) (F : Col) (n s : ℕ → ℕ) (us fs : List Edge) : Type 0 where
  pub T : Col
  pub live : (x : ℕ) → δ x w ≤ num x T.0
  pub block : Block k R F T n s us fs

-- a block from some first column that has w already, with n x of each other corner
pub record From (k : ℕ) (R : Cell → Type 0) (w : ℕ) (T : Col) (n s : ℕ → ℕ) (us fs : List Edge) : Type 0 where
  pub F : Col
  pub live : (x : ℕ) → δ x w ≤ num x F.0
  pub new : ℕ → ℕ
  pub total : (x : ℕ) → num x F.0 + new x ≡ δ x w + n x
  pub block : Block k R F T new s us fs

module _ {k : ℕ} {R : Cell → Type 0} where
  -- a block with both ends known
  pub to_block : {w : ℕ} {F T : Col} {n s : ℕ → ℕ} {us fs : List Edge} → ((x : ℕ) → δ x w ≤ num x T.0) → Block k R F T n s us fs → To k R w F n s us fs
  to_block {T = T} h b = record { T = T; live = h; block = b }

  pub from_block : {w : ℕ} {F T : Col} {n s : ℕ → ℕ} {us fs : List Edge} (n' : ℕ → ℕ) → ((x : ℕ) → δ x w ≤ num x F.0) → ((x : ℕ) → num x F.0 + n x ≡ δ x w + n' x) → Block k R F T n s us fs → From k R w T n' s us fs
  from_block {F = F} {n = n} n' h g b = record { F = F; live = h; new = n; total = g; block = b }

  -- the columns up to u, from r0 = u+1 to c
  pub from_rim : {u c : ℕ} {s : ℕ → ℕ} {us fs : List Edge} → u < c → Block k R ((u, 0) ∷ ((suc u, k) ∷ []), (u — suc u)) ((u, 0) ∷ ((c, k) ∷ []), (u — c)) (range (suc (suc u)) (suc c)) s us fs
      → From k R u ((u, 0) ∷ ((c, k) ∷ []), (u — c)) (range (suc u) (suc c)) s us fs
  from_rim {u} {c} h b = from_block (range (suc u) (suc c)) (λ x. omega arith) (λ x. omega (arith, range_is (suc (suc u)) (suc c) x (omega arith), range_is (suc u) (suc c) x (omega arith), lower_suc (suc u) x)) b

  -- with a hung piece before it, or after it
  pub to_link : {m a b w : ℕ} {pl : List Cell → List Cell} {E : List Cell} {st : ℕ → List Cell} {f : ℕ → ℕ} {us₀ fs₀ : List Edge} {n₀ : ℕ → ℕ} {e₀ e₁ : Edge}
      {F : Col} {n s n' s' : ℕ → ℕ} {us fs us' fs' : List Edge} (e : Edge) (n'' s'' : ℕ → ℕ)
      → ((x : ℕ) → n x + ((δ x b + n₀ x) + n' x) ≡ n'' x) → ((x : ℕ) → s'' x ≤ s x + (n₀ x + s' x))
      → EdgeBetween e a b → Place pl E st f m k → All R E → Meets a e₀ → Meets b e₁
      → Block k R F (st a, e₀) n s us fs → Strip a b m (λ z. R (row_by f z)) us₀ fs₀ n₀ → To k R w (st b, e₁) n' s' us' fs'
      → To k R w F n'' s'' (us ++ (us₀ ++ us')) (fs ++ (e ∷ (fs₀ ++ fs')))
  to_link e n'' s'' h g j c r m₀ m₁ p d Z = record { T = Z.T; live = Z.live; block = block_is n'' s'' h g (block_link e j c r m₀ m₁ p d Z.block) }

  pub from_link : {m a b w : ℕ} {pl : List Cell → List Cell} {E : List Cell} {st : ℕ → List Cell} {f : ℕ → ℕ} {us₀ fs₀ : List Edge} {n₀ : ℕ → ℕ} {e₀ e₁ : Edge}
      {T : Col} {n s n' s' : ℕ → ℕ} {us fs us' fs' : List Edge} (e : Edge) (n'' s'' : ℕ → ℕ)
      → ((x : ℕ) → n x + ((δ x b + n₀ x) + n' x) ≡ n'' x) → ((x : ℕ) → s'' x ≤ s x + (n₀ x + s' x))
      → EdgeBetween e a b → Place pl E st f m k → All R E → Meets a e₀ → Meets b e₁
      → From k R w (st a, e₀) n s us fs → Strip a b m (λ z. R (row_by f z)) us₀ fs₀ n₀ → Block k R (st b, e₁) T n' s' us' fs'
      → From k R w T n'' s'' (us ++ (us₀ ++ us')) (fs ++ (e ∷ (fs₀ ++ fs')))
  from_link {b = b} {n₀ = n₀} {n' = n'} e n'' s'' h g j c r m₀ m₁ Z d q = record {
    F = Z.F;
    live = Z.live;
    new = λ x. Z.new x + ((δ x b + n₀ x) + n' x);
    total = λ x. omega (arith, Z.total x, h x);
    block = block_is (λ x. Z.new x + ((δ x b + n₀ x) + n' x)) s'' (λ x. refl) g (block_link e j c r m₀ m₁ Z.block d q);
  }

  -- with a block before it, or after it
  pub to_join : {w : ℕ} {F T F' : Col} {n s n' s' : ℕ → ℕ} {us fs us' fs' : List Edge} (c n'' s'' : ℕ → ℕ)
      → ((x : ℕ) → n x + (c x + n' x) ≡ n'' x) → ((x : ℕ) → s'' x ≤ s x + s' x) → ((x : ℕ) → num x F'.0 ≤ num x T.0 + c x)
      → Block k R F T n s us fs → To k R w F' n' s' us' fs' → To k R w F n'' s'' (us ++ us') (fs ++ fs')
  to_join c n'' s'' h g i p Z = record { T = Z.T; live = Z.live; block = block_is n'' s'' h g (block_join {gs = []} c i all_nil p Z.block) }

  pub from_join : {w : ℕ} {T F' T' : Col} {n s n' s' : ℕ → ℕ} {us fs us' fs' : List Edge} (n'' s'' : ℕ → ℕ)
      → ((x : ℕ) → n x + n' x ≡ n'' x) → ((x : ℕ) → s'' x ≤ s x + s' x) → ((x : ℕ) → num x F'.0 ≤ num x T.0)
      → From k R w T n s us fs → Block k R F' T' n' s' us' fs' → From k R w T' n'' s'' (us ++ us') (fs ++ fs')
  from_join {n' = n'} n'' s'' h g i Z q = record {
    F = Z.F;
    live = Z.live;
    new = λ x. Z.new x + (0 + n' x);
    total = λ x. omega (arith, Z.total x, h x);
    block = block_is (λ x. Z.new x + (0 + n' x)) s'' (λ x. refl) g (block_join {gs = []} (λ x. 0) (λ x. omega (arith, i x)) all_nil Z.block q);
  }

-- a piece that is not empty: its root corners have uprights in it, and the bars of its root edge end side by side in it
pub record Full (u v : ℕ) (us : List Edge) (L : List Col) : Type 0 where
  pub left : Served u us
  pub right : Served v us
  pub meet : FacingIn (u — v) start L

-- the drawing of a piece (u,v) of so many sides besides its root edge
pub record PieceDrawn (sides u v k : ℕ) (R : Cell → Type 0) (us fs : List Edge) : Type 0 where
  pub piece : Strip u v k R us fs (range (suc u) v)
  pub full : 1 < sides → Full u v us piece.L

-- one taken out of a list
all_drop : {P : Edge → Type 0} (e : Edge) (fs gs : List Edge) → All P (fs ++ (e ∷ gs)) → P e × All P (fs ++ gs)
all_drop e [] gs (all_cons p a) = (p, a)
all_drop e (f ∷ fs) gs (all_cons p a) = let (q, b) = all_drop e fs gs a in (q, all_cons p b)

-- an umbrella: the columns with uprights to u, then those with uprights to v; its root edge is level between them
pub draw_umbrella : {k : ℕ} {R : Cell → Type 0} {us us' : List Edge} (sides u c v : ℕ) (fs fs' : List Edge) → u < c → c < v
    → From k R u ((u, 0) ∷ ((c, k) ∷ []), (u — c)) (range (suc u) (suc c)) (λ x. δ x u + range (suc u) (suc c) x) us fs
    → To k R v ((v, 0) ∷ ((c, k) ∷ []), (c — v)) (range (suc c) v) (λ x. δ x v + range c v x) us' fs'
    → PieceDrawn sides u v k R (us ++ us') (fs ++ fs')
draw_umbrella {k} {R} {us} {us'} sides u c v fs fs' uc cv Y Z = record {
  piece = record {
    L = Y.F ∷ b.rest;
    ups = b.ups;
    good = b.good;
    run = λ x. trans_weak (δ x u) (δ x v) (δ x v + range (suc u) v x) (Y.live x) (Z.live x)
        (omega (arith, Y.total x, range_is (suc u) (suc c) x (omega arith), range_is (suc c) v x (omega arith), range_is (suc u) v x (omega arith))) (b.run x);
    flats = (all_drop (u — v) fs fs' b.flats).1;
    root = λ e j S d i k. touch_joins j (touch_left (d ∷ []) (touch_any (all_drop (u — v) fs fs' b.flats).0));
    served = λ x h. b.served x (omega (arith, all x));
  };
  full = λ h. record {
    left = b.served u (omega (arith, all u, δ-self u));
    right = b.served v (omega (arith, all v, δ-self v));
    meet = (all_drop (u — v) fs fs' b.flats).0;
  };
}
  where
    b : Block k R Y.F Z.T (λ x. Y.new x + (δ x v + range (suc c) v x)) (λ x. (δ x u + range (suc u) (suc c) x) + (δ x v + range c v x)) (us ++ us') (fs ++ ((u — v) ∷ fs'))
    b = block_join {gs = (u — v) ∷ []} (λ x. δ x v) (λ x. omega arith) (all_cons (near_edge {r = 0} (inl refl) (here, inl refl) (here, inr refl)) all_nil) Y.block Z.block

    all : (x : ℕ) → δ x u + (δ x v + range (suc u) v x) ≤ (δ x u + range (suc u) (suc c) x) + (δ x v + range c v x)
    all x = omega (arith, range_is (suc u) (suc c) x (omega arith), range_is c v x (omega arith), range_is (suc u) v x (omega arith), lower_suc c x)

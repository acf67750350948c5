-- The quadrilateral of a diagonal's two triangles: no other diagonal crosses the one across it, and no third corner is joined to both ends.
use mathlib.Core.Path.{◌≡◌}
use mathlib.Core.Logic.{◌⊎◌, inl, inr}
use mathlib.Core.List.{List}
use Prim.Native.Nat.{ℕ, ◌<◌}
use native.Mathlib.Decide.{dec_lt}
use native.Mathlib.Omega.{arith}
use Rattle.lists.specs.Lists.{Mem}
use Rattle.polygon.specs.Polygon.{Edge, ◌—◌, Cross, Triangulated, Linked, Joined}
use Rattle.polygon.proofs.Order.{edge}
use Rattle.polygon.proofs.Triangle.{ApexWithin, Beyond, Ahead, ApexOutside, SomeCorner, triangle, opposite, linked_up, links_free}

-- e and f cross, and their four ends are joined round about
pub record Across (n : ℕ) (ds : List Edge) (e f : Edge) : Type 0 where
  pub crossing : Cross e f ⊎ Cross f e
  pub low_low : Joined n ds e.0 f.0
  pub low_high : Joined n ds e.0 f.1
  pub high_low : Joined n ds e.1 f.0
  pub high_high : Joined n ds e.1 f.1

pub turn : {A B : Type 0} → A ⊎ B → B ⊎ A
turn (inl x) = inr x
turn (inr x) = inl x

-- the same seen from f
pub across_back : {n : ℕ} {ds : List Edge} {e f : Edge} → Across n ds e f → Across n ds f e
across_back A = record { crossing = turn A.crossing; low_low = turn A.low_low; low_high = turn A.high_low; high_low = turn A.low_high; high_high = turn A.high_high }

-- of the corner c between e's ends and the corner d above or below them, each joined to both
module _ {n : ℕ} {ds : List Edge} {e : Edge} {c d : ℕ} (w : ApexWithin (Linked n ds) e c) where
  pub across_beyond : Beyond (Linked n ds) e d → Across n ds e (c — d)
  across_beyond o = record {
    crossing = inl (record { above = w.above; below = w.below; past = o.above });
    low_low = inl w.left;
    low_high = inl o.left;
    high_low = inr w.right;
    high_high = inl o.right;
  }

  pub across_ahead : Ahead (Linked n ds) e d → Across n ds e (d — c)
  across_ahead o = record {
    crossing = inr (record { above = o.below; below = w.above; past = w.below });
    low_low = inr o.left;
    low_high = inl w.left;
    high_low = inr o.right;
    high_high = inr w.right;
  }

module _ (n : ℕ) (ds : List Edge) (P : Triangulated n ds) where
  -- joined corners are different, and no two joined pairs cross
  upward : (p q : ℕ) → p < q → Joined n ds p q → Linked n ds p q
  upward p q h (inl l) = l
  upward p q h (inr l) = absurd (omega (arith, linked_up n ds P q p l))

  free : (p q r s : ℕ) → Joined n ds p q → Joined n ds r s → ¬ Cross (p — q) (r — s)
  free p q r s j k x = links_free n ds P p q r s (upward p q (omega arith) j) (upward r s (omega arith) k) x

  pub joined_corners : (p q : ℕ) → Joined n ds p q → (p < n) × (q < n) × (¬ (p ≡ q))
  joined_corners p q (inl l) = omega (arith, linked_up n ds P p q l)
  joined_corners p q (inr l) = omega (arith, linked_up n ds P q p l)

  -- every diagonal has one across it
  pub across : (e : Edge) → Mem e ds → (f : Edge) × Across n ds e f
  across e m = go (triangle n ds P e (inr m)) (opposite n ds P e m)
    where
      go : SomeCorner (ApexWithin (Linked n ds) e) → SomeCorner (ApexOutside (Linked n ds) e) → (f : Edge) × Across n ds e f
      go (c, w) (d, inl o) = (c — d, across_beyond w o)
      go (c, w) (d, inr o) = (d — c, across_ahead w o)

  module _ (e f : Edge) (A : Across n ds e f) where
    abbrev a : ℕ
    a = e.0

    abbrev b : ℕ
    b = e.1

    abbrev c : ℕ
    c = f.0

    abbrev d : ℕ
    d = f.1

    -- only e crosses f
    pub only_one : (g : Edge) → Mem g ds → Cross g f ⊎ Cross f g → g ≡ e
    only_one g m s = go A.crossing s (dec_lt g.0 a) (dec_lt a g.0) (dec_lt g.1 b) (dec_lt b g.1)
      where
        j : Joined n ds g.0 g.1
        j = inl (inr m)

        go : Cross e f ⊎ Cross f e → Cross g f ⊎ Cross f g → Dec (g.0 < a) → Dec (a < g.0) → Dec (g.1 < b) → Dec (b < g.1) → g ≡ e
        go (inl t) (inl x) (yes p) q r s = absurd (free _ _ a d j A.low_high (omega arith))
        go (inl t) (inl x) (no p) (yes q) r s = absurd (free a c _ _ A.low_low j (omega arith))
        go (inl t) (inl x) (no p) (no q) (yes r) s = absurd (free _ _ c b j (turn A.high_low) (omega arith))
        go (inl t) (inl x) (no p) (no q) (no r) (yes s) = absurd (free _ _ b d j A.high_high (omega arith))
        go (inl t) (inl x) (no p) (no q) (no r) (no s) = edge (omega arith) (omega arith)
        go (inl t) (inr x) p q r s = absurd (free a d _ _ A.low_high j (omega arith))
        go (inr t) (inl x) p q r s = absurd (free _ _ c b j (turn A.high_low) (omega arith))
        go (inr t) (inr x) (yes p) q r s = absurd (free c a _ _ (turn A.low_low) j (omega arith))
        go (inr t) (inr x) (no p) (yes q) r s = absurd (free a d _ _ A.low_high j (omega arith))
        go (inr t) (inr x) (no p) (no q) (yes r) s = absurd (free _ _ d b j (turn A.high_high) (omega arith))
        go (inr t) (inr x) (no p) (no q) (no r) (yes s) = absurd (free c b _ _ (turn A.high_low) j (omega arith))
        go (inr t) (inr x) (no p) (no q) (no r) (no s) = edge (omega arith) (omega arith)

    -- no third corner is joined to both ends of e
    pub no_third : (z : ℕ) → Joined n ds z a → Joined n ds z b → (z ≡ c) ⊎ (z ≡ d)
    no_third z i j = go A.crossing (dec_lt z a) (dec_lt z b) (dec_lt z c) (dec_lt c z) (dec_lt z d) (dec_lt d z)
      where
        off : (¬ (z ≡ a)) × (¬ (z ≡ b))
        off = ((joined_corners z a i).2, (joined_corners z b j).2)

        go : Cross e f ⊎ Cross f e → Dec (z < a) → Dec (z < b) → Dec (z < c) → Dec (c < z) → Dec (z < d) → Dec (d < z) → (z ≡ c) ⊎ (z ≡ d)
        go (inl t) (yes p) q r s u w = absurd (free z b a d j A.low_high (omega arith))
        go (inl t) (no p) (yes q) (yes r) s u w = absurd (free a c z b A.low_low j (omega (arith, off)))
        go (inl t) (no p) (yes q) (no r) (yes s) u w = absurd (free a z c b (turn i) (turn A.high_low) (omega (arith, off)))
        go (inl t) (no p) (yes q) (no r) (no s) u w = inl (omega arith)
        go (inl t) (no p) (no q) r s (yes u) w = absurd (free a z b d (turn i) A.high_high (omega (arith, off)))
        go (inl t) (no p) (no q) r s (no u) (yes w) = absurd (free a d b z A.low_high (turn j) (omega (arith, off)))
        go (inl t) (no p) (no q) r s (no u) (no w) = inr (omega arith)
        go (inr t) (yes p) q (yes r) s u w = absurd (free z a c b i (turn A.high_low) (omega arith))
        go (inr t) (yes p) q (no r) (yes s) u w = absurd (free c a z b (turn A.low_low) j (omega arith))
        go (inr t) (yes p) q (no r) (no s) u w = inl (omega arith)
        go (inr t) (no p) (yes q) r s (yes u) w = absurd (free a d z b A.low_high j (omega (arith, off)))
        go (inr t) (no p) (yes q) r s (no u) (yes w) = absurd (free a z d b (turn i) (turn A.high_high) (omega (arith, off)))
        go (inr t) (no p) (yes q) r s (no u) (no w) = inr (omega arith)
        go (inr t) (no p) (no q) r s u w = absurd (free c b a z (turn A.high_low) (turn i) (omega (arith, off)))

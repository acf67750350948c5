-- The definitions of specs/Rules.antt read against document 01: k's neighbours, the edge that enters, the common corners, and that a diagonal is named in either order.
use mathlib.Core.Path.{◌≡◌, refl}
use mathlib.Core.Logic.Dec
use mathlib.Core.Logic.{◌⊎◌, inl, inr, ◌↔◌}
use mathlib.Core.List.{List}
use Prim.Native.Nat.{ℕ, zero, suc, ◌+◌, ◌-◌, ◌≤◌, ◌<◌, max, min}
use native.Mathlib.Decide.{dec_le, dec_lt, ℕ_discrete}
use native.Mathlib.Omega.{arith}
use Rattle.lists.specs.Lists.{Mem, below, choose}
use Rattle.lists.proofs.Lists.{all_mem, keep_mem, keep_sub, keep_test}
use Rattle.lists.proofs.Places.{below_mem, numbers_in}
use Rattle.polygon.specs.Polygon.{Edge, ◌—◌, Side, Joined, Polygon}
use Rattle.polygon.specs.Order.{lower_first}
use Rattle.polygon.proofs.Order.{edge}
use Rattle.sheet.specs.Sheet.{Reading, ask}
use Rattle.edit.specs.Rules.{flip, entering, neighbours, common, rule}

-- the two neighbours of k: its sides lead to them, and nowhere else
abbrev Beside : ℕ → ℕ → ℕ → Type 0
Beside n k x = Side n x k ⊎ Side n k x

abbrev EndOf : Edge → ℕ → Type 0
EndOf e x = (x ≡ e.0) ⊎ (x ≡ e.1)

pub neighbours_read : (n k x : ℕ) → 3 ≤ n → k < n → x < n → Beside n k x ↔ EndOf (neighbours n k) x
unfolding neighbours choose
neighbours_read n zero x h i j = (there, back)
  where
    there : Beside n 0 x → EndOf (1 — (n - 1)) x
    there (inl (inl s)) = absurd (omega arith)
    there (inl (inr s)) = absurd (omega arith)
    there (inr (inl s)) = inl s.0
    there (inr (inr s)) = inr (omega arith)

    back : EndOf (1 — (n - 1)) x → Beside n 0 x
    back (inl e) = inr (inl (e, j))
    back (inr e) = inr (inr (refl, omega arith))
neighbours_read n (suc k) x h i j = go (ℕ_discrete (suc (suc k)) n)
  where
    go : (d : Dec (suc (suc k) ≡ n)) → Beside n (suc k) x ↔ EndOf (choose d (0 — k) (k — (k + 2))) x
    go (yes p) = (there, back)
      where
        there : Beside n (suc k) x → EndOf (0 — k) x
        there (inl (inl s)) = inr (omega arith)
        there (inl (inr s)) = inl s.0
        there (inr (inl s)) = absurd (omega arith)
        there (inr (inr s)) = absurd (omega arith)

        back : EndOf (0 — k) x → Beside n (suc k) x
        back (inl e) = inl (inr (e, p))
        back (inr e) = inl (inl (omega arith, i))
    go (no p) = (there, back)
      where
        there : Beside n (suc k) x → EndOf (k — (k + 2)) x
        there (inl (inl s)) = inl (omega arith)
        there (inl (inr s)) = absurd (omega arith)
        there (inr (inl s)) = inr (omega arith)
        there (inr (inr s)) = absurd (omega arith)

        back : EndOf (k — (k + 2)) x → Beside n (suc k) x
        back (inl e) = inl (inl (omega arith, i))
        back (inr e) = inr (inl (omega arith, j))

-- the edge that enters joins the new corner's two neighbours
pub entering_joins : (n i : ℕ) → entering n i ≡ neighbours (suc n) (suc i)
unfolding entering neighbours choose
entering_joins n i = go (ℕ_discrete (suc i) n) (ℕ_discrete (suc (suc i)) (suc n))
  where
    go : (d : Dec (suc i ≡ n)) (e : Dec (suc (suc i) ≡ suc n)) → choose d (0 — i) (i — (i + 2)) ≡ choose e (0 — i) (i — (i + 2))
    go (yes p) (yes q) = refl
    go (yes p) (no q) = absurd (q (omega arith))
    go (no p) (yes q) = absurd (p (omega arith))
    go (no p) (no q) = refl

-- the common corners: those that a side or diagonal joins to both ends
pub common_reads : (n : ℕ) (ds : List Edge) (e : Edge) (z : ℕ) → Mem z (common n ds e) ↔ ((z < n) × Joined n ds z e.0 × Joined n ds z e.1)
unfolding common below
common_reads n ds e z = (there, λ h. keep_mem _ (below n) (below_mem n z h.0) (h.1, h.2))
  where
    there : Mem z (common n ds e) → (z < n) × Joined n ds z e.0 × Joined n ds z e.1
    there m =
        let (i, j) = all_mem (keep_test _ (below n)) m in
        (omega (arith, all_mem (numbers_in n 0) (keep_sub _ (below n) z m)), i, j)

-- a diagonal is named in either order
ask_same : {P Q : Type 0} (k : ℕ) (d : Dec P) (e : Dec Q) (r : Reading) → (P → Q) → (Q → P) → ask k d r ≡ ask k e r
unfolding ask
ask_same k (yes p) (yes q) r f g = refl
ask_same k (yes p) (no q) r f g = absurd (q (f p))
ask_same k (no p) (yes q) r f g = absurd (p (g q))
ask_same k (no p) (no q) r f g = refl

pub either_order : (a b : ℕ) → lower_first (a, b) ≡ lower_first (b, a)
unfolding lower_first
either_order a b = edge (omega arith) (omega arith)

pub either_way : (a b n : ℕ) (r : Reading) → ask 9 (Dec.and (dec_lt a n) (dec_lt b n)) r ≡ ask 9 (Dec.and (dec_lt b n) (dec_lt a n)) r
either_way a b n r = ask_same 9 _ _ r (λ h. (h.1, h.0)) (λ h. (h.1, h.0))

pub flip_either : (a b : ℕ) (p : Polygon) → rule (flip a b) p ≡ rule (flip b a) p
unfolding rule
flip_either a b p = rw (either_order a b) (either_way a b p.n _)

-- what does not depend on the order of two numbers can be asked with the lower one first
pub in_order : {A : Type 0} (f : ℕ → ℕ → A) → ((x y : ℕ) → f x y ≡ f y x) → (a b : ℕ) → f (min a b) (max a b) ≡ f a b
in_order f same a b = go (dec_le a b)
  where
    go : Dec (a ≤ b) → f (min a b) (max a b) ≡ f a b
    go (yes h) = let l : min a b ≡ a = omega arith in let u : max a b ≡ b = omega arith in rw (l, u)
    go (no h) = let l : min a b ≡ b = omega arith in let u : max a b ≡ a = omega arith in rw (l, u) (same b a)

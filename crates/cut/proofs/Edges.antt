-- Where the corners of each half's diagonals lie: the inner part's on the corners a to b, the rest's not between them.
use mathlib.Core.List.{List}
use Prim.Native.Nat.{ℕ, ◌<◌, ◌≤◌}
use native.Mathlib.Decide.{dec_le}
use native.Mathlib.Omega.{arith}
use Rattle.lists.specs.Lists.{All, Mem, not?}
use Rattle.lists.proofs.Lists.{all_both, all_mem, all_self, keep_all, keep_test}
use Rattle.polygon.specs.Polygon.{Edge, Diagonal, Triangulated}
use Rattle.polygon.specs.Order.{remove}
use Rattle.polygon.proofs.Order.{remove_all}
use Rattle.cut.specs.Cut.{Beneath, beneath?, inner_edges, rest_edges}

-- the corner x is not between the corners of c
abbrev pub Clear : Edge → ℕ → Type 0
Clear c x = c.0 < x → c.1 ≤ x

module _ {n : ℕ} {ds : List Edge} (c : Edge) (T : Triangulated n ds) where
  pub inner_beneath : All (λ e. Diagonal n e × Beneath c e) (inner_edges c ds)
  inner_beneath = all_both (λ e d b. (d, b)) (keep_all (beneath? c) (remove_all c T.diagonals)) (keep_test (beneath? c) (remove c ds))

  module _ (m : Mem c ds) where
    -- c does not cross e, and e is not beneath it
    clear : (e : Edge) → Mem e ds → ¬ Beneath c e → Diagonal n e × Clear c e.0 × Clear c e.1
    clear e k f = (all_mem T.diagonals k, λ l. low l (dec_le c.1 e.0) (dec_le e.1 c.1), λ l. high l (dec_le c.1 e.1) (dec_le c.0 e.0))
      where
        low : c.0 < e.0 → Dec (c.1 ≤ e.0) → Dec (e.1 ≤ c.1) → c.1 ≤ e.0
        low l (yes p) q = p
        low l (no p) (yes q) = absurd (f (omega arith, q))
        low l (no p) (no q) = absurd (all_mem (all_mem T.none_cross m) k (record { above = l; below = omega arith; past = omega arith }))

        high : c.0 < e.1 → Dec (c.1 ≤ e.1) → Dec (c.0 ≤ e.0) → c.1 ≤ e.1
        high l (yes p) q = p
        high l (no p) (yes q) = absurd (f (q, omega arith))
        high l (no p) (no q) = absurd (all_mem (all_mem T.none_cross k) m (record { above = omega arith; below = l; past = omega arith }))

    pub rest_clear : All (λ e. Diagonal n e × Clear c e.0 × Clear c e.1) (rest_edges c ds)
    rest_clear = all_both clear (keep_all (λ d. not? (beneath? c d)) (remove_all c (all_self ds))) (keep_test (λ d. not? (beneath? c d)) (remove c ds))

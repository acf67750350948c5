-- One turn of the loop that stores the place of each corner's last edge.
use mathlib.Core.Path.{◌≡◌, sym, ◌∙◌, ap}
use mathlib.Core.List.{List}
use Prim.Native.Nat.{ℕ, ◌+◌, ◌<◌}
use native.Mathlib.Decide.{ℕ_discrete}
use native.Mathlib.Omega.{arith}
use lib.ListN.{length, get_or, set}
use lib.Seq.{get_or-set_same, get_or-set_other}
use Rattle.polygon.proofs.Order.{low_of}
use Rattle.keys.specs.Keys.{edge_of}
use Rattle.tree.specs.Table.{edge_at, Lasts}

module _ (tr : List ℕ) (j c : ℕ) (room : length tr ≡ 3072) (inside : j < 2045) (small : c < 1024) (is : c ≡ (edge_at tr j).0) where
  abbrev next : List ℕ
  next = set tr (2048 + c) j

  kept : (i : ℕ) → i < 2045 → edge_at next i ≡ edge_at tr i
  kept i h = ap edge_of (get_or-set_other tr (2048 + c) i j 0 (λ e. omega arith))

  pub lasts_next : Lasts j tr → Lasts (j + 1) next
  lasts_next f i h g = go (ℕ_discrete i j)
    where
      a : (edge_at next i).0 ≡ (edge_at tr i).0
      a = low_of (kept i (omega arith))

      same : (edge_at next i).0 ≡ c → get_or next (2048 + (edge_at next i).0) 0 ≡ j
      same e = rw e (get_or-set_same tr (2048 + c) j 0 (omega arith))

      other : ¬ ((edge_at next i).0 ≡ c) → get_or next (2048 + (edge_at next i).0) 0 ≡ get_or tr (2048 + (edge_at tr i).0) 0
      other o = get_or-set_other tr (2048 + c) (2048 + (edge_at next i).0) j 0 (λ e. o (omega arith)) ∙ ap (λ (x : ℕ). get_or tr (2048 + x) 0) a

      go : Dec (i ≡ j) → get_or next (2048 + (edge_at next i).0) 0 ≡ i
      go (yes e) = same (a ∙ (ap (λ (x : ℕ). (edge_at tr x).0) e ∙ sym is)) ∙ sym e
      go (no e) =
          other (λ q. g j (omega arith) (omega arith) (low_of (kept j inside) ∙ (sym is ∙ sym q)))
          ∙ f i (omega arith) (λ k h' k' q. g k h' (omega arith) (low_of (kept k (omega arith)) ∙ (q ∙ sym a)))

-- The strokes of a chart against its columns: a stroke is upright in column j exactly if its edge is the upright of that column, and level if it is in none.
-- Rests on the laws of places of the crate lists.
use mathlib.Core.Path.{◌≡◌, refl, sym, ◌∙◌, ap, ap₂, subst}
use mathlib.Core.Logic.{◌⊎◌, inl, inr}
use mathlib.Core.List.{List, [], ◌∷◌, map}
use Prim.Native.Nat.{ℕ, suc, ◌+◌}
use native.Mathlib.Omega.{arith}
use Rattle.lists.specs.Lists.{Mem, choose, head, tail, Nth, next, now}
use Rattle.lists.proofs.Lists.{not_empty, mem_unmap}
use Rattle.polygon.specs.Polygon.{Edge}
use Rattle.polygon.specs.Order.{same?}
use Rattle.chart.specs.Chart.{Stroke, level, upright, stroke_edge, stroke}

-- what the stroke of e says, the first of us being column j
abbrev pub StrokeSays : ℕ → List Edge → Edge → Stroke → Type 0
StrokeSays j us e s = ((s ≡ level e) × (Mem e us → ⊥)) ⊎ ((i : ℕ) × (s ≡ upright e (j + i)) × Nth e i us)

pub stroke_says : (j : ℕ) (us : List Edge) (e : Edge) → StrokeSays j us e (stroke j us e)
unfolding stroke choose
stroke_says j [] e = inl (refl, not_empty)
stroke_says j (f ∷ us) e = pick (same? e f) (stroke_says (suc j) us e)
  where
    not_here : (e ≡ f → ⊥) → (Mem e us → ⊥) → Mem e (f ∷ us) → ⊥
    not_here g h (head q) = g q
    not_here g h (tail m) = h m

    pick : (k : Dec (e ≡ f)) → StrokeSays (suc j) us e (stroke (suc j) us e) → StrokeSays j (f ∷ us) e (choose k (upright e j) (stroke (suc j) us e))
    pick (yes k) c = inr (0, ap (upright e) (omega arith), now k)
    pick (no k) (inl c) = inl (c.0, not_here k c.1)
    pick (no k) (inr c) = inr (suc c.0, c.1 ∙ ap (upright e) (omega arith), next c.2)

stroke_edge_lem : (us : List Edge) (e : Edge) → stroke_edge (stroke 0 us e) ≡ e
unfolding stroke_edge
stroke_edge_lem us e = elim (stroke_says 0 us e) [ inl c ↦ ap stroke_edge c.0 | inr c ↦ ap stroke_edge c.1 ]

pub strokes_edges : (us es : List Edge) → map stroke_edge (map (stroke 0 us) es) ≡ es
strokes_edges us [] = refl
strokes_edges us (e ∷ es) = ap₂ (λ (x : Edge) (l : List Edge). x ∷ l) (stroke_edge_lem us e) (strokes_edges us es)

module _ (us es : List Edge) where
  pub level_in : (e : Edge) → Mem (level e) (map (stroke 0 us) es) → Mem e es × (Mem e us → ⊥)
  level_in e i = let (x, k, q) = mem_unmap (stroke 0 us) es i in pick x k q (stroke_says 0 us x)
    where
      pick : (x : Edge) → Mem x es → level e ≡ stroke 0 us x → StrokeSays 0 us x (stroke 0 us x) → Mem e es × (Mem e us → ⊥)
      pick x k q (inl c) = let g : e ≡ x = cc (q ∙ c.0) in (subst (λ (y : Edge). Mem y es) (sym g) k, λ j. c.1 (subst (λ (y : Edge). Mem y us) g j))
      pick x k q (inr c) = let g : ◌≡◌ {A = ℕ} 0 1 = cc (q ∙ c.1) in absurd (omega arith)

  pub upright_in : (e : Edge) (j : ℕ) → Mem (upright e j) (map (stroke 0 us) es) → Mem e es × Nth e j us
  upright_in e j i = let (x, k, q) = mem_unmap (stroke 0 us) es i in pick x k q (stroke_says 0 us x)
    where
      pick : (x : Edge) → Mem x es → upright e j ≡ stroke 0 us x → StrokeSays 0 us x (stroke 0 us x) → Mem e es × Nth e j us
      pick x k q (inl c) = let g : ◌≡◌ {A = ℕ} 0 1 = cc (q ∙ c.0) in absurd (omega arith)
      pick x k q (inr c) =
          let g : e ≡ x = cc (q ∙ c.1) in
          let h : j ≡ 0 + c.0 = cc (q ∙ c.1) in
          (subst (λ (y : Edge). Mem y es) (sym g) k, subst (λ (y : Edge). Nth y j us) (sym g) (subst (λ (n : ℕ). Nth x n us) (omega arith) c.2))

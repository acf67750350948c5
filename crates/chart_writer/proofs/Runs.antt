-- Bars and strokes in bytes, one behind the other.
use mathlib.Core.Path.{◌≡◌, refl, sym, ◌∙◌, ap}
use mathlib.Core.List.{List, [], ◌∷◌, ◌++◌, map, map-append, flat_map, append_assoc, append-nil}
use Prim.Native.Nat.{ℕ, zero, suc, ◌+◌, ◌*◌, ◌<◌, ◌≤◌}
use native.Mathlib.Decide.{dec_lt}
use native.Mathlib.Numerals.{add-one}
use native.Mathlib.Omega.{arith}
use lib.ListN.{length, get_or, length-append, length-map}
use lib.Seq.{sets}
use Rattle.lists.specs.Lists.{below, numbers}
use Rattle.lists.proofs.Places.{below_count, below_next}
use Rattle.lists.proofs.Stores.{sets_append}
use Rattle.codec.specs.Numbers.{bytes16}
use Rattle.chart.specs.Bytes.{bar_bytes, stroke_bytes}
use Rattle.chart.specs.Decode.{bar_on}
use Rattle.chart.proofs.Sizes.{bars_size}
use Rattle.chart_writer.specs.Tables.{edge_bytes, bar_run, stroke_run, stroke_map, edge_stroke, table_bar, table_stroke}
use Rattle.std.specs.Prelude.{Option, Some, None}

module _ {A : Type 0} (f : A → List ℕ) (h : ℕ → A) where
  abbrev run : ℕ → List ℕ
  run i = flat_map f (map h (below i))

  flat_snoc : (xs : List A) (a : A) → flat_map f (xs ++ (a ∷ [])) ≡ flat_map f xs ++ f a
  unfolding flat_map
  flat_snoc [] a = append-nil (f a)
  flat_snoc (x ∷ xs) a = ap (λ (l : List ℕ). f x ++ l) (flat_snoc xs a) ∙ sym (append_assoc (f x) (flat_map f xs) (f a))

  run_next : (i : ℕ) → run (suc i) ≡ run i ++ f (h i)
  run_next i = rw (below_next i, map-append h (below i) (i ∷ [])) (flat_snoc (map h (below i)) (h i))

  run_none : run 0 ≡ []
  unfolding below numbers flat_map
  run_none = refl

  pub run_size : (i : ℕ) → length (run (suc i)) ≡ length (run i) + length (f (h i))
  run_size i = ap length (run_next i) ∙ length-append (run i) (f (h i))

  pub run_room : (i m : ℕ) → i < m → length (run i) + length (f (h i)) ≤ length (run m)
  run_room i zero p = absurd (omega arith)
  run_room i (suc m) p = go (dec_lt i m) (run_room i m)
    where
      go : Dec (i < m) → (i < m → length (run i) + length (f (h i)) ≤ length (run m)) → length (run i) + length (f (h i)) ≤ length (run (suc m))
      go (yes q) r = omega (arith, r q, run_size m)
      go (no q) r = let e : i ≡ m = omega arith in rw e (omega (arith, run_size m))

  -- one more is stored
  run_stored : (out : List ℕ) (from i : ℕ) → sets (sets out from (run i)) (from + length (run i)) (f (h i)) ≡ sets out from (run (suc i))
  run_stored out from i = rw (run_next i) (sym (sets_append (run i) (f (h i)) out from))

module _ (rows left right : List ℕ) where
  pub bars_none : (out : List ℕ) → out ≡ sets out 6 (bar_run rows left right 0)
  bars_none out = rw (run_none bar_bytes (table_bar rows left right))

  pub bar_stored : (out : List ℕ) (x : ℕ)
      → sets (sets out 6 (bar_run rows left right x)) (6 + 6 * x) (bar_bytes (table_bar rows left right x)) ≡ sets out 6 (bar_run rows left right (x + 1))
  bar_stored out x =
      let r : 6 + 6 * x ≡ 6 + length (bar_run rows left right x) = omega (arith, bars_size (map (table_bar rows left right) (below x)), length-map (below x) (table_bar rows left right), below_count x) in
      rw (r, add-one x) (run_stored bar_bytes (table_bar rows left right) out 6 x)

-- a bar, by its three numbers
pub bar_put : (out : List ℕ) (at r i j : ℕ) → sets (sets (sets out at (bytes16 r)) (at + 2) (bytes16 i)) (at + 4) (bytes16 j) ≡ sets out at (bar_bytes (bar_on r i j))
unfolding bar_bytes
bar_put out at r i j =
    let q : at + 4 ≡ at + 2 + 2 = omega arith in
    rw q
    (sym (sets_append (bytes16 i) (bytes16 j) (sets out at (bytes16 r)) (at + 2))
    ∙ sym (sets_append (bytes16 r) (bytes16 i ++ bytes16 j) out at))

-- a stroke, by the bytes before its column
module _ (k : ℕ) where
  pub level_bytes : edge_bytes k None ≡ stroke_bytes (edge_stroke k None)
  unfolding stroke_bytes
  level_bytes = refl

  pub upright_bytes : (j : ℕ) → edge_bytes k (Some j) ++ bytes16 j ≡ stroke_bytes (edge_stroke k (Some j))
  unfolding stroke_bytes
  upright_bytes j = refl

  pub stroke_size_lem : (c : Option ℕ) → length (stroke_bytes (edge_stroke k c)) ≡ 5 + 2 * stroke_map c
  unfolding stroke_bytes
  stroke_size_lem None = refl
  stroke_size_lem (Some j) = refl

-- the bytes that one more stroke takes, and the strokes once it is stored
module _ (tr : List ℕ) (stands : List (Option ℕ)) where
  pub stroke_more : (i : ℕ) → length (stroke_run tr stands (i + 1)) ≡ length (stroke_run tr stands i) + (5 + 2 * stroke_map (get_or stands i None))
  stroke_more i = rw (add-one i) (run_size stroke_bytes (table_stroke tr stands) i ∙ rw (stroke_size_lem (get_or tr i 0) (get_or stands i None)))

  pub strokes_none : stroke_run tr stands 0 ≡ []
  strokes_none = run_none stroke_bytes (table_stroke tr stands)

  pub stroke_stored : (out : List ℕ) (from i : ℕ)
      → sets (sets out from (stroke_run tr stands i)) (from + length (stroke_run tr stands i)) (stroke_bytes (table_stroke tr stands i)) ≡ sets out from (stroke_run tr stands (i + 1))
  stroke_stored out from i = rw (add-one i) (run_stored stroke_bytes (table_stroke tr stands) out from i)

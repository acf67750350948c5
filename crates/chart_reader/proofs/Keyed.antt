-- The edges of the strokes as keys, one after another, as the loop that reads them meets them.
use mathlib.Core.Path.{◌≡◌, refl, ap, ap₂, sym, ◌∙◌}
use mathlib.Core.Bool.{Bool, true, false, true≢false}
use mathlib.Core.List.{List, [], ◌∷◌, map}
use Prim.Native.Nat.{ℕ, suc, ◌+◌, ◌≤◌, ◌<◌}
use borrow.Author.Count.{below_more}
use native.Mathlib.Omega.{arith}
use lib.ListN.{length, take, set, get_or, length-set}
use Rattle.lists.specs.Lists.{All}
use Rattle.lists.proofs.Places.{table_next}
use Rattle.polygon.specs.Polygon.{Edge, ◌—◌, Ascending}
use Rattle.keys.specs.Keys.{key_of, edge_of, edges_of}
use Rattle.keys.specs.Sort.{ascends}
use Rattle.keys.proofs.InOrder.{edge_of_key, ascends_edges, edges_ascend}
use Rattle.chart.specs.declared.Stroke.{Stroke}
use Rattle.chart.specs.Chart.{stroke_edge}
use Rattle.chart.specs.Decode.{stroke_at, chart_in, stroke_of}
use Rattle.chart_reader.specs.Rules.{Named, edges_in}
use Rattle.chart_reader.specs.Held.{StrokesFound}
use Rattle.chart_reader.proofs.Stroked.{edge_of_lem, strokes_all, strokes_at}

-- the edge of the stroke at place k of the table
abbrev pub edge_no : List ℕ → List ℕ → ℕ → Edge
edge_no s at k = stroke_edge (stroke_at s (get_or at k 0))

keyed_edges : (s at keys : List ℕ) → length at ≤ length keys → ((k : ℕ) → k < length at → get_or keys k 0 ≡ key_of (edge_no s at k)) → ((k : ℕ) → k < length at → (edge_no s at k).1 < 1024)
    → edges_of (take (length at) keys) ≡ map stroke_edge (map (stroke_at s) at)
keyed_edges s [] keys h f g = refl
keyed_edges s (p ∷ at) [] h f g = absurd (omega arith)
keyed_edges s (p ∷ at) (x ∷ keys) h f g =
    ap₂ ◌∷◌ (ap edge_of (f 0 (omega arith)) ∙ edge_of_key (stroke_edge (stroke_at s p)) (g 0 (omega arith)))
    (keyed_edges s at keys (omega arith) (λ k i. f (suc k) (omega arith)) (λ k i. g (suc k) (omega arith)))

-- what the loop keeps: the first i edges are of two corners, the lower first, and their keys stand in the table
pub record KeysRead (s : List ℕ) (n : ℕ) (at : List ℕ) (room : ℕ) (keys : List ℕ) (i : ℕ) : Type 0 where
  pub upto : i ≤ length at
  pub size : length keys ≡ room
  pub named : (k : ℕ) → k < i → ((edge_no s at k).0 < (edge_no s at k).1) × ((edge_no s at k).1 < n)
  pub table : (k : ℕ) → k < i → get_or keys k 0 ≡ key_of (edge_no s at k)

module _ (s : List ℕ) (n : ℕ) (at : List ℕ) (room : ℕ) (keys : List ℕ) (i : ℕ) (K : KeysRead s n at room keys i) (P : StrokesFound s n at) where
  module _ (more : i < length at) (t : Stroke) (is : stroke_of t ≡ stroke_at s (get_or at i 0)) where
    edge_is : edge_no s at i ≡ (t.a — t.b)
    edge_is = ap stroke_edge (sym is) ∙ edge_of_lem t

    pub not_named : ((t.a < t.b) × (t.b < n) → ⊥) → All (Named (chart_in s)) (chart_in s).strokes → ⊥
    not_named f N =
        let q = rw edge_is at (strokes_at s n at P N i more) in
        f (omega (arith, P.count))

    pub keyed_next : length at ≤ room → t.a < t.b → t.b < n → (v : ℕ) → v ≡ key_of (t.a — t.b) → KeysRead s n at room (set keys i v) (i + 1)
    keyed_next fits h k v e = record {
      upto = omega arith;
      size = length-set keys i v ∙ K.size;
      named = below_more _ _ K.named (rw edge_is (h, k));
      table = table_next (λ k. key_of (edge_no s at k)) keys i v (omega (arith, K.size)) (rw edge_is e) K.table;
    }

  module _ (last : length at ≤ i) where
    pub all_named : All (Named (chart_in s)) (chart_in s).strokes
    all_named = strokes_all s n at P (λ k h. omega (arith, K.named k (omega arith), P.count))

    pub all_keyed : length at ≤ room → edges_of (take (length at) keys) ≡ edges_in (chart_in s)
    all_keyed fits = rw (← P.strokes) (keyed_edges s at keys (omega (arith, K.size)) (λ k h. K.table k (omega arith)) (λ k h. omega (arith, K.named k (omega arith), P.count, P.formed.most)))

-- the order of the keys is the order of the strokes
module _ (ks : List ℕ) (es : List Edge) (r : Bool) (E : edges_of ks ≡ es) (a : r ≡ ascends ks) where
  pub keys_ascend : r ≡ true → Ascending es
  keys_ascend h = rw E at (ascends_edges ks (sym a ∙ h))

  pub keys_not : r ≡ false → Ascending es → ⊥
  keys_not h A = true≢false (sym (edges_ascend ks (rw E A)) ∙ (sym a ∙ h))

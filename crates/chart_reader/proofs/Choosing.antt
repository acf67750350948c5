-- The keys of the diagonals, one after another, as the loop that copies them meets them; and what their number says.
use mathlib.Core.Path.{◌≡◌, ap, sym, ◌∙◌}
use mathlib.Core.List.{List, [], ◌∷◌, ◌++◌, map-append, append-nil}
use Prim.Native.Nat.{ℕ, suc, ◌+◌, ◌-◌, ◌≤◌, ◌<◌}
use native.Mathlib.Numerals.{add-one}
use native.Mathlib.Omega.{arith}
use lib.ListN.{length, take, drop, set, get_or, length-set, length-map, drop_of_length-le}
use lib.Seq.{drop-cons, take-suc-set, append_snoc, length-take-le}
use Rattle.lists.specs.Lists.{keep}
use Rattle.lists.proofs.Lists.{keep_sorted, keep_test, keep_no, keep_yes}
use Rattle.polygon.specs.Polygon.{Edge, Diagonal, NoneCross}
use Rattle.polygon.specs.Order.{diagonal?}
use Rattle.keys.specs.Keys.{edge_of, edges_of}
use Rattle.keys.specs.Tops.{Diagonals}
use Rattle.chart_reader.specs.Rules.{PartOf}
use Rattle.chart_reader.specs.Held.{EdgesOf}
use Rattle.chart_reader.proofs.Sides.{sides_full, full_sides}

-- what the loop keeps: m diagonals are copied, and those among the edges from i on are left
pub record Choosing (n : ℕ) (edges : List ℕ) (room : ℕ) (keys : List ℕ) (m i : ℕ) : Type 0 where
  pub upto : i ≤ length edges
  pub low : m ≤ i
  pub size : length keys ≡ room
  pub chosen : edges_of (take m keys) ++ keep (diagonal? n) (edges_of (drop i edges)) ≡ keep (diagonal? n) (edges_of edges)

module _ (n : ℕ) (edges : List ℕ) (room : ℕ) (keys : List ℕ) (m i : ℕ) (C : Choosing n edges room keys m i) where
  module _ (fits : length edges ≤ room) (more : i < length edges) where
    abbrev x : ℕ
    x = get_or edges i 0

    rest : edges_of (drop i edges) ≡ edge_of x ∷ edges_of (drop (suc i) edges)
    rest = ap edges_of (drop-cons edges i 0 more)

    pub choosing_yes : Diagonal n (edge_of x) → Choosing n edges room (set keys m x) (m + 1) (i + 1)
    choosing_yes d =
        let t : edges_of (take (suc m) (set keys m x)) ≡ edges_of (take m keys) ++ (edge_of x ∷ []) = ap edges_of (take-suc-set keys m x (omega (arith, C.size, C.low))) ∙ map-append edge_of (take m keys) (x ∷ []) in
        let c = rw (rest, keep_yes (diagonal? n) (edge_of x) (edges_of (drop (suc i) edges)) d) at C.chosen in
        rw (add-one m, add-one i) (record {
          upto = more;
          low = omega (arith, C.low);
          size = length-set keys m x ∙ C.size;
          chosen = rw (t, append_snoc (edges_of (take m keys)) (edge_of x) (keep (diagonal? n) (edges_of (drop (suc i) edges)))) c;
        })

    pub choosing_no : (Diagonal n (edge_of x) → ⊥) → Choosing n edges room keys m (i + 1)
    choosing_no f =
        let c = rw (rest, keep_no (diagonal? n) (edge_of x) (edges_of (drop (suc i) edges)) f) at C.chosen in
        rw (add-one i) (record { upto = more; low = omega (arith, C.low); size = C.size; chosen = c })

  pub chosen_all : length edges ≤ i → edges_of (take m keys) ≡ keep (diagonal? n) (edges_of edges)
  unfolding keep
  chosen_all last =
      let e : drop i edges ≡ [] = drop_of_length-le edges last in
      sym (append-nil (edges_of (take m keys))) ∙ rw e at C.chosen

-- n - 3 diagonals or not
module _ (n : ℕ) (es : List Edge) (E : EdgesOf n es) (keys : List ℕ) (m : ℕ) (fits : m ≤ length keys) (chosen : edges_of (take m keys) ≡ keep (diagonal? n) es) where
  chosen_count : m ≡ length (keep (diagonal? n) es)
  chosen_count = sym (length-take-le m keys fits) ∙ (sym (length-map (take m keys) edge_of) ∙ ap length chosen)

  pub wrong_count : (m + 3 ≡ n → ⊥) → PartOf n es → ⊥
  wrong_count f P = f (omega (arith, sides_full n E.least es E.named E.ascending E.count P.0, chosen_count))

  pub chosen_diagonals : Diagonals n (edges_of (take m keys))
  chosen_diagonals = rw chosen (record { ascending = keep_sorted (diagonal? n) E.ascending; diagonals = keep_test (diagonal? n) es })

  module _ (right : m + 3 ≡ n) where
    pub part_of : NoneCross (edges_of (take m keys)) → PartOf n es × (edges_of (take (n - 3) keys) ≡ keep (diagonal? n) es)
    part_of N =
        let e : n - 3 ≡ m = omega arith in
        ((full_sides n E.least es E.named E.ascending E.count (omega (arith, chosen_count)), rw chosen at N), rw e chosen)

    pub none_part : (NoneCross (edges_of (take m keys)) → ⊥) → PartOf n es → ⊥
    none_part f P = f (rw chosen P.1)

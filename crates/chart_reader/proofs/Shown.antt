-- The part that a chart shows: its strokes are all sides and n - 3 diagonals that do not cross exactly if it shows a valid part, which is then, if it has no angles, the part that is held.
use mathlib.Core.Path.{◌≡◌, refl, ap, sym}
use mathlib.Core.Logic.{inl, inr}
use Prim.Native.Nat.{◌+◌, ◌*◌, ◌≤◌, ◌<◌}
use native.Mathlib.Omega.{arith}
use lib.ListN.{length, length-map}
use Rattle.lists.specs.Lists.{All, Mem}
use Rattle.lists.proofs.Lists.{all_map, all_mem, all_of, keep_mem, keep_sorted, keep_sub, keep_test, sorted_same, mem_map}
use Rattle.polygon.specs.Angles.{none}
use Rattle.polygon.specs.Polygon.{Edge, Ascending, Diagonal, Polygon, Valid, Linked}
use Rattle.polygon.specs.Order.{diagonal?}
use Rattle.polygon.proofs.Order.{one_way}
use Rattle.polygon.proofs.Reading.{diagonal_reads}
use Rattle.polygon.proofs.Triangle.{linked_up}
use Rattle.chart.specs.Chart.{stroke_edge, Chart, chart_of, Shows}
use Rattle.chart.proofs.Theorems.{chart_shows, chart_stroke_count}
use Rattle.chart_reader.specs.Rules.{part_sides, Named, edges_in, diagonals_in, PartRule, part_in}
use Rattle.chart_reader.proofs.Sides.{side_among, sides_are, kinds, sides_full}

-- what passes the last test shows a valid part
module _ (c : Chart) (least : 3 ≤ c.n) (N : All (Named c) c.strokes) (A : Ascending (edges_in c)) (P : PartRule c) where
  named_edges : All (λ e. (e.0 < e.1) × (e.1 < c.n)) (edges_in c)
  named_edges = all_map stroke_edge N

  pub rule_shows : Shows c (part_in c)
  rule_shows = record { corners = refl; edges = λ e. (kinds c.n least (edges_in c) named_edges A e, back e); ascending = A }
    where
      back : (e : Edge) → Linked c.n (diagonals_in c) e.0 e.1 → Mem e (edges_in c)
      back e (inl s) = all_mem P.0 (side_among c.n least e.0 e.1 s)
      back e (inr m) = keep_sub (diagonal? c.n) (edges_in c) e m

  pub rule_valid : c.n ≤ 1024 → length c.strokes + 3 ≡ 2 * c.n → Valid (part_in c)
  rule_valid most count = record {
    least = least;
    most = most;
    triangulated = record {
      ascending = keep_sorted (diagonal? c.n) A;
      diagonals = keep_test (diagonal? c.n) (edges_in c);
      none_cross = P.1;
      full = sides_full c.n least (edges_in c) named_edges A (omega (arith, length-map c.strokes stroke_edge)) P.0;
    };
    allowed = tt;
  }

-- a chart that shows a valid part
module _ (c : Chart) (p : Polygon) (v : Valid p) (S : Shows c p) where
  pub shows_named : All (Named c) c.strokes
  shows_named = all_of c.strokes (λ s m. rw S.corners (linked_up p.n p.ds v.triangulated _ _ ((S.edges (stroke_edge s)).0 (mem_map stroke_edge m))))

  pub shows_count : length c.strokes + 3 ≡ 2 * p.n
  shows_count =
      let O = chart_shows p v in
      let e : edges_in c ≡ edges_in (chart_of p) = sorted_same one_way (edges_in c) (edges_in (chart_of p)) S.ascending O.ascending (λ x m. (O.edges x).1 ((S.edges x).0 m)) (λ x m. (S.edges x).1 ((O.edges x).0 m)) in
      omega (arith, ap length e, length-map c.strokes stroke_edge, length-map (chart_of p).strokes stroke_edge, chart_stroke_count p v)

  diagonals_same : diagonals_in c ≡ p.ds
  diagonals_same = sorted_same one_way (diagonals_in c) p.ds (keep_sorted (diagonal? c.n) S.ascending) v.triangulated.ascending
      (λ e m. there e (all_mem (keep_test (diagonal? c.n) (edges_in c)) m) ((S.edges e).0 (keep_sub (diagonal? c.n) (edges_in c) e m)))
      (λ e m. keep_mem (diagonal? c.n) (edges_in c) ((S.edges e).1 (inr m)) (rw S.corners (all_mem v.triangulated.diagonals m)))
    where
      there : (e : Edge) → Diagonal c.n e → Linked p.n p.ds e.0 e.1 → Mem e p.ds
      there e d (inl s) = absurd (((diagonal_reads p.n e.0 e.1).0 (rw S.corners at d)).2 s)
      there e d (inr m) = m

  pub shows_part : p.angles ≡ none → part_in c ≡ p
  shows_part b = λ i. record { n = S.corners i; ds = diagonals_same i; angles = sym b i }

  pub shows_rule : PartRule c
  shows_rule = (all_of (part_sides c.n) (λ e m. (S.edges e).1 (inl (rw S.corners at (all_mem (sides_are c.n (rw S.corners v.least)) m)))), rw diagonals_same v.triangulated.none_cross)

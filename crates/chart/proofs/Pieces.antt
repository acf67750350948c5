-- In the chart of every plan, closed up or not, the root corners' bars of every piece reach the piece's first and last column and meet side by side.
-- A hung piece stands between two columns with uprights to its root corners (Hung.antt) and has uprights to both inside (Draw.antt); its root edge is level (Charts.antt).
use mathlib.Core.Path.{◌≡◌, refl, sym, subst}
use mathlib.Core.Logic.{inl, inr}
use mathlib.Core.List.{List, [], ◌∷◌, ◌++◌, reverse, append-nil}
use Prim.Native.Nat.{ℕ, suc, ◌+◌, ◌-◌, ◌≤◌, ◌<◌}
use native.Mathlib.Decide.{ℕ_discrete}
use native.Mathlib.Omega.{arith}
use lib.ListN.{length, get_or}
use Rattle.lists.specs.Lists.{Mem, tail, Nth, next, now}
use Rattle.lists.proofs.Lists.{choose_yes, here}
use Rattle.lists.proofs.Places.{mem_nth, nth_get_d, nth_left, nth_lt, nth_right}
use Rattle.polygon.specs.Polygon.{Edge, ◌—◌}
use Rattle.polygon.specs.Tree.{Tree, span}
use Rattle.polygon.proofs.Chords.{span_pos}
use Rattle.umbrella.specs.Plan.{Plan}
use Rattle.umbrella.specs.Best.{Node, two}
use Rattle.chart.specs.Places.{cols}
use Rattle.chart.specs.Chart.{Meets, first, last, Chart, layout, chart, closed, Covers, Touching}
use Rattle.chart.specs.Pieces.{Rooted, RootBars, EveryPiece}
use Rattle.chart.proofs.Hull.{Served, served_reverse, left_le, right_ge}
use Rattle.chart.proofs.Flats.{flats}
use Rattle.chart.proofs.Draw.{draws}
use Rattle.chart.proofs.Charts.{chart_true, chart_touching, chart_size, upright_stroke, level_stroke}
use Rattle.chart.proofs.Closing.{closed_rooted}
use Rattle.chart.proofs.Segments.{Stretch, Segment, turned}
use Rattle.chart.proofs.Hung.{every_piece}

node_wide : {s : Tree} → Node s → 1 < span s
unfolding span
node_wide (two {a} {b}) = omega (arith, span_pos a, span_pos b)

-- a piece that is not a side has uprights to both its root corners
both_served : {s : Tree} (q : Plan s) (a b : ℕ) → Node s → a + span s ≡ b → Served a (cols q a b) × Served b (cols q a b)
both_served q a b n h = let f = (draws q (λ z. Unit {0}) a b h tt tt (record { all = λ z m. tt })).full (node_wide n) in (f.left, f.right)

module _ {t : Tree} (p : Plan t) (big : 2 ≤ span t) where
  abbrev us : List Edge
  us = cols p 0 (span t)

  abbrev fs : List Edge
  fs = flats p 0 (span t)

  -- a bar holds its uprights
  holds : (x j : ℕ) (e : Edge) → Nth e j us → Meets x e → Covers (chart p) x j
  unfolding chart layout
  holds x j e n m = (left_le x j e n m, right_ge x (span t) j e n m)

  -- columns between an upright to a and one to b, with uprights to both among them, where the bars of a and b touch
  between : (xs : List Edge) (a b : ℕ) (e f : Edge) → Stretch us (e ∷ (xs ++ (f ∷ []))) → Meets a e → Meets b f → Served a xs → Served b xs → Touching (chart p) (a — b) → Rooted (chart p) xs a b
  between xs a b e f w m₀ m₁ (d, i, k) (g, j, l) T =
      let (x, n) = mem_nth i in
      let (y, o) = mem_nth j in
      let ce : Covers (chart p) a (length w.pre + 0) = holds a (length w.pre + 0) e (whole (now refl)) m₀ in
      let cf : Covers (chart p) b (length w.pre + suc (length xs + 0)) = holds b (length w.pre + suc (length xs + 0)) f (whole (next (nth_right xs (now refl)))) m₁ in
      let cd : Covers (chart p) a (suc (length w.pre) + x) = holds a (suc (length w.pre) + x) d (inside x n) k in
      let cg : Covers (chart p) b (suc (length w.pre) + y) = holds b (suc (length w.pre) + y) g (inside y o) l in
      record {
        at = suc (length w.pre);
        named = λ z h. upright_stroke p (get_or xs z (0 — 0)) (suc (length w.pre) + z) (inside z (nth_get_d xs z (0 — 0) h));
        starts = omega arith;
        ends = omega (arith, nth_lt o);
        meet = elim T [ inl h ↦ h | inr h ↦ absurd (omega arith) ];
      }
    where
      whole : {z : Edge} {r : ℕ} → Nth z r (e ∷ (xs ++ (f ∷ []))) → Nth z (length w.pre + r) us
      whole {z} {r} n = subst (Nth z (length w.pre + r)) (sym w.is) (nth_right w.pre (nth_left w.post n))

      inside : {z : Edge} (r : ℕ) → Nth z r xs → Nth z (suc (length w.pre) + r) us
      inside {z} r n = subst (λ i. Nth z i us) (omega arith) (whole (next (nth_left (f ∷ []) n)))

  root_touching : (a b : ℕ) → Mem (a — b) fs → Touching (chart p) (a — b)
  root_touching a b m = chart_touching p big (a — b) (level_stroke p (a — b) (tail m))

  swap : (a b : ℕ) → Touching (chart p) (a — b) → Touching (chart p) (b — a)
  swap a b (inl h) = inr h
  swap a b (inr h) = inl h

  -- a hung piece
  hung_bars : (s : Tree) (q : Plan s) (a b : ℕ) (e f : Edge) → Node s → a + span s ≡ b → Meets a e → Meets b f → Segment us (e ∷ (cols q a b ++ (f ∷ []))) → Mem (a — b) fs
      → RootBars (chart p) (cols q a b) a b
  hung_bars s q a b e f n h m₀ m₁ (inl w) r =
      let (x, y) = both_served q a b n h in
      inl (between (cols q a b) a b e f w m₀ m₁ x y (root_touching a b r))
  hung_bars s q a b e f n h m₀ m₁ (inr w) r =
      let (x, y) = both_served q a b n h in
      inr (between (reverse (cols q a b)) b a f e (subst (Stretch us) (turned e f (cols q a b)) w) m₁ m₀ (served_reverse y) (served_reverse x) (swap a b (root_touching a b r)))

  -- the whole piece: corner 0's bar starts in the first column, and the last corner's ends in the last
  first_column : ((chart p).bar 0).left ≡ 0
  unfolding chart layout
  first_column = choose_yes (ℕ_discrete 0 0) (first 0 us) refl

  last_column : ((chart p).bar (span t)).right ≡ length us - 1
  unfolding chart layout
  last_column = choose_yes (ℕ_discrete (span t) (span t)) (last (span t) us) refl

  root_bars : Rooted (chart p) us 0 (span t)
  root_bars =
      let n : (chart p).n ≡ suc (span t) = (chart_size p).0 in
      let (l, r, k) = (chart_true p big).bars (span t) (omega arith) in
      let zero_left : ((chart p).bar 0).left ≡ 0 = first_column in
      let last_right : ((chart p).bar (span t)).right ≡ length us - 1 = last_column in
      record {
        at = 0;
        named = λ z h. upright_stroke p (get_or us z (0 — 0)) (0 + z) (subst (λ i. Nth (get_or us z (0 — 0)) i us) (omega arith) (nth_get_d us z (0 — 0) h));
        starts = omega arith;
        ends = omega arith;
        meet = elim (chart_touching p big (0 — span t) (level_stroke p (0 — span t) here)) [ inl h ↦ h | inr h ↦ absurd (omega arith) ];
      }

  -- every piece, in any chart in which all that is rooted in this one is rooted
  every_bars : (c : Chart) → ((xs : List Edge) (a b : ℕ) → Rooted (chart p) xs a b → Rooted c xs a b) → EveryPiece (λ s q u v. RootBars c (cols q u v) u v) p 0 (span t)
  every_bars c f =
      every_piece (λ s q u v. RootBars c (cols q u v) u v) us fs (λ s q a b d e n h i j w r. both (cols q a b) a b (hung_bars s q a b d e n h i j w r)) p 0 (span t) (omega arith)
      (λ n. inl (f us 0 (span t) root_bars)) (inl (record { pre = []; post = []; is = sym (append-nil us) })) (λ x m. m)
    where
      both : (xs : List Edge) (a b : ℕ) → RootBars (chart p) xs a b → RootBars c xs a b
      both xs a b (inl r) = inl (f xs a b r)
      both xs a b (inr r) = inr (f (reverse xs) b a r)

  -- so in this one
  pub piece_bars : EveryPiece (λ s q u v. RootBars (chart p) (cols q u v) u v) p 0 (span t)
  piece_bars = every_bars (chart p) (λ xs a b r. r)

  -- and in this one closed up
  pub closed_piece_bars : EveryPiece (λ s q u v. RootBars (closed (chart p)) (cols q u v) u v) p 0 (span t)
  closed_piece_bars = every_bars (closed (chart p)) (closed_rooted (chart p))

-- From what is written into the tables to the columns and rows of the plan drawn.
-- Rests on Planned.antt, Ranked.antt and Walking.antt.
use mathlib.Core.Path.{◌≡◌, ap, sym, ◌∙◌}
use mathlib.Core.Bool.{true, false, true≢false}
use mathlib.Core.List.{List, [], ◌∷◌, ◌++◌, map, map-id, append_assoc}
use Prim.Native.Nat.{ℕ, suc, ◌+◌, ◌*◌, ◌-◌, ◌≤◌, ◌<◌}
use native.Mathlib.Decide.{dec_lt}
use native.Mathlib.Nat.{zero-add}
use native.Mathlib.Omega.{arith}
use lib.ListN.{length, take, drop, get_or, set, length-set, length-append, length-map}
use lib.Seq.{sets, sets-eq, take_at, take-suc, drop-cons, get_or-take, get_or-set_same, get_or-set_other}
use Rattle.polygon.specs.Tree.{Tree, span}
use Rattle.umbrella.specs.declared.roles.Role.TheVariants.{Hung}
use Rattle.umbrella.specs.Values.{ud}
use Rattle.umbrella.specs.Best.{best}
use Rattle.umbrella.proofs.Theorems.{computed_has}
use Rattle.lists.proofs.Places.{at_all}
use Rattle.tree.specs.declared.Root.{Root}
use Rattle.tree.specs.Table.{edge_at}
use Rattle.tree.proofs.Pieces.{corners, ends}
use Rattle.levels.specs.Kept.{Filled}
use Rattle.chart.specs.Places.{cols, rows}
use Rattle.drawing.specs.declared.lines.Line.{Line}
use Rattle.drawing.specs.declared.lines.Way.{Way}
use Rattle.drawing.specs.Columns.{columns}
use Rattle.drawing.specs.Lines.{ranks}
use Rattle.drawing.specs.Walk.{HoldsEdge, Walked}
use Rattle.drawing.specs.Located.{Located}
use Rattle.drawing.proofs.OnLines.{OnLine}
use Rattle.drawing.proofs.Planned.{columns_best}
use Rattle.drawing.proofs.Ranked.{rows_best}
use Rattle.drawing.proofs.Walking.{ranks_length}
use Rattle.drawing.proofs.Following.{walked_end, walked_columns, walked_rows}

-- on the line of row 0, downwards
abbrev pub top : Line
top = record { base = 0; down = true }

abbrev pub top_way : Way
top_way = record { role = Hung; turned = false; d = 0; far = top; near = top }

on_top : (k : ℕ) → OnLine top (λ r. r) k
on_top k = record { agrees = λ r h. omega arith; room = λ h. absurd (true≢false h) }

corners_are : (t : Tree) (v n : ℕ) (o o₁ : List ℕ) → v ≡ 0 + span t → n ≡ v + 1 → 1 ≤ v → v < 1024 → length o ≡ 1024 → o₁ ≡ sets (set (set o 0 0) v 0) (0 + 1) (ranks Hung 0 top top t) → take n o₁ ≡ 0 ∷ (rows (best t) ++ (0 ∷ []))
corners_are t v n o o₁ whole p h small l e =
    let rs : List ℕ = ranks Hung 0 top top t in
    let b : List ℕ = set (set o 0 0) v 0 in
    let bl : length b ≡ 1024 = length-set (set o 0 0) v 0 ∙ (length-set o 0 0 ∙ l) in
    let k : suc (length rs) ≡ v = omega (arith, ranks_length t Hung 0 top top) in
    let z : get_or b 0 0 ≡ 0 = get_or-set_other (set o 0 0) v 0 0 0 (omega arith) ∙ get_or-set_same o 0 0 0 (omega arith) in
    let y : get_or b v 0 ≡ 0 = get_or-set_same (set o 0 0) v 0 0 (omega (arith, length-set o 0 0)) in
    let f : take 1 b ≡ 0 ∷ [] = take-suc b 0 0 (omega arith) ∙ rw z in
    let i : 1 + length rs ≡ v = omega arith in
    let g : drop (1 + length rs) b ≡ 0 ∷ drop (suc v) b = rw i (drop-cons b v 0 (omega arith) ∙ rw y) in
    let q : o₁ ≡ ((0 ∷ []) ++ rs) ++ (0 ∷ drop (suc v) b) = e ∙ (sets-eq rs b 1 (omega arith) ∙ rw (f, g)) in
    let r : rs ≡ rows (best t) = rows_best t 0 top top (λ x. x) (on_top (2 * ud t)) ∙ map-id (rows (best t)) in
    let m : take n ((0 ∷ (rs ++ (0 ∷ []))) ++ drop (suc v) b) ≡ 0 ∷ (rs ++ (0 ∷ [])) = take_at (0 ∷ (rs ++ (0 ∷ []))) (drop (suc v) b) n (omega (arith, length-append rs (0 ∷ []))) in
    rw (q, ← append_assoc (0 ∷ rs) (0 ∷ []) (drop (suc v) b)) (m ∙ rw r)

-- the edges stand before place 2n - 3, and nothing behind them
within : (n e : ℕ) (tr : List ℕ) → ((j : ℕ) → 2 * n - 3 ≤ j → j < 2048 → get_or tr j 0 ≡ 0) → HoldsEdge tr e → e < 2 * n - 3
within n e tr f H = go (dec_lt e (2 * n - 3))
  where
    go : Dec (e < 2 * n - 3) → e < 2 * n - 3
    go (yes h) = h
    go (no h) = let z : get_or tr e 0 ≡ 0 = f e (omega arith) (omega (arith, H.inside)) in absurd (omega (arith, z, H.lower_first))

module _ {n : ℕ} {t : Tree} {tr ds : List ℕ} {p : Root} (F : Filled n t tr ds p) where
  pub sized : (2 ≤ n) × (n ≤ 1024) × (n - 1 ≡ 0 + span t)
  sized = let s = F.whole.shows in omega (arith, corners s, ends s, F.whole.lower, F.whole.upper)

  pub part_placed : (o q : List ℕ) {o₁ q₁ : List ℕ} {w d : ℕ} → length o ≡ 2048 → length q ≡ 1024 → Walked tr p top_way t 0 o (set (set q 0 0) (n - 1) 0) o₁ q₁ w → d ≡ ud t → Located n t tr o₁ q₁ (record { columns = w; rows = 2 * d + 1 })
  part_placed o q {o₁} {q₁} {w} {d} lo lq W levels_are =
      let D = W.drawn in
      let places = D.places in
      let a : columns Hung 0 t p.u p.v ≡ cols (best t) 0 (n - 1) = rw (F.whole.lower, F.whole.upper) (columns_best t 0 0 (n - 1)) in
      let fits : 0 + length places ≤ length o = omega (arith, D.end, walked_end F.whole.shows W, F.whole.lower, F.whole.upper, sized) in
      let e : o₁ ≡ places ++ drop (0 + length places) o = D.outs ∙ sets-eq places o 0 fits in
      let f : take w o₁ ≡ places = ap (take w) e ∙ take_at places (drop (0 + length places) o) w (omega (arith, D.end)) in
      record {
        listed = F.listed;
        among = λ j h. within n (get_or o₁ j 0) tr F.rest (rw (sym (get_or-take w o₁ j 0 h) ∙ ap (λ (l : List ℕ). get_or l j 0) f) (at_all 0 D.held j (omega (arith, D.end))));
        uprights = ap (map (edge_at tr)) f ∙ (D.are ∙ a);
        few = omega (arith, sized, walked_end F.whole.shows W, F.whole.lower, F.whole.upper);
        width = D.end ∙ (zero-add (length places) ∙ (sym (length-map places (edge_at tr)) ∙ (ap length D.are ∙ ap length a)));
        corners = corners_are t (n - 1) n q q₁ sized.2 (omega (arith, sized)) (omega (arith, sized)) (omega (arith, sized)) lq (W.ranked ∙ rw F.whole.lower);
        height = omega (arith, levels_are, computed_has t);
        tree_kept = F.kept;
        columns_kept = walked_columns F.whole.shows W ∙ lo;
        ranks_kept = walked_rows F.whole.shows W ∙ (length-set (set q 0 0) (n - 1) 0 ∙ (length-set q 0 0 ∙ lq));
      }

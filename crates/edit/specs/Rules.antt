-- Document 01, "The plain part and demand 3": what the edit rules give, on n and the set of diagonals (kept as its ascending list). Request (xii): "the plain part keeps none", no part number.
-- Request (xi): "The plain part keeps bit 3 and the angles by these same rules".
-- An ear is a corner at which no diagonal ends, with its two sides.
use Rattle.std.specs.Prelude.{◌≡◌, List, [], ◌∷◌, map, ℕ, zero, suc, ◌+◌, ◌-◌}
use Rattle.std.proofs.Math.Logic.Dec.{and as dec_and}
use Rattle.std.proofs.Math.Decide.{dec_lt, ℕ_discrete}
use Rattle.lists.specs.Lists.{all?, below, choose, either?, keep, mem?, not?}
use Rattle.polygon.specs.Angles.{Angles, none, each}
use Rattle.polygon.specs.Polygon.{Edge, ◌—◌, Side, Linked, Joined, Polygon}
use Rattle.polygon.specs.Order.{same?, insert, remove, lower_first}
use Rattle.polygon.specs.Carried.{angle_of, carried}
use Rattle.sheet.specs.Sheet.{Reading, held, ask}

-- an edit's kind and its numbers: "Add a corner on side i", "Take off corner k", "Turn diagonal (a,b)"
pub data Edit : Type 0 where
  add_ear : ℕ → Edit
  remove_ear : ℕ → Edit
  flip : ℕ → ℕ → Edit

-- "Corners above i go up by one"; "Corners above k go down by one"
unfoldable pub up : ℕ → ℕ → ℕ
up i x = choose (dec_lt i x) (suc x) x

unfoldable pub down : ℕ → ℕ → ℕ
down k x = choose (dec_lt k x) (x - 1) x

-- both corners of an edge renumbered
unfoldable pub both : (ℕ → ℕ) → Edge → Edge
both f e = f e.0 — f e.1

-- Add on side i: "If side i was the root, (0, i) enters the set, else (i, i+2)"
unfoldable pub entering : ℕ → ℕ → Edge
entering n i = choose (ℕ_discrete (suc i) n) (0 — i) (i — (i + 2))

unfoldable pub ear_added : ℕ → ℕ → List Edge → List Edge
ear_added n i ds = insert (entering n i) (map (both (up i)) ds)

-- "k's two neighbours": 1 and n-1 if k is 0, 0 and n-2 if k is n-1, else k-1 and k+1.
-- (`neighbours_read` in proofs/Reading.antt: k's sides lead to these two, and nowhere else.)
unfoldable pub neighbours : ℕ → ℕ → Edge
neighbours n zero = 1 — (n - 1)
neighbours n (suc k) = choose (ℕ_discrete (suc (suc k)) n) (0 — k) (k — (k + 2))

-- Take off k: "The diagonal between k's two neighbours leaves the set"
unfoldable pub ear_removed : ℕ → ℕ → List Edge → List Edge
ear_removed n k ds = map (both (down k)) (remove (neighbours n k) ds)

-- the edge does not end at k
abbrev pub Away : ℕ → Edge → Type 0
Away k e = (¬ (e.0 ≡ k)) × (¬ (e.1 ≡ k))

unfoldable pub away? : (k : ℕ) (e : Edge) → Dec (Away k e)
away? k e = dec_and (not? (ℕ_discrete e.0 k)) (not? (ℕ_discrete e.1 k))

-- a side or a diagonal joins x and y
unfoldable pub side? : (n x y : ℕ) → Dec (Side n x y)
side? n x y = either? (dec_and (ℕ_discrete y (suc x)) (dec_lt y n)) (dec_and (ℕ_discrete x 0) (ℕ_discrete (suc y) n))

unfoldable pub linked? : (n : ℕ) (ds : List Edge) (x y : ℕ) → Dec (Linked n ds x y)
linked? n ds x y = either? (side? n x y) (mem? same? (x — y) ds)

unfoldable pub joined? : (n : ℕ) (ds : List Edge) (x y : ℕ) → Dec (Joined n ds x y)
joined? n ds x y = either? (linked? n ds x y) (linked? n ds y x)

-- Turn (a,b): "The two corners that a side or diagonal joins to both a and b", ascending; they "enter as a pair".
-- (`two_common` in proofs/Flipped.antt: a diagonal of a valid polygon has two, no more and no fewer.)
unfoldable pub common : ℕ → List Edge → Edge → List ℕ
common n ds e = keep (λ x. dec_and (joined? n ds x e.0) (joined? n ds x e.1)) (below n)

unfoldable pub enter : List ℕ → List Edge → List Edge
enter [] ds = ds
enter (x ∷ []) ds = ds
enter (x ∷ (y ∷ [])) ds = insert (x — y) ds
enter (x ∷ (y ∷ (z ∷ zs))) ds = ds

unfoldable pub flipped : ℕ → Edge → List Edge → List Edge
flipped n e ds = enter (common n ds e) (remove e ds)

-- The part that an edit gives, n corners with the diagonals ds, where es are the diagonals before it under their new numbers and xs their angles.
-- Each keeps its angle. "A turned diagonal starts at 0, as does the diagonal of an added corner": it is not among es. "an angle is dropped when its diagonal becomes a side": that one is not among ds.
-- "A result has bit 3 exactly when a sheet it comes from has and its own n is over 3".
unfoldable pub result : ℕ → List Edge → Angles → List Edge → Polygon
result n es xs ds = record { n = n; ds = ds; angles = choose (dec_lt 3 n) (carried es xs ds) none }

-- The part with the angle 0 at its diagonal e. (`flip_back` in proofs/Theorems.antt: what is left of a part when a diagonal is turned and turned back.)
abbrev pub zero_at : Edge → List Edge → Angles → Angles
zero_at e ds none = none
zero_at e ds (each vs) = each (map (λ d. choose (same? d e) 0 (angle_of ds vs d)) ds)

abbrev pub flat_at : Edge → Polygon → Polygon
flat_at e p = record { n = p.n; ds = p.ds; angles = zero_at e p.ds p.angles }

-- The rules. Add on side i: "Refused by 9 if i ≥ n, by 10 if n is 1,024."
-- Take off k: "Refused by 9 if k ≥ n, by 11 if n is 3, by 12 if a diagonal ends at k."
-- Turn (a,b): "Refused by 9 if a or b ≥ n, by 13 if the pair, either way round, is not in the set."
unfoldable pub rule : Edit → Polygon → Reading
rule (add_ear i) p =
    ask 9 (dec_lt i p.n)
    (ask 10 (not? (ℕ_discrete p.n 1024))
    (held (result (suc p.n) (map (both (up i)) p.ds) p.angles (ear_added p.n i p.ds))))
rule (remove_ear k) p =
    ask 9 (dec_lt k p.n)
    (ask 11 (not? (ℕ_discrete p.n 3))
    (ask 12 (all? (away? k) p.ds)
    (held (result (p.n - 1) (map (both (down k)) p.ds) p.angles (ear_removed p.n k p.ds)))))
rule (flip a b) p =
    let e = lower_first (a, b) in
    ask 9 (dec_and (dec_lt a p.n) (dec_lt b p.n))
    (ask 13 (mem? same? e p.ds)
    (held (result p.n p.ds p.angles (flipped p.n e p.ds))))

-- the numbers that each rule refuses by
abbrev pub rule_tests : Edit → List ℕ
rule_tests (add_ear i) = 9 ∷ 10 ∷ []
rule_tests (remove_ear k) = 9 ∷ 11 ∷ 12 ∷ []
rule_tests (flip a b) = 9 ∷ 13 ∷ []

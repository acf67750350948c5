-- Document 004, chapter 6, "Finding the Umbrella Depth": the six values of an edge (a,b), a the lower corner, by the equations of its lemmas and in its order.
-- The letters are those of its Figure 6.2: c is the third corner of the triangle at (a,b), d that of the triangle at (a,c), e that of the triangle at (c,b).
-- A piece is called by its root edge: the piece on (a,b) is `node ac cb`, ac is a side or `node ad dc`, cb is a side or `node ce eb`.
-- Of a side other than the root edge: "set the handle umbrella depth, the fan umbrella depths, and the partial umbrella depths to zero"; its umbrella depth is 0 too.
-- (`depth` in proofs/Theorems.antt: what each value is the least of, by the definitions of Depth.antt.)
use Rattle.std.specs.Prelude.{List, [], ◌∷◌, ℕ, suc, min, max}
use Rattle.polygon.specs.Tree.{Tree, leaf, node}

unfoldable mutual
  -- Lemma 6.2, the handle umbrella depth of (a,b): "min (max [handle(a,c), ud(b,c)], max [handle(b,c), ud(a,c)])"
  pub handle : Tree → ℕ
  handle leaf = 0
  handle (node ac cb) = min (max (handle ac) (ud cb)) (max (handle cb) (ud ac))

  -- Lemma 6.4, the fan umbrella depth of a: "0 if there are no neighbors of a and c other than b .. Otherwise, .. max [fan(a;c), ud(d,c)]".
  -- The piece on (c,b) is left out.
  pub fan_a : Tree → Tree → ℕ
  fan_a leaf cb = 0
  fan_a (node ad dc) cb = max (fan_a ad dc) (ud dc)

  -- and of b: "0 if there are no neighbors of b and c other than a .. Otherwise, .. max [fan(b;c), ud(c,e)]"
  pub fan_b : Tree → Tree → ℕ
  fan_b ac leaf = 0
  fan_b ac (node ce eb) = max (fan_b ce eb) (ud ce)

  -- Lemma 6.6, the partial umbrella depth of a: "0 if there are no neighbors of a and c other than b ..
  -- Otherwise, .. min (max [partial(a;c), ud(d,c)], max [fan(a;c), handle(d,c)])"
  pub partial_a : Tree → Tree → ℕ
  partial_a leaf cb = 0
  partial_a (node ad dc) cb = min (max (partial_a ad dc) (ud dc)) (max (fan_a ad dc) (handle dc))

  -- and of b: "0 if there are no neighbors of b and c other than a .. Otherwise, .. min (max [partial(b;c), ud(c,e)], max [fan(b;c), handle(c,e)])"
  pub partial_b : Tree → Tree → ℕ
  partial_b ac leaf = 0
  partial_b ac (node ce eb) = min (max (partial_b ce eb) (ud ce)) (max (fan_b ce eb) (handle ce))

  -- Lemma 6.7, the umbrella depth of (a,b), the whole's value: "1 + min (max [partial(a;b), fan(b;a)], max [partial(b;a), fan(a;b)])"
  pub ud : Tree → ℕ
  ud leaf = 0
  ud (node ac cb) = suc (min (max (partial_a ac cb) (fan_b ac cb)) (max (partial_b ac cb) (fan_a ac cb)))

-- the same of an edge by the piece on it: 0 for a side
abbrev pub fan_of_a : Tree → ℕ
fan_of_a leaf = 0
fan_of_a (node ac cb) = fan_a ac cb

abbrev pub fan_of_b : Tree → ℕ
fan_of_b leaf = 0
fan_of_b (node ac cb) = fan_b ac cb

abbrev pub partial_of_a : Tree → ℕ
partial_of_a leaf = 0
partial_of_a (node ac cb) = partial_a ac cb

abbrev pub partial_of_b : Tree → ℕ
partial_of_b leaf = 0
partial_of_b (node ac cb) = partial_b ac cb

-- the six of an edge, in that order
abbrev pub values : Tree → List ℕ
values t = handle t ∷ fan_of_a t ∷ fan_of_b t ∷ partial_of_a t ∷ partial_of_b t ∷ ud t ∷ []

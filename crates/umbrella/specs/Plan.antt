-- Document 01, "Umbrellas and levels": umbrella plans of a piece, and their levels, umbrellas and stems.
-- Document 004 calls a plan a rooted umbrella system, the stem of an umbrella its handle, and levels the umbrella depth.
use Rattle.std.specs.Prelude.{ℕ, suc, ◌+◌, max}
use Rattle.polygon.specs.Tree.{Tree, leaf, node}

mutual
  -- "An umbrella plan of a piece that is not empty is any umbrella these rules allow, with an umbrella plan of each hung piece."
  -- The piece (u,v) is `node l r` with triangle (u,c,v) at its root edge; "the rim r0 < r1 < ... < rk is every corner strictly between u and v joined to u or v; c = ri is joined to both".
  -- So the rim edges of l are those below c, and the rim edges of r those above c.
  pub data Plan : Tree → Type 0 where
    -- "Beyond a side it is empty, with 0 levels."
    none : Plan leaf
    -- "An umbrella takes all the piece's triangles at u or v": no stem.
    plain : {l r : Tree} → LeftRim l → RightRim r → Plan (node l r)
    -- "and, optionally, one stem", whose first gate is a rim edge (rs, rs+1) with s < i
    stem_left : {l r : Tree} → LeftGate l → RightRim r → Plan (node l r)
    -- or with s ≥ i
    stem_right : {l r : Tree} → LeftRim l → RightGate r → Plan (node l r)

  -- The piece (u,rj), j ≤ i, of which the umbrella takes the triangles at u: "every diagonal left on the umbrella's border, root edge excepted, carries a hung piece, planned likewise".
  pub data LeftRim : Tree → Type 0 where
    -- u and r0 = u+1 are neighbours: no rim edge
    left_end : LeftRim leaf
    -- the rim edges to rj-1, and the piece hung on the rim edge (rj-1, rj)
    left_on : {a b : Tree} → LeftRim a → Plan b → LeftRim (node a b)

  -- The piece (rj,v), j ≥ i, of which the umbrella takes the triangles at v.
  pub data RightRim : Tree → Type 0 where
    -- rk = v-1 and v are neighbours: no rim edge
    right_end : RightRim leaf
    -- the piece hung on the rim edge (rj, rj+1), and the rim edges from rj+1 on
    right_on : {a b : Tree} → Plan a → RightRim b → RightRim (node a b)

  -- The piece (u,rj) again, but "a stem enters across a rim edge that is a diagonal, its first gate".
  pub data LeftGate : Tree → Type 0 where
    -- the first gate is (rj-1, rj)
    left_gate : {a b : Tree} → LeftRim a → Stem b → LeftGate (node a b)
    -- it is a lower rim edge, and a piece is hung on (rj-1, rj)
    left_past : {a b : Tree} → LeftGate a → Plan b → LeftGate (node a b)

  -- The piece (rj,v) again, but a stem enters across a rim edge.
  pub data RightGate : Tree → Type 0 where
    -- the first gate is (rj, rj+1)
    right_gate : {a b : Tree} → Stem a → RightRim b → RightGate (node a b)
    -- it is a higher rim edge, and a piece is hung on (rj, rj+1)
    right_past : {a b : Tree} → Plan a → RightGate b → RightGate (node a b)

  -- "At gate (p,q) it takes triangle (p,x,q), p < x < q, and then E ends, L goes on across (p,x) or R across (x,q)." The gate is a diagonal: there is no stem at a leaf.
  pub data Stem : Tree → Type 0 where
    -- "E needs (p,x) or (x,q) to be a side": both are
    end_both : Stem (node leaf leaf)
    -- (p,x) is a side, and (x,q) carries a hung piece
    end_left : {a b : Tree} → Plan (node a b) → Stem (node leaf (node a b))
    -- (x,q) is a side, and (p,x) carries a hung piece
    end_right : {a b : Tree} → Plan (node a b) → Stem (node (node a b) leaf)
    -- L: (x,q) may carry a hung piece
    go_left : {a b : Tree} → Stem a → Plan b → Stem (node a b)
    -- R: (p,x) may carry a hung piece
    go_right : {a b : Tree} → Plan a → Stem b → Stem (node a b)

-- A number of a plan: the numbers of an umbrella's hung pieces joined, then a step for the umbrella, another one if it has a stem.
module _ (join : ℕ → ℕ → ℕ) (bare stemmed : ℕ → ℕ) where
  unfoldable mutual
    pub fold : {t : Tree} → Plan t → ℕ
    fold none = 0
    fold (plain A B) = bare (join (fold_left A) (fold_right B))
    fold (stem_left G B) = stemmed (join (fold_left_gate G) (fold_right B))
    fold (stem_right A G) = stemmed (join (fold_left A) (fold_right_gate G))

    pub fold_left : {t : Tree} → LeftRim t → ℕ
    fold_left left_end = 0
    fold_left (left_on A p) = join (fold_left A) (fold p)

    pub fold_right : {t : Tree} → RightRim t → ℕ
    fold_right right_end = 0
    fold_right (right_on p B) = join (fold p) (fold_right B)

    pub fold_left_gate : {t : Tree} → LeftGate t → ℕ
    fold_left_gate (left_gate A S) = join (fold_left A) (fold_stem S)
    fold_left_gate (left_past G p) = join (fold_left_gate G) (fold p)

    pub fold_right_gate : {t : Tree} → RightGate t → ℕ
    fold_right_gate (right_gate S B) = join (fold_stem S) (fold_right B)
    fold_right_gate (right_past p G) = join (fold p) (fold_right_gate G)

    pub fold_stem : {t : Tree} → Stem t → ℕ
    fold_stem end_both = 0
    fold_stem (end_left p) = fold p
    fold_stem (end_right p) = fold p
    fold_stem (go_left S p) = join (fold_stem S) (fold p)
    fold_stem (go_right p S) = join (fold p) (fold_stem S)

-- "Levels = 1 + the most levels of a hung piece (0 if none)."
abbrev pub levels : {t : Tree} → Plan t → ℕ
levels p = fold max suc suc p

-- "Its umbrellas and stems are all those in it."
abbrev pub umbrellas : {t : Tree} → Plan t → ℕ
umbrellas p = fold ◌+◌ suc suc p

abbrev pub stems : {t : Tree} → Plan t → ℕ
stems p = fold ◌+◌ (λ n. n) suc p

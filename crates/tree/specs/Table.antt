-- The tree of a part in one table: the keys of all edges ascending, and from place 2,048 on, for each corner, the place of its last edge.
use Rattle.std.specs.Prelude.{◌≡◌, List, ℕ, ◌+◌, ◌-◌, ◌%◌, ◌≤◌, ◌<◌, get_or}
use Rattle.polygon.specs.Polygon.{Edge, ◌—◌}
use Rattle.polygon.specs.Tree.{Tree, leaf, node}
use Rattle.keys.specs.Keys.{edge_of}
use Rattle.tree.specs.declared.Root.{Root}
use Rattle.tree.specs.declared.Two.{Two}

-- the edge at a place
abbrev pub edge_at : List ℕ → ℕ → Edge
edge_at tr e = edge_of (get_or tr e 0)

-- the third corner of the triangle at the edge e, and the places of the triangle's other two edges: the edge before e, and the last edge of that corner
abbrev pub apex_at : List ℕ → ℕ → ℕ
apex_at tr e = get_or tr (e - 1) 0 % 1024

abbrev pub right_edge : List ℕ → ℕ → ℕ
right_edge tr e = get_or tr (2048 + apex_at tr e) 0

-- At the edge e the table shows the piece t on the corners u to v: nothing for a side; else the two pieces beyond the triangle.
pub data TreeAt (tr : List ℕ) : ℕ → ℕ → ℕ → Tree → Type 0 where
  side : {e u v : ℕ} → e < 2045 → v < 1024 → v ≡ u + 1 → edge_at tr e ≡ u — v → TreeAt tr e u v leaf
  triangle : {e u v : ℕ} {l r : Tree} → 1 ≤ e → e < 2045 → v < 1024 → edge_at tr e ≡ u — v
      → TreeAt tr (e - 1) u (apex_at tr e) l
      → TreeAt tr (right_edge tr e) (apex_at tr e) v r
      → TreeAt tr e u v (node l r)

pub record SomeTreeAt (tr : List ℕ) (p : Root) : Type 0 where
  pub tree : Tree
  pub shows : TreeAt tr p.e p.u p.v tree

-- the two pieces
abbrev pub beyond : List ℕ → Root → Two
beyond tr p = record {
  left = record { e = p.e - 1; u = p.u; v = apex_at tr p.e };
  right = record { e = right_edge tr p.e; u = apex_at tr p.e; v = p.v };
}

-- at each corner among the first m edges the place of its last edge is kept
abbrev pub Lasts : ℕ → List ℕ → Type 0
Lasts m tr = (j : ℕ) → j < m → ((i : ℕ) → j < i → i < m → (edge_at tr i).0 ≡ (edge_at tr j).0 → ⊥) → get_or tr (2048 + (edge_at tr j).0) 0 ≡ j

-- the table shows the tree t of n corners at the piece p
pub record Whole (n : ℕ) (t : Tree) (tr : List ℕ) (p : Root) : Type 0 where
  pub lower : p.u ≡ 0
  pub upper : p.v ≡ n - 1
  pub shows : TreeAt tr p.e p.u p.v t

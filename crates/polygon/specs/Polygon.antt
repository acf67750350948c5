-- Document 01, "The part": a triangulated polygon, n corners with n - 3 diagonals of which no two cross. Request (xi): a part with angles or without.
-- The set of its diagonals is kept as one list, lower corner first, strictly ascending: two polygons with the same set have the same list.
use Rattle.std.specs.Prelude.{◌≡◌, ◌⊎◌, List, ℕ, suc, ◌+◌, ◌≤◌, ◌<◌, length}
use Rattle.lists.specs.Lists.{All, Mem, Sorted}
use Rattle.polygon.specs.Angles.{Angles, none, Allowed}

-- an edge by its two corners, lower corner first
abbrev pub Edge : Type 0
Edge = ℕ × ℕ

infix 60 ◌—◌
abbrev pub ◌—◌ : ℕ → ℕ → Edge
a — b = (a, b)

-- "(0,2) before (0,3) before (1,3)": by the lower corner, then by the higher
abbrev pub Before : Edge → Edge → Type 0
Before p q = (p.0 < q.0) ⊎ ((p.0 ≡ q.0) × (p.1 < q.1))

abbrev pub Ascending : List Edge → Type 0
Ascending es = Sorted Before es

-- "Diagonals (a,b) and (c,d), lower corner first, cross when a < c < b < d, or with the pairs exchanged"
pub record Cross (p q : Edge) : Type 0 where
  pub above : p.0 < q.0
  pub below : q.0 < p.1
  pub past : p.1 < q.1

abbrev pub NoneCross : List Edge → Type 0
NoneCross es = All (λ p. All (λ q. ¬ Cross p q) es) es

-- "A side joins neighbours; side i joins corner i to i+1, and side n-1, the root, joins n-1 to 0": x the lower corner, y the higher
abbrev pub Side : ℕ → ℕ → ℕ → Type 0
Side n x y = ((y ≡ suc x) × (y < n)) ⊎ ((x ≡ 0) × (suc y ≡ n))

-- "A diagonal joins two corners that are not neighbours": two sides or more lie from the lower corner up to the higher, and two or more on round to the lower again.
-- (`diagonal_reads` in proofs/Reading.antt: a < b < n, and no side joins them.)
pub record Diagonal (n : ℕ) (e : Edge) : Type 0 where
  pub forth : e.0 + 2 ≤ e.1
  pub back : e.1 + 2 ≤ e.0 + n
  pub corner : e.1 < n

-- n - 3 different diagonals of n corners, none crossing
pub record Triangulated (n : ℕ) (ds : List Edge) : Type 0 where
  pub ascending : Ascending ds
  pub diagonals : All (Diagonal n) ds
  pub none_cross : NoneCross ds
  pub full : length ds + 3 ≡ n

-- a part; its angles, if it has any, stand in the order of its diagonals
pub record Polygon : Type 0 where
  pub n : ℕ
  pub ds : List Edge
  pub angles : Angles

-- the same part without angles
abbrev pub bare : Polygon → Polygon
bare p = record { n = p.n; ds = p.ds; angles = none }

-- "A part has n corners, 3 to 1,024"
pub record Valid (p : Polygon) : Type 0 where
  pub least : 3 ≤ p.n
  pub most : p.n ≤ 1024
  pub triangulated : Triangulated p.n p.ds
  pub allowed : Allowed p.n p.angles

-- a side or a diagonal joins the lower corner x to the higher y; and either way round
abbrev pub Linked : ℕ → List Edge → ℕ → ℕ → Type 0
Linked n ds x y = Side n x y ⊎ Mem (x — y) ds

abbrev pub Joined : ℕ → List Edge → ℕ → ℕ → Type 0
Joined n ds x y = Linked n ds x y ⊎ Linked n ds y x

-- One pass over ascending diagonals gives each diagonal's apex and each corner's farthest neighbour above it.
-- Rests on Scan.antt of the crate polygon.
use mathlib.Core.Path.{◌≡◌, ap, sym, ◌∙◌}
use mathlib.Core.List.{List, [], ◌∷◌, ◌++◌, map-append}
use Prim.Native.Nat.{ℕ, suc, ◌+◌, ◌<◌, ◌≤◌}
use native.Mathlib.Decide.{ℕ_discrete}
use native.Mathlib.Numerals.{add-one}
use native.Mathlib.Omega.{arith}
use lib.ListN.{length, take, drop, set, get_or, length-set, get_or-map}
use lib.Seq.{split_at, take-suc, append_snoc, get_or-set_same, get_or-set_other}
use Rattle.lists.specs.Lists.{All, Sorted, sorted_cons, sorted_nil}
use Rattle.lists.proofs.Lists.{all_left, all_mem, here, mem_right}
use Rattle.lists.proofs.Places.{table_next}
use Rattle.polygon.specs.Polygon.{Edge, ◌—◌, Ascending, Diagonal}
use Rattle.polygon.specs.Tree.{far}
use Rattle.polygon.proofs.Scan.{apex_before, far_same, far_other}
use Rattle.keys.specs.Keys.{edge_of, edges_of}
use Rattle.keys.specs.Tops.{Diagonals, Tops, apex_of}

-- at first, when no diagonal has been looked at
pub tops_begin : (n : ℕ) (top : List ℕ) → n ≤ 1024 → ((c : ℕ) → c < 1024 → get_or top c 0 ≡ suc c) → Tops n [] top
unfolding far
tops_begin n top h f c k = f c (omega arith)

sorted_left : {A : Type 0} {R : A → A → Type 0} (xs ys : List A) → Sorted R (xs ++ ys) → Sorted R xs
sorted_left [] ys s = sorted_nil
sorted_left (x ∷ xs) ys (sorted_cons a s) = sorted_cons (all_left xs ys a) (sorted_left xs ys s)

-- what the pass keeps when it has looked at the first j diagonals
pub record Scanned (n : ℕ) (keys : List ℕ) (room : ℕ) (top apex : List ℕ) (j : ℕ) : Type 0 where
  pub upto : j ≤ length keys
  pub tops_size : length top ≡ 1024
  pub apex_size : length apex ≡ room
  pub tops : Tops n (edges_of (take j keys)) top
  pub apexes : (i : ℕ) → i < j → get_or apex i 0 ≡ apex_of (edges_of keys) (get_or (edges_of keys) i (0 — 0))

-- the diagonal at j, with those before it and after it
module _ (n : ℕ) (keys : List ℕ) (D : Diagonals n (edges_of keys)) (j : ℕ) (h : j < length keys) where
  abbrev pub e : Edge
  e = edge_of (get_or keys j 0)

  abbrev pub before : List Edge
  before = edges_of (take j keys)

  parts : edges_of keys ≡ before ++ (e ∷ edges_of (drop (suc j) keys))
  parts = ap edges_of (split_at keys j 0 h) ∙ map-append edge_of (take j keys) (get_or keys j 0 ∷ drop (suc j) keys)

  pub next_edges : edges_of (take (suc j) keys) ≡ before ++ (e ∷ [])
  next_edges = ap edges_of (take-suc keys j 0 h) ∙ map-append edge_of (take j keys) (get_or keys j 0 ∷ [])

  ascending : Ascending (before ++ (e ∷ edges_of (drop (suc j) keys)))
  ascending = rw parts at D.ascending

  diagonals : All (Diagonal n) (before ++ (e ∷ edges_of (drop (suc j) keys)))
  diagonals = rw parts at D.diagonals

  so_far : Ascending (before ++ (e ∷ []))
  so_far = sorted_left (before ++ (e ∷ [])) (edges_of (drop (suc j) keys)) (rw (append_snoc before e (edges_of (drop (suc j) keys))) ascending)

  pub diagonal_at : Diagonal n e
  diagonal_at = all_mem diagonals (mem_right before here)

  pub edge_at : get_or (edges_of keys) j (0 — 0) ≡ e
  edge_at = get_or-map edge_of keys j 0

  apex_at_lem : apex_of (edges_of keys) e ≡ far e.0 n before
  apex_at_lem = rw parts (apex_before n e.0 e.1 before (edges_of (drop (suc j) keys)) ascending diagonals)

  module _ (room : ℕ) (top apex : List ℕ) (S : Scanned n keys room top apex j) (small : n ≤ 1024) (fits : length keys ≤ room) where
    next_tops : Tops n (before ++ (e ∷ [])) (set top e.0 e.1)
    next_tops c k = go (ℕ_discrete c e.0)
      where
        go : Dec (c ≡ e.0) → get_or (set top e.0 e.1) c 0 ≡ far c n (before ++ (e ∷ []))
        go (yes p) = rw p (get_or-set_same top e.0 e.1 0 (omega (arith, diagonal_at, S.tops_size)) ∙ sym (far_same n e.0 e.1 before so_far diagonal_at))
        go (no p) = get_or-set_other top e.0 c e.1 0 p ∙ (S.tops c k ∙ sym (far_other n e.0 e.1 before c (λ q. p (sym q))))

    apex_now : get_or top e.0 0 ≡ apex_of (edges_of keys) (get_or (edges_of keys) j (0 — 0))
    apex_now = rw edge_at (S.tops e.0 (omega (arith, diagonal_at)) ∙ sym apex_at_lem)

    pub scanned_next : Scanned n keys room (set top e.0 e.1) (set apex j (get_or top e.0 0)) (j + 1)
    scanned_next = record {
      upto = omega arith;
      tops_size = simp length-set S.tops_size;
      apex_size = simp length-set S.apex_size;
      tops = rw (add-one j, next_edges) next_tops;
      apexes = table_next (λ i. apex_of (edges_of keys) (get_or (edges_of keys) i (0 — 0))) apex j (get_or top e.0 0) (omega (arith, S.apex_size)) apex_now S.apexes;
    }

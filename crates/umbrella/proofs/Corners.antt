-- The triangles of a piece are exactly the triples of its corners that are joined, each to each (`triangles_joined`).
-- Rests on where the edges of a piece lie (`touch_cases` of the crate polygon).
use mathlib.Core.Path.{◌≡◌}
use mathlib.Core.Logic.{inl, inr, ◌↔◌}
use mathlib.Core.List.{List}
use Prim.Native.Nat.{ℕ, ◌+◌, ◌≤◌, ◌<◌}
use native.Mathlib.Omega.{arith}
use Rattle.lists.specs.Lists.{All, Mem, all_cons, all_nil, head}
use Rattle.lists.proofs.Lists.{all_append, all_imp, all_mem, mem_left, mem_right, there}
use Rattle.polygon.specs.Polygon.{Edge, Triangulated}
use Rattle.polygon.specs.Tree.{Tree, leaf, node, span, chords, tree_of, itself, beyond_left, beyond_right, PieceOf}
use Rattle.polygon.proofs.Chords.{span_pos, root_in}
use Rattle.polygon.proofs.TreeTheorem.{tree_of_lem}
use Rattle.polygon.proofs.Triangle.{JoinedIn, go_left, go_right, touch_left, touch_right, linked_up}
use Rattle.polygon.proofs.PieceTheorem.{touch_cases, into_piece, joined}
use Rattle.umbrella.specs.Triangles.{Triangle, triangles, AllJoined}
use Rattle.umbrella.proofs.Triangles.{triangles_in}

-- three corners joined each to each, J saying which are joined
record Three (J : ℕ → ℕ → Type 0) (x : Triangle) : Type 0 where
  low : J x.0 x.1
  high : J x.1 x.2
  long : J x.0 x.2

three_imp : (J K : ℕ → ℕ → Type 0) → ((p q : ℕ) → J p q → K p q) → (x : Triangle) → Three J x → Three K x
three_imp J K f x w = record { low = f _ _ w.low; high = f _ _ w.high; long = f _ _ w.long }

-- the corners of each triangle of a piece are joined in it
each_joined : (u : ℕ) (t : Tree) → All (Three (JoinedIn (chords u t))) (triangles u t)
unfolding triangles
each_joined u leaf = all_nil
each_joined u (node l r) =
    all_append (all_imp (three_imp _ _ (go_left u l r)) (each_joined u l))
    (all_cons {x = (u, u + span l, u + (span l + span r))} (record { low = touch_left u l r; high = touch_right u l r; long = inr (root_in u l r) })
    (all_imp (three_imp _ _ (go_right u l r)) (each_joined (u + span l) r)))

-- a triangle at the root edge has its third corner where the two pieces meet
module _ (u : ℕ) (l r : Tree) (b : ℕ) (h : u < b) (k : b < u + (span l + span r)) where
  reaches : JoinedIn (chords u (node l r)) u b → b ≤ u + span l
  reaches t = elim (touch_cases u l r u b t) [ inl w ↦ w.0 | inr o ↦ absurd (elim o [ inl w ↦ omega (arith, w.0, span_pos l) | inr w ↦ omega (arith, w.1) ]) ]

  starts : JoinedIn (chords u (node l r)) b (u + (span l + span r)) → u + span l ≤ b
  starts t = elim (touch_cases u l r b _ t) [ inl w ↦ absurd (omega (arith, w.0, span_pos r)) | inr o ↦ elim o [ inl w ↦ w.0 | inr w ↦ absurd (omega (arith, w.0)) ] ]

-- three joined corners of a piece are one of its triangles
joined_each : (u : ℕ) (t : Tree) (a b c : ℕ) → u ≤ a → a < b → b < c → c ≤ u + span t → Three (JoinedIn (chords u t)) (a, b, c) → Mem (a, b, c) (triangles u t)
unfolding span triangles
joined_each u leaf a b c h i j k w = absurd (omega arith)
joined_each u (node l r) a b c h i j k w = elim (touch_cases u l r a c w.long) [
  | inl z ↦ mem_left _ (joined_each u l a b c h i j z.0 (record {
    low = into_piece (beyond_left itself) a b h i (omega (arith, z.0)) w.low;
    high = into_piece (beyond_left itself) b c (omega arith) j z.0 w.high;
    long = z.1;
  }))
  | inr o ↦ mem_right (triangles u l) (elim o [
    | inl z ↦ there (joined_each (u + span l) r a b c z.0 i j (omega arith) (record {
      low = into_piece (beyond_right itself) a b z.0 i (omega arith) w.low;
      high = into_piece (beyond_right itself) b c (omega (arith, z.0)) j (omega arith) w.high;
      long = z.1;
    }))
    | inr z ↦ head (at_root z.0 z.1)
  ])
]
  where
    at_root : a ≡ u → c ≡ u + (span l + span r) → ◌≡◌ {A = Triangle} (a, b, c) (u, u + span l, u + (span l + span r))
    at_root p q =
        let m : b ≡ u + span l = omega (arith, reaches u l r b (omega arith) (omega arith) (rw p at w.low), starts u l r b (omega arith) (omega arith) (rw q at w.high)) in
        λ i. (p i, m i, q i)

-- of a triangulated polygon: the triangles of a piece are those with corners u to v, and the triangles of the whole are all
module _ (n : ℕ) (ds : List Edge) (P : Triangulated n ds) where
  module _ {u : ℕ} {t : Tree} (s : PieceOf n ds u t) where
    pub triangles_joined : (x : Triangle) → Mem x (triangles u t) ↔ ((u ≤ x.0) × (x.2 ≤ u + span t) × AllJoined n ds x)
    triangles_joined x = (λ m. forth (all_mem (triangles_in u t) m) (all_mem (each_joined u t) m), back)
      where
        forth : (u ≤ x.0) × (x.0 < x.1) × (x.1 < x.2) × (x.2 ≤ u + span t) → Three (JoinedIn (chords u t)) x → (u ≤ x.0) × (x.2 ≤ u + span t) × AllJoined n ds x
        forth (h, i, j, k) w =
            let J = joined n ds P s in
            (h, k, (i, j, (J _ x.1 h i (omega arith)).0 w.low, (J x.1 _ (omega arith) j k).0 w.high, (J x.0 x.2 h (omega arith) k).0 w.long))

        back : (u ≤ x.0) × (x.2 ≤ u + span t) × AllJoined n ds x → Mem x (triangles u t)
        back (h, k, (i, j, a, b, c)) =
            let J = joined n ds P s in
            joined_each u t _ _ _ h i j k (record { low = (J _ x.1 h i (omega arith)).1 a; high = (J x.1 _ (omega arith) j k).1 b; long = (J x.0 x.2 h (omega arith) k).1 c })

  pub whole_joined : (x : Triangle) → Mem x (triangles 0 (tree_of n ds)) ↔ AllJoined n ds x
  whole_joined x = (λ m. ((triangles_joined itself x).0 m).2, back)
    where
      back : AllJoined n ds x → Mem x (triangles 0 (tree_of n ds))
      back (i, j, a, b, c) = (triangles_joined itself x).1 (omega arith, omega (arith, linked_up n ds P _ _ c, (tree_of_lem n ds P).size), (i, j, a, b, c))

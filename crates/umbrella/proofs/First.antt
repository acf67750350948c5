-- Among all plans of a piece with its least levels, the umbrella of `best` comes first in document 01's order.
-- Each step of its choice comes first, if the choices below it do; what another choice would need is bounded below by Low.antt.
use mathlib.Core.Path.{refl}
use mathlib.Core.List.{[], ◌∷◌}
use Prim.Native.Nat.{ℕ, ◌≤◌, suc}
use native.Mathlib.Nat.{le_trans, le_of_suc-le-suc}
use native.Mathlib.Decide.{dec_le}
use lib.Dec.{lit<}
use Rattle.polygon.specs.Tree.{Tree, leaf, node}
use Rattle.umbrella.specs.Plan.{Plan, plain, stem_left, stem_right, LeftRim, RightRim, LeftGate, left_gate, left_past, RightGate, right_gate, right_past, Stem, end_both, end_left, end_right, go_left, go_right, fold, levels}
use Rattle.umbrella.specs.Values.{ud, handle, fan_a, fan_b}
use Rattle.umbrella.specs.Drawn.{word, rim_edges, code_left, code_right, code, Earlier, first, less, same}
use Rattle.umbrella.specs.Best.{Over, Node, two, GateLeft, GateRight, Through, umbrella, left_at, right_at, stem_at, under, best, best_left, best_right, gate_left, gate_right, best_stem}
use Rattle.umbrella.proofs.Lattice.{max_lub, max_fst, max_snd}
use Rattle.umbrella.proofs.Low.{low, low_left, low_right, low_stem, left_gate_levels, right_gate_levels, stem_levels}

-- E is before any other word
E_first : {t : Tree} (S : Stem t) → Earlier (0 ∷ []) (word S)
unfolding word
E_first end_both = same refl first
E_first (end_left p) = same refl first
E_first (end_right p) = same refl first
E_first (go_left S p) = less (lit< tt)
E_first (go_right p S) = less (lit< tt)

-- no stem, or gate, that keeps within d has an earlier code
abbrev FirstStem : (d : ℕ) (t : Tree) → Through t → Type 0
FirstStem d t S = (n : Node t) (R : Stem t) → stem_levels R ≤ d → Earlier (word (S n)) (word R)

abbrev FirstLeft : (d : ℕ) (l r : Tree) → GateLeft d l r → Type 0
FirstLeft d l r G = (f : Over (fan_a l r) d) (H : LeftGate l) → left_gate_levels H ≤ d → Earlier (code_left (G f)) (code_left H)

abbrev FirstRight : (d : ℕ) (l r : Tree) → GateRight d l r → Type 0
FirstRight d l r G = (f : Over (fan_b l r) d) (s : ℕ) (H : RightGate r) → right_gate_levels H ≤ d → Earlier (code_right s (G f)) (code_right s H)

stem_at_first : (d : ℕ) (a b : Tree) (h : Dec (ud a ≤ d)) (k : Dec (ud b ≤ d)) (j : Dec (handle a ≤ d)) (p : Plan a) (q : Plan b) (S : Through a) (R : Through b)
    → FirstStem d a S → FirstStem d b R → (X : Stem (node a b)) → stem_levels X ≤ d → Earlier (word (stem_at d a b h k j p q S R)) (word X)
unfolding stem_at fold word
stem_at_first d leaf leaf h k j p q S R s r X m = E_first X
stem_at_first d leaf (node z w) h (yes k) j p q S R s r X m = E_first X
stem_at_first d leaf (node z w) h (no k) j p q S R s r (end_left y) m = absurd (k (le_trans (low y) m))
stem_at_first d leaf (node z w) h (no k) j p q S R s r (go_left X y) m = elim X [ ]
stem_at_first d leaf (node z w) h (no k) j p q S R s r (go_right y X) m = same refl (r two X (max_snd _ _ d m))
stem_at_first d (node z w) leaf (yes h) k j p q S R s r X m = E_first X
stem_at_first d (node z w) leaf (no h) k j p q S R s r (end_right y) m = absurd (h (le_trans (low y) m))
stem_at_first d (node z w) leaf (no h) k j p q S R s r (go_left X y) m = same refl (s two X (max_fst _ _ d m))
stem_at_first d (node z w) leaf (no h) k j p q S R s r (go_right y X) m = elim X [ ]
stem_at_first d (node z w) (node z' w') h (yes k) (yes j) p q S R s r (go_left X y) m = same refl (s two X (max_fst _ _ d m))
stem_at_first d (node z w) (node z' w') h (yes k) (yes j) p q S R s r (go_right y X) m = less (lit< tt)
stem_at_first d (node z w) (node z' w') h (yes k) (no j) p q S R s r (go_left X y) m = absurd (j (le_trans (low_stem X) (max_fst _ _ d m)))
stem_at_first d (node z w) (node z' w') h (yes k) (no j) p q S R s r (go_right y X) m = same refl (r two X (max_snd _ _ d m))
stem_at_first d (node z w) (node z' w') h (no k) j p q S R s r (go_left X y) m = absurd (k (le_trans (low y) (max_snd _ _ d m)))
stem_at_first d (node z w) (node z' w') h (no k) j p q S R s r (go_right y X) m = same refl (r two X (max_snd _ _ d m))

stem_first : (d : ℕ) (t : Tree) → FirstStem d t (best_stem d t)
unfolding best_stem
stem_first d leaf n R m = elim n [ ]
stem_first d (node a b) n R m = stem_at_first d a b (dec_le (ud a) d) (dec_le (ud b) d) (dec_le (handle a) d) (best a) (best b) (best_stem d a) (best_stem d b) (stem_first d a) (stem_first d b) R m

left_at_first : (d : ℕ) (a b r : Tree) (f : Over (fan_a (node a b) r) d) (h : Dec (ud b ≤ d)) (A : LeftRim a) (p : Plan b) (G : GateLeft d a b) (S : Through b)
    → FirstLeft d a b G → FirstStem d b S → (H : LeftGate (node a b)) → left_gate_levels H ≤ d → Earlier (code_left (left_at d a b r f h A p G S)) (code_left H)
unfolding left_at fold fan_a code_left
left_at_first d a b r f (yes h) A p G S g s (left_gate X R) m = absurd (f (max_lub (le_trans (low_left X b) (max_fst _ _ d m)) h))
left_at_first d a b r f (yes h) A p G S g s (left_past H q) m = g _ H (max_fst _ _ d m)
left_at_first d a b r f (no h) A p G S g s (left_gate X R) m = same refl (s _ R (max_snd _ _ d m))
left_at_first d a b r f (no h) A p G S g s (left_past H q) m = absurd (h (le_trans (low q) (max_snd _ _ d m)))

left_first : (d : ℕ) (l r : Tree) → FirstLeft d l r (gate_left d l r)
unfolding gate_left
left_first d leaf r f H m = elim H [ ]
left_first d (node a b) r f H m = left_at_first d a b r f (dec_le (ud b) d) (best_left a) (best b) (gate_left d a b) (best_stem d b) (left_first d a b) (stem_first d b) H m

right_at_first : (d : ℕ) (l a b : Tree) (f : Over (fan_b l (node a b)) d) (h : Dec (ud a ≤ d)) (p : Plan a) (B : RightRim b) (G : GateRight d a b) (S : Through a)
    → FirstRight d a b G → FirstStem d a S → (s : ℕ) (H : RightGate (node a b)) → right_gate_levels H ≤ d → Earlier (code_right s (right_at d l a b f h p B G S)) (code_right s H)
unfolding right_at fold fan_b code_right
right_at_first d l a b f (yes h) p B G S g w s (right_gate R X) m = absurd (f (max_lub (le_trans (low_right a X) (max_snd _ _ d m)) h))
right_at_first d l a b f (yes h) p B G S g w s (right_past q H) m = g _ (suc s) H (max_snd _ _ d m)
right_at_first d l a b f (no h) p B G S g w s (right_gate R X) m = same refl (w _ R (max_fst _ _ d m))
right_at_first d l a b f (no h) p B G S g w s (right_past q H) m = absurd (h (le_trans (low q) (max_fst _ _ d m)))

right_first : (d : ℕ) (l r : Tree) → FirstRight d l r (gate_right d l r)
unfolding gate_right
right_first d l leaf f s H m = elim H [ ]
right_first d l (node a b) f s H m = right_at_first d l a b f (dec_le (ud a) d) (best a) (best_right b) (gate_right d a b) (best_stem d a) (right_first d a b) (stem_first d a) s H m

umbrella_first : (d : ℕ) (l r : Tree) (h : Dec (fan_a l r ≤ d)) (k : Dec (fan_b l r ≤ d)) (A : LeftRim l) (B : RightRim r) (G : GateLeft d l r) (H : GateRight d l r)
    → FirstLeft d l r G → FirstRight d l r H → (p : Plan (node l r)) → levels p ≤ suc d → Earlier (code (umbrella d l r h k A B G H)) (code p)
unfolding umbrella fold code
umbrella_first d l r (yes h) (yes k) A B G H g e p m = first
umbrella_first d l r (no h) (yes k) A B G H g e (plain X Y) m = absurd (h (le_trans (low_left X r) (max_fst _ _ d (le_of_suc-le-suc m))))
umbrella_first d l r (no h) (yes k) A B G H g e (stem_left X Y) m = g h X (max_fst _ _ d (le_of_suc-le-suc m))
umbrella_first d l r (no h) (yes k) A B G H g e (stem_right X Y) m = absurd (h (le_trans (low_left X r) (max_fst _ _ d (le_of_suc-le-suc m))))
umbrella_first d l r h (no k) A B G H g e (plain X Y) m = absurd (k (le_trans (low_right l Y) (max_snd _ _ d (le_of_suc-le-suc m))))
umbrella_first d l r h (no k) A B G H g e (stem_left X Y) m = absurd (k (le_trans (low_right l Y) (max_snd _ _ d (le_of_suc-le-suc m))))
umbrella_first d l r h (no k) A B G H g e (stem_right X Y) m = e k (rim_edges l) Y (max_snd _ _ d (le_of_suc-le-suc m))

pub best_first : (t : Tree) (p : Plan t) → levels p ≤ ud t → Earlier (code (best t)) (code p)
unfolding best ud code
best_first leaf p h = first
best_first (node l r) p h =
    let d : ℕ = under l r in
    umbrella_first d l r (dec_le (fan_a l r) d) (dec_le (fan_b l r) d) (best_left l) (best_right r) (gate_left d l r) (gate_right d l r) (left_first d l r) (right_first d l r) p h

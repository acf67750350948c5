-- Columns side by side, and where a corner has cells in them: one stretch of columns.
-- A column is a list of cells, from row 0 on, and its upright. Rests on the count of cells in Cells.antt.
use mathlib.Core.Path.{◌≡◌, sym, ◌∙◌, subst}
use mathlib.Core.Logic.{◌⊎◌, inl, inr}
use mathlib.Core.List.{List, [], ◌∷◌, ◌++◌, map, reverse, reverse-cons}
use Prim.Native.Nat.{ℕ, ◌+◌, ◌-◌, ◌≤◌, min}
use native.Mathlib.Decide.{dec_le}
use native.Mathlib.Omega.{arith}
use Rattle.lists.specs.Lists.{All, all_cons, all_nil}
use Rattle.lists.proofs.Lists.{all_append, all_imp, all_map, all_reverse}
use Rattle.polygon.specs.Polygon.{Edge}
use Rattle.chart.proofs.Cells.{Cell, num}

abbrev pub Col : Type 0
Col = List Cell × Edge

-- the label of a column beside a bar: 0 before it, 1 on it, 2 after it; m is the number of cells there
abbrev pub At : ℕ → ℕ → Type 0
At l m = (l ≤ 2) × (m ≡ min l (2 - l))

-- along the columns the labels of x rise from s to t
pub data Run (x : ℕ) : ℕ → List Col → ℕ → Type 0 where
  stop : {s t : ℕ} → s ≤ t → Run x s [] t
  go : {s t : ℕ} {c : Col} {L : List Col} (l : ℕ) → s ≤ l → At l (num x c.0) → Run x l L t → Run x s (c ∷ L) t

-- the constructors as functions, whose indices are known before their arguments are read
halt : {x s t : ℕ} → s ≤ t → Run x s [] t
halt h = stop h

pass : {x s t : ℕ} {c : Col} {L : List Col} (l : ℕ) → s ≤ l → At l (num x c.0) → Run x l L t → Run x s (c ∷ L) t
pass l h a r = go l h a r

-- x has no cell
abbrev pub Off : ℕ → List Col → Type 0
Off x L = All (λ c. num x c.0 ≡ 0) L

run_left : {x s s' t : ℕ} {L : List Col} → s' ≤ s → Run x s L t → Run x s' L t
run_left h (stop k) = halt (omega arith)
run_left h (go l k a r) = pass l (omega arith) a r

run_right : {x s t t' : ℕ} {L : List Col} → t ≤ t' → Run x s L t → Run x s L t'
run_right h (stop k) = halt (omega arith)
run_right h (go l k a r) = pass l k a (run_right h r)

run_append : {x s t u : ℕ} {L M : List Col} → Run x s L t → Run x t M u → Run x s (L ++ M) u
run_append (stop k) q = run_left k q
run_append (go l k a r) q = pass l k a (run_append r q)

run_off : {x : ℕ} (s : ℕ) {L : List Col} → (s ≡ 0) ⊎ (s ≡ 2) → Off x L → Run x s L s
run_off s h all_nil = halt (omega arith)
run_off {x} s h (all_cons {x = c} o os) = pass s (omega arith) (at h) (run_off s h os)
  where
    at : (s ≡ 0) ⊎ (s ≡ 2) → At s (num x c.0)
    at (inl k) = omega arith
    at (inr k) = omega arith

run_reverse : {x s t : ℕ} {L : List Col} → Run x s L t → Run x (2 - t) (reverse L) (2 - s)
run_reverse (stop k) = halt (omega arith)
run_reverse {x} (go {s} {t} {c} {L} l k a r) =
    subst (λ (M : List Col). Run x (2 - t) M (2 - s)) (sym (reverse-cons c L))
    (run_append (run_reverse r) (pass (2 - l) (omega arith) (omega arith) (halt (omega arith))))

-- the cells of a column put elsewhere
abbrev pub on : (List Cell → List Cell) → Col → Col
on f c = (f c.0, c.1)

run_place : {x s t : ℕ} (f : List Cell → List Cell) → ((c : List Cell) → num x (f c) ≡ num x c) → {L : List Col} → Run x s L t → Run x s (map (on f) L) t
run_place f h (stop k) = halt k
run_place f h (go {c = c} l k a r) = pass l k (a.0, h c.0 ∙ a.1) (run_place f h r)

run_over : {x : ℕ} (f : List Cell → List Cell) → ((c : List Cell) → num x (f c) ≡ 1 + num x c) → {L : List Col} → Off x L → Run x 1 (map (on f) L) 1
run_over f h all_nil = halt (omega arith)
run_over f h (all_cons {x = c} o os) = pass 1 (omega arith) (omega arith, omega (arith, h c.0)) (run_over f h os)

-- from i cells of x before the columns to j after them, where b of it are new on the way
pub record Trans (x i : ℕ) (L : List Col) (j b : ℕ) : Type 0 where
  pub thin : j ≤ i + b
  pub live : i + b ≡ 1 → Run x i L (2 - j)
  pub idle : i + b ≡ 0 → Off x L

one_of : (m n : ℕ) → m + n ≡ 1 → ((m ≡ 1) × (n ≡ 0)) ⊎ ((m ≡ 0) × (n ≡ 1))
one_of m n h = go (dec_le m 0)
  where
    go : Dec (m ≤ 0) → ((m ≡ 1) × (n ≡ 0)) ⊎ ((m ≡ 0) × (n ≡ 1))
    go (yes k) = inr (omega arith)
    go (no k) = inl (omega arith)

pub trans_append : {x i j k b d : ℕ} {L M : List Col} → Trans x i L j b → Trans x j M k d → Trans x i (L ++ M) k (b + d)
trans_append {x} {i} {j} {k} {b} {d} {L} {M} p q = record {
  thin = omega arith;
  live = λ h. go (one_of (i + b) d (omega arith)) (dec_le j 0);
  idle = λ h. all_append (p.idle (omega arith)) (q.idle (omega arith));
}
  where
    go : ((i + b ≡ 1) × (d ≡ 0)) ⊎ ((i + b ≡ 0) × (d ≡ 1)) → Dec (j ≤ 0) → Run x i (L ++ M) (2 - k)
    go (inl h) (yes z) = run_append (p.live h.0) (run_right (omega arith) (run_off (2 - j) (inr (omega arith)) (q.idle (omega arith))))
    go (inl h) (no z) = run_append (p.live h.0) (run_left (omega arith) (q.live (omega arith)))
    go (inr h) z = run_append (run_off i (inl (omega arith)) (p.idle h.0)) (run_left (omega arith) (q.live (omega arith)))

pub trans_col : (x : ℕ) (c : Col) → Trans x (num x c.0) (c ∷ []) (num x c.0) 0
trans_col x c = record {
  thin = omega arith;
  live = λ e. pass (num x c.0) (omega arith) (omega arith) (halt (omega arith));
  idle = λ e. all_cons {x = c} (omega arith) all_nil;
}

pub trans_skip : {x i j b : ℕ} → j ≤ i + b → Trans x i [] j b
trans_skip h = record { thin = h; live = λ e. halt (omega arith); idle = λ e. all_nil }

pub trans_reverse : {x i j b b' : ℕ} {L : List Col} → i + b ≡ j + b' → Trans x i L j b → Trans x j (reverse L) i b'
trans_reverse h p = record {
  thin = omega arith;
  live = λ e. run_left (omega arith) (run_reverse (p.live (omega arith)));
  idle = λ e. all_reverse (p.idle (omega arith));
}

pub trans_place : {x i j b : ℕ} (e : ℕ) (f : List Cell → List Cell) → ((c : List Cell) → num x (f c) ≡ e + num x c) → {L : List Col} → Trans x i L j b → Trans x (e + i) (map (on f) L) (e + j) b
trans_place {x} {i} {j} {b} e f h {L} p = record {
  thin = omega arith;
  live = λ k. go (one_of e (i + b) (omega arith));
  idle = λ k. all_map (on f) (all_imp (λ c z. omega (arith, z, h c.0)) (p.idle (omega arith)));
}
  where
    go : ((e ≡ 1) × (i + b ≡ 0)) ⊎ ((e ≡ 0) × (i + b ≡ 1)) → Run x (e + i) (map (on f) L) (2 - (e + j))
    go (inl k) = run_right (omega arith) (run_left (omega arith) (run_over f (λ c. omega (arith, h c)) (p.idle k.1)))
    go (inr k) = run_right (omega arith) (run_left (omega arith) (run_place f (λ c. omega (arith, h c)) (p.live k.1)))

pub trans_weak : {x i j b : ℕ} (i' j' b' : ℕ) {L : List Col} → i' ≤ i → j' ≤ j → i + b ≡ i' + b' → Trans x i L j b → Trans x i' L j' b'
trans_weak i' j' b' hi hj h p = record {
  thin = omega arith;
  live = λ e. run_right (omega arith) (run_left hi (p.live (omega arith)));
  idle = λ e. p.idle (omega arith);
}

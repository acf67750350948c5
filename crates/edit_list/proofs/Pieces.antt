-- A list of edits cut into its edits of 13 bytes, as std's `chunks_exact` yields them.
use Rattle.std.proofs.Common.{◌≡◌, ℕ, zero, suc, ◌+◌, ◌*◌, ◌/◌, ◌<◌, ◌≤◌, List, [], ◌∷◌, length, take, drop, get_or, Some, None, Bor, refl, ap, ◌∙◌, arith}
use Rattle.std.specs.List.{enumerate_from}
use Rattle.std.specs.declared.slice.ChunksExact.{ChunksExact}
use Rattle.std.specs.Slice.Iter.{chunks_exact_rest, chunks_exact_size, chunks_exact_steps}
use Rattle.std.proofs.lemmas.List.{take_at, drop_at, drop-drop, length-append, get_or-take, get_or-drop}
use Rattle.std.proofs.lemmas.Iterator.{YieldsList}
use Rattle.std.proofs.lemmas.Iterator.Splits.{YieldsList-from_shown_while}
use Rattle.lists.specs.Lists.{All, all_nil, all_cons}
use Rattle.codec.specs.Numbers.{get32}
use Rattle.edit_list.specs.Script.{count, edit_at}

-- edit i of a list, and the k edits at its start
abbrev pub piece : List ℕ → ℕ → List ℕ
piece s i = take 13 (drop (i * 13) s)

abbrev pub pieces : ℕ → List ℕ → List (List ℕ)
pieces zero s = []
pieces (suc k) s = take 13 s ∷ pieces k (drop 13 s)

-- what std's iterator has left
abbrev left : ChunksExact ℕ → List (List ℕ)
left s = pieces (length (chunks_exact_rest s) / 13) (chunks_exact_rest s)

at_end : (s t : ChunksExact ℕ) → chunks_exact_size s ≡ 13 → chunks_exact_steps s None t → length (left s) ≡ 0
at_end s t e h = let none : length (chunks_exact_rest s) / 13 ≡ 0 = omega (arith, e, h.1.0) in rw none

at_next : (s : ChunksExact ℕ) (x : Bor (List ℕ)) (t : ChunksExact ℕ) → chunks_exact_size s ≡ 13 → chunks_exact_steps s (Some x) t → (chunks_exact_size t ≡ 13) × (left s ≡ x.now ∷ left t)
at_next s x t e h =
    let size : length x.now ≡ 13 = h.1.1 ∙ e in
    let more : length (chunks_exact_rest s) ≡ 13 + length (chunks_exact_rest t) = ap length h.1.0 ∙ (length-append x.now _ ∙ ap (λ n. n + length (chunks_exact_rest t)) size) in
    let count : length (chunks_exact_rest s) / 13 ≡ suc (length (chunks_exact_rest t) / 13) = omega arith in
    (h.0 ∙ e, rw (count, h.1.0, take_at x.now (chunks_exact_rest t) 13 size, drop_at x.now (chunks_exact_rest t) 13 size))

pub yields_pieces : {s : ChunksExact ℕ} (xs : List ℕ) → chunks_exact_size s ≡ 13 → chunks_exact_rest s ≡ xs → YieldsList chunks_exact_steps (λ x. x.now) s (pieces (count xs) xs)
yields_pieces {s} xs e r = rw (← r) (YieldsList-from_shown_while chunks_exact_steps (λ x. x.now) left (λ s. chunks_exact_size s ≡ 13) at_end at_next s e)

-- what holds of each of them
piece_next : (s : List ℕ) (i : ℕ) → piece (drop 13 s) i ≡ piece s (suc i)
piece_next s i = let e : 13 + i * 13 ≡ suc i * 13 = omega arith in ap (take 13) (drop-drop (i * 13) 13 s ∙ ap (λ m. drop m s) e)

pub pieces_all : {Q : List ℕ → Type 0} (k : ℕ) (s : List ℕ) → All Q (pieces k s) → (i : ℕ) → i < k → Q (piece s i)
pieces_all zero s a i h = absurd (omega arith)
pieces_all (suc k) s (all_cons q a) zero h = q
pieces_all (suc k) s (all_cons q a) (suc i) h = rw (piece_next s i) at (pieces_all k (drop 13 s) a i (omega arith))

pub all_pieces : {Q : List ℕ → Type 0} (k : ℕ) (s : List ℕ) → ((i : ℕ) → i < k → Q (piece s i)) → All Q (pieces k s)
all_pieces zero s f = all_nil
all_pieces (suc k) s f = all_cons (f 0 (omega arith)) (all_pieces k (drop 13 s) (λ i h. rw (piece_next s i) (f (suc i) (omega arith))))

-- its bytes, its numbers, and what it is
pub piece_byte : (s : List ℕ) (i j m : ℕ) → j < 13 → m ≡ i * 13 + j → get_or (piece s i) j 0 ≡ get_or s m 0
piece_byte s i j m h e = rw e (get_or-take 13 (drop (i * 13) s) j 0 h ∙ get_or-drop (i * 13) s j 0)

pub piece_number : (s : List ℕ) (i j : ℕ) → j ≤ 9 → get32 (piece s i) j ≡ get32 s (i * 13 + j)
piece_number s i j h = rw (
  piece_byte s i j (i * 13 + j) (omega arith) refl,
  piece_byte s i (j + 1) (i * 13 + j + 1) (omega arith) (omega arith),
  piece_byte s i (j + 2) (i * 13 + j + 2) (omega arith) (omega arith),
  piece_byte s i (j + 2 + 1) (i * 13 + j + 2 + 1) (omega arith) (omega arith),
)

pub piece_edit : (s : List ℕ) (i : ℕ) → edit_at (piece s i) 0 ≡ edit_at s i
unfolding edit_at
piece_edit s i = rw (piece_byte s i 0 (i * 13) (omega arith) (omega arith), piece_number s i 1 (omega arith), piece_number s i 5 (omega arith), piece_number s i 9 (omega arith))

-- numbered, as std's `enumerate` yields them: pair j is the number j and edit j
pub numbered_at : (k n : ℕ) (s : List ℕ) (j : ℕ) (d : ℕ × List ℕ) → j < k → get_or (enumerate_from n (pieces k s)) j d ≡ (n + j, piece s j)
numbered_at zero n s j d h = absurd (omega arith)
numbered_at (suc k) n s zero d h = let e : n ≡ n + 0 = omega arith in λ i. (e i, take 13 s)
numbered_at (suc k) n s (suc j) d h =
    let e : n + 1 + j ≡ n + suc j = omega arith in
    numbered_at k (n + 1) (drop 13 s) j d (omega arith) ∙ (λ i. (e i, piece_next s j i))

pub length_numbered : (k n : ℕ) (s : List ℕ) → length (enumerate_from n (pieces k s)) ≡ k
length_numbered zero n s = refl
length_numbered (suc k) n s = ap suc (length_numbered k (n + 1) (drop 13 s))

-- so pair j of them, as a loop over them has it
pub pair_at : (s : List ℕ) (j : ℕ) {i : ℕ} {b : List ℕ} → (j < length (enumerate_from 0 (pieces (count s) s))) × ((i, b) ≡ get_or (enumerate_from 0 (pieces (count s) s)) j (i, b))
    → (j < count s) × (i ≡ j) × (b ≡ piece s j)
pair_at s j (h, e) =
    let l : j < count s = omega (arith, length_numbered (count s) 0 s) in
    let z : 0 + j ≡ j = omega arith in
    let p = e ∙ (numbered_at (count s) 0 s j _ l ∙ (λ x. (z x, piece s j))) in
    (l, ap (λ (x : ℕ × List ℕ). x.0) p, ap (λ (x : ℕ × List ℕ). x.1) p)

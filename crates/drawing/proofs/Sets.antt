-- A run of values stored in a table, place by place, and put in the opposite order there.
use mathlib.Core.Path.{◌≡◌, refl, sym, ◌∙◌, ap}
use mathlib.Core.List.{List, [], ◌∷◌, reverse}
use Prim.Native.Nat.{ℕ, suc, ◌+◌, ◌-◌, ◌≤◌}
use native.Mathlib.Omega.{arith}
use borrow.Rule.Slice.PartMut.{put_mid}
use lib.ListN.{length, set, take, drop, length-drop, length-reverse, length-take}
use lib.Seq.{sets, length-sets, ext_get_or, get_or-take}
use Rattle.std.proofs.lemmas.List.{get_or-drop, set-set}
use Rattle.lists.proofs.Stores.{sets_mid, sets_set, sets_within}

-- a run stored over another of its length
sets_over : (xs ys l : List ℕ) (i : ℕ) → length xs ≡ length ys → sets (sets l i xs) i ys ≡ sets l i ys
sets_over [] [] l i e = refl
sets_over [] (y ∷ ys) l i e = absurd (omega arith)
sets_over (x ∷ xs) [] l i e = absurd (omega arith)
sets_over (x ∷ xs) (y ∷ ys) l i e =
    ap (λ (m : List ℕ). sets m (suc i) ys) (sets_set xs (set l i x) (suc i) i y (λ a b. omega arith) ∙ ap (λ (m : List ℕ). sets m (suc i) xs) (set-set l i x y))
    ∙ sets_over xs ys (set l i y) (suc i) (omega arith)

-- the run as it is read
run_there : (xs l : List ℕ) (i k : ℕ) → k ≡ length xs → i + length xs ≤ length l → take k (drop i (sets l i xs)) ≡ xs
run_there xs l i k e h =
    let n = length-take k (drop i (sets l i xs)) in
    let m = length-drop i (sets l i xs) in
    let s = length-sets l i xs in
    ext_get_or 0 (take k (drop i (sets l i xs))) xs (omega arith)
    (λ j q. get_or-take k (drop i (sets l i xs)) j 0 (omega arith) ∙ (get_or-drop i (sets l i xs) j 0 ∙ sets_within xs l i j (omega arith) h))

-- the run in the opposite order
pub turned_run : (xs l o : List ℕ) (i n : ℕ) → n ≡ i + length xs → n ≤ length l → o ≡ reverse (take (n - i) (drop i (sets l i xs))) → put_mid i (n - i) (sets l i xs) o ≡ sets l i (reverse xs)
turned_run xs l o i n e h q =
    let k : n - i ≡ length xs = omega arith in
    let turned : o ≡ reverse xs = q ∙ ap reverse (run_there xs l i (n - i) k (omega arith)) in
    let same = length-reverse xs in
    let room = length-sets l i xs in
    rw turned (sets_mid i (n - i) (sets l i xs) (reverse xs) (omega arith) (omega arith) ∙ sets_over xs (reverse xs) l i (sym same))

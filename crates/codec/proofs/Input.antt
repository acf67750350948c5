-- What was read of an input is at most what is lent, and settles what the first bytes of any longer input settle.
use mathlib.Core.Path.{◌≡◌, ap, sym, ◌∙◌}
use mathlib.Core.List.{List}
use Prim.Native.Nat.{ℕ, ◌≤◌, min}
use native.Mathlib.Decide.{dec_le}
use native.Mathlib.Omega.{arith}
use lib.ListN.{length, take, length-take}
use lib.Seq.{take_all}
use Rattle.codec.specs.Input.{Begins}

-- beyond the end there is nothing to take
take_least : (size n : ℕ) (l : List ℕ) → length l ≡ n → take (min size n) l ≡ take size l
take_least size n l h = go (dec_le n size)
  where
    go : Dec (n ≤ size) → take (min size n) l ≡ take size l
    go (yes k) = take_all (min size n) l (omega arith) ∙ sym (take_all size l (omega arith))
    go (no k) = let e : min size n ≡ size = omega arith in rw e

-- the bytes read are the first n of the input, if n are lent
pub begins_take : (lent input : List ℕ) (size n : ℕ) → length lent ≡ n → Begins lent size input → take (min size n) lent ≡ take n input
begins_take lent input size n h b = take_least size n lent h ∙ rw h at b

-- what the first n bytes of any longer input settle, the bytes that were read of an input settle, if n are lent
pub begins_settles : {A : Type 0} (f : List ℕ → A) (n : ℕ) → ((s : List ℕ) → n ≤ length s → f (take n s) ≡ f s)
    → (lent input : List ℕ) (size : ℕ) → length lent ≡ n → Begins lent size input → f (take (min size n) lent) ≡ f input
begins_settles {A} f n long lent input size h b = ap f (begins_take lent input size n h b) ∙ go (dec_le n (length input))
  where
    go : Dec (n ≤ length input) → f (take n input) ≡ f input
    go (yes l) = long input l
    go (no l) = ap f (take_all n input (omega arith))

-- whatever is lent, it is the beginning of some input: of itself
pub begins_itself : (lent : List ℕ) (size : ℕ) → Begins lent size (take size lent)
begins_itself lent size = sym (take_all (length lent) (take size lent) (omega (arith, length-take size lent)))

-- Document 01, "Operations and their refusals": what the answer of every operation that writes bytes is, a finished result or one refusal.
use Rattle.std.specs.Prelude.{◌≡◌, ◌⊎◌, List, ℕ, ◌<◌, length, take, drop}
use Rattle.lists.specs.Lists.{Mem}
use Rattle.codec.specs.Answer.{Outcome, refuse, write, Answer}
use Rattle.codec.specs.TwoOutputs.{BothOutcome, refuse_both, write_both, BothAnswer}

-- an operation that refuses before its output is looked at does so by one of these numbers
pub data Refuses (ks : List ℕ) : Outcome → Type 0 where
  number : {k : ℕ} → Mem k ks → Refuses ks (refuse k)
  writes : {bs : List ℕ} → Refuses ks (write bs)

-- a number that says "refused", in two bytes
abbrev pub Proper : ℕ → Type 0
Proper k = (0 < k) × (k < 65536)

-- a finished result: the bytes bs in a lent output
pub record Finished (bs out : List ℕ) (a : Answer) : Type 0 where
  -- "Success gives 0;"
  pub zero : a.number ≡ 0
  -- the length, and the bytes to that length, are those of the whole result
  pub told : a.size ≡ length bs
  pub result : take a.size a.bytes ≡ bs
  -- "bytes .. beyond the result stay."
  pub beyond : drop a.size a.bytes ≡ drop a.size out

-- "A refusal gives its number and zeros, and changes no lent memory." The number is one of ks.
pub record Refusal (ks out : List ℕ) (a : Answer) : Type 0 where
  pub published : Mem a.number ks
  pub proper : Proper a.number
  pub nothing : a.size ≡ 0
  pub untouched : a.bytes ≡ out

-- every answer is a finished result, of the bytes that the operation is to write, or one refusal
abbrev pub Settled : List ℕ → Outcome → List ℕ → Answer → Type 0
Settled ks o out a = ((bs : List ℕ) × (o ≡ write bs) × Finished bs out a) ⊎ Refusal ks out a

-- The same of an operation with two outputs (TwoOutputs.antt).
pub data RefusesBoth {A : Type 0} (ks : List ℕ) : BothOutcome A → Type 0 where
  number_both : {k : ℕ} → Mem k ks → RefusesBoth ks (refuse_both k)
  writes_both : {bs : List ℕ} {xs : List A} → RefusesBoth ks (write_both bs xs)

-- a finished result: bs in the first output, xs in the second, ys
pub record BothFinished {A : Type 0} (bs : List ℕ) (xs : List A) (out : List ℕ) (ys : List A) (d : BothAnswer A) : Type 0 where
  pub first : Finished bs out d.answer
  pub told : d.count ≡ length xs
  pub result : take d.count d.second ≡ xs
  pub beyond : drop d.count d.second ≡ drop d.count ys

pub record BothRefusal {A : Type 0} (ks out : List ℕ) (ys : List A) (d : BothAnswer A) : Type 0 where
  pub first : Refusal ks out d.answer
  pub nothing : d.count ≡ 0
  pub untouched : d.second ≡ ys

abbrev pub BothSettled : {A : Type 0} → List ℕ → BothOutcome A → List ℕ → List A → BothAnswer A → Type 0
BothSettled {A} ks o out ys d = ((bs : List ℕ) × (xs : List A) × (o ≡ write_both bs xs) × BothFinished bs xs out ys d) ⊎ BothRefusal ks out ys d

-- How an operation with two outputs answers: the first of bytes, the second of bytes or records. As with one output (Answer.antt); and "8: either output too short."
use Rattle.std.proofs.Math.Logic.Dec.{and as dec_and}
use Rattle.std.specs.Prelude.{Result, Ok, Err, List, ◌++◌, ℕ, ◌+◌, ◌*◌, ◌<◌, length, drop}
use Rattle.std.proofs.Math.Decide.{dec_le}
use Rattle.codec.specs.declared.refusal.Refusal.{Refusal}
use Rattle.codec.specs.Numbered.{number_of}
use Rattle.codec.specs.Answer.{Answer, refusal, whole}

-- what an operation is to do: refuse by a number, or write these two
pub data BothOutcome (A : Type 0) : Type 0 where
  refuse_both : ℕ → BothOutcome A
  write_both : List ℕ → List A → BothOutcome A

-- the answer, with the first output's length and bytes afterwards; how many were written to the second, and what it holds afterwards
pub record BothAnswer (A : Type 0) : Type 0 where
  pub answer : Answer
  pub count : ℕ
  pub second : List A

-- "A refusal gives its number and zeros, and changes no lent memory."
abbrev pub refusal_both : {A : Type 0} → ℕ → List ℕ → List A → BothAnswer A
refusal_both k out ys = record { answer = refusal k out; count = 0; second = ys }

-- "Success gives 0; bytes or records beyond the result stay."
abbrev pub whole_both : {A : Type 0} → List ℕ → List A → List ℕ → List A → BothAnswer A
whole_both bs xs out ys = record { answer = whole bs out; count = length xs; second = xs ++ drop (length xs) ys }

-- "8: either output too short."
unfoldable pub fit_both : {A P : Type 0} → Dec P → List ℕ → List A → List ℕ → List A → BothAnswer A
fit_both (yes p) bs xs out ys = whole_both bs xs out ys
fit_both (no p) bs xs out ys = refusal_both 8 out ys

unfoldable pub written_both : {A : Type 0} → BothOutcome A → List ℕ → List A → BothAnswer A
written_both (refuse_both k) out ys = refusal_both k out ys
written_both (write_both bs xs) out ys = fit_both (dec_and (dec_le (length bs) (length out)) (dec_le (length xs) (length ys))) bs xs out ys

-- the number and the values of each case of the code's answer, with what was lent at its return
abbrev pub answered_both : {A : Type 0} → Result (ℕ × ℕ) Refusal → List ℕ → List A → BothAnswer A
answered_both (Ok (k, m)) out ys = record { answer = record { number = 0; size = k; bytes = out }; count = m; second = ys }
answered_both (Err r) out ys = refusal_both (number_of r) out ys

-- the answer with two outputs of bytes in one number, for C: the number in the low 16 bits, the two lengths above it, 16 bits each
abbrev pub packed_both : BothAnswer ℕ → ℕ
packed_both d = d.answer.number + d.answer.size * 65536 + d.count * 4294967296

-- the lengths are small enough for that
abbrev pub BothPackable : Result (ℕ × ℕ) Refusal → Type 0
BothPackable (Ok (k, m)) = (k < 65536) × (m < 65536)
BothPackable (Err r) = Unit {0}

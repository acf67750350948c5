-- What a C caller reads from the number that an operation returns: the functions of include/bend.h, one for one. The number of an answer of each kind is `packed` (Answer.antt), `packed_both` (TwoOutputs.antt),
-- `packed_plan` (crate plan), `packed_run` (crate edit_list) and `packed_found` (crate chart_reader).
use Rattle.std.specs.Prelude.{◌≡◌, ℕ, ◌/◌, ◌%◌, ◌<◌}
use Rattle.codec.specs.Answer.{Answer, packed}
use Rattle.codec.specs.TwoOutputs.{BothAnswer, packed_both}

-- bend_number: `answer & 0xffff`
abbrev pub number_in : ℕ → ℕ
number_in answer = answer % 65536

-- bend_length: `answer >> 16`
abbrev pub length_in : ℕ → ℕ
length_in answer = answer / 65536

-- bend_place, and bend_left, of a list of edits: `answer >> 16 & 0xffff`, `answer >> 32`
abbrev pub place_in : ℕ → ℕ
place_in answer = answer / 65536 % 65536

abbrev pub left_in : ℕ → ℕ
left_in answer = answer / 4294967296

-- bend_levels, bend_umbrellas and bend_stems, of Plan: `answer >> 16 & 0xffff`, `answer >> 32 & 0xffff`, `answer >> 48 & 0xffff`
abbrev pub levels_in : ℕ → ℕ
levels_in answer = answer / 65536 % 65536

abbrev pub umbrellas_in : ℕ → ℕ
umbrellas_in answer = answer / 4294967296 % 65536

abbrev pub stems_in : ℕ → ℕ
stems_in answer = answer / 281474976710656 % 65536

-- bend_corner, of the nearest bar: `answer >> 16`, the corner and one, or 0 for none
abbrev pub corner_in : ℕ → ℕ
corner_in answer = answer / 65536

-- bend_inner_length and bend_rest_length, of Cut: `answer >> 16 & 0xffff`, `answer >> 32 & 0xffff`
abbrev pub inner_length_in : ℕ → ℕ
inner_length_in answer = answer / 65536 % 65536

abbrev pub rest_length_in : ℕ → ℕ
rest_length_in answer = answer / 4294967296 % 65536

-- "Every function returns one number of 64 bits."
abbrev pub OneNumber : ℕ → Type 0
OneNumber answer = answer < 18446744073709551616

-- the answer of an operation that writes one output is read back from its number
pub record ReadsBack (a : Answer) : Type 0 where
  pub number_back : number_in (packed a) ≡ a.number
  pub length_back : length_in (packed a) ≡ a.size
  pub one_number : OneNumber (packed a)

-- and the answer of one that writes two outputs of bytes
pub record BothReadsBack (d : BothAnswer ℕ) : Type 0 where
  pub number_back : number_in (packed_both d) ≡ d.answer.number
  pub inner_back : inner_length_in (packed_both d) ≡ d.answer.size
  pub rest_back : rest_length_in (packed_both d) ≡ d.count
  pub one_number : OneNumber (packed_both d)

-- Request (xii), "Part numbers go": "A sheet that still has it is read and its four bytes are skipped", and two sheets "that differ only there".
use Rattle.std.specs.Prelude.{◌≡◌, List, ◌++◌, ℕ, ◌+◌, ◌*◌, ◌-◌, ◌≤◌, length, take, drop, set, get_or}
use Rattle.std.proofs.Math.Logic.Dec.{and as dec_and}
use Rattle.std.proofs.Math.Decide.{dec_le, ℕ_discrete}
use Rattle.lists.specs.Lists.{choose}
use Rattle.codec.specs.Numbers.{get16}
use Rattle.sheet.specs.Sheet.{bit2}

-- where the pairs end, as many as the corner count asks for: "the fields whose bit stands follow in bit order", so the four bytes of bit 2 stand there
abbrev pub pairs_end : List ℕ → ℕ
pairs_end s = 3 + 4 * (get16 s 1 - 3)

-- bit 2 stands, and its four bytes are there
abbrev pub HasNumber : List ℕ → Type 0
HasNumber s = (bit2 (get_or s 0 0) ≡ 1) × (pairs_end s + 4 ≤ length s)

unfoldable pub has_number? : (s : List ℕ) → Dec (HasNumber s)
has_number? s = dec_and (ℕ_discrete (bit2 (get_or s 0 0)) 1) (dec_le (pairs_end s + 4) (length s))

-- such a sheet with bit 2, of weight 4, clear and the four bytes taken out
unfoldable pub stripped : List ℕ → List ℕ
stripped s = set (take (pairs_end s) s ++ drop (pairs_end s + 4) s) 0 (get_or s 0 0 - 4)

-- "its four bytes are skipped"; a sheet that lacks the bit or the bytes stays
unfoldable pub skipped : List ℕ → List ℕ
skipped s = choose (has_number? s) (stripped s) s

-- two sheets "that differ only there": they are the same but for bit 2 and its four bytes
abbrev pub OnlyThere : List ℕ → List ℕ → Type 0
OnlyThere s t = skipped s ≡ skipped t

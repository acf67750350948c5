-- What is done with an input is settled by its first bytes, one more than the longest sheet has; and a chart and a line that were written are what is done with a sheet.
-- Rests on the refusal of what is longer than any sheet (`long_input`, crate sheet).
use mathlib.Core.Path.{◌≡◌, refl, ap, ◌∙◌}
use mathlib.Core.List.{List}
use mathlib.Core.Option.{none, some}
use Prim.Native.Nat.{ℕ, suc, ◌+◌, ◌-◌, ◌≤◌, min}
use native.Mathlib.Omega.{arith}
use lib.ListN.{length, take, length-append, length-drop}
use lib.Seq.{take_at, take-append_seam}
use Rattle.polygon.specs.Polygon.{Polygon, Valid}
use Rattle.std.specs.Prelude.{Result, Ok, Err, Option as Given, Some, None, IfSome}
use Rattle.std.specs.Result.{result_ok}
use Rattle.codec.specs.declared.refusal.Refusal.{Refusal}
use Rattle.codec.specs.Answer.{Answer, write, whole, written, answered}
use Rattle.codec.proofs.Answers.{written_fits, bytes_left}
use Rattle.codec.specs.Input.{Begins}
use Rattle.codec.proofs.Input.{begins_settles}
use Rattle.lists.proofs.Stores.{sets_front}
use Rattle.sheet.specs.Sheet.{Reading, refused, held, longest, read_sheet}
use Rattle.sheet.proofs.Long.{long_input}
use Rattle.chart.specs.Chart.{chart_of}
use Rattle.chart.specs.Bytes.{bytes_of}
use Rattle.chart.proofs.Sizes.{bytes_size}
use Rattle.log_line.specs.Line.{line, refused_line}
use Rattle.log_line.specs.Put.{Put}
use Rattle.log_line.proofs.Size.{line_size, refused_size}
use Rattle.draw.specs.Answer.{charted}
use Rattle.draw.specs.Printed.{facts_of, printed_of}
use Rattle.draw.specs.Program.{saved_of, output_of, output, shown}
use Rattle.draw.proofs.Size.{chart_bytes}

pub begins_output : (lent input : List ℕ) (size : ℕ) → length lent ≡ suc longest → Begins lent size input → (chart text : List ℕ) → output (take (min size (suc longest)) lent) chart text ≡ output input chart text
unfolding output
begins_output lent input size h b chart text = ap (λ (r : Reading). output_of r chart text) (begins_settles read_sheet (suc longest) long_input lent input size h b)

-- a line that was written, and the bytes lent for it
module _ {xs o₀ o₁ : List ℕ} {r : ℕ} (size : length xs ≤ 256) (room : 256 ≤ length o₀) (p : Put xs o₀ 0 o₁ r) where
  bytes_now : o₁ ≡ (whole xs o₀).bytes
  bytes_now = p.bytes ∙ sets_front xs o₀ (omega arith)

  line_front : take r o₁ ≡ xs
  line_front =
      let e : length xs ≡ 0 + length xs = omega arith in
      rw (p.end, bytes_now) (take_at xs _ _ e)

  line_lent : o₁ ≡ (written (write xs) o₀).bytes
  line_lent = rw (written_fits xs o₀ (omega arith)) bytes_now

-- what is done with a sheet that is refused
pub refusal_shown : (k : ℕ) (chart : List ℕ) {text said : List ℕ} {m : ℕ} → 256 ≤ length text → Put (refused_line k) text 0 said m → shown (record { chart = None; line = m }) chart said ≡ output_of (refused k) chart text
unfolding output_of saved_of printed_of charted written
refusal_shown k chart room p = let e = line_lent (refused_size k) room p in λ i. record { saved = none; line = line_front (refused_size k) room p i; chart = chart; text = e i }

-- and with a part
module _ (p : Polygon) (valid : Valid p) (out after : List ℕ) (w : Result ℕ Refusal) (fits : 20465 ≤ length out) (e : answered w after ≡ written (write (bytes_of (chart_of p))) out) where
  wrote_whole : answered w after ≡ whole (bytes_of (chart_of p)) out
  wrote_whole = e ∙ written_fits (bytes_of (chart_of p)) out (omega (arith, chart_bytes p valid.triangulated valid.most))

  kept : length after ≡ length out
  kept =
      let bs : List ℕ = bytes_of (chart_of p) in
      let b : length after ≡ length bs + (length out - length bs) = simp (length-append, length-drop) at (ap length (bytes_left w after wrote_whole)) in
      omega (arith, b, chart_bytes p valid.triangulated valid.most)

  -- its chart is not refused
  pub part_fits : (why : Refusal) → w ≡ Err why → ⊥
  part_fits why h = omega (arith, ap (λ (x : Answer). x.size) (rw h at wrote_whole), (bytes_size (chart_of p)).0)

  module _ (k : ℕ) (h : w ≡ Ok k) where
    now_whole : answered (Ok k) after ≡ whole (bytes_of (chart_of p)) out
    now_whole = rw h at wrote_whole

    pub chart_short : k ≤ 20465
    chart_short = omega (arith, ap (λ (x : Answer). x.size) now_whole, chart_bytes p valid.triangulated valid.most)

    chart_shown : {text said : List ℕ} {m : ℕ} → 256 ≤ length text → Put (line (facts_of p)) text 0 said m → shown (record { chart = Some k; line = m }) after said ≡ output_of (held p) out text
    unfolding output_of saved_of printed_of charted
    chart_shown room q =
        let s = line_size (facts_of p) in
        let size : k ≡ length (bytes_of (chart_of p)) = ap (λ (x : Answer). x.size) now_whole in
        let bytes : after ≡ (whole (bytes_of (chart_of p)) out).bytes = ap (λ (x : Answer). x.bytes) now_whole in
        let saved : take k after ≡ bytes_of (chart_of p) = rw (size, bytes, take-append_seam (bytes_of (chart_of p)) _) in
        λ i. record { saved = some (saved i); line = line_front s room q i; chart = bytes_left w after e i; text = line_lent s room q i }

  -- it is saved, and its line is printed
  pub part_shown : {text said : List ℕ} {m : ℕ} {saved : Given ℕ} → saved ≡ result_ok w → 256 ≤ length text → Put (line (facts_of p)) text 0 said m
      → (shown (record { chart = saved; line = m }) after said ≡ output_of (held p) out text) × IfSome saved (λ k. k ≤ length after)
  part_shown {text} {said} {m} f room q = rw f (go w refl)
    where
      go : (v : Result ℕ Refusal) → w ≡ v → (shown (record { chart = result_ok v; line = m }) after said ≡ output_of (held p) out text) × IfSome (result_ok v) (λ k. k ≤ length after)
      go (Ok k) i = (chart_shown k i room q, omega (arith, chart_short k i, kept))
      go (Err why) i = absurd (part_fits why i)

-- A part in hand that is to be cut between a and b: what refuses it, and what is written.
use mathlib.Core.Path.{◌≡◌, ap, sym}
use mathlib.Core.List.{List}
use Prim.Native.Nat.{ℕ, ◌≤◌, ◌<◌}
use native.Mathlib.Omega.{arith}
use Rattle.lists.specs.Lists.{Mem}
use Rattle.polygon.specs.Polygon.{Edge, ◌—◌, Polygon, Valid}
use Rattle.keys.specs.Keys.{key_of, edges_of}
use Rattle.codec.specs.TwoOutputs.{refusal_both, write_both, written_both}
use Rattle.sheet.specs.Sheet.{Reading, refused, held, normal_sheet}
use Rattle.sheet.proofs.Normal.{lower_first_same}
use Rattle.edit.proofs.Turning.{lacks_diagonal}
use Rattle.cut.specs.Cut.{inner_part, rest_part, cuttable, halved}
use Rattle.cut.proofs.Answers.{cut_lacks, cut_holds}

-- by a key in the table, a not above b
module _ {p : Polygon} (V : Valid p) (a b : ℕ) (up : a ≤ b) (inside : b < p.n) where
  pub key_lacks : {k : ℕ} → k ≡ key_of (a — b) → (ks : List ℕ) → edges_of ks ≡ p.ds → ¬ Mem k ks → cuttable a b p ≡ refused 13
  key_lacks K ks same f = cut_lacks a b p (omega arith, inside) (lacks_diagonal p a b V up inside K ks same f)

  pub key_holds : Mem (a — b) p.ds → cuttable a b p ≡ held p
  key_holds m = cut_holds a b p (omega arith, inside) (rw (lower_first_same (a — b) up) m)

-- what is answered of the reading q, refused or cut at c
module _ (c : Edge) {q : Reading} (out ys : List ℕ) where
  pub cut_refused : {k : ℕ} → q ≡ refused k → refusal_both k out ys ≡ written_both (halved c q) out ys
  unfolding halved written_both
  cut_refused e = ap (λ (r : Reading). written_both (halved c r) out ys) (sym e)

  pub cut_written : {p i r : Polygon} → q ≡ held p → i ≡ inner_part c p → r ≡ rest_part c p → written_both (write_both (normal_sheet i) (normal_sheet r)) out ys ≡ written_both (halved c q) out ys
  unfolding halved
  cut_written e f g = rw (e, f, g)

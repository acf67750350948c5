-- A tree with a leaf in the place of one of its pieces: with the piece grafted on that leaf it is the tree again.
use mathlib.Core.Path.{◌≡◌, refl, ap, ◌∙◌}
use Prim.Native.Nat.{ℕ, ◌+◌, ◌-◌, ◌<◌}
use native.Mathlib.Decide.{dec_lt}
use native.Mathlib.Omega.{arith}
use Rattle.lists.proofs.Lists.{choose_no, choose_yes}
use Rattle.polygon.specs.Tree.{Tree, node, span, Piece, itself, beyond_left, beyond_right}
use Rattle.polygon.proofs.PieceTheorem.{piece_lies}
use Rattle.seam.specs.Graft.{graft}
use Rattle.cut.specs.Pruned.{pruned}

-- the piece t, on the corners from a on, stands at leaf i of what is left of s, which lies on those from x on
pub pruned_leaf : {a : ℕ} {t : Tree} {x : ℕ} {s : Tree} (q : Piece a t x s) (i : ℕ) → a ≡ x + i → i < span (pruned q)
unfolding pruned span
pruned_leaf itself i e = omega arith
pruned_leaf (beyond_left q) i e = omega (arith, pruned_leaf q i e)
pruned_leaf (beyond_right {l = l} q) i e = omega (arith, pruned_leaf q (i - span l) (omega (arith, piece_lies q)), piece_lies q)

pub pruned_graft : {a : ℕ} {t : Tree} {x : ℕ} {s : Tree} (q : Piece a t x s) (i : ℕ) → a ≡ x + i → graft i (pruned q) t ≡ s
unfolding pruned graft
pruned_graft itself i e = refl
pruned_graft (beyond_left {r = r} q) i e = choose_yes (dec_lt i (span (pruned q))) _ (pruned_leaf q i e) ∙ ap (λ (w : Tree). node w r) (pruned_graft q i e)
pruned_graft (beyond_right {l = l} q) i e = choose_no (dec_lt i (span l)) _ (omega (arith, piece_lies q)) ∙ ap (node l) (pruned_graft q (i - span l) (omega (arith, piece_lies q)))

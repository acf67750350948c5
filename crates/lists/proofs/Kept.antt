-- The elements that pass a test: under a function, and at the front of a table where a loop puts them.
use mathlib.Core.Path.{◌≡◌, refl, ap, sym, ◌∙◌}
use mathlib.Core.List.{List, [], ◌∷◌, ◌++◌, map, append-nil}
use Prim.Native.Nat.{ℕ, ◌+◌, ◌<◌}
use native.Mathlib.Numerals.{add-one}
use lib.ListN.{length, take, get_or, set}
use lib.Seq.{take-suc, take-suc-set}
use Rattle.lists.specs.Lists.{put, keep}
use Rattle.lists.proofs.Lists.{keep_append, keep_yes, keep_no}

map_put : {A B P : Type 0} (f : A → B) (d : Dec P) (x : A) (xs : List A) → map f (put d x xs) ≡ put d (f x) (map f xs)
unfolding put
map_put f (yes p) x xs = refl
map_put f (no p) x xs = refl

pub map_keep : {A B : Type 0} {P : B → Type 0} (f : A → B) (d : (y : B) → Dec (P y)) (xs : List A) → map f (keep (λ x. d (f x)) xs) ≡ keep d (map f xs)
unfolding keep
map_keep f d [] = refl
map_keep f d (x ∷ xs) = map_put f (d (f x)) x (keep (λ y. d (f y)) xs) ∙ ap (put (d (f x)) (f x)) (map_keep f d xs)

-- of the first j elements those that pass are the first i of a table; now comes element j
module _ {A : Type 0} {P : A → Type 0} (d : (x : A) → Dec (P x)) (l out : List A) (i j : ℕ) (z : A) (more : j < length l) (done : take i out ≡ keep d (take j l)) where
  one_more : keep d (take (j + 1) l) ≡ keep d (take j l) ++ keep d (get_or l j z ∷ [])
  one_more = rw (add-one j, take-suc l j z more) (keep_append d (take j l) (get_or l j z ∷ []))

  pub kept_next : i < length out → P (get_or l j z) → take (i + 1) (set out i (get_or l j z)) ≡ keep d (take (j + 1) l)
  unfolding keep
  kept_next room p = rw (one_more, keep_yes d (get_or l j z) [] p, add-one i, take-suc-set out i (get_or l j z) room, done)

  pub kept_past : ¬ P (get_or l j z) → take i out ≡ keep d (take (j + 1) l)
  unfolding keep
  kept_past f = done ∙ sym (rw (one_more, keep_no d (get_or l j z) [] f) (append-nil (keep d (take j l))))

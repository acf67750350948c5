-- The laws of `sort`: it keeps the edges and their number, and the sorted list ascends exactly when no edge is repeated.
-- They rest on the laws of `insert`.
use mathlib.Core.Path.{◌≡◌, refl, ap, sym, ◌∙◌}
use mathlib.Core.Logic.{◌↔◌}
use mathlib.Core.List.{List, [], ◌∷◌}
use Prim.Native.Nat.{suc}
use lib.ListN.{length}
use Rattle.lists.specs.Lists.{All, Sub, all_cons, all_nil, sorted_cons, sorted_nil}
use Rattle.lists.proofs.Lists.{all_imp, all_mem, all_self, sorted_same}
use Rattle.polygon.specs.Polygon.{Edge, Before, Ascending}
use Rattle.polygon.specs.Order.{before?, place, insert, sort, Distinct}
use Rattle.polygon.proofs.Order.{not_self, one_way, insert_all, insert_parts, insert_ascending, insert_length}

-- what holds of all before holds of all after, and back
pub sort_all : {Q : Edge → Type 0} {es : List Edge} → All Q es → All Q (sort es)
unfolding sort
sort_all all_nil = all_nil
sort_all (all_cons {x} q a) = insert_all x q (sort_all a)

cons_all : {Q : Edge → Type 0} {x : Edge} {xs ys : List Edge} → (All Q ys → All Q xs) → All Q (x ∷ ys) → All Q (x ∷ xs)
cons_all f (all_cons q a) = all_cons q (f a)

pub sort_parts : {Q : Edge → Type 0} (es : List Edge) → All Q (sort es) → All Q es
unfolding sort
sort_parts [] a = a
sort_parts (x ∷ xs) a = cons_all (sort_parts xs) (insert_parts x (sort xs) a)

pub sort_sub : (es : List Edge) → Sub (sort es) es
sort_sub es x m = all_mem (sort_all (all_self es)) m

pub sort_mem : (es : List Edge) → Sub es (sort es)
sort_mem es x m = all_mem (sort_parts es (all_self (sort es))) m

pub sort_length : (es : List Edge) → length (sort es) ≡ length es
unfolding sort
sort_length [] = refl
sort_length (x ∷ xs) = insert_length x (sort xs) ∙ ap suc (sort_length xs)

-- the sorted list ascends strictly exactly when no edge is repeated
distinct_ascending : {es : List Edge} → Distinct es → Ascending (sort es)
unfolding sort
distinct_ascending sorted_nil = sorted_nil
distinct_ascending (sorted_cons {x} o s) = insert_ascending x (sort_all o) (distinct_ascending s)

record Fresh (e : Edge) (es : List Edge) : Type 0 where
  other : All (λ x. ¬ (x ≡ e)) es
  ascending : Ascending es

others : (e : Edge) {es : List Edge} → All (Before e) es → All (λ x. ¬ (x ≡ e)) es
others e o = all_imp (λ x b q. not_self e x b (sym q)) o

place_back : {P : Type 0} (e x : Edge) (xs : List Edge) (d : Dec P) → (Ascending (insert e xs) → Fresh e xs) → Ascending (place d e x xs (insert e xs)) → Fresh e (x ∷ xs)
unfolding place
place_back e x xs (yes p) f (sorted_cons o s) = record { other = others e o; ascending = s }
place_back e x xs (no p) f (sorted_cons o s) = let F = f s in go F (insert_parts e xs o)
  where
    go : Fresh e xs → All (Before x) (e ∷ xs) → Fresh e (x ∷ xs)
    go F (all_cons b a) = record { other = all_cons (not_self x e b) F.other; ascending = sorted_cons a F.ascending }

insert_back : (e : Edge) (es : List Edge) → Ascending (insert e es) → Fresh e es
unfolding insert
insert_back e [] s = record { other = all_nil; ascending = sorted_nil }
insert_back e (x ∷ xs) s = place_back e x xs (before? e x) (insert_back e xs) s

ascending_distinct : (es : List Edge) → Ascending (sort es) → Distinct es
unfolding sort
ascending_distinct [] s = sorted_nil
ascending_distinct (x ∷ xs) s = let F = insert_back x (sort xs) s in sorted_cons (sort_parts xs F.other) (ascending_distinct xs F.ascending)

pub sort_ascends : (es : List Edge) → Ascending (sort es) ↔ Distinct es
sort_ascends es = (ascending_distinct es, distinct_ascending)

-- the order of the edges given does not matter: an ascending list of the same edges is the sorted one
pub sort_is : (es ds : List Edge) → Distinct es → Ascending ds → Sub es ds → Sub ds es → sort es ≡ ds
sort_is es ds d s f g = sorted_same one_way (sort es) ds (distinct_ascending d) s (λ x m. f x (sort_sub es x m)) (λ x m. sort_mem es x (g x m))

-- an ascending list repeats no edge, and stays as it is
pub distinct_of : {es : List Edge} → Ascending es → Distinct es
distinct_of sorted_nil = sorted_nil
distinct_of (sorted_cons {x} o s) = sorted_cons (others x o) (distinct_of s)

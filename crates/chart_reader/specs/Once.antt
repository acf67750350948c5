-- That strokes were found has one proof, so a struct may hold it.
use Rattle.std.specs.Prelude.{List, [], ◌∷◌, ℕ, refl}
use Rattle.std.specs.Coded.{Coded-set, coded_ℕ, coded_list, le_prop}
use Rattle.lists.specs.Lists.{All, all_nil, all_cons}
use Rattle.chart_reader.specs.Formed.{Formed}
use Rattle.chart_reader.specs.Held.{StrokesFound}

all_once : {A : Type 0} {Q : A → Type 0} → ((x : A) → IsProp (Q x)) → (l : List A) → IsProp (All Q l)
all_once once [] all_nil all_nil = refl
all_once once (x ∷ l) (all_cons p a) (all_cons q b) = λ i. all_cons (once x p q i) (all_once once l a b i)

formed_once : (s : List ℕ) → IsProp (Formed s)
formed_once s F G = λ i. record {
  head = le_prop F.head G.head i;
  least = le_prop F.least G.least i;
  most = le_prop F.most G.most i;
  bits = all_once (λ _. le_prop) _ F.bits G.bits i;
  exact = Coded-set coded_ℕ _ _ F.exact G.exact i;
}

pub found_once : (s : List ℕ) (n : ℕ) (at : List ℕ) → IsProp (StrokesFound s n at)
found_once s n at F G = λ i. record {
  formed = formed_once s F.formed G.formed i;
  count = Coded-set coded_ℕ _ _ F.count G.count i;
  strokes = Coded-set (coded_list coded_ℕ) _ _ F.strokes G.strokes i;
}

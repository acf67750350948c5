-- A list that stands in another, forwards or backwards.
-- Rests on lists alone.
use mathlib.Core.Path.{◌≡◌, refl, sym, ◌∙◌, ap, subst}
use mathlib.Core.Logic.{◌⊎◌, inl, inr}
use mathlib.Core.List.{List, [], ◌∷◌, ◌++◌, reverse, append-nil, append_assoc, reverse-append, reverse-cons, reverse-reverse}

module _ {A : Type 0} where
  -- xs stands in us
  pub record Stretch (us xs : List A) : Type 0 where
    pub pre : List A
    pub post : List A
    pub is : us ≡ pre ++ (xs ++ post)

module _ {A : Type 0} where
  within_trans : {us xs ys : List A} → Stretch us xs → Stretch xs ys → Stretch us ys
  within_trans {us} {xs} {ys} f g = record { pre = f.pre ++ g.pre; post = g.post ++ f.post; is = f.is ∙ (ap (λ l. f.pre ++ (l ++ f.post)) g.is ∙ simp append_assoc) }

  within_reverse : {us xs : List A} → Stretch us xs → Stretch (reverse us) (reverse xs)
  within_reverse {us} {xs} f = record {
    pre = reverse f.post;
    post = reverse f.pre;
    is = ap reverse f.is ∙ (reverse-append f.pre (xs ++ f.post) ∙ (ap (◌++ reverse f.pre) (reverse-append xs f.post) ∙ append_assoc (reverse f.post) (reverse xs) (reverse f.pre)));
  }

  -- parts of a list of two, or of two columns with a list between
  pub within_left : (xs ys : List A) → Stretch (xs ++ ys) xs
  within_left xs ys = record { pre = []; post = ys; is = refl }

  pub within_right : (xs ys : List A) → Stretch (xs ++ ys) ys
  within_right xs ys = record { pre = xs; post = []; is = ap (xs ++◌) (sym (append-nil ys)) }

  pub within_middle : (xs ys zs : List A) → Stretch (xs ++ (ys ++ zs)) ys
  within_middle xs ys zs = record { pre = xs; post = zs; is = refl }

  -- the last of xs, the first of ys
  pub record Last (xs : List A) (e : A) : Type 0 where
    pub init : List A
    pub is : xs ≡ init ++ (e ∷ [])

  pub record First (ys : List A) (e : A) : Type 0 where
    pub rest : List A
    pub is : ys ≡ e ∷ rest

  pub within_last : {xs : List A} {e : A} (ys : List A) → Last xs e → Stretch (xs ++ ys) (e ∷ ys)
  within_last {xs} {e} ys h = record { pre = h.init; post = []; is = ap (◌++ ys) h.is ∙ (append_assoc h.init (e ∷ []) ys ∙ ap (λ l. h.init ++ (e ∷ l)) (sym (append-nil ys))) }

  pub within_first : {ys : List A} {e : A} (xs : List A) → First ys e → Stretch (xs ++ ys) (xs ++ (e ∷ []))
  within_first {ys} {e} xs h = record { pre = []; post = h.rest; is = ap (xs ++◌) h.is ∙ sym (append_assoc xs (e ∷ []) h.rest) }

module _ {A : Type 0} where
  abbrev pub Segment : List A → List A → Type 0
  Segment us xs = Stretch us xs ⊎ Stretch us (reverse xs)

  pub segment_part : {us xs ys : List A} → Segment us xs → Stretch xs ys → Segment us ys
  segment_part (inl f) g = inl (within_trans f g)
  segment_part (inr f) g = inr (within_trans f (within_reverse g))

  pub segment_turn : {us xs : List A} → Segment us (reverse xs) → Segment us xs
  segment_turn (inl f) = inr f
  segment_turn {us} {xs} (inr f) = inl (subst (Stretch us) (reverse-reverse xs) f)

  -- a list between two elements, turned round
  pub turned : (e f : A) (xs : List A) → reverse (e ∷ (xs ++ (f ∷ []))) ≡ f ∷ (reverse xs ++ (e ∷ []))
  turned e f xs = reverse-cons e (xs ++ (f ∷ [])) ∙ ap (◌++ (e ∷ [])) (reverse-append xs (f ∷ []))

  pub segment_between : {us : List A} (e f : A) (xs : List A) → Segment us (f ∷ (reverse xs ++ (e ∷ []))) → Segment us (e ∷ (xs ++ (f ∷ [])))
  segment_between {us} e f xs g = segment_turn (subst (Segment us) (sym (turned e f xs)) g)

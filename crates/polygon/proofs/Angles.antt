-- The laws of angles that are carried from pairs to pairs: back to the same pairs they are the same, and through other pairs nothing is lost.
use mathlib.Core.Path.{◌≡◌, refl, ap, ap₂, sym, ◌∙◌}
use mathlib.Core.Logic.{inl}
use mathlib.Core.List.{List, [], ◌∷◌, ◌++◌, map}
use Prim.Native.Nat.{ℕ, ◌+◌, ◌<◌}
use native.Mathlib.Omega.{arith}
use lib.ListN.{length, length-map}
use Rattle.lists.specs.Lists.{All, Mem, Sub, all_cons, all_nil, choose, head, sorted_cons, sorted_nil, tail}
use Rattle.lists.proofs.Lists.{all_imp, all_map, all_of, choose_no, choose_yes, map_same, not_empty}
use Rattle.polygon.specs.Angles.{Angle, Angles, none, each, InRange, Allowed}
use Rattle.polygon.specs.Polygon.{Edge}
use Rattle.polygon.specs.Order.{same?, Distinct}
use Rattle.polygon.specs.Carried.{angle_of, carried, angle_from}

module _ (x : Edge) (es : List Edge) (a : Angle) (vs : List Angle) (e : Edge) where
  pub angle_here : x ≡ e → angle_of (x ∷ es) (a ∷ vs) e ≡ a
  unfolding angle_of
  angle_here h = choose_yes (same? x e) _ h

  pub angle_there : ¬ (x ≡ e) → angle_of (x ∷ es) (a ∷ vs) e ≡ angle_of es vs e
  unfolding angle_of
  angle_there h = choose_no (same? x e) _ h

-- a pair that is not listed has the angle 0
pub angle_unlisted : (es : List Edge) (vs : List Angle) (e : Edge) → ¬ Mem e es → angle_of es vs e ≡ 0
unfolding angle_of
angle_unlisted [] vs e f = refl
angle_unlisted (x ∷ es) [] e f = refl
angle_unlisted (x ∷ es) (a ∷ vs) e f = choose_no (same? x e) _ (λ h. f (head (sym h))) ∙ angle_unlisted es vs e (λ m. f (tail m))

-- pairs es with the angles vs, and behind them fs with ws: the angle of e is the one in front if it has 0 behind, and the one behind if it is not listed in front
module _ (fs : List Edge) (ws : List Angle) (e : Edge) where
  pub angle_left : (es : List Edge) (vs : List Angle) → length vs ≡ length es → angle_of fs ws e ≡ 0 → angle_of (es ++ fs) (vs ++ ws) e ≡ angle_of es vs e
  unfolding angle_of
  angle_left [] [] h z = z
  angle_left [] (a ∷ vs) h z = absurd (omega arith)
  angle_left (x ∷ es) [] h z = absurd (omega arith)
  angle_left (x ∷ es) (a ∷ vs) h z = ap (choose (same? x e) a) (angle_left es vs (omega arith) z)

  pub angle_right : (es : List Edge) (vs : List Angle) → length vs ≡ length es → ¬ Mem e es → angle_of (es ++ fs) (vs ++ ws) e ≡ angle_of fs ws e
  unfolding angle_of
  angle_right [] [] h f = refl
  angle_right [] (a ∷ vs) h f = absurd (omega arith)
  angle_right (x ∷ es) [] h f = absurd (omega arith)
  angle_right (x ∷ es) (a ∷ vs) h f = choose_no (same? x e) _ (λ q. f (head (sym q))) ∙ angle_right es vs (omega arith) (λ m. f (tail m))

-- what holds of 0 and of all angles holds of the angle of a pair
pub angle_all : {Q : Angle → Type 0} (es : List Edge) {vs : List Angle} (e : Edge) → Q 0 → All Q vs → Q (angle_of es vs e)
unfolding angle_of choose
angle_all [] e z a = z
angle_all (x ∷ es) e z all_nil = z
angle_all {Q} (x ∷ es) e z (all_cons {x = b} {l = vs} q a) = go (same? x e) (angle_all es e z a)
  where
    go : (d : Dec (x ≡ e)) → Q (angle_of es vs e) → Q (choose d b (angle_of es vs e))
    go (yes h) k = q
    go (no h) k = k

-- angles given to pairs by g
pub angle_given : (g : Edge → Angle) (es : List Edge) (e : Edge) → Mem e es → angle_of es (map g es) e ≡ g e
angle_given g [] e m = absurd (not_empty m)
angle_given g (x ∷ es) e m = go (same? x e) m (angle_given g es e)
  where
    go : Dec (x ≡ e) → Mem e (x ∷ es) → (Mem e es → angle_of es (map g es) e ≡ g e) → angle_of (x ∷ es) (map g (x ∷ es)) e ≡ g e
    go (yes h) k f = angle_here x es (g x) (map g es) e h ∙ ap g h
    go (no h) (head k) f = absurd (h (sym k))
    go (no h) (tail k) f = angle_there x es (g x) (map g es) e h ∙ f k

-- different pairs have each its own
angles_own : {es : List Edge} (vs : List Angle) → Distinct es → length vs ≡ length es → map (angle_of es vs) es ≡ vs
angles_own [] sorted_nil h = refl
angles_own (a ∷ vs) sorted_nil h = absurd (omega arith)
angles_own [] (sorted_cons o s) h = absurd (omega arith)
angles_own (a ∷ vs) (sorted_cons {x} {xs = es} o s) h =
    ap₂ ◌∷◌ (angle_here x es a vs x refl) (map_same (all_imp (λ y k. angle_there x es a vs y (λ q. k (sym q))) o) ∙ angles_own vs s (omega arith))

-- Carried to pairs that are listed somewhere between, and on to some of these.
pub carried_via : (fs es ds : List Edge) (xs : Angles) → Sub ds es → carried es (carried fs xs es) ds ≡ carried fs xs ds
unfolding carried
carried_via fs es ds none f = refl
carried_via fs es ds (each vs) f = ap each (map_same (all_of ds (λ e m. angle_given (angle_of fs vs) es e (f e m))))

-- each pair has the angle that was carried to it, and one that is not listed has 0
pub angle_carried : (es ds : List Edge) (xs : Angles) (e : Edge) → Mem e ds → angle_from ds (carried es xs ds) e ≡ angle_from es xs e
unfolding carried
angle_carried es ds none e m = refl
angle_carried es ds (each vs) e m = angle_given (angle_of es vs) ds e m

pub angle_none : (es : List Edge) (xs : Angles) (e : Edge) → ¬ Mem e es → angle_from es xs e ≡ 0
angle_none es none e f = refl
angle_none es (each vs) e f = angle_unlisted es vs e f

-- there is an angle for each of so many pairs, or none at all
abbrev pub OneEach : ℕ → Angles → Type 0
OneEach k none = Unit {0}
OneEach k (each vs) = length vs ≡ k

-- Carried to the same pairs.
pub carried_self : {es : List Edge} (xs : Angles) → Distinct es → OneEach (length es) xs → carried es xs es ≡ xs
unfolding carried
carried_self none d c = refl
carried_self (each vs) d c = ap each (angles_own vs d c)

-- Under other numbers the same pairs have the same angles.
angle_renamed : (g : Edge → Edge) (es : List Edge) (vs : List Angle) (e : Edge) → ((x : Edge) → Mem x es → g x ≡ g e → x ≡ e) → angle_of (map g es) vs (g e) ≡ angle_of es vs e
unfolding angle_of
angle_renamed g [] vs e f = refl
angle_renamed g (x ∷ es) [] e f = refl
angle_renamed g (x ∷ es) (v ∷ vs) e f = go (same? x e) (angle_renamed g es vs e (λ y m. f y (tail m)))
  where
    go : Dec (x ≡ e) → angle_of (map g es) vs (g e) ≡ angle_of es vs e → choose (same? (g x) (g e)) v (angle_of (map g es) vs (g e)) ≡ choose (same? x e) v (angle_of es vs e)
    go (yes h) k = choose_yes (same? (g x) (g e)) _ (ap g h) ∙ sym (choose_yes (same? x e) _ h)
    go (no h) k = choose_no (same? (g x) (g e)) _ (λ q. h (f x (head refl) q)) ∙ (k ∙ sym (choose_no (same? x e) _ h))

pub angle_moved : (g : Edge → Edge) (es : List Edge) (xs : Angles) (e : Edge) → ((x : Edge) → Mem x es → g x ≡ g e → x ≡ e) → angle_from (map g es) xs (g e) ≡ angle_from es xs e
angle_moved g es none e f = refl
angle_moved g es (each vs) e f = angle_renamed g es vs e f

pub carried_renamed : (g : Edge → Edge) (es ds : List Edge) (xs : Angles) → ((x y : Edge) → Mem x es → Mem y ds → g x ≡ g y → x ≡ y) → carried (map g es) xs (map g ds) ≡ carried es xs ds
unfolding carried
carried_renamed g es ds none f = refl
carried_renamed g es ds (each vs) f = ap each (renamed ds (λ y m. m))
  where
    renamed : (l : List Edge) → Sub l ds → map (angle_of (map g es) vs) (map g l) ≡ map (angle_of es vs) l
    renamed [] s = refl
    renamed (y ∷ l) s = ap₂ ◌∷◌ (angle_renamed g es vs y (λ x m. f x y m (s y (head refl)))) (renamed l (λ z m. s z (tail m)))

-- What is allowed stays so, for the n - 3 diagonals of n corners.
pub carried_allowed : (m n : ℕ) (es ds : List Edge) (xs : Angles) → (3 < m → 3 < n) → length ds + 3 ≡ n → Allowed m xs → Allowed n (carried es xs ds)
unfolding carried
carried_allowed m n es ds none h c A = tt
carried_allowed m n es ds (each vs) h c A =
    (h A.0, omega (arith, length-map ds (angle_of es vs)), all_map _ (all_of ds (λ e k. angle_all {Q = InRange} es e (inl (omega arith)) A.2)))

pub allowed_each : (n : ℕ) (k : ℕ) (xs : Angles) → k + 3 ≡ n → Allowed n xs → OneEach k xs
allowed_each n k none h A = tt
allowed_each n k (each vs) h A = omega arith

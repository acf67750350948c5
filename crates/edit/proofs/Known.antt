-- Known parts: what the rules give, as one list of cases and one proof over it, by computation.
use mathlib.Core.Path.{◌≡◌, refl}
use mathlib.Core.Logic.Dec
use mathlib.Core.List.{List, [], ◌∷◌, map}
use Prim.Native.Nat.{ℕ, ◌-◌}
use native.Mathlib.Decide.{dec_lt, ℕ_discrete}
use Rattle.lists.specs.Lists.{All, all_cons, all_nil, all?, below, choose, either?, keep, mem?, not?, numbers, put}
use Rattle.polygon.specs.Angles.{Angle, none, each}
use Rattle.polygon.specs.Polygon.{Edge, ◌—◌, Polygon}
use Rattle.polygon.specs.Carried.{angle_of, carried}
use Rattle.polygon.specs.Order.{before?, same?, remove, place, insert, lower_first}
use Rattle.sheet.specs.Sheet.{Reading, refused, held, ask}
use Rattle.edit.specs.Rules.{Edit, add_ear, remove_ear, flip, up, down, both, entering, ear_added, neighbours, ear_removed, away?, side?, linked?, joined?, common, enter, flipped, result, rule}

-- a part with these diagonals
abbrev part : ℕ → List Edge → Polygon
part n ds = record { n = n; ds = ds; angles = none }

-- and with these angles
abbrev bent : ℕ → List Edge → List Angle → Polygon
bent n ds vs = record { n = n; ds = ds; angles = each vs }

-- n corners, each diagonal at corner 0
abbrev fan : ℕ → Polygon
fan n = part n (map (λ k. 0 — k) (numbers (n - 3) 2))

-- an edit, the part before it, and what the rule gives
abbrev pub Case : Type 0
Case = Edit × Polygon × Reading

abbrev pub cases : List Case
cases =
    -- "n = 4, (0,2) turned: (1,3); turned again: (0,2)"; and named in the other order
    (flip 0 2, part 4 ((0 — 2) ∷ []), held (part 4 ((1 — 3) ∷ [])))
    ∷ (flip 1 3, part 4 ((1 — 3) ∷ []), held (part 4 ((0 — 2) ∷ [])))
    ∷ (flip 3 1, part 4 ((1 — 3) ∷ []), held (part 4 ((0 — 2) ∷ [])))
    -- a corner added on side 1, and on the root; and taken off again
    ∷ (add_ear 1, part 5 ((0 — 2) ∷ (2 — 4) ∷ []), held (part 6 ((0 — 3) ∷ (1 — 3) ∷ (3 — 5) ∷ [])))
    ∷ (remove_ear 2, part 6 ((0 — 3) ∷ (1 — 3) ∷ (3 — 5) ∷ []), held (part 5 ((0 — 2) ∷ (2 — 4) ∷ [])))
    ∷ (add_ear 4, part 5 ((0 — 2) ∷ (2 — 4) ∷ []), held (part 6 ((0 — 2) ∷ (0 — 4) ∷ (2 — 4) ∷ [])))
    ∷ (remove_ear 5, part 6 ((0 — 2) ∷ (0 — 4) ∷ (2 — 4) ∷ []), held (part 5 ((0 — 2) ∷ (2 — 4) ∷ [])))
    -- corner 0 taken off
    ∷ (remove_ear 0, part 5 ((1 — 3) ∷ (1 — 4) ∷ []), held (part 4 ((0 — 2) ∷ [])))
    -- "Adding at 1,023 works, at 1,024 gives 10"
    ∷ (add_ear 0, fan 1023, held (fan 1024))
    ∷ (add_ear 0, fan 1024, refused 10)
    -- the other refusals, and which comes first
    ∷ (add_ear 1024, fan 1024, refused 9)
    ∷ (remove_ear 3, fan 3, refused 9)
    ∷ (remove_ear 0, fan 3, refused 11)
    ∷ (remove_ear 0, fan 4, refused 12)
    ∷ (remove_ear 2, fan 4, refused 12)
    ∷ (flip 4 2, fan 4, refused 9)
    ∷ (flip 2 4, fan 4, refused 9)
    ∷ (flip 1 3, fan 4, refused 13)
    ∷ (flip 0 1, fan 4, refused 13)
    ∷ (flip 2 2, fan 4, refused 13)
    -- with angles: the new diagonal starts at 0, the others keep theirs, though their places change
    ∷ (add_ear 1, bent 5 ((0 — 2) ∷ (2 — 4) ∷ []) (7 ∷ 65535 ∷ []), held (bent 6 ((0 — 3) ∷ (1 — 3) ∷ (3 — 5) ∷ []) (7 ∷ 0 ∷ 65535 ∷ [])))
    ∷ (remove_ear 2, bent 6 ((0 — 3) ∷ (1 — 3) ∷ (3 — 5) ∷ []) (7 ∷ 5 ∷ 65535 ∷ []), held (bent 5 ((0 — 2) ∷ (2 — 4) ∷ []) (7 ∷ 65535 ∷ [])))
    ∷ (flip 0 2, bent 5 ((0 — 2) ∷ (2 — 4) ∷ []) (7 ∷ 65535 ∷ []), held (bent 5 ((1 — 4) ∷ (2 — 4) ∷ []) (0 ∷ 65535 ∷ [])))
    -- a turned diagonal starts at 0 also when it is turned back
    ∷ (flip 0 2, bent 4 ((0 — 2) ∷ []) (9 ∷ []), held (bent 4 ((1 — 3) ∷ []) (0 ∷ [])))
    ∷ (flip 1 3, bent 4 ((1 — 3) ∷ []) (0 ∷ []), held (bent 4 ((0 — 2) ∷ []) (0 ∷ [])))
    -- a triangle has no angles, and remembers none
    ∷ (remove_ear 1, bent 4 ((0 — 2) ∷ []) (9 ∷ []), held (part 3 []))
    ∷ (add_ear 1, part 3 [], held (part 4 ((1 — 3) ∷ [])))
    ∷ []

-- Each known edit gives what it should.
pub known : All (λ (c : Case). rule c.0 c.1 ≡ c.2) cases
unfolding rule ask Dec.and dec_lt ℕ_discrete choose put keep numbers below not? either? all? mem? before? same? remove place insert lower_first up down both entering ear_added neighbours ear_removed away? side? linked? joined? common enter flipped result carried angle_of
known =
    all_cons refl (all_cons refl (all_cons refl (all_cons refl (all_cons refl (all_cons refl (all_cons refl
    (all_cons refl (all_cons refl (all_cons refl (all_cons refl (all_cons refl (all_cons refl (all_cons refl
    (all_cons refl (all_cons refl (all_cons refl (all_cons refl (all_cons refl (all_cons refl (all_cons refl
    (all_cons refl (all_cons refl (all_cons refl (all_cons refl (all_cons refl (all_cons refl all_nil))))))))))))))))))))))))))

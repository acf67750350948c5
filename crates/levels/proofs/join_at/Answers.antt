-- Read, joined, stored.
use mathlib.Core.Path.{refl, ◌∙◌, ap}
use native.Mathlib.Omega.{arith}
use Rattle.levels.specs.Kept.{with_six}
use Rattle.levels.proofs.Joining.{small, joined, left_zero, right_zero, join_fits, held_places, held_span, left_places, right_places, values_read}
use Rattle.levels.proofs.join_at.Goals as goal

pub right_edge-r-requires : goal.right_edge-r-requires
right_edge-r-requires c = held_places c.requires.2

pub values-cb-requires : goal.values-cb-requires
values-cb-requires c = omega (arith, c.right_edge-r.ensures, held_places c.requires.2)

pub beyond_left-dc-requires : goal.beyond_left-dc-requires
beyond_left-dc-requires c =
    λ h. left_places c.requires.2 (rw c.values-ac.ensures at h)

pub beyond_right-ce-requires : goal.beyond_right-ce-requires
beyond_right-ce-requires c =
    λ h. rw c.right_edge-r.ensures (right_places c.requires.2 (rw (c.values-cb.ensures, c.right_edge-r.ensures) at h))

pub join-requires : goal.join-requires
join-requires c =
    let H = c.requires.2 in
    let J = values_read H refl c.right_edge-r.ensures c.values-ac.ensures c.values-cb.ensures (c.beyond_left-dc.ensures.side, c.beyond_left-dc.ensures.edge) (c.beyond_right-ce.ensures.side, c.beyond_right-ce.ensures.edge) in
    record { fits = join_fits J (held_span H); left = left_zero J; right = right_zero J }

pub store-requires : goal.store-requires
store-requires c =
    let H = c.requires.2 in
    let is = joined (values_read H refl c.right_edge-r.ensures c.values-ac.ensures c.values-cb.ensures (c.beyond_left-dc.ensures.side, c.beyond_left-dc.ensures.edge) (c.beyond_right-ce.ensures.side, c.beyond_right-ce.ensures.edge)) in
    record { place = (held_places H).1; small = rw (c.join.ensures ∙ is) (small _ _ (held_span H)) }

pub returns : goal.returns
returns c =
    let args = c.args in
    λ l r H.
    c.store.ensures
    ∙ ap (with_six args.depths.now args.e)
    (c.join.ensures
    ∙ joined (values_read H refl c.right_edge-r.ensures c.values-ac.ensures c.values-cb.ensures (c.beyond_left-dc.ensures.side, c.beyond_left-dc.ensures.edge) (c.beyond_right-ce.ensures.side, c.beyond_right-ce.ensures.edge)))

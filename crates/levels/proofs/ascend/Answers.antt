use Rattle.std.proofs.Common.{◌≡◌, ℕ, ◌+◌, List, [], ◌∷◌, ◌++◌, length, take, drop, get_or, sym, ◌∙◌, ap, arith, rules, ◌-◌, ◌≤◌, length-drop}
use Rattle.std.proofs.lemmas.List.{take-take, get_or-take, get_or-drop, length_push, length-take-le}
use Rattle.std.proofs.Math.Seq.{take-append_seam, get_or-append_seam}
use Rattle.levels.proofs.Storing.{with_length, grows_self, grows_on}
use Rattle.levels.proofs.Passing.{Turn, turn, turn_grows, turn_rises, back_at_start, rising_from}
use Rattle.polygon.specs.Tree.{Tree}
use Rattle.levels.specs.Kept.{Rising}
use Rattle.levels.proofs.ascend.Goals.{After-from}
use Rattle.levels.proofs.ascend.Goals as goal

-- the last of the places left
record Last (path left left' : List ℕ) (from x : ℕ) : Type 0 where
  one_less : length left ≡ length left' + 1
  still : left' ≡ take (length left') (drop from path)
  is : x ≡ get_or path (from + length left') 0

last : (path left left' : List ℕ) (from x : ℕ) → left ≡ take (length left) (drop from path) → left ≡ left' ++ x ∷ [] → Last path left left' from x
last path left left' from x e q =
    let n : length left ≡ length left' + 1 = ap length q ∙ length_push left' x in
    record {
      one_less = n;
      still = sym (take-append_seam left' (x ∷ [])) ∙ (ap (take (length left')) (sym q ∙ e) ∙ take-take (length left') (length left) (drop from path) (omega arith));
      is =
          sym (get_or-append_seam left' x [] 0)
          ∙ (ap (λ (l : List ℕ). get_or l (length left') 0) (sym q ∙ e) ∙ (get_or-take (length left) (drop from path) (length left') 0 (omega arith) ∙ get_or-drop from path (length left') 0));
    }

pub slice_bounds-iter-count : goal.slice_bounds-iter-count
slice_bounds-iter-count c = rising_from c.requires.way.2

pub offset_bounds-path-from : goal.offset_bounds-path-from
offset_bounds-path-from c = omega (arith, rising_from c.requires.way.2)

pub slice_bounds-iter-start : goal.slice_bounds-iter-start
slice_bounds-iter-start c = let h : c.args.from ≤ c.args.upto = rising_from c.requires.way.2 in search rules

pub loop-e-init : goal.loop-e-init
loop-e-init c =
    let from = c.args.from in
    let upto = c.args.upto in
    let path = c.args.path.now in
    let left = c.into_iter-e-iterator.result.iter.rest.now in
    let is : left ≡ take (upto - from) (drop from path) = cc (c.iter.ensures.rest) in
    let long : length path ≡ 1024 = search rules in
    let behind : from ≤ upto = rising_from c.requires.way.2 in
    let n : length left ≡ upto - from = ap length is ∙ length-take-le (upto - from) (drop from path) (omega (arith, length-drop from path, c.requires.room.0)) in
    let whole : from + length left ≡ upto = omega arith in
    (rw n is, omega arith, c.requires.room.1, grows_self, λ e t R. rw whole R)

-- the place of the path that the loop is at, and the piece whose edge stands there
here : (c : After-from) → Last c.args.path.now c.loop-e.e-iterator.iter.rest.now c.next.new.self.iter.rest.now c.args.from c.from.result
here c = last _ _ _ _ _ c.loop-e.invariant.0 (rw c.from.ensures c.in-Some.ensures.steps)

turned : (c : After-from) (e : ℕ) (t : Tree) → Rising c.args.tree.now c.args.depths.now c.args.path.now c.args.from e t c.args.upto
    → Turn c.args.tree.now c.loop-e.depths c.args.path.now c.args.from e t (c.args.from + length c.next.new.self.iter.rest.now)
turned c e t R = turn _ _ (omega (arith, (here c).one_less)) (omega arith) (c.loop-e.invariant.4 e t R)

pub join_at-requires : goal.join_at-requires
join_at-requires c =
    let at = goal.at.join_at-requires c in
    let T = turned at.After-from c.requires.way.0 c.requires.way.1 c.requires.way.2 in
    rw ((here at.After-from).is, T.at) (T.l, T.r, T.held)

pub loop-e-preserved : goal.loop-e-preserved
loop-e-preserved c =
    let at = (goal.at.loop-e-preserved c).After-from in
    let room = c.loop-e.invariant.2 in
    let L = here at in
    let T = turned at c.requires.way.0 c.requires.way.1 c.requires.way.2 in
    let is = (rw (L.is, T.at) at c.join_at.ensures) T.l T.r T.held in (
      L.still,
      omega (arith, L.one_less),
      ap length is ∙ (with_length c.loop-e.depths _ _ ∙ room),
      grows_on c.loop-e.invariant.3 (turn_grows T room _ is),
      λ e t R. let S = turned at e t R in turn_rises S room _ ((rw (L.is, S.at) at c.join_at.ensures) S.l S.r S.held),
    )

pub returns-clause-deep : goal.returns-clause-deep
returns-clause-deep c = λ e t R. back_at_start _ (omega (arith, c.in-None.ensures.steps.0)) (c.loop-e.invariant.4 e t R)

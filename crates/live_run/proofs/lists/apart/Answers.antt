use Rattle.std.proofs.Common.{◌≡◌, ◌<◌, ◌∷◌, [], ◌++◌, List, length, map, sym}
use Rattle.std.proofs.Common.{ap}
use Rattle.std.proofs.Common.{◌∙◌, append_assoc, append-nil, arith}
use Rattle.std.proofs.lemmas.List.{length-append, map-append}
use Rattle.std.specs.Vec.Iter.{into_iter_items}
use Rattle.live_run.specs.Runs.{log_part, notes_part}
use Rattle.live_run.proofs.Zipped.{none-long}
use Rattle.live_run.proofs.lists.apart.Goals as goal

-- a part that is followed by an item is shorter than the whole
shorter : {X : Type 0} (front rest all : List X) (x : X) → front ++ x ∷ rest ≡ all
    → length front < length all
shorter front rest all x is =
    let long = sym (ap length is) ∙ length-append front (x ∷ rest) in
    omega (arith, long)

-- what is left begins with the item that was yielded
next-along : {X : Type 0} (front rest all items : List X) (x : X) → rest ≡ x ∷ items
    → front ++ rest ≡ all → front ++ x ∷ items ≡ all
next-along front rest all items x steps along = ap (λ l. front ++ l) (sym steps) ∙ along

pub push_reserved-requires : goal.push_reserved-requires
push_reserved-requires c =
    let at = c.loop-one in
    let short = shorter at.yielded _ c.args.noted.items c.in-Some.one
    (next-along at.yielded _ c.args.noted.items _ _ c.in-Some.ensures.steps.0 at.invariant.along) in
    let filled = at.invariant.filled.0 in
    let room = at.invariant.room.0 in
    omega (arith, short, filled, room)

pub push_reserved-requires-in-loop-one : goal.push_reserved-requires-in-loop-one
push_reserved-requires-in-loop-one c =
    let at = c.loop-one in
    let short = shorter at.yielded _ c.args.noted.items c.in-Some.one
    (next-along at.yielded _ c.args.noted.items _ _ c.in-Some.ensures.steps.0 at.invariant.along) in
    let filled = at.invariant.filled.1 in
    let room = at.invariant.room.1 in
    omega (arith, short, filled, room)

pub loop-one-preserved : goal.loop-one-preserved
loop-one-preserved c =
    let at = c.loop-one in
    let v = at.invariant in
    let x = c.in-Some.one in
    let steps : into_iter_items at.one-iterator ≡ x ∷ into_iter_items c.next.new.self =
    c.in-Some.ensures.steps.0 in
    let gone = c.in-Some.ensures.steps.1 in
    let short = ap length steps in
    let long = length-append at.yielded (x ∷ []) in
    record {
      along = append_assoc at.yielded (x ∷ []) _
          ∙ (ap (λ l. at.yielded ++ l) (sym steps) ∙ v.along);
      left = (let was = v.left in omega (arith, was, gone, short));
      room = (
        c.push_reserved.ensures.capacity ∙ v.room.0,
        c.push_reserved-in-loop-one.ensures.capacity ∙ v.room.1,
      );
      filled = (
        (let one = c.push_reserved.ensures.len in let was = v.filled.0 in omega
            (arith, one, was, long)),
        (let one = c.push_reserved-in-loop-one.ensures.len in let was = v.filled.1 in omega
            (arith, one, was, long)),
      );
      logs_are = c.push_reserved.ensures.items
          ∙ (ap (λ l. l ++ x.log ∷ []) v.logs_are ∙ sym (map-append log_part at.yielded (x ∷ [])));
      notes_are = c.push_reserved-in-loop-one.ensures.items ∙ (ap (λ l. l ++ x.notes ∷ [])
          v.notes_are ∙ sym (map-append notes_part at.yielded (x ∷ [])));
    }

pub returns : goal.returns
returns c =
    let at = c.loop-one in
    let empty : into_iter_items at.one-iterator ≡ [] =
    none-long _ (sym at.invariant.left ∙ c.in-None.ensures.steps.0) in
    let all : at.yielded ≡ c.args.noted.items = sym (append-nil at.yielded)
    ∙ (ap (λ l. at.yielded ++ l) (sym empty) ∙ at.invariant.along) in
    record {
      logs = at.invariant.logs_are ∙ ap (map log_part) all;
      notes = at.invariant.notes_are ∙ ap (map notes_part) all;
    }

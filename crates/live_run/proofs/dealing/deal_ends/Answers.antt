use Rattle.std.proofs.Common.{◌+◌, ◌∷◌, [], None, drop, flat_map, take, refl, sym, rules}
use Rattle.std.proofs.lemmas.List.{flat_map_more}
use Rattle.live_run.specs.Ends.{IsFreshBridge, ends_of_plan, sides_of_ends}
use Rattle.live_run.proofs.Dealt.{bridge-at, bridge-same, can-next, can-seat, dealing-next}
use Rattle.live_run.proofs.Dealt.{dealt-both, dealt-one, ends-ready, fresh-side}
use Rattle.live_run.proofs.dealing.deal_ends.Goals as goal

pub seat-left-requires-clause-there : goal.seat-left-requires-clause-there
seat-left-requires-clause-there g c =
    (c.requires.rings c.loop-index.index
    (record { left_net = 0; left = 0; right_net = 0; right = 0 }) c.loop-index-test.true).0

pub seat-left-requires-clause-keeps : goal.seat-left-requires-clause-keeps
seat-left-requires-clause-keeps g c =
    let plans = c.args.plans.now in
    let index = c.loop-index.index in
    let plan = bridge-at plans index in
    can-seat c.args.homes.now c.loop-index.purses plan.left
    (plan.right ∷ flat_map ends_of_plan (drop (index + 1) plans))
    (ends-ready c.args.homes.now c.loop-index.purses plans index c.loop-index-test.true
    c.loop-index.invariant.dealing.ready)

pub seat-right-requires-clause-there : goal.seat-right-requires-clause-there
seat-right-requires-clause-there g c =
    (c.requires.rings c.loop-index.index
    (record { left_net = 0; left = 0; right_net = 0; right = 0 }) c.loop-index-test.true).1

pub seat-right-requires-clause-keeps : goal.seat-right-requires-clause-keeps
seat-right-requires-clause-keeps g c =
    let homes = c.args.homes.now in
    let plans = c.args.plans.now in
    let index = c.loop-index.index in
    let plan = bridge-at plans index in
    let old = c.loop-index.purses in
    let mid = c.seat-left.new.purses in
    let left = c.seat-left.result in
    let rest = flat_map ends_of_plan (drop (index + 1) plans) in
    can-seat homes mid plan.right rest
    (can-next homes old mid plan.left (plan.right ∷ rest) (left.gate, left.number)
    (dealt-one homes old mid plan.left_net plan.left left c.seat-left.ensures)
    (ends-ready homes old plans index c.loop-index-test.true
    c.loop-index.invariant.dealing.ready))

pub loop-index-preserved : goal.loop-index-preserved
loop-index-preserved g c =
    let homes = c.args.homes.now in
    let plans = c.args.plans.now in
    let index = c.loop-index.index in
    let plan = bridge-at plans index in
    let old = c.loop-index.purses in
    let mid = c.seat-left.new.purses in
    let new = c.seat-right.new.purses in
    let left = c.seat-left.result in
    let right = c.seat-right.result in
    let rest = flat_map ends_of_plan (drop (index + 1) plans) in
    let can = ends-ready homes old plans index c.loop-index-test.true
    c.loop-index.invariant.dealing.ready in
    let one = dealt-one homes old mid plan.left_net plan.left left c.seat-left.ensures in
    let next = can-next homes old mid plan.left (plan.right ∷ rest) (left.gate, left.number)
    one can in
    let two = dealt-one homes mid new plan.right_net plan.right right c.seat-right.ensures in
    let made = c.loop-index.room.items in
    record {
      filled = search rules;
      capacity = search rules;
      dealing = dealing-next homes (flat_map ends_of_plan) (flat_map sides_of_ends)
          (IsFreshBridge homes) plans c.args.purses.now old new index made
          c.push_reserved.new.self.items plan
          (record { ring = record { left = left; right = right }; log = None })
          (plan.left ∷ plan.right ∷ []) (left ∷ right ∷ []) c.loop-index-test.true
          (bridge-same plans index c.loop-index-test.true) c.push_reserved.ensures.items
          (sym (flat_map_more ends_of_plan [] (take index plans) plan))
          (sym (flat_map_more sides_of_ends [] made
          (record { ring = record { left = left; right = right }; log = None })))
          (can-next homes mid new plan.right rest (right.gate, right.number) two next)
          (dealt-both homes old mid new (plan.left ∷ []) (plan.right ∷ [])
          ((left.gate, left.number) ∷ []) ((right.gate, right.number) ∷ []) one two)
          (record {
            left = fresh-side homes old mid plan.left_net plan.left (plan.right ∷ rest) left
                c.seat-left.ensures can;
            right = fresh-side homes mid new plan.right_net plan.right rest right
                c.seat-right.ensures next;
            unlogged = refl;
          }) c.loop-index.invariant.dealing;
    }

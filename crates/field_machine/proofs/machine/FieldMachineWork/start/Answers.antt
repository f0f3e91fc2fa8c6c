use Rattle.std.proofs.Common.{◌≡◌, ◌+◌, length, replicate, sym, ap, subst, ◌∙◌, arith}
use Rattle.plant_types.specs.Checks.{sizes_of}
use Rattle.controller_core.specs.Replay.{start}
use Rattle.key_store.specs.Words.{word_count}
use Rattle.field_machine.specs.Keys.{IsKeyOf}
use Rattle.field_machine.proofs.States.{start-key, whole-groups}
use Rattle.field_machine.proofs.machine.FieldMachineWork.start.Goals as goal

pub returns-clause-key : goal.returns-clause-key
returns-clause-key c =
    let plan = c.args.self.now.fixed.plan in
    let counters = c.args.self.now.counters.items in
    let over = c.loop-test.false in
    let under = c.loop.auto.counter-end in
    let all : c.loop.counter ≡ c.key_size-end.result = omega (arith, over, under) in
    let is : c.loop.key.items ≡ replicate (2 + length counters + word_count (sizes_of plan)) 0 =
    c.loop.invariant ∙ ap (λ n. replicate n 0) (all ∙ c.key_size-end.ensures) in
    subst (IsKeyOf plan counters (start plan)) (sym is)
    (start-key plan counters (whole-groups plan c.requires.field_is.runs.plan.passes))

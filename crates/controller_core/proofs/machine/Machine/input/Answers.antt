use Rattle.std.proofs.Common.{◌≡◌, Option, Some, None, ℕ, sym, ap, ◌∙◌}
use Rattle.plant_types.specs.declared.plan.OrderRow.{OrderRow}
use Rattle.scan_order.specs.Due.{row_of, input_of}
use Rattle.controller_core.specs.declared.entry.Entry.TheVariants.{Input}
use Rattle.controller_core.specs.Replay.{read_in}
use Rattle.controller_core.specs.Machine.{state_is}
use Rattle.controller_core.proofs.MachineLemmas.{does_nothing, row_fits}
use Rattle.controller_core.proofs.machine.Machine.input.Goals as goal

pub exchange-requires-clause-there : goal.exchange-requires-clause-there
exchange-requires-clause-there c =
    let plan = c.args.self.now.fixed.plan in
    let is = sym c.row_of.ensures ∙ c.in-Some.is in
    let fits = row_fits plan c.args.row c.in-Some.found c.requires.sound.runs.plan is in
    rw c.in-Some-input.is at fits.input

pub returns-in_default : goal.returns-in_default
returns-in_default c =
    let machine = c.args.self.now in
    let none : row_of machine.fixed.plan c.args.row ≡ None = cc in
    does_nothing machine (Input c.args.row) c.requires.sound
    (ap (λ (r : Option OrderRow). read_in machine.fixed.plan.drops (input_of r)
    (state_is machine)) none)

pub returns-in-None : goal.returns-in-None
returns-in-None c =
    let machine = c.args.self.now in
    let is = sym c.row_of.ensures ∙ c.in-Some.is in
    let none : input_of (row_of machine.fixed.plan c.args.row) ≡ None = ap input_of is
    ∙ c.in-None.is in
    does_nothing machine (Input c.args.row) c.requires.sound
    (ap (λ (d : Option ℕ). read_in machine.fixed.plan.drops d (state_is machine)) none)

pub returns-in-Some-input : goal.returns-in-Some-input
returns-in-Some-input c =
    let machine = c.args.self.now in
    let is = sym c.row_of.ensures ∙ c.in-Some.is in
    let some : input_of (row_of machine.fixed.plan c.args.row) ≡ Some c.in-Some-input.drop =
    ap input_of is ∙ c.in-Some-input.is in
    record {
      fixed = c.exchange.ensures.fixed;
      state = c.exchange.ensures.state
          ∙ sym (ap (λ (d : Option ℕ). read_in machine.fixed.plan.drops d (state_is machine)) some);
      sound = c.exchange.ensures.sound;
      timely = c.exchange.ensures.timely;
    }

use Rattle.std.proofs.Common.{ap, ◌∙◌}
use Rattle.turn_gate.specs.Known.{PassFacts}
use Rattle.controller_core.specs.Controller.{ControllerIs}
use Rattle.controller_core.specs.declared.entry.Entry.{Entry}
use Rattle.joint_history.specs.Reading.{is_ours}
use Rattle.gated_sides.specs.Cells.{controller_in, maker_number}
use Rattle.gated_sides.specs.Sides.{GatedRamIs}
use Rattle.gated_sides.proofs.Stays.{stay-went, none-ours}
use Rattle.gated_sides.proofs.gated_ram.GatedRamRamSide.failures.Goals as goal

pub returns-clause-went : goal.returns-clause-went
returns-clause-went g c =
    let found = c.get_mut-controller.ensures.value ∙ ap controller_in c.value.ensures.value in
    record {
      list = stay-went maker_number is_ours 2 none-ours c.self.inside.pass _ _ _ _ _ _
          c.self.invariant.number_is c.enter-held.ensures.found
          (ap (λ (s : GatedRamIs). s.seen) c.self.view_is)
          (ap (λ (v : ControllerIs). v.history) found) c.failures-answer.ensures.went.list
          (ap (λ (p : PassFacts Entry). p.seen) c.leave.ensures.pass);
      kept = tt;
    }

use Rattle.std.proofs.Common.{◌∙◌, arith}
use Rattle.std.proofs.lemmas.Grind.{common_steps}
use Rattle.controller_core.specs.Event.{scan_steps}
use Rattle.controller_core.proofs.Lengths.{fits_room}
use Rattle.controller_core.proofs.NoteLemmas.{kept_same, noted_same}
use Rattle.controller_core.proofs.controller.Controller.reserve_scan.Goals as goal

pub invariant_of-self-2 : goal.invariant_of-self-2
invariant_of-self-2 c =
    let i = c.self.inside in
    let kept = kept_same i.machine _ c.try_reserve.new.self.items i.at c.try_reserve.ensures.items
    c.self.invariant.kept in
    let fits = fits_room i.machine.fixed (scan_steps c.try_reserve.new.self.items) i.machine.gone
    i.at kept.steps in
    record {
      kept = kept;
      room = λ is. grind (arith, common_steps, fits);
      noted = record {
        are = c.try_reserve-2.ensures.items ∙ (noted_same i.machine.fixed _ _ _
            c.try_reserve.ensures.items c.self.invariant.noted.are);
        room = λ is. grind (arith, common_steps);
      };
    }

use Rattle.std.proofs.Common.{ap, ◌∙◌, refl}
use Rattle.turn_gate.specs.Known.{PassFacts}
use Rattle.controller_core.specs.Controller.{ControllerIs}
use Rattle.controller_core.specs.declared.entry.Entry.{Entry}
use Rattle.joint_history.specs.Reading.{is_ours}
use Rattle.gated_sides.specs.Cells.{controller_in, maker_number}
use Rattle.gated_sides.specs.Sides.{GatedRamIs}
use Rattle.controller_core.specs.declared.entry.Entry.TheVariants.{Collect}
use Rattle.gated_sides.proofs.Stays.{stay-adds, stay-went, all_if, none-ours, found-went}
use Rattle.gated_sides.proofs.Stays.{started-found, fresh-as}
use Rattle.gated_sides.proofs.gated_ram.GatedRamRamSide.collect.Goals as goal

pub leave-requires-clause-added : goal.leave-requires-clause-added
leave-requires-clause-added g c =
    let found = c.get_mut-controller.ensures.value ∙ ap controller_in c.value.ensures.value in
    stay-adds maker_number is_ours c.enter-held.new.pass 2 _ _ _ _
    (ap (λ (p : PassFacts Entry). p.number) c.enter-held.ensures.pass ∙ c.self.invariant.number_is)
    (ap (λ (p : PassFacts Entry). p.seen) c.enter-held.ensures.pass)
    (ap (λ (v : ControllerIs). v.history) found) c.collect-answer.ensures.went.list
    (all_if maker_number 2 c.collect-answer.result (λ calls. Collect calls) (λ _. refl))

pub returns-clause-went : goal.returns-clause-went
returns-clause-went g c =
    let found = c.get_mut-controller.ensures.value ∙ ap controller_in c.value.ensures.value in
    record {
      list = stay-went maker_number is_ours 2 none-ours c.self.inside.pass _ _ _ _ _ _
          c.self.invariant.number_is c.enter-held.ensures.found
          (ap (λ (s : GatedRamIs). s.seen) c.self.view_is)
          (ap (λ (v : ControllerIs). v.history) found) c.collect-answer.ensures.went.list
          (ap (λ (p : PassFacts Entry). p.seen) c.leave.ensures.pass);
      kept = tt;
    }

pub collect-answer-requires : goal.collect-answer-requires
collect-answer-requires g c =
    let found = c.get_mut-controller.ensures.value ∙ ap controller_in c.value.ensures.value in
    let w = found-went maker_number is_ours 2 none-ours c.self.inside.pass c.args.self.now.seen _
    c.get_mut-controller.result.now.history c.self.invariant.number_is
    c.enter-held.ensures.found (ap (λ (s : GatedRamIs). s.seen) c.self.view_is)
    (ap (λ (v : ControllerIs). v.history) found) in
    started-found c.conditions_stay.ensures c.args.self.now.gate.fixed
    c.get_mut-controller.result.now.fixed _ _
    (ap (λ (v : ControllerIs). v.fixed) found
    ∙ (c.enter-held.ensures.fixed ∙ ap (λ (s : GatedRamIs). s.gate.fixed) c.self.view_is))
    w c.requires

pub returns-clause-fresh : goal.returns-clause-fresh
returns-clause-fresh g c =
    let found = c.get_mut-controller.ensures.value ∙ ap controller_in c.value.ensures.value in
    let w = found-went maker_number is_ours 2 none-ours c.self.inside.pass c.args.self.now.seen _
    c.get_mut-controller.result.now.history c.self.invariant.number_is
    c.enter-held.ensures.found (ap (λ (s : GatedRamIs). s.seen) c.self.view_is)
    (ap (λ (v : ControllerIs). v.history) found) in
    fresh-as c.collect-answer.result c.get_mut-controller.result.now.fixed
    c.args.self.now.gate.fixed c.args.self.now.seen
    c.get_mut-controller.result.now.history
    (ap (λ (v : ControllerIs). v.fixed) found
    ∙ (c.enter-held.ensures.fixed ∙ ap (λ (s : GatedRamIs). s.gate.fixed) c.self.view_is))
    w c.collect-answer.ensures.fresh

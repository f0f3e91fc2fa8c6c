use Rattle.std.proofs.Common.{◌≡◌, ℕ, ap, ◌∙◌, refl, List, Option, Some, None}
use Rattle.turn_gate.specs.Known.{PassFacts}
use Rattle.mstr_block.specs.declared.call.CallId.{CallId}
use Rattle.controller_core.specs.Controller.{ControllerIs}
use Rattle.controller_core.specs.declared.entry.Entry.{Entry}
use Rattle.joint_history.specs.Reading.{is_ours}
use Rattle.gated_sides.specs.Cells.{controller_in, maker_number}
use Rattle.gated_sides.specs.Sides.{GatedRamIs}
use Rattle.controller_core.specs.Event.{peer_entry}
use Rattle.gated_sides.proofs.Stays.{stay-adds, stay-went, all_if, none-ours}
use Rattle.gated_sides.proofs.gated_ram.GatedRamRamSide.peer.Goals as goal

-- a request that was taken stands under the communication's number, answered or not
taken-two : (id : CallId) (request : List ℕ) (reply : Option (List ℕ))
    → maker_number (peer_entry id request reply) ≡ 2
taken-two id request (Some reply) = refl
taken-two id request None = refl

pub leave-requires-clause-added : goal.leave-requires-clause-added
leave-requires-clause-added g c =
    let found = c.get_mut-controller.ensures.value ∙ ap controller_in c.value.ensures.value in
    stay-adds maker_number is_ours c.enter-held.new.pass 2 _ _ _ _
    (ap (λ (p : PassFacts Entry). p.number) c.enter-held.ensures.pass ∙ c.self.invariant.number_is)
    (ap (λ (p : PassFacts Entry). p.seen) c.enter-held.ensures.pass)
    (ap (λ (v : ControllerIs). v.history) found) c.peer-answer.ensures.went.list
    (all_if maker_number 2 c.peer-answer.result
    (λ reply. peer_entry c.args.id c.args.request.now reply)
    (taken-two c.args.id c.args.request.now))

pub returns-clause-went : goal.returns-clause-went
returns-clause-went g c =
    let found = c.get_mut-controller.ensures.value ∙ ap controller_in c.value.ensures.value in
    record {
      list = stay-went maker_number is_ours 2 none-ours c.self.inside.pass _ _ _ _ _ _
          c.self.invariant.number_is c.enter-held.ensures.found
          (ap (λ (s : GatedRamIs). s.seen) c.self.view_is)
          (ap (λ (v : ControllerIs). v.history) found) c.peer-answer.ensures.went.list
          (ap (λ (p : PassFacts Entry). p.seen) c.leave.ensures.pass);
      kept = tt;
    }

use Rattle.std.proofs.Common.{◌≡◌, rules, length, ◌++◌, ◌∷◌, [], Some, None, refl, sym, ap}
use Rattle.std.proofs.Common.{subst, ◌∙◌, arith}
use Rattle.std.specs.Prelude.{IsSome, if◌then◌else◌}
use Rattle.std.proofs.lemmas.Grind.{common_steps}
use Rattle.controller_core.specs.declared.fixed.Fixed.{Fixed}
use Rattle.controller_core.specs.declared.entry.Entry.{Entry}
use Rattle.modbus_exec.specs.Answer.{answer_of}
use Rattle.controller_core.specs.Controller.{ControllerIs, IsLegal, store_of}
use Rattle.controller_core.specs.Event.{peer_entry, reply_in, scan_steps}
use Rattle.controller_core.specs.Machine.{state_is, Tells}
use Rattle.controller_core.specs.Replay.{ControllerState}
use Rattle.controller_core.proofs.Keeping.{kept_with, state_as, view_more, went_on_told}
use Rattle.controller_core.proofs.Lengths.{fits_room}
use Rattle.controller_core.proofs.NextEntry.{peer_entry-told, peer_fits}
use Rattle.controller_core.proofs.NoteLemmas.{noted_told}
use Rattle.controller_core.proofs.Powered.{kept_power}
use Rattle.controller_core.proofs.controller.Controller.peer.Goals as goal

pub invariant_of-self-2 : goal.invariant_of-self-2
invariant_of-self-2 c =
    let i = c.self.inside in
    let kept = c.self.invariant.kept in
    let id = c.args.id in
    let request = c.args.request.now in
    let reply = c.in_ok-reply.reply in
    let e = peer_entry id request reply in
    let n = c.take_request.new.self in
    let told = peer_entry-told id request reply in
    let tells = subst (λ (x : Entry). Tells x i.machine n) c.in_ok-reply.ensures.entry
    c.in_ok-reply.ensures.does in
    let fits = peer_fits i.machine.fixed (state_is i.machine) id request reply
    c.in_ok-reply.ensures.reply in
    let first : c.note.new.history.items ≡ i.history.items ++ c.in_ok-reply.entry ∷ [] =
    search rules in
    let h : c.note.new.history.items ≡ i.history.items ++ e ∷ [] =
    first ∙ ap (λ (x : Entry). i.history.items ++ x ∷ []) c.in_ok-reply.ensures.entry in
    let new = kept_with i.machine.fixed i.machine n i.history.items c.note.new.history.items i.at e
    told kept tells fits h in
    record {
      kept = new;
      room = λ is.
          let most = c.in_ok-try_reserve.ensures.ok in
          let room = fits_room n.fixed (scan_steps c.note.new.history.items) n.gone i.at
          new.steps in
          let plan = ap (λ (f : Fixed). length f.plan.orders) tells.fixed in
          grind (arith, common_steps, room, plan, most);
      noted = noted_told i.machine.fixed n.fixed i.history.items c.note.new.history.items e
          i.reserved i.values.items _ told tells.fixed h c.self.invariant.noted;
    }

pub returns-clause-ok : goal.returns-clause-ok
returns-clause-ok c =
    let i = c.self.inside in
    let id = c.args.id in
    let request = c.args.request.now in
    let state = state_as i.machine.fixed i.machine i.history.items i.at i.reserved c.args.self.now
    c.self.view_is c.self.invariant.kept in
    let told = c.in_ok-reply.ensures in
    let first : c.note.new.history.items ≡ i.history.items ++ c.in_ok-reply.entry ∷ [] =
    search rules in
    view_more c.take_request.new.self i.machine.fixed i.history.items c.note.new.history.items
    i.reserved c.in_ok-reply.entry _ c.args.self.now c.self.view_is told.does.fixed first
    (told.entry ∙ ap (peer_entry id request)
    (told.reply ∙ ap (λ (s : ControllerState). reply_in s request) state))

pub returns-clause-reply : goal.returns-clause-reply
returns-clause-reply c =
    let i = c.self.inside in
    let state = state_as i.machine.fixed i.machine i.history.items i.at i.reserved c.args.self.now
    c.self.view_is c.self.invariant.kept in
    c.in_ok-reply.ensures.reply
    ∙ ap (λ (s : ControllerState). reply_in s c.args.request.now) state

pub returns-clause-power : goal.returns-clause-power
returns-clause-power c = λ keeps.
    let i = c.self.inside in
    let v = c.args.self.now in
    let request = c.args.request.now in
    let legal = subst (λ (u : ControllerIs). IsLegal u.fixed u.history) c.self.view_is
    c.self.invariant.kept.legal in
    let on = (kept_power c.kept_power_stays.ensures v.fixed v.history keeps legal).powered in
    let state = state_as i.machine.fixed i.machine i.history.items i.at i.reserved v
    c.self.view_is c.self.invariant.kept in
    let some : c.in_ok-reply.reply ≡ Some (answer_of request (store_of v)).reply =
    c.in_ok-reply.ensures.reply
    ∙ ap (λ (s : ControllerState). reply_in s request) state
    ∙ ap (λ b. if b then Some (answer_of request (store_of v)).reply else None) on in
    subst IsSome (sym some) refl

pub returns-clause-went_on : goal.returns-clause-went_on
returns-clause-went_on c =
    let i = c.self.inside in
    let n = c.take_request.new.self in
    let id = c.args.id in
    let request = c.args.request.now in
    let reply = c.in_ok-reply.reply in
    let e = peer_entry id request reply in
    let told = peer_entry-told id request reply in
    let tells = subst (λ (x : Entry). Tells x i.machine n) c.in_ok-reply.ensures.entry
    c.in_ok-reply.ensures.does in
    let fits = peer_fits i.machine.fixed (state_is i.machine) id request reply
    c.in_ok-reply.ensures.reply in
    let first : c.note.new.history.items ≡ i.history.items ++ c.in_ok-reply.entry ∷ [] =
    search rules in
    let h : c.note.new.history.items ≡ i.history.items ++ e ∷ [] =
    first ∙ ap (λ (x : Entry). i.history.items ++ x ∷ []) c.in_ok-reply.ensures.entry in
    let new = kept_with i.machine.fixed i.machine n i.history.items c.note.new.history.items i.at e
    told c.self.invariant.kept tells fits h in
    went_on_told i.machine.fixed i.machine n i.history.items c.note.new.history.items i.at
    i.reserved e c.args.self.now told c.self.view_is new tells.fixed h

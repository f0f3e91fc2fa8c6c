use Rattle.std.proofs.Common.{◌≡◌, rules, length, ◌++◌, ◌∷◌, [], ap, ◌∙◌, arith}
use Rattle.std.proofs.lemmas.Grind.{common_steps}
use Rattle.controller_core.specs.declared.fixed.Fixed.{Fixed}
use Rattle.controller_core.specs.declared.entry.Entry.TheVariants as entries
use Rattle.mstr_block.specs.Table.{BlockTable, is_taken_out}
use Rattle.controller_core.specs.Event.{scan_steps}
use Rattle.controller_core.proofs.Keeping.{bank_is, finish_told, kept_with, went_on_told}
use Rattle.controller_core.proofs.Lengths.{fits_room}
use Rattle.controller_core.proofs.NoteLemmas.{noted_told}
use Rattle.controller_core.proofs.controller.Controller.finish.Goals as goal

pub finish-requires-clause-out : goal.finish-requires-clause-out
finish-requires-clause-out c =
    let i = c.self.inside in
    let bank = bank_is i.machine.fixed i.machine i.history.items i.at i.reserved c.args.self.now
    c.self.view_is c.self.invariant.kept in
    ap (λ (t : BlockTable). is_taken_out t c.args.id) bank ∙ c.requires

pub invariant_of-self-2 : goal.invariant_of-self-2
invariant_of-self-2 c =
    let i = c.self.inside in
    let kept = c.self.invariant.kept in
    let bank = bank_is i.machine.fixed i.machine i.history.items i.at i.reserved c.args.self.now
    c.self.view_is kept in
    let e = entries.Finish c.args.id c.args.outcome in
    let tells = c.finish.ensures in
    let h : c.note.new.history.items ≡ i.history.items ++ e ∷ [] = search rules in
    let n = c.finish.new.self in
    let new = kept_with i.machine.fixed i.machine n i.history.items c.note.new.history.items i.at e
    (finish_told c.args.id c.args.outcome) kept tells
    (ap (λ (t : BlockTable). is_taken_out t c.args.id) bank ∙ c.requires) h in
    record {
      kept = new;
      room = λ is.
          let most = c.in_ok-try_reserve.ensures.ok in
          let fits = fits_room n.fixed (scan_steps c.note.new.history.items) n.gone i.at
          new.steps in
          let plan = ap (λ (f : Fixed). length f.plan.orders) tells.fixed in
          grind (arith, common_steps, fits, plan, most);
      noted = noted_told i.machine.fixed c.finish.new.self.fixed i.history.items
          c.note.new.history.items e i.reserved i.values.items _
          (finish_told c.args.id c.args.outcome) tells.fixed h c.self.invariant.noted;
    }

pub returns-clause-went_on : goal.returns-clause-went_on
returns-clause-went_on c =
    let i = c.self.inside in
    let kept = c.self.invariant.kept in
    let bank = bank_is i.machine.fixed i.machine i.history.items i.at i.reserved c.args.self.now
    c.self.view_is kept in
    let e = entries.Finish c.args.id c.args.outcome in
    let tells = c.finish.ensures in
    let h : c.note.new.history.items ≡ i.history.items ++ e ∷ [] = search rules in
    let told = finish_told c.args.id c.args.outcome in
    let new = kept_with i.machine.fixed i.machine c.finish.new.self i.history.items
    c.note.new.history.items i.at e told kept tells
    (ap (λ (t : BlockTable). is_taken_out t c.args.id) bank ∙ c.requires) h in
    went_on_told i.machine.fixed i.machine c.finish.new.self i.history.items
    c.note.new.history.items i.at i.reserved e
    c.args.self.now told c.self.view_is new tells.fixed h

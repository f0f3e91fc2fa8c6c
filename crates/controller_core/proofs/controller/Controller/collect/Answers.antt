use Rattle.std.proofs.Common.{◌≡◌, rules, length, ◌++◌, ◌∷◌, [], List, refl, ap, ◌∙◌, arith}
use Rattle.std.proofs.lemmas.Grind.{common_steps}
use Rattle.controller_core.specs.declared.fixed.Fixed.{Fixed}
use Rattle.controller_core.specs.declared.entry.Entry.TheVariants as entries
use Rattle.controller_core.specs.declared.call.Call.{Call}
use Rattle.mstr_block.specs.Table.{has_untaken}
use Rattle.controller_core.specs.Calls.{calls_of}
use Rattle.controller_core.specs.Event.{scan_steps}
use Rattle.controller_core.proofs.Keeping.{bank_is, collect_told, kept_with, view_more}
use Rattle.controller_core.proofs.Keeping.{went_on_told}
use Rattle.controller_core.proofs.Lengths.{fits_room}
use Rattle.controller_core.proofs.NoteLemmas.{noted_told}
use Rattle.controller_core.proofs.controller.Controller.collect.Goals as goal

pub invariant_of-self-2 : goal.invariant_of-self-2
invariant_of-self-2 c =
    let i = c.self.inside in
    let kept = c.self.invariant.kept in
    let bank = bank_is i.machine.fixed i.machine i.history.items i.at i.reserved c.args.self.now
    c.self.view_is kept in
    let calls = calls_of i.machine.bank in
    let tells = c.collect.ensures in
    let copy : c.in_ok-kept.kept ≡ calls = c.in_ok-kept.ensures ∙ c.in_ok-calls.ensures in
    let h : c.note.new.history.items ≡ i.history.items ++ entries.Collect calls ∷ [] =
    c.note.ensures.items
    ∙ ap (λ (l : List Call). c.try_reserve.new.self.items ++ entries.Collect l ∷ []) copy
    ∙ ap (λ l. l ++ entries.Collect calls ∷ []) c.try_reserve.ensures.items in
    let n = c.collect.new.self in
    let new = kept_with i.machine.fixed i.machine n i.history.items c.note.new.history.items i.at
    (entries.Collect calls) (collect_told calls) kept tells
    (ap has_untaken bank ∙ c.requires, refl) h in
    record {
      kept = new;
      room = λ is.
          let most = c.in_ok-try_reserve.ensures.ok in
          let fits = fits_room n.fixed (scan_steps c.note.new.history.items) n.gone i.at
          new.steps in
          let plan = ap (λ (f : Fixed). length f.plan.orders) tells.fixed in
          grind (arith, common_steps, fits, plan, most);
      noted = noted_told i.machine.fixed c.collect.new.self.fixed i.history.items
          c.note.new.history.items (entries.Collect calls) i.reserved i.values.items _
          (collect_told calls) tells.fixed h c.self.invariant.noted;
    }

pub returns-clause-ok : goal.returns-clause-ok
returns-clause-ok c =
    let i = c.self.inside in
    let bank = bank_is i.machine.fixed i.machine i.history.items i.at i.reserved c.args.self.now
    c.self.view_is c.self.invariant.kept in
    let calls = calls_of i.machine.bank in
    let copy : c.in_ok-kept.kept ≡ calls = c.in_ok-kept.ensures ∙ c.in_ok-calls.ensures in
    let h : c.note.new.history.items ≡ i.history.items ++ entries.Collect c.in_ok-kept.kept ∷ [] =
    search rules in
    view_more c.collect.new.self i.machine.fixed i.history.items c.note.new.history.items i.reserved
    (entries.Collect c.in_ok-kept.kept) _
    c.args.self.now c.self.view_is c.collect.ensures.fixed h
    (ap entries.Collect (copy ∙ ap calls_of bank))

pub returns-clause-calls : goal.returns-clause-calls
returns-clause-calls c =
    let i = c.self.inside in
    let bank = bank_is i.machine.fixed i.machine i.history.items i.at i.reserved c.args.self.now
    c.self.view_is c.self.invariant.kept in
    c.in_ok-calls.ensures ∙ ap calls_of bank

pub returns-clause-went_on : goal.returns-clause-went_on
returns-clause-went_on c =
    let i = c.self.inside in
    let kept = c.self.invariant.kept in
    let bank = bank_is i.machine.fixed i.machine i.history.items i.at i.reserved c.args.self.now
    c.self.view_is kept in
    let given = c.in_ok-calls.calls in
    let tells = c.collect.ensures in
    let h : c.note.new.history.items ≡ i.history.items ++ entries.Collect given ∷ [] =
    search rules in
    let told = collect_told given in
    let new = kept_with i.machine.fixed i.machine c.collect.new.self i.history.items
    c.note.new.history.items i.at
    (entries.Collect given) told kept (record {
      fixed = tells.fixed;
      state = tells.state;
      sound = tells.sound;
      timely = tells.timely;
    })
    (ap has_untaken bank ∙ c.requires, c.in_ok-calls.ensures) h in
    went_on_told i.machine.fixed i.machine c.collect.new.self i.history.items
    c.note.new.history.items i.at i.reserved
    (entries.Collect given) c.args.self.now told c.self.view_is new tells.fixed h

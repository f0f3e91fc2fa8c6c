use Rattle.std.proofs.Common.{ℕ, List, Option, sym, ap, subst, ◌∙◌}
use Rattle.controller_core.specs.Controller.{fixed_with}
use Rattle.field_machine.specs.declared.searching.Found.{Found}
use Rattle.field_machine.specs.Asked.{is_so}
use Rattle.field_machine.specs.Never.{told_in_ways, IsFirstSo, IsFoundIn, IsNeverSo}
use Rattle.never_text.specs.Texts.{fails_text}
use Rattle.never_text.proofs.Stopping.{first-goes}
use Rattle.never_text.proofs.answer.never_answer.Goals as goal

pub returns-in_ok-holds_text-in-Holds : goal.returns-in_ok-holds_text-in-Holds
returns-in_ok-holds_text-in-Holds c =
    let fixed = fixed_with c.args.plan.now c.args.scan_time c.args.watchdog 1 in
    let states = c.in-Holds.states in
    let found = subst (λ (found : Found). IsFoundIn fixed c.args.asked c.limit_of-limit.result found)
    c.in-Holds.is c.in_ok-states.ensures in (
      states,
      (
        subst (λ (limit : Option ℕ). IsNeverSo fixed c.args.asked limit states)
            c.limit_of-limit.ensures found,
        c.in_ok-holds_text-in-Holds.ensures,
      ),
    )

pub fails_text-requires-clause-stops : goal.fails_text-requires-clause-stops
fails_text-requires-clause-stops c =
    let plan = c.args.plan.now in
    let fixed = fixed_with plan c.args.scan_time c.args.watchdog 1 in
    let limit = c.limit_of-limit.result in
    let first = subst (λ (found : Found). IsFoundIn fixed c.args.asked limit found)
    c.in-Fails.is c.in_ok-states.ensures in
    first-goes fixed (is_so c.args.asked) limit (told_in_ways plan c.as_slice.result.now)
    (subst (λ (ways : List ℕ). IsFirstSo fixed (is_so c.args.asked) limit (told_in_ways plan ways))
    (sym c.as_slice.ensures.value) first)

pub returns-in_ok-text-in-Fails : goal.returns-in_ok-text-in-Fails
returns-in_ok-text-in-Fails c =
    let plan = c.args.plan.now in
    let fixed = fixed_with plan c.args.scan_time c.args.watchdog 1 in
    let told = told_in_ways plan c.in-Fails.ways.items in
    let first = subst (λ (found : Found). IsFoundIn fixed c.args.asked c.limit_of-limit.result found)
    c.in-Fails.is c.in_ok-states.ensures in (
      told,
      (
        subst (λ (limit : Option ℕ). IsFirstSo fixed (is_so c.args.asked) limit told)
            c.limit_of-limit.ensures first,
        c.in_ok-text-in-Fails.ensures
            ∙ ap (λ (ways : List ℕ). fails_text fixed (told_in_ways plan ways))
            c.as_slice.ensures.value,
      ),
    )

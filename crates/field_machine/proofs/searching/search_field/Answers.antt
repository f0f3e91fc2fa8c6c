use Rattle.std.proofs.Common.{◌≡◌, List, ap, subst, ◌∙◌}
use Rattle.plant_types.specs.declared.reference.Ref.{Ref}
use Rattle.ladder_solver.specs.declared.places.BlockPlace.{BlockPlace}
use Rattle.controller_core.specs.declared.fixed.Fixed.{Fixed}
use Rattle.controller_core.specs.Controller.{fixed_with}
use Rattle.state_space.specs.declared.exploring.Answer.{Answer}
use Rattle.state_space.specs.Answers.{FailsBy, HoldsWith, IsAnswer}
use Rattle.field_machine.specs.declared.asked.Asked.{Asked}
use Rattle.field_machine.specs.declared.field.Field.{Field}
use Rattle.field_machine.specs.Asked.{is_so}
use Rattle.field_machine.specs.Choices.{product}
use Rattle.field_machine.specs.Keys.{state_in}
use Rattle.field_machine.specs.Never.{told_in_ways, IsFirstSo, IsNeverSo}
use Rattle.field_machine.proofs.Fields.{first-found, leads, never-found, starts}
use Rattle.field_machine.proofs.Ways.{ways-tell-all}
use Rattle.field_machine.proofs.searching.search_field.Goals as goal

pub returns-in-Holds : goal.returns-in-Holds
returns-in-Holds c =
    let narrowed = c.in_ok-narrowed.narrowed in
    let field = narrowed.field in
    let is = c.in_ok-narrowed.ensures.narrowed in
    let parts = is.field_is in
    let are = is.apart_are in
    let counters = field.counters.items in
    let limit = c.args.limit in
    let states = c.in-Holds.states in
    let made = c.in_ok-narrowed.ensures.field in
    let fixed : field.fixed ≡ fixed_with c.args.plan.now c.args.scan_time c.args.watchdog 1 =
    ap (λ (f : Field). f.fixed) made ∙ (c.in_ok-field.ensures.fixed ∙ (λ i. record {
      plan = c.in_ok-copied.ensures i;
      scan_time = c.args.scan_time;
      watchdog = c.args.watchdog;
      scans = 1;
    })) in
    let found = subst (λ (answer : Answer).
    IsAnswer (starts field.fixed counters field.moves narrowed.outside.items narrowed.apart.items)
    field.moves (leads field.fixed counters field.moves narrowed.outside.items narrowed.apart.items)
    (λ key. is_so field.asked (state_in field.fixed.plan counters key)) limit answer)
    c.in-Holds.is c.in_ok-states.ensures in
    let outside = are.outside_is in
    let apart = are.apart_is in
    let held = subst (λ (p : List Ref × List BlockPlace).
    HoldsWith (starts field.fixed counters field.moves p.0 p.1)
    field.moves (leads field.fixed counters field.moves p.0 p.1)
    (λ key. is_so field.asked (state_in field.fixed.plan counters key)) limit states)
    (λ i. (outside i, apart i)) found in
    let never = never-found field.fixed counters field.moves are.cone
    c.covers_hold_in_the_field.ensures c.covers_reach_all.ensures c.paths_are_runs.ensures
    parts.alone
    (ways-tell-all field.fixed field.moves (parts.moves_are ∙ ap product parts.choices_are))
    field.asked limit are.is_cone states held in
    subst (λ (f : Fixed). IsNeverSo f c.args.asked limit states) fixed
    (subst (λ (a : Asked). IsNeverSo field.fixed a limit states)
    (ap (λ (f : Field). f.asked) made ∙ c.in_ok-field.ensures.asked) never)

pub returns : goal.returns
returns c =
    let narrowed = c.in_ok-narrowed.narrowed in
    let field = narrowed.field in
    let is = c.in_ok-narrowed.ensures.narrowed in
    let parts = is.field_is in
    let are = is.apart_are in
    let counters = field.counters.items in
    let limit = c.args.limit in
    let path = c.in-Fails.path.items in
    let made = c.in_ok-narrowed.ensures.field in
    let fixed : field.fixed ≡ fixed_with c.args.plan.now c.args.scan_time c.args.watchdog 1 =
    ap (λ (f : Field). f.fixed) made ∙ (c.in_ok-field.ensures.fixed ∙ (λ i. record {
      plan = c.in_ok-copied.ensures i;
      scan_time = c.args.scan_time;
      watchdog = c.args.watchdog;
      scans = 1;
    })) in
    let found = subst (λ (answer : Answer).
    IsAnswer (starts field.fixed counters field.moves narrowed.outside.items narrowed.apart.items)
    field.moves (leads field.fixed counters field.moves narrowed.outside.items narrowed.apart.items)
    (λ key. is_so field.asked (state_in field.fixed.plan counters key)) limit answer)
    c.in-Fails.is c.in_ok-states.ensures in
    let outside = are.outside_is in
    let apart = are.apart_is in
    let failed = subst (λ (p : List Ref × List BlockPlace).
    FailsBy (starts field.fixed counters field.moves p.0 p.1)
    field.moves (leads field.fixed counters field.moves p.0 p.1)
    (λ key. is_so field.asked (state_in field.fixed.plan counters key)) limit path)
    (λ i. (outside i, apart i)) found in
    let first = first-found field.fixed counters field.moves are.cone
    c.covers_hold_in_the_field.ensures c.covers_reach_all.ensures c.paths_are_runs.ensures
    parts.alone
    (ways-tell-all field.fixed field.moves (parts.moves_are ∙ ap product parts.choices_are))
    field.asked limit are.is_cone path failed in
    subst (λ (f : Fixed). IsFirstSo f (is_so c.args.asked) limit (told_in_ways f.plan path)) fixed
    (subst (λ (a : Asked). IsFirstSo field.fixed (is_so a) limit
    (told_in_ways field.fixed.plan path))
    (ap (λ (f : Field). f.asked) made ∙ c.in_ok-field.ensures.asked) first)

use Rattle.std.proofs.Common.{◌≡◌, ℕ, List, Option, sym, ap, ◌∙◌, subst, Vec, Global}
use Rattle.plant_types.specs.declared.drops.IoDrop.{IoDrop}
use Rattle.controller_core.specs.declared.fixed.Fixed.{Fixed}
use Rattle.controller_core.specs.Controller.{fixed_with}
use Rattle.controller_core.specs.Machine.{IsRunnable}
use Rattle.state_space.specs.declared.exploring.Answer.{Answer}
use Rattle.state_space.specs.declared.exploring.Answer.TheVariants.{Fails}
use Rattle.field_machine.specs.Work.{IsWorkOf}
use Rattle.state_space.specs.Answers.{FailsBy, IsAnswer}
use Rattle.traffic_cop.specs.Rows.{IsRunnablePlan}
use Rattle.side_runs.specs.FieldSearch.{IsAlone}
use Rattle.side_runs.specs.Beside.{TakeOneField}
use Rattle.side_runs.specs.Laws.{AreSearchable, with_drops}
use Rattle.field_pair.specs.declared.pair.Pair.{Pair}
use Rattle.field_pair.specs.declared.searching.FoundPair.TheVariants.{Differ}
use Rattle.field_pair.specs.Pair.{are_apart, IsApartBy, MayMove, pair_leads, pair_starts, states_in}
use Rattle.field_pair.specs.Same.{IsFoundOfPair, IsSameFor}
use Rattle.field_pair.proofs.Found.{apart-runs, apart-told, first-apart, may-move, run-to}
use Rattle.field_pair.proofs.Found.{same-found}
use Rattle.field_pair.proofs.searching.search_pair.Goals as goal

-- a controller that is alone can be run with the drops of another that takes the same field
moved-runs : (fixed : Fixed) (drops : List IoDrop) → IsRunnable fixed
    → IsAlone (record fixed.plan { drops = drops }) → IsRunnable (with_drops drops fixed)
moved-runs fixed drops runs alone = record {
  plan = alone.runs;
  scan_time = runs.scan_time;
  watchdog = runs.watchdog;
  scans = runs.scans;
}

pub new-requires-clause-new_runs : goal.new-requires-clause-new_runs
new-requires-clause-new_runs c =
    let alone = c.drops_stay_alone.ensures c.args.new.now c.args.old.now.drops c.requires.new_alone
    c.requires.drops in
    subst (λ (f : Fixed). IsRunnablePlan f.plan) (sym c.in_ok-second.ensures) alone.runs

pub pair_of-requires-clause-old_runs : goal.pair_of-requires-clause-old_runs
pair_of-requires-clause-old_runs c = subst IsRunnable (sym c.in_ok-first.ensures)
    c.requires.old_runs

pub pair_of-requires-clause-new_runs : goal.pair_of-requires-clause-new_runs
pair_of-requires-clause-new_runs c =
    let new = fixed_with c.args.new.now c.args.scan_time c.args.new_watchdog 1 in
    let alone = c.drops_stay_alone.ensures c.args.new.now c.args.old.now.drops c.requires.new_alone
    c.requires.drops in
    subst IsRunnable (sym c.in_ok-second.ensures)
    (moved-runs new c.args.old.now.drops c.requires.new_runs alone)

pub pair_of-requires-clause-old_alone : goal.pair_of-requires-clause-old_alone
pair_of-requires-clause-old_alone c =
    subst (λ (f : Fixed). IsAlone f.plan) (sym c.in_ok-first.ensures) c.requires.old_alone

pub pair_of-requires-clause-new_alone : goal.pair_of-requires-clause-new_alone
pair_of-requires-clause-new_alone c =
    let alone = c.drops_stay_alone.ensures c.args.new.now c.args.old.now.drops c.requires.new_alone
    c.requires.drops in
    subst (λ (f : Fixed). IsAlone f.plan) (sym c.in_ok-second.ensures) alone

-- two controllers as they are searched
searchable : (old new f : Fixed) → f ≡ old → IsAlone old.plan → IsAlone new.plan
    → TakeOneField old.plan.drops new.plan.drops → AreSearchable f new
searchable old new f is old-alone new-alone one = record {
  old_alone = subst (λ (g : Fixed). IsAlone g.plan) (sym is) old-alone;
  new_alone = new-alone;
  one_field = subst (λ (g : Fixed). TakeOneField g.plan.drops new.plan.drops) (sym is) one;
}

pub returns-in-Holds : goal.returns-in-Holds
returns-in-Holds c =
    let old = fixed_with c.args.old.now c.args.scan_time c.args.old_watchdog 1 in
    let new = fixed_with c.args.new.now c.args.scan_time c.args.new_watchdog 1 in
    let pair = c.in_ok-pair.pair in
    let limit = c.args.limit in
    let is-old : pair.old.fixed ≡ old = c.in_ok-pair.ensures.old ∙ c.in_ok-first.ensures in
    let is-new : pair.new.fixed ≡ with_drops pair.old.fixed.plan.drops new =
    c.in_ok-pair.ensures.new
    ∙ (c.in_ok-second.ensures ∙ ap (λ (f : Fixed). with_drops f.plan.drops new) (sym is-old)) in
    let found = subst (λ (answer : Answer). IsAnswer (pair_starts pair) pair.moves (pair_leads pair)
    (λ key. are_apart pair (states_in pair key)) limit answer) c.in-Holds.is
    c.in_ok-states.ensures in
    subst (λ (f : Fixed). IsSameFor f new limit c.in-Holds.states) is-old
    (same-found pair new c.in_ok-pair.ensures.pair is-new c.pair_covers_hold.ensures
    c.pair_paths_are_runs.ensures
    (searchable old new pair.old.fixed is-old c.requires.old_alone c.requires.new_alone
    c.requires.drops) limit c.in-Holds.states found)

pub apart_by-requires-clause-fits : goal.apart_by-requires-clause-fits
apart_by-requires-clause-fits c =
    let pair = c.in_ok-pair.pair in
    record {
      pair_is = c.in_ok-pair.ensures.pair;
      old_work = subst (λ (f : Fixed). IsWorkOf f.plan c.in_ok-again.again.old_work)
          (sym c.in_ok-pair.ensures.old) c.in_ok-again.ensures.old;
      new_work = subst (λ (f : Fixed). IsWorkOf f.plan c.in_ok-again.again.new_work)
          (sym c.in_ok-pair.ensures.new) c.in_ok-again.ensures.new;
    }

-- the moves that were found
fails : (pair : Pair) (limit : Option ℕ) (answer : Answer) (path : Vec ℕ Global)
    → answer ≡ Fails path
    → IsAnswer (pair_starts pair) pair.moves (pair_leads pair)
    (λ key. are_apart pair (states_in pair key)) limit answer
    → FailsBy (pair_starts pair) pair.moves (pair_leads pair)
    (λ key. are_apart pair (states_in pair key)) limit path.items
fails pair limit answer path is found =
    subst (λ (a : Answer). IsAnswer (pair_starts pair) pair.moves (pair_leads pair)
    (λ key. are_apart pair (states_in pair key)) limit a) is found

pub apart_by-requires-clause-moves : goal.apart_by-requires-clause-moves
apart_by-requires-clause-moves c =
    let pair = c.in_ok-pair.pair in
    subst (MayMove pair) (sym c.as_slice.ensures.value)
    (may-move pair (λ key. are_apart pair (states_in pair key)) c.args.limit c.in-Fails.path.items
    (fails pair c.args.limit _ c.in-Fails.path c.in-Fails.is c.in_ok-states.ensures))

pub returns : goal.returns
returns c =
    let old = fixed_with c.args.old.now c.args.scan_time c.args.old_watchdog 1 in
    let new = fixed_with c.args.new.now c.args.scan_time c.args.new_watchdog 1 in
    let pair = c.in_ok-pair.pair in
    let limit = c.args.limit in
    let path = c.in-Fails.path.items in
    let apart = c.in_ok-apart-in-Fails.apart in
    let is-old : pair.old.fixed ≡ old = c.in_ok-pair.ensures.old ∙ c.in_ok-first.ensures in
    let is-new : pair.new.fixed ≡ with_drops pair.old.fixed.plan.drops new =
    c.in_ok-pair.ensures.new
    ∙ (c.in_ok-second.ensures ∙ ap (λ (f : Fixed). with_drops f.plan.drops new) (sym is-old)) in
    let parts = c.in_ok-pair.ensures.pair in
    let can = searchable old new pair.old.fixed is-old c.requires.old_alone c.requires.new_alone
    c.requires.drops in
    let found = fails pair limit _ c.in-Fails.path c.in-Fails.is c.in_ok-states.ensures in
    let told = subst (λ (p : List ℕ). IsApartBy pair p apart) c.as_slice.ensures.value
    c.in_ok-apart-in-Fails.ensures in
    let hold = c.pair_covers_hold.ensures in
    let run = c.pair_paths_are_runs.ensures in
    subst (λ (f : Fixed). IsFoundOfPair f new limit (Differ apart)) is-old (
      apart-runs pair new parts is-new hold run can limit path told.key
          (run-to pair new parts is-new hold run can limit path told.key told.reaches),
      (
        first-apart pair new parts is-new hold run can limit path told.key told.reaches found,
        apart-told pair new parts is-new hold run can limit path apart told,
      ),
    )

pub new-requires-2-clause-old_runs : goal.new-requires-2-clause-old_runs
new-requires-2-clause-old_runs c =
    subst (λ (f : Fixed). IsRunnablePlan f.plan) (sym c.in_ok-first.ensures)
    c.requires.old_runs.plan

pub new-requires-2-clause-new_runs : goal.new-requires-2-clause-new_runs
new-requires-2-clause-new_runs c =
    let alone = c.drops_stay_alone.ensures c.args.new.now c.args.old.now.drops c.requires.new_alone
    c.requires.drops in
    subst (λ (f : Fixed). IsRunnablePlan f.plan) (sym c.in_ok-second.ensures) alone.runs

use Rattle.std.proofs.Common.{◌≡◌, ℕ, List, Option, sym, ap, subst, ◌∙◌}
use Rattle.controller_core.specs.Controller.{fixed_with}
use Rattle.field_pair.specs.declared.searching.FoundPair.{FoundPair}
use Rattle.field_pair.specs.Same.{ApartRuns, IsFirstApart, IsFoundOfPair, IsSameFor}
use Rattle.same_text.proofs.Ends.{found-is}
use Rattle.same_text.proofs.answer.same_answer.Goals as goal

pub returns-in_ok-holds_text-in-Same : goal.returns-in_ok-holds_text-in-Same
returns-in_ok-holds_text-in-Same c =
    let old = fixed_with c.args.old.now c.args.scan_time c.args.old_watchdog 1 in
    let new = fixed_with c.args.new.now c.args.scan_time c.args.new_watchdog 1 in
    let pairs = c.in-Same.pairs in
    let found = subst (λ (found : FoundPair). IsFoundOfPair old new c.limit_of-limit.result found)
    c.in-Same.is c.in_ok-pairs.ensures in (
      pairs,
      (
        subst (λ (limit : Option ℕ). IsSameFor old new limit pairs) c.limit_of-limit.ensures found,
        c.in_ok-holds_text-in-Same.ensures,
      ),
    )

pub returns-in_ok-text-in-Differ : goal.returns-in_ok-text-in-Differ
returns-in_ok-text-in-Differ c =
    let old = fixed_with c.args.old.now c.args.scan_time c.args.old_watchdog 1 in
    let new = fixed_with c.args.new.now c.args.scan_time c.args.new_watchdog 1 in
    let found = subst (λ (found : FoundPair). IsFoundOfPair old new c.limit_of-limit.result found)
    c.in-Differ.is c.in_ok-pairs.ensures in
    let first = subst (λ (limit : Option ℕ). IsFirstApart old new limit found.0)
    c.limit_of-limit.ensures found.1.0 in (
      found.0,
      (
        first,
        c.in_ok-text-in-Differ.ensures
            ∙ found-is c.kept_power_stays.ensures old new c.args.depth found.0 c.in-Differ.apart
            c.requires.old_alone.power c.requires.new_alone.power c.requires.panels first found.1.1,
      ),
    )

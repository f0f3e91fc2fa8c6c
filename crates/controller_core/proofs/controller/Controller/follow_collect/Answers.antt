use Rattle.std.proofs.Common.{◌≡◌, false, true, IsTrue, sym, ◌∙◌, rules}
use Rattle.controller_core.specs.declared.entry.Entry.TheVariants as entries
use Rattle.controller_core.proofs.NextEntry.{collect_may, fits_last, legal_went}
use Rattle.controller_core.proofs.controller.Controller.follow_collect.Goals as goal

pub returns-then-not-has_started-clause-legal : goal.returns-then-not-has_started-clause-legal
returns-then-not-has_started-clause-legal c = (
  λ no. absurd cc,
  λ may.
      let there = (fits_last c.args.self.now (entries.Collect c.args.calls.now) may).0 in
      let both : false ≡ true = sym c.if-not-has_started.true ∙ c.has_started.ensures ∙ there in
      absurd cc,
)

pub returns-clause-legal : goal.returns-clause-legal
returns-clause-legal c =
    let told = c.in_ok-made.ensures in
    let both = c.same_calls.ensures in
    collect_may c.args.self.now c.args.calls.now c.in_ok-made.made told.calls
    (legal_went _ _ c.args.self.now c.collect.new.self told.went_on) c.same_calls.result (
      λ yes. let is : IsTrue c.same_calls.result = search rules in sym c.as_slice.ensures
          ∙ both.0 is ∙ c.as_slice-2.ensures,
      λ same.
          let is = both.1 (c.as_slice.ensures ∙ same ∙ sym c.as_slice-2.ensures) in search rules,
    )

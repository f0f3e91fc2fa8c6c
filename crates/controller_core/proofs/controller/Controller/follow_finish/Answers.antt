use Rattle.std.proofs.Common.{◌≡◌, false, true, sym, ◌∙◌}
use Rattle.controller_core.specs.declared.entry.Entry.TheVariants as entries
use Rattle.controller_core.proofs.NextEntry.{fits_last}
use Rattle.controller_core.proofs.controller.Controller.follow_finish.Goals as goal

pub returns-then-not-is_out-clause-legal : goal.returns-then-not-is_out-clause-legal
returns-then-not-is_out-clause-legal c = (
  λ no. absurd cc,
  λ may.
      let there = fits_last c.args.self.now (entries.Finish c.args.id c.args.outcome.now) may in
      let both : false ≡ true = sym c.if-not-is_out.true ∙ c.is_out.ensures ∙ there in
      absurd cc,
)

use Rattle.std.proofs.Common.{rules}
use Rattle.controller_core.proofs.NextEntry.{due_of, scan_step}
use Rattle.controller_core.proofs.controller.Controller.follow_step_noting.Goals as goal

pub returns-then-not-is_due-clause-legal : goal.returns-then-not-is_due-clause-legal
returns-then-not-is_due-clause-legal c =
    let step = scan_step c.args.entry.now c.requires in (
      λ no. absurd cc,
      λ may. absurd (c.is_due.ensures.other (search rules)
          (due_of c.args.self.now c.args.entry.now step.0 step.1 may)),
    )

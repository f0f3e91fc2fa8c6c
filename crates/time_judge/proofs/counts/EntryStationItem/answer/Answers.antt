use Rattle.std.proofs.Common.{ap, ◌∙◌}
use Rattle.controller_core.specs.declared.entry.Entry.{Entry}
use Rattle.one_order.specs.Merges.{tally}
use Rattle.entry_causes.specs.Causes.{no_notes, noted_next, notings}
use Rattle.time_judge.proofs.Calls.{calls-answer}
use Rattle.time_judge.proofs.counts.EntryStationItem.answer.Goals as goal

pub returns-in-Collect : goal.returns-in-Collect
returns-in-Collect c answers =
    let start = record no_notes { answers = answers } in
    ap (λ (e : Entry). (tally noted_next start (notings e)).answers) c.in-Collect.is
    ∙ calls-answer start c.in-Collect.field-0

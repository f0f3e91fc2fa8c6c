use Rattle.std.proofs.Common.{List, All, subst}
use Rattle.std.proofs.lemmas.List.{take_all}
use Rattle.std.proofs.lemmas.List.Elements.{All-more}
use Rattle.controller_core.specs.declared.entry.Entry.{Entry}
use Rattle.journal_lines.specs.Plain.{IsPlainEntry}
use Rattle.journal_lines.proofs.plain.are_plain_entries.Goals as goal

pub loop-at-preserved : goal.loop-at-preserved
loop-at-preserved c =
    All-more IsPlainEntry c.args.entries.now c.loop-at.at c.index-entries-at.result
    c.loop-at-test.true c.loop-at.invariant
    (subst IsPlainEntry c.index-entries-at.is
    (c.is_plain_entry.ensures.only c.if-not-is_plain_entry.false))

pub returns-clause-only : goal.returns-clause-only
returns-clause-only c =
    λ _. subst (λ (entries : List Entry). All IsPlainEntry entries)
    (take_all _ _ c.loop-at-test.false) c.loop-at.invariant

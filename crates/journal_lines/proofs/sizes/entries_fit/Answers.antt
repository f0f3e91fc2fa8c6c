use Rattle.std.proofs.Common.{List, All, subst}
use Rattle.std.proofs.lemmas.List.{take_all}
use Rattle.std.proofs.lemmas.List.Elements.{All-more}
use Rattle.controller_core.specs.declared.entry.Entry.{Entry}
use Rattle.journal_lines.specs.Sizes.{FitsEntry}
use Rattle.journal_lines.proofs.sizes.entries_fit.Goals as goal

pub loop-at-preserved : goal.loop-at-preserved
loop-at-preserved c =
    All-more FitsEntry c.args.entries.now c.loop-at.at c.index-entries-at.result c.loop-at-test.true
    c.loop-at.invariant
    (subst FitsEntry c.index-entries-at.is c.entry.ensures)

pub returns : goal.returns
returns c = subst (λ (items : List Entry). All FitsEntry items) (take_all _ _ c.loop-at-test.false)
    c.loop-at.invariant

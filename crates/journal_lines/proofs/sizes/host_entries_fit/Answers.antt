use Rattle.std.proofs.Common.{List, All, subst}
use Rattle.std.proofs.lemmas.List.{take_all}
use Rattle.std.proofs.lemmas.List.Elements.{All-more}
use Rattle.host_port.specs.declared.entry.HostEntry.{HostEntry}
use Rattle.journal_lines.specs.Sizes.{FitsHostEntry}
use Rattle.journal_lines.proofs.sizes.host_entries_fit.Goals as goal

pub loop-at-preserved : goal.loop-at-preserved
loop-at-preserved c =
    All-more FitsHostEntry c.args.entries.now c.loop-at.at c.index-entries-at.result
    c.loop-at-test.true c.loop-at.invariant
    (subst FitsHostEntry c.index-entries-at.is c.host_entry.ensures)

pub returns : goal.returns
returns c = subst (λ (items : List HostEntry). All FitsHostEntry items)
    (take_all _ _ c.loop-at-test.false) c.loop-at.invariant

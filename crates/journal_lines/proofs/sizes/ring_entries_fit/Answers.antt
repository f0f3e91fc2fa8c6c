use Rattle.std.proofs.Common.{List, All, subst}
use Rattle.std.proofs.lemmas.List.{take_all}
use Rattle.std.proofs.lemmas.List.Elements.{All-more}
use Rattle.ring_core.specs.declared.entry.RingEntry.{RingEntry}
use Rattle.journal_lines.specs.Sizes.{FitsRingEntry}
use Rattle.journal_lines.proofs.sizes.ring_entries_fit.Goals as goal

pub loop-at-preserved : goal.loop-at-preserved
loop-at-preserved c =
    All-more FitsRingEntry c.args.entries.now c.loop-at.at c.index-entries-at.result
    c.loop-at-test.true c.loop-at.invariant
    (subst FitsRingEntry c.index-entries-at.is c.ring_entry.ensures)

pub returns : goal.returns
returns c = subst (λ (items : List RingEntry). All FitsRingEntry items)
    (take_all _ _ c.loop-at-test.false) c.loop-at.invariant

use Rattle.std.proofs.Common.{List, All, subst}
use Rattle.std.proofs.lemmas.List.{take_all}
use Rattle.std.proofs.lemmas.List.Elements.{All-more}
use Rattle.ring_core.specs.declared.entry.RingEntry.{RingEntry}
use Rattle.journal_lines.specs.Plain.{IsPlainRing}
use Rattle.journal_lines.proofs.plain.are_plain_ring.Goals as goal

pub loop-at-preserved : goal.loop-at-preserved
loop-at-preserved c =
    All-more IsPlainRing c.args.entries.now c.loop-at.at c.index-entries-at.result
    c.loop-at-test.true c.loop-at.invariant
    (subst IsPlainRing c.index-entries-at.is
    (c.is_plain_ring.ensures.only c.if-not-is_plain_ring.false))

pub returns-clause-only : goal.returns-clause-only
returns-clause-only c =
    λ _. subst (λ (entries : List RingEntry). All IsPlainRing entries)
    (take_all _ _ c.loop-at-test.false) c.loop-at.invariant

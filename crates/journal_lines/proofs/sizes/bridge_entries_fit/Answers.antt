use Rattle.std.proofs.Common.{List, All, subst}
use Rattle.std.proofs.lemmas.List.{take_all}
use Rattle.std.proofs.lemmas.List.Elements.{All-more}
use Rattle.bridge_relay.specs.declared.entry.BridgeEntry.{BridgeEntry}
use Rattle.journal_lines.specs.Sizes.{FitsBridgeEntry}
use Rattle.journal_lines.proofs.sizes.bridge_entries_fit.Goals as goal

pub loop-at-preserved : goal.loop-at-preserved
loop-at-preserved c =
    All-more FitsBridgeEntry c.args.entries.now c.loop-at.at c.index-entries-at.result
    c.loop-at-test.true c.loop-at.invariant
    (subst FitsBridgeEntry c.index-entries-at.is c.bridge_entry.ensures)

pub returns : goal.returns
returns c = subst (λ (items : List BridgeEntry). All FitsBridgeEntry items)
    (take_all _ _ c.loop-at-test.false) c.loop-at.invariant

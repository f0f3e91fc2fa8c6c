use Rattle.std.proofs.Common.{List, All, subst}
use Rattle.std.proofs.lemmas.List.{take_all}
use Rattle.std.proofs.lemmas.List.Elements.{All-more}
use Rattle.plant_types.specs.declared.net.HostAsk.{HostAsk}
use Rattle.plant_types.specs.Plans.{IsAskOf}
use Rattle.plant_types.proofs.net.are_asks_of.Goals as goal

pub loop-at-preserved : goal.loop-at-preserved
loop-at-preserved c =
    All-more (IsAskOf c.args.host.now) c.args.asks.now c.loop-at.at c.index-asks-at.result
    c.loop-at-test.true c.loop-at.invariant
    (subst (IsAskOf c.args.host.now) c.index-asks-at.is
    (c.is_ask_of.ensures.only c.if-not-is_ask_of.false))

pub returns-clause-only : goal.returns-clause-only
returns-clause-only c =
    λ _. subst (λ (asks : List HostAsk). All (IsAskOf c.args.host.now) asks)
    (take_all _ _ c.loop-at-test.false) c.loop-at.invariant

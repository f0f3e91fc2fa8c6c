use Rattle.std.proofs.Common.{[], ◌∷◌, ◌<◌, length, map, take, ap, ◌∙◌, arith}
use Rattle.std.specs.List.{filter_map}
use Rattle.std.proofs.lemmas.List.{map-append}
use Rattle.tied_lists.specs.Items.{net_ask}
use Rattle.joint_history.specs.Reading.{called_of}
use Rattle.station_laws.proofs.Lists.{filter_map-push, joined-step, take-push}
use Rattle.station_laws.proofs.asking.add_calls.Goals as goal

pub loop-call-preserved : goal.loop-call-preserved
loop-call-preserved c =
    let low : c.loop-call.call-index < length c.args.calls.now = omega arith in
    joined-step _ _ _ _ _ _ c.in_ok-add_call.ensures c.loop-call.invariant
    (ap (λ l. filter_map net_ask (map called_of l))
    (take-push c.args.calls.now c.loop-call.call-index c.call-item.result low c.call-item.is)
    ∙ (ap (filter_map net_ask) (map-append called_of (take c.loop-call.call-index c.args.calls.now)
    (c.call-item.result ∷ []))
    ∙ filter_map-push net_ask (map called_of (take c.loop-call.call-index c.args.calls.now))
    (called_of c.call-item.result)))

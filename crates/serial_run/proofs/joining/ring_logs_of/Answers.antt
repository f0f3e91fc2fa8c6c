use Rattle.std.proofs.Common.{◌++◌, ◌∷◌, [], map, sym, ap, ◌∙◌, append_assoc, append-nil}
use Rattle.serial_run.specs.Stations.{log_of_ring}
use Rattle.serial_run.proofs.Lists.{none-long}
use Rattle.serial_run.proofs.joining.ring_logs_of.Goals as goal

pub loop-station-init : goal.loop-station-init
loop-station-init c =
    (λ i. c.new-logs.ensures.items i ++ map log_of_ring
    c.into_iter-station-iterator.result.rest.items) ∙ ap (map log_of_ring)
    c.into_iter-station-iterator.ensures.into_iter_gives.0

pub loop-station-preserved : goal.loop-station-preserved
loop-station-preserved c =
    let s = c.in-Some.station in
    let rest = c.next.new.self.rest.items in
    let steps = c.in-Some.ensures.steps in
    (λ i. c.in_ok-push.ensures.items i ++ map log_of_ring rest)
    ∙ (ap (λ h. (c.loop-station.logs.items
    ++ (record { network = s.network; entries = h }) ∷ []) ++ map log_of_ring rest)
    c.into_history.ensures.history
    ∙ (append_assoc c.loop-station.logs.items (log_of_ring s ∷ []) (map log_of_ring rest)
    ∙ (ap (λ l. c.loop-station.logs.items ++ map log_of_ring l) (sym steps.0)
    ∙ c.loop-station.invariant)))

pub returns : goal.returns
returns c =
    let none = none-long c.loop-station.station-iterator.rest.items
    c.loop-station.station-iterator.rest.len c.loop-station.station-iterator.rest.ok.0
    c.in-None.ensures.steps.0 in
    c.from_vec.ensures ∙ (sym (append-nil c.loop-station.logs.items)
    ∙ (ap (λ l. c.loop-station.logs.items ++ map log_of_ring l) (sym none)
    ∙ c.loop-station.invariant))

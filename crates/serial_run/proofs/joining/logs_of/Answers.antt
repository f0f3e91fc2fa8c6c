use Rattle.std.proofs.Common.{◌++◌, ◌∷◌, [], map, sym, ap, ◌∙◌, append_assoc, append-nil}
use Rattle.serial_run.specs.Stations.{log_of, station_notes}
use Rattle.serial_run.proofs.Lists.{none-long}
use Rattle.serial_run.proofs.joining.logs_of.Goals as goal

pub loop-station-init : goal.loop-station-init
loop-station-init c =
    let rest = c.into_iter-station-iterator.result.rest.items in
    let all = c.into_iter-station-iterator.ensures.into_iter_gives.0 in
    record {
      logs = (λ i. c.new-logs.ensures.items i ++ map log_of rest) ∙ ap (map log_of) all;
      notes = (λ i. c.new-notes.ensures.items i ++ map station_notes rest)
          ∙ ap (map station_notes) all;
    }

pub loop-station-preserved : goal.loop-station-preserved
loop-station-preserved c =
    let s = c.in-Some.station in
    let rest = c.next.new.self.rest.items in
    let steps = c.in-Some.ensures.steps in
    let logs = c.loop-station.logs.items in
    let notes = c.loop-station.notes.items in
    record {
      logs = (λ i. c.in_ok-push.ensures.items i ++ map log_of rest)
          ∙ ap (λ h. (logs ++ (record { node = s.node; entries = h }) ∷ []) ++ map log_of rest)
          c.into_parts-entries.ensures.history
          ∙ append_assoc logs (log_of s ∷ []) (map log_of rest)
          ∙ ap (λ l. logs ++ map log_of l) (sym steps.0) ∙ c.loop-station.invariant.logs;
      notes = (λ i. c.in_ok-push-2.ensures.items i ++ map station_notes rest)
          ∙ ap (λ n. (notes ++ n ∷ []) ++ map station_notes rest) c.into_parts-entries.ensures.notes
          ∙ append_assoc notes (station_notes s ∷ []) (map station_notes rest)
          ∙ ap (λ l. notes ++ map station_notes l) (sym steps.0) ∙ c.loop-station.invariant.notes;
    }

pub returns-clause-logs : goal.returns-clause-logs
returns-clause-logs c =
    let rest = c.loop-station.station-iterator.rest in
    let none = none-long rest.items rest.len rest.ok.0 c.in-None.ensures.steps.0 in
    let logs = c.loop-station.logs.items in
    c.from_vec.ensures ∙ sym (append-nil logs)
    ∙ ap (λ l. logs ++ map log_of l) (sym none) ∙ c.loop-station.invariant.logs

pub returns-clause-notes : goal.returns-clause-notes
returns-clause-notes c =
    let rest = c.loop-station.station-iterator.rest in
    let none = none-long rest.items rest.len rest.ok.0 c.in-None.ensures.steps.0 in
    let notes = c.loop-station.notes.items in
    c.from_vec-2.ensures ∙ sym (append-nil notes)
    ∙ ap (λ l. notes ++ map station_notes l) (sym none) ∙ c.loop-station.invariant.notes

use Rattle.std.proofs.Common.{◌++◌, ◌∷◌, [], map, sym, ap, ◌∙◌, append_assoc, append-nil}
use Rattle.serial_run.specs.Stations.{log_of_site}
use Rattle.serial_run.proofs.Lists.{none-long}
use Rattle.serial_run.proofs.joining.bridge_logs_of.Goals as goal

pub loop-site-init : goal.loop-site-init
loop-site-init c =
    (λ i. c.new-logs.ensures.items i ++ map log_of_site
    c.into_iter-site-iterator.result.rest.items) ∙ ap (map log_of_site)
    c.into_iter-site-iterator.ensures.into_iter_gives.0

pub loop-site-preserved : goal.loop-site-preserved
loop-site-preserved c =
    let s = c.in-Some.site in
    let rest = c.next.new.self.rest.items in
    let steps = c.in-Some.ensures.steps in
    let logs = c.loop-site.logs.items in
    (λ i. c.in_ok-push.ensures.items i ++ map log_of_site rest)
    ∙ (ap (λ log. (logs ++ log ∷ []) ++ map log_of_site rest) c.into_log.ensures.log
    ∙ (append_assoc logs (log_of_site s ∷ []) (map log_of_site rest)
    ∙ (ap (λ l. logs ++ map log_of_site l) (sym steps.0) ∙ c.loop-site.invariant)))

pub returns : goal.returns
returns c =
    let none = none-long c.loop-site.site-iterator.rest.items
    c.loop-site.site-iterator.rest.len c.loop-site.site-iterator.rest.ok.0
    c.in-None.ensures.steps.0 in
    c.from_vec.ensures ∙ (sym (append-nil c.loop-site.logs.items)
    ∙ (ap (λ l. c.loop-site.logs.items ++ map log_of_site l) (sym none)
    ∙ c.loop-site.invariant))

use Rattle.std.proofs.Common.{◌≡◌, ◌++◌, map}
use Rattle.serial_run.specs.Stations.{log_of_site}
use Rattle.serial_run.proofs.joining.bridge_logs_of.Given as goal

abbrev pub invariant-loop-site : goal.invariant-loop-site
invariant-loop-site l = l.logs.items ++ map log_of_site l.site-iterator.rest.items ≡ map
    log_of_site l.fn.sites.items

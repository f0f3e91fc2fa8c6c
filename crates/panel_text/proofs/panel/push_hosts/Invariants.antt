use Rattle.std.proofs.Common.{◌≡◌, ◌++◌, drop, string_bytes}
use Rattle.std.specs.List.{AllByRecursion, flat_map}
use Rattle.panel_text.specs.Hosts.{host_lines}
use Rattle.panel_text.specs.Panel.{IsHostLog}
use Rattle.panel_text.proofs.panel.push_hosts.Given as goal

abbrev pub invariant-loop-log : goal.invariant-loop-log
invariant-loop-log l = record {
  text : string_bytes l.text
      ++ flat_map (λ log. host_lines log.node log.entries) (drop l.log-index l.logs)
      ≡ string_bytes l.fn.text ++ flat_map (λ log. host_lines log.node log.entries) l.logs;
  legal : AllByRecursion IsHostLog (drop l.log-index l.logs);
}

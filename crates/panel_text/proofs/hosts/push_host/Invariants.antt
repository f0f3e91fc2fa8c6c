use Rattle.std.proofs.Common.{◌≡◌, ◌≤◌, ◌++◌, drop, string_bytes}
use Rattle.panel_text.specs.Hosts.{host_lines}
use Rattle.panel_text.proofs.HostLemmas.{lines_left}
use Rattle.panel_text.proofs.hosts.push_host.Given as goal

abbrev pub invariant-loop-at : goal.invariant-loop-at
invariant-loop-at l = record {
  within : l.number ≤ l.at;
  text : string_bytes l.text ++ lines_left l.node l.entries l.number (drop l.at l.entries)
      ≡ string_bytes l.fn.text ++ host_lines l.node l.entries;
}

use Rattle.std.proofs.Common.{◌≡◌, drop}
use Rattle.std.specs.List.{find}
use Rattle.ring_core.specs.MstrBlock.{network_paths}
use Rattle.bridge_relay.specs.Machine.{is_free_relay_path}
use Rattle.bridge_relay.proofs.end.End.free_path.Given as goal

abbrev pub invariant-loop-path : goal.invariant-loop-path
invariant-loop-path l = record {
  paths : l.path-items ≡ network_paths;
  rest : find (is_free_relay_path l.self) network_paths
      ≡ find (is_free_relay_path l.self) (drop l.path-index network_paths);
}

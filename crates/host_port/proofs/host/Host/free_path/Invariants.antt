use Rattle.std.proofs.Common.{◌≡◌, drop}
use Rattle.std.specs.List.{find}
use Rattle.ring_core.specs.MstrBlock.{network_paths}
use Rattle.host_port.specs.Calls.{path_is_free}
use Rattle.host_port.proofs.host.Host.free_path.Given as goal

abbrev pub invariant-loop-path : goal.invariant-loop-path
invariant-loop-path l = record {
  paths : l.path-items ≡ network_paths;
  rest : find (path_is_free l.self.history) network_paths
      ≡ find (path_is_free l.self.history) (drop l.path-index network_paths);
}

-- The journal of a joint history, as a text. This project's own.
use Rattle.std.specs.Prelude.{codes, ◌==◌, if◌then◌else◌, ℕ, List, ◌++◌, map}
use Rattle.std.specs.Fmt.{decimal}
use Rattle.std.specs.List.{All, flat_map}
use Rattle.std.specs.List.Sorted.{IsStrictlyIncreasing}
use Rattle.joint_history.specs.declared.joint.ControllerLog.{ControllerLog}
use Rattle.joint_history.specs.declared.joint.HostLog.{HostLog}
use Rattle.joint_history.specs.declared.joint.BridgeLog.{BridgeLog}
use Rattle.joint_history.specs.declared.joint.RingLog.{RingLog}
use Rattle.joint_history.specs.declared.joint.Joint.{Joint}
use Rattle.journal_lines.specs.Lines.{controller_line, host_line, bridge_line, ring_line}
use Rattle.journal_lines.specs.Plain.{IsPlainEntry, IsPlainHostEntry, IsPlainBridgeEntry}
use Rattle.journal_lines.specs.Plain.{IsPlainRing}

-- The section of a station: its letter with its node, and its entries.
abbrev pub controller_section : ControllerLog → List ℕ
controller_section log =
    codes "C " ++ decimal log.node ++ codes "\n" ++ flat_map controller_line log.entries

abbrev pub host_section : HostLog → List ℕ
host_section log = codes "H " ++ decimal log.node ++ codes "\n" ++ flat_map host_line log.entries

-- The section of a bridge: its letter with its two ends, and its entries.
abbrev pub bridge_section : BridgeLog → List ℕ
bridge_section log =
    codes "W " ++ decimal log.left ++ codes " " ++ decimal log.right ++ codes "\n"
    ++ flat_map bridge_line log.entries

-- The section of a ring: its letter with the number of its network, which alone stands for network
-- 0, and its entries.
abbrev pub ring_head : ℕ → List ℕ
ring_head network = if network == 0 then codes "R" else codes "R " ++ decimal network

abbrev pub ring_section : RingLog → List ℕ
ring_section log = ring_head log.network ++ codes "\n" ++ flat_map ring_line log.entries

-- A journal: the sections of the controllers, of the hosts, of the bridges, and of the rings.
abbrev pub journal : Joint → List ℕ
journal joint =
    codes "%JOURNAL\n" ++ flat_map controller_section joint.controllers
    ++ flat_map host_section joint.hosts
    ++ flat_map bridge_section joint.bridges
    ++ flat_map ring_section joint.rings ++ codes "%END\n"

-- A plain joint history: stations in rising node, bridges in rising left address, rings in rising
-- network, and entries of which a journal tells all.
pub record IsPlain (joint : Joint) : Type 0 where
  pub controllers : IsStrictlyIncreasing (map (λ log. log.node) joint.controllers)
  pub hosts : IsStrictlyIncreasing (map (λ log. log.node) joint.hosts)
  pub bridges : IsStrictlyIncreasing (map (λ log. log.left) joint.bridges)
  pub rings : IsStrictlyIncreasing (map (λ log. log.network) joint.rings)
  pub entries : All (λ log. All IsPlainEntry log.entries) joint.controllers
  pub asks : All (λ log. All IsPlainHostEntry log.entries) joint.hosts
  pub forwards : All (λ log. All IsPlainBridgeEntry log.entries) joint.bridges
  pub frames : All (λ log. All IsPlainRing log.entries) joint.rings

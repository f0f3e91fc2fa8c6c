-- A controller's gate after its two workers. This project's own.
use Rattle.std.specs.Prelude.{◌≡◌, Bool, true, List, [], ◌∷◌}
use Rattle.turn_gate.specs.Known.{GateFacts, IsOutside, PassFacts, made_by}
use Rattle.ring_core.specs.declared.entry.RingEntry.{RingEntry}
use Rattle.controller_core.specs.declared.entry.Entry.{Entry}
use Rattle.controller_core.specs.declared.fixed.Fixed.{Fixed}
use Rattle.comm_port.specs.declared.ring_side.RingSide as ring_sides
use Rattle.comm_port.specs.Sides.{RamSideIs, RingSideIs}
use Rattle.comm_port.specs.Worker.{WorkerIs}
use Rattle.gated_sides.specs.Cells.{maker_number}
use Rattle.gated_sides.specs.Sides.{GatedRamIs}
use Rattle.live_workers.specs.Talking.{TalksOn}
use Rattle.live_workers.specs.declared.talking.Stage.{Stage}
use Rattle.live_workers.specs.declared.talking.Stage.TheVariants.{Over, There}

-- What a side over a controller's gate keeps.
abbrev pub ram_side : GateFacts Entry Fixed → RamSideIs (GateFacts Entry Fixed)
ram_side gate = record { fixed = gate.fixed; place = gate }

module _ {R Q : Type 0} (r : ring_sides.Ghosts R Q) where
  -- A controller's worker without a budget stands between two turns, at a side over its gate.
  abbrev pub TalksAt : WorkerIs → GatedRamIs → R → Stage → Type 0
  TalksAt worker ram ring stage =
      TalksOn worker (ram_side ram.gate) ram.seen (r.side ring) (r.known ring) stage

  -- A controller's worker stands before its first turn, at a gate through which nothing came.
  abbrev pub TalksFirst : WorkerIs → GateFacts Entry Fixed → R → Type 0
  TalksFirst worker gate ring =
      TalksOn worker (ram_side gate) gate.name.opening (r.side ring) (r.known ring) There

-- A worker has the node and the sides that it had.
abbrev pub StaysAt : {Q : Type 0} → WorkerIs → WorkerIs → GatedRamIs → GatedRamIs → RingSideIs Q
    → RingSideIs Q → Type 0
StaysAt old new old_ram ram old_side side =
    (ram_side ram.gate ≡ ram_side old_ram.gate) × (new.node ≡ old.node) × (side ≡ old_side)

-- Pass 0 has the passes of both workers back; where they came so far, the communication is over.
pub record IsBack {Q : Type 0} (gate : GateFacts Entry Fixed) (worker : WorkerIs)
    (side : RingSideIs Q) (ring : List RingEntry) (p : PassFacts Entry) (done : Bool)
    : Type 0 where
  pub scanned : PassFacts Entry
  pub talked : List Entry
  pub mine : List Entry
  pub gate_is : p.gate ≡ gate.name
  pub outside : IsOutside p
  pub is_zero : p.number ≡ 0
  pub given_is : p.given ≡ 2 ∷ 1 ∷ []
  pub joined_is : p.joined ≡ (1, scanned.mine) ∷ (2, mine) ∷ []
  pub heard_is : p.heard ≡ scanned.seen ∷ talked ∷ []
  pub talks : done ≡ true → TalksOn worker (ram_side gate) talked side ring Over
  pub owns : gate.name.opening ≡ [] → mine ≡ made_by maker_number 2 talked

-- Steps of a turn of a bridge's end, one after another.
use Rattle.std.proofs.Common.{◌≡◌, ℕ, List, [], filter, refl, ◌∙◌, subst}
use Rattle.ring_core.specs.Legal.{IsLegalRing}
use Rattle.bridge_relay.specs.declared.entry.BridgeEntry.{BridgeEntry}
use Rattle.bridge_relay.specs.Laws.{is_by}
use Rattle.bridge_relay.specs.Legal.{IsBridgeHistory}
use Rattle.tied_lists.specs.Own.{WentOn}
use Rattle.comm_port.specs.declared.ring_side.RingSide as ring_sides
use Rattle.comm_port.specs.RingSteps.{RingStep}
use Rattle.comm_port.proofs.Stands.{grown-none, grown-more, grown-went}
use Rattle.comm_port.proofs.Steps.{ring-rest, ring-then}
use Rattle.bridge_port.specs.declared.bridge_side.BridgeSide as bridge_sides
use Rattle.bridge_port.specs.Sides.{BridgeSideIs, EndAddsNothing}
use Rattle.bridge_port.specs.EndSteps.{BridgeStep, EndStep}

-- ---- at the bridge

module _ {B P : Type 0} (b : bridge_sides.Ghosts B P) where
  -- nothing was done
  pub bridge-rest : (n : ℕ) (bridge : B)
      → IsBridgeHistory (b.bridge bridge).plan (b.known bridge) → BridgeStep b n bridge bridge
  bridge-rest n bridge legal = record {
    same = refl;
    grown = grown-none b.alone (is_by n) (b.known bridge);
    legal = legal;
  }

  -- two steps
  pub bridge-then : (n : ℕ) {one two three : B} → BridgeStep b n one two
      → BridgeStep b n two three → BridgeStep b n one three
  bridge-then n {one} {two} {three} x y = record {
    same = y.same ∙ x.same;
    grown = grown-more b.alone (is_by n) (b.known one) (b.known two) (b.known three) x.grown
        y.grown;
    legal = subst (λ (s : BridgeSideIs P). IsBridgeHistory s.plan (b.known three)) x.same y.legal;
  }

  -- a call, done or refused
  pub bridge-called : (n : ℕ) (added : List BridgeEntry) {old new : B}
      → b.bridge new ≡ b.bridge old → IsBridgeHistory (b.bridge old).plan (b.known new)
      → WentOn b.alone (is_by n) (b.known old) added (b.known new)
      → filter (is_by n) added ≡ added → BridgeStep b n old new
  bridge-called n added {old} {new} same legal went mine = record {
    same = same;
    grown = grown-went b.alone (is_by n) (b.known old) added (b.known new) mine went;
    legal = legal;
  }

  -- a question
  pub bridge-asked : (n : ℕ) {old new : B} → b.bridge new ≡ b.bridge old
      → IsBridgeHistory (b.bridge old).plan (b.known new)
      → EndAddsNothing b.alone b.known n old new → BridgeStep b n old new
  bridge-asked n {old} {new} same legal went = record {
    same = same;
    grown = grown-went b.alone (is_by n) (b.known old) [] (b.known new) refl went;
    legal = legal;
  }

-- ---- at both

module _ {B P R Q : Type 0} (b : bridge_sides.Ghosts B P) (r : ring_sides.Ghosts R Q) where
  pub end-rest : (n : ℕ) (bridge : B) (ring : R)
      → IsBridgeHistory (b.bridge bridge).plan (b.known bridge)
      → IsLegalRing (r.side ring).net (r.known ring) → EndStep b r n bridge bridge ring ring
  end-rest n bridge ring legal legal_ring = record {
    station = bridge-rest b n bridge legal;
    node = ring-rest r n ring legal_ring;
  }

  pub end-then : (n : ℕ) {one two three : B} {x y z : R} → EndStep b r n one two x y
      → EndStep b r n two three y z → EndStep b r n one three x z
  end-then n first second = record {
    station = bridge-then b n first.station second.station;
    node = ring-then r n first.node second.node;
  }

  -- only one of them went on
  pub end-ring : (n : ℕ) (bridge : B) {x y : R}
      → IsBridgeHistory (b.bridge bridge).plan (b.known bridge) → RingStep r n x y
      → EndStep b r n bridge bridge x y
  end-ring n bridge legal s = record { station = bridge-rest b n bridge legal; node = s }

  pub end-bridge : (n : ℕ) {old new : B} (ring : R)
      → IsLegalRing (r.side ring).net (r.known ring) → BridgeStep b n old new
      → EndStep b r n old new ring ring
  end-bridge n ring legal s = record { station = s; node = ring-rest r n ring legal }

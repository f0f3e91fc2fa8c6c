-- What it is to follow the ring's list. This project's own.
use Rattle.std.specs.Prelude.{◌≡◌, Bool, true, false, List}
use Rattle.plant_types.specs.declared.net.NetPlan.{NetPlan}
use Rattle.ring_core.specs.declared.bare.BareRing.{BareRing}
use Rattle.ring_core.specs.declared.entry.RingEntry.{RingEntry}
use Rattle.ring_core.specs.Bare.{BareMade, IsBehind, bare_net}
use Rattle.ring_core.specs.Legal.{IsLegalRing, IsRingStep}

-- After some entries the ring made this one, which is a step.
pub record RingMade (past : List RingEntry) (old : BareRing) (entry : RingEntry) (new : BareRing)
    : Type 0 where
  pub step : IsRingStep (bare_net old) past entry
  pub made : BareMade past entry old new

-- An entry was followed, or it is no step of the ring here.
abbrev pub RingFollowed : List RingEntry → BareRing → RingEntry → BareRing → Bool → Type 0
RingFollowed past old entry new true = RingMade past old entry new
RingFollowed past old entry new false = IsRingStep (bare_net old) past entry → ⊥

-- A ring of this network is the one that these entries lead to, which are legal.
pub record IsRingBehind (net : NetPlan) (entries : List RingEntry) (bare : BareRing) : Type 0 where
  pub net_is : bare_net bare ≡ net
  pub behind : IsBehind entries bare
  pub legal : IsLegalRing net entries

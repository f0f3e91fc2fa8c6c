-- What a side of a bridge says of the list behind it. This project's own.
use Rattle.std.specs.Prelude.{◌≡◌, ℕ, Bool, List, [], ◌++◌, Option, None, MatchOption, Result}
use Rattle.std.specs.Prelude.{MatchResult, option_to_list}
use Rattle.plant_types.specs.declared.net.BridgePlan.{BridgePlan}
use Rattle.ring_core.specs.declared.frame.Frame.{Frame}
use Rattle.bridge_relay.specs.declared.entry.BridgeEntry.{BridgeEntry}
use Rattle.bridge_relay.specs.Bridge.{IsForwarded, IsGivenBack}
use Rattle.bridge_relay.specs.Legal.{due_back, due_forward}
use Rattle.tied_lists.specs.Own.{added_if, WentOn}
use Rattle.bridge_relay.specs.Laws.{is_by}

-- What a side of a bridge keeps: the plan, the one end in whose name it may write, or none where it
-- writes for both, and what names its place.
pub record BridgeSideIs (Place : Type 0) : Type 0 where
  pub plan : BridgePlan
  pub writer : Option ℕ
  pub place : Place

-- A call of an end: entries of the other end came, and then those that it added for its result.
abbrev pub EndAdds : {S T X : Type 0} → Bool → (S → List BridgeEntry) → ℕ → S → S → Result T X
    → (T → List BridgeEntry) → Type 0
EndAdds alone known side old new result added =
    WentOn alone (is_by side) (known old) (added_if result added) (known new)

-- Entries of the other end came, and none of this one.
abbrev pub EndAddsNothing : {S : Type 0} → Bool → (S → List BridgeEntry) → ℕ → S → S → Type 0
EndAddsNothing alone known side old new =
    WentOn alone (is_by side) (known old) [] (known new)

-- Entries of the other end came, and then what was due after them, with this frame; no frame
-- exactly where nothing was due.
pub record MakesDue (alone : Bool) (side : ℕ) (due : List BridgeEntry → Option BridgeEntry)
    (IsItsFrame : List BridgeEntry → Frame → Type 0) (old new : List BridgeEntry)
    (frame : Option Frame) : Type 0 where
  pub past : List BridgeEntry
  pub went : WentOn alone (is_by side) old [] past
  pub after_is : new ≡ past ++ option_to_list (due past)
  pub frame_is : MatchOption frame (due past ≡ None) (IsItsFrame past)

-- A Forward was made where one was due; where memory was refused nothing was.
abbrev pub Forwards : {S X : Type 0} → Bool → (S → List BridgeEntry) → BridgePlan → ℕ → S → S
    → Result (Option Frame) X → Type 0
Forwards alone known plan side old new result = MatchResult result
    (MakesDue alone side (λ past. due_forward plan past side)
    (λ past frame. IsForwarded plan past side frame) (known old) (known new))
    (λ _. EndAddsNothing alone known side old new)

-- A Back was made where one was due; where memory was refused nothing was.
abbrev pub GivesBack : {S X : Type 0} → Bool → (S → List BridgeEntry) → BridgePlan → ℕ → S → S
    → Result (Option Frame) X → Type 0
GivesBack alone known plan side old new result = MatchResult result
    (MakesDue alone side (λ past. due_back plan past side)
    (λ past frame. IsGivenBack plan past side frame) (known old) (known new))
    (λ _. EndAddsNothing alone known side old new)

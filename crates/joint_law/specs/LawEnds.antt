-- What comes of a law at one station, at those of an address, and at all. This project's own.
use Rattle.std.specs.Prelude.{◌≡◌, ℕ, ◌+◌, ◌<◌, List, Option, Some, None}
use Rattle.std.specs.List.{All, Any}
use Rattle.ring_core.specs.Machine.{addresses}
use Rattle.station_laws.specs.Bound.{Bound, BreaksLaw, KeepsLaw, number_of}
use Rattle.station_laws.specs.declared.law.Law.{Law}
use Rattle.joint_law.specs.declared.verdict.Spot.{Spot}
use Rattle.joint_law.specs.declared.verdict.Spot.TheVariants as spots

-- A station keeps a law, if it has this address; or it has it and breaks the law.
abbrev pub IsLogEnd : Law → ℕ → Bound → Option ℕ → Type 0
IsLogEnd law node s None = s.node ≡ node → KeepsLaw law s
IsLogEnd law node s (Some place) = (s.node ≡ node) × BreaksLaw law s (place + 1)

-- All stations with this address keep a law, or one of them breaks it.
abbrev pub IsLogsEnd : Law → ℕ → List Bound → Option ℕ → Type 0
IsLogsEnd law node stations None = All (λ (s : Bound). s.node ≡ node → KeepsLaw law s) stations
IsLogsEnd law node stations (Some place) =
    Any (λ (s : Bound). (s.node ≡ node) × BreaksLaw law s (place + 1)) stations

-- A law is broken at the first address.
pub record IsBreak (law : Law) (stations : List Bound) (spot : Spot) : Type 0 where
  pub node : ℕ
  pub place : ℕ
  pub spot_is : spot ≡ spots.Law (number_of law) node place
  pub earlier : All (λ (s : Bound). s.node < node → KeepsLaw law s) stations
  pub here : Any (λ (s : Bound). (s.node ≡ node) × BreaksLaw law s place) stations

-- All stations keep a law.
abbrev pub AllKeep : Law → List Bound → Type 0
AllKeep law stations = All (λ (s : Bound). s.node < addresses → KeepsLaw law s) stations

-- All stations keep a law, or it is broken at the first address at which it is.
abbrev pub IsNodesEnd : Law → List Bound → Option Spot → Type 0
IsNodesEnd law stations None = AllKeep law stations
IsNodesEnd law stations (Some spot) = IsBreak law stations spot

-- The first law that is broken.
pub record IsFirstBreak (stations : List Bound) (spot : Spot) : Type 0 where
  pub law : Law
  pub laws : (other : Law) → number_of other < number_of law → AllKeep other stations
  pub breaks : IsBreak law stations spot

-- All laws are kept, or one is broken.
abbrev pub IsLawsEnd : List Bound → Option Spot → Type 0
IsLawsEnd stations None = (law : Law) → AllKeep law stations
IsLawsEnd stations (Some spot) = IsFirstBreak stations spot

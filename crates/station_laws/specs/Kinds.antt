-- Kinds and outcomes of calls, as the laws name them. This project's own.
use Rattle.tied_lists.specs.Items.{ABridge, AController, AHost, Came, Kind, Lacked, LocalCall, NetCall}
use Rattle.tied_lists.specs.Items.{Outcome, Replied, Station}
use Rattle.station_laws.specs.declared.ending.EndKind.{EndKind}
use Rattle.station_laws.specs.declared.ending.EndKind.TheVariants as kinds
use Rattle.station_laws.specs.declared.ending.Outcome.{Outcome as End}
use Rattle.station_laws.specs.declared.ending.Outcome.TheVariants as ends
use Rattle.station_laws.specs.declared.ending.Sort.{Sort}
use Rattle.station_laws.specs.declared.ending.Sort.TheVariants.{Bridge, Controller, Host}

-- What a station is.
abbrev pub station_of : Sort → Station
station_of Controller = AController
station_of Host = AHost
station_of Bridge = ABridge

-- The kind of a call that ended.
abbrev pub kind_as : EndKind → Kind
kind_as kinds.Net = NetCall
kind_as (kinds.Home op) = LocalCall op

-- What it ended with.
abbrev pub outcome_as : End → Outcome
outcome_as (ends.Came result) = Came result
outcome_as (ends.Replied pdu) = Replied pdu
outcome_as (ends.Lacked word) = Lacked word

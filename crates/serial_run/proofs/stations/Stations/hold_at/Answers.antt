use Rattle.std.proofs.Common.{sym, ◌∙◌}
use Rattle.serial_run.proofs.TurnsMade.{on-ok}
use Rattle.serial_run.proofs.TurnCases.{controller-turn, end-turn-here, host-turn-here, nobody-here}
use Rattle.serial_run.proofs.stations.Stations.hold_at.Goals as goal

pub hold_controller-requires-clause-stands : goal.hold_controller-requires-clause-stands
hold_controller-requires-clause-stands c =
    (controller-turn c.somebody_holds.ensures c.requires.stand.plant c.requires.stand.scans
    c.args.self.now
    c.requires.stand.all c.args.network c.args.place c.holder-holder.result c.index.result.now
    c.index_mut-in-Some.result.now c.requires.place c.index.ensures
    c.index_mut-in-Some.ensures.value
    c.holder-holder.ensures c.in-Some.at c.index_mut.result.now
    (sym c.controller_at.ensures ∙ c.in-Some.is) c.index_mut.ensures.value).stands

pub hold_controller-requires-clause-token : goal.hold_controller-requires-clause-token
hold_controller-requires-clause-token c =
    (controller-turn c.somebody_holds.ensures c.requires.stand.plant c.requires.stand.scans
    c.args.self.now
    c.requires.stand.all c.args.network c.args.place c.holder-holder.result c.index.result.now
    c.index_mut-in-Some.result.now c.requires.place c.index.ensures
    c.index_mut-in-Some.ensures.value
    c.holder-holder.ensures c.in-Some.at c.index_mut.result.now
    (sym c.controller_at.ensures ∙ c.in-Some.is) c.index_mut.ensures.value).token

pub hold_controller-requires-clause-no_bridge : goal.hold_controller-requires-clause-no_bridge
hold_controller-requires-clause-no_bridge c =
    (controller-turn c.somebody_holds.ensures c.requires.stand.plant c.requires.stand.scans
    c.args.self.now
    c.requires.stand.all c.args.network c.args.place c.holder-holder.result c.index.result.now
    c.index_mut-in-Some.result.now c.requires.place c.index.ensures
    c.index_mut-in-Some.ensures.value
    c.holder-holder.ensures c.in-Some.at c.index_mut.result.now
    (sym c.controller_at.ensures ∙ c.in-Some.is) c.index_mut.ensures.value).no_bridge

pub hold_controller-requires-clause-keeps : goal.hold_controller-requires-clause-keeps
hold_controller-requires-clause-keeps c =
    (controller-turn c.somebody_holds.ensures c.requires.stand.plant c.requires.stand.scans
    c.args.self.now
    c.requires.stand.all c.args.network c.args.place c.holder-holder.result c.index.result.now
    c.index_mut-in-Some.result.now c.requires.place c.index.ensures
    c.index_mut-in-Some.ensures.value
    c.holder-holder.ensures c.in-Some.at c.index_mut.result.now
    (sym c.controller_at.ensures ∙ c.in-Some.is) c.index_mut.ensures.value).keeps

pub hold_controller-requires-clause-here : goal.hold_controller-requires-clause-here
hold_controller-requires-clause-here c =
    (controller-turn c.somebody_holds.ensures c.requires.stand.plant c.requires.stand.scans
    c.args.self.now
    c.requires.stand.all c.args.network c.args.place c.holder-holder.result c.index.result.now
    c.index_mut-in-Some.result.now c.requires.place c.index.ensures
    c.index_mut-in-Some.ensures.value
    c.holder-holder.ensures c.in-Some.at c.index_mut.result.now
    (sym c.controller_at.ensures ∙ c.in-Some.is) c.index_mut.ensures.value).here

pub hold_host-requires-clause-stands : goal.hold_host-requires-clause-stands
hold_host-requires-clause-stands c =
    (host-turn-here c.somebody_holds.ensures c.requires.stand.plant c.requires.stand.scans
    c.args.self.now
    c.requires.stand.all c.args.network c.args.place c.holder-holder.result c.index.result.now
    c.index_mut-in-Some-host_at-2.result.now c.requires.place c.index.ensures
    c.index_mut-in-Some-host_at-2.ensures.value c.holder-holder.ensures c.in-Some-host_at.at
    c.index_mut-in-Some-host_at.result.now (sym c.controller_at.ensures ∙ c.in_default.is)
    (sym c.host_at.ensures ∙ c.in-Some-host_at.is) c.index_mut-in-Some-host_at.ensures.value).stands

pub hold_host-requires-clause-token : goal.hold_host-requires-clause-token
hold_host-requires-clause-token c =
    (host-turn-here c.somebody_holds.ensures c.requires.stand.plant c.requires.stand.scans
    c.args.self.now
    c.requires.stand.all c.args.network c.args.place c.holder-holder.result c.index.result.now
    c.index_mut-in-Some-host_at-2.result.now c.requires.place c.index.ensures
    c.index_mut-in-Some-host_at-2.ensures.value c.holder-holder.ensures c.in-Some-host_at.at
    c.index_mut-in-Some-host_at.result.now (sym c.controller_at.ensures ∙ c.in_default.is)
    (sym c.host_at.ensures ∙ c.in-Some-host_at.is) c.index_mut-in-Some-host_at.ensures.value).token

pub hold_host-requires-clause-no_bridge : goal.hold_host-requires-clause-no_bridge
hold_host-requires-clause-no_bridge c =
    (host-turn-here c.somebody_holds.ensures c.requires.stand.plant c.requires.stand.scans
    c.args.self.now
    c.requires.stand.all c.args.network c.args.place c.holder-holder.result c.index.result.now
    c.index_mut-in-Some-host_at-2.result.now c.requires.place c.index.ensures
    c.index_mut-in-Some-host_at-2.ensures.value c.holder-holder.ensures c.in-Some-host_at.at
    c.index_mut-in-Some-host_at.result.now (sym c.controller_at.ensures ∙ c.in_default.is)
    (sym c.host_at.ensures ∙ c.in-Some-host_at.is)
    c.index_mut-in-Some-host_at.ensures.value).no_bridge

pub hold_host-requires-clause-keeps : goal.hold_host-requires-clause-keeps
hold_host-requires-clause-keeps c =
    (host-turn-here c.somebody_holds.ensures c.requires.stand.plant c.requires.stand.scans
    c.args.self.now
    c.requires.stand.all c.args.network c.args.place c.holder-holder.result c.index.result.now
    c.index_mut-in-Some-host_at-2.result.now c.requires.place c.index.ensures
    c.index_mut-in-Some-host_at-2.ensures.value c.holder-holder.ensures c.in-Some-host_at.at
    c.index_mut-in-Some-host_at.result.now (sym c.controller_at.ensures ∙ c.in_default.is)
    (sym c.host_at.ensures ∙ c.in-Some-host_at.is) c.index_mut-in-Some-host_at.ensures.value).keeps

pub hold_host-requires-clause-here : goal.hold_host-requires-clause-here
hold_host-requires-clause-here c =
    (host-turn-here c.somebody_holds.ensures c.requires.stand.plant c.requires.stand.scans
    c.args.self.now
    c.requires.stand.all c.args.network c.args.place c.holder-holder.result c.index.result.now
    c.index_mut-in-Some-host_at-2.result.now c.requires.place c.index.ensures
    c.index_mut-in-Some-host_at-2.ensures.value c.holder-holder.ensures c.in-Some-host_at.at
    c.index_mut-in-Some-host_at.result.now (sym c.controller_at.ensures ∙ c.in_default.is)
    (sym c.host_at.ensures ∙ c.in-Some-host_at.is) c.index_mut-in-Some-host_at.ensures.value).here

pub hold-requires-clause-stands : goal.hold-requires-clause-stands
hold-requires-clause-stands c =
    (end-turn-here c.somebody_holds.ensures c.requires.stand.plant c.requires.stand.scans
    c.args.self.now
    c.requires.stand.all c.args.network c.args.place c.holder-holder.result c.index.result.now
    c.index_mut-in-Some-bridge_at-2.result.now c.requires.place c.index.ensures
    c.index_mut-in-Some-bridge_at-2.ensures.value c.holder-holder.ensures c.in-Some-bridge_at.at
    c.index_mut-in-Some-bridge_at.result.now (sym c.controller_at.ensures ∙ c.in_default.is) (sym
    c.host_at.ensures ∙ c.in_default-host_at.is)
    (sym c.bridge_at.ensures ∙ c.in-Some-bridge_at.is)
    c.index_mut-in-Some-bridge_at.ensures.value).stands

pub hold-requires-clause-here : goal.hold-requires-clause-here
hold-requires-clause-here c =
    (end-turn-here c.somebody_holds.ensures c.requires.stand.plant c.requires.stand.scans
    c.args.self.now
    c.requires.stand.all c.args.network c.args.place c.holder-holder.result c.index.result.now
    c.index_mut-in-Some-bridge_at-2.result.now c.requires.place c.index.ensures
    c.index_mut-in-Some-bridge_at-2.ensures.value c.holder-holder.ensures c.in-Some-bridge_at.at
    c.index_mut-in-Some-bridge_at.result.now (sym c.controller_at.ensures ∙ c.in_default.is) (sym
    c.host_at.ensures ∙ c.in_default-host_at.is)
    (sym c.bridge_at.ensures ∙ c.in-Some-bridge_at.is)
    c.index_mut-in-Some-bridge_at.ensures.value).here

pub hold-requires-clause-token : goal.hold-requires-clause-token
hold-requires-clause-token c =
    (end-turn-here c.somebody_holds.ensures c.requires.stand.plant c.requires.stand.scans
    c.args.self.now
    c.requires.stand.all c.args.network c.args.place c.holder-holder.result c.index.result.now
    c.index_mut-in-Some-bridge_at-2.result.now c.requires.place c.index.ensures
    c.index_mut-in-Some-bridge_at-2.ensures.value c.holder-holder.ensures c.in-Some-bridge_at.at
    c.index_mut-in-Some-bridge_at.result.now (sym c.controller_at.ensures ∙ c.in_default.is) (sym
    c.host_at.ensures ∙ c.in_default-host_at.is)
    (sym c.bridge_at.ensures ∙ c.in-Some-bridge_at.is)
    c.index_mut-in-Some-bridge_at.ensures.value).token

pub returns-in-Some : goal.returns-in-Some
returns-in-Some c =
    on-ok c.hold_controller.result
    ((controller-turn c.somebody_holds.ensures c.requires.stand.plant c.requires.stand.scans
    c.args.self.now
    c.requires.stand.all c.args.network c.args.place c.holder-holder.result c.index.result.now
    c.index_mut-in-Some.result.now c.requires.place c.index.ensures
    c.index_mut-in-Some.ensures.value
    c.holder-holder.ensures c.in-Some.at c.index_mut.result.now
    (sym c.controller_at.ensures ∙ c.in-Some.is) c.index_mut.ensures.value).held
    c.hold_controller.new.station c.hold_controller.new.ring)
    c.hold_controller.ensures

pub returns-in-Some-host_at : goal.returns-in-Some-host_at
returns-in-Some-host_at c =
    on-ok c.hold_host.result
    ((host-turn-here c.somebody_holds.ensures c.requires.stand.plant c.requires.stand.scans
    c.args.self.now
    c.requires.stand.all c.args.network c.args.place c.holder-holder.result c.index.result.now
    c.index_mut-in-Some-host_at-2.result.now c.requires.place c.index.ensures
    c.index_mut-in-Some-host_at-2.ensures.value c.holder-holder.ensures c.in-Some-host_at.at
    c.index_mut-in-Some-host_at.result.now (sym c.controller_at.ensures ∙ c.in_default.is)
    (sym c.host_at.ensures ∙ c.in-Some-host_at.is) c.index_mut-in-Some-host_at.ensures.value).held
    c.hold_host.new.station c.hold_host.new.ring)
    c.hold_host.ensures

pub returns-in-Some-bridge_at : goal.returns-in-Some-bridge_at
returns-in-Some-bridge_at c =
    on-ok c.hold.result
    (λ made. (end-turn-here c.somebody_holds.ensures c.requires.stand.plant c.requires.stand.scans
    c.args.self.now
    c.requires.stand.all c.args.network c.args.place c.holder-holder.result c.index.result.now
    c.index_mut-in-Some-bridge_at-2.result.now c.requires.place c.index.ensures
    c.index_mut-in-Some-bridge_at-2.ensures.value c.holder-holder.ensures c.in-Some-bridge_at.at
    c.index_mut-in-Some-bridge_at.result.now (sym c.controller_at.ensures ∙ c.in_default.is) (sym
    c.host_at.ensures ∙ c.in_default-host_at.is)
    (sym c.bridge_at.ensures ∙ c.in-Some-bridge_at.is)
    c.index_mut-in-Some-bridge_at.ensures.value).held c.hold.new.self c.hold.new.ring made
    c.hold.ensures.moved)
    c.hold.ensures.held

pub returns : goal.returns
returns c =
    nobody-here c.somebody_holds.ensures c.requires.stand.plant c.requires.stand.scans
    c.args.self.now
    c.requires.stand.all c.args.network c.args.place c.holder-holder.result c.index.result.now
    c.index.result.now c.requires.place c.index.ensures c.index.ensures c.holder-holder.ensures
    (sym c.controller_at.ensures ∙ c.in_default.is) (sym c.host_at.ensures ∙
    c.in_default-host_at.is) (sym c.bridge_at.ensures ∙ c.in_default-bridge_at.is)

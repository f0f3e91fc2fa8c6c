use Rattle.std.proofs.Common.{◌+◌, List, take, sym, subst}
use Rattle.std.specs.List.{AllByRecursion}
use Rattle.plant_types.specs.declared.network.Network.{Network}
use Rattle.plant_types.specs.declared.network.Segment.{Segment}
use Rattle.plant_types.specs.Discretes.{Refs}
use Rattle.cone_of.specs.Cone.{HasNetwork, HasSegments}
use Rattle.cone_of.specs.Growing.{GrowsBy, HasNetworks}
use Rattle.cone_of.proofs.Forced.{grows-on, more-hold, first-hold, last-holds}
use Rattle.cone_of.proofs.cone.Cone.grow_segments.Goals as goal

-- a set has what the networks of a segment force
abbrev HasOne : Refs → Segment → Type 0
HasOne set segment = AllByRecursion (HasNetwork set) segment.networks

pub loop-segment-preserved : goal.loop-segment-preserved
loop-segment-preserved c =
    let segments = c.args.segments.now in
    let i = c.loop-segment.segment-index in
    let one = c.segment-item.result in
    let is = c.segment-item.is in
    let below = c.loop-segment-test.true in
    grows-on (λ set. HasSegments set (take i segments)) (λ set. HasOne set one)
    (λ set. HasSegments set (take (i + 1) segments)) c.loop-segment.grew c.in_ok-more.more
    c.args.self.now c.loop-segment.self c.grow_networks.new.self
    (λ set first has. more-hold (HasOne set) segments i one below first
    (subst (HasOne set) is has))
    (λ set both. first-hold (HasOne set) segments i both)
    (λ set both. subst (HasOne set) (sym is)
    (last-holds (HasOne set) segments i one below both))
    c.loop-segment.invariant
    (subst (λ (networks : List Network). GrowsBy (HasNetworks networks) c.in_ok-more.more
    c.loop-segment.self c.grow_networks.new.self) c.as_slice.ensures c.in_ok-more.ensures)

use Rattle.std.proofs.Common.{◌∙◌, sym}
use Rattle.plant_types.specs.Standing.{cells_of_segments, cells_of_networks, is_claimed}
use Rattle.plant_types.proofs.StandingLemmas.{claimed_in_networks, claimed_in_segments}
use Rattle.plant_types.proofs.StandingLemmas.{claimed-append, or_true, or_false}
use Rattle.plant_types.proofs.standing.Claim.is_before.Goals as goal

pub returns-then-is_in_segments : goal.returns-then-is_in_segments
returns-then-is_in_segments c =
    let claim = c.args.self in
    let segments = cells_of_segments c.args.segments.now in
    let networks = cells_of_networks c.args.networks.now in
    let here = sym (claimed_in_segments claim c.args.segments.now) ∙ sym c.is_in_segments.ensures
    ∙ c.if-is_in_segments.true in
    c.if-is_in_segments.true ∙ or_true (is_claimed segments claim) (is_claimed networks claim) here
    ∙ sym (claimed-append claim segments networks)

pub returns-else-is_in_segments : goal.returns-else-is_in_segments
returns-else-is_in_segments c =
    let claim = c.args.self in
    let segments = cells_of_segments c.args.segments.now in
    let networks = cells_of_networks c.args.networks.now in
    let here = sym (claimed_in_segments claim c.args.segments.now) ∙ sym c.is_in_segments.ensures
    ∙ c.if-is_in_segments.false in
    c.is_in_networks.ensures ∙ claimed_in_networks claim c.args.networks.now
    ∙ or_false (is_claimed segments claim) (is_claimed networks claim) here
    ∙ sym (claimed-append claim segments networks)

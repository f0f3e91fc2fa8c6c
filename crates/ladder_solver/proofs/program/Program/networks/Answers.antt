use Rattle.std.proofs.Common.{◌-◌, ◌<◌, [], length, get_or, ap, ◌∙◌, arith}
use Rattle.std.proofs.lemmas.List.{get_or_default}
use Rattle.ladder_solver.specs.Program.{spots_at}
use Rattle.ladder_solver.proofs.LadderLemmas.{length-spots_of}
use Rattle.ladder_solver.proofs.program.Program.networks.Goals as goal

pub offset_bounds-as_slice-segment : goal.offset_bounds-as_slice-segment
offset_bounds-as_slice-segment c =
    let many = ap length (c.as_slice.ensures ∙ c.self.invariant.networks)
    ∙ length-spots_of c.self.inside.grids ∙ ap length c.self.view_is in
    omega (arith, many, c.requires.first, c.requires.last, c.as_slice.type_inv.1)

pub bounds-as_slice-segment : goal.bounds-as_slice-segment
bounds-as_slice-segment c =
    let many = ap length (c.as_slice.ensures ∙ c.self.invariant.networks)
    ∙ length-spots_of c.self.inside.grids ∙ ap length c.self.view_is in
    omega (arith, many, c.requires.first, c.requires.last)

pub returns : goal.returns
returns c =
    let many = ap length (c.as_slice.ensures ∙ c.self.invariant.networks)
    ∙ length-spots_of c.self.inside.grids ∙ ap length c.self.view_is in
    let within : c.args.segment - 1 < length c.as_slice.result.now =
    omega (arith, many, c.requires.first, c.requires.last) in
    c.as_slice-2.ensures ∙ c.index-as_slice-segment.is
    ∙ get_or_default c.as_slice.result.now
    (c.args.segment - 1) c.index-as_slice-segment.result [] within
    ∙ ap (λ networks. get_or networks (c.args.segment - 1) [])
    (c.as_slice.ensures ∙ c.self.invariant.networks)
    ∙ ap (λ grids. spots_at grids c.args.segment) c.self.view_is

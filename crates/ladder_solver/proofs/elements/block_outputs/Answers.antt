use Rattle.std.proofs.Common.{ap, refl, ◌∙◌, length}
use Rattle.plant_types.specs.Power.{nodes_of}
use Rattle.mstr_block.specs.Solve.{block_solved}
use Rattle.mstr_block.specs.Table.{BlockTable}
use Rattle.ladder_solver.specs.Element.{counting_effect}
use Rattle.ladder_solver.specs.Flow.{solved_element}
use Rattle.ladder_solver.proofs.ElementLemmas.{gives_counter, gives_mstr}
use Rattle.ladder_solver.proofs.elements.block_outputs.Goals as goal

pub returns-in-Counter-clause-leaves : goal.returns-in-Counter-clause-leaves
returns-in-Counter-clause-leaves g c setting past numbered =
    gives_counter setting c.args.placed.element c.args.placed.place c.args.inputs past
    c.args.scan.now _ _ _
    (λ inputs edge m. counting_effect c.in-Counter.up c.in-Counter.preset c.in-Counter.acc edge
    inputs m) _ _ _ _ _
    (λ s. ap (λ e. solved_element setting e c.args.placed.place c.args.inputs s) c.in-Counter.is)
    c.bits-bits.ensures.again c.is_on-edge.ensures c.solve_counter-outputs.ensures.does.outputs
    c.of_bits.ensures
    c.solve_counter-outputs.ensures.does.stored c.solve_counter-outputs.ensures.edge c.set.ensures

pub returns-in-Mstr-clause-scan : goal.returns-in-Mstr-clause-scan
returns-in-Mstr-clause-scan g c = record {
  clock = refl;
  counts = refl;
  bank =
      ap (λ (t : BlockTable). length t.blocks) c.solve.ensures.table
      ∙ (c.solves_keep_calls.ensures c.args.scan.now.bank c.args.placed.block
      (record { control = c.in-Mstr.control; area = c.in-Mstr.area; room = c.in-Mstr.length })
      (nodes_of c.bits-bits.result)
      (g.R.RefStore.contents c.args.ram.now)).count;
}

pub returns-in-Mstr-clause-leaves : goal.returns-in-Mstr-clause-leaves
returns-in-Mstr-clause-leaves g c setting past numbered =
    gives_mstr setting c.args.placed.element c.args.placed.place c.args.inputs past
    c.args.scan.now _ _ _
    (λ block table inputs m. block_solved table block
    (record { control = c.in-Mstr.control; area = c.in-Mstr.area; room = c.in-Mstr.length })
    inputs m) c.args.placed.block _ _ _
    (λ s. ap (λ e. solved_element setting e c.args.placed.place c.args.inputs s)
    c.in-Mstr.is) numbered
    c.bits-bits.ensures.again c.solve.ensures.outputs c.of_bits-in-Mstr.ensures
    c.solve.ensures.stored c.solve.ensures.table

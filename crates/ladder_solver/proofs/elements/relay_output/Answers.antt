use Rattle.ladder_solver.proofs.ElementLemmas.{gives_coil, gives_wire}
use Rattle.ladder_solver.proofs.elements.relay_output.Goals as goal

pub returns-in-Wire-clause-leaves : goal.returns-in-Wire-clause-leaves
returns-in-Wire-clause-leaves g c = gives_wire c.args.element c.args.power _ _ c.in-Wire.is

pub returns-in-Coil-clause-leaves : goal.returns-in-Coil-clause-leaves
returns-in-Coil-clause-leaves g c =
    gives_coil c.in-Coil.at c.args.element c.args.power _ _ _ c.in-Coil.is c.coil.ensures.stored

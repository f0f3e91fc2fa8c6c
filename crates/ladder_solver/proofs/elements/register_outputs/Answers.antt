use Rattle.std.proofs.Common.{ap}
use Rattle.ladder_solver.specs.Element.{timing_effect, math_effect, move_effect, matrix_effect}
use Rattle.ladder_solver.specs.Flow.{solved_element}
use Rattle.ladder_solver.proofs.ElementLemmas.{gives_block}
use Rattle.ladder_solver.proofs.elements.register_outputs.Goals as goal

pub returns-in-Timer-clause-leaves : goal.returns-in-Timer-clause-leaves
returns-in-Timer-clause-leaves g c setting place past scan timed =
    gives_block setting c.args.element place c.args.inputs past scan _ _ _
    (λ inputs clock m. timing_effect c.in-Timer.unit c.in-Timer.preset c.in-Timer.acc clock inputs
    m) c.args.clock _ _
    (λ s. ap (λ e. solved_element setting e place c.args.inputs s) c.in-Timer.is) timed
    c.bits-bits.ensures.again c.solve_timer.ensures.outputs c.of_bits.ensures
    c.solve_timer.ensures.stored

pub returns-in-Math-clause-leaves : goal.returns-in-Math-clause-leaves
returns-in-Math-clause-leaves g c setting place past scan timed =
    gives_block setting c.args.element place c.args.inputs past scan _ _ _
    (λ inputs clock m. math_effect c.in-Math.op c.in-Math.top c.in-Math.mid c.in-Math.low inputs m)
    c.args.clock _ _
    (λ s. ap (λ e. solved_element setting e place c.args.inputs s) c.in-Math.is) timed
    c.bits-bits.ensures.again c.solve_math.ensures.outputs c.of_bits-in-Math.ensures
    c.solve_math.ensures.stored

pub returns-in-Move-clause-leaves : goal.returns-in-Move-clause-leaves
returns-in-Move-clause-leaves g c setting place past scan timed =
    gives_block setting c.args.element place c.args.inputs past scan _ _ _
    (λ inputs clock m. move_effect c.in-Move.op c.in-Move.top c.in-Move.mid c.in-Move.length inputs
    m) c.args.clock _ _
    (λ s. ap (λ e. solved_element setting e place c.args.inputs s) c.in-Move.is) timed
    c.bits-bits.ensures.again c.solve_move.ensures.outputs c.of_bits-in-Move.ensures
    c.solve_move.ensures.stored

pub returns-in-Matrix-clause-leaves : goal.returns-in-Matrix-clause-leaves
returns-in-Matrix-clause-leaves g c setting place past scan timed =
    gives_block setting c.args.element place c.args.inputs past scan _ _ _
    (λ inputs clock m. matrix_effect c.in-Matrix.op c.in-Matrix.top c.in-Matrix.mid
    c.in-Matrix.length inputs m) c.args.clock _ _
    (λ s. ap (λ e. solved_element setting e place c.args.inputs s) c.in-Matrix.is) timed
    c.bits-bits.ensures.again c.solve_matrix.ensures.outputs c.of_bits-in-Matrix.ensures
    c.solve_matrix.ensures.stored

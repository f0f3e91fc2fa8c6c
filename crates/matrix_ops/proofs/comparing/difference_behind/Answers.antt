use Rattle.std.proofs.Common.{Bool, get_or, false, sym, ap, ◌∙◌, arith}
use Rattle.matrix_ops.specs.Bits.{matrix_bits}
use Rattle.matrix_ops.specs.Matrices.{is_apart}
use Rattle.matrix_ops.proofs.MatrixLemmas.{apart_test, difference-here, difference-later}
use Rattle.matrix_ops.proofs.MatrixLemmas.{difference-nowhere}
use Rattle.matrix_ops.proofs.comparing.difference_behind.Goals as goal

pub returns-then-matrix_bit-clause-found : goal.returns-then-matrix_bit-clause-found
returns-then-matrix_bit-clause-found c =
    let others = get_or (matrix_bits c.args.others.now) c.loop-place.place false in
    let tested =
    ap (λ (b : Bool). is_apart (b, others)) (sym c.matrix_bit.ensures)
    ∙ ap (λ (b : Bool). is_apart (c.matrix_bit.result, b)) (sym c.matrix_bit-in-loop-place.ensures)
    ∙ sym (apart_test c.matrix_bit.result c.matrix_bit-in-loop-place.result)
    ∙ c.if-matrix_bit.true in
    sym (difference-here c.args.words.now c.args.others.now c.loop-place.place c.requires.same
    (omega arith) tested) ∙ c.loop-place.invariant

pub loop-place-preserved : goal.loop-place-preserved
loop-place-preserved c =
    let others = get_or (matrix_bits c.args.others.now) c.loop-place.place false in
    let tested =
    ap (λ (b : Bool). is_apart (b, others)) (sym c.matrix_bit.ensures)
    ∙ ap (λ (b : Bool). is_apart (c.matrix_bit.result, b)) (sym c.matrix_bit-in-loop-place.ensures)
    ∙ sym (apart_test c.matrix_bit.result c.matrix_bit-in-loop-place.result)
    ∙ c.if-matrix_bit.false in
    difference-later c.args.words.now c.args.others.now c.loop-place.place c.requires.same
    (omega arith) tested ∙ c.loop-place.invariant

pub returns-clause-found : goal.returns-clause-found
returns-clause-found c =
    sym (difference-nowhere c.args.words.now c.args.others.now c.loop-place.place c.requires.same
    (omega arith)) ∙ c.loop-place.invariant

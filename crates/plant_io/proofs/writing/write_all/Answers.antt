use Rattle.std.proofs.Common.{arith, length-drop}
use Rattle.std.proofs.lemmas.List.{take_rest}
use Rattle.plant_io.proofs.Transfers.{Took-front}
use Rattle.plant_io.proofs.writing.write_all.Goals as goal

pub loop-done-preserved : goal.loop-done-preserved
loop-done-preserved g c =
    let text = c.args.text.now in
    let wrote = rw take_rest at c.in_ok-done.ensures.took in
    record {
      took = Took-front _ _ _ text c.loop-done.done c.in_ok-done.field-0
          c.loop-done.invariant.took wrote;
      within = omega (arith, c.in_ok-done.ensures.within, length-drop c.loop-done.done text);
      later = omega (arith, c.loop-done.invariant.later, c.in_ok-done.ensures.cause.later);
      unused = λ none. absurd (omega (arith, c.in_ok-done.ensures.some));
    }

use Rattle.std.proofs.Common.{arith}
use Rattle.station_laws.proofs.Founded.{breaks-here, founded-next, last-next}
use Rattle.station_laws.proofs.failing.first_unfounded.Goals.{then-number-before-via-then-number-before}
use Rattle.station_laws.proofs.failing.first_unfounded.Goals.{then-number-before-via-else-number-before+then-number-fails}
use Rattle.station_laws.proofs.failing.first_unfounded.Goals as goal

pub returns-then-number-before : goal.returns-then-number-before
returns-then-number-before c =
    breaks-here c.args.fails c.args.downs.now c.loop-place.place c.loop-place-test.true
    c.loop-place.invariant.founded
    (λ above within.
    let before = c.loop-place.invariant.before_is in
    elim c.then-number-before.branch [
      | then-number-before-via-then-number-before w ↦
          let low = w.if-number-before.true in omega (arith, above, before, low)
      | then-number-before-via-else-number-before+then-number-fails w ↦
          let high = w.if-number-fails.true in omega (arith, within, high)
    ])

pub loop-place-preserved : goal.loop-place-preserved
loop-place-preserved c =
    let before = c.loop-place.invariant.before_is in
    record {
      before_is = last-next c.args.downs.now c.loop-place.place c.loop-place-test.true;
      founded = founded-next c.args.fails c.args.downs.now c.loop-place.place
          c.loop-place-test.true c.loop-place.invariant.founded (omega arith) (omega arith);
    }

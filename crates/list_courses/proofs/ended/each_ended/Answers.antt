use Rattle.std.proofs.Common.{◌<◌, length, get_or, refl, subst, arith}
use Rattle.mstr_block.specs.declared.call.CallId.{CallId}
use Rattle.list_courses.specs.Ends.{EndsOnce}
use Rattle.std.proofs.lemmas.List.{get_or_default}
use Rattle.list_courses.proofs.EndCounts.{each-more, ended-once, once-ended}
use Rattle.station_laws.proofs.Lists.{not-true}
use Rattle.list_courses.proofs.ended.each_ended.Goals as goal

pub returns-then-not-has_ended : goal.returns-then-not-has_ended
returns-then-not-has_ended c = (
  λ no'. not-true no',
  λ each. c.if-not-has_ended.ensures.1
      (once-ended c.args.ends.now c.in_ok-once.once c.in_ok-once.ensures _
      (each c.loop-id.id-index _ (omega arith))),
)

pub loop-id-preserved : goal.loop-id-preserved
loop-id-preserved c =
    let low : c.loop-id.id-index < length c.args.calls.now = omega arith in
    each-more c.args.ends.now c.args.calls.now c.loop-id.id-index c.loop-id.invariant low
    (λ (d : CallId). subst (EndsOnce c.args.ends.now)
    (get_or_default c.args.calls.now c.loop-id.id-index
    (record { node = 0; path = 0; seq = 0 }) d low)
    (ended-once c.args.ends.now c.in_ok-once.once c.in_ok-once.ensures
    (get_or c.args.calls.now c.loop-id.id-index (record { node = 0; path = 0; seq = 0 }))
    (c.if-not-has_ended.ensures.0 refl)))

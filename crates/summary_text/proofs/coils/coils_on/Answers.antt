use Rattle.std.proofs.Common.{◌≡◌, ◌≤◌, ◌+◌, Bool, true, false, cond, ap, refl, ◌∙◌, arith}
use mir.Val.{bool_byte}
use Rattle.plant_types.specs.declared.reference.Ref.{Ref}
use Rattle.plant_types.specs.Store.{is_on}
use Rattle.controller_core.specs.Controller.{store_of}
use Rattle.summary_text.proofs.CoilSteps.{coil_step}
use Rattle.summary_text.proofs.coils.coils_on.Goals as goal

byte_is : (on : Bool) → bool_byte on ≡ cond on 1 0
byte_is true = refl
byte_is false = refl

at_most_one : (on : Bool) → bool_byte on ≤ 1
at_most_one true = omega arith
at_most_one false = omega arith

pub loop-at-preserved : goal.loop-at-preserved
loop-at-preserved c =
    let on = is_on (store_of c.args.controller.now) in
    let is = c.is_on.ensures ∙ ap (λ (at : Ref). on at) c.coil_at.ensures in
    let counted = c.from-on.ensures ∙ byte_is c.is_on.result ∙ ap (λ (b : Bool). cond b 1 0) is in
    record {
      count = coil_step on c.loop-at.at c.args.plan.now.coils c.loop-at.on
          (c.loop-at.on + c.from-on.result) _
          c.loop-at-test.true c.loop-at.invariant.count (ap (λ n. c.loop-at.on + n) counted);
      few = omega (arith, c.from-on.ensures, at_most_one c.is_on.result, c.loop-at.invariant.few);
    }

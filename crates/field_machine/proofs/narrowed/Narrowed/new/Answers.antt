use Rattle.std.proofs.Common.{Option, ap, subst, ◌∙◌}
use Rattle.plant_types.specs.declared.reference.Ref.{Ref}
use Rattle.plant_types.specs.declared.sizes.Sizes.{Sizes}
use Rattle.cone_of.specs.Cone.{IsCone}
use Rattle.field_machine.specs.Narrow.{apart_of, outside_of}
use Rattle.field_machine.proofs.narrowed.Narrowed.new.Goals as goal

pub returns-clause-narrowed : goal.returns-clause-narrowed
returns-clause-narrowed c =
    let plan = c.args.field.fixed.plan in
    let cone = c.in_ok-cone.cone in
    let segments = c.as_slice-segments.ensures in
    let counters = c.as_slice.ensures.value in
    record {
      field_is = c.requires;
      apart_are = record {
        cone = cone;
        is_cone = subst (λ (of : Option Ref). IsCone plan of cone) c.reference_of.ensures
            c.in_ok-cone.ensures;
        outside_is = c.in_ok-outside.ensures
            ∙ ap (λ (sizes : Sizes). outside_of sizes cone) c.sizes.ensures;
        apart_is = c.in_ok-apart.ensures ∙ (λ i. apart_of cone (segments i) (counters i));
      };
    }

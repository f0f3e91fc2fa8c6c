use Rattle.std.proofs.Common.{ap, ◌∙◌, ◌++◌}
use Rattle.std.specs.FinMap.{from_entries}
use Rattle.std.proofs.lemmas.List.{append-nil}
use Rattle.plant_types.specs.declared.reference.RefKind.TheVariants.{Coil, Input, InputRegister}
use Rattle.plant_types.specs.declared.reference.RefKind.TheVariants.{Register}
use Rattle.plant_types.specs.Reference.{ref_cmp}
use Rattle.plant_types.specs.Sizes.{zeros}
use Rattle.plant_types.proofs.Contents.{from_entries-under}
use Rattle.plant_types.proofs.map_ram.MapRam.new.Goals as goal

pub returns : goal.returns
returns c =
    let registers = zeros Register c.args.registers in
    let e1 = c.in_ok-add_zeros.ensures
    ∙ ap (λ es. from_entries {R = ref_cmp} (registers ++ es)) c.new-values.ensures.empty
    ∙ ap (from_entries {R = ref_cmp}) (append-nil registers) in
    let e2 = c.in_ok-add_zeros-2.ensures ∙ from_entries-under
    (zeros InputRegister c.args.input_registers) c.add_zeros.new.values.entries registers e1 in
    let e3 = c.in_ok-add_zeros-3.ensures
    ∙ from_entries-under (zeros Input c.args.inputs) c.add_zeros-2.new.values.entries _ e2 in
    c.in_ok-add_zeros-4.ensures
    ∙ from_entries-under (zeros Coil c.args.coils) c.add_zeros-3.new.values.entries _ e3

use Rattle.std.proofs.Common.{◌≡◌, ◌∙◌, true, List, subst, sym}
use Rattle.std.specs.List.{list_all}
use Rattle.plant_types.specs.declared.reference.Ref.{Ref}
use Rattle.plant_types.specs.Checks.{sizes_of}
use Rattle.plant_types.specs.Sizes.{has_reference}
use Rattle.controller_core.specs.declared.fixed.Fixed.{Fixed}
use Rattle.field_pair.proofs.Panels.{panel-held}
use Rattle.field_pair.proofs.beside.pair_of.Goals as goal

pub invariant_of-result-clause-old_shows : goal.invariant_of-result-clause-old_shows
invariant_of-result-clause-old_shows c =
    subst (λ (f : Fixed). list_all (has_reference (sizes_of f.plan)) c.in_ok-panel.panel.items ≡
    true)
    (sym c.in_ok-old.ensures.fixed)
    (subst (λ (l : List Ref). list_all (has_reference (sizes_of c.args.old.plan)) l ≡ true)
    (sym c.in_ok-panel.ensures) (panel-held c.args.old.plan c.requires.old_alone.runs.passes))

pub invariant_of-result-clause-new_shows : goal.invariant_of-result-clause-new_shows
invariant_of-result-clause-new_shows c =
    subst (λ (f : Fixed). list_all (has_reference (sizes_of f.plan)) c.in_ok-panel.panel.items ≡
    true)
    (sym c.in_ok-new.ensures.fixed)
    (subst (λ (l : List Ref). list_all (has_reference (sizes_of c.args.new.plan)) l ≡ true)
    (sym (c.in_ok-panel.ensures ∙ c.requires.panels))
    (panel-held c.args.new.plan c.requires.new_alone.runs.passes))

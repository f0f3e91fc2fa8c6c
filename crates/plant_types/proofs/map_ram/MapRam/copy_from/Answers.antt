use Rattle.std.proofs.Common.{◌∙◌, ap, sym, subst, unwrap_or, rules}
use Rattle.std.specs.FinMap.{get, contains_key, from_entries}
use Rattle.plant_types.specs.Reference.{ref_cmp}
use Rattle.plant_types.specs.Store.{Keeps, part_within}
use Rattle.plant_types.proofs.PartLemmas.{pairs_written, from_entries-copied, contains_key-part_at}
use Rattle.plant_types.proofs.map_ram.MapRam.copy_from.Goals as goal

pub returns-clause-copied : goal.returns-clause-copied
returns-clause-copied c =
    let es = c.self.inside.values.entries in
    let other = c.args.other.now in
    let keeps : Keeps (from_entries es) other =
    subst (λ m. Keeps m other) (sym c.self.view_is) c.requires in
    ap (from_entries {R = ref_cmp}) (pairs_written _ (λ at. unwrap_or (get other at) 0) _
    (λ k v b w f' t. search rules) es c.retain.new.self.entries c.retain.ensures.filtered)
    ∙ from_entries-copied es other keeps
    ∙ ap (λ m. part_within m other) c.self.view_is

pub returns-clause-keeps : goal.returns-clause-keeps
returns-clause-keeps c at h =
    ap (λ m. contains_key m at) (returns-clause-copied c)
    ∙ contains_key-part_at c.args.self.now c.args.other.now at c.requires ∙ h

pub returns-clause-no_more : goal.returns-clause-no_more
returns-clause-no_more c at h =
    sym (contains_key-part_at c.args.self.now c.args.other.now at c.requires)
    ∙ ap (λ m. contains_key m at) (sym (returns-clause-copied c)) ∙ h

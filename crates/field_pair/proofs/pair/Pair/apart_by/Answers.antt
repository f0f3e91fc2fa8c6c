use Rattle.std.proofs.Common.{◌∙◌, subst, sym}
use Rattle.field_pair.specs.Choices.{AreSome}
use Rattle.field_pair.specs.Exchanged.{read_by_both}
use Rattle.field_pair.proofs.Taking.{all-some}
use Rattle.field_pair.proofs.pair.Pair.apart_by.Goals as goal

pub brought_in-requires : goal.brought_in-requires
brought_in-requires c =
    let pair = c.args.self.now in
    let parts = c.requires.fits.pair_is in
    subst AreSome (sym (c.as_slice.ensures.value ∙ parts.choices))
    (all-some pair.old.fixed.plan.drops (read_by_both pair.old.fixed.plan pair.new.fixed.plan))

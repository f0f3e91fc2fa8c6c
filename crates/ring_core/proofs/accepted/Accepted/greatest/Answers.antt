use Rattle.std.proofs.Common.{◌∙◌}
use Rattle.ring_core.proofs.Numbers.{number-read}
use Rattle.ring_core.proofs.accepted.Accepted.greatest.Goals as goal

pub returns : goal.returns
returns c =
    c.unwrap_or.ensures ∙ number-read c.self.inside.numbers.entries c.args.self.now c.args.id _
    c.self.view_is (c.copied.ensures ∙ c.get.ensures.value)

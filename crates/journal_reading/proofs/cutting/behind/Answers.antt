use Rattle.std.proofs.Common.{◌∙◌, List, ℕ, ap}
use Rattle.journal_reading.specs.Reading.{behind}
use Rattle.journal_reading.proofs.Cuts.{stripped}
use Rattle.journal_reading.proofs.cutting.behind.Goals as goal

pub returns : goal.returns
returns c =
    stripped c.as_bytes.result.now c.args.text.now c.strip_prefix.result
    c.strip_prefix.ensures.cases
    ∙ ap (λ (front : List ℕ). behind front c.args.text.now) c.as_bytes.ensures.value

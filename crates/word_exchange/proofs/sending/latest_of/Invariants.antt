use Rattle.std.proofs.Common.{◌≡◌, drop}
use Rattle.std.specs.Option.{unwrap_or}
use Rattle.word_exchange.specs.Words.{last_output}
use Rattle.word_exchange.proofs.sending.latest_of.Given as goal

abbrev pub invariant-loop-entry : goal.invariant-loop-entry
invariant-loop-entry l =
    unwrap_or (last_output l.plan l.fn.drop (drop l.entry-index l.entries)) l.latest
    ≡ unwrap_or (last_output l.plan l.fn.drop l.entries) l.before

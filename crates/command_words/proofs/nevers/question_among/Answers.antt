use Rattle.std.proofs.Common.{◌≡◌, ap, sym, ◌∙◌, Some, codes}
use Rattle.std.specs.Prelude.{option_map}
use Rattle.clap.specs.Words.{first_value, found_of}
use Rattle.command_words.specs.Nevers.{question_of}
use Rattle.command_words.proofs.nevers.question_among.Goals as goal

pub returns : goal.returns
returns c =
    let value : first_value (found_of c.args.matches.now) (codes "REF")
    ≡ Some c.in_ok-get_str.field-0.now =
    sym c.get_str.ensures ∙ ap (option_map (λ s. s.now)) c.in_ok-get_str.was in
    λ asked. (
      λ e. record {
        word = c.in_ok-get_str.field-0.now;
        there = value;
        asks = sym c.question_of.ensures ∙ e;
      },
      λ has.
          let same : c.in_ok-get_str.field-0.now ≡ has.word = let there = has.there in cc in
          c.question_of.ensures ∙ ap question_of same ∙ has.asks,
    )

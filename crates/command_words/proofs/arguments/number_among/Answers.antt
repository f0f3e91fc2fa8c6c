use Rattle.std.proofs.Common.{◌≡◌, ap, sym, ◌∙◌, Some}
use Rattle.std.specs.Prelude.{option_map}
use Rattle.std.specs.Fmt.{decimal}
use Rattle.clap.specs.Words.{first_value, found_of}
use Rattle.command_words.proofs.arguments.number_among.Goals as goal

pub returns : goal.returns
returns c =
    let value : first_value (found_of c.args.matches.now) c.args.id.now
    ≡ Some c.in_ok-get_str.field-0.now =
    sym c.get_str.ensures ∙ ap (option_map (λ s. s.now)) c.in_ok-get_str.was in
    λ number. (
      λ e. let got = (c.number_in.ensures number).0 e in (value ∙ ap (λ w. Some w) got.0, got.1),
      λ asked. let same : c.in_ok-get_str.field-0.now ≡ decimal number =
          cc (value, asked.0) in (c.number_in.ensures number).1 (same, asked.1),
    )

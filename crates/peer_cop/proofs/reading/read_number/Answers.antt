use Rattle.std.proofs.Common.{◌∙◌}
use Rattle.peer_cop.proofs.Parts.{first_cut, no_cut}
use Rattle.std.specs.Fmt.{decimal}
use Rattle.peer_cop.proofs.Numbers.{number_front}
use Rattle.peer_cop.proofs.reading.read_number.Goals as goal

pub returns-in_err-place : goal.returns-in_err-place
returns-in_err-place c =
    rw c.from_residual.ensures (λ n rest is.
    no_cut c.args.end c.args.text.now (decimal n) rest c.in_err-place.ensures is.whole)

pub returns-in_err-number : goal.returns-in_err-number
returns-in_err-number c =
    rw c.from_residual-in_err-number.ensures (λ n rest is.
    let cut = first_cut c.args.end c.args.text.now c.in_ok-place.place
    c.in_ok-place.ensures.0 c.in_ok-place.ensures.1 in
    c.in_err-number.ensures n is.below (c.split_at.ensures.front
    ∙ number_front c.args.limit c.args.end c.args.text.now _ _ n rest c.requires.small
    c.requires.end cut is))

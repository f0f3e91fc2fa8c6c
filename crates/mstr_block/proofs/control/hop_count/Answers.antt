use Rattle.std.proofs.Common.{ap, length, unwrap_or, ◌∙◌}
use Rattle.mstr_block.proofs.Hops.{end-or}
use Rattle.mstr_block.proofs.control.hop_count.Goals as goal

pub returns-clause-count : goal.returns-clause-count
returns-clause-count c =
    let hops = c.args.hops.now in
    c.unwrap_or.ensures ∙ ap (λ end. unwrap_or end (length hops)) c.route_end.ensures ∙ end-or hops

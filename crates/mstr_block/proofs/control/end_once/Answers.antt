use Rattle.std.proofs.Common.{◌+◌, ◌-◌, ap, length, drop, ◌∙◌, arith}
use Rattle.std.specs.Prelude.{min}
use Rattle.std.specs.List.{list_all}
use Rattle.std.proofs.lemmas.List.{take_all, length-drop}
use Rattle.mstr_block.specs.Control.{is_no_hop}
use Rattle.mstr_block.proofs.Hops.{behind-end}
use Rattle.mstr_block.proofs.control.end_once.Goals as goal

pub returns : goal.returns
returns c =
    let hops = c.args.hops.now in
    let at = c.min-behind.ensures
    ∙ ap (λ n. min (n + 1) (length hops)) c.hop_count.ensures.count in
    let behind = c.min-behind.result in
    let rest = drop behind hops in
    c.are_no_hops.ensures
    ∙ ap (list_all is_no_hop) (take_all (length hops - behind) rest
    (omega (arith, length-drop behind hops)) ∙ ap (λ n. drop n hops) at ∙ behind-end hops)

use Rattle.std.proofs.Common.{◌++◌, ◌-◌, List, ap, ◌∙◌}
use Rattle.std.specs.List.{flat_map}
use Rattle.standby_pair.specs.Course.{ScanPart}
use Rattle.standby_pair.proofs.Links.{slice-parts}
use Rattle.standby_pair.proofs.Pieces.{replies}
use Rattle.standby_pair.proofs.pair.push_between.Goals as goal

pub returns : goal.returns
returns c =
    c.in_ok-push_replies.ensures
    ∙ ap (λ (parts : List ScanPart). c.args.text.now.items ++ flat_map replies parts)
    (slice-parts c.args.scans.now c.args.from (c.args.to - c.args.from))

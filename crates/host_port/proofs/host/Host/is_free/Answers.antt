use Rattle.std.proofs.Common.{◌∙◌, ap, not}
use Rattle.host_port.specs.declared.host.Path.{Path}
use Rattle.host_port.specs.Calls.{path_is_free}
use Rattle.host_port.specs.Host.{HostIs}
use Rattle.host_port.proofs.Reading.{not_not, path_read}
use Rattle.host_port.proofs.host.Host.is_free.Goals as goal

pub returns : goal.returns
returns c =
    let h = c.self.inside.history.items in
    ap (λ (p : Path). not p.is_open)
    (path_read h c.self.inside.paths c.args.path c.from.result _ c.self.invariant.kept.state
    c.requires c.from.ensures)
    ∙ not_not (path_is_free h c.args.path)
    ∙ ap (λ (v : HostIs). path_is_free v.history c.args.path) c.self.view_is

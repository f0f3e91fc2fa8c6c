use Rattle.std.proofs.Common.{Bool, Some, ap, ◌∙◌}
use Rattle.std.specs.Prelude.{if◌then◌else◌}
use Rattle.mstr_block.specs.declared.call.CallId.{CallId}
use Rattle.station_laws.specs.Named.{value_of_call}
use Rattle.station_laws.proofs.CallKeys.{equal-keys}
use Rattle.station_laws.proofs.by_call.ByCall.put.Goals as goal

pub returns-in-Ok : goal.returns-in-Ok
returns-in-Ok g c = λ (q : CallId).
    c.in-Ok.ensures.updates.0 (q.node, (q.path, q.seq))
    ∙ ap (λ (b : Bool). if b then Some c.args.value else value_of_call c.args.self.now q)
    (equal-keys c.args.id q)

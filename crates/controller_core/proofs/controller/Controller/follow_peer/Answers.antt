use Rattle.std.proofs.Common.{IsTrue, Some, rules}
use Rattle.controller_core.proofs.NextEntry.{legal_went, reply_may}
use Rattle.controller_core.proofs.controller.Controller.follow_peer.Goals as goal

pub returns-clause-legal : goal.returns-clause-legal
returns-clause-legal c =
    let told = c.in_ok-made.ensures in
    let both = c.is_reply.ensures in
    reply_may c.args.self.now c.args.id c.args.request.now (Some c.args.reply.now)
    c.in_ok-made.made told.reply
    (legal_went _ _ c.args.self.now c.peer.new.self told.went_on) c.is_reply.result (
      λ yes. let is : IsTrue c.is_reply.result = search rules in both.0 is,
      λ same. let is = both.1 same in search rules,
    )

use Rattle.std.proofs.Common.{rules, ap, ◌<◌, length, ◌∙◌, ℕ, List}
use Rattle.std.specs.FinMap.{from_entries}
use Rattle.global_data.specs.Book.{GlobalIs}
use Rattle.global_data.proofs.Members.{joined, joined-new, joined-next}
use Rattle.global_data.proofs.book.GlobalBook.new.Goals as goal

pub loop-member-init : goal.loop-member-init
loop-member-init c =
    ap (λ (es : List (ℕ × GlobalIs)). joined (from_entries es) c.args.members.now)
    c.new-words.ensures.empty
    ∙ joined-new c.args.members.now

pub loop-member-preserved : goal.loop-member-preserved
loop-member-preserved c =
    let k = c.loop-member.member-index in
    let more : k < length c.args.members.now = search rules in
    joined-next c.loop-member.words.entries c.insert.new.self.entries c.args.members.now k
    c.new.result _ more c.new.ensures c.in_ok-insert.ensures.updates.0 c.loop-member.invariant

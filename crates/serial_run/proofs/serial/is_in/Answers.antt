use Rattle.std.proofs.Common.{◌≡◌, true, false, sym, ◌∙◌, ⊎_elim}
use Rattle.std.proofs.lemmas.Bool.{cases_Bool}
use Rattle.bridge_station.proofs.TurnLaws.{there-member}
use Rattle.serial_run.specs.Held.{is_in_ring}
use Rattle.serial_run.proofs.serial.is_in.Goals as goal

pub returns-else-is_member : goal.returns-else-is_member
returns-else-is_member c =
    let ring = c.args.ring.now in
    ⊎_elim
    (λ (there : is_in_ring ring c.args.node ≡ true).
    let no' : true ≡ false = sym (c.is_member.ensures.all (there-member ring.net ring.history
    c.args.node c.history.ensures.legal there)) ∙ c.if-is_member.false in absurd (cc))
    (λ (out : is_in_ring ring c.args.node ≡ false). c.if-is_member.false ∙ sym out)
    (cases_Bool (is_in_ring ring c.args.node))

use Rattle.std.proofs.Common.{◌≡◌, ◌∙◌, ◌+◌, ◌-◌, ◌*◌, drop, length, sym, ap, eq-eqb}
use Rattle.std.specs.Prelude.{if◌then◌else◌}
use Rattle.std.proofs.Common.{arith}
use Rattle.std.proofs.lemmas.Grind.{common_steps}
use Rattle.controller_core.specs.Panel.{line_text}
use Rattle.panel_line.specs.Told.{gone_told, stopped_told}
use Rattle.panel_session.specs.Bench.{is_shown_off}
use Rattle.panel_session.proofs.line.last_line.Goals as goal

pub returns : goal.returns
returns c =
    let shown = c.args.shown.now in
    let gone = c.args.gone in
    let rest = drop ((gone - 1) * length shown.panel) c.args.values.now in
    let told = gone_told (is_shown_off shown gone) shown.panel rest in
    let written : c.into_bytes-2.result.items ≡ line_text gone shown.node told =
    grind (arith, common_steps) in
    written
    ∙ sym (ap (λ b. if b then line_text gone shown.node told
    else line_text (gone + 1) shown.node (stopped_told c.args.stop))
    (eq-eqb c.args.stop 0 c.if-stop-ne0.false))

use Rattle.std.proofs.Common.{get_or, set, sym, ap, ◌∙◌}
use Rattle.std.proofs.lemmas.List.{set-get_or}
use Rattle.std.specs.Int.Bits.{or_zero_r}
use Rattle.ladder_solver.specs.Rows.{carried, rows_fed}
use Rattle.ladder_solver.proofs.Spread.{fed_alone}
use Rattle.ladder_solver.proofs.rows.feed.Goals as goal

pub returns-then-power : goal.returns-then-power
returns-then-power c =
    let reaches = c.args.reaches.now in
    sym (ap (rows_fed c.args.live.now c.args.border) (fed_alone c.args.power reaches
    ∙ ap (λ on. carried on reaches 0) c.if-power.true))

pub returns-else-power : goal.returns-else-power
returns-else-power c =
    let live = c.args.live.now in
    let reaches = c.args.reaches.now in
    sym (ap (rows_fed live c.args.border) (fed_alone c.args.power reaches
    ∙ ap (λ on. carried on reaches 0) c.if-power.false)
    ∙ ap (set live c.args.border) (or_zero_r (get_or live c.args.border 0))
    ∙ set-get_or live c.args.border 0)

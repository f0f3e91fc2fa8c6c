use Rattle.std.proofs.Common.{◌+◌, List, ℕ, Vec, Global, refl, subst, sym, take}
use Rattle.std.proofs.lemmas.Option.{slice_get_read}
use Rattle.field_pair.specs.Rows.{HoldsRows}
use Rattle.field_pair.proofs.Sets.{held-more}
use Rattle.field_pair.proofs.rows.rows_of.Goals as goal

pub loop-row-preserved : goal.loop-row-preserved
loop-row-preserved c =
    let script = c.args.script.now in
    let i = c.loop-row.row-index in
    let row = c.row-item.result in
    subst (λ (keys : List (Vec ℕ Global)). HoldsRows keys (take (i + 1) script))
    (sym c.in_ok-insert.ensures.keys)
    (held-more c.loop-row.rows.keys script i row c.write_key.new.key
    (slice_get_read script _ i row refl c.loop-row-test.true c.row-item.is)
    c.in_ok-write_key.ensures c.loop-row.invariant)

use Rattle.std.proofs.Common.{◌≡◌, ℕ, List, refl, sym, ap, ◌∙◌, subst, true, false}
use Rattle.std.proofs.Common.{arith}
use Rattle.std.specs.List.{list_any}
use Rattle.std.proofs.lemmas.Option.{slice_get_read}
use Rattle.plant_types.specs.declared.drops.ScriptRow.{ScriptRow}
use Rattle.side_runs.specs.Beside.{HasRowsOf}
use Rattle.field_pair.proofs.Sets.{held-row, is_held, row-lacks, rows-more, take-whole}
use Rattle.field_pair.proofs.rows.has_rows_of.Goals as goal

pub loop-row-preserved : goal.loop-row-preserved
loop-row-preserved c =
    let script = c.args.script.now in
    let other = c.args.other.now in
    let i = c.loop-row.row-index in
    let row = c.row-item.result in
    let keys = c.in_ok-rows.rows.keys in
    let words = c.write_key.new.key.items in
    let found : list_any (is_held words) keys ≡ true =
    ap (λ (w : List ℕ). list_any (is_held w) keys) (sym c.as_slice.ensures.value)
    ∙ sym c.if-not-contains.ensures in
    rows-more script other i row
    (slice_get_read script _ i row refl c.loop-row-test.true c.row-item.is) c.loop-row.invariant
    (held-row keys other row words c.in_ok-rows.ensures c.in_ok-write_key.ensures found)

pub returns-then-not-contains : goal.returns-then-not-contains
returns-then-not-contains c =
    let script = c.args.script.now in
    let other = c.args.other.now in
    let i = c.loop-row.row-index in
    let row = c.row-item.result in
    let keys = c.in_ok-rows.rows.keys in
    let words = c.write_key.new.key.items in
    let none : list_any (is_held words) keys ≡ false =
    ap (λ (w : List ℕ). list_any (is_held w) keys) (sym c.as_slice.ensures.value)
    ∙ sym c.if-not-contains.ensures in (
      λ t. absurd (let no' : false ≡ true = t in cc),
      λ all. absurd (row-lacks keys script other i row words c.in_ok-rows.ensures
          c.in_ok-write_key.ensures
          (slice_get_read script _ i row refl c.loop-row-test.true c.row-item.is) none all),
    )

pub returns : goal.returns
returns c =
    let script = c.args.script.now in
    let over = c.loop-row-test.false in
    let whole = take-whole script c.loop-row.row-index (omega (arith, over)) in (
      λ t. subst (λ (l : List ScriptRow). HasRowsOf l c.args.other.now) whole c.loop-row.invariant,
      λ all. refl,
    )

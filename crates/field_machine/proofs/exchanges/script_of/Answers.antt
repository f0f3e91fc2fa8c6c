use Rattle.std.proofs.Common.{◌≡◌, ◌+◌, ◌++◌, ℕ, List, get_or, drop, sym, ap, ◌∙◌, append_assoc}
use Rattle.std.specs.List.{filter_map}
use Rattle.std.proofs.lemmas.List.Elements.{filter_map-append}
use Rattle.plant_types.specs.declared.drops.ScriptRow.{ScriptRow}
use Rattle.scan_order.specs.Due.{full_scan}
use Rattle.field_runs.specs.Played.{row_in, told_in, told_to}
use Rattle.field_machine.specs.declared.exchanges.Exchange.{Exchange}
use Rattle.field_machine.specs.Choices.{told_by}
use Rattle.field_machine.specs.Exchanges.{row_to}
use Rattle.field_machine.specs.Never.{told_in_ways}
use Rattle.field_machine.proofs.Exchanging.{told-exchanged}
use Rattle.field_machine.proofs.Items.{next-get}
use Rattle.field_machine.proofs.exchanges.script_of.Goals as goal

pub loop-way-preserved : goal.loop-way-preserved
loop-way-preserved c =
    let plan = c.args.plan.now in
    let drop' = c.args.drop.now in
    let s = drop'.script in
    let d = drop'.number in
    let ways = c.args.ways.now in
    let i = c.loop-way.way-index in
    let way = get_or ways i 0 in
    let told = told_by plan (full_scan plan) way in
    let all = λ (l : List ℕ). filter_map (row_in s) (told_in plan d (told_in_ways plan l)) in
    let rest = drop (i + 1) ways in
    let script = c.loop-way.script in
    let next = next-get ways i 0 c.loop-way-test.true in
    let brought = c.as_slice.ensures.value ∙ c.in_ok-exchanges.ensures in
    let here = filter_map (row_in s) (told_to plan d (full_scan plan) told) in
    let made : c.add_rows.new.script ≡ script ++ here =
    c.in_ok-add_rows.ensures
    ∙ ap (λ (es : List Exchange). script ++ filter_map (row_in s) (filter_map (row_to d) es)) brought
    ∙ ap (λ (l : List ℕ). script ++ filter_map (row_in s) l)
    (sym (told-exchanged plan d (full_scan plan) told)) in
    ap (λ (l : List ScriptRow). l ++ all rest) made
    ∙ (append_assoc script here (all rest)
    ∙ (ap (λ (l : List ScriptRow). script ++ l) (sym (ap all next
    ∙ filter_map-append (row_in s) (told_to plan d (full_scan plan) told)
    (told_in plan d (told_in_ways plan rest))))
    ∙ c.loop-way.invariant))

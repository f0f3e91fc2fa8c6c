use Rattle.std.proofs.Common.{◌≡◌, ◌<◌, ℕ, List, sym, ap, ◌∙◌, subst, arith, drop}
use Rattle.std.specs.Prelude.{OnOk}
use Rattle.scan_order.specs.Due.{full_scan}
use Rattle.field_runs.specs.Scan.{scanned}
use Rattle.field_machine.specs.declared.exchanges.Exchange.{Exchange}
use Rattle.field_machine.specs.Choices.{told_by}
use Rattle.field_machine.specs.Keys.{state_in, IsKeyOf}
use Rattle.side_runs.specs.Brought.{rows_told}
use Rattle.field_pair.specs.declared.exchanges.Choice.{Choice}
use Rattle.field_pair.specs.declared.exchanges.Read.{Read}
use Rattle.field_pair.specs.Choices.{AreSome, brought_by, InRange, product_of}
use Rattle.field_pair.specs.Exchanged.{field_of, read_by_both}
use Rattle.field_pair.proofs.Scanned.{as-many, new-range, told-is}
use Rattle.field_pair.proofs.Taking.{all-some}
use Rattle.field_pair.proofs.pair.Pair.scan_new.Goals as goal

pub bring-requires : goal.bring-requires
bring-requires c =
    let pair = c.args.self.now in
    let parts = c.requires.fits.pair_is in
    subst AreSome (sym (c.as_slice.ensures.value ∙ parts.choices))
    (all-some pair.old.fixed.plan.drops (read_by_both pair.old.fixed.plan pair.new.fixed.plan))

pub way_of-way-requires-clause-fits : goal.way_of-way-requires-clause-fits
way_of-way-requires-clause-fits c =
    let pair = c.args.self.now in
    let parts = c.requires.fits.pair_is in
    let same = ap product_of (c.as_slice-2.ensures.value ∙ parts.new_reads)
    ∙ (as-many pair.new parts.new_field ∙ sym c.moves-most.ensures) in
    omega (arith, same, c.moves-most.type_inv)

pub way_of-way-requires-clause-range : goal.way_of-way-requires-clause-range
way_of-way-requires-clause-range c =
    let pair = c.args.self.now in
    let parts = c.requires.fits.pair_is in
    subst (λ (reads : List Read). InRange reads c.bring.new.exchanges.items)
    (sym (c.as_slice-2.ensures.value ∙ parts.new_reads))
    (new-range pair parts c.args.by c.bring.new.exchanges.items
    (c.in_ok-bring.ensures
    ∙ ap (λ (cs : List Choice). brought_by cs c.args.by) c.as_slice.ensures.value))

pub next-requires-clause-by : goal.next-requires-clause-by
next-requires-clause-by c =
    let pair = c.args.self.now in
    let parts = c.requires.fits.pair_is in
    let same = ap product_of (c.as_slice-2.ensures.value ∙ parts.new_reads)
    ∙ as-many pair.new parts.new_field in
    subst (λ n. c.way_of-way.result < n) same c.way_of-way.ensures.below

pub returns-clause-key : goal.returns-clause-key
returns-clause-key c =
    let pair = c.args.self.now in
    let parts = c.requires.fits.pair_is in
    let plan = pair.new.fixed.plan in
    let counters = pair.new.counters.items in
    let es = c.bring.new.exchanges.items in
    let brought : es ≡ brought_by pair.choices.items c.args.by =
    c.in_ok-bring.ensures
    ∙ ap (λ (cs : List Choice). brought_by cs c.args.by) c.as_slice.ensures.value in
    let reads = c.as_slice-2.ensures.value ∙ parts.new_reads in
    let range = subst (λ (rs : List Read). InRange rs es) (sym reads)
    (new-range pair parts c.args.by es brought) in
    let told = told-is plan es c.as_slice-2.result.now c.way_of-way.result reads range
    c.way_of-way.ensures.way
    ∙ ap (λ (l : List Exchange). rows_told plan (full_scan plan) (field_of l)) brought in
    subst (λ (rows : List ℕ). OnOk c.next.result (IsKeyOf plan counters
    (scanned pair.new.fixed rows (state_in plan counters (drop pair.size c.args.from.now)))
    c.next.new.key.items)) told
    (subst (λ (key : List ℕ). OnOk c.next.result (IsKeyOf plan counters
    (scanned pair.new.fixed (told_by plan (full_scan plan) c.way_of-way.result)
    (state_in plan counters key)) c.next.new.key.items)) c.words_behind-from.ensures
    c.next.ensures.key)

use Rattle.std.proofs.Common.{◌≡◌, ◌+◌, ◌++◌, ℕ, List, get_or, drop, sym, ap, ◌∙◌, append_assoc}
use Rattle.std.proofs.Common.{append-nil, string_bytes}
use Rattle.std.specs.List.{enumerate_from, flat_map}
use Rattle.scan_order.specs.Due.{full_scan}
use Rattle.field_machine.specs.declared.exchanges.Exchange.{Exchange}
use Rattle.field_machine.specs.Choices.{told_by}
use Rattle.field_machine.specs.Exchanges.{exchanges_of}
use Rattle.field_machine.specs.Never.{told_in_ways}
use Rattle.field_machine.proofs.Items.{next-get, none-left}
use Rattle.never_text.specs.Texts.{exchange_line, scan_exchanges}
use Rattle.never_text.proofs.exchanges.push_exchanges.Goals as goal

pub loop-index-preserved : goal.loop-index-preserved
loop-index-preserved c =
    let plan = c.args.plan.now in
    let ways = c.args.ways.now in
    let i = c.loop-index.index in
    let told = told_by plan (full_scan plan) (get_or ways i 0) in
    let lines = λ (n : ℕ) (l : List ℕ). flat_map (scan_exchanges plan)
    (enumerate_from n (told_in_ways plan l)) in
    let rest = lines (i + 1 + 1) (drop (i + 1) ways) in
    let old = string_bytes c.loop-index.text in
    let here = flat_map (exchange_line (i + 1)) (exchanges_of plan told) in
    let brought = c.as_slice.ensures.value ∙ c.in_ok-exchanges.ensures in
    let made : string_bytes c.push_scan.new.text ≡ old ++ here =
    c.in_ok-push_scan.ensures
    ∙ ap (λ (es : List Exchange). old ++ flat_map (exchange_line (i + 1)) es) brought in
    ap (λ (l : List ℕ). l ++ rest) made
    ∙ (append_assoc old here rest
    ∙ (ap (λ (l : List ℕ). old ++ l)
    (sym (ap (lines (i + 1)) (next-get ways i 0 c.loop-index-test.true)))
    ∙ c.loop-index.invariant))

pub returns : goal.returns
returns c =
    let plan = c.args.plan.now in
    let ways = c.args.ways.now in
    let i = c.loop-index.index in
    let old = string_bytes c.loop-index.text in
    sym (append-nil old)
    ∙ (ap (λ (l : List ℕ). old ++ flat_map (scan_exchanges plan)
    (enumerate_from (i + 1) (told_in_ways plan l)))
    (sym (none-left ways i c.loop-index-test.false))
    ∙ c.loop-index.invariant)

use Rattle.std.proofs.Common.{◌≡◌, ◌+◌, ◌++◌, ℕ, List, drop, Global, map, sym, ap, ◌∙◌}
use Rattle.std.proofs.Common.{append_assoc}
use Rattle.std.proofs.Common.{append-nil, string_bytes, Vec}
use Rattle.std.specs.List.{enumerate_from, flat_map}
use Rattle.field_pair.specs.FieldMachine.{Exchange}
use Rattle.field_pair.proofs.FieldMachine.{next-in, none-left}
use Rattle.never_text.specs.Texts.{exchange_line}
use Rattle.same_text.specs.Texts.{brought_in_scan}
use Rattle.same_text.proofs.lines.push_brought.Goals as goal

-- the lines of scans from one on
abbrev lines_from : ℕ → List (Vec Exchange Global) → List ℕ
lines_from n scans =
    flat_map brought_in_scan
    (enumerate_from n (map (λ (scan : Vec Exchange Global). scan.items) scans))

pub loop-index-preserved : goal.loop-index-preserved
loop-index-preserved c =
    let brought = c.args.brought.now in
    let i = c.loop-index.index in
    let item = c.index-brought-index.result in
    let rest = lines_from (i + 1 + 1) (drop (i + 1) brought) in
    let old = string_bytes c.loop-index.text in
    let here = flat_map (exchange_line (i + 1)) item.items in
    let made : string_bytes c.push_scan.new.text ≡ old ++ here =
    c.in_ok-push_scan.ensures
    ∙ ap (λ (es : List Exchange). old ++ flat_map (exchange_line (i + 1)) es)
    c.as_slice.ensures.value in
    ap (λ (l : List ℕ). l ++ rest) made
    ∙ (append_assoc old here rest
    ∙ (ap (λ (l : List ℕ). old ++ l)
    (sym (ap (lines_from (i + 1)) (next-in brought i item c.loop-index-test.true
    c.index-brought-index.is)))
    ∙ c.loop-index.invariant))

pub returns : goal.returns
returns c =
    let i = c.loop-index.index in
    let old = string_bytes c.loop-index.text in
    sym (append-nil old)
    ∙ (ap (λ (l : List (Vec Exchange Global)). old ++ lines_from (i + 1) l)
    (sym (none-left c.args.brought.now i c.loop-index-test.false))
    ∙ c.loop-index.invariant)

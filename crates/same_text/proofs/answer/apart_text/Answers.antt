use Rattle.std.proofs.Common.{◌≡◌, ◌++◌, ℕ, List, Global, length, map, ap, ◌∙◌, append_assoc, Vec}
use Rattle.field_pair.specs.FieldMachine.{Exchange}
use Rattle.never_text.specs.Texts.{fails_line}
use Rattle.same_text.specs.Texts.{brought_lines, end_line}
use Rattle.same_text.proofs.answer.apart_text.Goals as goal

pub returns : goal.returns
returns c =
    let old = c.args.old.now in
    let new = c.args.new.now in
    let apart = c.args.apart.now in
    let scans = c.in_ok-scans.scans in
    let lines = λ (l : List (Vec Exchange Global)).
    brought_lines (map (λ (scan : Vec Exchange Global). scan.items) l) in
    let brought = lines apart.brought.items in
    let text = λ (n : ℕ).
    fails_line n ++ (brought ++ (end_line old apart.old n ++ end_line new apart.new n)) in
    (λ i. (c.into_bytes.ensures.value i).items)
    ∙ (c.in_ok-push_end-2.ensures
    ∙ (ap (λ (l : List ℕ). l ++ end_line new apart.new scans) (c.in_ok-push_end.ensures
    ∙ ap (λ (l : List ℕ). l ++ end_line old apart.old scans) (c.in_ok-push_brought.ensures
    ∙ (ap (λ (l : List ℕ). l ++ lines c.as_slice-brought.result.now) (c.in_ok-push_head.ensures
    ∙ ap (λ (l : List ℕ). l ++ fails_line scans) c.new-text.ensures.bytes)
    ∙ ap (λ (l : List (Vec Exchange Global)). fails_line scans ++ lines l)
    c.as_slice-brought.ensures.value)))
    ∙ (ap (λ (l : List ℕ). l ++ end_line new apart.new scans)
    (append_assoc (fails_line scans) brought (end_line old apart.old scans))
    ∙ (append_assoc (fails_line scans) (brought ++ end_line old apart.old scans)
    (end_line new apart.new scans)
    ∙ (ap (λ (l : List ℕ). fails_line scans ++ l)
    (append_assoc brought (end_line old apart.old scans) (end_line new apart.new scans))
    ∙ ap text (c.in_ok-scans.ensures
    ∙ ap (λ (l : List (Vec Exchange Global)). length l) c.as_slice-brought.ensures.value))))))

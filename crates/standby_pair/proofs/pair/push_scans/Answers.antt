use Rattle.std.proofs.Common.{◌++◌, ℕ, List, sym, ap, ◌∙◌, append-nil, append_assoc, arith}
use Rattle.std.specs.List.{flat_map}
use Rattle.std.proofs.lemmas.List.{take_all}
use Rattle.standby_pair.specs.declared.scanning.ScanMade.{ScanMade}
use Rattle.standby_pair.specs.Kept.{scan_parts}
use Rattle.standby_pair.proofs.Links.{pushed-more}
use Rattle.standby_pair.proofs.Pieces.{both}
use Rattle.standby_pair.proofs.pair.push_scans.Goals as goal

pub loop-scan-init : goal.loop-scan-init
loop-scan-init c = sym (append-nil c.args.text.now.items)

pub loop-scan-preserved : goal.loop-scan-preserved
loop-scan-preserved c =
    let scan = c.scan-item.result in
    pushed-more both c.args.text.now.items c.loop-scan.text.items
    c.extend_from_slice-in-loop-scan.new.self.items c.args.scans.now c.loop-scan.scan-index scan
    (omega arith) c.scan-item.is c.loop-scan.invariant
    (c.in_ok-extend_from_slice-2.ensures.items
    ∙ ap (λ (l : List ℕ). c.extend_from_slice.new.self.items ++ l) c.deref-in-loop-scan.ensures.value
    ∙ ap (λ (l : List ℕ). l ++ scan.replies.items) (c.in_ok-extend_from_slice.ensures.items
    ∙ ap (λ (l : List ℕ). c.loop-scan.text.items ++ l) c.deref.ensures.value)
    ∙ append_assoc c.loop-scan.text.items scan.line.items scan.replies.items)

pub returns : goal.returns
returns c =
    c.loop-scan.invariant
    ∙ ap (λ (l : List ScanMade). c.args.text.now.items ++ flat_map both (scan_parts l))
    (take_all c.loop-scan.scan-index c.args.scans.now (omega arith))

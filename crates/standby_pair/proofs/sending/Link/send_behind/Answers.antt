use Rattle.std.proofs.Common.{◌≡◌, ◌++◌, ◌+◌, ◌-◌, ◌<◌, ℕ, List, Bool, true, false, suc, sym, ap, subst}
use Rattle.std.proofs.Common.{◌∙◌, append_assoc, append-nil, arith, drop, get_or, length}
use Rattle.std.specs.Prelude.{if◌then◌else◌}
use Rattle.std.proofs.lemmas.List.{length-drop, length-map, length-take}
use Rattle.plant_types.specs.declared.net.Fate.{Fate}
use Rattle.ring_core.specs.Machine.{fate_at}
use Rattle.standby_pair.specs.declared.sending.Link.{Link}
use Rattle.standby_pair.specs.Course.{ScanPart}
use Rattle.standby_pair.specs.Kept.{HasSent, IsRowOf, after_sending, replies_between, scan_part}
use Rattle.standby_pair.specs.Kept.{scan_parts}
use Rattle.standby_pair.specs.Pair.{no_scan}
use Rattle.standby_pair.specs.Sending.{is_told}
use Rattle.standby_pair.proofs.Links.{InRow, can-take, in-row-begins, in-row-full, in-row-lost}
use Rattle.standby_pair.proofs.Links.{in-row-told, item-part, no-replies, replies-more}
use Rattle.standby_pair.proofs.sending.Link.send_behind.Goals as goal

pub loop-scan-init : goal.loop-scan-init
loop-scan-init c =
    let link = c.args.self.now in
    let parts = scan_parts c.args.scans.now in
    record {
      row = in-row-begins link.standby.fixed c.args.fates.now parts c.requires.follow
          c.args.before link c.requires.sent;
      text_is = sym (append-nil c.args.text.now.items)
          ∙ ap (λ (l : List ℕ). c.args.text.now.items ++ l) (sym (no-replies parts link.told));
    }

pub send-requires-clause-can : goal.send-requires-clause-can
send-requires-clause-can c =
    let old = c.args.self.now in
    let fixed = old.standby.fixed in
    let letters = c.args.fates.now in
    let scans = c.args.scans.now in
    let parts = scan_parts scans in
    let link = c.loop-scan.self in
    let at = c.loop-scan.scan-index in
    let scan = c.scan-item.result in
    let many = c.args.before + 1 - old.told in
    let row = c.loop-scan.invariant.row in
    let taken = length-take many (drop old.told scans) in
    let dropped = length-drop old.told scans in
    let count = length-map scans scan_part in
    let inside : at < many = omega (arith, taken, c.loop-scan-test.true) in
    let whole : old.told + at < length scans =
    omega (arith, taken, dropped, c.loop-scan-test.true) in
    let here : link.told < length parts = omega (arith, whole, count, row.count_is) in
    let part : scan_part scan ≡ get_or parts link.told no_scan =
    item-part scans old.told many at scan inside whole c.scan-item.is
    ∙ ap (λ (n : ℕ). get_or parts n no_scan) (sym row.count_is) in
    let entries : scan.entries ≡ (get_or parts link.told no_scan).entries =
    ap (λ (part : ScanPart). part.entries) part in
    can-take fixed letters parts c.requires.follow link scan row.is here entries

pub send-requires-clause-few : goal.send-requires-clause-few
send-requires-clause-few c =
    let old = c.args.self.now in
    let fixed = old.standby.fixed in
    let letters = c.args.fates.now in
    let scans = c.args.scans.now in
    let parts = scan_parts scans in
    let link = c.loop-scan.self in
    let at = c.loop-scan.scan-index in
    let scan = c.scan-item.result in
    let many = c.args.before + 1 - old.told in
    let row = c.loop-scan.invariant.row in
    let taken = length-take many (drop old.told scans) in
    let dropped = length-drop old.told scans in
    let count = length-map scans scan_part in
    let inside : at < many = omega (arith, taken, c.loop-scan-test.true) in
    let whole : old.told + at < length scans =
    omega (arith, taken, dropped, c.loop-scan-test.true) in
    let here : link.told < length parts = omega (arith, whole, count, row.count_is) in
    let part : scan_part scan ≡ get_or parts link.told no_scan =
    item-part scans old.told many at scan inside whole c.scan-item.is
    ∙ ap (λ (n : ℕ). get_or parts n no_scan) (sym row.count_is) in
    let entries : scan.entries ≡ (get_or parts link.told no_scan).entries =
    ap (λ (part : ScanPart). part.entries) part in (
      omega (arith, here, count, c.requires.before.1),
      omega (
        arith,
        here,
        count,
        row.row.few,
        row.is.told,
        c.requires.before.0,
        c.requires.before.1,
      ),
    )

pub loop-scan-preserved : goal.loop-scan-preserved
loop-scan-preserved c =
    let old = c.args.self.now in
    let fixed = old.standby.fixed in
    let letters = c.args.fates.now in
    let scans = c.args.scans.now in
    let parts = scan_parts scans in
    let link = c.loop-scan.self in
    let at = c.loop-scan.scan-index in
    let scan = c.scan-item.result in
    let many = c.args.before + 1 - old.told in
    let row = c.loop-scan.invariant.row in
    let taken = length-take many (drop old.told scans) in
    let dropped = length-drop old.told scans in
    let count = length-map scans scan_part in
    let inside : at < many = omega (arith, taken, c.loop-scan-test.true) in
    let whole : old.told + at < length scans =
    omega (arith, taken, dropped, c.loop-scan-test.true) in
    let here : link.told < length parts = omega (arith, whole, count, row.count_is) in
    let part : scan_part scan ≡ get_or parts link.told no_scan =
    item-part scans old.told many at scan inside whole c.scan-item.is
    ∙ ap (λ (n : ℕ). get_or parts n no_scan) (sym row.count_is) in
    let entries : scan.entries ≡ (get_or parts link.told no_scan).entries =
    ap (λ (part : ScanPart). part.entries) part in
    let new-is : c.send.new.self ≡ after_sending link (fate_at letters link.sent) scan =
    c.in_ok-send.ensures.link
    ∙ ap (λ (fate : Fate). after_sending link fate scan) c.fate_at-fate.ensures in
    let less : link.told < c.args.before + 1 = omega (arith, inside, row.count_is) in
    let told : is_told (fate_at letters link.sent) ≡ true =
    ap is_told (sym c.fate_at-fate.ensures) ∙ sym c.in_ok-send.ensures.told
    ∙ c.if-not-branch.false in
    let more : suc link.told ≡ c.send.new.self.told =
    let e : suc link.told ≡ link.told + 1 = omega arith in
    e ∙ sym (ap (λ (link : Link). link.told) new-is
    ∙ ap (λ (b : Bool). if b then link.told + 1 else link.told) told) in
    let said : scan.replies.items ≡ (get_or parts link.told no_scan).replies =
    ap (λ (part : ScanPart). part.replies) part in
    let now = (get_or parts link.told no_scan).replies in
    record {
      row = subst (λ (link : Link). InRow fixed letters parts c.args.before old link (at + 1))
          (sym new-is)
          (in-row-told fixed letters parts c.requires.follow c.args.before old link at row scan
          here entries less told);
      text_is = c.in_ok-extend_from_slice.ensures.items
          ∙ ap (λ (l : List ℕ). c.loop-scan.text.items ++ l) (c.deref.ensures.value ∙ said)
          ∙ ap (λ (l : List ℕ). l ++ now) c.loop-scan.invariant.text_is
          ∙ append_assoc c.args.text.now.items (replies_between parts old.told link.told) now
          ∙ ap (λ (l : List ℕ). c.args.text.now.items ++ l)
          (sym (replies-more parts old.told link.told (omega (arith, row.count_is)) here)
          ∙ ap (λ (n : ℕ). replies_between parts old.told n) more);
    }

pub returns-then-not-branch-clause-sent : goal.returns-then-not-branch-clause-sent
returns-then-not-branch-clause-sent c =
    let old = c.args.self.now in
    let fixed = old.standby.fixed in
    let letters = c.args.fates.now in
    let scans = c.args.scans.now in
    let parts = scan_parts scans in
    let link = c.loop-scan.self in
    let at = c.loop-scan.scan-index in
    let scan = c.scan-item.result in
    let many = c.args.before + 1 - old.told in
    let row = c.loop-scan.invariant.row in
    let taken = length-take many (drop old.told scans) in
    let dropped = length-drop old.told scans in
    let count = length-map scans scan_part in
    let inside : at < many = omega (arith, taken, c.loop-scan-test.true) in
    let whole : old.told + at < length scans =
    omega (arith, taken, dropped, c.loop-scan-test.true) in
    let here : link.told < length parts = omega (arith, whole, count, row.count_is) in
    let part : scan_part scan ≡ get_or parts link.told no_scan =
    item-part scans old.told many at scan inside whole c.scan-item.is
    ∙ ap (λ (n : ℕ). get_or parts n no_scan) (sym row.count_is) in
    let entries : scan.entries ≡ (get_or parts link.told no_scan).entries =
    ap (λ (part : ScanPart). part.entries) part in
    let new-is : c.send.new.self ≡ after_sending link (fate_at letters link.sent) scan =
    c.in_ok-send.ensures.link
    ∙ ap (λ (fate : Fate). after_sending link fate scan) c.fate_at-fate.ensures in
    let less : link.told < c.args.before + 1 = omega (arith, inside, row.count_is) in
    let lost : is_told (fate_at letters link.sent) ≡ false =
    ap is_told (sym c.fate_at-fate.ensures) ∙ sym c.in_ok-send.ensures.told
    ∙ c.if-not-branch.true in
    subst (λ (link : Link). HasSent fixed letters parts (c.args.before + 1) link) (sym new-is)
    (in-row-lost fixed letters parts c.requires.follow c.args.before old link at row scan here
    entries less lost).0

pub returns-then-not-branch-clause-row : goal.returns-then-not-branch-clause-row
returns-then-not-branch-clause-row c =
    let old = c.args.self.now in
    let fixed = old.standby.fixed in
    let letters = c.args.fates.now in
    let scans = c.args.scans.now in
    let parts = scan_parts scans in
    let link = c.loop-scan.self in
    let at = c.loop-scan.scan-index in
    let scan = c.scan-item.result in
    let many = c.args.before + 1 - old.told in
    let row = c.loop-scan.invariant.row in
    let taken = length-take many (drop old.told scans) in
    let dropped = length-drop old.told scans in
    let count = length-map scans scan_part in
    let inside : at < many = omega (arith, taken, c.loop-scan-test.true) in
    let whole : old.told + at < length scans =
    omega (arith, taken, dropped, c.loop-scan-test.true) in
    let here : link.told < length parts = omega (arith, whole, count, row.count_is) in
    let part : scan_part scan ≡ get_or parts link.told no_scan =
    item-part scans old.told many at scan inside whole c.scan-item.is
    ∙ ap (λ (n : ℕ). get_or parts n no_scan) (sym row.count_is) in
    let entries : scan.entries ≡ (get_or parts link.told no_scan).entries =
    ap (λ (part : ScanPart). part.entries) part in
    let new-is : c.send.new.self ≡ after_sending link (fate_at letters link.sent) scan =
    c.in_ok-send.ensures.link
    ∙ ap (λ (fate : Fate). after_sending link fate scan) c.fate_at-fate.ensures in
    let less : link.told < c.args.before + 1 = omega (arith, inside, row.count_is) in
    let lost : is_told (fate_at letters link.sent) ≡ false =
    ap is_told (sym c.fate_at-fate.ensures) ∙ sym c.in_ok-send.ensures.told
    ∙ c.if-not-branch.true in
    subst (λ (link : Link). IsRowOf letters (c.args.before + 1) old link) (sym new-is)
    (in-row-lost fixed letters parts c.requires.follow c.args.before old link at row scan here
    entries less lost).1

pub returns-clause-row : goal.returns-clause-row
returns-clause-row c =
    let old = c.args.self.now in
    let scans = c.args.scans.now in
    let many = c.args.before + 1 - old.told in
    let taken = length-take many (drop old.told scans) in
    let dropped = length-drop old.told scans in
    (in-row-full old.standby.fixed c.args.fates.now (scan_parts scans) c.requires.follow
    c.args.before old c.loop-scan.self c.loop-scan.scan-index c.loop-scan.invariant.row
    (omega (
      arith,
      taken,
      dropped,
      c.loop-scan-test.false,
      c.requires.sent.most,
      c.requires.before.0,
    ))).1

pub returns-clause-sent : goal.returns-clause-sent
returns-clause-sent c =
    let old = c.args.self.now in
    let scans = c.args.scans.now in
    let many = c.args.before + 1 - old.told in
    let taken = length-take many (drop old.told scans) in
    let dropped = length-drop old.told scans in
    (in-row-full old.standby.fixed c.args.fates.now (scan_parts scans) c.requires.follow
    c.args.before old c.loop-scan.self c.loop-scan.scan-index c.loop-scan.invariant.row
    (omega (
      arith,
      taken,
      dropped,
      c.loop-scan-test.false,
      c.requires.sent.most,
      c.requires.before.0,
    ))).0

use Rattle.std.proofs.Common.{◌++◌, ◌+◌, ℕ, List, sym, ap, subst, ◌∙◌, arith}
use Rattle.std.proofs.lemmas.List.{length-map}
use Rattle.controller_core.specs.declared.fixed.Fixed.{Fixed}
use Rattle.hot_standby.specs.Standby.{StandbyIs}
use Rattle.standby_pair.specs.Course.{ScanPart}
use Rattle.standby_pair.specs.Kept.{FollowEachOther, HasSent, replies_between, scan_part, scan_parts}
use Rattle.standby_pair.proofs.Links.{all-written, place-part, written-more}
use Rattle.standby_pair.proofs.Links.{written-none}
use Rattle.standby_pair.proofs.sending.Link.send_all.Goals as goal

pub loop-place-init : goal.loop-place-init
loop-place-init c =
    written-none c.args.self.now.standby.fixed c.args.fates.now (scan_parts c.args.scans.now)
    c.args.self.now c.args.text.now.items c.requires.begins

pub send_behind-requires-clause-follow : goal.send_behind-requires-clause-follow
send_behind-requires-clause-follow c =
    let same = ap (λ (v : StandbyIs). v.fixed) c.loop-place.invariant.sent.is.standby in
    subst (λ (fixed : Fixed). FollowEachOther fixed (scan_parts c.args.scans.now)) (sym same)
    c.requires.follow

pub send_behind-requires-clause-sent : goal.send_behind-requires-clause-sent
send_behind-requires-clause-sent c =
    let same = ap (λ (v : StandbyIs). v.fixed) c.loop-place.invariant.sent.is.standby in
    subst (λ (fixed : Fixed). HasSent fixed c.args.fates.now (scan_parts c.args.scans.now)
    c.loop-place.place c.loop-place.self) (sym same) c.loop-place.invariant.sent

pub loop-place-preserved : goal.loop-place-preserved
loop-place-preserved c =
    let fixed = c.args.self.now.standby.fixed in
    let scans = c.args.scans.now in
    let parts = scan_parts scans in
    let place = c.loop-place.place in
    let scan = c.index-scans-place.result in
    let count = length-map scans scan_part in
    let same = ap (λ (v : StandbyIs). v.fixed) c.loop-place.invariant.sent.is.standby in
    written-more fixed c.args.fates.now parts c.requires.follow place c.args.text.now.items
    c.loop-place.text.items scan.line.items c.send_behind.new.text.items c.loop-place.self
    c.send_behind.new.self c.loop-place.invariant (omega (arith, count))
    (subst (λ (fixed : Fixed). HasSent fixed c.args.fates.now parts (place + 1)
    c.send_behind.new.self) same c.in_ok-send_behind.ensures.sent)
    c.in_ok-send_behind.ensures.row
    (ap (λ (part : ScanPart). part.line)
    (place-part scans place scan (omega arith) c.index-scans-place.is))
    (c.in_ok-send_behind.ensures.text
    ∙ ap (λ (l : List ℕ). l ++ replies_between parts c.loop-place.self.told
    c.send_behind.new.self.told) (c.in_ok-extend_from_slice.ensures.items
    ∙ ap (λ (l : List ℕ). c.loop-place.text.items ++ l) c.deref.ensures.value))

pub returns : goal.returns
returns c =
    let scans = c.args.scans.now in
    let count = length-map scans scan_part in
    let all = all-written c.args.self.now.standby.fixed c.args.fates.now (scan_parts scans)
    c.args.text.now.items c.loop-place.text.items c.loop-place.self c.loop-place.place _
    c.loop-place.invariant (sym count) (omega arith) in
    record { sent = all.sent; text = all.text_is; written = all.writes }

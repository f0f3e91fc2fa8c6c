use Rattle.std.proofs.Common.{◌≡◌, ◌++◌, ◌-◌, ◌≤◌, false, List, drop, length, take, sym, ap}
use Rattle.std.proofs.Common.{subst, ◌∙◌, arith}
use Rattle.std.proofs.lemmas.List.{length-map}
use Rattle.controller_core.specs.declared.entry.Entry.{Entry}
use Rattle.controller_core.specs.declared.fixed.Fixed.{Fixed}
use Rattle.controller_core.specs.Controller.{ControllerIs, IsLegal, fixed_with, has_ended}
use Rattle.panel_session.specs.Serving.{frames_for, request_count}
use Rattle.hot_standby.specs.Standby.{bench_of, new_standby}
use Rattle.standby_pair.specs.declared.scanning.ScanMade.{ScanMade}
use Rattle.standby_pair.specs.declared.sending.Link.{Link}
use Rattle.standby_pair.specs.Course.{LeavesScans, parts_of, scans_to_come}
use Rattle.standby_pair.specs.Kept.{FollowEachOther, HasSent, link_to}
use Rattle.panel_session.specs.Asked.{frame_asked, frames_heard}
use Rattle.standby_pair.specs.Kept.{parts_history, scan_part, scan_parts}
use Rattle.standby_pair.specs.Pair.{bench_parts, pieces_text, primary_pieces, switch_line}
use Rattle.standby_pair.proofs.Ends.{few-there, follow, frames-few, history-whole, later-are}
use Rattle.standby_pair.proofs.Ends.{leaves-there, parts-are}
use Rattle.standby_pair.proofs.Links.{all-as, begins}
use Rattle.standby_pair.proofs.Runs.{IsSent, repeated, stands-at, text-built, text-due, timely}
use Rattle.standby_pair.proofs.pair.pair_run.Goals as goal

pub primary_scans-requires-clause-few : goal.primary_scans-requires-clause-few
primary_scans-requires-clause-few c =
    let heard = ap frames_heard c.deref.ensures.value ∙ c.in_ok-frames.ensures.frames in
    let count = length-map c.deref.result.now frame_asked in
    let few = frames-few c.args.plan.now.node c.args.stream.now in
    omega (arith, count, few, ap length heard, c.requires.short)

pub send_all-requires-clause-follow : goal.send_all-requires-clause-follow
send_all-requires-clause-follow c =
    let fixed = fixed_with c.args.plan.now c.args.scan_time c.args.watchdog c.args.scans in
    let stream = c.args.stream.now in
    let letters = c.args.fates.now in
    let fail = c.args.fail in
    let some : 1 ≤ c.args.scans = omega (arith, c.requires.fails.0, c.requires.fails.1) in
    let heard = ap frames_heard c.deref.ensures.value ∙ c.in_ok-frames.ensures.frames in
    let parts = scan_parts c.in_ok-made.made.items in
    let parts_is = parts-are fixed stream fail parts (frames_heard c.deref.result.now) some heard
    c.in_ok-made.ensures.parts in
    let link-is = c.of-link.ensures ∙ ap link_to c.in_ok-standby.ensures in
    subst (λ (link : Link). FollowEachOther link.standby.fixed (scan_parts c.deref-2.result.now))
    (sym link-is)
    (subst (λ (made : List ScanMade). FollowEachOther fixed (scan_parts made))
    (sym c.deref-2.ensures.value)
    (follow fixed stream some fail parts parts_is c.in_ok-made.ensures.legal))

pub send_all-requires-clause-begins : goal.send_all-requires-clause-begins
send_all-requires-clause-begins c =
    let fixed = fixed_with c.args.plan.now c.args.scan_time c.args.watchdog c.args.scans in
    let stream = c.args.stream.now in
    let letters = c.args.fates.now in
    let fail = c.args.fail in
    let some : 1 ≤ c.args.scans = omega (arith, c.requires.fails.0, c.requires.fails.1) in
    let heard = ap frames_heard c.deref.ensures.value ∙ c.in_ok-frames.ensures.frames in
    let parts = scan_parts c.in_ok-made.made.items in
    let parts_is = parts-are fixed stream fail parts (frames_heard c.deref.result.now) some heard
    c.in_ok-made.ensures.parts in
    let link-is = c.of-link.ensures ∙ ap link_to c.in_ok-standby.ensures in
    subst (λ (link : Link). HasSent link.standby.fixed letters (scan_parts c.deref-2.result.now) 0
    link) (sym link-is)
    (subst (λ (made : List ScanMade). HasSent fixed letters (scan_parts made) 0
    (link_to (new_standby fixed))) (sym c.deref-2.ensures.value)
    (begins fixed letters parts
    (follow fixed stream some fail parts parts_is c.in_ok-made.ensures.legal)))

pub push_between-requires-clause-from : goal.push_between-requires-clause-from
push_between-requires-clause-from c =
    let fixed = fixed_with c.args.plan.now c.args.scan_time c.args.watchdog c.args.scans in
    let stream = c.args.stream.now in
    let letters = c.args.fates.now in
    let fail = c.args.fail in
    let some : 1 ≤ c.args.scans = omega (arith, c.requires.fails.0, c.requires.fails.1) in
    let heard = ap frames_heard c.deref.ensures.value ∙ c.in_ok-frames.ensures.frames in
    let parts = scan_parts c.in_ok-made.made.items in
    let parts_is = parts-are fixed stream fail parts (frames_heard c.deref.result.now) some heard
    c.in_ok-made.ensures.parts in
    let link-is = c.of-link.ensures ∙ ap link_to c.in_ok-standby.ensures in
    let link = c.send_all.new.self in
    let all = all-as c.of-link.result.standby.fixed fixed letters c.deref-2.result.now
    c.in_ok-made.made.items c.new-text.result.items c.send_all.new.text.items link
    (ap (λ (link : Link). link.standby.fixed) link-is) c.deref-2.ensures.value (record {
      sent = c.in_ok-send_all.ensures.sent;
      text_is = c.in_ok-send_all.ensures.text;
      writes = c.in_ok-send_all.ensures.written;
    }) in
    let so : IsSent fixed stream letters fail parts link = record {
      some = some;
      parts_is = parts_is;
      legal = c.in_ok-made.ensures.legal;
      sent = all.sent;
      writes = all.writes;
    } in
    let held = c.scans-held.result in
    let at = stands-at fixed stream letters fail parts link so held c.scans-held.ensures in
    at.known

pub push_between-requires-clause-to : goal.push_between-requires-clause-to
push_between-requires-clause-to c =
    let fixed = fixed_with c.args.plan.now c.args.scan_time c.args.watchdog c.args.scans in
    let stream = c.args.stream.now in
    let letters = c.args.fates.now in
    let fail = c.args.fail in
    let some : 1 ≤ c.args.scans = omega (arith, c.requires.fails.0, c.requires.fails.1) in
    let heard = ap frames_heard c.deref.ensures.value ∙ c.in_ok-frames.ensures.frames in
    let parts = scan_parts c.in_ok-made.made.items in
    let parts_is = parts-are fixed stream fail parts (frames_heard c.deref.result.now) some heard
    c.in_ok-made.ensures.parts in
    let link-is = c.of-link.ensures ∙ ap link_to c.in_ok-standby.ensures in
    let link = c.send_all.new.self in
    let all = all-as c.of-link.result.standby.fixed fixed letters c.deref-2.result.now
    c.in_ok-made.made.items c.new-text.result.items c.send_all.new.text.items link
    (ap (λ (link : Link). link.standby.fixed) link-is) c.deref-2.ensures.value (record {
      sent = c.in_ok-send_all.ensures.sent;
      text_is = c.in_ok-send_all.ensures.text;
      writes = c.in_ok-send_all.ensures.written;
    }) in
    let so : IsSent fixed stream letters fail parts link = record {
      some = some;
      parts_is = parts_is;
      legal = c.in_ok-made.ensures.legal;
      sent = all.sent;
      writes = all.writes;
    } in
    let held = c.scans-held.result in
    let at = stands-at fixed stream letters fail parts link so held c.scans-held.ensures in
    let count = length-map c.in_ok-made.made.items scan_part in
    omega (arith, at.most, count, ap (λ (l : List ScanMade). length l) c.deref-4.ensures.value)

pub overflow_sub-left : goal.overflow_sub-left
overflow_sub-left c =
    let fixed = fixed_with c.args.plan.now c.args.scan_time c.args.watchdog c.args.scans in
    let stream = c.args.stream.now in
    let letters = c.args.fates.now in
    let fail = c.args.fail in
    let some : 1 ≤ c.args.scans = omega (arith, c.requires.fails.0, c.requires.fails.1) in
    let heard = ap frames_heard c.deref.ensures.value ∙ c.in_ok-frames.ensures.frames in
    let parts = scan_parts c.in_ok-made.made.items in
    let parts_is = parts-are fixed stream fail parts (frames_heard c.deref.result.now) some heard
    c.in_ok-made.ensures.parts in
    let link-is = c.of-link.ensures ∙ ap link_to c.in_ok-standby.ensures in
    let link = c.send_all.new.self in
    let all = all-as c.of-link.result.standby.fixed fixed letters c.deref-2.result.now
    c.in_ok-made.made.items c.new-text.result.items c.send_all.new.text.items link
    (ap (λ (link : Link). link.standby.fixed) link-is) c.deref-2.ensures.value (record {
      sent = c.in_ok-send_all.ensures.sent;
      text_is = c.in_ok-send_all.ensures.text;
      writes = c.in_ok-send_all.ensures.written;
    }) in
    let so : IsSent fixed stream letters fail parts link = record {
      some = some;
      parts_is = parts_is;
      legal = c.in_ok-made.ensures.legal;
      sent = all.sent;
      writes = all.writes;
    } in
    let held = c.scans-held.result in
    let at = stands-at fixed stream letters fail parts link so held c.scans-held.ensures in
    at.left

pub make_scans-requires-clause-leaves : goal.make_scans-requires-clause-leaves
make_scans-requires-clause-leaves c =
    let fixed = fixed_with c.args.plan.now c.args.scan_time c.args.watchdog c.args.scans in
    let stream = c.args.stream.now in
    let letters = c.args.fates.now in
    let fail = c.args.fail in
    let some : 1 ≤ c.args.scans = omega (arith, c.requires.fails.0, c.requires.fails.1) in
    let heard = ap frames_heard c.deref.ensures.value ∙ c.in_ok-frames.ensures.frames in
    let parts = scan_parts c.in_ok-made.made.items in
    let parts_is = parts-are fixed stream fail parts (frames_heard c.deref.result.now) some heard
    c.in_ok-made.ensures.parts in
    let link-is = c.of-link.ensures ∙ ap link_to c.in_ok-standby.ensures in
    let link = c.send_all.new.self in
    let all = all-as c.of-link.result.standby.fixed fixed letters c.deref-2.result.now
    c.in_ok-made.made.items c.new-text.result.items c.send_all.new.text.items link
    (ap (λ (link : Link). link.standby.fixed) link-is) c.deref-2.ensures.value (record {
      sent = c.in_ok-send_all.ensures.sent;
      text_is = c.in_ok-send_all.ensures.text;
      writes = c.in_ok-send_all.ensures.written;
    }) in
    let so : IsSent fixed stream letters fail parts link = record {
      some = some;
      parts_is = parts_is;
      legal = c.in_ok-made.ensures.legal;
      sent = all.sent;
      writes = all.writes;
    } in
    let held = c.scans-held.result in
    let at = stands-at fixed stream letters fail parts link so held c.scans-held.ensures in
    let left = c.args.scans - held in
    let bench-is = c.into_bench-bench.ensures ∙ ap bench_of c.into_standby.ensures ∙ at.bench in
    let rest = c.frames_behind-rest.result.now in
    let rest-is : frames_heard rest ≡ drop held (frames_for fixed.plan.node stream) =
    c.frames_behind-rest.ensures
    ∙ ap (drop held) (ap frames_heard c.deref-5.ensures.value ∙ c.in_ok-frames.ensures.frames) in
    subst (λ (v : ControllerIs). LeavesScans v left) (sym bench-is)
    (leaves-there fixed stream some fail held at.within)

pub make_scans-requires-clause-few : goal.make_scans-requires-clause-few
make_scans-requires-clause-few c = λ goes.
    let fixed = fixed_with c.args.plan.now c.args.scan_time c.args.watchdog c.args.scans in
    let stream = c.args.stream.now in
    let letters = c.args.fates.now in
    let fail = c.args.fail in
    let some : 1 ≤ c.args.scans = omega (arith, c.requires.fails.0, c.requires.fails.1) in
    let heard = ap frames_heard c.deref.ensures.value ∙ c.in_ok-frames.ensures.frames in
    let parts = scan_parts c.in_ok-made.made.items in
    let parts_is = parts-are fixed stream fail parts (frames_heard c.deref.result.now) some heard
    c.in_ok-made.ensures.parts in
    let link-is = c.of-link.ensures ∙ ap link_to c.in_ok-standby.ensures in
    let link = c.send_all.new.self in
    let all = all-as c.of-link.result.standby.fixed fixed letters c.deref-2.result.now
    c.in_ok-made.made.items c.new-text.result.items c.send_all.new.text.items link
    (ap (λ (link : Link). link.standby.fixed) link-is) c.deref-2.ensures.value (record {
      sent = c.in_ok-send_all.ensures.sent;
      text_is = c.in_ok-send_all.ensures.text;
      writes = c.in_ok-send_all.ensures.written;
    }) in
    let so : IsSent fixed stream letters fail parts link = record {
      some = some;
      parts_is = parts_is;
      legal = c.in_ok-made.ensures.legal;
      sent = all.sent;
      writes = all.writes;
    } in
    let held = c.scans-held.result in
    let at = stands-at fixed stream letters fail parts link so held c.scans-held.ensures in
    let left = c.args.scans - held in
    let bench-is = c.into_bench-bench.ensures ∙ ap bench_of c.into_standby.ensures ∙ at.bench in
    let rest = c.frames_behind-rest.result.now in
    let rest-is : frames_heard rest ≡ drop held (frames_for fixed.plan.node stream) =
    c.frames_behind-rest.ensures
    ∙ ap (drop held) (ap frames_heard c.deref-5.ensures.value ∙ c.in_ok-frames.ensures.frames) in
    let few = few-there fixed stream some fail held at.within
    (subst (λ (v : ControllerIs). has_ended v ≡ false) bench-is goes) in
    let same = ap (λ (v : ControllerIs). request_count v.history) bench-is in
    let count = length-map rest frame_asked in
    let most = frames-few c.args.plan.now.node stream in
    omega (arith, few, same, count, ap length rest-is, most, c.requires.short)

pub returns : goal.returns
returns c =
    let fixed = fixed_with c.args.plan.now c.args.scan_time c.args.watchdog c.args.scans in
    let stream = c.args.stream.now in
    let letters = c.args.fates.now in
    let fail = c.args.fail in
    let some : 1 ≤ c.args.scans = omega (arith, c.requires.fails.0, c.requires.fails.1) in
    let heard = ap frames_heard c.deref.ensures.value ∙ c.in_ok-frames.ensures.frames in
    let parts = scan_parts c.in_ok-made.made.items in
    let parts_is = parts-are fixed stream fail parts (frames_heard c.deref.result.now) some heard
    c.in_ok-made.ensures.parts in
    let link-is = c.of-link.ensures ∙ ap link_to c.in_ok-standby.ensures in
    let link = c.send_all.new.self in
    let all = all-as c.of-link.result.standby.fixed fixed letters c.deref-2.result.now
    c.in_ok-made.made.items c.new-text.result.items c.send_all.new.text.items link
    (ap (λ (link : Link). link.standby.fixed) link-is) c.deref-2.ensures.value (record {
      sent = c.in_ok-send_all.ensures.sent;
      text_is = c.in_ok-send_all.ensures.text;
      writes = c.in_ok-send_all.ensures.written;
    }) in
    let so : IsSent fixed stream letters fail parts link = record {
      some = some;
      parts_is = parts_is;
      legal = c.in_ok-made.ensures.legal;
      sent = all.sent;
      writes = all.writes;
    } in
    let held = c.scans-held.result in
    let at = stands-at fixed stream letters fail parts link so held c.scans-held.ensures in
    let left = c.args.scans - held in
    let bench-is = c.into_bench-bench.ensures ∙ ap bench_of c.into_standby.ensures ∙ at.bench in
    let rest = c.frames_behind-rest.result.now in
    let rest-is : frames_heard rest ≡ drop held (frames_for fixed.plan.node stream) =
    c.frames_behind-rest.ensures
    ∙ ap (drop held) (ap frames_heard c.deref-5.ensures.value ∙ c.in_ok-frames.ensures.frames) in
    let later : scan_parts c.in_ok-later.later.items ≡ drop held (bench_parts fixed stream) =
    c.in_ok-later.ensures.parts
    ∙ ap (λ (v : ControllerIs). take left (parts_of (scans_to_come v left (frames_heard rest))))
    bench-is
    ∙ later-are fixed stream some fail held at.within (frames_heard rest) rest-is in
    let bench = c.make_scans.new.bench in
    let history_is = c.in_ok-history.ensures ∙ c.history.ensures.history in
    let same : bench.fixed ≡ fixed =
    c.in_ok-later.ensures.fixed ∙ ap (λ (v : ControllerIs). v.fixed) bench-is in
    record {
      text = c.of.ensures
          ∙ text-due fixed stream letters fail parts link so held at _
          (text-built c.new-text.result.items c.send_all.new.text.items
          c.extend_from_slice.new.self.items c.push_between.new.text.items
          c.push_scans.new.text.items c.deref-3.result.now
          (pieces_text parts (primary_pieces letters (length parts))) (switch_line held)
          (scan_parts c.deref-4.result.now) parts (scan_parts c.deref-6.result.now)
          (drop held (bench_parts fixed stream)) link.known held
          c.new-text.ensures.items all.text_is
          (c.deref-3.ensures.value ∙ c.in_ok-switch_line.ensures)
          c.in_ok-extend_from_slice.ensures.items
          (ap scan_parts c.deref-4.ensures.value) c.in_ok-push_between.ensures
          (ap scan_parts c.deref-6.ensures.value ∙ later) c.in_ok-push_scans.ensures);
      history = history-whole fixed stream some fail held at.within
          (scan_parts c.in_ok-later.later.items) c.in_ok-history.history later
          (history_is ∙ c.in_ok-later.ensures.history
          ∙ ap (λ (v : ControllerIs). v.history
          ++ parts_history (scan_parts c.in_ok-later.later.items)) bench-is);
      legal = subst (λ (fixed : Fixed). IsLegal fixed c.in_ok-history.history) same
          (subst (λ (h : List Entry). IsLegal bench.fixed h) (sym history_is)
          c.history.ensures.legal);
      in_time = timely fixed stream letters fail parts link so;
      replies = repeated fixed stream letters fail parts link so;
    }

-- A scan on the bench, and what it leaves.
use Rattle.std.proofs.Common.{◌≡◌, ℕ, ◌+◌, Bool, false, List, [], ◌∷◌, ◌++◌, refl, sym, ap, subst}
use Rattle.std.proofs.Common.{◌∙◌, append_assoc, append-nil, length, length-append, arith}
use Rattle.std.specs.Prelude.{fold, if◌then◌else◌}
use Rattle.mstr_block.specs.declared.call.CallId.{CallId}
use Rattle.controller_core.specs.declared.entry.Entry.{Entry}
use Rattle.controller_core.specs.declared.entry.Maker.TheVariants.{Communication}
use Rattle.controller_core.specs.declared.fixed.Fixed.{Fixed}
use Rattle.controller_core.specs.Controller.{AreOf, ControllerIs, IsLegal, grown, has_ended}
use Rattle.controller_core.specs.Controller.{answering, state_of}
use Rattle.controller_core.specs.Event.{peer_entry, reply_in}
use Rattle.controller_core.specs.Panel.{lines_from}
use Rattle.controller_core.specs.Replay.{ControllerState, apply, replay, start}
use Rattle.controller_core.proofs.NextEntry.{replay_append}
use Rattle.whole_scan.specs.Scans.{IsBetweenScans, MadeEvents, with_scan}
use Rattle.whole_scan.proofs.ScanSteps.{open-stop}
use Rattle.panel_session.specs.declared.line.Shown.{Shown}
use Rattle.panel_session.specs.Bench.{IsOnBench, lines_of, shown_of}
use Rattle.panel_session.specs.Scanning.{HasBegunGivingUp, HasBegunScan, after_scan, calls_ended}
use Rattle.panel_session.specs.Scanning.{scan_due, scan_entries, scan_made}
use Rattle.panel_session.specs.Serving.{NamedRequest, requests_taken}
use Rattle.panel_session.proofs.OneScan.{lines-both, made-scan}
use Rattle.panel_session.proofs.Quiet.{AreEnds, due-none, ends-front, ends-none, ends-of}
use Rattle.panel_session.proofs.Quiet.{given-ends, peer-of, requests-more, requests-same}

-- A controller behind the events of its scan.
pub record IsScanned (first v : ControllerIs) : Type 0 where
  pub fixed : v.fixed ≡ first.fixed
  pub history : v.history ≡ first.history ++ scan_due first.fixed (state_of first)
  pub requests : requests_taken v.history ≡ requests_taken first.history
  pub rests : v.reserved ≡ false
  pub between : IsBetweenScans v
  pub goes : has_ended first ≡ false

pub is-scanned : (first v : ControllerIs) → has_ended first ≡ false
    → MadeEvents (with_scan first) first v → v.reserved ≡ false → IsBetweenScans v
    → IsScanned first v
is-scanned first v goes made rests between =
    let history : v.history ≡ first.history ++ scan_due first.fixed (state_of first) =
    made.history_is
    ∙ ap (λ (ended : Bool). if ended then first.history
    else first.history ++ scan_due first.fixed (state_of first)) goes in
    record {
      fixed = made.went_on.fixed;
      history = history;
      requests = ap requests_taken history
          ∙ requests-same first.history (scan_due first.fixed (state_of first))
          (due-none first.fixed (state_of first));
      rests = rests;
      between = between;
      goes = goes;
    }

scanned-state : (first v : ControllerIs) → IsScanned first v
    → state_of v
    ≡ fold (apply first.fixed) (state_of first) (scan_due first.fixed (state_of first))
scanned-state first v scanned =
    ap (λ (fixed : Fixed). replay fixed v.history) scanned.fixed
    ∙ ap (replay first.fixed) scanned.history
    ∙ replay_append first.fixed (start first.fixed.plan) first.history
    (scan_due first.fixed (state_of first))

scan-made : (first v : ControllerIs) → IsScanned first v
    → scan_due first.fixed (state_of first) ++ calls_ended (state_of v) ≡ scan_entries first
scan-made first v scanned =
    ap (λ (s : ControllerState). scan_due first.fixed (state_of first) ++ calls_ended s)
    (scanned-state first v scanned)
    ∙ sym (ap (λ (ended : Bool). if ended then [] else scan_made first.fixed (state_of first))
    scanned.goes)

-- The bench is one again behind ends of calls.
bench-grown : (shown : Shown) (first v w : ControllerIs) (served : ℕ) (added : List Entry)
    → IsOnBench shown first served → IsScanned first v → AreEnds added
    → (AreOf Communication added → IsBetweenScans v → IsBetweenScans (grown v added v.reserved))
    → w ≡ grown v added v.reserved → IsOnBench shown w served
bench-grown shown first v w served added bench scanned ends stays is =
    subst (λ (w : ControllerIs). IsOnBench shown w served) (sym is) (record {
      shown_is = bench.shown_is ∙ ap (λ (fixed : Fixed). shown_of fixed.plan) (sym scanned.fixed);
      between = stays (ends-of added ends) scanned.between;
      rests = scanned.rests;
      served_is = bench.served_is
          ∙ sym (ap (λ (taken : List NamedRequest). length taken)
          (requests-same v.history added (ends-none added ends) ∙ scanned.requests));
    })

pub bench-ended : (shown : Shown) (first v w : ControllerIs) (served : ℕ)
    → IsOnBench shown first served → IsScanned first v
    → ((u : ControllerIs) (added : List Entry) → AreOf Communication added → IsBetweenScans u
    → IsBetweenScans (grown u added u.reserved))
    → w ≡ grown v (calls_ended (state_of v)) v.reserved → IsOnBench shown w served
bench-ended shown first v w served bench scanned stays is =
    bench-grown shown first v w served (calls_ended (state_of v)) bench scanned
    (given-ends (state_of v)) (stays v (calls_ended (state_of v))) is

pub bench-begun : (shown : Shown) (first v w : ControllerIs) (served : ℕ)
    → IsOnBench shown first served → IsScanned first v
    → ((u : ControllerIs) (added : List Entry) → AreOf Communication added → IsBetweenScans u
    → IsBetweenScans (grown u added u.reserved))
    → HasBegunGivingUp v w → IsOnBench shown w served
bench-begun shown first v w served bench scanned stays begun =
    bench-grown shown first v w served begun.front bench scanned
    (ends-front begun.front begun.rest (subst AreEnds (sym begun.made) (given-ends (state_of v))))
    (stays v begun.front) begun.is

-- Where the first entries of the scan are made, ends and all, the bench is behind them.
behind : (shown : Shown) (first v w : ControllerIs) (served : ℕ) (added : List Entry)
    → IsOnBench shown first served → IsScanned first v → w ≡ grown v added v.reserved
    → w ≡ grown first (scan_due first.fixed (state_of first) ++ added) first.reserved
behind shown first v w served added bench scanned is =
    is ∙ (λ i. record {
      fixed = scanned.fixed i;
      history = all i;
      reserved = (scanned.rests ∙ sym bench.rests) i;
    })
  where
    all : v.history ++ added ≡ first.history ++ (scan_due first.fixed (state_of first) ++ added)
    all = ap (λ (history : List Entry). history ++ added) scanned.history
        ∙ append_assoc first.history (scan_due first.fixed (state_of first)) added

-- A whole scan with all its ends.
pub scan-ended : (shown : Shown) (first v w : ControllerIs) (served : ℕ)
    → IsOnBench shown first served → IsScanned first v
    → w ≡ grown v (calls_ended (state_of v)) v.reserved → w ≡ after_scan first
scan-ended shown first v w served bench scanned is =
    behind shown first v w served (calls_ended (state_of v)) bench scanned is
    ∙ ap (λ (made : List Entry). grown first made first.reserved) (scan-made first v scanned)

-- A scan that memory cut short among its ends.
pub scan-begun : (shown : Shown) (first v w : ControllerIs) (served : ℕ)
    → IsOnBench shown first served → IsScanned first v → HasBegunGivingUp v w
    → HasBegunScan first w
scan-begun shown first v w served bench scanned begun = record {
  front = scan_due first.fixed (state_of first) ++ begun.front;
  rest = begun.rest;
  is = behind shown first v w served begun.front bench scanned begun.is;
  made = append_assoc (scan_due first.fixed (state_of first)) begun.front begun.rest
      ∙ ap (λ (added : List Entry). scan_due first.fixed (state_of first) ++ added) begun.made
      ∙ scan-made first v scanned;
  legal = begun.legal;
}

-- A scan that memory did not let begin.
pub scan-not_begun : (first w : ControllerIs) → w ≡ first → IsLegal w.fixed w.history
    → HasBegunScan first w
scan-not_begun first w same legal = record {
  front = [];
  rest = scan_entries first;
  is = same ∙ (λ i. record {
    fixed = first.fixed;
    history = sym (append-nil first.history) i;
    reserved = first.reserved;
  });
  made = refl;
  legal = legal;
}

-- A whole scan adds its one line.
pub line-more : (first : ControllerIs) → has_ended first ≡ false
    → length (lines_of (after_scan first)) ≡ length (lines_of first) + 1
line-more first goes =
    let made = scan_made first.fixed (state_of first) in
    let lines = lines_from first.fixed (state_of first) made in
    let is : after_scan first ≡ grown first made first.reserved =
    ap (λ (ended : Bool). grown first (if ended then [] else made) first.reserved) goes in
    let more : lines_of (after_scan first) ≡ lines_of first ++ lines =
    ap lines_of is
    ∙ lines-both first.fixed (start first.fixed.plan) first.history made in
    omega (
      arith,
      ap length more,
      length-append (lines_of first) lines,
      (made-scan first.fixed (state_of first) (open-stop first goes)).line,
    )

-- The bench is one again behind a request.
pub bench-served : (shown : Shown) (v w : ControllerIs) (served : ℕ) (id : CallId)
    (request : List ℕ) → IsOnBench shown v served
    → ((u : ControllerIs) (added : List Entry) → AreOf Communication added → IsBetweenScans u
    → IsBetweenScans (grown u added u.reserved))
    → w ≡ answering v id request → IsOnBench shown w (served + 1)
bench-served shown v w served id request bench stays is =
    let reply = reply_in (state_of v) request in
    subst (λ (w : ControllerIs). IsOnBench shown w (served + 1)) (sym is) (record {
      shown_is = bench.shown_is;
      between = stays v (peer_entry id request reply ∷ []) (peer-of id request reply, tt)
          bench.between;
      rests = bench.rests;
      served_is = omega (arith, bench.served_is, requests-more v id request);
    })

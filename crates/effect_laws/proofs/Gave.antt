-- An answer of a station is told by an entry of its list, and one of a port by an entry of its
-- ring; so is what a host or a controller asked.
use Rattle.std.proofs.Common.{◌≡◌, ℕ, ◌==◌, Bool, true, false, List, [], ◌∷◌, Some, None, refl}
use Rattle.std.proofs.Common.{sym, ap, ◌∙◌, subst, inl, inr, ◌⊎◌, ⊎_elim}
use Rattle.std.specs.Prelude.{Contains, if◌then◌else◌, map}
use Rattle.std.proofs.lemmas.Bool.{eq-eqb}
use Rattle.std.proofs.lemmas.List.Elements.{Contains-append_cases, Contains-push_cases}
use Rattle.mstr_block.specs.declared.call.CallId.{CallId}
use Rattle.mstr_block.specs.declared.call.MstrResult.{MstrResult}
use Rattle.ring_core.specs.declared.entry.LocalOp.{LocalOp}
use Rattle.ring_core.specs.declared.entry.RingEntry.{RingEntry}
use Rattle.ring_core.specs.declared.entry.RingEntry.TheVariants.{Post, Send, Take, Local, GiveUp}
use Rattle.ring_core.specs.declared.entry.RingEntry.TheVariants.{Pass, Leave, Join}
use Rattle.ring_core.specs.declared.frame.FrameKind.{FrameKind}
use Rattle.ring_core.specs.declared.frame.FrameKind.TheVariants.{Request}
use Rattle.ring_core.specs.declared.frame.Frame.{Frame}
use Rattle.ring_core.specs.Words.{frame_route, maker}
use Rattle.controller_core.specs.declared.call.Call.{Call}
use Rattle.controller_core.specs.declared.entry.Entry.{Entry}
use Rattle.controller_core.specs.declared.entry.Entry.TheVariants as entries
use Rattle.host_port.specs.declared.entry.HostEntry.{HostEntry}
use Rattle.host_port.specs.declared.entry.HostEntry.TheVariants as host_entries
use Rattle.tied_lists.specs.Own.{own}
use Rattle.tied_lists.specs.Items.{AHost, Answered, Asked, Called, OverNet, Items, answered_for}
use Rattle.tied_lists.specs.Items.{answered_of, asked_in, asked_of, net_ask, no_items}
use Rattle.tied_lists.specs.Items.{port_answers, reply_of, Came, Replied, outcome_of_word}
use Rattle.tied_lists.specs.Items.{request_of}
use Rattle.joint_history.specs.declared.joint.ControllerLog.{ControllerLog}
use Rattle.joint_history.specs.declared.joint.HostLog.{HostLog}
use Rattle.joint_history.specs.declared.joint.Joint.{Joint}
use Rattle.joint_history.specs.JointLaws.{IsTiedHost}
use Rattle.joint_history.specs.Reading.{answered_here, called_of, host_item_next, host_items_after}
use Rattle.joint_history.specs.Reading.{host_items_of, item_next, items_after, items_of}
use Rattle.joint_history.specs.Nets.{noted_on_rings}
use Rattle.effect_laws.specs.Answers.{ControllerAnswers, HostAnswers, PortAnswers}
use Rattle.effect_laws.proofs.Sources.{behind, here, in-map, in-none, in-own, of-map, of-mapped}
use Rattle.effect_laws.proofs.Sources.{of-own}
use Rattle.effect_laws.proofs.Words.{asked_as}

-- ---- from items back to entries

-- an entry of a controller's list tells an answer
abbrev IsPeer : Answered → Entry → Type 0
IsPeer answer e =
    (request reply : List ℕ) × (answer.request ≡ Some request) × (answer.reply ≡ Some reply)
    × (e ≡ entries.Peer answer.id request reply)

-- one of the list does
record PeerIn (h : List Entry) (answer : Answered) : Type 0 where
  entry : Entry
  there : Contains h entry
  is : IsPeer answer entry

later-peer : (e : Entry) (h : List Entry) (answer : Answered) → PeerIn h answer
    → PeerIn (e ∷ h) answer
later-peer e h answer p = record { entry = p.entry; there = behind e h p.entry p.there; is = p.is }

-- each answer with a reply is told by one
peer-in : (a : Items) (h : List Entry) (answer : Answered) (told : List ℕ)
    → answer.reply ≡ Some told
    → Contains (items_after a h).answers answer → Contains a.answers answer ⊎ PeerIn h answer
peer-in a [] answer told given there = inl there
peer-in a (e ∷ h) answer told given there =
    ⊎_elim
    (λ (old : Contains (item_next a e).answers answer). last e old)
    (λ (new : PeerIn h answer). inr (later-peer e h answer new))
    (peer-in (item_next a e) h answer told given there)
  where
    last : (x : Entry) → Contains (item_next a x).answers answer
        → Contains a.answers answer ⊎ PeerIn (x ∷ h) answer
    last entries.Begin old = inl old
    last (entries.Input row) old = inl old
    last (entries.Solve row) old = inl old
    last (entries.Output row words) old = inl old
    last entries.End old = inl old
    last entries.Fail old = inl old
    last entries.Dark old = inl old
    last (entries.Collect calls) old = inl old
    last (entries.Finish id result) old = inl old
    last (entries.Peer id request reply) old =
        let x = entries.Peer id request reply in
        ⊎_elim
        (λ (before : Contains a.answers answer). inl before)
        (λ (same : answered_here id request (Some reply) ≡ answer).
        inr (subst (λ (one : Answered). PeerIn (x ∷ h) one) same (record {
          entry = x;
          there = here x h;
          is = (request, reply, refl, refl, refl);
        })))
        (Contains-push_cases a.answers
        (answered_here id request (Some reply))
        answer old)
    last (entries.Off id request) old = ⊎_elim
        (λ (before : Contains a.answers answer). inl before)
        (λ (same : answered_here id request None ≡ answer).
        let none : None ≡ answer.reply = ap (λ (x : Answered). x.reply) same in
        let no' : None ≡ Some told = none ∙ given in absurd (cc))
        (Contains-push_cases a.answers (answered_here id request None)
        answer old)

-- an entry of a host's list tells an answer
abbrev IsServed : Answered → HostEntry → Type 0
IsServed answer e =
    (request reply : List ℕ) × (answer.request ≡ Some request) × (answer.reply ≡ Some reply)
    × (e ≡ host_entries.Served answer.id request reply)

-- one of the list does
record ServedIn (h : List HostEntry) (answer : Answered) : Type 0 where
  entry : HostEntry
  there : Contains h entry
  is : IsServed answer entry

later-served : (e : HostEntry) (h : List HostEntry) (answer : Answered) → ServedIn h answer
    → ServedIn (e ∷ h) answer
later-served e h answer p =
    record { entry = p.entry; there = behind e h p.entry p.there; is = p.is }

-- each answer is told by one
served-in : (a : Items) (h : List HostEntry) (answer : Answered)
    → Contains (host_items_after a h).answers answer
    → Contains a.answers answer ⊎ ServedIn h answer
served-in a [] answer there = inl there
served-in a (e ∷ h) answer there =
    ⊎_elim
    (λ (old : Contains (host_item_next a e).answers answer). last e old)
    (λ (new : ServedIn h answer). inr (later-served e h answer new))
    (served-in (host_item_next a e) h answer there)
  where
    last : (x : HostEntry) → Contains (host_item_next a x).answers answer
        → Contains a.answers answer ⊎ ServedIn (x ∷ h) answer
    last (host_entries.Ask id route pdu) old = inl old
    last (host_entries.Answer id result) old = inl old
    last (host_entries.Served id request reply) old =
        let x = host_entries.Served id request reply in
        ⊎_elim
        (λ (before : Contains a.answers answer). inl before)
        (λ (same : answered_here id request (Some reply) ≡ answer).
        inr (subst (λ (one : Answered). ServedIn (x ∷ h) one) same (record {
          entry = x;
          there = here x h;
          is = (request, reply, refl, refl, refl);
        })))
        (Contains-push_cases a.answers
        (answered_here id request (Some reply))
        answer old)

-- a host's list has an entry that asks this
pub record AskIn (h : List HostEntry) (asked : Asked) : Type 0 where
  pub there : Contains h (host_entries.Ask asked.id asked.route asked.pdu)

later-ask : (e : HostEntry) (h : List HostEntry) (asked : Asked) → AskIn h asked
    → AskIn (e ∷ h) asked
later-ask e h asked p = record { there = behind e h _ p.there }

-- each call of a host is that of one
pub ask-in : (a : Items) (h : List HostEntry) (c : Called) (asked : Asked) → net_ask c ≡ Some asked
    → Contains (host_items_after a h).calls c
    → Contains a.calls c ⊎ AskIn h asked
ask-in a [] c asked is there = inl there
ask-in a (e ∷ h) c asked is there =
    ⊎_elim
    (λ (old : Contains (host_item_next a e).calls c). last e old)
    (λ (new : AskIn h asked). inr (later-ask e h asked new))
    (ask-in (host_item_next a e) h c asked is there)
  where
    last : (x : HostEntry) → Contains (host_item_next a x).calls c
        → Contains a.calls c ⊎ AskIn (x ∷ h) asked
    last (host_entries.Answer id result) old = inl old
    last (host_entries.Served id request reply) old = inl old
    last (host_entries.Ask id route pdu) old =
        let x = host_entries.Ask id route pdu in
        ⊎_elim
        (λ (before : Contains a.calls c). inl before)
        (λ (same : record { id = id; sort = OverNet route pdu } ≡ c).
        let this : Asked = record { id = id; route = route; pdu = pdu } in
        let both : Some this ≡ Some asked = ap net_ask same ∙ is in
        let one : this ≡ asked = cc in
        inr (subst (λ (y : Asked). AskIn (x ∷ h) y) one (record { there = here x h })))
        (Contains-push_cases a.calls (record { id = id; sort = OverNet route pdu }) c old)

-- a controller's list has an entry by which it made this call
pub record CollectIn (h : List Entry) (c : Called) : Type 0 where
  pub calls : List Call
  pub there : Contains h (entries.Collect calls)
  pub call : Call
  pub among : Contains calls call
  pub is : called_of call ≡ c

later-collect : (e : Entry) (h : List Entry) (c : Called) → CollectIn h c → CollectIn (e ∷ h) c
later-collect e h c p = record {
  calls = p.calls;
  there = behind e h (entries.Collect p.calls) p.there;
  call = p.call;
  among = p.among;
  is = p.is;
}

-- each call of a controller was made by one
pub call-in : (a : Items) (h : List Entry) (c : Called) → Contains (items_after a h).calls c
    → Contains a.calls c ⊎ CollectIn h c
call-in a [] c there = inl there
call-in a (e ∷ h) c there =
    ⊎_elim
    (λ (old : Contains (item_next a e).calls c). last e old)
    (λ (new : CollectIn h c). inr (later-collect e h c new))
    (call-in (item_next a e) h c there)
  where
    last : (x : Entry) → Contains (item_next a x).calls c
        → Contains a.calls c ⊎ CollectIn (x ∷ h) c
    last entries.Begin old = inl old
    last (entries.Input row) old = inl old
    last (entries.Solve row) old = inl old
    last (entries.Output row words) old = inl old
    last entries.End old = inl old
    last entries.Fail old = inl old
    last entries.Dark old = inl old
    last (entries.Peer id request reply) old = inl old
    last (entries.Off id request) old = inl old
    last (entries.Finish id result) old = inl old
    last (entries.Collect calls) old = ⊎_elim
        (λ (before : Contains a.calls c). inl before)
        (λ (new : Contains (map called_of calls) c).
        let found = of-mapped called_of calls c new in
        inr (record {
          calls = calls;
          there = here (entries.Collect calls) h;
          call = found.0;
          among = found.1;
          is = found.2;
        }))
        (Contains-append_cases a.calls (map called_of calls) c old)

-- an entry of a ring tells an answer of a port
record PortIn (e : RingEntry) (answer : Answered) : Type 0 where
  node : ℕ
  op : LocalOp
  result : MstrResult
  is : e ≡ Local node answer.id op result
  asked : request_of op ≡ answer.request
  told : Some (reply_of result) ≡ answer.reply

port-for : (n : ℕ) (id : CallId) (op : LocalOp) (result : MstrResult) (answer : Answered)
    → answered_for n id op result ≡ Some answer
    → PortIn (Local n id op result) answer
port-for n id op result answer is = at (id.node == n) is
  where
    this : Answered
    this =
        record { id = id; rest = []; request = request_of op; reply = Some (reply_of result) }

    at : (b : Bool) → (if b then None else Some this) ≡ Some answer
        → PortIn (Local n id op result) answer
    at true is' = absurd cc
    at false is' =
        let same : this ≡ answer = cc in
        subst (λ (one : Answered). PortIn (Local n id op result) one) same (record {
          node = n;
          op = op;
          result = result;
          is = refl;
          asked = refl;
          told = refl;
        })

-- each answer of a port is told by one
port-in : (e : RingEntry) (answer : Answered) → answered_of e ≡ Some answer → PortIn e answer
port-in (Post n f) answer is = absurd cc
port-in (Send n heard) answer is = absurd cc
port-in (Take n f) answer is = absurd cc
port-in (Local n id op result) answer is = port-for n id op result answer is
port-in (GiveUp id word) answer is = absurd cc
port-in (Pass n done words) answer is = absurd cc
port-in (Leave n cause) answer is = absurd cc
port-in (Join n) answer is = absurd cc

-- ---- who posted a Reply gave it

some-same : (one other : List ℕ) → Some one ≡ Some other → one ≡ other
some-same one other is = cc

-- an answer of a port is one of its node
pub port-gave : (joint : Joint) (n : ℕ) (answer : Answered) (request reply : List ℕ)
    → Contains (port_answers (own n (noted_on_rings joint))) answer
    → answer.request ≡ Some request → answer.reply ≡ Some reply
    → PortAnswers joint n answer.id request reply
port-gave joint n answer request reply there asked told =
    let found = of-map answered_of (own n (noted_on_rings joint)) answer there in
    let p = port-in found.0 answer found.2 in
    let at = of-own n (noted_on_rings joint) found.0 found.1 in
    let node : p.node ≡ n = ap maker (sym p.is) ∙ at.1 in (
      p.op,
      p.result,
      subst (λ (k : ℕ). Contains (noted_on_rings joint) (Local k answer.id p.op p.result)) node
          (subst (λ (e : RingEntry). Contains (noted_on_rings joint) e) p.is at.0),
      p.asked ∙ asked,
      some-same (reply_of p.result) reply (p.told ∙ told),
    )

-- so is one of a controller
pub controller-gave : (joint : Joint) (log : ControllerLog) (answer : Answered)
    (request reply : List ℕ) → Contains joint.controllers log
    → Contains (items_of log.entries).answers answer → answer.request ≡ Some request
    → answer.reply ≡ Some reply → ControllerAnswers joint log.node answer.id request reply
controller-gave joint log answer request reply there among asked told =
    ⊎_elim
    (λ (none : Contains {X = Answered} [] answer). absurd (in-none answer none))
    (λ (p : PeerIn log.entries answer).
    let same = some-same p.is.0 request (sym p.is.2 ∙ asked) in
    let given = some-same p.is.1 reply (sym p.is.3 ∙ told) in (
      log,
      there,
      refl,
      subst (λ (l : List ℕ). Contains log.entries (entries.Peer answer.id l reply)) same
          (subst (λ (l : List ℕ). Contains log.entries (entries.Peer answer.id p.is.0 l)) given
          (subst (λ (e : Entry). Contains log.entries e) p.is.4 p.there)),
    ))
    (peer-in no_items log.entries answer reply told among)

-- so is one of a host
pub host-gave : (joint : Joint) (log : HostLog) (answer : Answered) (request reply : List ℕ)
    → Contains joint.hosts log
    → Contains (host_items_of log.entries).answers answer → answer.request ≡ Some request
    → answer.reply ≡ Some reply → HostAnswers joint log.node answer.id request reply
host-gave joint log answer request reply there among asked told =
    ⊎_elim
    (λ (none : Contains {X = Answered} [] answer). absurd (in-none answer none))
    (λ (p : ServedIn log.entries answer).
    let same = some-same p.is.0 request (sym p.is.2 ∙ asked) in
    let given = some-same p.is.1 reply (sym p.is.3 ∙ told) in (
      log,
      there,
      refl,
      subst (λ (l : List ℕ). Contains log.entries (host_entries.Served answer.id l reply)) same
          (subst (λ (l : List ℕ). Contains log.entries
          (host_entries.Served answer.id p.is.0 l)) given
          (subst (λ (e : HostEntry). Contains log.entries e) p.is.4 p.there)),
    ))
    (served-in no_items log.entries answer among)

-- what a host's node posted the host asked
pub asked-own : (joint : Joint) (log : HostLog) (m : ℕ) (request : Frame)
    → IsTiedHost (noted_on_rings joint) log
    → m ≡ log.node → request.kind ≡ Request
    → Contains (noted_on_rings joint) (Post m request)
    → Contains log.entries (host_entries.Ask request.id (frame_route request) request.pdu)
asked-own joint log m request tied node kind posted =
    let n = log.node in
    let b = own n (noted_on_rings joint) in
    let a = host_items_of log.entries in
    let asked : Asked = asked_as request in
    let mine = in-own n (noted_on_rings joint) (Post m request) (eq-eqb m n node) posted in
    let among = in-map asked_of b (Post m request) asked
    (ap (λ (k : FrameKind). asked_in k request) kind) mine in
    let called = of-map net_ask a.calls asked
    (subst (λ (l : List Asked). Contains l asked) tied.asks among) in
    ⊎_elim
    (λ (none : Contains {X = Called} [] called.0). absurd (in-none called.0 none))
    (λ (p : AskIn log.entries asked). p.there)
    (ask-in no_items log.entries called.0 asked called.2 called.1)

-- outcomes that are replies are the same where the replies are; no word and no result is one
pub replied-same : (one other : List ℕ) → Replied one ≡ Replied other → one ≡ other
replied-same one other is = cc

pub word-no_reply : (word : ℕ) (pdu : List ℕ) → outcome_of_word AHost word ≡ Replied pdu → ⊥
word-no_reply word pdu is = cc

pub came-no_reply : (result : MstrResult) (pdu : List ℕ) → Came result ≡ Replied pdu → ⊥
came-no_reply result pdu is = cc

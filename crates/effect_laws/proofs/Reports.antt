-- The ends that a list tells, and where a Reply comes from that a node posted.
use Rattle.std.proofs.Common.{◌≡◌, ℕ, ◌≤◌, Some, List, [], ◌∷◌, refl, sym, ap, ◌∙◌, subst, ◌⊎◌}
use Rattle.std.proofs.Common.{⊎_elim, arith}
use Rattle.std.specs.Prelude.{Contains}
use Rattle.std.proofs.lemmas.Bool.{and_from, eq-eqb}
use Rattle.std.proofs.lemmas.List.Elements.{Contains-append_left, Contains-push}
use Rattle.mstr_block.specs.declared.call.CallId.{CallId}
use Rattle.mstr_block.specs.declared.call.MstrResult.{MstrResult}
use Rattle.ring_core.specs.declared.entry.RingEntry.{RingEntry}
use Rattle.ring_core.specs.declared.entry.RingEntry.TheVariants.{Post, Take}
use Rattle.ring_core.specs.declared.frame.FrameKind.{FrameKind}
use Rattle.ring_core.specs.declared.frame.FrameKind.TheVariants.{Request, Reply}
use Rattle.ring_core.specs.declared.frame.Frame.{Frame}
use Rattle.ring_laws.proofs.Lists.{contains-count, same-refl}
use Rattle.controller_core.specs.declared.entry.Entry.{Entry}
use Rattle.controller_core.specs.declared.entry.Entry.TheVariants as entries
use Rattle.host_port.specs.declared.entry.HostEntry.{HostEntry}
use Rattle.host_port.specs.declared.entry.HostEntry.TheVariants as host_entries
use Rattle.host_port.specs.declared.entry.HostResult.{HostResult}
use Rattle.tied_lists.specs.Own.{is_of, own}
use Rattle.tied_lists.specs.Items.{Answered, Came, Ended, Item, Items, Outcome, Station, no_items}
use Rattle.tied_lists.specs.Items.{port_answers, replied_in, replied_of, taken_by, taken_of}
use Rattle.tied_lists.specs.Tied.{Tied}
use Rattle.joint_history.specs.declared.joint.Joint.{Joint}
use Rattle.joint_history.specs.Effects.{answers, answers_to, effects, has_reply}
use Rattle.ring_core.specs.Words.{is_same_call}
use Rattle.tied_lists.proofs.Boxes.{count-filter}
use Rattle.joint_history.specs.Reading.{host_item_next, host_items_after, host_items_of, item_next}
use Rattle.joint_history.specs.Reading.{items_after, items_of, outcome_of}
use Rattle.joint_history.specs.Nets.{noted_on_rings}
use Rattle.effect_laws.proofs.Homes.{effects-are}
use Rattle.effect_laws.proofs.Served.{is_answer, for_others}
use Rattle.effect_laws.specs.Served.{serves_another}
use Rattle.effect_laws.proofs.Sources.{first-or-behind, in-map, in-none, in-own, of-map, of-own}
use Rattle.effect_laws.proofs.Sources.{source-of, take-of}
use Rattle.std.specs.List.{count_by}

-- ---- the ends that a list tells

-- a list of ends has one of this call, with this outcome
pub record Told (ends : List Ended) (id : CallId) (outcome : Outcome) : Type 0 where
  pub end' : Ended
  pub there : Contains ends end'
  pub id_is : end'.id ≡ id
  pub outcome_is : end'.outcome ≡ outcome

ends-grow : (a : Items) (e : Entry) (end' : Ended) → Contains a.ends end'
    → Contains (item_next a e).ends end'
ends-grow a entries.Begin end' there = there
ends-grow a (entries.Input row) end' there = there
ends-grow a (entries.Solve row) end' there = there
ends-grow a (entries.Output row words) end' there = there
ends-grow a entries.End end' there = there
ends-grow a entries.Fail end' there = there
ends-grow a entries.Dark end' there = there
ends-grow a (entries.Collect calls) end' there = there
ends-grow a (entries.Peer id request reply) end' there = there
ends-grow a (entries.Off id request) end' there = there
ends-grow a (entries.Finish id result) end' there = Contains-append_left a.ends _ end' there

ends-stay : (a : Items) (h : List Entry) (end' : Ended) → Contains a.ends end'
    → Contains (items_after a h).ends end'
ends-stay a [] end' there = there
ends-stay a (e ∷ h) end' there = ends-stay (item_next a e) h end' (ends-grow a e end' there)

finish-told : (a : Items) (h : List Entry) (id : CallId) (result : MstrResult)
    → Contains h (entries.Finish id result)
    → Told (items_after a h).ends id (Came result)
finish-told a [] id result there = absurd (in-none _ there)
finish-told a (e ∷ h) id result there =
    ⊎_elim
    (λ (is : e ≡ entries.Finish id result).
    let next = item_next a (entries.Finish id result) in
    subst (λ (x : Entry). Told (items_after (item_next a x) h).ends id (Came result)) (sym is)
    (record {
      end' = _;
      there = ends-stay next h _ (Contains-push a.ends _);
      id_is = refl;
      outcome_is = refl;
    }))
    (λ (more : Contains h (entries.Finish id result)). finish-told (item_next a e) h id result
    more)
    (first-or-behind e h _ there)

pub finish-ends : (h : List Entry) (id : CallId) (result : MstrResult)
    → Contains h (entries.Finish id result) → Told (items_of h).ends id (Came result)
finish-ends h id result there = finish-told no_items h id result there

host-ends-grow : (a : Items) (e : HostEntry) (end' : Ended) → Contains a.ends end'
    → Contains (host_item_next a e).ends end'
host-ends-grow a (host_entries.Ask id route pdu) end' there = there
host-ends-grow a (host_entries.Answer id result) end' there =
    Contains-append_left a.ends _ end' there
host-ends-grow a (host_entries.Served id request reply) end' there = there

host-ends-stay : (a : Items) (h : List HostEntry) (end' : Ended) → Contains a.ends end'
    → Contains (host_items_after a h).ends end'
host-ends-stay a [] end' there = there
host-ends-stay a (e ∷ h) end' there =
    host-ends-stay (host_item_next a e) h end' (host-ends-grow a e end' there)

answer-told : (a : Items) (h : List HostEntry) (id : CallId) (result : HostResult)
    → Contains h (host_entries.Answer id result)
    → Told (host_items_after a h).ends id (outcome_of result)
answer-told a [] id result there = absurd (in-none _ there)
answer-told a (e ∷ h) id result there =
    ⊎_elim
    (λ (is : e ≡ host_entries.Answer id result).
    let next = host_item_next a (host_entries.Answer id result) in
    subst (λ (x : HostEntry). Told (host_items_after (host_item_next a x) h).ends id
    (outcome_of result)) (sym is) (record {
      end' = _;
      there = host-ends-stay next h _ (Contains-push a.ends _);
      id_is = refl;
      outcome_is = refl;
    }))
    (λ (more : Contains h (host_entries.Answer id result)). answer-told (host_item_next a e) h id
    result more)
    (first-or-behind e h _ there)

pub answer-ends : (h : List HostEntry) (id : CallId) (result : HostResult)
    → Contains h (host_entries.Answer id result)
    → Told (host_items_of h).ends id (outcome_of result)
answer-ends h id result there = answer-told no_items h id result there

-- ---- replies come from those that took the Request

replied-as : (kind : FrameKind) (f : Frame) → kind ≡ Reply
    → replied_in kind f ≡ Some (f.id, Some f.pdu)
replied-as kind f is = ap (λ (k : FrameKind). replied_in k f) is

-- a Reply that a node posted, and the Request that it took
pub record Origin (items : Items) (ring : List RingEntry) (n : ℕ) (reply : Frame) : Type 0 where
  pub answer : Answered
  pub among : Contains items.answers answer ⊎ Contains (port_answers (own n ring)) answer
  pub told : answer.reply ≡ Some reply.pdu
  pub request : Frame
  pub taken : Contains ring (Take n request)
  pub kind : request.kind ≡ Request
  pub same : request.id ≡ reply.id
  pub asked : answer.request ≡ Some request.pdu
  pub named : answer.id ≡ reply.id

pub origin-in : (ring : List RingEntry) (n : ℕ) (f : Frame) (station : Station) (a : Items)
    → Tied station a (own n ring)
    → Contains ring (Post n f) → f.kind ≡ Reply → Origin a ring n f
origin-in ring n f station a tied there kind =
    let b = own n ring in
    let posted = in-own n ring (Post n f) (eq-eqb n n refl) there in
    let replied = in-map replied_of b (Post n f) (f.id, Some f.pdu) (replied-as f.kind f kind)
    posted in
    let due = subst (λ (l : List Item). Contains l (f.id, Some f.pdu)) tied.replies replied in
    let s = source-of (taken_by b) f.id f.pdu a.answers (port_answers b) tied.peers tied.port
    due in
    let found = of-map taken_of b s.request s.taken in
    let t = take-of found.0 s.request found.2 in
    let entry : Contains b (Take t.node t.frame) = subst (λ (e : RingEntry). Contains b e) t.is
    found.1 in
    let in_ring = of-own n ring (Take t.node t.frame) entry in
    record {
      answer = s.answer;
      among = s.among;
      told = s.reply;
      request = t.frame;
      taken = subst (λ (k : ℕ). Contains ring (Take k t.frame)) in_ring.1 in_ring.0;
      kind = t.kind;
      same = t.id ∙ s.name;
      asked = s.asked ∙ ap (λ l. Some l) (sym t.pdu);
      named = s.named;
    }

-- what a station answered with a reply took effect
pub station-served : (items : Items) (answer : Answered) (id : CallId) (pdu : List ℕ)
    → Contains items.answers answer
    → answer.id ≡ id → answer.reply ≡ Some pdu → 1 ≤ answers_to id items
station-served items answer id pdu there named told =
    contains-count (answers id) items.answers answer
    (and_from _ _ (ap (λ (i : CallId). is_same_call i id) named ∙ same-refl id)
    (ap has_reply told)) there

-- what a port answered took effect
pub port-effect : (joint : Joint) (n : ℕ) (id : CallId)
    → 1 ≤ count_by (is_answer id) (port_answers (own n (noted_on_rings joint)))
    → 1 ≤ effects joint id
port-effect joint n id some =
    let own_served = for_others id (own n (noted_on_rings joint)) in
    let most = count-filter (serves_another id) (is_of n) (noted_on_rings joint) in
    let all = effects-are joint id in
    omega (arith, some, own_served, most, all)

pub port-served : (joint : Joint) (n : ℕ) (answer : Answered) (id : CallId)
    → Contains (port_answers (own n (noted_on_rings joint))) answer → answer.id ≡ id
    → 1 ≤ effects joint id
port-served joint n answer id there named =
    port-effect joint n id (contains-count (is_answer id)
    (port_answers (own n (noted_on_rings joint))) answer
    (ap (λ (i : CallId). is_same_call i id) named ∙ same-refl id) there)

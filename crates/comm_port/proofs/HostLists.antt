-- A host's list and the list of its node, as both go on.
use Rattle.std.proofs.Common.{◌≡◌, ◌+◌, ◌==◌, ◌||◌, ℕ, Bool, true, false, not, cond}
use Rattle.std.proofs.Common.{List, [], ◌∷◌, ◌++◌, Option, Some, None, refl, sym, ap}
use Rattle.std.proofs.Common.{◌∙◌, inl, inr, append_assoc, append-nil, arith}
use Rattle.std.specs.Prelude.{if◌then◌else◌}
use Rattle.std.specs.List.{filter, filter_map, list_any}
use Rattle.std.proofs.lemmas.Bool.{cases_Bool, eqb-true}
use Rattle.plant_types.specs.declared.net.HostPlan.{HostPlan}
use Rattle.mstr_block.specs.declared.call.CallId.{CallId}
use Rattle.mstr_block.specs.Call.{is_same_call}
use Rattle.ring_core.specs.declared.frame.FrameKind.{FrameKind}
use Rattle.ring_core.specs.declared.frame.FrameKind.TheVariants.{Request, Reply}
use Rattle.ring_core.specs.declared.frame.Frame.{Frame}
use Rattle.ring_core.specs.declared.entry.RingEntry.{RingEntry}
use Rattle.ring_core.specs.Words.{frame_route}
use Rattle.ring_core.specs.declared.entry.RingEntry.TheVariants.{Post, Take, GiveUp}
use Rattle.host_port.specs.declared.entry.HostEntry.{HostEntry}
use Rattle.host_port.specs.declared.entry.HostEntry.TheVariants.{Ask, Answer, Served}
use Rattle.host_port.specs.declared.entry.HostResult.{HostResult}
use Rattle.host_port.specs.Calls.{requests_in, has_answer, is_request_of}
use Rattle.host_port.specs.Calls.{is_unanswered, asked_on}
use Rattle.host_port.specs.Legal.{IsHostHistory}
use Rattle.host_port.proofs.OpenRequests.{open_requests}
use Rattle.tied_lists.specs.Items.{Called, OverNet, Items, NetCall, kind_in, no_items}
use Rattle.tied_lists.specs.Waits.{waiting, waits_next, last_number, number_next}
use Rattle.tied_lists.proofs.Paths.{waiting-push, number-push}
use Rattle.joint_history.specs.Reading.{host_item_next, host_items_after, host_items_of}
use Rattle.comm_port.specs.HostTurns.{PathsAgree}

-- ---- the items

items_push : (a : Items) (h : List HostEntry) (e : HostEntry)
    → host_items_after a (h ++ e ∷ []) ≡ host_item_next (host_items_after a h) e
items_push a [] e = refl
items_push a (x ∷ h) e = items_push (host_item_next a x) h e

pub items_with : (h : List HostEntry) (e : HostEntry)
    → host_items_of (h ++ e ∷ []) ≡ host_item_next (host_items_of h) e
items_with h e = items_push no_items h e

-- each call of a host asks another node
abbrev called_by : HostEntry → Option Called
called_by (Ask id route pdu) = Some (record { id = id; sort = OverNet route pdu })
called_by (Answer id result) = None
called_by (Served id request reply) = None

calls_after : (a : Items) (h : List HostEntry)
    → (host_items_after a h).calls ≡ a.calls ++ filter_map called_by h
calls_after a [] = sym (append-nil a.calls)
calls_after a (Ask id route pdu ∷ h) =
    let c : Called = record { id = id; sort = OverNet route pdu } in
    calls_after (host_item_next a (Ask id route pdu)) h ∙ append_assoc a.calls (c ∷ [])
    (filter_map called_by h)
calls_after a (Answer id result ∷ h) = calls_after (host_item_next a (Answer id result)) h
calls_after a (Served id request reply ∷ h) = calls_after
    (host_item_next a (Served id request reply)) h

kind_found : (id : CallId) (h : List HostEntry) → list_any (is_request_of id) (requests_in h) ≡ true
    → kind_in (filter_map called_by h) id ≡ Some NetCall
kind_found id [] any = absurd cc
kind_found id (Ask made route pdu ∷ h) any = elim (cases_Bool (is_same_call made id)) [
  | inl same ↦ ap (λ b. if b then Some NetCall else kind_in (filter_map called_by h) id) same
  | inr other ↦
      ap (λ b. if b then Some NetCall else kind_in (filter_map called_by h) id) other
      ∙ kind_found id h
      (ap (λ b. b || list_any (is_request_of id) (requests_in h)) (sym other) ∙ any)
]
kind_found id (Answer ended result ∷ h) any = kind_found id h any
kind_found id (Served asked request reply ∷ h) any = kind_found id h any

any_kept : (test keeps : Frame → Bool) (xs : List Frame) → list_any test (filter keeps xs) ≡ true
    → list_any test xs ≡ true
any_kept test keeps [] any = any
any_kept test keeps (x ∷ xs) any = elim (cases_Bool (test x)) [
  | inl passes ↦ ap (λ b. b || list_any test xs) passes
  | inr fails ↦
      let rest = filter keeps xs in
      let same = λ (b : Bool). list_any test (cond b (x ∷ rest) rest) in
      let left : list_any test rest ≡ true = elim (cases_Bool (keeps x)) [
        | inl kept ↦ ap (λ b. b || list_any test rest) (sym fails) ∙ sym (ap same kept) ∙ any
        | inr gone ↦ sym (ap same gone) ∙ any
      ] in
      ap (λ b. b || list_any test xs) fails ∙ any_kept test keeps xs left
]

pub made_net : (h : List HostEntry) (id : CallId) → is_unanswered h id ≡ true
    → kind_in (host_items_of h).calls id ≡ Some NetCall
made_net h id out =
    ap (λ l. kind_in l id) (calls_after no_items h)
    ∙ kind_found id h
    (any_kept (is_request_of id) (λ r. not (has_answer h r.id)) (requests_in h) out)

-- ---- the paths

-- a Request that is asked and posted
number_asked : (b : Bool) (seq now k n : ℕ) → seq ≡ k + 1 → (b ≡ true → k ≡ n) → now ≡ n
    → (if b then seq else now) ≡ n + (if b then 1 else 0)
number_asked true seq now k n is here same = is ∙ ap (λ m. m + 1) (here refl)
number_asked false seq now k n is here same = omega arith

pub agree_asked : (plan : HostPlan) (h : List HostEntry) (b : List RingEntry) (n : ℕ) (f : Frame)
    → f.kind ≡ Request
    → IsHostHistory plan (h ++ Ask f.id (frame_route f) f.pdu ∷ []) → PathsAgree h b
    → PathsAgree (h ++ Ask f.id (frame_route f) f.pdu ∷ []) (b ++ Post n f ∷ [])
agree_asked plan h b n f kind legal agree =
    let new = open_requests.new plan h f.id (frame_route f) f.pdu legal in
    let seq : f.id.seq ≡ asked_on h f.id.path + 1 = ap (λ (i : CallId). i.seq) new.name in
    record {
      waits = λ p.
          waiting-push p b (Post n f) ∙ ap (λ (k : FrameKind). waits_next p (waiting p b) (Post n
          (record { kind = k; to = f.to; rest = f.rest; id = f.id; pdu = f.pdu }))) kind
          ∙ ap (λ (now : Option Frame). if f.id.path == p then Some
          (record { kind = Request; to = f.to; rest = f.rest; id = f.id; pdu = f.pdu }) else now)
          (agree.waits p)
          ∙ sym (open_requests.asks plan h f.id (frame_route f) f.pdu p legal);
      numbers = λ p.
          number-push p b (Post n f) ∙ ap
          (λ (k : FrameKind). number_next p (last_number p b) (Post n
          (record { kind = k; to = f.to; rest = f.rest; id = f.id; pdu = f.pdu }))) kind
          ∙ number_asked (f.id.path == p) f.id.seq (last_number p b) (asked_on h f.id.path)
          (asked_on h p) seq
          (λ is. ap (asked_on h) (eqb-true f.id.path p is)) (agree.numbers p)
          ∙ sym (open_requests.counts.asks h f.id (frame_route f) f.pdu p);
    }

-- a call that ended
ended_by_entry : (plan : HostPlan) (h : List HostEntry) (b : List RingEntry) (e : RingEntry)
    (id : CallId) (result : HostResult)
    → ((p : ℕ) (now : Option Frame) → waits_next p now e ≡ (if id.path == p then None else now))
    → ((p now : ℕ) → number_next p now e ≡ now)
    → IsHostHistory plan (h ++ Answer id result ∷ []) → PathsAgree h b
    → PathsAgree (h ++ Answer id result ∷ []) (b ++ e ∷ [])
ended_by_entry plan h b e id result waits numbers legal agree = record {
  waits = λ p. waiting-push p b e ∙ waits p (waiting p b) ∙ ap
      (λ (now : Option Frame). if id.path == p then None else now) (agree.waits p)
      ∙ sym (open_requests.answers plan h id result p legal);
  numbers = λ p. number-push p b e ∙ numbers p (last_number p b) ∙ agree.numbers p ∙ sym
      (open_requests.counts.answers h id result p);
}

pub agree_got : (plan : HostPlan) (h : List HostEntry) (b : List RingEntry) (n : ℕ) (f : Frame)
    (result : HostResult) → f.kind ≡ Reply
    → IsHostHistory plan (h ++ Answer f.id result ∷ []) → PathsAgree h b
    → PathsAgree (h ++ Answer f.id result ∷ []) (b ++ Take n f ∷ [])
agree_got plan h b n f result kind =
    ended_by_entry plan h b (Take n f) f.id result
    (λ p now. ap (λ (k : FrameKind). waits_next p now
    (Take n (record { kind = k; to = f.to; rest = f.rest; id = f.id; pdu = f.pdu }))) kind)
    (λ p now. refl)

pub agree_given_up : (plan : HostPlan) (h : List HostEntry) (b : List RingEntry) (id : CallId)
    (word : ℕ) (result : HostResult)
    → IsHostHistory plan (h ++ Answer id result ∷ []) → PathsAgree h b
    → PathsAgree (h ++ Answer id result ∷ []) (b ++ GiveUp id word ∷ [])
agree_given_up plan h b id word result = ended_by_entry plan h b (GiveUp id word) id result
    (λ p now. refl) (λ p now. refl)

-- entries of the node that say nothing of its own calls
pub agree_still : (h : List HostEntry) (b : List RingEntry) (e : RingEntry)
    → ((p : ℕ) (now : Option Frame) → waits_next p now e ≡
    now) → ((p now : ℕ) → number_next p now e ≡ now)
    → PathsAgree h b → PathsAgree h (b ++ e ∷ [])
agree_still h b e waits numbers agree = record {
  waits = λ p. waiting-push p b e ∙ waits p (waiting p b) ∙ agree.waits p;
  numbers = λ p. number-push p b e ∙ numbers p (last_number p b) ∙ agree.numbers p;
}

pub agree_taken : (h : List HostEntry) (b : List RingEntry) (n : ℕ) (f : Frame) → f.kind ≡ Request
    → PathsAgree h b → PathsAgree h (b ++ Take n f ∷ [])
agree_taken h b n f kind =
    agree_still h b (Take n f) (λ p now. ap (λ (k : FrameKind). waits_next p now
    (Take n (record { kind = k; to = f.to; rest = f.rest; id = f.id; pdu = f.pdu }))) kind)
    (λ p now. refl)

pub agree_replied : (h : List HostEntry) (b : List RingEntry) (n : ℕ) (f : Frame) → f.kind ≡ Reply
    → PathsAgree h b → PathsAgree h (b ++ Post n f ∷ [])
agree_replied h b n f kind =
    agree_still h b (Post n f) (λ p now. ap
    (λ (k : FrameKind). waits_next p now
    (Post n (record { kind = k; to = f.to; rest = f.rest; id = f.id; pdu = f.pdu }))) kind)
    (λ p now. ap (λ (k : FrameKind). number_next p now
    (Post n (record { kind = k; to = f.to; rest = f.rest; id = f.id; pdu = f.pdu }))) kind)

pub agree_served : (h : List HostEntry) (b : List RingEntry) (id : CallId) (request reply : List ℕ)
    → PathsAgree h b → PathsAgree
    (h ++ Served id request reply ∷ []) b
agree_served h b id request reply agree = record {
  waits = λ p. agree.waits p ∙ sym (open_requests.serving h id request reply p);
  numbers = λ p. agree.numbers p ∙ sym (open_requests.counts.serving h id request reply p);
}

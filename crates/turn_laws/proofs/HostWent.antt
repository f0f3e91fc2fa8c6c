-- What the parts of a host's turn add to its lists.
use Rattle.std.proofs.Common.{◌≡◌, ℕ, ◌+◌, ◌≤◌, Bool, true, false, cond, nat_le}
use Rattle.std.proofs.Common.{List, [], ◌∷◌, ◌++◌, map, filter_map, length, Option, Some}
use Rattle.std.proofs.Common.{None}
use Rattle.std.proofs.Common.{refl, sym, ap, subst, ◌∙◌, arith, append_assoc, append-nil}
use Rattle.std.proofs.Common.{length-append}
use Rattle.std.specs.Prelude.{if◌then◌else◌, slice_get}
use Rattle.std.specs.List.{AllZip, cons_option, count_by, flat_map, AllByRecursion as Each}
use Rattle.std.proofs.lemmas.Bool.{leb-true}
use Rattle.std.proofs.lemmas.List.Elements.{filter_map-append}
use Rattle.std.proofs.lemmas.List.Sums.{sum_by-append}
use Rattle.mstr_block.specs.declared.call.CallId.{CallId}
use Rattle.plant_types.specs.declared.net.HostAsk.{HostAsk}
use Rattle.plant_types.specs.declared.net.HostPlan.{HostPlan}
use Rattle.plant_types.specs.declared.net.NetPlan.{NetPlan}
use Rattle.ring_core.specs.declared.entry.RingEntry.{RingEntry}
use Rattle.ring_core.specs.declared.entry.RingEntry.TheVariants.{Post, Send, Take, Local, GiveUp}
use Rattle.ring_core.specs.declared.entry.RingEntry.TheVariants.{Pass, Leave, Join}
use Rattle.ring_core.specs.declared.frame.FrameKind.{FrameKind}
use Rattle.ring_core.specs.declared.frame.FrameKind.TheVariants.{Request, Reply}
use Rattle.ring_core.specs.declared.frame.Frame.{Frame}
use Rattle.ring_core.specs.Statistics.{is_for_stats}
use Rattle.ring_core.specs.Words.{frame_route}
use Rattle.host_port.specs.declared.entry.HostEntry.{HostEntry}
use Rattle.host_port.specs.Calls.{next_host_call, request_by, requests_in}
use Rattle.host_port.specs.Host.{HostIs, due_ask, due_request, if_due, next_ask, request_for}
use Rattle.tied_lists.specs.Items.{asked_by, asked_in, asked_of}
use Rattle.tied_lists.specs.Own.{is_of, own, Grew}
use Rattle.tied_lists.proofs.Boxes.{count-cons}
use Rattle.tied_lists.proofs.Growth.{grew-ours}
use Rattle.joint_history.specs.Complete.{AsksAllBeforeDone, AsksInItsHolds, is_pass}
use Rattle.comm_port.specs.HostTurns.{AsksAllDue, GivenUp, GivesUpDue, HoldsHostTurn}
use Rattle.comm_port.specs.HostTurns.{hold_of, host_cause, went_on}
use Rattle.comm_port.specs.SendsAll.{IsNextSending}
use Rattle.comm_port.proofs.Parts.{each-added}
use Rattle.comm_port.specs.Leaving.{last_entry}
use Rattle.ring_core.specs.Scratch.{words_put}
use Rattle.host_port.specs.Host.{host_is_done}
use Rattle.mstr_block.specs.Table.{network_paths}
use Rattle.comm_port.specs.HostTurns.{SendsOut, ServesFrame, ServesInbox, ServesKind, ServesRequest}
use Rattle.comm_port.specs.HostTurns.{ask_entry_of, bad_answer_of, bad_answer_to, give_up_of}
use Rattle.comm_port.specs.Giving.{inbox_of}
use Rattle.comm_port.specs.HostTurns.{host_at, host_notes_of, host_notes_of_kind}
use Rattle.comm_port.specs.HostTurns.{host_notes_of_request}
use Rattle.turn_laws.proofs.Passes.{IsInner, IsNoPass, Stands, asked-join, each-join, earlier, last}
use Rattle.turn_laws.proofs.Passes.{no-pass, stands-in}

-- ---- one more entry

pub holds-push : (plan : HostPlan) (b : List RingEntry) (e : RingEntry) → AsksInItsHolds plan b
    → ((n : ℕ) (f : Frame) (ask : HostAsk) → e ≡ Post n f → f.kind ≡ Request
    → slice_get plan.requests (length (asked_by b)) ≡ Some ask
    → ask.hold ≤ 1 + count_by is_pass b) → AsksInItsHolds plan (b ++ e ∷ [])
holds-push plan b e old new before after n f ask is kind asks =
    at (stands-in b e before (Post n f) after is)
  where
    at : Stands b e before (Post n f) after → ask.hold ≤ 1 + count_by is_pass before
    at (last p q r) =
        subst (λ (l : List RingEntry). ask.hold ≤ 1 + count_by is_pass l) (sym p)
        (new n f ask (sym q) kind (subst
        (λ (l : List RingEntry). slice_get plan.requests (length (asked_by l)) ≡ Some ask) p asks))
    at (earlier rest p q) = old before rest n f ask p kind asks

pub asked-push : (plan : HostPlan) (b : List RingEntry) (e : RingEntry) → AsksAllBeforeDone plan b
    → ((n : ℕ) (words : List ℕ) → e ≡ Pass n true words
    → length (asked_by b) ≡ length plan.requests) → AsksAllBeforeDone plan (b ++ e ∷ [])
asked-push plan b e old new before after n words is =
    at (stands-in b e before (Pass n true words) after is)
  where
    at : Stands b e before (Pass n true words) after
        → length (asked_by before) ≡ length plan.requests
    at (last p q r) = subst (λ (l : List RingEntry). length (asked_by l) ≡ length plan.requests)
        (sym p) (new n words (sym q))
    at (earlier rest p q) = old before rest n words p

-- entries that ask nothing, and that are no Passes
abbrev pub IsNoAsk : RingEntry → Type 0
IsNoAsk e = asked_of e ≡ None

none-some : {X : Type 0} {x : X} → None ≡ Some x → ⊥
none-some is = cc

no-ask : (e : RingEntry) (n : ℕ) (f : Frame) → IsNoAsk e → e ≡ Post n f → f.kind ≡ Request → ⊥
no-ask e n f none is kind =
    let some : asked_of e ≡ Some (record { id = f.id; route = frame_route f; pdu = f.pdu }) =
    ap asked_of is ∙ ap (λ k. asked_in k f) kind in
    none-some (sym none ∙ some)

pub holds-more : (plan : HostPlan) (b c : List RingEntry) → Each IsNoAsk c → AsksInItsHolds plan b
    → AsksInItsHolds plan (b ++ c)
holds-more plan b [] none old = subst (AsksInItsHolds plan) (sym (append-nil b)) old
holds-more plan b (e ∷ c) none old =
    subst (AsksInItsHolds plan) (append_assoc b (e ∷ []) c)
    (holds-more plan (b ++ e ∷ []) c none.1
    (holds-push plan b e old (λ n f ask is kind asks. absurd (no-ask e n f none.0 is kind))))

pub asked-more : (plan : HostPlan) (b c : List RingEntry) → Each IsNoPass c
    → AsksAllBeforeDone plan b → AsksAllBeforeDone plan (b ++ c)
asked-more plan b [] none old = subst (AsksAllBeforeDone plan) (sym (append-nil b)) old
asked-more plan b (e ∷ c) none old =
    subst (AsksAllBeforeDone plan) (append_assoc b (e ∷ []) c)
    (asked-more plan (b ++ e ∷ []) c none.1
    (asked-push plan b e old (λ n words is. absurd (let pass : is_pass e ≡ true = ap is_pass is in
    let both : true ≡ false = sym pass ∙ none.0 in cc))))

no-asked : (c : List RingEntry) → Each IsNoAsk c → asked_by c ≡ []
no-asked [] none = refl
no-asked (e ∷ c) none = ap (λ o. cons_option o (asked_by c)) none.0 ∙ no-asked c none.1

pub no-passes : (c : List RingEntry) → Each IsNoPass c → count_by is_pass c ≡ 0
no-passes [] none = refl
no-passes (e ∷ c) none =
    let one = count-cons is_pass e c in
    let o : cond {A = ℕ} (is_pass e) 1 0 ≡ 0 = ap (λ b. cond {A = ℕ} b 1 0) none.0 in
    let more = no-passes c none.1 in
    omega (arith, one, o, more)

pub passes-join : (b c : List RingEntry) → Each IsNoPass c
    → count_by is_pass (b ++ c) ≡ count_by is_pass b
passes-join b c none =
    let all = sum_by-append (λ (e : RingEntry). cond {A = ℕ} (is_pass e) 1 0) b c in
    let quiet_e = no-passes c none in
    let join : count_by is_pass (b ++ c) ≡ count_by is_pass b + count_by is_pass c = all in
    omega (arith, join, quiet_e)

-- ---- a host's list and its node's own list that went on without a Pass

-- as many Requests were posted as made, each at its hold, and the hold that runs has this number
pub record Asking (plan : HostPlan) (hold : ℕ) (list : List HostEntry)
    (b : List RingEntry) : Type 0 where
  pub agree : length (asked_by b) ≡ length (requests_in list)
  pub holds : AsksInItsHolds plan b
  pub passes : 1 + count_by is_pass b ≡ hold

pub record HostWent (plan : HostPlan) (n hold : ℕ) (list new_list : List HostEntry)
    (ring new_ring : List RingEntry) : Type 0 where
  pub more : List HostEntry
  pub list_is : new_list ≡ list ++ more
  pub done : List RingEntry
  pub own_is : own n new_ring ≡ own n ring ++ done
  pub quiet : Each IsInner done
  pub asking : Asking plan hold list (own n ring) → Asking plan hold new_list (own n new_ring)

pub host-then : (plan : HostPlan) (n hold : ℕ) (a b c : List HostEntry) (x y z : List RingEntry)
    → HostWent plan n hold a b x y
    → HostWent plan n hold b c y z → HostWent plan n hold a c x z
host-then plan n hold a b c x y z one two = record {
  more = one.more ++ two.more;
  list_is = two.list_is ∙ ap (λ l. l ++ two.more) one.list_is ∙ append_assoc a one.more two.more;
  done = one.done ++ two.done;
  own_is = two.own_is ∙ ap (λ l. l ++ two.done) one.own_is
      ∙ append_assoc (own n x) one.done two.done;
  quiet = each-join IsInner one.done two.done one.quiet two.quiet;
  asking = λ k. two.asking (one.asking k);
}

-- notes that make no request
abbrev IsNoRequest : HostEntry → Type 0
IsNoRequest e = request_by e ≡ None

no-requests : (xs : List HostEntry) → Each IsNoRequest xs → requests_in xs ≡ []
no-requests [] none = refl
no-requests (e ∷ xs) none = ap (λ o. cons_option o (requests_in xs)) none.0 ∙ no-requests xs none.1

-- a part that asks nothing
quiet-part : (plan : HostPlan) (n hold : ℕ) (alone : Bool) (notes : List HostEntry)
    (done : List RingEntry) (a b : List HostEntry) (x y : List RingEntry)
    → b ≡ a ++ notes → Grew alone (is_of n) x done y → Each IsNoRequest notes → Each IsInner done
    → Each IsNoAsk done → HostWent plan n hold a b x y
quiet-part plan n hold alone notes done a b x y is g none quiet asks =
    let own_is = grew-ours alone (is_of n) x done y g in
    record {
      more = notes;
      list_is = is;
      done = done;
      own_is = own_is;
      quiet = quiet;
      asking = λ k. record {
        agree =
            ap (λ l. length (asked_by l)) own_is ∙ ap length
            (asked-join (own n x) done ∙ ap (λ l. asked_by (own n x) ++ l) (no-asked done asks)
            ∙ append-nil (asked_by (own n x))) ∙ k.agree
            ∙ sym (ap (λ l. length (requests_in l)) is
            ∙ ap length (filter_map-append request_by a notes
            ∙ ap (λ l. requests_in a ++ l) (no-requests notes none) ∙ append-nil (requests_in a)));
        holds = subst (AsksInItsHolds plan) (sym own_is)
            (holds-more plan (own n x) done asks k.holds);
        passes = ap (λ l. 1 + count_by is_pass l) own_is
            ∙ ap (λ c. 1 + c) (passes-join (own n x) done (no-pass done quiet)) ∙ k.passes;
      };
    }

-- ---- what came is served

record IsQuiet (done : List RingEntry) : Type 0 where
  passes : Each IsInner done
  asks : Each IsNoAsk done

request-quiet : (n : ℕ) (f : Frame) (stats : Bool) (done : List RingEntry)
    → ServesRequest stats n f done → IsQuiet done
request-quiet n f true done is =
    subst IsQuiet (sym is.entries_are)
    (record { passes = (refl, (refl, (refl, tt))); asks = (refl, (refl, (refl, tt))) })
request-quiet n f false done is =
    subst IsQuiet (sym is) (record { passes = (refl, (refl, tt)); asks = (refl, (refl, tt)) })

kind-quiet : (n : ℕ) (f : Frame) (kind : FrameKind) (done : List RingEntry)
    → ServesKind kind n f done → IsQuiet done
kind-quiet n f Reply done is =
    subst IsQuiet (sym is) (record { passes = (refl, tt); asks = (refl, tt) })
kind-quiet n f Request done is = request-quiet n f (is_for_stats f) done is

quiet-join : (one two : List RingEntry) → IsQuiet one → IsQuiet two → IsQuiet (one ++ two)
quiet-join one two a b = record {
  passes = each-join IsInner one two a.passes b.passes;
  asks = each-join IsNoAsk one two a.asks b.asks;
}

parts-quiet : (n : ℕ) (fs : List Frame) (parts : List (List RingEntry))
    → AllZip (ServesFrame n) fs parts → IsQuiet (flat_map (λ part. part) parts)
parts-quiet n [] [] all = record { passes = tt; asks = tt }
parts-quiet n [] (p ∷ parts) all = absurd all
parts-quiet n (f ∷ fs) [] all = absurd all
parts-quiet n (f ∷ fs) (p ∷ parts) all =
    quiet-join p (flat_map (λ part. part) parts) (kind-quiet n f f.kind p all.0)
    (parts-quiet n fs parts all.1)

request-notes : (stats : Bool) (f : Frame) → Each IsNoRequest (host_notes_of_request stats f)
request-notes true f = tt
request-notes false f = (refl, tt)

kind-notes : (kind : FrameKind) (f : Frame) → Each IsNoRequest (host_notes_of_kind kind f)
kind-notes Reply f = (refl, tt)
kind-notes Request f = request-notes (is_for_stats f) f

all-notes : (fs : List Frame) → Each IsNoRequest (flat_map host_notes_of fs)
all-notes [] = tt
all-notes (f ∷ fs) = each-join IsNoRequest (host_notes_of f) (flat_map host_notes_of fs)
    (kind-notes f.kind f) (all-notes fs)

pub host-serves : (plan : HostPlan) (hold : ℕ) (alone : Bool) (net : NetPlan) (n : ℕ)
    (a b : List HostEntry) (x y : List RingEntry)
    → ServesInbox alone net n a b x y → HostWent plan n hold a b x y
host-serves plan hold alone net n a b x y s =
    let frames = inbox_of net n x in
    let q = parts-quiet n frames s.all.parts s.all.serves in
    quiet-part plan n hold alone (flat_map host_notes_of frames)
    (flat_map (λ part. part) s.all.parts) a b x y s.all.notes s.all.grew (all-notes frames)
    q.passes q.asks

-- ---- calls that are given up

gave-quiet : (ends : List GivenUp) → IsQuiet (map give_up_of ends)
gave-quiet [] = record { passes = tt; asks = tt }
gave-quiet (end ∷ ends) =
    let q = gave-quiet ends in record { passes = (refl, q.passes); asks = (refl, q.asks) }

gave-notes : (ends : List GivenUp) → Each IsNoRequest (map bad_answer_of ends)
gave-notes [] = tt
gave-notes (end ∷ ends) = (refl, gave-notes ends)

pub host-gives : (plan : HostPlan) (hold : ℕ) (alone : Bool) (net : NetPlan) (n : ℕ)
    (paths : List ℕ) (a b : List HostEntry) (x y : List RingEntry)
    → GivesUpDue alone net n paths a b x y → HostWent plan n hold a b x y
host-gives plan hold alone net n paths a b x y g =
    let q = gave-quiet g.ends in
    quiet-part plan n hold alone (map bad_answer_of g.ends)
    (map give_up_of g.ends) a b x y g.answers g.grew (gave-notes g.ends) q.passes q.asks

pub gave-holds : (plan : HostPlan) (alone : Bool) (net : NetPlan) (n : ℕ) (paths : List ℕ)
    (a b : List HostEntry) (x y : List RingEntry)
    → GivesUpDue alone net n paths a b x y → AsksInItsHolds plan (own n x)
    → AsksInItsHolds plan (own n y)
gave-holds plan alone net n paths a b x y g old =
    subst (AsksInItsHolds plan) (sym (grew-ours alone (is_of n) x (map give_up_of g.ends) y g.grew))
    (holds-more plan (own n x) (map give_up_of g.ends) (gave-quiet g.ends).asks old)

-- ---- what is sent

step-quiet : (net : NetPlan) (n : ℕ) (on : ℕ → Bool) (past : List RingEntry) (e : RingEntry)
    → IsNextSending net n on past e → IsInner e × IsNoAsk e
step-quiet net n on past (Post m f) is = absurd is
step-quiet net n on past (Send m heard) is = (refl, refl)
step-quiet net n on past (Take m f) is = absurd is
step-quiet net n on past (Local m id op result) is = absurd is
step-quiet net n on past (GiveUp id word) is = (refl, refl)
step-quiet net n on past (Pass m done words) is = absurd is
step-quiet net n on past (Leave m cause) is = absurd is
step-quiet net n on past (Join m) is = absurd is

answer-notes : (entries : List RingEntry) → Each IsNoRequest (filter_map bad_answer_to entries)
answer-notes [] = tt
answer-notes (Post m f ∷ es) = answer-notes es
answer-notes (Send m heard ∷ es) = answer-notes es
answer-notes (Take m f ∷ es) = answer-notes es
answer-notes (Local m id op result ∷ es) = answer-notes es
answer-notes (GiveUp id word ∷ es) = (refl, answer-notes es)
answer-notes (Pass m done words ∷ es) = answer-notes es
answer-notes (Leave m cause ∷ es) = answer-notes es
answer-notes (Join m ∷ es) = answer-notes es

pub host-sends : (plan : HostPlan) (hold : ℕ) (alone : Bool) (net : NetPlan) (n : ℕ) (on : ℕ → Bool)
    (a b : List HostEntry) (x y : List RingEntry)
    → SendsOut alone net n on a b x y → HostWent plan n hold a b x y
host-sends plan hold alone net n on a b x y s =
    let frames = s.frames in
    let Next : List RingEntry → RingEntry → Type 0 = IsNextSending net n on in
    quiet-part plan n hold alone (filter_map bad_answer_to frames.done) frames.done a b x y
    s.answers frames.grew (answer-notes frames.done)
    (each-added alone n Next IsInner (λ past e is. (step-quiet net n on past e is).0) x frames.done
    y frames.grew frames.each)
    (each-added alone n Next IsNoAsk (λ past e is. (step-quiet net n on past e is).1) x frames.done
    y frames.grew frames.each)

-- ---- requests are made

some-same : {X : Type 0} {x y : X} → Some x ≡ Some y → x ≡ y
some-same is = cc

-- the Request that is due is the next of the plan, whose hold has come
record IsNextAsk (v : HostIs) (hold : ℕ) (f : Frame) : Type 0 where
  kind : f.kind ≡ Request
  ask : HostAsk
  next : next_ask v ≡ Some ask
  came : ask.hold ≤ hold

due-ask : (v : HostIs) (hold : ℕ) (ask : HostAsk) → due_ask v hold ≡ Some ask
    → (next_ask v ≡ Some ask) × (ask.hold ≤ hold)
due-ask v hold ask is = at (next_ask v) refl is
  where
    within : (b : Bool) (x : HostAsk) → nat_le x.hold hold ≡ b → next_ask v ≡ Some x
        → (if b then Some x else None) ≡ Some ask
        → (next_ask v ≡ Some ask) × (ask.hold ≤ hold)
    within true x low next found =
        let same : x ≡ ask = some-same found in (
          next ∙ ap (λ y. Some y) same,
          subst (λ (y : HostAsk). y.hold ≤ hold) same (leb-true x.hold hold low),
        )
    within false x low next found = absurd (let no' : None ≡ Some ask = found in cc)

    at : (o : Option HostAsk) → next_ask v ≡ o → if_due hold o ≡ Some ask
        → (next_ask v ≡ Some ask) × (ask.hold ≤ hold)
    at None next found = absurd (let no' : None ≡ Some ask = found in cc)
    at (Some x) next found = within (nat_le x.hold hold) x refl next found

next-ask : (v : HostIs) (hold : ℕ) (f : Frame) → due_request v hold ≡ Some f → IsNextAsk v hold f
next-ask v hold f is = at (next_host_call v.plan v.history) (due_ask v hold) refl is
  where
    at : (o : Option CallId) (d : Option HostAsk) → due_ask v hold ≡ d → request_for o d ≡ Some f
        → IsNextAsk v hold f
    at None None due found = absurd (let no' : None ≡ Some f = found in cc)
    at None (Some ask) due found = absurd (let no' : None ≡ Some f = found in cc)
    at (Some id) None due found = absurd (let no' : None ≡ Some f = found in cc)
    at (Some id) (Some ask) due found =
        let two = due-ask v hold ask due in
        record {
          kind = ap (λ (g : Frame). g.kind) (sym (some-same found));
          ask = ask;
          next = two.0;
          came = two.1;
        }

post-asked : (n : ℕ) (f : Frame) → f.kind ≡ Request
    → asked_by (Post n f ∷ []) ≡ record { id = f.id; route = frame_route f; pdu = f.pdu } ∷ []
post-asked n f kind = ap (λ k. cons_option (asked_in k f) []) kind

posts-quiet : (n : ℕ) (asks : List Frame) → Each IsInner (map (Post n) asks)
posts-quiet n [] = tt
posts-quiet n (f ∷ asks) = (refl, posts-quiet n asks)

module _ (plan : HostPlan) (n : ℕ) (hold : ℕ) where
  abbrev Dues : List HostEntry → List Frame → Type 0
  Dues list asks = (before after : List Frame) (ask : Frame) → asks ≡ before ++ ask ∷ after
      → due_request (host_at plan (list ++ map ask_entry_of before)) hold ≡ Some ask

  asks-one : (list : List HostEntry) (b : List RingEntry) (f : Frame)
      → due_request (host_at plan list) hold ≡ Some f → Asking plan hold list b
      → Asking plan hold (list ++ ask_entry_of f ∷ []) (b ++ Post n f ∷ [])
  asks-one list b f due k =
      let next = next-ask (host_at plan list) hold f due in
      let e = Post n f in
      record {
        agree =
            (let one = ap length
            (asked-join b (e ∷ []) ∙ ap (λ l. asked_by b ++ l) (post-asked n f next.kind)) in
            let two = length-append (asked_by b)
            (record { id = f.id; route = frame_route f; pdu = f.pdu } ∷ []) in
            let three = ap length (filter_map-append request_by list (ask_entry_of f ∷ [])) in
            let four = length-append (requests_in list)
            (Rattle.host_port.specs.Calls.requests_in (ask_entry_of f ∷ [])) in
            let same = k.agree in
            omega (arith, one, two, three, four, same));
        holds = holds-push plan b e k.holds (λ m g ask is kind asks.
            let there : slice_get plan.requests (length (requests_in list)) ≡ Some ask =
            ap (slice_get plan.requests) (sym k.agree) ∙ asks in
            let same : next.ask ≡ ask = some-same (sym next.next ∙ there) in
            subst (λ (y : HostAsk). y.hold ≤ 1 + count_by is_pass b) same
            (subst (λ h. next.ask.hold ≤ h) (sym k.passes) next.came));
        passes = ap (λ c. 1 + c) (passes-join b (e ∷ []) (refl, tt)) ∙ k.passes;
      }

  asks-all : (asks : List Frame) (list : List HostEntry) (b : List RingEntry) → Dues list asks
      → Asking plan hold list b
      → Asking plan hold (list ++ map ask_entry_of asks) (b ++ map (Post n) asks)
  asks-all [] list b dues k =
      subst (λ l. Asking plan hold l (b ++ [])) (sym (append-nil list))
      (subst (Asking plan hold list) (sym (append-nil b)) k)
  asks-all (f ∷ asks) list b dues k =
      let first = subst (λ l. due_request (host_at plan l) hold ≡ Some f) (append-nil list)
      (dues [] asks f refl) in
      let one = asks-one list b f first k in
      let all = asks-all asks (list ++ ask_entry_of f ∷ []) (b ++ Post n f ∷ [])
      (λ before after ask is. subst (λ l. due_request (host_at plan l) hold ≡ Some ask)
      (sym (append_assoc list (ask_entry_of f ∷ []) (map ask_entry_of before)))
      (dues (f ∷ before) after ask (ap (λ l. f ∷ l) is))) one in
      subst (λ l. Asking plan hold l (b ++ Post n f ∷ map (Post n) asks))
      (append_assoc list (ask_entry_of f ∷ []) (map ask_entry_of asks))
      (subst (Asking plan hold ((list ++ ask_entry_of f ∷ []) ++ map ask_entry_of asks))
      (append_assoc b (Post n f ∷ []) (map (Post n) asks)) all)

pub host-asks : (plan : HostPlan) (hold : ℕ) (alone : Bool) (n : ℕ) (asks : List Frame)
    (a b : List HostEntry) (x y : List RingEntry)
    → AsksAllDue alone n plan hold asks a b x y → HostWent plan n hold a b x y
host-asks plan hold alone n asks a b x y s =
    let own_is = grew-ours alone (is_of n) x (map (Post n) asks) y s.in_order.grew in
    record {
      more = map ask_entry_of asks;
      list_is = s.in_order.asked;
      done = map (Post n) asks;
      own_is = own_is;
      quiet = posts-quiet n asks;
      asking = λ k.
          subst (λ l. Asking plan hold l (own n y)) (sym s.in_order.asked)
          (subst (Asking plan hold (a ++ map ask_entry_of asks)) (sym own_is)
          (asks-all plan n hold asks a (own n x) s.in_order.each k));
    }

-- ---- a turn up to its end

module _ (plan : HostPlan) (alone : Bool) (net : NetPlan) (n : ℕ) (budget left : Bool)
    (list new_list : List HostEntry)
    (ring new_ring : List RingEntry)
    (t : HoldsHostTurn alone net n plan budget list new_list ring new_ring left) where
  abbrev hold : ℕ
  hold = hold_of n ring

  pub host-went : HostWent plan n (hold_of n ring) list t.given_list ring t.given_ring
  host-went =
      host-then plan n hold list t.sent_list t.given_list ring t.sent_ring t.given_ring
      (host-then plan n hold list t.asked_list t.sent_list ring t.asked_ring t.sent_ring
      (host-then plan n hold list t.served_list t.asked_list ring t.served_ring t.asked_ring
      (host-serves plan hold alone net n list t.served_list ring t.served_ring t.serves)
      (host-asks plan hold alone n t.asks t.served_list t.asked_list t.served_ring
      t.asked_ring t.makes))
      (host-sends plan hold alone net n (went_on t.asks) t.asked_list t.sent_list t.asked_ring
      t.sent_ring t.sends))
      (host-gives plan hold alone net n network_paths t.sent_list t.given_list t.sent_ring
      t.given_ring t.gives_up)

  abbrev e : RingEntry
  e = last_entry n (host_is_done (host_at plan t.given_list)) (words_put n t.given_ring)
      (host_cause net n plan budget t.given_list t.given_ring)

  pub host-handed : own n t.ends.handed_ring ≡ own n t.given_ring
      ++ last_entry n (host_is_done (host_at plan t.given_list)) (words_put n t.given_ring)
      (host_cause net n plan budget t.given_list t.given_ring) ∷ []
  host-handed = grew-ours alone (is_of n) t.given_ring
      (e ∷ []) t.ends.handed_ring t.ends.handed.grew

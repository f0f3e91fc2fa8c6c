-- A controller's turn keeps it in time with its node.
use Rattle.std.proofs.Common.{◌≡◌, ◌≢◌, ℕ, ◌+◌, ◌==◌, Bool, true, false, cond, List, [], ◌∷◌, ◌++◌}
use Rattle.std.proofs.Common.{map, not}
use Rattle.std.proofs.Common.{filter, filter_map, Option, Some, None, refl, sym, ap, ◌∙◌, subst}
use Rattle.std.proofs.Common.{arith, append-nil}
use Rattle.std.specs.List.{AllByRecursion as Each}
use Rattle.std.proofs.lemmas.Bool.{eq-eqb, ne_eqb}
use Rattle.plant_types.specs.declared.net.NetPlan.{NetPlan}
use Rattle.mstr_block.specs.declared.call.CallId.{CallId}
use Rattle.mstr_block.specs.declared.call.MstrResult.{MstrResult}
use Rattle.mstr_block.specs.declared.call.MstrResult.TheVariants.{Bad}
use Rattle.ring_core.specs.Statistics.{is_for_stats}
use Rattle.ring_core.specs.declared.entry.LeaveCause.{LeaveCause}
use Rattle.ring_core.specs.declared.entry.LocalOp.{LocalOp}
use Rattle.ring_core.specs.declared.frame.Frame.{Frame}
use Rattle.ring_core.specs.declared.frame.FrameKind.{FrameKind}
use Rattle.ring_core.specs.declared.frame.FrameKind.TheVariants.{Request, Reply}
use Rattle.ring_core.specs.declared.entry.RingEntry.{RingEntry}
use Rattle.ring_core.specs.declared.entry.RingEntry.TheVariants.{Post, Send, Take, Local, GiveUp}
use Rattle.ring_core.specs.declared.entry.RingEntry.TheVariants.{Pass, Leave, Join}
use Rattle.ring_core.specs.declared.entry.LeaveCause.TheVariants.{Ended, Spent, Down}
use Rattle.ring_core.specs.Machine.{ring_after}
use Rattle.controller_core.specs.Event.{peer_entry}
use Rattle.tied_lists.specs.Items.{down_in}
use Rattle.controller_core.specs.declared.call.Call.{Call}
use Rattle.controller_core.specs.declared.call.CallKind.{CallKind}
use Rattle.controller_core.specs.declared.call.CallKind.TheVariants as call_kinds
use Rattle.controller_core.specs.declared.entry.Entry.{Entry}
use Rattle.controller_core.specs.declared.entry.Entry.TheVariants as entries
use Rattle.controller_core.specs.declared.fixed.Fixed.{Fixed}
use Rattle.tied_lists.specs.Own.{is_of, own, WentOn, Grew}
use Rattle.tied_lists.proofs.Growth.{grew-ours, grew-one}
use Rattle.comm_port.specs.Leaving.{last_entry}
use Rattle.comm_port.specs.Order.{IsSending}
use Rattle.comm_port.specs.Parts.{InOrder, PartOf}
use Rattle.comm_port.specs.JointHistory.{failures_at, has_started_at, is_off_at, is_ours}
use Rattle.comm_port.specs.declared.turn_end.TurnEnd.{TurnEnd}
use Rattle.comm_port.specs.Failing.{ComesBack, GoesDown, join_entries}
use Rattle.comm_port.specs.Replies.{reply_frame}
use Rattle.comm_port.specs.WholeTurn.{HoldsTurn, TurnsBy, is_unnoticed}
use Rattle.comm_port.proofs.Leaves.{IsQuietCause, quiet-due}
use Rattle.comm_port.specs.HoldTurn.{CollectsIf, Collects, WorksTurn, VisitsEnd, IsGivenUp, IsMade}
use Rattle.comm_port.specs.HoldTurn.{IsEnded, EndedAs, IsServed, MadeAs, SendsAll}
use Rattle.comm_port.specs.Giving.{each_path}
use Rattle.comm_port.specs.SendsAll.{IsNextSending}
use Rattle.comm_port.proofs.Parts.{each-added}
use Rattle.comm_port.specs.HoldTurn.{ServedAs, finish_of, inbox_of, reply_entries}
use Rattle.comm_port.proofs.Asked.{both-asked}
use Rattle.one_order.specs.Merges.{tally}
use Rattle.one_order.proofs.Merges.{nothing-due, noted-first, end-fits, goes-on, more-at-end}
use Rattle.one_order.proofs.Merges.{tally-append}
use Rattle.entry_causes.specs.Causes.{Ends, Asks, AsksPort, WorksPort, IsOver, PostsRequest}
use Rattle.entry_causes.specs.Causes.{Doing, taking, working, asking}
use Rattle.entry_causes.specs.Causes.{asking_of}
use Rattle.entry_causes.specs.Causes.{Noted, Done, no_notes, no_deeds, notings, doings, noted_next}
use Rattle.entry_causes.specs.Causes.{done_next, note_entry, deed, AreCaused}
use Rattle.entry_causes.specs.InTime.{InTime}
use Rattle.entry_causes.proofs.Counts.{none-caused}
use Rattle.time_laws.specs.InTime.{OwesNoReply, StaysInTime, done_by}
use Rattle.time_laws.specs.Laws.{AwayTurnsStayInTime, OthersStayInTime, StartsInTime}
use Rattle.time_laws.proofs.Blocks as blocks
use Rattle.time_laws.proofs.Blocks.{asked-caused, posted-caused, works-caused, over-caused}
use Rattle.time_laws.proofs.Blocks.{ended-caused, replied-as}
use Rattle.time_laws.proofs.Power.{MoreNotes, more-same, scans-allow, fails-noted, power-noted}

abbrev Timely : Noted → Done → List Entry → List RingEntry → Type 0
Timely s d known own = blocks.Timely notings s d known own

abbrev IsDue : List Entry → List RingEntry → Type 0
IsDue noted done = blocks.IsDue notings noted done

due-as : (noted noted' : List Entry) (done done' : List RingEntry) → noted ≡ noted' → done ≡ done'
    → IsDue noted' done' → IsDue noted done
due-as noted noted' done done' p q is = blocks.due-as notings noted noted' done done' p q is

-- lists that went on by what is due after what they have
by-grew-at : (n : ℕ) (alone alone' : Bool) (a b : List Entry) (x y : List RingEntry)
    (noted : List Entry) (done : List RingEntry)
    → Grew alone is_ours a noted b → Grew alone' (is_of n) x done y
    → (AreCaused (tally note_entry no_notes a) (done_by n x)
    → OwesNoReply (tally note_entry no_notes a) (done_by n x)
    → blocks.IsDueAt notings (tally note_entry no_notes a) (done_by n x) noted done)
    → StaysInTime n a x → StaysInTime n b y
by-grew-at n alone alone' a b x y noted done g h is k =
    let s : Noted = tally note_entry no_notes a in
    let d : Done = done_by n x in
    let due = is (end-fits note_entry deed AreCaused no_notes no_deeds a
    (own n x) none-caused k.timely) k.replied in
    let own-is : own n y ≡ own n x ++ done = grew-ours alone' (is_of n) x done y h in
    let m = more-at-end note_entry deed AreCaused is_ours MoreNotes scans-allow s s g.more
    (more-same s) in
    let replied : OwesNoReply (tally note_entry s g.more) (tally deed d done) =
    replied-as (tally note_entry s (filter is_ours g.more)) (tally note_entry s g.more)
    (tally deed d done) (tally deed d done) m.answers refl refl refl
    (subst (λ (l : List Entry). OwesNoReply (tally note_entry s l) (tally deed d done))
    (sym g.ours_are) due.1) in
    record {
      timely = subst (λ (l : List Entry). InTime l (own n y)) (sym g.after_is)
          (subst (λ (l : List RingEntry). InTime (a ++ g.more) l) (sym own-is)
          (goes-on note_entry deed AreCaused is_ours MoreNotes scans-allow no_notes no_deeds a
          g.more (own n x) done more-same none-caused k.timely
          (subst (λ (l : List Entry). Timely s d l done) (sym g.ours_are) due.0)));
      replied = subst (λ (l : List Entry). OwesNoReply (tally note_entry no_notes l) (done_by n y))
          (sym g.after_is)
          (subst (λ (t : Noted). OwesNoReply t (done_by n y))
          (sym (tally-append note_entry no_notes a g.more))
          (subst (λ (l : List RingEntry). OwesNoReply (tally note_entry s g.more)
          (tally deed no_deeds l)) (sym own-is)
          (subst (λ (q : Done). OwesNoReply (tally note_entry s g.more) q)
          (sym (tally-append deed no_deeds (own n x) done)) replied)));
    }

-- or by what is due wherever each Request has its Reply
by-grew : (n : ℕ) (alone alone' : Bool) (a b : List Entry) (x y : List RingEntry)
    (noted : List Entry) (done : List RingEntry)
    → Grew alone is_ours a noted b → Grew alone' (is_of n) x done y → IsDue noted done
    → StaysInTime n a x → StaysInTime n b y
by-grew n alone alone' a b x y noted done g h is k =
    by-grew-at n alone alone' a b x y noted done g h
    (is (tally note_entry no_notes a) (done_by n x)) k

same-ring : (n : ℕ) (x : List RingEntry) → Grew true (is_of n) x [] x
same-ring n x =
    record { more = []; after_is = sym (append-nil x); ours_are = refl; all_alone = λ is. refl }

by-ask : (n : ℕ) (alone : Bool) (a b : List Entry) (x : List RingEntry)
    → WentOn alone is_ours a [] b → StaysInTime n a x
    → StaysInTime n b x
by-ask n alone a b x w k =
    by-grew n alone true a b x x [] [] (grew-one alone is_ours a [] b refl w) (same-ring n x)
    (blocks.none-due notings) k

-- what is due to each
in-order : {X : Type 0} (Good : X → Type 0) (Due : X → List Entry → List RingEntry → Type 0)
    → ((x : X) (noted : List Entry) (done : List RingEntry) → Good x → Due x noted done
    → IsDue noted done)
    → (xs : List X) (noted : List Entry) (done : List RingEntry) → Each Good xs
    → InOrder Due xs noted done → IsDue noted done
in-order Good Due due [] noted done good is =
    due-as noted [] done [] is.0 is.1 (blocks.none-due notings)
in-order Good Due due (x ∷ xs) noted done good is =
    due-as noted (is.0 ++ is.1) done (is.2 ++ is.3) is.4 is.5
    (blocks.both-due notings is.0 is.1 is.2 is.3 (due x is.0 is.2 good.0 is.6)
    (in-order Good Due due xs is.1 is.3 good.1 is.7))

abbrev finish : CallId → MstrResult → Entry
finish id result = entries.Finish id result

-- ---- rows of what comes and of what the port does
pub take-is : (n : ℕ) (f : Frame) (kind : FrameKind) (stats : Bool) → f.kind ≡ kind
    → is_for_stats f ≡ stats
    → doings (Take n f) ≡ taking kind stats ∷ []
take-is n f kind stats p q =
    subst (λ (k : FrameKind). doings (Take n f) ≡ taking k stats ∷ []) p
    (ap (λ (b : Bool). taking f.kind b ∷ []) q)

pub local-is : (n : ℕ) (id : CallId) (op : LocalOp) (result : MstrResult) (home : Bool)
    → (id.node == n) ≡ home
    → doings (Local n id op result) ≡ working home
local-is n id op result home is = ap working is

-- a frame in a node's inbox is no Request of its own
abbrev pub IsForeign : ℕ → Frame → Type 0
IsForeign n f = f.kind ≡ Request → f.id.node ≢ n

-- the calls collected are the node's
abbrev pub NamesOwn : ℕ → Entry → Type 0
NamesOwn n (entries.Collect calls) = Each (λ (call : Call). call.id.node ≡ n) calls
NamesOwn n _ = Unit {0}

-- ---- first: served
plain-due : (n : ℕ) (f : Frame) (reply : Option (List ℕ)) → f.kind ≡ Request
    → is_for_stats f ≡ false
    → IsDue (peer_entry f.id f.pdu reply ∷ []) (Take n f ∷ reply_entries n f.id reply)
plain-due n f (Some reply) p q = blocks.serves-due notings (entries.Peer f.id f.pdu reply)
    (Take n f) (Post n (reply_frame f.id reply)) refl (take-is n f Request false p q) refl
plain-due n f None p q = blocks.declines-due notings (entries.Off f.id f.pdu) (Take n f) refl
    (take-is n f Request false p q)

served-due : (n : ℕ) (f : Frame) (kind : FrameKind) (stats : Bool) → f.kind ≡ kind
    → is_for_stats f ≡ stats
    → (noted : List Entry) (done : List RingEntry)
    → IsForeign n f → ServedAs kind stats n f noted done → IsDue noted done
served-due n f Reply stats p q noted done other is =
    due-as noted _ done _ is.1 is.2
    (blocks.ends-due notings (finish f.id is.0) (Take n f) refl (take-is n f Reply stats p q))
served-due n f Request true p q noted done other is =
    due-as noted _ done _ is.3 is.4
    (blocks.tells-due notings (Take n f) (Local n f.id is.0 is.1) _ (take-is n f Request true p q)
    (local-is n f.id is.0 is.1 false (ne_eqb f.id.node n (other p))) refl)
served-due n f Request false p q noted done other is =
    due-as noted _ done _ is.1 is.2 (plain-due n f is.0 p q)

by-serves : (n : ℕ) (alone alone' : Bool) (fs : List Frame) (a b : List Entry)
    (x y : List RingEntry)
    → PartOf alone alone' is_ours n (InOrder (IsServed n) fs) a b x y → Each (IsForeign n) fs
    → StaysInTime n a x → StaysInTime n b y
by-serves n alone alone' fs a b x y p other k =
    by-grew n alone alone' a b x y p.noted p.done p.station p.node
    (in-order (IsForeign n) (IsServed n) (λ f noted done o is. served-due n f f.kind
    (is_for_stats f) refl refl noted done o is) fs p.noted p.done other p.due) k

-- ---- fourth: given up
all-good : {X : Type 0} (xs : List X) → Each (λ (x : X). Unit {0}) xs
all-good [] = tt
all-good (x ∷ xs) = (tt, all-good xs)

by-gives : (n : ℕ) (alone alone' : Bool) (ids : List CallId) (a b : List Entry)
    (x y : List RingEntry)
    → PartOf alone alone' is_ours n (InOrder IsGivenUp ids) a b x y → StaysInTime n a x
    → StaysInTime n b y
by-gives n alone alone' ids a b x y p k =
    by-grew n alone alone' a b x y p.noted p.done p.station p.node
    (in-order (λ (id : CallId). Unit {0}) IsGivenUp
    (λ id noted done o is. due-as noted _ done _ is.1 is.2 (blocks.ends-due notings
    (finish id (Bad is.0)) (GiveUp id is.0) refl refl)) ids p.noted p.done (all-good ids) p.due) k

-- ---- the token goes on
quiet-still : (n : ℕ) (cause : LeaveCause) → down_in cause ≡ None → doings (Leave n cause) ≡ []
quiet-still n Ended q = refl
quiet-still n Spent q = refl
quiet-still n (Down number) q = absurd (let bad : Some number ≡ None = q in cc)

pub last-still : (n : ℕ) (done : Bool) (words : List ℕ) (cause : Option LeaveCause)
    → IsQuietCause cause → doings (last_entry n done words cause) ≡ []
last-still n done words None quiet = refl
last-still n done words (Some cause) quiet = quiet-still n cause (quiet cause refl)

-- ---- third: sent
sent-due : (done : List RingEntry) → Each IsSending done → IsDue (filter_map finish_of done) done
sent-due [] is = blocks.none-due notings
sent-due (Send m heard ∷ done) is =
    blocks.both-due notings [] (filter_map finish_of done) (Send m heard ∷ []) done
    (blocks.still-due notings (Send m heard) refl) (sent-due done is.1)
sent-due (GiveUp id word ∷ done) is =
    blocks.both-due notings (finish id (Bad word) ∷ []) (filter_map finish_of done)
    (GiveUp id word ∷ []) done
    (blocks.ends-due notings (finish id (Bad word)) (GiveUp id word) refl refl) (sent-due done is.1)
sent-due (Post m f ∷ done) is = absurd is.0
sent-due (Take m f ∷ done) is = absurd is.0
sent-due (Local m id op result ∷ done) is = absurd is.0
sent-due (Pass m words said ∷ done) is = absurd is.0
sent-due (Leave m cause ∷ done) is = absurd is.0
sent-due (Join m ∷ done) is = absurd is.0

pub next-sending : (net : NetPlan) (n : ℕ) (on : ℕ → Bool) (past : List RingEntry) (e : RingEntry)
    → IsNextSending net n on past e → IsSending e
next-sending net n on past (Send m heard) is = tt
next-sending net n on past (GiveUp id word) is = tt
next-sending net n on past (Post m f) is = absurd is
next-sending net n on past (Take m f) is = absurd is
next-sending net n on past (Local m id op result) is = absurd is
next-sending net n on past (Pass m done words) is = absurd is
next-sending net n on past (Leave m cause) is = absurd is
next-sending net n on past (Join m) is = absurd is

by-sends : (n : ℕ) (alone alone' : Bool) (net : NetPlan) (a b : List Entry) (x y : List RingEntry)
    → SendsAll alone alone' net n a b x y
    → StaysInTime n a x → StaysInTime n b y
by-sends n alone alone' net a b x y s k =
    let frames = s.frames in
    by-grew n alone alone' a b x y (filter_map finish_of frames.done) frames.done s.finishes
    frames.grew
    (sent-due frames.done (each-added alone' n (IsNextSending net n each_path) IsSending
    (next-sending net n each_path) x frames.done y frames.grew frames.each)) k

-- ---- second: calls are made
abbrev note_call : Noted → CallKind → Noted
note_call s kind = noted_next s (asking kind)

abbrev note_calls : Noted → List Call → Noted
note_calls s calls = tally noted_next s (map asking_of calls)

call-caused : (s : Noted) (d : Done) (kind : CallKind) → AreCaused s d
    → AreCaused (note_call s kind) d
call-caused s d (call_kinds.Net route pdu) f = asked-caused s d f
call-caused s d (call_kinds.Local op) f =
    works-caused s d (s.asked_port + 1) d.worked_port f (let h = f.port_works in omega (arith, h))

calls-caused : (s : Noted) (d : Done) (calls : List Call) → AreCaused s d
    → AreCaused (note_calls s calls) d
calls-caused s d [] f = f
calls-caused s d (call ∷ calls) f =
    calls-caused (note_call s call.kind) d calls (call-caused s d call.kind f)

abbrev ended : Noted → Noted
ended s = noted_next s Ends

ended-call : (s : Noted) (kind : CallKind) → note_call (ended s) kind ≡ ended (note_call s kind)
ended-call s (call_kinds.Net route pdu) = refl
ended-call s (call_kinds.Local op) = refl

ended-calls : (s : Noted) (calls : List Call)
    → note_calls (ended s) calls ≡ ended (note_calls s calls)
ended-calls s [] = refl
ended-calls s (call ∷ calls) = ap (λ (t : Noted). note_calls t calls) (ended-call s call.kind)
    ∙ ended-calls (note_call s call.kind) calls

abbrev Goes : Noted → Done → List Entry → List RingEntry → Type 0
Goes s d noted done =
    Timely s d noted done × OwesNoReply (tally note_entry s noted) (tally deed d done)

goes-as : (s : Noted) (d : Done) (noted noted' : List Entry) (done done' : List RingEntry)
    → noted ≡ noted' → done ≡ done'
    → Goes s d noted' done' → Goes s d noted done
goes-as s d noted noted' done done' p q is =
    subst (λ (l : List Entry). Goes s d l done) (sym p)
    (subst (λ (l : List RingEntry). Goes s d noted' l) (sym q) is)

-- what is due to one of the calls collected, before what is due to those behind it
abbrev CallDue : CallKind → List Entry → List RingEntry → Type 0
CallDue kind noted done =
    (s : Noted) (d : Done) → AreCaused s d → OwesNoReply s d
    → (calls : List Call) (rest : List Entry) (later : List RingEntry)
    → ((t : Noted) (q : Done) → AreCaused t q → OwesNoReply t q
    → Goes (note_calls t calls) q rest later)
    → Goes (note_calls (note_call s kind) calls) d (noted ++ rest) (done ++ later)

abbrev worked : Done → Done
worked d = done_next (done_next d WorksPort) IsOver

works : (s : Noted) (d : Done) → AreCaused s d
    → AreCaused (noted_next s AsksPort) (done_next d WorksPort)
works s d f = works-caused s d (s.asked_port + 1) (d.worked_port + 1) f
    (let h = f.port_works in omega (arith, h))

worked-caused : (s : Noted) (d : Done) → AreCaused s d
    → AreCaused (noted_next s AsksPort) (worked d)
worked-caused s d f = over-caused (noted_next s AsksPort) (done_next d WorksPort) (works s d f)

worked-ended : (s : Noted) (d : Done) → AreCaused s d
    → AreCaused (ended (noted_next s AsksPort)) (worked d)
worked-ended s d f = ended-caused (noted_next s AsksPort) (done_next d WorksPort) (works s d f)

-- a call ends, with those behind it
finish-goes : (s : Noted) (d : Done) (calls : List Call) (id : CallId) (result : MstrResult)
    (rest : List Entry) (later : List RingEntry)
    → AreCaused (ended s) d
    → Timely (note_calls (ended s) calls) d rest later
    → Timely (note_calls s calls) d (finish id result ∷ rest) later
finish-goes s d calls id result rest later f x =
    noted-first note_entry deed AreCaused (note_calls s calls) d (finish id result) rest later
    (subst (λ (t : Noted). AreCaused t d) (ended-calls s calls) (calls-caused (ended s) d calls f))
    (subst (λ (t : Noted). Timely t d rest later) (ended-calls s calls) x)

made-due : (n : ℕ) (kind : CallKind) (id : CallId) (noted : List Entry) (done : List RingEntry)
    → id.node ≡ n → MadeAs kind n id noted done
    → CallDue kind noted done
made-due n (call_kinds.Net route pdu) id noted done mine is s d f g calls rest later go =
    let q : Done = done_next d PostsRequest in
    let k = posted-caused s d f in
    let x = go (noted_next s Asks) q k
    (replied-as s (noted_next s Asks) d q refl refl refl refl g) in
    goes-as (note_calls (noted_next s Asks) calls) d (noted ++ rest) rest (done ++ later) _
    (ap (λ (l : List Entry). l ++ rest) is.0) (ap (λ (l : List RingEntry). l ++ later) is.1) (
      blocks.done-as notings (note_calls (noted_next s Asks) calls) d _
          (PostsRequest ∷ []) rest later refl (calls-caused (noted_next s Asks) q calls k) x.0,
      x.1,
    )
made-due n (call_kinds.Local op) id noted done mine is s d f g calls rest later go =
    let q : Done = worked d in
    let s' : Noted = noted_next s AsksPort in
    let k = worked-ended s d f in
    let x = go (ended s') q k (replied-as s (ended s') d q refl refl refl refl g) in
    let at : doings (Local n id op is.0) ≡ working true =
    local-is n id op is.0 true (eq-eqb id.node n mine) in
    goes-as (note_calls s' calls) d (noted ++ rest) (finish id is.0 ∷ rest) (done ++ later) _
    (ap (λ (l : List Entry). l ++ rest) is.1) (ap (λ (l : List RingEntry). l ++ later) is.2) (
      blocks.done-as notings (note_calls s' calls) d (Local n id op is.0) (working true)
          (finish id is.0 ∷ rest) later at (calls-caused s' q calls (worked-caused s d f))
          (finish-goes s' q calls id is.0 rest later k x.0),
      subst (λ (row : List Doing). OwesNoReply (tally note_entry (note_calls s' calls)
          (finish id is.0 ∷ rest)) (tally deed (tally done_next d row) later))
          (sym at)
          (subst (λ (t : Noted). OwesNoReply (tally note_entry t rest) (tally deed q later))
          (ended-calls s' calls) x.1),
    )

ended-due : (n : ℕ) (kind : CallKind) (id : CallId) (noted : List Entry) (done : List RingEntry)
    → id.node ≡ n
    → EndedAs kind n id noted done → CallDue kind noted done
ended-due n (call_kinds.Net route pdu) id noted done mine is s d f g calls rest later go =
    let q : Done = done_next d PostsRequest in
    let o : Done = done_next q IsOver in
    let s' : Noted = noted_next s Asks in
    let k = posted-caused s d f in
    let m = ended-caused s' q k in
    let x = go (ended s') o m (replied-as s (ended s') d o refl refl refl refl g) in
    goes-as (note_calls s' calls) d (noted ++ rest) (finish id (Bad is.0) ∷ rest) (done ++ later) _
    (ap (λ (l : List Entry). l ++ rest) is.1) (ap (λ (l : List RingEntry). l ++ later) is.2) (
      blocks.done-as notings (note_calls s' calls) d _ (PostsRequest ∷ [])
          (finish id (Bad is.0) ∷ rest) (GiveUp id is.0 ∷ later) refl (calls-caused s' q calls k)
          (blocks.done-as notings (note_calls s' calls) q (GiveUp id is.0) (IsOver ∷ [])
          (finish id (Bad is.0) ∷ rest) later refl (calls-caused s' o calls (over-caused s' q k))
          (finish-goes s' o calls id (Bad is.0) rest later m x.0)),
      subst (λ (t : Noted). OwesNoReply (tally note_entry t rest) (tally deed o later))
          (ended-calls s' calls) x.1,
    )
ended-due n (call_kinds.Local op) id noted done mine is s d f g calls rest later go =
    made-due n (call_kinds.Local op) id noted done mine is s d f g calls rest later go

module _ (n : ℕ) (Due : Call → List Entry → List RingEntry → Type 0)
    (each : (call : Call) (noted : List Entry) (done : List RingEntry) → call.id.node ≡ n
    → Due call noted done → CallDue call.kind noted done) where
  calls-due : (calls : List Call) (noted : List Entry) (done : List RingEntry)
      → Each (λ (call : Call). call.id.node ≡ n) calls
      → InOrder Due calls noted done
      → (s : Noted) (d : Done) → AreCaused s d → OwesNoReply s d
      → Goes (note_calls s calls) d noted done
  calls-due [] noted done mine is s d f g = goes-as s d noted [] done [] is.0 is.1
      (nothing-due note_entry deed AreCaused s d, g)
  calls-due (call ∷ calls) noted done mine is s d f g =
      goes-as (note_calls (note_call s call.kind) calls) d noted (is.0 ++ is.1) done
      (is.2 ++ is.3) is.4 is.5
      (each call is.0 is.2 mine.0 is.6 s d f g calls is.1 is.3
      (λ t q k h. calls-due calls is.1 is.3 mine.1 is.7 t q k h))

  collects-due : (b : Bool) (noted : List Entry) (done : List RingEntry) → Each (NamesOwn n) noted
      → CollectsIf b Due noted done
      → IsDue noted done
  collects-due false noted done mine is = due-as noted [] done [] is.0 is.1
      (blocks.none-due notings)
  collects-due true noted done mine is = due-as noted (entries.Collect is.0 ∷ is.1) done
      done is.2 refl
      (λ s d f g.
      let x = calls-due is.0 is.1 done (subst (Each (NamesOwn n)) is.2 mine).0 is.3 s d f g in (
        noted-first note_entry deed AreCaused s d (entries.Collect is.0) is.1 done
            (calls-caused s d is.0 f) x.0,
        x.1,
      ))

  each-filter : (p : Entry → Bool) (xs : List Entry) → Each (NamesOwn n) xs
      → Each (NamesOwn n) (filter p xs)
  each-filter p [] is = tt
  each-filter p (x ∷ xs) is = at (p x) (each-filter p xs is.1)
    where
      at : (b : Bool) → Each (NamesOwn n) (filter p xs)
          → Each (NamesOwn n) (cond b (x ∷ filter p xs) (filter p xs))
      at true all = (is.0, all)
      at false all = all

  each-back : (xs ys : List Entry) → Each (NamesOwn n) (xs ++ ys) → Each (NamesOwn n) ys
  each-back [] ys is = is
  each-back (x ∷ xs) ys is = each-back xs ys is.1

  by-collects : (alone alone' : Bool) (fixed : Fixed) (a b : List Entry) (x y : List RingEntry)
      → Collects alone alone' fixed n Due a b x y
      → Each (NamesOwn n) b → StaysInTime n a x → StaysInTime n b y
  by-collects alone alone' fixed a b x y c mine k =
      let p = c.goes in
      let ours : Each (NamesOwn n) p.noted =
      subst (Each (NamesOwn n)) p.station.ours_are (each-filter is_ours p.station.more
      (each-back c.asked p.station.more (subst (Each (NamesOwn n)) p.station.after_is mine))) in
      by-grew n alone alone' c.asked b x y p.noted p.done p.station p.node
      (collects-due (has_started_at fixed c.asked) p.noted p.done ours p.due)
      (by-ask n alone a c.asked x c.asks k)

-- ---- the whole
each-front : (n : ℕ) (xs ys : List Entry) → Each (NamesOwn n) (xs ++ ys) → Each (NamesOwn n) xs
each-front n [] ys is = tt
each-front n (x ∷ xs) ys is = (is.0, each-front n xs ys is.1)

before-grew : (n : ℕ) (alone : Bool) (a added b : List Entry) → Grew alone is_ours a added b
    → Each (NamesOwn n) b → Each (NamesOwn n) a
before-grew n alone a added b g is = each-front n a g.more (subst (Each (NamesOwn n)) g.after_is is)

before-asked : (n : ℕ) (alone : Bool) (a b : List Entry) → WentOn alone is_ours a [] b
    → Each (NamesOwn n) b → Each (NamesOwn n) a
before-asked n alone a b w is = before-grew n alone a [] b (grew-one alone is_ours a [] b refl w) is

same-list : (a : List Entry) → Grew true is_ours a [] a
same-list a =
    record { more = []; after_is = sym (append-nil a); ours_are = refl; all_alone = λ is. refl }

pub work-in-time : (alone_ram alone_ring : Bool) (fixed : Fixed) (net : NetPlan) (n : ℕ)
    (budget left : Bool) (known new_known : List Entry) (ring new_ring : List RingEntry)
    → WorksTurn alone_ram alone_ring fixed net n budget known new_known ring new_ring left
    → Each (IsForeign n) (inbox_of net n ring) → Each (NamesOwn n) new_known
    → StaysInTime n known ring → StaysInTime n new_known new_ring
work-in-time alone_ram alone_ring fixed net n budget left known new_known ring new_ring t
    foreign named k =
    let both = both-asked t.ends.asked in
    let named-asked : Each (NamesOwn n) t.ends.asked_known =
    before-grew n alone_ram _ _ new_known t.ends.gives_up.station named in
    let named-given : Each (NamesOwn n) t.given_known =
    before-asked n alone_ram _ _ both.first
    (before-asked n alone_ram _ _ both.then_on named-asked) in
    let named-called : Each (NamesOwn n) t.called_known =
    before-grew n alone_ram _ _ _ t.sends.finishes
    (before-grew n alone_ram _ _ _ t.gives_up.station named-given) in
    let served = by-serves n alone_ram alone_ring (inbox_of net n ring) known t.served_known ring
    t.served_ring t.serves foreign k in
    let called = by-collects n (IsMade n) (λ call noted done mine is.
    made-due n call.kind call.id noted done mine is) alone_ram alone_ring fixed
    t.served_known t.called_known t.served_ring t.called_ring t.calls named-called served in
    let sent = by-sends n alone_ram alone_ring net t.called_known t.sent_known t.called_ring
    t.sent_ring t.sends called in
    let given = by-gives n alone_ram alone_ring _ t.sent_known t.given_known t.sent_ring
    t.given_ring t.gives_up sent in
    let asked = by-ask n alone_ram both.at_end t.ends.asked_known t.given_ring both.then_on
    (by-ask n alone_ram t.given_known both.at_end t.given_ring both.first given) in
    let handed = by-grew n true alone_ring t.ends.asked_known t.ends.asked_known t.given_ring
    t.ends.handed_ring [] _ (same-list t.ends.asked_known) t.ends.handed.grew
    (blocks.still-due notings _ (last-still n t.ends.done _ _ (quiet-due net
    (ring_after net t.given_ring) n t.ends.done budget))) asked in
    by-gives n alone_ram alone_ring _ t.ends.asked_known new_known t.ends.handed_ring new_ring
    t.ends.gives_up handed

-- ---- the node leaves as power failed, and comes back
by-back : (n : ℕ) (alone alone' : Bool) (fixed : Fixed) (joined : Bool) (a b : List Entry)
    (x y : List RingEntry) → ComesBack alone alone' fixed n a b x y joined → StaysInTime n a x
    → StaysInTime n b y
by-back n alone alone' fixed joined a b x y c k = at joined refl
  where
    asked : StaysInTime n b x
    asked = by-ask n alone a b x c.asks k

    not-true : (o : Bool) → not o ≡ true → o ≡ false
    not-true true e = absurd (let bad : false ≡ true = e in cc)
    not-true false e = refl

    at : (j : Bool) → joined ≡ j → StaysInTime n b y
    at true is =
        let power : is_off_at fixed b ≡ false = not-true (is_off_at fixed b)
        (sym c.joined_is ∙ is) in
        let grew : Grew alone' (is_of n) x (Join n ∷ []) y =
        subst (λ (j : Bool). Grew alone' (is_of n) x (join_entries n j) y) is c.grew in
        by-grew-at n true alone' b b x y [] (Join n ∷ []) (same-list b) grew
        (λ f g. blocks.back-due notings (tally note_entry no_notes b) (done_by n x) (Join n) refl
        (power-noted fixed b power) f g) asked
    at false is = subst (λ (l : List RingEntry). StaysInTime n b l) (sym (c.stays is)) asked

by-down : (n : ℕ) (alone alone' : Bool) (fixed : Fixed) (net : NetPlan) (joined : Bool)
    (a b : List Entry) (x y : List RingEntry)
    → GoesDown alone alone' fixed net n (failures_at fixed a) a b x y joined → StaysInTime n a x
    → StaysInTime n b y
by-down n alone alone' fixed net joined a b x y t k =
    let number = failures_at fixed a in
    let left = by-grew-at n true alone' a a x t.left_ring [] (Leave n (Down number) ∷ [])
    (same-list a) t.leaves.grew
    (λ f g. blocks.down-due notings (tally note_entry no_notes a) (done_by n x)
    (Leave n (Down number)) number refl (let same = fails-noted fixed a in omega (arith, same)) f g)
    k in
    let given = by-gives n alone alone' _ a t.given_known t.left_ring t.given_ring t.gives_up left
    in
    by-back n alone alone' fixed joined t.given_known b t.given_ring y t.comes given

pub turn-in-time : (alone_ram alone_ring : Bool) (fixed : Fixed) (net : NetPlan) (n : ℕ)
    (budget : Bool) (end : TurnEnd) (known new_known : List Entry) (ring new_ring : List RingEntry)
    → HoldsTurn alone_ram alone_ring fixed net n budget known new_known ring new_ring end
    → Each (IsForeign n) (inbox_of net n ring) → Each (NamesOwn n) new_known
    → StaysInTime n known ring → StaysInTime n new_known new_ring
turn-in-time alone_ram alone_ring fixed net n budget end known new_known ring new_ring t
    foreign named k = by (is_unnoticed fixed n t.asked ring) t.goes
  where
    asked : StaysInTime n t.asked ring
    asked = by-ask n alone_ram known t.asked ring t.asks k

    by : (b : Bool)
        → TurnsBy b alone_ram alone_ring fixed net n budget t.asked new_known ring new_ring end
        → StaysInTime n new_known new_ring
    by true goes =
        by-down n alone_ram alone_ring fixed net goes.0 t.asked new_known ring new_ring goes.2 asked
    by false goes =
        work-in-time alone_ram alone_ring fixed net n budget goes.0 t.asked new_known ring new_ring
        goes.2 foreign named asked

pub back-in-time : AwayTurnsStayInTime
back-in-time alone_ram alone_ring fixed n joined known new_known ring new_ring c k =
    by-back n alone_ram alone_ring fixed joined known new_known ring new_ring c k

pub visit-in-time : (alone_ram alone_ring : Bool) (fixed : Fixed) (net : NetPlan) (n : ℕ)
    (known new_known : List Entry) (ring new_ring : List RingEntry)
    → VisitsEnd alone_ram alone_ring fixed net n known new_known ring new_ring
    → Each (NamesOwn n) new_known → StaysInTime n known ring
    → StaysInTime n new_known new_ring
visit-in-time alone_ram alone_ring fixed net n known new_known ring new_ring t named k =
    by-collects n (IsEnded n) (λ call noted done mine is. ended-due n call.kind call.id noted done
    mine is) alone_ram alone_ring fixed known new_known ring new_ring t.calls named k

pub others-in-time : OthersStayInTime
others-in-time n known more ring others quiet none k =
    by-grew n false false known (known ++ more) ring (ring ++ others) [] []
    (record {
      more = more;
      after_is = refl;
      ours_are = quiet;
      all_alone = λ (is : false ≡ true). absurd (cc);
    })
    (record {
      more = others;
      after_is = refl;
      ours_are = none;
      all_alone = λ (is : false ≡ true). absurd (cc);
    }) (blocks.none-due notings) k

pub starts-in-time : StartsInTime
starts-in-time n ring none = record {
  timely = subst (λ (l : List RingEntry). InTime [] l) (sym none)
      (nothing-due note_entry deed AreCaused no_notes no_deeds);
  replied = subst (λ (l : List RingEntry). OwesNoReply no_notes (tally deed no_deeds l)) (sym none)
      (record { answered = tt; posted = refl });
}

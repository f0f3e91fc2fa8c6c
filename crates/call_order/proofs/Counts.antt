-- What is counted is how much is read.
use Rattle.std.proofs.Common.{◌≡◌, ℕ, ◌+◌, ◌==◌, Bool, true, false, List, [], ◌∷◌, length, map}
use Rattle.std.proofs.Common.{◌++◌, Option, Some, None, refl, sym, ap, ◌∙◌, arith, append_assoc}
use Rattle.std.proofs.Common.{if◌then◌else◌, append-nil}
use Rattle.std.specs.Prelude.{filter_map}
use Rattle.std.specs.List.{flat_map, cons_option}
use Rattle.std.proofs.lemmas.List.{length-append, map-append}
use Rattle.controller_core.specs.declared.call.Call.{Call}
use Rattle.controller_core.specs.declared.call.CallKind.{CallKind}
use Rattle.controller_core.specs.declared.call.CallKind.TheVariants as call_kinds
use Rattle.controller_core.specs.declared.entry.Entry.TheVariants.{Begin, Input, Solve, Output}
use Rattle.controller_core.specs.declared.entry.Entry.TheVariants.{End, Collect, Peer, Finish}
use Rattle.controller_core.specs.declared.entry.Entry.TheVariants.{Fail, Dark, Off}
use Rattle.host_port.specs.declared.entry.HostEntry.TheVariants as hosts
use Rattle.mstr_block.specs.declared.call.CallId.{CallId}
use Rattle.ring_core.specs.Statistics.{is_for_stats}
use Rattle.ring_core.specs.declared.frame.Frame.{Frame}
use Rattle.ring_core.specs.declared.frame.FrameKind.{FrameKind}
use Rattle.ring_core.specs.declared.frame.FrameKind.TheVariants.{Request, Reply}
use Rattle.ring_core.specs.declared.entry.LocalOp.{LocalOp}
use Rattle.mstr_block.specs.declared.call.MstrResult.{MstrResult}
use Rattle.ring_core.specs.declared.entry.RingEntry.{RingEntry}
use Rattle.ring_core.specs.declared.entry.RingEntry.TheVariants.{Post, Send, Take, Local, GiveUp}
use Rattle.ring_core.specs.declared.entry.RingEntry.TheVariants.{Pass, Leave, Join}
use Rattle.ring_core.specs.declared.entry.LeaveCause.{LeaveCause}
use Rattle.ring_core.specs.declared.entry.LeaveCause.TheVariants.{Ended, Spent, Down}
use Rattle.tied_lists.specs.Items.{Asked, Answered, Item, Taken, Plain, ForStats, AController}
use Rattle.tied_lists.specs.Items.{net_ask, taken_of, taken_by}
use Rattle.joint_history.specs.Effects.{has_reply}
use Rattle.tied_lists.specs.Items.{asked_of, asked_in, taken_in, plain_items, stats_items}
use Rattle.tied_lists.specs.Items.{request_of, reply_of, answered_for, replied_in, replied_of}
use Rattle.tied_lists.specs.Items.{ended_in, ended_at_home, LocalCall, Came}
use Rattle.joint_history.specs.Reading.{called_of, sort_of}
use Rattle.one_order.specs.Merges.{tally}
use Rattle.entry_causes.specs.Causes.{StationEntry, ByController, ByHost, Noted, Done, noted_next}
use Rattle.entry_causes.specs.Causes.{done_next, asking, asking_of, posting, taking, working, note}
use Rattle.entry_causes.specs.Causes.{deed, leaving}
use Rattle.call_order.specs.Named.{asks_in, answers_in, ends_in, takes_in, port_takes_in}
use Rattle.call_order.specs.Named.{port_answers_in, overs_in, end_id}

length-cons : {X : Type 0} (o : Option X) (xs : List X)
    → length (cons_option o xs) ≡ length (cons_option o []) + length xs
length-cons None xs = omega arith
length-cons (Some x) xs = omega arith

-- calls that are handed on
one-asked : (s : Noted) (id : CallId) (kind : CallKind)
    → (noted_next s (asking kind)).asked
    ≡ s.asked + length (cons_option (net_ask (record { id = id; sort = sort_of kind })) [])
one-asked s id (call_kinds.Net route pdu) = refl
one-asked s id (call_kinds.Local op) = omega arith

one-served : (s : Noted) (kind : CallKind)
    → ((noted_next s (asking kind)).served ≡ s.served)
    × ((noted_next s (asking kind)).ended ≡ s.ended)
one-served s (call_kinds.Net route pdu) = (refl, refl)
one-served s (call_kinds.Local op) = (refl, refl)

calls-asked : (s : Noted) (calls : List Call)
    → (tally noted_next s (map asking_of calls)).asked
    ≡ s.asked + length (filter_map net_ask (map called_of calls))
calls-asked s [] = omega arith
calls-asked s (c ∷ calls) =
    let a = calls-asked (noted_next s (asking_of c)) calls in
    let b = one-asked s c.id c.kind in
    let d = length-cons (net_ask (called_of c)) (filter_map net_ask (map called_of calls)) in
    omega (arith, a, b, d)

calls-served : (s : Noted) (calls : List Call)
    → ((tally noted_next s (map asking_of calls)).served ≡ s.served)
    × ((tally noted_next s (map asking_of calls)).ended ≡ s.ended)
calls-served s [] = (refl, refl)
calls-served s (c ∷ calls) =
    let a = calls-served (noted_next s (asking_of c)) calls in
    let b = one-served s c.kind in
    (a.0 ∙ b.0, a.1 ∙ b.1)

note-asked : (s : Noted) (e : StationEntry) → (note s e).asked ≡ s.asked + length (asks_in e)
note-asked s (ByController Begin) = omega arith
note-asked s (ByController (Input row)) = omega arith
note-asked s (ByController (Solve row)) = omega arith
note-asked s (ByController (Output row words)) = omega arith
note-asked s (ByController End) = omega arith
note-asked s (ByController Fail) = omega arith
note-asked s (ByController Dark) = omega arith
note-asked s (ByController (Collect calls)) = calls-asked s calls
note-asked s (ByController (Peer id request reply)) = omega arith
note-asked s (ByController (Off id request)) = omega arith
note-asked s (ByController (Finish id result)) = omega arith
note-asked s (ByHost (hosts.Ask id route pdu)) = refl
note-asked s (ByHost (hosts.Served id request reply)) = omega arith
note-asked s (ByHost (hosts.Answer id result)) = omega arith

note-served : (s : Noted) (e : StationEntry) → (note s e).served ≡ s.served + length (answers_in e)
note-served s (ByController Begin) = omega arith
note-served s (ByController (Input row)) = omega arith
note-served s (ByController (Solve row)) = omega arith
note-served s (ByController (Output row words)) = omega arith
note-served s (ByController End) = omega arith
note-served s (ByController Fail) = omega arith
note-served s (ByController Dark) = omega arith
note-served s (ByController (Collect calls)) = let a = (calls-served s calls).0 in omega (arith, a)
note-served s (ByController (Peer id request reply)) = refl
note-served s (ByController (Off id request)) = refl
note-served s (ByController (Finish id result)) = omega arith
note-served s (ByHost (hosts.Ask id route pdu)) = omega arith
note-served s (ByHost (hosts.Served id request reply)) = refl
note-served s (ByHost (hosts.Answer id result)) = omega arith

note-ended : (s : Noted) (e : StationEntry) → (note s e).ended ≡ s.ended + length (ends_in e)
note-ended s (ByController Begin) = omega arith
note-ended s (ByController (Input row)) = omega arith
note-ended s (ByController (Solve row)) = omega arith
note-ended s (ByController (Output row words)) = omega arith
note-ended s (ByController End) = omega arith
note-ended s (ByController Fail) = omega arith
note-ended s (ByController Dark) = omega arith
note-ended s (ByController (Collect calls)) = let a = (calls-served s calls).1 in omega (arith, a)
note-ended s (ByController (Peer id request reply)) = omega arith
note-ended s (ByController (Off id request)) = omega arith
note-ended s (ByController (Finish id result)) = refl
note-ended s (ByHost (hosts.Ask id route pdu)) = omega arith
note-ended s (ByHost (hosts.Served id request reply)) = omega arith
note-ended s (ByHost (hosts.Answer id result)) = refl

pub all-asked : (s : Noted) (es : List StationEntry)
    → (tally note s es).asked ≡ s.asked + length (flat_map asks_in es)
all-asked s [] = omega arith
all-asked s (e ∷ es) =
    let a = all-asked (note s e) es in
    let b = note-asked s e in
    let c = length-append (asks_in e) (flat_map asks_in es) in
    omega (arith, a, b, c)

pub all-served : (s : Noted) (es : List StationEntry)
    → (tally note s es).served ≡ s.served + length (flat_map answers_in es)
all-served s [] = omega arith
all-served s (e ∷ es) =
    let a = all-served (note s e) es in
    let b = note-served s e in
    let c = length-append (answers_in e) (flat_map answers_in es) in
    omega (arith, a, b, c)

pub all-ended : (s : Noted) (es : List StationEntry)
    → (tally note s es).ended ≡ s.ended + length (flat_map ends_in es)
all-ended s [] = omega arith
all-ended s (e ∷ es) =
    let a = all-ended (note s e) es in
    let b = note-ended s e in
    let c = length-append (ends_in e) (flat_map ends_in es) in
    omega (arith, a, b, c)

-- what a node does
abbrev pub posts_in : RingEntry → List Asked
posts_in r = cons_option (asked_of r) []

post-posted : (d : Done) (kind : FrameKind) (f : Frame)
    → (tally done_next d (posting kind ∷ [])).posted
    ≡ d.posted + length (cons_option (asked_in kind f) [])
post-posted d Request f = refl
post-posted d Reply f = omega arith

post-other : (d : Done) (kind : FrameKind)
    → ((tally done_next d (posting kind ∷ [])).taken ≡ d.taken)
    × ((tally done_next d (posting kind ∷ [])).over ≡ d.over)
post-other d Request = (refl, refl)
post-other d Reply = (refl, refl)

take-posted : (d : Done) (kind : FrameKind) (stats : Bool)
    → (tally done_next d (taking kind stats ∷ [])).posted ≡ d.posted
take-posted d Request true = refl
take-posted d Request false = refl
take-posted d Reply stats = refl

take-taken-at : (d : Done) (f : Frame) (stats : Bool)
    → (tally done_next d (taking Request stats ∷ [])).taken
    ≡ d.taken + length (plain_items
    (cons_option (Some (if stats then ForStats f.id f.pdu else Plain f.id f.rest f.pdu)) []))
take-taken-at d f true = omega arith
take-taken-at d f false = refl

take-taken : (d : Done) (f : Frame) (kind : FrameKind)
    → (tally done_next d (taking kind (is_for_stats f) ∷ [])).taken
    ≡ d.taken + length (plain_items (cons_option (taken_in kind f) []))
take-taken d f Request = take-taken-at d f (is_for_stats f)
take-taken d f Reply = omega arith

take-port-at : (d : Done) (f : Frame) (stats : Bool)
    → (tally done_next d (taking Request stats ∷ [])).taken_port
    ≡ d.taken_port + length (stats_items
    (cons_option (Some (if stats then ForStats f.id f.pdu else Plain f.id f.rest f.pdu)) []))
take-port-at d f true = refl
take-port-at d f false = omega arith

take-port : (d : Done) (f : Frame) (kind : FrameKind)
    → (tally done_next d (taking kind (is_for_stats f) ∷ [])).taken_port
    ≡ d.taken_port + length (stats_items (cons_option (taken_in kind f) []))
take-port d f Request = take-port-at d f (is_for_stats f)
take-port d f Reply = omega arith

-- of Replies posted, and of what the port answered
post-replies : (d : Done) (kind : FrameKind) (f : Frame)
    → (tally done_next d (posting kind ∷ [])).replies
    ≡ d.replies + length (cons_option (replied_in kind f) [])
post-replies d Request f = omega arith
post-replies d Reply f = refl

post-port : (d : Done) (kind : FrameKind)
    → ((tally done_next d (posting kind ∷ [])).taken_port ≡ d.taken_port)
    × ((tally done_next d (posting kind ∷ [])).answered_port ≡ d.answered_port)
post-port d Request = (refl, refl)
post-port d Reply = (refl, refl)

take-replies : (d : Done) (kind : FrameKind) (stats : Bool)
    → ((tally done_next d (taking kind stats ∷ [])).replies ≡ d.replies)
    × ((tally done_next d (taking kind stats ∷ [])).answered_port ≡ d.answered_port)
take-replies d Request true = (refl, refl)
take-replies d Request false = (refl, refl)
take-replies d Reply stats = (refl, refl)

work-port : (d : Done) (own : Bool)
    → ((tally done_next d (working own)).replies ≡ d.replies)
    × ((tally done_next d (working own)).taken_port ≡ d.taken_port)
work-port d true = (refl, refl)
work-port d false = (refl, refl)

work-answered-at : (d : Done) (answer : Answered) (own : Bool)
    → (tally done_next d (working own)).answered_port
    ≡ d.answered_port + length (cons_option (if own then None else Some answer) [])
work-answered-at d answer true = omega arith
work-answered-at d answer false = refl

work-answered : (d : Done) (n : ℕ) (id : CallId) (op : LocalOp) (result : MstrResult)
    → (tally done_next d (working (id.node == n))).answered_port
    ≡ d.answered_port + length (cons_option (answered_for n id op result) [])
work-answered d n id op result =
    work-answered-at d (record {
      id = id;
      rest = [];
      request = request_of op;
      reply = Some (reply_of result);
    })
    (id.node == n)

take-over-at : (d : Done) (stats : Bool)
    → (tally done_next d (taking Request stats ∷ [])).over ≡ d.over + 0
take-over-at d true = omega arith
take-over-at d false = omega arith

take-over : (d : Done) (f : Frame) (kind : FrameKind) (stats : Bool)
    → (tally done_next d (taking kind stats ∷ [])).over
    ≡ d.over + length (map end_id (cons_option (ended_in AController [] kind f) []))
take-over d f Request stats = take-over-at d stats
take-over d f Reply stats = refl

work-other : (d : Done) (own : Bool)
    → ((tally done_next d (working own)).posted ≡ d.posted)
    × ((tally done_next d (working own)).taken ≡ d.taken)
work-other d true = (refl, refl)
work-other d false = (refl, refl)

work-over : (d : Done) (n : ℕ) (id : CallId) (op : LocalOp) (result : MstrResult)
    → (tally done_next d (working (id.node == n))).over
    ≡ d.over + length (map end_id (cons_option (ended_at_home n id op result) []))
work-over d n id op result = at (id.node == n)
  where
    at : (own : Bool) → (tally done_next d (working own)).over
        ≡ d.over + length (map end_id
        (cons_option (if own then Some
        (record { id = id; kind = Some (LocalCall op); outcome = Came result }) else None) []))
    at true = refl
    at false = omega arith

-- a Leave adds to none of these counts
record Beside (d q : Done) : Type 0 where
  posted : q.posted ≡ d.posted
  taken : q.taken ≡ d.taken
  taken_port : q.taken_port ≡ d.taken_port
  requests : q.requests ≡ d.requests
  answered_port : q.answered_port ≡ d.answered_port
  replies : q.replies ≡ d.replies
  over : q.over ≡ d.over

beside : (d q : Done) → q ≡ record d { down = q.down } → Beside d q
beside d q is = record {
  posted = ap (λ (x : Done). x.posted) is;
  taken = ap (λ (x : Done). x.taken) is;
  taken_port = ap (λ (x : Done). x.taken_port) is;
  requests = ap (λ (x : Done). x.requests) is;
  answered_port = ap (λ (x : Done). x.answered_port) is;
  replies = ap (λ (x : Done). x.replies) is;
  over = ap (λ (x : Done). x.over) is;
}

leave-beside : (d : Done) (cause : LeaveCause) → Beside d (tally done_next d (leaving cause))
leave-beside d Ended = beside d d refl
leave-beside d Spent = beside d d refl
leave-beside d (Down number) = beside d (record d { down = number }) refl

deed-posted : (d : Done) (r : RingEntry) → (deed d r).posted ≡ d.posted + length (posts_in r)
deed-posted d (Post n f) = post-posted d f.kind f
deed-posted d (Take n f) = let a = take-posted d f.kind (is_for_stats f) in omega (arith, a)
deed-posted d (Local n id op result) = let a = (work-other d (id.node == n)).0 in omega (arith, a)
deed-posted d (GiveUp id word) = omega arith
deed-posted d (Send n heard) = omega arith
deed-posted d (Pass n done words) = omega arith
deed-posted d (Leave n cause) = let a = (leave-beside d cause).posted in omega (arith, a)
deed-posted d (Join n) = omega arith

deed-taken : (d : Done) (r : RingEntry) → (deed d r).taken ≡ d.taken + length (takes_in r)
deed-taken d (Post n f) = let a = (post-other d f.kind).0 in omega (arith, a)
deed-taken d (Take n f) = take-taken d f f.kind
deed-taken d (Local n id op result) = let a = (work-other d (id.node == n)).1 in omega (arith, a)
deed-taken d (GiveUp id word) = omega arith
deed-taken d (Send n heard) = omega arith
deed-taken d (Pass n done words) = omega arith
deed-taken d (Leave n cause) = let a = (leave-beside d cause).taken in omega (arith, a)
deed-taken d (Join n) = omega arith

deed-over : (d : Done) (r : RingEntry) → (deed d r).over ≡ d.over + length (overs_in r)
deed-over d (Post n f) = let a = (post-other d f.kind).1 in omega (arith, a)
deed-over d (Take n f) = take-over d f f.kind (is_for_stats f)
deed-over d (Local n id op result) = work-over d n id op result
deed-over d (GiveUp id word) = refl
deed-over d (Send n heard) = omega arith
deed-over d (Pass n done words) = omega arith
deed-over d (Leave n cause) = let a = (leave-beside d cause).over in omega (arith, a)
deed-over d (Join n) = omega arith

abbrev pub replies_posted_in : RingEntry → List Item
replies_posted_in r = cons_option (replied_of r) []

deed-taken-port : (d : Done) (r : RingEntry)
    → (deed d r).taken_port ≡ d.taken_port + length (port_takes_in r)
deed-taken-port d (Post n f) = let a = (post-port d f.kind).0 in omega (arith, a)
deed-taken-port d (Take n f) = take-port d f f.kind
deed-taken-port d (Local n id op result) =
    let a = (work-port d (id.node == n)).1 in omega (arith, a)
deed-taken-port d (GiveUp id word) = omega arith
deed-taken-port d (Send n heard) = omega arith
deed-taken-port d (Pass n done words) = omega arith
deed-taken-port d (Leave n cause) = let a = (leave-beside d cause).taken_port in omega (arith, a)
deed-taken-port d (Join n) = omega arith

deed-answered : (d : Done) (r : RingEntry)
    → (deed d r).answered_port ≡ d.answered_port + length (port_answers_in r)
deed-answered d (Post n f) = let a = (post-port d f.kind).1 in omega (arith, a)
deed-answered d (Take n f) = let a = (take-replies d f.kind (is_for_stats f)).1 in omega (arith, a)
deed-answered d (Local n id op result) = work-answered d n id op result
deed-answered d (GiveUp id word) = omega arith
deed-answered d (Send n heard) = omega arith
deed-answered d (Pass n done words) = omega arith
deed-answered d (Leave n cause) = let a = (leave-beside d cause).answered_port in omega (arith, a)
deed-answered d (Join n) = omega arith

deed-replies : (d : Done) (r : RingEntry)
    → (deed d r).replies ≡ d.replies + length (replies_posted_in r)
deed-replies d (Post n f) = post-replies d f.kind f
deed-replies d (Take n f) = let a = (take-replies d f.kind (is_for_stats f)).0 in omega (arith, a)
deed-replies d (Local n id op result) = let a = (work-port d (id.node == n)).0 in omega (arith, a)
deed-replies d (GiveUp id word) = omega arith
deed-replies d (Send n heard) = omega arith
deed-replies d (Pass n done words) = omega arith
deed-replies d (Leave n cause) = let a = (leave-beside d cause).replies in omega (arith, a)
deed-replies d (Join n) = omega arith

pub all-taken-port : (d : Done) (rs : List RingEntry)
    → (tally deed d rs).taken_port ≡ d.taken_port + length (flat_map port_takes_in rs)
all-taken-port d [] = omega arith
all-taken-port d (r ∷ rs) =
    let a = all-taken-port (deed d r) rs in
    let b = deed-taken-port d r in
    let c = length-append (port_takes_in r) (flat_map port_takes_in rs) in
    omega (arith, a, b, c)

pub all-answered : (d : Done) (rs : List RingEntry)
    → (tally deed d rs).answered_port ≡ d.answered_port + length (flat_map port_answers_in rs)
all-answered d [] = omega arith
all-answered d (r ∷ rs) =
    let a = all-answered (deed d r) rs in
    let b = deed-answered d r in
    let c = length-append (port_answers_in r) (flat_map port_answers_in rs) in
    omega (arith, a, b, c)

pub all-replies : (d : Done) (rs : List RingEntry)
    → (tally deed d rs).replies ≡ d.replies + length (flat_map replies_posted_in rs)
all-replies d [] = omega arith
all-replies d (r ∷ rs) =
    let a = all-replies (deed d r) rs in
    let b = deed-replies d r in
    let c = length-append (replies_posted_in r) (flat_map replies_posted_in rs) in
    omega (arith, a, b, c)

pub all-posted : (d : Done) (rs : List RingEntry)
    → (tally deed d rs).posted ≡ d.posted + length (flat_map posts_in rs)
all-posted d [] = omega arith
all-posted d (r ∷ rs) =
    let a = all-posted (deed d r) rs in
    let b = deed-posted d r in
    let c = length-append (posts_in r) (flat_map posts_in rs) in
    omega (arith, a, b, c)

pub all-taken : (d : Done) (rs : List RingEntry)
    → (tally deed d rs).taken ≡ d.taken + length (flat_map takes_in rs)
all-taken d [] = omega arith
all-taken d (r ∷ rs) =
    let a = all-taken (deed d r) rs in
    let b = deed-taken d r in
    let c = length-append (takes_in r) (flat_map takes_in rs) in
    omega (arith, a, b, c)

pub all-over : (d : Done) (rs : List RingEntry)
    → (tally deed d rs).over ≡ d.over + length (flat_map overs_in rs)
all-over d [] = omega arith
all-over d (r ∷ rs) =
    let a = all-over (deed d r) rs in
    let b = deed-over d r in
    let c = length-append (overs_in r) (flat_map overs_in rs) in
    omega (arith, a, b, c)

-- the sorts of the Requests taken, and the answers with a reply, in order
abbrev pub for-station : Taken → Bool
for-station (Plain id rest pdu) = true
for-station (ForStats id pdu) = false

abbrev pub with-reply : Answered → Bool
with-reply answer = has_reply answer.reply

abbrev sorts_in : Option Taken → List Bool
sorts_in o = map for-station (cons_option o [])

sort-taken : (d : Done) (f : Frame) (stats : Bool)
    → (tally done_next d (taking Request stats ∷ [])).requests
    ≡ d.requests ++ sorts_in (Some (if stats then ForStats f.id f.pdu else Plain f.id f.rest f.pdu))
sort-taken d f true = refl
sort-taken d f false = refl

take-sort : (d : Done) (f : Frame) (kind : FrameKind)
    → (tally done_next d (taking kind (is_for_stats f) ∷ [])).requests
    ≡ d.requests ++ sorts_in (taken_in kind f)
take-sort d f Request = sort-taken d f (is_for_stats f)
take-sort d f Reply = sym (append-nil d.requests)

post-sort : (d : Done) (kind : FrameKind)
    → (tally done_next d (posting kind ∷ [])).requests ≡ d.requests ++ []
post-sort d Request = sym (append-nil d.requests)
post-sort d Reply = sym (append-nil d.requests)

work-sort : (d : Done) (own : Bool)
    → (tally done_next d (working own)).requests ≡ d.requests ++ []
work-sort d true = sym (append-nil d.requests)
work-sort d false = sym (append-nil d.requests)

deed-sort : (d : Done) (r : RingEntry)
    → (deed d r).requests ≡ d.requests ++ sorts_in (taken_of r)
deed-sort d (Post n f) = post-sort d f.kind
deed-sort d (Take n f) = take-sort d f f.kind
deed-sort d (Local n id op result) = work-sort d (id.node == n)
deed-sort d (GiveUp id word) = sym (append-nil d.requests)
deed-sort d (Send n heard) = sym (append-nil d.requests)
deed-sort d (Pass n done words) = sym (append-nil d.requests)
deed-sort d (Leave n cause) = (leave-beside d cause).requests ∙ sym (append-nil d.requests)
deed-sort d (Join n) = sym (append-nil d.requests)

sorts-one : (o : Option Taken) (ts : List Taken)
    → map for-station (cons_option o ts) ≡ sorts_in o ++ map for-station ts
sorts-one None ts = refl
sorts-one (Some t) ts = refl

pub all-sorts : (d : Done) (rs : List RingEntry)
    → (tally deed d rs).requests ≡ d.requests ++ map for-station (taken_by rs)
all-sorts d [] = sym (append-nil d.requests)
all-sorts d (r ∷ rs) =
    all-sorts (deed d r) rs
    ∙ (ap (λ (l : List Bool). l ++ map for-station (taken_by rs)) (deed-sort d r)
    ∙ (append_assoc d.requests (sorts_in (taken_of r)) (map for-station (taken_by rs))
    ∙ ap (λ (l : List Bool). d.requests ++ l) (sym (sorts-one (taken_of r) (taken_by rs)))))

calls-answer : (s : Noted) (calls : List Call)
    → (tally noted_next s (map asking_of calls)).answers ≡ s.answers
calls-answer s [] = refl
calls-answer s (c ∷ calls) =
    calls-answer (noted_next s (asking_of c)) calls ∙ one s c.kind
  where
    one : (t : Noted) (kind : CallKind) → (noted_next t (asking kind)).answers ≡ t.answers
    one t (call_kinds.Net route pdu) = refl
    one t (call_kinds.Local op) = refl

note-answers : (s : Noted) (e : StationEntry)
    → (note s e).answers ≡ s.answers ++ map with-reply (answers_in e)
note-answers s (ByController Begin) = sym (append-nil s.answers)
note-answers s (ByController (Input row)) = sym (append-nil s.answers)
note-answers s (ByController (Solve row)) = sym (append-nil s.answers)
note-answers s (ByController (Output row words)) = sym (append-nil s.answers)
note-answers s (ByController End) = sym (append-nil s.answers)
note-answers s (ByController Fail) = sym (append-nil s.answers)
note-answers s (ByController Dark) = sym (append-nil s.answers)
note-answers s (ByController (Collect calls)) = calls-answer s calls ∙ sym (append-nil s.answers)
note-answers s (ByController (Peer id request reply)) = refl
note-answers s (ByController (Off id request)) = refl
note-answers s (ByController (Finish id result)) = sym (append-nil s.answers)
note-answers s (ByHost (hosts.Ask id route pdu)) = sym (append-nil s.answers)
note-answers s (ByHost (hosts.Served id request reply)) = refl
note-answers s (ByHost (hosts.Answer id result)) = sym (append-nil s.answers)

pub all-answers : (s : Noted) (es : List StationEntry)
    → (tally note s es).answers ≡ s.answers ++ map with-reply (flat_map answers_in es)
all-answers s [] = sym (append-nil s.answers)
all-answers s (e ∷ es) =
    all-answers (note s e) es
    ∙ (ap (λ (l : List Bool). l ++ map with-reply (flat_map answers_in es)) (note-answers s e)
    ∙ (append_assoc s.answers (map with-reply (answers_in e))
    (map with-reply (flat_map answers_in es))
    ∙ ap (λ (l : List Bool). s.answers ++ l)
    (sym (map-append with-reply (answers_in e) (flat_map answers_in es)))))

-- What the laws between the lists read, entry by entry.
use Rattle.std.proofs.Common.{◌≡◌, List, [], ◌∷◌, ◌++◌, map, Option, Some, None, refl, sym, ap}
use Rattle.std.proofs.Common.{◌∙◌, append_assoc}
use Rattle.std.specs.Prelude.{filter_map}
use Rattle.std.specs.List.{flat_map, cons_option}
use Rattle.std.proofs.lemmas.List.{append-nil, map-append}
use Rattle.std.proofs.lemmas.List.Elements.{filter_map-append}
use Rattle.controller_core.specs.declared.entry.Entry.{Entry}
use Rattle.controller_core.specs.declared.entry.Entry.TheVariants.{Begin, Input, Solve, Output}
use Rattle.controller_core.specs.declared.entry.Entry.TheVariants.{End, Collect, Peer, Finish}
use Rattle.controller_core.specs.declared.entry.Entry.TheVariants.{Fail, Dark, Off}
use Rattle.host_port.specs.declared.entry.HostEntry.{HostEntry}
use Rattle.host_port.specs.declared.entry.HostEntry.TheVariants as hosts
use Rattle.ring_core.specs.declared.frame.Frame.{Frame}
use Rattle.ring_core.specs.declared.frame.FrameKind.{FrameKind}
use Rattle.ring_core.specs.declared.frame.FrameKind.TheVariants.{Request, Reply}
use Rattle.ring_core.specs.declared.entry.RingEntry.{RingEntry}
use Rattle.ring_core.specs.declared.entry.RingEntry.TheVariants.{Post, Send, Take, Local, GiveUp}
use Rattle.ring_core.specs.declared.entry.RingEntry.TheVariants.{Pass, Leave, Join}
use Rattle.tied_lists.specs.Items.{Asked, Answered, Taken, Plain, ForStats, Ended, Items, no_items}
use Rattle.tied_lists.specs.Items.{Station, AController, net_ask, item_of, asked_of, asked_by}
use Rattle.tied_lists.specs.Items.{taken_of, taken_by, plain_items, stats_items, answered_of}
use Rattle.tied_lists.specs.Items.{port_answers, replied_of, replied_by, ended_of, ended_in}
use Rattle.tied_lists.specs.Items.{ended_by}
use Rattle.joint_history.specs.Reading.{answered_here, called_of, item_next, items_after}
use Rattle.joint_history.specs.Reading.{items_of, host_item_next, host_items_after, host_items_of}
use Rattle.entry_causes.specs.Causes.{ByController, ByHost}
use Rattle.call_order.specs.Named.{asks_in, answers_in, ends_in, takes_in, port_takes_in}
use Rattle.call_order.specs.Named.{port_answers_in, overs_in, end_id}
use Rattle.call_order.proofs.Counts.{posts_in, replies_posted_in}

-- ---- The ring.

pub cons-one : {X : Type 0} (o : Option X) (xs : List X)
    → cons_option o xs ≡ cons_option o [] ++ xs
cons-one None xs = refl
cons-one (Some x) xs = refl

pub posts-read : (b : List RingEntry) → asked_by b ≡ flat_map posts_in b
posts-read [] = refl
posts-read (r ∷ b) =
    cons-one (asked_of r) (asked_by b) ∙ ap (λ (l : List Asked). posts_in r ++ l) (posts-read b)

plain-one : (o : Option Taken) (ts : List Taken)
    → plain_items (cons_option o ts) ≡ plain_items (cons_option o []) ++ plain_items ts
plain-one None ts = refl
plain-one (Some (Plain id rest pdu)) ts = refl
plain-one (Some (ForStats id pdu)) ts = refl

pub takes-read : (b : List RingEntry) → plain_items (taken_by b) ≡ flat_map takes_in b
takes-read [] = refl
takes-read (r ∷ b) =
    plain-one (taken_of r) (taken_by b) ∙ ap (λ (l : List _). takes_in r ++ l) (takes-read b)

stats-one : (o : Option Taken) (ts : List Taken)
    → stats_items (cons_option o ts) ≡ stats_items (cons_option o []) ++ stats_items ts
stats-one None ts = refl
stats-one (Some (Plain id rest pdu)) ts = refl
stats-one (Some (ForStats id pdu)) ts = refl

pub port-takes-read : (b : List RingEntry) → stats_items (taken_by b) ≡ flat_map port_takes_in b
port-takes-read [] = refl
port-takes-read (r ∷ b) =
    stats-one (taken_of r) (taken_by b)
    ∙ ap (λ (l : List _). port_takes_in r ++ l) (port-takes-read b)

pub port-answers-read : (b : List RingEntry) → port_answers b ≡ flat_map port_answers_in b
port-answers-read [] = refl
port-answers-read (r ∷ b) =
    cons-one (answered_of r) (port_answers b)
    ∙ ap (λ (l : List Answered). port_answers_in r ++ l) (port-answers-read b)

pub replies-read : (b : List RingEntry) → replied_by b ≡ flat_map replies_posted_in b
replies-read [] = refl
replies-read (r ∷ b) =
    cons-one (replied_of r) (replied_by b)
    ∙ ap (λ (l : List _). replies_posted_in r ++ l) (replies-read b)

-- answers by their requests
pub items-read : {X : Type 0} (f : X → List Answered) (xs : List X)
    → map item_of (flat_map f xs) ≡ flat_map (λ (x : X). map item_of (f x)) xs
items-read f [] = refl
items-read f (x ∷ xs) =
    map-append item_of (f x) (flat_map f xs)
    ∙ ap (λ (l : List _). map item_of (f x) ++ l) (items-read f xs)

end-one : (o : Option Ended) (es : List Ended)
    → map end_id (cons_option o es) ≡ map end_id (cons_option o []) ++ map end_id es
end-one None es = refl
end-one (Some e) es = refl

take-ended : (station : Station) (asked : List Asked) (kind : FrameKind) (f : Frame)
    → map end_id (cons_option (ended_in station asked kind f) [])
    ≡ map end_id (cons_option (ended_in AController [] kind f) [])
take-ended station asked Request f = refl
take-ended station asked Reply f = refl

same-ended : (station : Station) (asked : List Asked) (r : RingEntry)
    → map end_id (cons_option (ended_of station asked r) []) ≡ overs_in r
same-ended station asked (Post n f) = refl
same-ended station asked (Send n heard) = refl
same-ended station asked (Take n f) = take-ended station asked f.kind f
same-ended station asked (Local n id op result) = refl
same-ended station asked (GiveUp id word) = refl
same-ended station asked (Pass n done words) = refl
same-ended station asked (Leave n cause) = refl
same-ended station asked (Join n) = refl

pub overs-read : (station : Station) (asked : List Asked) (b : List RingEntry)
    → map end_id (ended_by station asked b) ≡ flat_map overs_in b
overs-read station asked [] = refl
overs-read station asked (r ∷ b) =
    end-one (ended_of station asked r) (ended_by station (asked ++ cons_option (asked_of r) []) b)
    ∙ ((λ i. same-ended station asked r i
    ++ overs-read station (asked ++ cons_option (asked_of r) []) b i))

-- ---- A controller.

abbrev AsksGoOn : Items → List Entry → Type 0
AsksGoOn a es =
    filter_map net_ask (items_after a es).calls ≡ filter_map net_ask a.calls
    ++ flat_map asks_in (map ByController es)

asks-on : (a : Items) (es : List Entry) → AsksGoOn a es
asks-on a [] = sym (append-nil (filter_map net_ask a.calls))
asks-on a (Begin ∷ es) = asks-on a es
asks-on a (Input row ∷ es) = asks-on a es
asks-on a (Solve row ∷ es) = asks-on a es
asks-on a (Output row words ∷ es) = asks-on a es
asks-on a (End ∷ es) = asks-on a es
asks-on a (Fail ∷ es) = asks-on (item_next a Fail) es
asks-on a (Dark ∷ es) = asks-on a es
asks-on a (Collect calls ∷ es) =
    asks-on (item_next a (Collect calls)) es
    ∙ (ap (λ (l : List Asked). l ++ flat_map asks_in (map ByController es))
    (filter_map-append net_ask a.calls (map called_of calls))
    ∙ append_assoc (filter_map net_ask a.calls) (filter_map net_ask (map called_of calls))
    (flat_map asks_in (map ByController es)))
asks-on a (Peer id request reply ∷ es) = asks-on (item_next a (Peer id request reply)) es
asks-on a (Off id request ∷ es) = asks-on (item_next a (Off id request)) es
asks-on a (Finish id result ∷ es) = asks-on (item_next a (Finish id result)) es

answers-on : (a : Items) (es : List Entry)
    → (items_after a es).answers ≡ a.answers ++ flat_map answers_in (map ByController es)
answers-on a [] = sym (append-nil a.answers)
answers-on a (Begin ∷ es) = answers-on a es
answers-on a (Input row ∷ es) = answers-on a es
answers-on a (Solve row ∷ es) = answers-on a es
answers-on a (Output row words ∷ es) = answers-on a es
answers-on a (End ∷ es) = answers-on a es
answers-on a (Fail ∷ es) = answers-on (item_next a Fail) es
answers-on a (Dark ∷ es) = answers-on a es
answers-on a (Collect calls ∷ es) = answers-on (item_next a (Collect calls)) es
answers-on a (Peer id request reply ∷ es) =
    answers-on (item_next a (Peer id request reply)) es
    ∙ append_assoc a.answers (answered_here id request (Some reply) ∷ [])
    (flat_map answers_in (map ByController es))
answers-on a (Off id request ∷ es) =
    answers-on (item_next a (Off id request)) es
    ∙ append_assoc a.answers (answered_here id request None ∷ [])
    (flat_map answers_in (map ByController es))
answers-on a (Finish id result ∷ es) = answers-on (item_next a (Finish id result)) es

ends-on : (a : Items) (es : List Entry)
    → map end_id (items_after a es).ends ≡ map end_id a.ends
    ++ flat_map ends_in (map ByController es)
ends-on a [] = sym (append-nil (map end_id a.ends))
ends-on a (Begin ∷ es) = ends-on a es
ends-on a (Input row ∷ es) = ends-on a es
ends-on a (Solve row ∷ es) = ends-on a es
ends-on a (Output row words ∷ es) = ends-on a es
ends-on a (End ∷ es) = ends-on a es
ends-on a (Fail ∷ es) = ends-on (item_next a Fail) es
ends-on a (Dark ∷ es) = ends-on a es
ends-on a (Collect calls ∷ es) = ends-on (item_next a (Collect calls)) es
ends-on a (Peer id request reply ∷ es) = ends-on (item_next a (Peer id request reply)) es
ends-on a (Off id request ∷ es) = ends-on (item_next a (Off id request)) es
ends-on a (Finish id result ∷ es) =
    ends-on (item_next a (Finish id result)) es
    ∙ (ap (λ (l : List _). l ++ flat_map ends_in (map ByController es))
    (map-append end_id a.ends _)
    ∙ append_assoc (map end_id a.ends) (id ∷ []) (flat_map ends_in (map ByController es)))

pub asks-read : (es : List Entry)
    → filter_map net_ask (items_of es).calls ≡ flat_map asks_in (map ByController es)
asks-read es = asks-on no_items es

pub answers-read : (es : List Entry)
    → (items_of es).answers ≡ flat_map answers_in (map ByController es)
answers-read es = answers-on no_items es

pub ends-read : (es : List Entry)
    → map end_id (items_of es).ends ≡ flat_map ends_in (map ByController es)
ends-read es = ends-on no_items es

-- ---- A host.

host-asks-on : (a : Items) (es : List HostEntry)
    → filter_map net_ask (host_items_after a es).calls ≡ filter_map net_ask a.calls
    ++ flat_map asks_in (map ByHost es)
host-asks-on a [] = sym (append-nil (filter_map net_ask a.calls))
host-asks-on a (hosts.Ask id route pdu ∷ es) =
    host-asks-on (host_item_next a (hosts.Ask id route pdu)) es
    ∙ (ap (λ (l : List Asked). l ++ flat_map asks_in (map ByHost es))
    (filter_map-append net_ask a.calls _)
    ∙ append_assoc (filter_map net_ask a.calls) (record { id = id; route = route; pdu = pdu } ∷ [])
    (flat_map asks_in (map ByHost es)))
host-asks-on a (hosts.Served id request reply ∷ es) =
    host-asks-on (host_item_next a (hosts.Served id request reply)) es
host-asks-on a (hosts.Answer id result ∷ es) =
    host-asks-on (host_item_next a (hosts.Answer id result)) es

host-answers-on : (a : Items) (es : List HostEntry)
    → (host_items_after a es).answers ≡ a.answers ++ flat_map answers_in (map ByHost es)
host-answers-on a [] = sym (append-nil a.answers)
host-answers-on a (hosts.Ask id route pdu ∷ es) =
    host-answers-on (host_item_next a (hosts.Ask id route pdu)) es
host-answers-on a (hosts.Served id request reply ∷ es) =
    host-answers-on (host_item_next a (hosts.Served id request reply)) es
    ∙ append_assoc a.answers (answered_here id request (Some reply) ∷ [])
    (flat_map answers_in (map ByHost es))
host-answers-on a (hosts.Answer id result ∷ es) =
    host-answers-on (host_item_next a (hosts.Answer id result)) es

host-ends-on : (a : Items) (es : List HostEntry)
    → map end_id (host_items_after a es).ends ≡ map end_id a.ends
    ++ flat_map ends_in (map ByHost es)
host-ends-on a [] = sym (append-nil (map end_id a.ends))
host-ends-on a (hosts.Ask id route pdu ∷ es) =
    host-ends-on (host_item_next a (hosts.Ask id route pdu)) es
host-ends-on a (hosts.Served id request reply ∷ es) =
    host-ends-on (host_item_next a (hosts.Served id request reply)) es
host-ends-on a (hosts.Answer id result ∷ es) =
    host-ends-on (host_item_next a (hosts.Answer id result)) es
    ∙ (ap (λ (l : List _). l ++ flat_map ends_in (map ByHost es)) (map-append end_id a.ends _)
    ∙ append_assoc (map end_id a.ends) (id ∷ []) (flat_map ends_in (map ByHost es)))

pub host-asks-read : (es : List HostEntry)
    → filter_map net_ask (host_items_of es).calls ≡ flat_map asks_in (map ByHost es)
host-asks-read es = host-asks-on no_items es

pub host-answers-read : (es : List HostEntry)
    → (host_items_of es).answers ≡ flat_map answers_in (map ByHost es)
host-answers-read es = host-answers-on no_items es

pub host-ends-read : (es : List HostEntry)
    → map end_id (host_items_of es).ends ≡ flat_map ends_in (map ByHost es)
host-ends-read es = host-ends-on no_items es

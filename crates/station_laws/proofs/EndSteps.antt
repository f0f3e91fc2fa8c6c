-- Kinds, requests and ends by the names of calls, as the lists go on.
use Rattle.std.proofs.Common.{◌≡◌, ℕ, Bool, true, false, List, [], ◌∷◌, ◌++◌, Option, Some, None}
use Rattle.std.proofs.Common.{refl, sym, ap, ◌∙◌, append_assoc, append-nil}
use Rattle.std.specs.Prelude.{if◌then◌else◌}
use Rattle.std.specs.List.{cons_option}
use Rattle.mstr_block.specs.Call.{is_same_call}
use Rattle.mstr_block.specs.declared.call.CallId.{CallId}
use Rattle.ring_core.specs.declared.frame.FrameKind.{FrameKind}
use Rattle.ring_core.specs.declared.frame.FrameKind.TheVariants.{Request, Reply}
use Rattle.ring_core.specs.declared.frame.Frame.{Frame}
use Rattle.ring_core.specs.declared.entry.RingEntry.{RingEntry}
use Rattle.ring_core.specs.declared.entry.RingEntry.TheVariants.{Post, Send, Take, Local, GiveUp}
use Rattle.ring_core.specs.declared.entry.RingEntry.TheVariants.{Pass, Leave, Join}
use Rattle.tied_lists.specs.Items.{Asked, Called, Ended, Kind, Station, asked_by, asked_of}
use Rattle.tied_lists.specs.Items.{ended_by, ended_in, ended_of, kind_in, kind_of_sort, last_asked}
use Rattle.tied_lists.specs.Items.{or_some}
use Rattle.std.proofs.Common.{◌+◌, ◌<◌, length, get_or, map, take}
use Rattle.std.proofs.lemmas.List.{map-append}
use Rattle.controller_core.specs.declared.call.Call.{Call}
use Rattle.controller_core.specs.declared.entry.Entry.{Entry}
use Rattle.host_port.specs.declared.entry.HostEntry.{HostEntry}
use Rattle.bridge_relay.specs.declared.entry.BridgeEntry.{BridgeEntry}
use Rattle.joint_history.specs.Bridges.{side_items}
use Rattle.joint_history.specs.Reading.{called_of, host_items_of, items_of, sort_of}
use Rattle.station_laws.specs.Endings.{NotesAsk, NotesCalls, NotesKind, end_with, ring_end_with}
use Rattle.station_laws.specs.Endings.{frame_end_with, host_end_with, kind_at, or_kind, pdu_for}
use Rattle.station_laws.specs.Endings.{side_end_with}
use Rattle.station_laws.specs.Kinds.{kind_as}
use Rattle.station_laws.specs.Named.{value_of_call}
use Rattle.station_laws.specs.Readings.{calls_in, host_call_in, side_calls_in}
use Rattle.station_laws.specs.declared.by_call.ByCall.{ByCall}
use Rattle.station_laws.specs.declared.ending.EndKind.{EndKind}
use Rattle.station_laws.proofs.AnswerSteps.{cons-append}
use Rattle.station_laws.proofs.Lists.{calls-more, ends-more, filter_map-push, host-calls-more}
use Rattle.station_laws.proofs.Lists.{host-ends-more, take-push}
use Rattle.station_laws.proofs.Sides.{side-calls-more, side-ends-more}

pub kind-append : (xs ys : List Called) (q : CallId)
    → kind_in (xs ++ ys) q ≡ or_kind (kind_in xs q) (kind_in ys q)
kind-append [] ys q = refl
kind-append (c ∷ cs) ys q =
    at (is_same_call c.id q) (kind_of_sort c.sort) (kind_in cs q) (kind_in ys q)
    (kind_in (cs ++ ys) q) (kind-append cs ys q)
  where
    at : (b : Bool) (k : Kind) (x y z : Option Kind) → z ≡ or_kind x y
        → (if b then Some k else z) ≡ or_kind (if b then Some k else x) y
    at true k x y z e = refl
    at false k x y z e = e

pub or_kind-assoc : (a b c : Option Kind) → or_kind (or_kind a b) c ≡ or_kind a (or_kind b c)
or_kind-assoc None b c = refl
or_kind-assoc (Some k) b c = refl

or_some-assoc : (a b c : Option (List ℕ)) → or_some (or_some a b) c ≡ or_some a (or_some b c)
or_some-assoc None b c = refl
or_some-assoc (Some k) b c = refl

last-push : (q : CallId) (xs : List Asked) (a : Asked)
    → last_asked q (xs ++ a ∷ [])
    ≡ or_some (if is_same_call a.id q then Some a.pdu else None) (last_asked q xs)
last-push q [] a = at (is_same_call a.id q) a.pdu
  where
    at : (b : Bool) (p : List ℕ) → (if b then Some p else None)
        ≡ or_some (if b then Some p else None) None
    at true p = refl
    at false p = refl
last-push q (x ∷ xs) a =
    ap (λ (o : Option (List ℕ)). or_some o (if is_same_call x.id q then Some x.pdu else None))
    (last-push q xs a)
    ∙ or_some-assoc (if is_same_call a.id q then Some a.pdu else None) (last_asked q xs)
    (if is_same_call x.id q then Some x.pdu else None)

last-option : (q : CallId) (xs : List Asked) (o : Option Asked)
    → last_asked q (xs ++ cons_option o []) ≡ or_some (pdu_for q o) (last_asked q xs)
last-option q xs None = ap (last_asked q) (append-nil xs)
last-option q xs (Some a) = last-push q xs a

-- the request of a name behind one entry more
pub asked-push : (q : CallId) (b : List RingEntry) (e : RingEntry)
    → last_asked q (asked_by (b ++ e ∷ []))
    ≡ or_some (pdu_for q (asked_of e)) (last_asked q (asked_by b))
asked-push q b e =
    ap (last_asked q) (filter_map-push asked_of b e) ∙ last-option q (asked_by b) (asked_of e)

-- the ends behind one entry more
ended-from : (station : Station) (asked : List Asked) (b : List RingEntry) (e : RingEntry)
    → ended_by station asked (b ++ e ∷ []) ≡ ended_by station asked b
    ++ cons_option (ended_of station (asked ++ asked_by b) e) []
ended-from station asked [] e =
    ap (λ (l : List Asked). cons_option (ended_of station l e) []) (sym (append-nil asked))
ended-from station asked (x ∷ xs) e =
    let more = asked ++ cons_option (asked_of x) [] in
    let all : more ++ asked_by xs ≡ asked ++ asked_by (x ∷ xs) =
    append_assoc asked (cons_option (asked_of x) []) (asked_by xs)
    ∙ ap (λ (l : List Asked). asked ++ l) (sym (cons-append (asked_of x) [] (asked_by xs))) in
    ap (cons_option (ended_of station asked x)) (ended-from station more xs e)
    ∙ (cons-append (ended_of station asked x) (ended_by station more xs)
    (cons_option (ended_of station (more ++ asked_by xs) e) [])
    ∙ ap (λ (l : List Asked). cons_option (ended_of station asked x) (ended_by station more xs)
    ++ cons_option (ended_of station l e) []) all)

frame-with : (station : Station) (asked : List Asked) (kind : FrameKind) (f : Frame)
    → ended_in station asked kind f ≡ frame_end_with station (λ q. last_asked q asked) kind f
frame-with station asked Request f = refl
frame-with station asked Reply f = refl

of-with : (station : Station) (asked : List Asked) (e : RingEntry)
    → ended_of station asked e ≡ ring_end_with station (λ q. last_asked q asked) e
of-with station asked (Post n f) = refl
of-with station asked (Send n heard) = refl
of-with station asked (Take n f) = frame-with station asked f.kind f
of-with station asked (Local n id op result) = refl
of-with station asked (GiveUp id word) = refl
of-with station asked (Pass n done words) = refl
of-with station asked (Leave n cause) = refl
of-with station asked (Join n) = refl

pub ended-push : (station : Station) (b : List RingEntry) (e : RingEntry)
    (asked : CallId → Option (List ℕ)) → ((q : CallId) → asked q ≡ last_asked q (asked_by b))
    → ended_by station [] (b ++ e ∷ []) ≡ ended_by station [] b
    ++ cons_option (ring_end_with station asked e) []
ended-push station b e asked same = ended-from station [] b e
    ∙ ap (λ (o : Option Ended). ended_by station [] b ++ cons_option o [])
    (of-with station (asked_by b) e ∙ (λ i. ring_end_with station (λ q. sym (same q) i) e))

-- calls of one more are noted
pub notes-more : (init old new : ByCall EndKind) (calls : List Call) (i : ℕ) (call : Call)
    (kind : EndKind) → i < length calls → call ≡ get_or calls i call
    → kind_as kind ≡ kind_of_sort (sort_of call.kind)
    → NotesCalls init (map called_of (take i calls)) old
    → NotesKind old call.id (kind_as kind) new
    → NotesCalls init (map called_of (take (i + 1) calls)) new
notes-more init old new calls i call kind low is made before now q =
    now q
    ∙ ((λ j. or_kind (before q j) (if is_same_call call.id q then Some (made j) else None))
    ∙ (or_kind-assoc (kind_at init q) (kind_in (map called_of (take i calls)) q)
    (kind_in (called_of call ∷ []) q)
    ∙ ap (or_kind (kind_at init q))
    (sym (ap (λ l. kind_in (map called_of l) q) (take-push calls i call low is)
    ∙ (ap (λ l. kind_in l q) (map-append called_of (take i calls) (call ∷ []))
    ∙ kind-append (map called_of (take i calls)) (called_of call ∷ []) q)))))

-- and the ends of one entry more
pub ends-step : (old new : ByCall EndKind) (list list' : List Ended) (es : List Entry) (i : ℕ)
    (e : Entry) → i < length es → e ≡ get_or es i e
    → ((q : CallId) → kind_at old q ≡ kind_in (items_of (take i es)).calls q)
    → list ≡ (items_of (take i es)).ends
    → NotesCalls old (calls_in e) new → list' ≡ list ++ cons_option (end_with (kind_at old) e) []
    → ((q : CallId) → kind_at new q ≡ kind_in (items_of (take (i + 1) es)).calls q)
    × (list' ≡ (items_of (take (i + 1) es)).ends)
ends-step old new list list' es i e low is kinds listed notes ended = (
  λ q. notes q ∙ (ap (λ k. or_kind k (kind_in (calls_in e) q)) (kinds q)
      ∙ (sym (kind-append (items_of (take i es)).calls (calls_in e) q)
      ∙ ap (λ l. kind_in l q) (sym (calls-more es i e low is)))),
  ended ∙ ((λ j. listed j ++ cons_option (end_with (λ q. kinds q j) e) [])
      ∙ sym (ends-more es i e low is)),
)

pub host-ends-step : (old new : ByCall EndKind) (list list' : List Ended) (es : List HostEntry)
    (i : ℕ) (e : HostEntry) → i < length es → e ≡ get_or es i e
    → ((q : CallId) → kind_at old q ≡ kind_in (host_items_of (take i es)).calls q)
    → list ≡ (host_items_of (take i es)).ends
    → NotesCalls old (cons_option (host_call_in e) []) new
    → list' ≡ list ++ cons_option (host_end_with (kind_at old) e) []
    → ((q : CallId) → kind_at new q ≡ kind_in (host_items_of (take (i + 1) es)).calls q)
    × (list' ≡ (host_items_of (take (i + 1) es)).ends)
host-ends-step old new list list' es i e low is kinds listed notes ended = (
  λ q. notes q ∙ (ap (λ k. or_kind k (kind_in (cons_option (host_call_in e) []) q)) (kinds q)
      ∙ (sym (kind-append (host_items_of (take i es)).calls (cons_option (host_call_in e) []) q)
      ∙ ap (λ l. kind_in l q) (sym (host-calls-more es i e low is)))),
  ended ∙ ((λ j. listed j ++ cons_option (host_end_with (λ q. kinds q j) e) [])
      ∙ sym (host-ends-more es i e low is)),
)

pub side-ends-step : (side : ℕ) (old new : ByCall EndKind) (list list' : List Ended)
    (es : List BridgeEntry) (i : ℕ) (e : BridgeEntry) → i < length es → e ≡ get_or es i e
    → ((q : CallId) → kind_at old q ≡ kind_in (side_items side (take i es)).calls q)
    → list ≡ (side_items side (take i es)).ends
    → NotesCalls old (side_calls_in side e) new
    → list' ≡ list ++ cons_option (side_end_with side (kind_at old) e) []
    → ((q : CallId) → kind_at new q ≡ kind_in (side_items side (take (i + 1) es)).calls q)
    × (list' ≡ (side_items side (take (i + 1) es)).ends)
side-ends-step side old new list list' es i e low is kinds listed notes ended = (
  λ q. notes q ∙ (ap (λ k. or_kind k (kind_in (side_calls_in side e) q)) (kinds q)
      ∙ (sym (kind-append (side_items side (take i es)).calls (side_calls_in side e) q)
      ∙ ap (λ l. kind_in l q) (sym (side-calls-more side es i e low is)))),
  ended ∙ ((λ j. listed j ++ cons_option (side_end_with side (λ q. kinds q j) e) [])
      ∙ sym (side-ends-more side es i e low is)),
)

pub met-step : (station : Station) (old new : ByCall (List ℕ)) (list list' : List Ended)
    (b : List RingEntry) (e : RingEntry) (b' : List RingEntry) → b' ≡ b ++ e ∷ []
    → ((q : CallId) → value_of_call old q ≡ last_asked q (asked_by b))
    → list ≡ ended_by station [] b
    → NotesAsk old (asked_of e) new
    → list' ≡ list ++ cons_option (ring_end_with station (value_of_call old) e) []
    → ((q : CallId) → value_of_call new q ≡ last_asked q (asked_by b'))
    × (list' ≡ ended_by station [] b')
met-step station old new list list' b e b' push asks listed notes ended = (
  λ q. notes q ∙ (ap (or_some (pdu_for q (asked_of e))) (asks q)
      ∙ (sym (asked-push q b e) ∙ ap (λ l. last_asked q (asked_by l)) (sym push))),
  ended ∙ (ap (λ l. l ++ cons_option (ring_end_with station (value_of_call old) e) []) listed
      ∙ (sym (ended-push station b e (value_of_call old) asks)
      ∙ ap (ended_by station []) (sym push))),
)

-- Lists that grow by what each entry adds.
use Rattle.std.proofs.Common.{◌≡◌, ℕ, ◌+◌, ◌<◌, List, [], ◌∷◌, ◌++◌, length, get_or, take, drop}
use Rattle.std.proofs.Common.{Option}
use Rattle.std.proofs.Common.{refl, sym, ap, ◌∙◌, append_assoc, append-nil, true, false}
use Rattle.std.specs.List.{cons_option, filter_map}
use Rattle.std.proofs.lemmas.List.{map-append, take_more, get_or_read, take-append-drop}
use Rattle.std.proofs.lemmas.List.Elements.{filter_map-append}
use Rattle.ring_core.specs.declared.entry.LeaveCause.TheVariants.{Ended}
use Rattle.ring_core.specs.declared.entry.RingEntry.{RingEntry}
use Rattle.ring_core.specs.declared.entry.RingEntry.TheVariants.{Leave}
use Rattle.controller_core.specs.declared.entry.Entry.{Entry}
use Rattle.controller_core.specs.declared.entry.Entry.TheVariants as entries
use Rattle.host_port.specs.declared.entry.HostEntry.{HostEntry}
use Rattle.host_port.specs.declared.entry.HostEntry.TheVariants as host_entries
use Rattle.tied_lists.specs.Items.{Items, kind_in, no_items}
use Rattle.joint_history.specs.Reading.{item_next, items_after, items_of, host_item_next}
use Rattle.joint_history.specs.Reading.{host_items_after, host_items_of}
use Rattle.station_laws.specs.Readings.{answer_in, calls_in, host_answer_in, host_call_in}
use Rattle.station_laws.specs.Endings.{end_with, host_end_with}
use Rattle.station_laws.specs.Picked.{AreWithin, entry_at, picked}

-- one item more
pub take-push : {X : Type 0} (xs : List X) (i : ℕ) (x : X) → i < length xs → x ≡ get_or xs i x
    → take (i + 1) xs ≡ take i xs ++ x ∷ []
take-push xs i x low is = take_more xs i x low ∙ ap (λ y. take i xs ++ y ∷ []) (sym is)

pub filter_map-push : {X Y : Type 0} (f : X → Option Y) (xs : List X) (x : X)
    → filter_map f (xs ++ x ∷ []) ≡ filter_map f xs ++ cons_option (f x) []
filter_map-push f xs x = filter_map-append f xs (x ∷ [])

-- one entry more at the places
pub picked-push : (ring : List RingEntry) (places : List ℕ) (i : ℕ) (e : RingEntry)
    → AreWithin ring places → i < length places → e ≡ get_or ring (get_or places i 0) e
    → picked ring (take (i + 1) places) ≡ picked ring (take i places) ++ e ∷ []
picked-push ring places i e within low at =
    let p = get_or places i 0 in
    let there : p < length ring = within i 0 low in
    let entry : entry_at ring p ≡ e = sym (get_or_read ring p e there at (Leave 0 Ended)) in
    ap (picked ring) (take_more places i 0 low)
    ∙ (map-append (entry_at ring) (take i places) (p ∷ [])
    ∙ ap (λ (x : RingEntry). picked ring (take i places) ++ x ∷ []) entry)

-- what is picked of the entries at the places
pub picked-filter : {Y : Type 0} (f : RingEntry → Option Y) (ring : List RingEntry)
    (places : List ℕ) (i : ℕ) (e : RingEntry) → AreWithin ring places → i < length places
    → e ≡ get_or ring (get_or places i 0) e
    → filter_map f (picked ring (take (i + 1) places)) ≡ filter_map f (picked ring (take i places))
    ++ cons_option (f e) []
picked-filter f ring places i e within low at =
    ap (filter_map f) (picked-push ring places i e within low at)
    ∙ filter_map-push f (picked ring (take i places)) e

-- the entries at all places are those up to one, it, and others
pub picked-around : (ring : List RingEntry) (places : List ℕ) (i : ℕ) (e : RingEntry)
    → AreWithin ring places → i < length places → e ≡ get_or ring (get_or places i 0) e
    → picked ring places ≡ picked ring (take i places) ++ e ∷ picked ring (drop (i + 1) places)
picked-around ring places i e within low at =
    ap (picked ring) (sym (take-append-drop (i + 1) places))
    ∙ (map-append (entry_at ring) (take (i + 1) places) (drop (i + 1) places)
    ∙ (ap (λ (l : List RingEntry). l ++ picked ring (drop (i + 1) places))
    (picked-push ring places i e within low at)
    ∙ append_assoc (picked ring (take i places)) (e ∷ []) (picked ring (drop (i + 1) places))))

-- a list that a loop makes, and one that it goes on with
pub plain-step : {X : Type 0} (new old a b x : List X) → new ≡ old ++ x → old ≡ a → b ≡ a ++ x
    → new ≡ b
plain-step new old a b x e f g = e ∙ (ap (λ l. l ++ x) f ∙ sym g)

pub joined-step : {X : Type 0} (new old init a b x : List X) → new ≡ old ++ x → old ≡ init ++ a
    → b ≡ a ++ x → new ≡ init ++ b
joined-step new old init a b x e f g =
    e ∙ (ap (λ l. l ++ x) f ∙ (append_assoc init a x ∙ ap (λ l. init ++ l) (sym g)))

-- what a station's entry adds to its items
pub items-push : (a : Items) (es : List Entry) (e : Entry)
    → items_after a (es ++ e ∷ []) ≡ item_next (items_after a es) e
items-push a [] e = refl
items-push a (x ∷ xs) e = items-push (item_next a x) xs e

pub host-items-push : (a : Items) (es : List HostEntry) (e : HostEntry)
    → host_items_after a (es ++ e ∷ []) ≡ host_item_next (host_items_after a es) e
host-items-push a [] e = refl
host-items-push a (x ∷ xs) e = host-items-push (host_item_next a x) xs e

next-calls : (a : Items) (e : Entry) → (item_next a e).calls ≡ a.calls ++ calls_in e
next-calls a entries.Begin = sym (append-nil a.calls)
next-calls a (entries.Input row) = sym (append-nil a.calls)
next-calls a (entries.Solve row) = sym (append-nil a.calls)
next-calls a (entries.Output row words) = sym (append-nil a.calls)
next-calls a entries.End = sym (append-nil a.calls)
next-calls a entries.Fail = sym (append-nil a.calls)
next-calls a entries.Dark = sym (append-nil a.calls)
next-calls a (entries.Collect calls) = refl
next-calls a (entries.Peer id request reply) = sym (append-nil a.calls)
next-calls a (entries.Off id request) = sym (append-nil a.calls)
next-calls a (entries.Finish id result) = sym (append-nil a.calls)

next-answers : (a : Items) (e : Entry)
    → (item_next a e).answers ≡ a.answers ++ cons_option (answer_in e) []
next-answers a entries.Begin = sym (append-nil a.answers)
next-answers a (entries.Input row) = sym (append-nil a.answers)
next-answers a (entries.Solve row) = sym (append-nil a.answers)
next-answers a (entries.Output row words) = sym (append-nil a.answers)
next-answers a entries.End = sym (append-nil a.answers)
next-answers a entries.Fail = sym (append-nil a.answers)
next-answers a entries.Dark = sym (append-nil a.answers)
next-answers a (entries.Collect calls) = sym (append-nil a.answers)
next-answers a (entries.Peer id request reply) = refl
next-answers a (entries.Off id request) = refl
next-answers a (entries.Finish id result) = sym (append-nil a.answers)

next-ends : (a : Items) (e : Entry)
    → (item_next a e).ends ≡ a.ends ++ cons_option (end_with (kind_in a.calls) e) []
next-ends a entries.Begin = sym (append-nil a.ends)
next-ends a (entries.Input row) = sym (append-nil a.ends)
next-ends a (entries.Solve row) = sym (append-nil a.ends)
next-ends a (entries.Output row words) = sym (append-nil a.ends)
next-ends a entries.End = sym (append-nil a.ends)
next-ends a entries.Fail = sym (append-nil a.ends)
next-ends a entries.Dark = sym (append-nil a.ends)
next-ends a (entries.Collect calls) = sym (append-nil a.ends)
next-ends a (entries.Peer id request reply) = sym (append-nil a.ends)
next-ends a (entries.Off id request) = sym (append-nil a.ends)
next-ends a (entries.Finish id result) = refl

host-next-calls : (a : Items) (e : HostEntry)
    → (host_item_next a e).calls ≡ a.calls ++ cons_option (host_call_in e) []
host-next-calls a (host_entries.Ask id route pdu) = refl
host-next-calls a (host_entries.Answer id result) = sym (append-nil a.calls)
host-next-calls a (host_entries.Served id request reply) = sym (append-nil a.calls)

host-next-answers : (a : Items) (e : HostEntry)
    → (host_item_next a e).answers ≡ a.answers ++ cons_option (host_answer_in e) []
host-next-answers a (host_entries.Ask id route pdu) = sym (append-nil a.answers)
host-next-answers a (host_entries.Answer id result) = sym (append-nil a.answers)
host-next-answers a (host_entries.Served id request reply) = refl

host-next-ends : (a : Items) (e : HostEntry)
    → (host_item_next a e).ends ≡ a.ends ++ cons_option (host_end_with (kind_in a.calls) e) []
host-next-ends a (host_entries.Ask id route pdu) = sym (append-nil a.ends)
host-next-ends a (host_entries.Answer id result) = refl
host-next-ends a (host_entries.Served id request reply) = sym (append-nil a.ends)

-- the items of one entry more
pub items-more : (es : List Entry) (i : ℕ) (e : Entry) → i < length es → e ≡ get_or es i e
    → items_of (take (i + 1) es) ≡ item_next (items_of (take i es)) e
items-more es i e low is =
    ap items_of (take-push es i e low is) ∙ items-push no_items (take i es) e

pub host-items-more : (es : List HostEntry) (i : ℕ) (e : HostEntry) → i < length es
    → e ≡ get_or es i e → host_items_of (take (i + 1) es)
    ≡ host_item_next (host_items_of (take i es)) e
host-items-more es i e low is =
    ap host_items_of (take-push es i e low is) ∙ host-items-push no_items (take i es) e

pub calls-more : (es : List Entry) (i : ℕ) (e : Entry) → i < length es → e ≡ get_or es i e
    → (items_of (take (i + 1) es)).calls ≡ (items_of (take i es)).calls ++ calls_in e
calls-more es i e low is =
    ap (λ (a : Items). a.calls) (items-more es i e low is) ∙ next-calls (items_of (take i es)) e

pub answers-more : (es : List Entry) (i : ℕ) (e : Entry) → i < length es → e ≡ get_or es i e
    → (items_of (take (i + 1) es)).answers ≡ (items_of (take i es)).answers
    ++ cons_option (answer_in e) []
answers-more es i e low is =
    ap (λ (a : Items). a.answers) (items-more es i e low is)
    ∙ next-answers (items_of (take i es)) e

pub ends-more : (es : List Entry) (i : ℕ) (e : Entry) → i < length es → e ≡ get_or es i e
    → (items_of (take (i + 1) es)).ends ≡ (items_of (take i es)).ends
    ++ cons_option (end_with (kind_in (items_of (take i es)).calls) e) []
ends-more es i e low is =
    ap (λ (a : Items). a.ends) (items-more es i e low is) ∙ next-ends (items_of (take i es)) e

pub host-calls-more : (es : List HostEntry) (i : ℕ) (e : HostEntry) → i < length es
    → e ≡ get_or es i e
    → (host_items_of (take (i + 1) es)).calls ≡ (host_items_of (take i es)).calls
    ++ cons_option (host_call_in e) []
host-calls-more es i e low is =
    ap (λ (a : Items). a.calls) (host-items-more es i e low is)
    ∙ host-next-calls (host_items_of (take i es)) e

pub host-answers-more : (es : List HostEntry) (i : ℕ) (e : HostEntry) → i < length es
    → e ≡ get_or es i e
    → (host_items_of (take (i + 1) es)).answers ≡ (host_items_of (take i es)).answers
    ++ cons_option (host_answer_in e) []
host-answers-more es i e low is =
    ap (λ (a : Items). a.answers) (host-items-more es i e low is)
    ∙ host-next-answers (host_items_of (take i es)) e

pub host-ends-more : (es : List HostEntry) (i : ℕ) (e : HostEntry) → i < length es
    → e ≡ get_or es i e
    → (host_items_of (take (i + 1) es)).ends ≡ (host_items_of (take i es)).ends
    ++ cons_option (host_end_with (kind_in (host_items_of (take i es)).calls) e) []
host-ends-more es i e low is =
    ap (λ (a : Items). a.ends) (host-items-more es i e low is)
    ∙ host-next-ends (host_items_of (take i es)) e

pub not-true : {A : Type 0} → false ≡ true → A
not-true no' = absurd (let e : false ≡ true = no' in cc)

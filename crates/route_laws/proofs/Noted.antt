-- What a station answered, or what came to it without power, the items of its list tell.
use Rattle.std.proofs.Common.{◌≡◌, List, [], ◌∷◌, Some, None, sym, subst, ⊎_elim}
use Rattle.std.specs.Prelude.{ℕ, Contains}
use Rattle.std.proofs.lemmas.List.Elements.{Contains-append_left, Contains-push}
use Rattle.mstr_block.specs.declared.call.CallId.{CallId}
use Rattle.controller_core.specs.declared.entry.Entry.{Entry}
use Rattle.controller_core.specs.declared.entry.Entry.TheVariants as entries
use Rattle.host_port.specs.declared.entry.HostEntry.{HostEntry}
use Rattle.host_port.specs.declared.entry.HostEntry.TheVariants as host_entries
use Rattle.tied_lists.specs.Items.{Answered, Items, no_items}
use Rattle.joint_history.specs.Reading.{answered_here, host_item_next, host_items_after}
use Rattle.joint_history.specs.Reading.{host_items_of, item_next, items_after, items_of}
use Rattle.effect_laws.proofs.Sources.{first-or-behind, in-none}

-- ---- controllers

answers-grow : (x : Answered) (a : Items) (e : Entry) → Contains a.answers x
    → Contains (item_next a e).answers x
answers-grow x a entries.Begin there = there
answers-grow x a (entries.Input row) there = there
answers-grow x a (entries.Solve row) there = there
answers-grow x a (entries.Output row words) there = there
answers-grow x a entries.End there = there
answers-grow x a entries.Fail there = there
answers-grow x a entries.Dark there = there
answers-grow x a (entries.Collect calls) there = there
answers-grow x a (entries.Peer id request reply) there = Contains-append_left a.answers _ x there
answers-grow x a (entries.Off id request) there = Contains-append_left a.answers _ x there
answers-grow x a (entries.Finish id result) there = there

answers-stay : (x : Answered) (a : Items) (h : List Entry) → Contains a.answers x
    → Contains (items_after a h).answers x
answers-stay x a [] there = there
answers-stay x a (e ∷ h) there = answers-stay x (item_next a e) h (answers-grow x a e there)

-- what one entry tells
answer-told : (x : Answered) (e : Entry) → ((a : Items) → Contains (item_next a e).answers x)
    → (a : Items) (h : List Entry) → Contains h e → Contains (items_after a h).answers x
answer-told x e tells a [] there = absurd (in-none e there)
answer-told x e tells a (y ∷ h) there =
    ⊎_elim
    (λ (same : y ≡ e).
    answers-stay x (item_next a y) h
    (subst (λ (z : Entry). Contains (item_next a z).answers x) (sym same) (tells a)))
    (λ (more : Contains h e). answer-told x e tells (item_next a y) h more)
    (first-or-behind y h e there)

pub peer-told : (h : List Entry) (id : CallId) (request reply : List ℕ)
    → Contains h (entries.Peer id request reply)
    → Contains (items_of h).answers (answered_here id request (Some reply))
peer-told h id request reply there =
    answer-told (answered_here id request (Some reply)) (entries.Peer id request reply)
    (λ a. Contains-push a.answers _) no_items h there

pub off-told : (h : List Entry) (id : CallId) (request : List ℕ)
    → Contains h (entries.Off id request)
    → Contains (items_of h).answers (answered_here id request None)
off-told h id request there =
    answer-told (answered_here id request None) (entries.Off id request)
    (λ a. Contains-push a.answers _) no_items h there

-- ---- hosts

host-answers-grow : (x : Answered) (a : Items) (e : HostEntry) → Contains a.answers x
    → Contains (host_item_next a e).answers x
host-answers-grow x a (host_entries.Ask id route pdu) there = there
host-answers-grow x a (host_entries.Answer id result) there = there
host-answers-grow x a (host_entries.Served id request reply) there =
    Contains-append_left a.answers _ x there

host-answers-stay : (x : Answered) (a : Items) (h : List HostEntry) → Contains a.answers x
    → Contains (host_items_after a h).answers x
host-answers-stay x a [] there = there
host-answers-stay x a (e ∷ h) there =
    host-answers-stay x (host_item_next a e) h (host-answers-grow x a e there)

host-answer-told : (x : Answered) (e : HostEntry)
    → ((a : Items) → Contains (host_item_next a e).answers x)
    → (a : Items) (h : List HostEntry) → Contains h e
    → Contains (host_items_after a h).answers x
host-answer-told x e tells a [] there = absurd (in-none e there)
host-answer-told x e tells a (y ∷ h) there =
    ⊎_elim
    (λ (same : y ≡ e).
    host-answers-stay x (host_item_next a y) h
    (subst (λ (z : HostEntry). Contains (host_item_next a z).answers x) (sym same) (tells a)))
    (λ (more : Contains h e). host-answer-told x e tells (host_item_next a y) h more)
    (first-or-behind y h e there)

pub served-told : (h : List HostEntry) (id : CallId) (request reply : List ℕ)
    → Contains h (host_entries.Served id request reply)
    → Contains (host_items_of h).answers (answered_here id request (Some reply))
served-told h id request reply there =
    host-answer-told (answered_here id request (Some reply)) (host_entries.Served id request reply)
    (λ a. Contains-push a.answers _) no_items h there

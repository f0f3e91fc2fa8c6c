-- How often calls have ended, by their names.
use Rattle.std.proofs.Common.{◌≡◌, ℕ, suc, ◌+◌, ◌<◌, ◌==◌, Bool, true, false, List, [], ◌∷◌, ◌++◌}
use Rattle.std.proofs.Common.{length, get_or, map, take, count_by, cond}
use Rattle.std.proofs.Common.{refl, sym, ap, subst, ◌∙◌, arith, Option, Some, None}
use Rattle.std.specs.List.{All, cons_option}
use Rattle.std.proofs.Common.{zero}
use Rattle.std.proofs.lemmas.List.{map-append, length-map}
use Rattle.mstr_block.specs.Call.{is_same_call}
use Rattle.mstr_block.specs.declared.call.CallId.{CallId}
use Rattle.controller_core.specs.declared.entry.Entry.{Entry}
use Rattle.controller_core.specs.declared.entry.Entry.TheVariants as entries
use Rattle.host_port.specs.declared.entry.HostEntry.{HostEntry}
use Rattle.host_port.specs.declared.entry.HostEntry.TheVariants as host_entries
use Rattle.bridge_relay.specs.declared.entry.BridgeEntry.{BridgeEntry}
use Rattle.bridge_relay.specs.declared.entry.BridgeEntry.TheVariants as bridge_entries
use Rattle.tied_lists.specs.Items.{Called, Ended, Items, Kind, kind_in}
use Rattle.std.proofs.Common.{◌≢◌, ◌≤◌, ◌⊎◌, ⊎_elim}
use Rattle.std.specs.Prelude.{◌↔◌, IsTrue, if◌then◌else◌}
use Rattle.std.proofs.lemmas.Bool.{cases_lt, eqb-true}
use Rattle.controller_core.specs.declared.fixed.Fixed.{Fixed}
use Rattle.controller_core.specs.Replay.{replay}
use Rattle.joint_history.specs.Complete.{ControllerIsComplete, is_scan_end}
use Rattle.joint_history.specs.Reading.{has_started_at}
use Rattle.list_courses.specs.Ends.{CountsEnds, once_of, EndsOnce, end_id_in, times_ended}
use Rattle.list_courses.specs.Ends.{host_end_id_in, id_of_call, id_of_end, side_end_id_in}
use Rattle.station_laws.specs.Named.{value_of_call}
use Rattle.station_laws.specs.declared.by_call.ByCall.{ByCall}
use Rattle.tied_lists.proofs.Boxes.{count-cons}
use Rattle.joint_history.specs.Complete.{EndsEachCall}
use Rattle.joint_history.specs.Bridges.{side_items}
use Rattle.joint_history.specs.Reading.{items_of, host_items_of}
use Rattle.station_laws.specs.Endings.{end_with, host_end_with, side_end_with}
use Rattle.station_laws.proofs.Lists.{ends-more, host-ends-more}
use Rattle.station_laws.proofs.Sides.{side-ends-more}

end-id : (kinds : CallId → Option Kind) (e : Entry)
    → map id_of_end (cons_option (end_with kinds e) []) ≡ cons_option (end_id_in e) []
end-id kinds entries.Begin = refl
end-id kinds (entries.Input row) = refl
end-id kinds (entries.Solve row) = refl
end-id kinds (entries.Output row words) = refl
end-id kinds entries.End = refl
end-id kinds entries.Fail = refl
end-id kinds entries.Dark = refl
end-id kinds (entries.Collect calls) = refl
end-id kinds (entries.Peer id request reply) = refl
end-id kinds (entries.Off id request) = refl
end-id kinds (entries.Finish id result) = refl

host-end-id : (kinds : CallId → Option Kind) (e : HostEntry)
    → map id_of_end (cons_option (host_end_with kinds e) []) ≡ cons_option (host_end_id_in e) []
host-end-id kinds (host_entries.Ask id route pdu) = refl
host-end-id kinds (host_entries.Answer id result) = refl
host-end-id kinds (host_entries.Served id request reply) = refl

-- an end that one side of a bridge tells, or not
of-side : (mine : Bool) (end : Ended)
    → map id_of_end (cons_option (if mine then Some end else None) [])
    ≡ cons_option (if mine then Some end.id else None) []
of-side true end = refl
of-side false end = refl

side-end-id : (side : ℕ) (kinds : CallId → Option Kind) (e : BridgeEntry)
    → map id_of_end (cons_option (side_end_with side kinds e) [])
    ≡ cons_option (side_end_id_in side e) []
side-end-id side kinds (bridge_entries.Accept near id route request) = refl
side-end-id side kinds (bridge_entries.Forward near old id route request) = refl
side-end-id side kinds (bridge_entries.Finish near id result) = of-side (near == side) _
side-end-id side kinds (bridge_entries.Back near id reply) = refl
side-end-id side kinds (bridge_entries.Gone near) = refl

pub end-ids-more : (es : List Entry) (i : ℕ) (e : Entry) → i < length es → e ≡ get_or es i e
    → map id_of_end (items_of (take (i + 1) es)).ends ≡ map id_of_end (items_of (take i es)).ends
    ++ cons_option (end_id_in e) []
end-ids-more es i e low is =
    let kinds = kind_in (items_of (take i es)).calls in
    ap (map id_of_end) (ends-more es i e low is)
    ∙ (map-append id_of_end (items_of (take i es)).ends (cons_option (end_with kinds e) [])
    ∙ ap (λ (l : List CallId). map id_of_end (items_of (take i es)).ends ++ l) (end-id kinds e))

pub host-end-ids-more : (es : List HostEntry) (i : ℕ) (e : HostEntry) → i < length es
    → e ≡ get_or es i e
    → map id_of_end (host_items_of (take (i + 1) es)).ends
    ≡ map id_of_end (host_items_of (take i es)).ends ++ cons_option (host_end_id_in e) []
host-end-ids-more es i e low is =
    let kinds = kind_in (host_items_of (take i es)).calls in
    ap (map id_of_end) (host-ends-more es i e low is)
    ∙ (map-append id_of_end (host_items_of (take i es)).ends
    (cons_option (host_end_with kinds e) [])
    ∙ ap (λ (l : List CallId). map id_of_end (host_items_of (take i es)).ends ++ l)
    (host-end-id kinds e))

pub side-end-ids-more : (side : ℕ) (es : List BridgeEntry) (i : ℕ) (e : BridgeEntry)
    → i < length es → e ≡ get_or es i e
    → map id_of_end (side_items side (take (i + 1) es)).ends
    ≡ map id_of_end (side_items side (take i es)).ends
    ++ cons_option (side_end_id_in side e) []
side-end-ids-more side es i e low is =
    let kinds = kind_in (side_items side (take i es)).calls in
    ap (map id_of_end) (side-ends-more side es i e low is)
    ∙ (map-append id_of_end (side_items side (take i es)).ends
    (cons_option (side_end_with side kinds e) [])
    ∙ ap (λ (l : List CallId). map id_of_end (side_items side (take i es)).ends ++ l)
    (side-end-id side kinds e))

-- the ends of a call among the names of all ends
ends-named : (ends : List Ended) (call : CallId)
    → times_ended (map id_of_end ends) call
    ≡ count_by (λ (end : Ended). is_same_call end.id call) ends
ends-named [] call = refl
ends-named (e ∷ es) call =
    count-cons (λ (id : CallId). is_same_call id call) e.id (map id_of_end es)
    ∙ (ap (λ (n : ℕ). cond (is_same_call e.id call) 1 0 + n) (ends-named es call)
    ∙ sym (count-cons (λ (end : Ended). is_same_call end.id call) e es))

named-at : (calls : List Called) (k : ℕ) (d : Called) → k < length calls
    → get_or (map id_of_call calls) k d.id ≡ (get_or calls k d).id
named-at [] k d low = absurd (omega arith)
named-at (c ∷ cs) zero d low = refl
named-at (c ∷ cs) (suc k) d low = named-at cs k d (omega arith)

pub each-named : (a : Items) → All (EndsOnce (map id_of_end a.ends)) (map id_of_call a.calls)
    → EndsEachCall a
each-named a each k d low =
    let named = each k d.id (subst (λ (n : ℕ). k < n) (sym (length-map a.calls id_of_call)) low) in
    sym (ends-named a.ends (get_or a.calls k d).id)
    ∙ subst (EndsOnce (map id_of_end a.ends)) (named-at a.calls k d low) named

-- and the other way round
call-at : (calls : List Called) (k : ℕ) (id : CallId) → k < length (map id_of_call calls)
    → (d : Called) × (k < length calls)
    × (get_or (map id_of_call calls) k id ≡ (get_or calls k d).id)
call-at [] k id low = absurd (omega arith)
call-at (c ∷ cs) zero id low = (c, omega arith, refl)
call-at (c ∷ cs) (suc k) id low =
    let more = call-at cs k id (omega arith) in (more.0, let l = more.1 in omega arith, more.2)

pub named-each : (a : Items) → EndsEachCall a
    → All (EndsOnce (map id_of_end a.ends)) (map id_of_call a.calls)
named-each a each k id low =
    let at = call-at a.calls k id low in
    subst (EndsOnce (map id_of_end a.ends)) (sym at.2)
    (ends-named a.ends (get_or a.calls k at.0).id ∙ each k at.0 at.1)

pub each-iff : (a : Items) (calls ends : List CallId) (each : Bool)
    → calls ≡ map id_of_call a.calls → ends ≡ map id_of_end a.ends
    → IsTrue each ↔ All (EndsOnce ends) calls → IsTrue each ↔ EndsEachCall a
each-iff a calls ends each calls-are ends-are h = (
  λ is. each-named a (subst (λ (l : List CallId). All (EndsOnce (map id_of_end a.ends)) l)
      calls-are (subst (λ (l : List CallId). All (EndsOnce l) calls) ends-are (h.0 is))),
  λ all. h.1 (subst (λ (l : List CallId). All (EndsOnce l) calls) (sym ends-are)
      (subst (λ (l : List CallId). All (EndsOnce (map id_of_end a.ends)) l) (sym calls-are)
      (named-each a all))),
)

-- a controller is complete where its scans are, nothing is left to collect and each call has ended
pub done-iff : (fixed : Fixed) (entries : List Entry) (each : Bool)
    → (count_by is_scan_end entries ≡ fixed.scans) ⊎ ((replay fixed entries).stop ≢ 0)
    → has_started_at fixed entries ≡ false → IsTrue each ↔ EndsEachCall (items_of entries)
    → IsTrue each ↔ ControllerIsComplete fixed entries
done-iff fixed entries each scans started h = (
  λ is. record { scans = scans; collected = started; finished = h.0 is },
  λ whole. h.1
      whole.finished,
)

-- what was counted of a call says whether it ended once
one-true : (n : ℕ) → once_of n ≡ Some true → n ≡ 1
one-true n is = at (n == 0) (n == 1) refl refl is
  where
    at : (none one : Bool) → (n == 0) ≡ none → (n == 1) ≡ one
        → (if none then None else Some one) ≡ Some true → n ≡ 1
    at true one a b e = absurd (let no' : None ≡ Some true = e in cc)
    at false true a b e = eqb-true n 1 b
    at false false a b e = absurd (let no' : Some false ≡ Some true = e in cc)

pub ended-once : (ends : List CallId) (once : ByCall Bool) → CountsEnds ends once → (id : CallId)
    → value_of_call once id ≡ Some true → EndsOnce ends id
ended-once ends once counts id is = one-true (times_ended ends id) (sym (counts id) ∙ is)

pub once-ended : (ends : List CallId) (once : ByCall Bool) → CountsEnds ends once → (id : CallId)
    → EndsOnce ends id → value_of_call once id ≡ Some true
once-ended ends once counts id is = counts id ∙ ap once_of is

-- each call so far, and one more
pub each-more : (ends calls : List CallId) (i : ℕ)
    → ((k : ℕ) (d : CallId) → k < i → EndsOnce ends (get_or calls k d)) → i < length calls
    → ((d : CallId) → EndsOnce ends (get_or calls i d)) → (k : ℕ) (d : CallId) → k < i + 1
    → EndsOnce ends (get_or calls k d)
each-more ends calls i before low here k d below =
    ⊎_elim (λ (l : k < i). before k d l)
    (λ (l : i ≤ k). let e : i ≡ k = omega arith in
    subst (λ (n : ℕ). EndsOnce ends (get_or calls n d)) e (here d)) (cases_lt k i)

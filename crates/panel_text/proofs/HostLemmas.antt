-- The lines of a host, request by request.
use Rattle.std.proofs.Common.{◌≡◌, ◌<◌, ◌≤◌, ℕ, suc, ◌+◌, ◌-◌, Bool, true, false, ◌||◌, true≢false}
use Rattle.std.proofs.Common.{if◌then◌else◌}
use Rattle.std.proofs.Common.{List, [], ◌∷◌, ◌++◌, length, get_or, take, drop, Some, None, refl}
use Rattle.std.proofs.Common.{sym, ap, ◌∙◌}
use Rattle.std.proofs.Common.{add-zero, add-one, append_assoc, drop-cons, lit≤}
use Rattle.std.proofs.lemmas.List.{append-nil, take-append-drop, take_rest}
use Rattle.std.proofs.lemmas.List.Elements.{filter_map-append}
use Rattle.std.specs.Prelude.{slice_get}
use Rattle.std.specs.List.{cons_option, enumerate_from, filter_map, flat_map}
use Rattle.mstr_block.specs.declared.call.CallId.{CallId}
use Rattle.mstr_block.specs.Call.{is_same_call}
use Rattle.host_port.specs.declared.entry.HostEntry.{HostEntry}
use Rattle.host_port.specs.declared.entry.HostEntry.TheVariants.{Ask, Answer, Served}
use Rattle.host_port.specs.declared.entry.HostResult.{HostResult}
use Rattle.host_port.specs.Calls.{has_answer, requests_in}
use Rattle.panel_text.specs.Hosts.{ask_line, entry_lines, outcome_by, result_in}

-- an answer of another call tells nothing of this one
another : (other : Bool) (said : HostResult) (told : List HostResult)
    → told ≡ [] → other ≡ false → cons_option (if other then Some said else None) told ≡ []
another true said told h e = absurd (true≢false e)
another false said told h e = h

-- neither of two is true
neither : (one other : Bool) → (one || other) ≡ false → (one ≡ false) × (other ≡ false)
neither true other h = absurd (true≢false h)
neither false other h = (refl, h)

-- where a call has no answer in front, its first answer stands behind
none_in_front : (front : List HostEntry) (id : CallId) → has_answer front id ≡ false
    → filter_map (outcome_by id) front ≡ []
none_in_front [] id h = refl
none_in_front (Ask other route pdu ∷ front) id h = none_in_front front id h
none_in_front (Answer other result ∷ front) id h =
    let parts = neither (is_same_call id other) (has_answer front id) h in
    another (is_same_call id other) result (filter_map (outcome_by id) front)
    (none_in_front front id parts.1) parts.0
none_in_front (Served other request reply ∷ front) id h = none_in_front front id h

-- so the answer to an Ask is found behind it
found_behind : (before rest : List HostEntry) (id : CallId) (route pdu : List ℕ)
    → has_answer before id ≡ false
    → result_in rest id ≡ result_in (before ++ Ask id route pdu ∷ rest) id
found_behind before rest id route pdu new =
    ap (λ found. slice_get found 0)
    (sym (filter_map-append (outcome_by id) before (Ask id route pdu ∷ rest)
    ∙ ap (λ front. front ++ filter_map (outcome_by id) rest) (none_in_front before id new)))

-- the lines of some entries, by all entries of the host, where so many requests were made before
abbrev pub lines_left : ℕ → List HostEntry → ℕ → List HostEntry → List ℕ
lines_left node entries number left =
    flat_map (λ ask. ask_line node ask.0 (result_in entries ask.1.id))
    (enumerate_from (number + 1) (requests_in left))

-- an Ask among some entries has a new name
abbrev pub HasNewNames : List HostEntry → Type 0
HasNewNames entries =
    (before rest : List HostEntry) (id : CallId) (route pdu : List ℕ)
    → entries ≡ before ++ Ask id route pdu ∷ rest
    → has_answer before id ≡ false

-- the line of an entry, and those of the entries behind it
lines_from_entry : (node number : ℕ) (entries before rest : List HostEntry) (entry : HostEntry)
    → HasNewNames entries → entries ≡ before ++ entry ∷ rest
    → lines_left node entries number (entry ∷ rest)
    ≡ entry_lines node number rest entry
    ++ lines_left node entries (number + length (requests_in (entry ∷ []))) rest
lines_from_entry node number entries before rest (Ask id route pdu) new parts =
    let later = lines_left node entries (number + 1) rest in
    let found = found_behind before rest id route pdu (new before rest id route pdu parts)
    ∙ ap (λ all. result_in all id) (sym parts) in
    ap (λ result. ask_line node (number + 1) result ++ later) (sym found)
    ∙ ap (λ line. line ++ later) (sym (append-nil (ask_line node (number + 1) (result_in rest id))))
lines_from_entry node number entries before rest (Answer id result) new parts = rw add-zero refl
lines_from_entry node number entries before rest (Served id request reply) new parts =
    rw add-zero refl

-- an entry is a request at most once
pub few_requests : (entry : HostEntry) → length (requests_in (entry ∷ [])) ≤ 1
few_requests (Ask id route pdu) = lit≤ tt
few_requests (Answer id result) = lit≤ tt
few_requests (Served id request reply) = lit≤ tt

-- one entry more
pub host_step : (node number at after : ℕ) (entries behind : List HostEntry) (entry : HostEntry)
    (now next whole : List ℕ)
    → at < length entries → entry ≡ get_or entries at entry
    → behind ≡ take (length entries - (at + 1)) (drop (at + 1) entries) → HasNewNames entries
    → after ≡ number + length (requests_in (entry ∷ []))
    → now ++ lines_left node entries number (drop at entries) ≡ whole
    → next ≡ now ++ entry_lines node number behind entry
    → next ++ lines_left node entries after (drop (at + 1) entries) ≡ whole
host_step node number at after entries behind entry now next whole within is rest new counted
    so_far added =
    let left = drop (at + 1) entries in
    let cut : drop at entries ≡ entry ∷ left =
    drop-cons entries at entry within ∙ ap (λ first. first ∷ drop (suc at) entries) (sym is)
    ∙ ap (λ next. entry ∷ drop next entries) (sym (add-one at)) in
    let parts : entries ≡ take at entries ++ entry ∷ left =
    sym (take-append-drop at entries) ∙ ap (λ back. take at entries ++ back) cut in
    let lines = lines_from_entry node number entries (take at entries) left entry new parts in
    let added_is : next ≡ now ++ entry_lines node number left entry =
    added ∙ ap (λ back. now ++ entry_lines node number back entry)
    (rest ∙ take_rest entries (at + 1)) in
    ap (λ text. text ++ lines_left node entries after left) added_is
    ∙ append_assoc now (entry_lines node number left entry) (lines_left node entries after left)
    ∙ ap (λ count.
    now ++ (entry_lines node number left entry ++ lines_left node entries count left)) counted
    ∙ ap (λ back. now ++ back) (sym lines)
    ∙ ap (λ back. now ++ lines_left node entries number back) (sym cut)
    ∙ so_far

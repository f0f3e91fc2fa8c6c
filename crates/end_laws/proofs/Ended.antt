-- An end that has none of its calls out: each has ended.
use Rattle.std.proofs.Common.{◌≡◌, ◌≤◌, ◌+◌, ◌-◌, ◌⊎◌, ℕ, zero, suc, ◌==◌, ◌&&◌, Bool, true, false}
use Rattle.std.proofs.Common.{cond, List, [], ◌∷◌, ◌++◌, filter, get_or, refl, sym, ap, subst, ◌∙◌}
use Rattle.std.proofs.Common.{inl, inr, arith, append_assoc, append-nil}
use Rattle.std.specs.Prelude.{is_some, not}
use Rattle.std.specs.List.{Contains, count_by, list_all, AllByRecursion as Each}
use Rattle.std.proofs.lemmas.Bool.{and_parts, cases_Bool, eq-eqb, eqb-true, not-true}
use Rattle.std.proofs.lemmas.List.Elements.{All-from_recursion, Contains-append_right}
use Rattle.std.proofs.lemmas.List.Sums.{sum_by-append}
use Rattle.plant_types.specs.declared.net.BridgePlan.{BridgePlan}
use Rattle.plant_types.specs.Plans.{IsBridgePlan}
use Rattle.mstr_block.specs.declared.call.CallId.{CallId}
use Rattle.mstr_block.specs.Call.{is_same_call}
use Rattle.bridge_relay.specs.declared.entry.BridgeEntry.{BridgeEntry}
use Rattle.bridge_relay.specs.declared.entry.BridgeEntry.TheVariants.{Accept, Forward, Finish}
use Rattle.bridge_relay.specs.declared.entry.BridgeEntry.TheVariants.{Back, Gone}
use Rattle.bridge_relay.specs.Machine.{EndIs, RelayPath, near_end, none_out, relay_path}
use Rattle.bridge_relay.specs.Machine.{relay_after, unused_path}
use Rattle.bridge_relay.specs.Laws.{end_after, ends_call, is_by, sends_call}
use Rattle.bridge_relay.specs.Legal.{IsBridgeHistory, IsBridgeStep, IsEnd}
use Rattle.bridge_relay.proofs.Calls.{IsOwnCall, path_in, told}
use Rattle.bridge_relay.proofs.Legal.{forward_made}
use Rattle.bridge_relay.proofs.Parts.{Part, all_steps, first_part, own_step, part_of, part_step}
use Rattle.bridge_relay.proofs.Parts.{side_step}
use Rattle.bridge_relay.proofs.Steps.{after_more}
use Rattle.bridge_relay.proofs.Tally.{sent_once, share}
use Rattle.tied_lists.specs.Items.{Called, Ended, Items, OverNet, no_items}
use Rattle.tied_lists.proofs.Asked.{same-refl}
use Rattle.tied_lists.proofs.Boxes.{count-cons, count-push, each-filter, each-push, one-if}
use Rattle.joint_history.specs.Bridges.{made_at_end, side_item_next, side_items, side_items_after}
use Rattle.joint_history.specs.Complete.{EndsEachCall}

-- ---- none is out

free-at : (ps : List RelayPath) (i : ℕ)
    → list_all (λ (path : RelayPath). not (is_some path.out)) ps ≡ true
    → is_some (get_or ps i unused_path).out ≡ false
free-at [] zero all = refl
free-at [] (suc i) all = refl
free-at (p ∷ ps) zero all = not-true (is_some p.out) (and_parts _ _ all).0
free-at (p ∷ ps) (suc i) all = free-at ps i (and_parts _ _ all).1

pub free-path : (end : EndIs) (p : ℕ) → none_out end ≡ true
    → is_some (relay_path end p).out ≡ false
free-path end p none = free-at end.paths (p - 1) none

-- a call that went out has ended, once
ended-once : (plan : BridgePlan) (list : List BridgeEntry) (side : ℕ) (id : CallId)
    → IsBridgePlan plan → IsOwnCall plan side id → IsBridgeHistory plan list
    → none_out (end_after plan list side) ≡ true → 1 ≤ count_by (sends_call id) list
    → count_by (ends_call id) list ≡ 1
ended-once plan list side id sound own legal none sent =
    let path = path_in plan list side id.path in
    let tally = (told plan list side id sound own legal).tally in
    let none_there : share path id.seq ≡ 0 =
    ap (λ b. cond {A = ℕ} (b && (path.last == id.seq)) 1 0)
    (free-path (end_after plan list side) id.path none) in
    let few = sent_once _ _ _ _ tally in
    let under = tally.under in
    omega (arith, none_there, few, under, sent)

-- ---- the entries of a legal list

-- the call of a Forward went out
abbrev SentIn : List BridgeEntry → BridgeEntry → Type 0
SentIn list (Forward by old id route request) = 1 ≤ count_by (sends_call id) list
SentIn list _ = Unit {0}

sent-one : (before more : List BridgeEntry) (e : BridgeEntry) → SentIn (before ++ e ∷ more) e
sent-one before more (Accept by id route request) = tt
sent-one before more (Forward by old id route request) =
    let e : BridgeEntry = Forward by old id route request in
    let joined = sum_by-append (λ x. cond {A = ℕ} (sends_call id x) 1 0) before (e ∷ more) in
    let first = count-cons (sends_call id) e more in
    let one = one-if (is_same_call id id) (same-refl id) in
    omega (arith, joined, first, one)
sent-one before more (Finish by id outcome) = tt
sent-one before more (Back by id reply) = tt
sent-one before more (Gone by) = tt

sent-each : (before more : List BridgeEntry) → Each (SentIn (before ++ more)) more
sent-each before [] = tt
sent-each before (e ∷ more) = (
  sent-one before more e,
  subst (λ l. Each (SentIn l) more) (append_assoc before (e ∷ []) more)
      (sent-each (before ++ e ∷ []) more),
)

-- and is one of its end
abbrev IsCallOf : BridgePlan → ℕ → BridgeEntry → Type 0
IsCallOf plan side (Forward by old id route request) = by ≡ side → IsOwnCall plan side id
IsCallOf plan side _ = Unit {0}

call-of : (plan : BridgePlan) (side : ℕ) (past : List BridgeEntry) (e : BridgeEntry)
    → IsBridgeStep plan past e → IsCallOf plan side e
call-of plan side past (Accept by id route request) step = tt
call-of plan side past (Forward by old id route request) step =
    let made = forward_made plan past by old id route request step.fits in
    λ is. record {
      end = subst (IsEnd plan) is step.side.end;
      node = ap (λ (c : CallId). c.node) made.id_is ∙ is;
      is_path = made.path.is_path;
    }
call-of plan side past (Finish by id outcome) step = tt
call-of plan side past (Back by id reply) step = tt
call-of plan side past (Gone by) step = tt

-- a call of an end ends there
abbrev EndsAtHome : ℕ → CallId → BridgeEntry → Type 0
EndsAtHome side id e = ends_call id e ≡ true → is_by side e ≡ true

ends-home : (plan : BridgePlan) (side : ℕ) (id : CallId) → id.node ≡ side
    → (past : List BridgeEntry) (e : BridgeEntry) → IsBridgeStep plan past e → EndsAtHome side id e
ends-home plan side id node past (Accept by i route request) step is =
    absurd (let bad : false ≡ true = is in cc)
ends-home plan side id node past (Forward by old i route request) step is =
    absurd (let bad : false ≡ true = is in cc)
ends-home plan side id node past (Finish by i outcome) step is =
    let named = eqb-true i.node by (and_parts _ _ (and_parts _ _ step.fits).0).0 in
    let same = eqb-true i.node id.node (and_parts (i.node == id.node) _ is).0 in
    eq-eqb by side (sym named ∙ (same ∙ node))
ends-home plan side id node past (Back by i reply) step is =
    absurd (let bad : false ≡ true = is in cc)
ends-home plan side id node past (Gone by) step is = absurd (let bad : false ≡ true = is in cc)

count-home : (side : ℕ) (id : CallId) (list : List BridgeEntry) → Each (EndsAtHome side id) list
    → count_by (ends_call id) (filter (is_by side) list) ≡ count_by (ends_call id) list
count-home side id [] all = refl
count-home side id (e ∷ list) all = at (is_by side e) refl (count-home side id list all.1)
  where
    own : List BridgeEntry
    own = filter (is_by side) list

    share-none : is_by side e ≡ false → cond {A = ℕ} (ends_call id e) 1 0 ≡ 0
    share-none other = elim (cases_Bool (ends_call id e)) [
      | inl is ↦ absurd (let bad : true ≡ false = sym (all.0 is) ∙ other in cc)
      | inr not_so ↦ ap (λ b. cond {A = ℕ} b 1 0) not_so
    ]

    at : (b : Bool) → is_by side e ≡ b
        → count_by (ends_call id) (filter (is_by side) list) ≡ count_by (ends_call id) list
        → count_by (ends_call id)
        (cond b (e ∷ filter (is_by side) list) (filter (is_by side) list))
        ≡ count_by (ends_call id) (e ∷ list)
    at true mine rest =
        let here = count-cons (ends_call id) e (filter (is_by side) list) in
        let there = count-cons (ends_call id) e list in
        omega (arith, here, there, rest)
    at false other rest =
        let there = count-cons (ends_call id) e list in
        let none = share-none other in
        omega (arith, there, none, rest)

-- ---- its items

ends-one : (id : CallId) (a : Items) (e : BridgeEntry)
    → count_by (λ (x : Ended). is_same_call x.id id) (side_item_next a e).ends
    ≡ count_by (λ (x : Ended). is_same_call x.id id) a.ends + cond {A = ℕ} (ends_call id e) 1 0
ends-one id a (Accept by i route request) = omega arith
ends-one id a (Forward by old i route request) = omega arith
ends-one id a (Finish by i outcome) =
    count-push (λ (x : Ended). is_same_call x.id id) a.ends _
ends-one id a (Back by i reply) = omega arith
ends-one id a (Gone by) = omega arith

ends-counted : (id : CallId) (a : Items) (es : List BridgeEntry)
    → count_by (λ (x : Ended). is_same_call x.id id) (side_items_after a es).ends
    ≡ count_by (λ (x : Ended). is_same_call x.id id) a.ends + count_by (ends_call id) es
ends-counted id a [] = omega arith
ends-counted id a (e ∷ es) =
    let one = ends-one id a e in
    let rest = ends-counted id (side_item_next a e) es in
    let more = count-cons (ends_call id) e es in
    omega (arith, one, rest, more)

abbrev CallsHave : (Called → Type 0) → BridgeEntry → Type 0
CallsHave P (Forward by old id route request) = P (record { id = id; sort = OverNet route request })
CallsHave P _ = Unit {0}

calls-one : (P : Called → Type 0) (a : Items) (e : BridgeEntry) → Each P a.calls → CallsHave P e
    → Each P (side_item_next a e).calls
calls-one P a (Accept by id route request) all is = all
calls-one P a (Forward by old id route request) all is = each-push P a.calls _ all is
calls-one P a (Finish by id outcome) all is = all
calls-one P a (Back by id reply) all is = all
calls-one P a (Gone by) all is = all

calls-each : (P : Called → Type 0) (a : Items) (es : List BridgeEntry) → Each P a.calls
    → Each (CallsHave P) es → Each P (side_items_after a es).calls
calls-each P a [] all is = all
calls-each P a (e ∷ es) all is =
    calls-each P (side_item_next a e) es (calls-one P a e all is.0) is.1

both-each : {X : Type 0} (P Q : X → Type 0) (xs : List X) → Each P xs → Each Q xs
    → Each (λ x. P x × Q x) xs
both-each P Q [] a b = tt
both-each P Q (x ∷ xs) a b = ((a.0, b.0), both-each P Q xs a.1 b.1)

abbrev EndedOnce : Items → Called → Type 0
EndedOnce items call = count_by (λ (x : Ended). is_same_call x.id call.id) items.ends ≡ 1

pub each-ended : (plan : BridgePlan) (list : List BridgeEntry) (side : ℕ) → IsBridgePlan plan
    → IsBridgeHistory plan list → none_out (end_after plan list side) ≡ true
    → EndsEachCall (side_items side list)
each-ended plan list side sound legal none =
    let ended = EndedOnce (side_items side list) in
    All-from_recursion ended (side_items side list).calls
    (calls-each ended no_items (made_at_end side list) tt
    (each-filter (λ e. SentIn list e × IsCallOf plan side e) (CallsHave ended) (is_by side) list
    sends (both-each (SentIn list) (IsCallOf plan side) list (sent-each [] list)
    (all_steps plan (IsCallOf plan side) (call-of plan side) [] list legal))))
  where
    sends : (e : BridgeEntry) → is_by side e ≡ true → SentIn list e × IsCallOf plan side e
        → CallsHave (EndedOnce (side_items side list)) e
    sends (Accept by id route request) mine k = tt
    sends (Forward by old id route request) mine k =
        let own = k.1 (eqb-true by side mine) in
        let counted = ends-counted id no_items (made_at_end side list) in
        let home = count-home side id list
        (all_steps plan (EndsAtHome side id) (ends-home plan side id own.node) [] list legal) in
        let once = ended-once plan list side id sound own legal none k.0 in
        omega (arith, counted, home, once)
    sends (Finish by id outcome) mine k = tt
    sends (Back by id reply) mine k = tt
    sends (Gone by) mine k = tt

-- ---- it has left for good

step-gone : (side : ℕ) (part : Part) (e : BridgeEntry) → (own_step side part e).gone ≡ true
    → (part.gone ≡ true) ⊎ (e ≡ Gone side)
step-gone side part e is = at (is_by side e) refl is
  where
    here : (x : BridgeEntry) → is_by side x ≡ true → (part_step part x).gone ≡ true
        → (part.gone ≡ true) ⊎ (x ≡ Gone side)
    here (Accept by id route request) mine gone = inl gone
    here (Forward by old id route request) mine gone = inl gone
    here (Finish by id outcome) mine gone = inl gone
    here (Back by id reply) mine gone = inl gone
    here (Gone by) mine gone = inr (ap Gone (eqb-true by side mine))

    at : (b : Bool) → is_by side e ≡ b → (cond b (part_step part e) part).gone ≡ true
        → (part.gone ≡ true) ⊎ (e ≡ Gone side)
    at true mine gone = here e mine gone
    at false other gone = inl gone

gone-more : (plan : BridgePlan) (side : ℕ) (before more : List BridgeEntry) → IsBridgePlan plan
    → IsEnd plan side → IsBridgeHistory plan (before ++ more)
    → (end_after plan (before ++ more) side).gone ≡ true
    → ((end_after plan before side).gone ≡ true) ⊎ Contains more (Gone side)
gone-more plan side before [] sound end legal gone =
    inl (ap (λ l. (end_after plan l side).gone) (sym (append-nil before)) ∙ gone)
gone-more plan side before (e ∷ more) sound end legal gone =
    let joined = append_assoc before (e ∷ []) more in
    let made = (legal before more e refl).side.end in
    elim (gone-more plan side (before ++ e ∷ []) more sound end
    (subst (IsBridgeHistory plan) (sym joined) legal)
    (ap (λ l. (end_after plan l side).gone) joined ∙ gone)) [
      | inl now ↦
          elim (step-gone side (part_of (end_after plan before side)) e
          (sym (ap (λ r. (near_end plan r side).gone) (after_more plan before e)
          ∙ ap (λ (p : Part). p.gone)
          (side_step plan (relay_after plan before) side e sound end made)) ∙ now)) [
            | inl earlier ↦ inl earlier
            | inr is ↦ inr (0, omega arith, is)
          ]
      | inr later ↦ inr (Contains-append_right (e ∷ []) more (Gone side) later)
    ]

pub gone-made : (plan : BridgePlan) (side : ℕ) (list : List BridgeEntry) → IsBridgePlan plan
    → IsEnd plan side → IsBridgeHistory plan list → (end_after plan list side).gone ≡ true
    → Contains list (Gone side)
gone-made plan side list sound end legal gone =
    elim (gone-more plan side [] list sound end legal gone) [
      | inl at_first ↦ absurd
          (let first : (end_after plan [] side).gone ≡ false =
          ap (λ (p : Part). p.gone) (first_part plan side) in
          let bad : true ≡ false = sym at_first ∙ first in cc)
      | inr there ↦ there
    ]

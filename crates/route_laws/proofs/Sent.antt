-- A bridge sends on only what it accepted, and each as often at most.
use Rattle.std.proofs.Common.{◌≡◌, ℕ, ◌+◌, ◌≤◌, Bool, false, cond, List, [], ◌∷◌, ◌++◌, Option}
use Rattle.std.proofs.Common.{Some, None, refl, sym, ap, subst, inl, inr, arith, append_assoc}
use Rattle.std.proofs.Common.{append-nil, ◌∙◌}
use Rattle.std.specs.Prelude.{slice_get, drop}
use Rattle.std.specs.List.{count_by}
use Rattle.std.proofs.lemmas.Bool.{cases_eq, eq-eqb, ne_eqb}
use Rattle.plant_types.specs.declared.net.BridgePlan.{BridgePlan}
use Rattle.mstr_block.specs.declared.call.CallId.{CallId}
use Rattle.mstr_block.specs.Call.{is_same_call}
use Rattle.bridge_relay.specs.declared.entry.BridgeEntry.{BridgeEntry}
use Rattle.bridge_relay.specs.declared.entry.BridgeEntry.TheVariants.{Accept, Forward, Finish}
use Rattle.bridge_relay.specs.declared.entry.BridgeEntry.TheVariants.{Back, Gone}
use Rattle.bridge_relay.specs.Machine.{EndIs, RelayIs, Waiting, near_end, relay_after, side_of}
use Rattle.bridge_relay.specs.Kept.{code_between, near_accepted, far_accepted, near_after}
use Rattle.bridge_relay.specs.Kept.{far_after}
use Rattle.bridge_relay.specs.Legal.{IsBridgeHistory, IsBridgeStep}
use Rattle.bridge_relay.proofs.Legal.{forward_made}
use Rattle.bridge_relay.proofs.Steps.{step_left, step_right, after_more}
use Rattle.ring_laws.proofs.Lists.{count-push, count-cons}
use Rattle.route_laws.specs.Effects.{accepts_call}

-- a request that waits is that of a call
abbrev pub is_waiting : CallId → Waiting → Bool
is_waiting id item = is_same_call item.id id

-- an entry sends the request of a call on
abbrev pub forwards_call : CallId → BridgeEntry → Bool
forwards_call call (Forward side old id route request) = is_same_call old call
forwards_call call _ = false

-- how often the request of a call waits at an end
abbrev waits : CallId → EndIs → ℕ
waits id end = count_by (is_waiting id) end.to_send

-- the request that an entry sends on waits first at its end
abbrev IsFirst : EndIs → BridgeEntry → Type 0
IsFirst near (Forward side old id route request) =
    (item : Waiting) × (slice_get near.to_send 0 ≡ Some item) × (old ≡ item.id)
IsFirst near _ = Unit {0}

-- a count without its first
first-off : {X : Type 0} (p : X → Bool) (xs : List X) (x : X) → slice_get xs 0 ≡ Some x
    → count_by p xs ≡ cond (p x) 1 0 + count_by p (drop 1 xs)
first-off p [] x is = absurd cc
first-off p (y ∷ ys) x is =
    let same : y ≡ x = cc in
    count-cons p y ys ∙ ap (λ z. cond (p z) 1 0 + count_by p ys) same

accepted-waits : (id : CallId) (near far : EndIs) (item : Waiting) (code : Option ℕ)
    → waits id (near_accepted near item code) + waits id (far_accepted far item code)
    ≤ waits id near + waits id far + cond (is_same_call item.id id) 1 0
accepted-waits id near far item None =
    let more = count-push (is_waiting id) far.to_send item in omega arith
accepted-waits id near far item (Some code) = omega arith

step-waits : (id : CallId) (across : ℕ) (near far : EndIs) (entry : BridgeEntry)
    → IsFirst near entry
    → waits id (near_after across near far entry) + waits id (far_after across near far entry)
    + cond (forwards_call id entry) 1 0
    ≤ waits id near + waits id far + cond (accepts_call id entry) 1 0
step-waits id across near far (Accept side name route request) first =
    let item : Waiting = record { id = name; route = route; request = request } in
    let most = accepted-waits id near far item (code_between across far route) in
    omega arith
step-waits id across near far (Forward side old name route request) first =
    let off = first-off (is_waiting id) near.to_send first.0 first.1 in
    let same : cond {A = ℕ} (is_same_call old id) 1 0 ≡ cond (is_same_call first.0.id id) 1 0 =
    ap (λ (i : CallId). cond (is_same_call i id) 1 0) first.2 in
    omega arith
step-waits id across near far (Finish side name result) first = omega arith
step-waits id across near far (Back side name reply) first = omega arith
step-waits id across near far (Gone side) first = omega arith

is-first : (plan : BridgePlan) (past : List BridgeEntry) (entry : BridgeEntry)
    → IsBridgeStep plan past entry
    → IsFirst (near_end plan (relay_after plan past) (side_of entry)) entry
is-first plan past (Accept side id route request) step = tt
is-first plan past (Forward side old id route request) step =
    let made = forward_made plan past side old id route request step.fits in
    (made.item, made.first, made.old_is)
is-first plan past (Finish side id result) step = tt
is-first plan past (Back side id reply) step = tt
is-first plan past (Gone side) step = tt

-- what waits and what was sent on was accepted
abbrev AreAccepted : BridgePlan → CallId → RelayIs → List BridgeEntry → Type 0
AreAccepted plan id relay history =
    waits id relay.left + waits id relay.right + count_by (forwards_call id) history
    ≤ count_by (accepts_call id) history

one-more : (plan : BridgePlan) (id : CallId) (past : List BridgeEntry) (entry : BridgeEntry)
    → IsBridgeStep plan past entry → AreAccepted plan id (relay_after plan past) past
    → AreAccepted plan id (relay_after plan (past ++ entry ∷ [])) (past ++ entry ∷ [])
one-more plan id past entry step kept =
    let relay = relay_after plan past in
    let left = relay.left in
    let right = relay.right in
    let sent = count-push (forwards_call id) past entry in
    let got = count-push (accepts_call id) past entry in
    let first = is-first plan past entry step in
    subst (λ r. AreAccepted plan id r (past ++ entry ∷ [])) (sym (after_more plan past entry))
    (elim (cases_eq (side_of entry) plan.left) [
      | inl is ↦
          let here : near_end plan relay (side_of entry) ≡ left =
          ap (λ b. cond b left right) (eq-eqb (side_of entry) plan.left is) in
          let most = step-waits id plan.right left right entry
          (subst (λ (end : EndIs). IsFirst end entry) here first) in
          subst (λ r. AreAccepted plan id r (past ++ entry ∷ []))
          (sym (step_left plan left right entry is)) (omega arith)
      | inr is ↦
          let here : near_end plan relay (side_of entry) ≡ right =
          ap (λ b. cond b left right) (ne_eqb (side_of entry) plan.left is) in
          let most = step-waits id plan.left right left entry
          (subst (λ (end : EndIs). IsFirst end entry) here first) in
          subst (λ r. AreAccepted plan id r (past ++ entry ∷ []))
          (sym (step_right plan left right entry is)) (omega arith)
    ])

all-more : (plan : BridgePlan) (id : CallId) (past rest : List BridgeEntry)
    → IsBridgeHistory plan (past ++ rest) → AreAccepted plan id (relay_after plan past) past
    → AreAccepted plan id (relay_after plan (past ++ rest)) (past ++ rest)
all-more plan id past [] legal kept =
    subst (λ h. AreAccepted plan id (relay_after plan h) h) (sym (append-nil past)) kept
all-more plan id past (entry ∷ rest) legal kept =
    let same = append_assoc past (entry ∷ []) rest in
    subst (λ h. AreAccepted plan id (relay_after plan h) h) same
    (all-more plan id (past ++ entry ∷ []) rest (subst (IsBridgeHistory plan) (sym same) legal)
    (one-more plan id past entry (legal past rest entry refl) kept))

-- a bridge sends a request on at most as often as it accepted it
pub sent-accepted : (plan : BridgePlan) (id : CallId) (history : List BridgeEntry)
    → IsBridgeHistory plan history
    → count_by (forwards_call id) history ≤ count_by (accepts_call id) history
sent-accepted plan id history legal =
    let all : AreAccepted plan id (relay_after plan history) history =
    all-more plan id [] history legal (omega arith) in
    omega arith

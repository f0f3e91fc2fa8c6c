-- What the items of a bridge's end tell of its list, and its node's own list of them.
use Rattle.std.proofs.Common.{◌≡◌, ◌⊎◌, ℕ, ◌≤◌, Bool, true, false, cond, List, [], ◌∷◌, Some, None}
use Rattle.std.proofs.Common.{refl, sym, ap, ◌∙◌, subst, inl, inr, ⊎_elim, arith}
use Rattle.std.specs.Prelude.{Contains, filter, flat_map, if◌then◌else◌, ◌==◌}
use Rattle.std.specs.List.{AllZip, count_by, list_any}
use Rattle.std.proofs.lemmas.Bool.{cases_eq, eq-eqb, eqb-true, ne_eqb, or_cases}
use Rattle.std.proofs.lemmas.List.Elements.{All-contains, Contains-append_left, Contains-push}
use Rattle.std.proofs.lemmas.List.Elements.{filter_passes}
use Rattle.plant_types.specs.declared.net.BridgePlan.{BridgePlan}
use Rattle.mstr_block.specs.declared.call.CallId.{CallId}
use Rattle.ring_core.specs.declared.entry.RingEntry.{RingEntry}
use Rattle.ring_core.specs.declared.entry.RingEntry.TheVariants as ring_entries
use Rattle.ring_core.specs.declared.frame.Frame.{Frame}
use Rattle.ring_core.specs.declared.frame.FrameKind.{FrameKind}
use Rattle.ring_core.specs.declared.frame.FrameKind.TheVariants as kinds
use Rattle.ring_core.specs.Statistics.{is_for_stats}
use Rattle.ring_laws.proofs.Lists.{count-cons}
use Rattle.bridge_relay.specs.declared.entry.BridgeEntry.{BridgeEntry}
use Rattle.bridge_relay.specs.declared.entry.BridgeEntry.TheVariants.{Accept, Forward, Finish}
use Rattle.bridge_relay.specs.declared.entry.BridgeEntry.TheVariants.{Back, Gone}
use Rattle.bridge_relay.specs.declared.entry.RelayResult.{RelayResult}
use Rattle.bridge_relay.specs.Laws.{is_by}
use Rattle.tied_lists.specs.Items.{Answered, Called, Item, Items, Outcome, OverNet, Plain}
use Rattle.tied_lists.specs.Items.{ForStats, RequestItem, Taken, no_items, plain_items, taken_in}
use Rattle.tied_lists.specs.Items.{taken_of}
use Rattle.joint_history.specs.declared.joint.BridgeLog.{BridgeLog}
use Rattle.joint_history.specs.JointLaws.{IsLegalBridgeLog}
use Rattle.joint_history.specs.Bridges.{back_of, backs_of, made_at_end, relay_outcome}
use Rattle.joint_history.specs.Bridges.{side_item_next, side_items, side_items_after}
use Rattle.effect_laws.proofs.Reports.{Told}
use Rattle.effect_laws.proofs.Sources.{behind, first-or-behind, here, in-none, of-map}
use Rattle.net_laws.proofs.Members.{times}

-- ---- lists

pub in-filter : {X : Type 0} (p : X → Bool) (xs : List X) (x : X) → p x ≡ true → Contains xs x
    → Contains (filter p xs) x
in-filter p [] x is there = absurd (in-none x there)
in-filter p (y ∷ xs) x is there =
    ⊎_elim
    (λ (same : y ≡ x).
    subst (λ b. Contains (cond b (y ∷ filter p xs) (filter p xs)) x) (sym (ap p same ∙ is))
    (subst (λ z. Contains (z ∷ filter p xs) x) (sym same) (here x (filter p xs))))
    (λ (more : Contains xs x).
    let rest = in-filter p xs x is more in
    at (p y) rest)
    (first-or-behind y xs x there)
  where
    at : (b : Bool) → Contains (filter p xs) x
        → Contains (cond b (y ∷ filter p xs) (filter p xs)) x
    at true rest = behind y (filter p xs) x rest
    at false rest = rest

pub of-filter : {X : Type 0} (p : X → Bool) (xs : List X) (x : X) → Contains (filter p xs) x
    → Contains xs x
of-filter p [] x there = absurd (in-none x there)
of-filter p (y ∷ xs) x there = at (p y) there (of-filter p xs x)
  where
    at : (b : Bool) → Contains (cond b (y ∷ filter p xs) (filter p xs)) x
        → (Contains (filter p xs) x → Contains xs x) → Contains (y ∷ xs) x
    at true in' rest =
        ⊎_elim (λ (same : y ≡ x). subst (λ z. Contains (y ∷ xs) z) same (here y xs))
        (λ (more : Contains (filter p xs) x). behind y xs x (rest more))
        (first-or-behind y (filter p xs) x in')
    at false in' rest = behind y xs x (rest in')

pub any-counts : {X : Type 0} (p : X → Bool) (xs : List X) → list_any p xs ≡ true
    → 1 ≤ count_by p xs
any-counts p [] is = absurd cc
any-counts p (x ∷ xs) is =
    let step = count-cons p x xs in
    ⊎_elim
    (λ (now : p x ≡ true).
    let one : cond {A = ℕ} (p x) 1 0 ≡ 1 = ap (λ b. cond b 1 0) now in
    omega (arith, step, one))
    (λ (later : list_any p xs ≡ true).
    let rest = any-counts p xs later in omega (arith, step, rest))
    (or_cases (p x) (list_any p xs) is)

-- ---- items

-- what an entry makes so, and each entry leaves so
follows : (P : Items → Type 0) → ((a : Items) (e : BridgeEntry) → P a → P (side_item_next a e))
    → (es : List BridgeEntry) (a : Items) → P a → P (side_items_after a es)
follows P stay [] a so = so
follows P stay (e ∷ es) a so = follows P stay es (side_item_next a e) (stay a e so)

made-so : (P : Items → Type 0) → ((a : Items) (e : BridgeEntry) → P a → P (side_item_next a e))
    → (es : List BridgeEntry) (e : BridgeEntry) → ((a : Items) → P (side_item_next a e))
    → Contains es e → (a : Items) → P (side_items_after a es)
made-so P stay [] e made there a = absurd (in-none e there)
made-so P stay (x ∷ es) e made there a =
    ⊎_elim
    (λ (same : x ≡ e).
    follows P stay es (side_item_next a x)
    (subst (λ (y : BridgeEntry). P (side_item_next a y)) (sym same) (made a)))
    (λ (more : Contains es e). made-so P stay es e made more (side_item_next a x))
    (first-or-behind x es e there)

calls-stay : (c : Called) (a : Items) (e : BridgeEntry) → Contains a.calls c
    → Contains (side_item_next a e).calls c
calls-stay c a (Accept side id route request) there = there
calls-stay c a (Forward side old id route request) there =
    Contains-append_left a.calls _ c there
calls-stay c a (Finish side id result) there = there
calls-stay c a (Back side id reply) there = there
calls-stay c a (Gone side) there = there

answers-stay : (x : Answered) (a : Items) (e : BridgeEntry) → Contains a.answers x
    → Contains (side_item_next a e).answers x
answers-stay x a (Accept side id route request) there =
    Contains-append_left a.answers _ x there
answers-stay x a (Forward side old id route request) there = there
answers-stay x a (Finish side id result) there = there
answers-stay x a (Back side id reply) there = there
answers-stay x a (Gone side) there = there

ends-stay : (id' : CallId) (outcome : Outcome) (a : Items) (e : BridgeEntry)
    → Told a.ends id' outcome → Told (side_item_next a e).ends id' outcome
ends-stay id' outcome a (Accept side id route request) told = told
ends-stay id' outcome a (Forward side old id route request) told = told
ends-stay id' outcome a (Finish side id result) told = record {
  end' = told.end';
  there = Contains-append_left a.ends _ told.end' told.there;
  id_is = told.id_is;
  outcome_is = told.outcome_is;
}
ends-stay id' outcome a (Back side id reply) told = told
ends-stay id' outcome a (Gone side) told = told

-- a request that was sent on is a call
pub forward-called : (list : List BridgeEntry) (side : ℕ) (old id : CallId)
    (route request : List ℕ) → Contains list (Forward side old id route request)
    → Contains (side_items side list).calls (record { id = id; sort = OverNet route request })
forward-called list side old id route request there =
    let e : BridgeEntry = Forward side old id route request in
    let c : Called = record { id = id; sort = OverNet route request } in
    made-so (λ a. Contains a.calls c) (calls-stay c) (made_at_end side list) e
    (λ a. Contains-push a.calls c) (in-filter (is_by side) list e (eq-eqb side side refl) there)
    no_items

-- one that was accepted is an answer
abbrev pub accepted_as : CallId → List ℕ → List ℕ → Answered
accepted_as id route request =
    record { id = id; rest = route; request = Some request; reply = None }

pub accept-answered : (list : List BridgeEntry) (side : ℕ) (id : CallId) (route request : List ℕ)
    → Contains list (Accept side id route request)
    → Contains (side_items side list).answers (accepted_as id route request)
accept-answered list side id route request there =
    let e : BridgeEntry = Accept side id route request in
    let x = accepted_as id route request in
    made-so (λ a. Contains a.answers x) (answers-stay x) (made_at_end side list) e
    (λ a. Contains-push a.answers x) (in-filter (is_by side) list e (eq-eqb side side refl) there)
    no_items

-- a call that was finished has ended
pub finish-told : (list : List BridgeEntry) (side : ℕ) (id : CallId) (result : RelayResult)
    → Contains list (Finish side id result)
    → Told (side_items side list).ends id (relay_outcome result)
finish-told list side id result there =
    let e : BridgeEntry = Finish side id result in
    made-so (λ a. Told a.ends id (relay_outcome result)) (ends-stay id (relay_outcome result))
    (made_at_end side list) e
    (λ a. record {
      end' = _;
      there = Contains-push a.ends _;
      id_is = refl;
      outcome_is = refl;
    }) (in-filter (is_by side) list e (eq-eqb side side refl) there)
    no_items

-- a reply that was given back
back-entry : (x : BridgeEntry) (id : CallId) (pdu : List ℕ) → back_of x ≡ Some (id, Some pdu)
    → (side : ℕ) × (x ≡ Back side id pdu)
back-entry (Accept side name route request) id pdu is = absurd cc
back-entry (Forward side old name route request) id pdu is = absurd cc
back-entry (Finish side name result) id pdu is = absurd cc
back-entry (Back side name reply) id pdu is =
    let same : (name, Some reply) ≡ (id, Some pdu) = some-item _ _ is in
    let first = ap (λ (i : Item). i.0) same in
    let second : reply ≡ pdu = some-list _ _ (ap (λ (i : Item). i.1) same) in
    (side, ap (λ (n : CallId). Back side n reply) first ∙ ap (Back side id) second)
  where
    some-item : (x y : Item) → Some x ≡ Some y → x ≡ y
    some-item x y e = cc

    some-list : (x y : List ℕ) → Some x ≡ Some y → x ≡ y
    some-list x y e = cc
back-entry (Gone side) id pdu is = absurd cc

pub back-there : (list : List BridgeEntry) (side : ℕ) (id : CallId) (pdu : List ℕ)
    → Contains (backs_of side list) (id, Some pdu) → Contains list (Back side id pdu)
back-there list side id pdu there =
    let found = of-map back_of (made_at_end side list) (id, Some pdu) there in
    let back = back-entry found.0 id pdu found.2 in
    let mine = All-contains (λ (e : BridgeEntry). is_by side e ≡ true) (made_at_end side list)
    found.0 (filter_passes (is_by side) list) found.1 in
    let by : back.0 ≡ side = eqb-true back.0 side
    (subst (λ (e : BridgeEntry). is_by side e ≡ true) back.1 mine) in
    subst (λ (n : ℕ). Contains list (Back n id pdu)) by
    (subst (λ (e : BridgeEntry). Contains list e) back.1
    (of-filter (is_by side) list found.0 found.1))

-- a Request that was taken, for what stands behind the node
pub record TakePlain (x : RingEntry) (id : CallId) (rest pdu : List ℕ) : Type 0 where
  pub node : ℕ
  pub frame : Frame
  pub is : x ≡ ring_entries.Take node frame
  pub kind : frame.kind ≡ kinds.Request
  pub name : frame.id ≡ id
  pub rest_is : frame.rest ≡ rest
  pub pdu_is : frame.pdu ≡ pdu

plain-kind : (n : ℕ) (f : Frame) (kind : FrameKind) → f.kind ≡ kind → (id : CallId)
    (rest pdu : List ℕ)
    → taken_in kind f ≡ Some (Plain id rest pdu) → TakePlain (ring_entries.Take n f) id rest pdu
plain-kind n f kinds.Reply k id rest pdu is = absurd cc
plain-kind n f kinds.Request k id rest pdu is = at (is_for_stats f) is
  where
    at : (b : Bool) → Some (if b then ForStats f.id f.pdu else Plain f.id f.rest f.pdu)
        ≡ Some (Plain id rest pdu)
        → TakePlain (ring_entries.Take n f) id rest pdu
    at true is' = absurd cc
    at false is' =
        let name_is : f.id ≡ id = cc in
        let rest_is : f.rest ≡ rest = cc in
        let pdu_is : f.pdu ≡ pdu = cc in
        record {
          node = n;
          frame = f;
          is = refl;
          kind = k;
          name = name_is;
          rest_is = rest_is;
          pdu_is = pdu_is;
        }

pub take-plain : (x : RingEntry) (id : CallId) (rest pdu : List ℕ)
    → taken_of x ≡ Some (Plain id rest pdu) → TakePlain x id rest pdu
take-plain (ring_entries.Post n f) id rest pdu is = absurd cc
take-plain (ring_entries.Send n heard) id rest pdu is = absurd cc
take-plain (ring_entries.Take n f) id rest pdu is = plain-kind n f f.kind refl id rest pdu is
take-plain (ring_entries.Local n name op result) id rest pdu is = absurd cc
take-plain (ring_entries.GiveUp name word) id rest pdu is = absurd cc
take-plain (ring_entries.Pass n done words) id rest pdu is = absurd cc
take-plain (ring_entries.Leave n cause) id rest pdu is = absurd cc
take-plain (ring_entries.Join n) id rest pdu is = absurd cc

pub plain-there : (ts : List Taken) (id : CallId) (rest pdu : List ℕ)
    → Contains (plain_items ts) (record { id = id; rest = rest; request = Some pdu })
    → Contains ts (Plain id rest pdu)
plain-there [] id rest pdu there = absurd (in-none _ there)
plain-there (ForStats name bytes ∷ ts) id rest pdu there =
    behind (ForStats name bytes) ts (Plain id rest pdu) (plain-there ts id rest pdu there)
plain-there (Plain name route bytes ∷ ts) id rest pdu there =
    let this : RequestItem = record { id = name; rest = route; request = Some bytes } in
    let that : RequestItem = record { id = id; rest = rest; request = Some pdu } in
    ⊎_elim
    (λ (same : this ≡ that).
    let one : name ≡ id = ap (λ (i : RequestItem). i.id) same in
    let two : route ≡ rest = ap (λ (i : RequestItem). i.rest) same in
    let three : bytes ≡ pdu = some-list _ _ (ap (λ (i : RequestItem). i.request) same) in
    subst (λ (t : Taken). Contains (Plain name route bytes ∷ ts) t)
    (λ i. Plain (one i) (two i) (three i)) (here (Plain name route bytes) ts))
    (λ (more : Contains (plain_items ts) that).
    behind (Plain name route bytes) ts (Plain id rest pdu) (plain-there ts id rest pdu more))
    (first-or-behind this (plain_items ts) that there)
  where
    some-list : (x y : List ℕ) → Some x ≡ Some y → x ≡ y
    some-list x y e = cc

pub record BridgeOf (logs : List BridgeLog) (n : ℕ) : Type 0 where
  pub plan : BridgePlan
  pub log : BridgeLog
  pub there : Contains logs log
  pub legal : IsLegalBridgeLog plan log
  pub side : (log.left ≡ n) ⊎ (log.right ≡ n)

pub bridge-of : (n : ℕ) (plans : List BridgePlan) (logs : List BridgeLog)
    → AllZip IsLegalBridgeLog plans logs
    → 1 ≤ times n (flat_map (λ (b : BridgePlan). b.left ∷ b.right ∷ []) plans)
    → BridgeOf logs n
bridge-of n [] [] zip some = absurd (omega (arith, some))
bridge-of n [] (log ∷ logs) zip some = absurd zip
bridge-of n (plan ∷ plans) [] zip some = absurd zip
bridge-of n (plan ∷ plans) (log ∷ logs) zip some =
    let more = flat_map (λ (b : BridgePlan). b.left ∷ b.right ∷ []) plans in
    elim (cases_eq n plan.left) [
      | inl same ↦ record {
        plan = plan;
        log = log;
        there = here log logs;
        legal = zip.0;
        side = inl (zip.0.0 ∙ sym same);
      }
      | inr left ↦ elim (cases_eq n plan.right) [
        | inl same ↦ record {
          plan = plan;
          log = log;
          there = here log logs;
          legal = zip.0;
          side = inr (zip.0.1 ∙ sym same);
        }
        | inr right ↦
            let one = count-cons (λ k. n == k) plan.left (plan.right ∷ more) in
            let two = count-cons (λ k. n == k) plan.right more in
            let no_left : cond {A = ℕ} (n == plan.left) 1 0 ≡ 0 =
            ap (λ b. cond b 1 0) (ne_eqb n plan.left left) in
            let no_right : cond {A = ℕ} (n == plan.right) 1 0 ≡ 0 =
            ap (λ b. cond b 1 0) (ne_eqb n plan.right right) in
            let rest = bridge-of n plans logs zip.1
            (omega (arith, some, one, two, no_left, no_right)) in
            record {
              plan = rest.plan;
              log = rest.log;
              there = behind log logs rest.log rest.there;
              legal = rest.legal;
              side = rest.side;
            }
      ]
    ]

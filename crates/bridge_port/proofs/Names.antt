-- The names of the requests that an end took: each is that of one request alone.
use Rattle.std.proofs.Common.{◌≡◌, ◌≢◌, ℕ, zero, suc, ◌+◌, ◌≤◌, ◌&&◌, ◌||◌, Bool, true, false}
use Rattle.std.proofs.Common.{cond, List, [], ◌∷◌, ◌++◌, Contains, inl, inr}
use Rattle.std.proofs.Common.{count_by, map, filter, not, Option, Some, refl, sym, ap, ◌∙◌, subst}
use Rattle.std.proofs.Common.{arith, ⊎_elim}
use Rattle.std.specs.List.{AllByRecursion as Each, cons_option, list_any}
use Rattle.std.proofs.lemmas.Bool.{cases_Bool, eqb-true}
use Rattle.mstr_block.specs.declared.call.CallId.{CallId}
use Rattle.plant_types.specs.declared.net.NetPlan.{NetPlan}
use Rattle.ring_core.specs.Words.{asks, asks_for, is_same_call}
use Rattle.ring_core.specs.Statistics.{is_for_stats}
use Rattle.ring_core.specs.declared.frame.FrameKind.{FrameKind}
use Rattle.ring_core.specs.declared.frame.FrameKind.TheVariants.{Request, Reply}
use Rattle.ring_core.specs.declared.frame.Frame.{Frame}
use Rattle.ring_core.specs.declared.entry.RingEntry.{RingEntry}
use Rattle.ring_core.specs.declared.entry.RingEntry.TheVariants.{Post, Send, Take, Local, GiveUp}
use Rattle.ring_core.specs.declared.entry.RingEntry.TheVariants.{Pass, Leave, Join}
use Rattle.ring_laws.specs.Once.{takes}
use Rattle.ring_laws.proofs.Law.{only-its-target, taken-once}
use Rattle.ring_laws.proofs.Lists.{count-cons, same-eq, same-refl}
use Rattle.tied_lists.specs.Own.{own, is_of}
use Rattle.tied_lists.specs.Items.{Answered, Item, Items, RequestItem, Taken, Plain, ForStats}
use Rattle.tied_lists.specs.Items.{item_of, plain_items, stats_items, taken_by, taken_in}
use Rattle.tied_lists.specs.Items.{port_answers, replied_by}
use Rattle.tied_lists.specs.Tied.{TiedEnd, is_port_reply}
use Rattle.tied_lists.specs.Waits.{IsOnRing}
use Rattle.tied_lists.proofs.Boxes.{count-filter, one-if, none-if}

-- how many have this name
abbrev pub items_named : CallId → List RequestItem → ℕ
items_named id items = count_by (λ (i : RequestItem). is_same_call i.id id) items

abbrev pub answers_named : CallId → List Answered → ℕ
answers_named id answers = count_by (λ (a : Answered). is_same_call a.id id) answers

map-named : (id : CallId) (answers : List Answered)
    → items_named id (map item_of answers) ≡ answers_named id answers
map-named id [] = refl
map-named id (a ∷ answers) =
    let one = count-cons (λ (i : RequestItem). is_same_call i.id id) (item_of a)
    (map item_of answers) in
    let two = count-cons (λ (x : Answered). is_same_call x.id id) a answers in
    let more = map-named id answers in
    one ∙ ap (λ (k : ℕ). cond (is_same_call a.id id) 1 0 + k) more ∙ sym two

-- a Request that was taken is one of the two sorts of requests
request-named : (id : CallId) (f : Frame) (stats : Bool) (ts : List Taken)
    → items_named id (plain_items (cond stats (ForStats f.id f.pdu) (Plain f.id f.rest f.pdu) ∷ ts))
    + items_named id (stats_items (cond stats (ForStats f.id f.pdu) (Plain f.id f.rest f.pdu) ∷ ts))
    ≡ cond (is_same_call f.id id) 1 0
    + (items_named id (plain_items ts) + items_named id (stats_items ts))
request-named id f true ts =
    let item : RequestItem = record { id = f.id; rest = []; request = Some f.pdu } in
    let one = count-cons (λ (i : RequestItem). is_same_call i.id id) item (stats_items ts) in
    omega (arith, one)
request-named id f false ts =
    let item : RequestItem = record { id = f.id; rest = f.rest; request = Some f.pdu } in
    let one = count-cons (λ (i : RequestItem). is_same_call i.id id) item (plain_items ts) in
    omega (arith, one)

taken-named : (id : CallId) (b : List RingEntry)
    → items_named id (plain_items (taken_by b)) + items_named id (stats_items (taken_by b))
    ≡ count_by (takes id) b
taken-named id [] = refl
taken-named id (Take n f ∷ b) =
    by-kind f.kind refl (taken-named id b) (count-cons (takes id) (Take n f) b)
  where
    by-kind : (k : FrameKind) → f.kind ≡ k
        → items_named id (plain_items (taken_by b)) + items_named id (stats_items (taken_by b))
        ≡ count_by (takes id) b
        → count_by (takes id) (Take n f ∷ b) ≡ cond (asks_for id f) 1 0 + count_by (takes id) b
        → items_named id (plain_items (taken_by (Take n f ∷ b)))
        + items_named id (stats_items (taken_by (Take n f ∷ b)))
        ≡ count_by (takes id) (Take n f ∷ b)
    by-kind Request is more one =
        let named : asks_for id f ≡ is_same_call f.id id =
        ap (λ (k : FrameKind). asks k && is_same_call f.id id) is in
        let left = ap (λ (k : FrameKind).
        items_named id (plain_items (cons_option (taken_in k f) (taken_by b)))
        + items_named id
        (stats_items (cons_option (taken_in k f) (taken_by b)))) is in
        let right : cond {A = ℕ} (asks_for id f) 1 0 ≡ cond (is_same_call f.id id) 1 0 =
        ap (λ (x : Bool). cond {A = ℕ} x 1 0) named in
        left ∙ (request-named id f (is_for_stats f) (taken_by b)
        ∙ (λ i. sym right i + more i) ∙ sym one)
    by-kind Reply is more one =
        let named : asks_for id f ≡ false =
        ap (λ (k : FrameKind). asks k && is_same_call f.id id) is in
        let left = ap (λ (k : FrameKind).
        items_named id (plain_items (cons_option (taken_in k f) (taken_by b)))
        + items_named id
        (stats_items (cons_option (taken_in k f) (taken_by b)))) is in
        let none = none-if (asks_for id f) named in
        left ∙ more ∙ sym (one ∙ omega (arith, none))
taken-named id (Post n f ∷ b) = taken-named id b
taken-named id (Send n heard ∷ b) = taken-named id b
taken-named id (Local n x op result ∷ b) = taken-named id b
taken-named id (GiveUp x word ∷ b) = taken-named id b
taken-named id (Pass n done words ∷ b) = taken-named id b
taken-named id (Leave n cause ∷ b) = taken-named id b
taken-named id (Join n ∷ b) = taken-named id b

-- ---- a name is that of one taken request alone

pub taken-once-own : (net : NetPlan) (ring : List RingEntry) (n : ℕ) (id : CallId)
    → IsOnRing net ring n → count_by (takes id) (own n ring) ≤ 1
taken-once-own net ring n id on =
    let all = taken-once net ring id (record { members = on.members; legal = on.legal }) in
    let less = count-filter (takes id) (is_of n) ring in
    omega (arith, all, less)

-- one of these has this name
any-named : (id : CallId) (answers : List Answered)
    → list_any (λ (a : Answered). is_same_call a.id id) answers ≡ true
    → 1 ≤ answers_named id answers
any-named id [] is = absurd (let no' : false ≡ true = is in cc)
any-named id (a ∷ answers) is =
    let count = count-cons (λ (x : Answered). is_same_call x.id id) a answers in
    ⊎_elim
    (λ (hit : is_same_call a.id id ≡ true).
    let one = one-if (is_same_call a.id id) hit in omega (arith, count, one))
    (λ (no' : is_same_call a.id id ≡ false).
    let rest = any-named id answers (later (is_same_call a.id id) _ no' is) in
    omega (arith, count, rest))
    (cases_Bool (is_same_call a.id id))
  where
    later : (b c : Bool) → b ≡ false → (b || c) ≡ true → c ≡ true
    later true c no' is' = absurd (cc)
    later false c no' is' = is'

-- how often a name was taken is told by what was answered
answered-named : (id : CallId) (a : Items) (backs : List Item) (b : List RingEntry)
    → TiedEnd a backs b
    → answers_named id a.answers + answers_named id (port_answers b) ≡ count_by (takes id) b
answered-named id a backs b t =
    let peers = sym (map-named id a.answers) ∙ ap (items_named id) t.peers in
    let port = sym (map-named id (port_answers b)) ∙ ap (items_named id) t.port in
    (λ i. peers i + port i) ∙ taken-named id b

-- what an end accepted, the port did not answer
pub not-by-port : (id : CallId) (reply : Option (List ℕ)) (a : Items) (backs : List Item)
    (b : List RingEntry) → TiedEnd a backs b → count_by (takes id) b ≤ 1
    → 1 ≤ answers_named id a.answers → is_port_reply (port_answers b) (id, reply) ≡ false
not-by-port id reply a backs b t once accepted =
    let both = answered-named id a backs b t in
    ⊎_elim
    (λ (hit : is_port_reply (port_answers b) (id, reply) ≡ true).
    let told = any-named id (port_answers b) hit in
    absurd (omega (arith, both, once, accepted, told)))
    (λ (no' : is_port_reply (port_answers b) (id, reply) ≡ false). no')
    (cases_Bool (is_port_reply (port_answers b) (id, reply)))

-- each of these was given back to what the end accepted
abbrev pub AreAccepted : Items → List Item → Type 0
AreAccepted a backs = Each (λ (item : Item). 1 ≤ answers_named item.0 a.answers) backs

-- what holds of each that passes a test, and of each that does not, holds of all
each-parts : {X : Type 0} (P : X → Type 0) (test : X → Bool) (xs : List X)
    → Each P (filter test xs) → Each P (filter (λ x. not (test x)) xs) → Each P xs
each-parts P test [] hit no' = tt
each-parts P test (x ∷ xs) hit no' = ⊎_elim
    (λ (is : test x ≡ true).
    let one = subst (λ (b : Bool). Each P (cond b (x ∷ filter test xs) (filter test xs))) is hit in
    let two = subst (λ (b : Bool). Each P
    (cond (not b) (x ∷ filter (λ y. not (test y)) xs) (filter (λ y. not (test y)) xs))) is no' in
    (one.0, each-parts P test xs one.1 two))
    (λ (is : test x ≡ false).
    let one = subst (λ (b : Bool). Each P (cond b (x ∷ filter test xs) (filter test xs))) is hit in
    let two = subst (λ (b : Bool). Each P
    (cond (not b) (x ∷ filter (λ y. not (test y)) xs) (filter (λ y. not (test y)) xs))) is no' in
    (two.0, each-parts P test xs one two.1))
    (cases_Bool (test x))

-- none of these has this name
none-named : (id : CallId) (answers : List Answered) → answers_named id answers ≡ 0
    → Each (λ (item : Item). is_same_call id item.0 ≡ false)
    (map (λ (x : Answered). (x.id, x.reply)) answers)
none-named id [] none = tt
none-named id (a ∷ answers) none =
    let count = count-cons (λ (x : Answered). is_same_call x.id id) a answers in (
      ⊎_elim
          (λ (hit : is_same_call id a.id ≡ true).
          let other : is_same_call a.id id ≡ true = ap (λ (x : CallId). is_same_call x id)
          (sym (same-eq id a.id hit)) ∙ same-refl id in
          let one = one-if (is_same_call a.id id) other in
          absurd (omega (arith, count, none, one)))
          (λ (no' : is_same_call id a.id ≡ false). no')
          (cases_Bool (is_same_call id a.id)),
      none-named id answers (omega (arith, count, none)),
    )

-- nor has any of those that were given back to what was accepted
none-given : (id : CallId) (a : Items) (backs : List Item) → answers_named id a.answers ≡ 0
    → AreAccepted a backs → Each (λ (item : Item). is_same_call id item.0 ≡ false) backs
none-given id a [] none all = tt
none-given id a (item ∷ backs) none all = (
  ⊎_elim
      (λ (hit : is_same_call id item.0 ≡ true).
      let here = subst (λ (x : CallId). 1 ≤ answers_named x a.answers) (sym (same-eq id item.0 hit))
      all.0 in
      absurd (omega (arith, here, none)))
      (λ (no' : is_same_call id item.0 ≡ false). no')
      (cases_Bool (is_same_call id item.0)),
  none-given id a backs none all.1,
)

-- nobody was replied to whose name was not taken
pub none-replied : (id : CallId) (a : Items) (backs : List Item) (b : List RingEntry)
    → TiedEnd a backs b → AreAccepted a backs → count_by (takes id) b ≡ 0
    → Each (λ (item : Item). is_same_call id item.0 ≡ false) (replied_by b)
none-replied id a backs b t all none =
    let both = answered-named id a backs b t in
    each-parts (λ (item : Item). is_same_call id item.0 ≡ false)
    (is_port_reply (port_answers b)) (replied_by b)
    (subst (Each (λ (item : Item). is_same_call id item.0 ≡ false)) (sym t.replies.told)
    (none-named id (port_answers b) (omega (arith, both, none))))
    (subst (Each (λ (item : Item). is_same_call id item.0 ≡ false)) (sym t.replies.given)
    (none-given id a backs (omega (arith, both, none)) all))

-- a name that is taken was not taken before
pub not-before : (id : CallId) (b : List RingEntry) (n : ℕ) (f : Frame) (after' : List RingEntry)
    → f.kind ≡ Request → f.id ≡ id → count_by (takes id) (b ++ Take n f ∷ after') ≤ 1
    → count_by (takes id) b ≡ 0
not-before id b n f after' kind is once =
    let here : takes id (Take n f) ≡ true =
    (λ i. asks (kind i) && is_same_call (is i) id) ∙ same-refl id in
    let one = one-if (takes id (Take n f)) here in
    let joined = count-joined (takes id) b (Take n f ∷ after') in
    let first = count-cons (takes id) (Take n f) after' in
    omega (arith, once, one, joined, first)
  where
    count-joined : {X : Type 0} (p : X → Bool) (xs ys : List X)
        → count_by p (xs ++ ys) ≡ count_by p xs + count_by p ys
    count-joined p [] ys = omega arith
    count-joined p (x ∷ xs) ys =
        let one = count-cons p x (xs ++ ys) in
        let two = count-cons p x xs in
        let more = count-joined p xs ys in
        omega (arith, one, two, more)

-- ---- whose name was taken

taken-frame : (id : CallId) (n : ℕ) (ring : List RingEntry)
    → 1 ≤ count_by (takes id) (own n ring)
    → (f : Frame) × Contains ring (Take n f) × (f.kind ≡ Request) × (f.id ≡ id)
taken-frame id n [] some = absurd (omega (arith, some))
taken-frame id n (e ∷ ring) some = elim (cases_Bool (is_of n e)) [
  | inl mine ↦
      let count = ap (λ (b : Bool). count_by (takes id) (cond b (e ∷ own n ring) (own n ring))) mine
      ∙ count-cons (takes id) e (own n ring) in
      elim (cases_Bool (takes id e)) [
        | inl hit ↦ here e mine hit
        | inr no' ↦
            let none = none-if (takes id e) no' in
            further (taken-frame id n ring (omega (arith, some, count, none)))
      ]
  | inr other ↦
      let count = ap (λ (b : Bool). count_by (takes id) (cond b (e ∷ own n ring) (own n ring)))
      other in
      further (taken-frame id n ring (omega (arith, some, count)))
]
  where
    further : (f : Frame) × Contains ring (Take n f) × (f.kind ≡ Request) × (f.id ≡ id)
        → (f : Frame) × Contains (e ∷ ring) (Take n f) × (f.kind ≡ Request) × (f.id ≡ id)
    further k = (k.0, (suc k.1.0, (let low = k.1.1 in omega (arith, low)), k.1.2), k.2, k.3)

    asked-by : (k : FrameKind) (same : Bool) → (asks k && same) ≡ true
        → (k ≡ Request) × (same ≡ true)
    asked-by Request same is = (refl, is)
    asked-by Reply same is = absurd (let bad : false ≡ true = is in cc)

    here : (x : RingEntry) → is_of n x ≡ true → takes id x ≡ true
        → (f : Frame) × Contains (x ∷ ring) (Take n f) × (f.kind ≡ Request) × (f.id ≡ id)
    here (Take m f) mine hit =
        let k = asked-by f.kind (is_same_call f.id id) hit in
        let at : m ≡ n = eqb-true m n mine in
        (f, (zero, omega arith, ap (λ (x : ℕ). Take x f) at), k.0, same-eq f.id id k.1)
    here (Post m f) mine hit = absurd (let bad : false ≡ true = hit in cc)
    here (Send m heard) mine hit = absurd (let bad : false ≡ true = hit in cc)
    here (Local m x op result) mine hit = absurd (let bad : false ≡ true = hit in cc)
    here (GiveUp x word) mine hit = absurd (let bad : false ≡ true = hit in cc)
    here (Pass m done words) mine hit = absurd (let bad : false ≡ true = hit in cc)
    here (Leave m cause) mine hit = absurd (let bad : false ≡ true = hit in cc)
    here (Join m) mine hit = absurd (let bad : false ≡ true = hit in cc)

-- what an end accepted came from another node
pub accepted-other : (net : NetPlan) (ring : List RingEntry) (n : ℕ) (id : CallId) (a : Items)
    (backs : List Item) → IsOnRing net ring n → TiedEnd a backs (own n ring)
    → 1 ≤ answers_named id a.answers → id.node ≢ n
accepted-other net ring n id a backs on t accepted =
    let both = answered-named id a backs (own n ring) t in
    let k = taken-frame id n ring (omega (arith, both, accepted)) in
    let target = only-its-target net ring n k.0
    (record { members = on.members; legal = on.legal }) (inr k.1) k.2 in
    λ is. target.1 (ap (λ (x : CallId). x.node) k.3 ∙ is)

-- The words of the last Output, and those that are sent.
use Rattle.std.proofs.Common.{◌≡◌, ◌<◌, ◌≤◌, ℕ, ◌+◌, Bool, true, false, List, [], ◌∷◌, ◌++◌}
use Rattle.std.proofs.Common.{length, drop, get_or, Option, Some, None, refl, sym, ap, ◌∙◌, arith}
use Rattle.std.proofs.lemmas.List.{drop_more}
use Rattle.std.specs.Prelude.{cond, filter_map, if◌then◌else◌, nat_lt, ◌||◌, ◌==◌, replicate}
use Rattle.std.specs.List.{cons_option, count_by, last_or, list_any}
use Rattle.std.specs.Option.{option_and_then, option_or, unwrap_or}
use Rattle.std.proofs.lemmas.Bool.{eqb-true, le-ltb, lt-ltb}
use Rattle.std.proofs.lemmas.List.Elements.{filter_map-append}
use Rattle.std.proofs.lemmas.List.Sums.{sum_by-append, sum_by-cons}
use Rattle.plant_types.specs.declared.drops.IoDrop.{IoDrop}
use Rattle.plant_types.specs.declared.plan.ControllerPlan.{ControllerPlan}
use Rattle.plant_types.specs.declared.plan.Plant.{Plant}
use Rattle.ring_core.specs.declared.entry.RingEntry.{RingEntry}
use Rattle.traffic_cop.specs.Drops.{drop_named}
use Rattle.traffic_cop.specs.Exchange.{output_total}
use Rattle.controller_core.specs.declared.entry.Entry.{Entry}
use Rattle.joint_history.specs.declared.joint.Joint.{Joint}
use Rattle.joint_history.specs.Nets.{noted_on}
use Rattle.peer_cop.specs.declared.wire.Wire.{Wire}
use Rattle.peer_cop.specs.Plants.{drop_of, plan_of}
use Rattle.peer_cop.proofs.PlantLemmas.{named_find}
use Rattle.word_exchange.specs.declared.sending.Sending.{Sending}
use Rattle.word_exchange.specs.Refresh.{JointGoesOnBy, Refreshed, SendingsFollow}
use Rattle.word_exchange.specs.Sendings.{sending_of, words_from, words_if}
use Rattle.word_exchange.specs.Words.{entries_of, if_passed, is_pass_of, last_output, last_passed}
use Rattle.word_exchange.specs.Words.{output_to, passes_of, words_in, words_latest}
use Rattle.word_exchange.specs.Words.{words_sent}
use Rattle.word_exchange.proofs.RowLemmas.{find-passes}

-- ---- the last of a list

last-append : {A : Type 0} (o : Option A) (xs ys : List A)
    → last_or o (xs ++ ys) ≡ last_or (last_or o xs) ys
last-append o [] ys = refl
last-append o (x ∷ xs) ys = last-append (Some x) xs ys

last-any : {A : Type 0} (y d e : A) (xs : List A)
    → unwrap_or (last_or (Some y) xs) d ≡ unwrap_or (last_or (Some y) xs) e
last-any y d e [] = refl
last-any y d e (z ∷ xs) = last-any z d e xs

last-some : {A : Type 0} (x d : A) (xs : List A)
    → unwrap_or (last_or (Some x) xs) d ≡ unwrap_or (last_or None xs) x
last-some x d [] = refl
last-some x d (y ∷ xs) = last-any y d x xs

last-from : {A : Type 0} (o : Option A) (xs : List A) (d : A)
    → unwrap_or (last_or o xs) d ≡ unwrap_or (last_or None xs) (unwrap_or o d)
last-from None xs d = refl
last-from (Some x) xs d = last-some x d xs

-- the last that a list gives goes on with one entry, and with some
last-cons-by : {A : Type 0} (o : Option A) (ys : List A) (d : A)
    → unwrap_or (last_or None (cons_option o ys)) d ≡ unwrap_or (last_or None ys) (unwrap_or o d)
last-cons-by None ys d = refl
last-cons-by (Some x) ys d = last-some x d ys

pub last-cons : {X A : Type 0} (f : X → Option A) (e : X) (xs : List X) (d : A)
    → unwrap_or (last_or None (filter_map f (e ∷ xs))) d
    ≡ unwrap_or (last_or None (filter_map f xs)) (unwrap_or (f e) d)
last-cons f e xs d = last-cons-by (f e) (filter_map f xs) d

last-both : {X A : Type 0} (f : X → Option A) (xs ys : List X) (d : A)
    → unwrap_or (last_or None (filter_map f (xs ++ ys))) d
    ≡ unwrap_or (last_or None (filter_map f ys)) (unwrap_or (last_or None (filter_map f xs)) d)
last-both f xs ys d =
    ap (λ l. unwrap_or (last_or None l) d) (filter_map-append f xs ys)
    ∙ ap (λ o. unwrap_or o d) (last-append None (filter_map f xs) (filter_map f ys))
    ∙ last-from (last_or None (filter_map f xs)) (filter_map f ys) d

-- ---- the passes

some-by : (b any : Bool) (count : ℕ) → (b || any) ≡ true → (any ≡ true → 1 ≤ count)
    → 1 ≤ cond b 1 0 + count
some-by true any count is more = omega arith
some-by false any count is more = let later = more is in omega (arith, later)

some-count : {X : Type 0} (p : X → Bool) (xs : List X) → list_any p xs ≡ true → 1 ≤ count_by p xs
some-count p [] is = cc
some-count p (x ∷ xs) is =
    let sum = sum_by-cons (λ y. cond (p y) 1 0) x xs in
    let some = some-by (p x) (list_any p xs) (count_by p xs) is (some-count p xs) in
    omega (arith, sum, some)

no-by : (b any : Bool) (count : ℕ) → (b || any) ≡ false → (any ≡ false → count ≡ 0)
    → cond b 1 0 + count ≡ 0
no-by true any count is more = absurd cc
no-by false any count is more = let later = more is in omega (arith, later)

no-count : {X : Type 0} (p : X → Bool) (xs : List X) → list_any p xs ≡ false → count_by p xs ≡ 0
no-count p [] is = refl
no-count p (x ∷ xs) is =
    sum_by-cons (λ y. cond (p y) 1 0) x xs
    ∙ no-by (p x) (list_any p xs) (count_by p xs) is (no-count p xs)

more-count : {X : Type 0} (p : X → Bool) (xs ys : List X) (b : Bool) → list_any p ys ≡ b
    → nat_lt (count_by p xs) (count_by p (xs ++ ys)) ≡ b
more-count p xs ys true is =
    let sum = sum_by-append (λ x. cond (p x) 1 0) xs ys in
    let some = some-count p ys is in
    lt-ltb (count_by p xs) (count_by p (xs ++ ys)) (omega (arith, sum, some))
more-count p xs ys false is =
    let sum = sum_by-append (λ x. cond (p x) 1 0) xs ys in
    let none = no-count p ys is in
    le-ltb (count_by p xs) (count_by p (xs ++ ys)) (omega (arith, sum, none))

passed-by : (plan : ControllerPlan) (ring : List RingEntry) (old new : Joint)
    → noted_on plan.network new ≡ noted_on plan.network old ++ ring
    → nat_lt (passes_of plan old) (passes_of plan new) ≡ list_any (is_pass_of plan.node) ring
passed-by plan ring old new is =
    let p = is_pass_of plan.node in
    let noted = noted_on plan.network old in
    ap (λ l. nat_lt (count_by p noted) (count_by p l)) is
    ∙ more-count p noted ring (list_any p ring) refl

-- ---- the last repetition in which a node passed

or-none : {A : Type 0} (o : Option A) → option_or o None ≡ o
or-none None = refl
or-none (Some x) = refl

or-assoc : {A : Type 0} (a b c : Option A)
    → option_or (option_or a b) c ≡ option_or a (option_or b c)
or-assoc None b c = refl
or-assoc (Some x) b c = refl

last-passed : (plan : ControllerPlan) (before : List Joint) (old new : Joint)
    → last_passed plan (before ++ old ∷ new ∷ [])
    ≡ option_or (if_passed plan old new) (last_passed plan (before ++ old ∷ []))
unfolding last_passed
last-passed plan [] old new = sym (or-none (if_passed plan old new))
last-passed plan (a ∷ []) old new =
    ap (λ o. option_or o (if_passed plan a old)) (last-passed plan [] old new)
    ∙ or-assoc (if_passed plan old new) None (if_passed plan a old)
last-passed plan (a ∷ b ∷ before) old new =
    ap (λ o. option_or o (if_passed plan a b)) (last-passed plan (b ∷ before) old new)
    ∙ or-assoc (if_passed plan old new) (last_passed plan (b ∷ (before ++ old ∷ [])))
    (if_passed plan a b)

-- ---- what is sent next

sent-by : (plan : ControllerPlan) (drop : IoDrop) (new : Joint) (o : Option Joint) (b : Bool)
    → words_in plan drop (option_or (if b then Some new else None) o)
    ≡ (if b then words_in plan drop (Some new) else words_in plan drop o)
sent-by plan drop new o true = refl
sent-by plan drop new o false = refl

sent-next : (plan : ControllerPlan) (drop : IoDrop) (ring : List RingEntry) (before : List Joint)
    (old new : Joint) → noted_on plan.network new ≡ noted_on plan.network old ++ ring
    → words_sent plan drop (before ++ old ∷ new ∷ [])
    ≡ (if list_any (is_pass_of plan.node) ring then words_in plan drop (Some new)
    else words_sent plan drop (before ++ old ∷ []))
sent-next plan drop ring before old new is =
    ap (words_in plan drop) (last-passed plan before old new)
    ∙ ap (λ (b : Bool). words_in plan drop (option_or (if b then Some new else None)
    (last_passed plan (before ++ old ∷ [])))) (passed-by plan ring old new is)
    ∙ sent-by plan drop new (last_passed plan (before ++ old ∷ []))
    (list_any (is_pass_of plan.node) ring)

latest-at : (plan : ControllerPlan) (drop : IoDrop) (before : List Joint) (old new : Joint)
    → words_latest plan drop (before ++ old ∷ new ∷ []) ≡ words_in plan drop (Some new)
latest-at plan drop before old new =
    ap (words_in plan drop) (last-append None before (old ∷ new ∷ []))

latest-one : (plan : ControllerPlan) (drop : IoDrop) (before : List Joint) (old : Joint)
    → words_latest plan drop (before ++ old ∷ []) ≡ words_in plan drop (Some old)
latest-one plan drop before old =
    ap (words_in plan drop) (last-append None before (old ∷ []))

-- the words of the last Output go on with the entries
words-next : (plan : ControllerPlan) (drop : IoDrop) (entries : List Entry) (old new : Joint)
    → entries_of plan.node new ≡ entries_of plan.node old ++ entries
    → words_in plan drop (Some new)
    ≡ unwrap_or (last_output plan drop.number entries) (words_in plan drop (Some old))
words-next plan drop entries old new is =
    let none = replicate (output_total drop.modules) 0 in
    ap (λ l. unwrap_or (last_output plan drop.number l) none) is
    ∙ last-both (output_to plan drop.number) (entries_of plan.node old) entries none

-- ---- the wire's drop

named-number : (drops : List IoDrop) (number : ℕ) (drop : IoDrop)
    → drop_named drops number ≡ Some drop → drop.number ≡ number
named-number drops number drop is =
    eqb-true drop.number number (find-passes (λ (d : IoDrop). d.number == number) drops drop
    (named_find drops number ∙ is))

words-there : (words : ControllerPlan → IoDrop → List Joint → List ℕ) (plant : Plant) (wire : Wire)
    (moments : List Joint) (plan : ControllerPlan) (drop : IoDrop)
    → plan_of plant wire.from ≡ Some plan → drop_of plant wire.from wire.from_drop ≡ Some drop
    → words_from words plant wire moments ≡ words plan drop moments
words-there words plant wire moments plan drop has_plan has_drop =
    ap (λ o. words_if words o (drop_of plant wire.from wire.from_drop) moments) has_plan
    ∙ ap (λ o. words_if words (Some plan) o moments) has_drop

module _ (plant : Plant) (before : List Joint) (old new : Joint) (plan : ControllerPlan)
    (drop : IoDrop) (wire : Wire) (entries : List Entry) (ring : List RingEntry) (sending : Sending)
    (has_plan : plan_of plant wire.from ≡ Some plan)
    (has_drop : drop_of plant wire.from wire.from_drop ≡ Some drop)
    (goes : JointGoesOnBy plan entries ring old new)
    (fresh : Refreshed plan entries ring (sending_of plant (before ++ old ∷ []) wire) sending)
  where
    number-is : wire.from_drop ≡ drop.number
    number-is = sym (named-number plan.drops wire.from_drop drop
        (sym (ap (option_and_then (λ (p : ControllerPlan). drop_named p.drops wire.from_drop))
        has_plan) ∙ has_drop))

    latest-old : words_from words_latest plant wire (before ++ old ∷ [])
        ≡ words_in plan drop (Some old)
    latest-old =
        words-there words_latest plant wire (before ++ old ∷ []) plan drop has_plan has_drop
        ∙ latest-one plan drop before old

    latest-is : sending.latest ≡ words_in plan drop (Some new)
    latest-is =
        fresh.latest
        ∙ (λ i. unwrap_or (last_output plan (number-is i) entries) (latest-old i))
        ∙ sym (words-next plan drop entries old new goes.entries_are)

    sent-is : sending.sent ≡ words_sent plan drop (before ++ old ∷ new ∷ [])
    sent-is =
        fresh.sent
        ∙ (λ i. if list_any (is_pass_of plan.node) ring then latest-is i
        else words-there words_sent plant wire (before ++ old ∷ []) plan drop has_plan has_drop i)
        ∙ sym (sent-next plan drop ring before old new goes.ring_is)

    next-is : sending ≡ sending_of plant (before ++ old ∷ new ∷ []) wire
    next-is =
        let moments = before ++ old ∷ new ∷ [] in
        let latest = latest-is ∙ sym (latest-at plan drop before old new)
        ∙ sym (words-there words_latest plant wire moments plan drop has_plan has_drop) in
        let sent = sent-is
        ∙ sym (words-there words_sent plant wire moments plan drop has_plan has_drop) in
        λ i. record { wire = fresh.wire i; latest = latest i; sent = sent i }

pub follow : SendingsFollow
follow plant before old new plan drop wire entries ring sending has_plan has_drop goes fresh =
    next-is plant before old new plan drop wire entries ring sending has_plan has_drop goes fresh

-- ---- the entries one by one

pub latest-more : (plan : ControllerPlan) (number : ℕ) (entries : List Entry) (i : ℕ) (e : Entry)
    (latest next all : List ℕ) → i < length entries → e ≡ get_or entries i e
    → next ≡ unwrap_or (output_to plan number e) latest
    → unwrap_or (last_output plan number (drop i entries)) latest ≡ all
    → unwrap_or (last_output plan number (drop (i + 1) entries)) next ≡ all
latest-more plan number entries i e latest next all within is next_is so_far =
    let rest = drop (i + 1) entries in
    let front : drop i entries ≡ e ∷ rest =
    drop_more entries i e within ∙ ap (λ (x : Entry). x ∷ rest) (sym is) in
    ap (unwrap_or (last_output plan number rest)) next_is
    ∙ sym (last-cons (output_to plan number) e rest latest)
    ∙ ap (λ (l : List Entry). unwrap_or (last_output plan number l) latest) (sym front)
    ∙ so_far

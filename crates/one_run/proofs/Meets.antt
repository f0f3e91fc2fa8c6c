-- What a controller's list has ended so far is what its node's own list has, as far as both go.
use Rattle.std.proofs.Common.{◌≡◌, ℕ, ◌+◌, ◌<◌, ◌≤◌, ◌==◌, Bool, true, false, cond}
use Rattle.std.proofs.Common.{List, [], ◌∷◌, ◌++◌, length, filter, Option, Some, None, refl, sym}
use Rattle.std.proofs.Common.{ap}
use Rattle.std.proofs.Common.{subst, ◌∙◌, arith, append_assoc, append-nil, length-append}
use Rattle.std.specs.List.{AllByRecursion as Each, cons_option}
use Rattle.std.proofs.lemmas.List.Elements.{filter-append}
use Rattle.plant_types.specs.declared.net.NetPlan.{NetPlan}
use Rattle.mstr_block.specs.declared.call.CallId.{CallId}
use Rattle.mstr_block.specs.declared.call.MstrResult.{MstrResult}
use Rattle.controller_core.specs.declared.entry.Entry.{Entry}
use Rattle.controller_core.specs.declared.entry.Entry.TheVariants as entries
use Rattle.controller_core.specs.declared.fixed.Fixed.{Fixed}
use Rattle.controller_core.specs.Controller.{IsLegal}
use Rattle.controller_core.proofs.NextEntry.{front_legal}
use Rattle.ring_core.specs.Legal.{IsLegalRing}
use Rattle.ring_core.specs.declared.frame.FrameKind.{FrameKind}
use Rattle.ring_core.specs.declared.frame.FrameKind.TheVariants.{Request, Reply}
use Rattle.ring_core.specs.declared.entry.RingEntry.{RingEntry}
use Rattle.ring_core.specs.declared.entry.RingEntry.TheVariants.{Post, Send, Take, Local, GiveUp}
use Rattle.ring_core.specs.declared.entry.RingEntry.TheVariants.{Pass, Leave, Join}
use Rattle.tied_lists.specs.Own.{is_of, own, Grew}
use Rattle.tied_lists.specs.Items.{AController, Asked, Came, Ended, Items, asked_by}
use Rattle.tied_lists.specs.Items.{LocalCall, asked_of, ended_by, ended_in, ended_of, kind_in}
use Rattle.tied_lists.specs.Items.{no_items}
use Rattle.tied_lists.specs.Tied.{Tied}
use Rattle.tied_lists.proofs.Turns.{legal-parts}
use Rattle.joint_history.specs.Reading.{item_next, items_after, items_of}
use Rattle.serial_run.proofs.TurnLaws.{cons-head, cons-tail, ended-join, items-push}

-- ---- entries of one node

abbrev pub IsMine : ℕ → RingEntry → Type 0
IsMine n e = is_of n e ≡ true

-- what holds of each item of two joined lists holds of the first, and of the second
pub each-front : {X : Type 0} (P : X → Type 0) (xs ys : List X) → Each P (xs ++ ys) → Each P xs
each-front P [] ys all = tt
each-front P (x ∷ xs) ys all = (all.0, each-front P xs ys all.1)

pub each-rest : {X : Type 0} (P : X → Type 0) (xs ys : List X) → Each P (xs ++ ys) → Each P ys
each-rest P [] ys all = all
each-rest P (x ∷ xs) ys all = each-rest P xs ys all.1

-- no more items pass a test than there are
short-filter : {X : Type 0} (p : X → Bool) (xs : List X) → length (filter p xs) ≤ length xs
short-filter p [] = omega arith
short-filter p (x ∷ xs) = at (p x) (short-filter p xs)
  where
    at : (b : Bool) → length (filter p xs) ≤ length xs
        → length (cond b (x ∷ filter p xs) (filter p xs)) ≤ length (x ∷ xs)
    at true short = omega (arith, short)
    at false short = omega (arith, short)

-- where all pass, each does
pub each-mine : {X : Type 0} (p : X → Bool) (xs : List X) → filter p xs ≡ xs
    → Each (λ x. p x ≡ true) xs
each-mine p [] is = tt
each-mine p (x ∷ xs) is = at (p x) refl is (each-mine p xs)
  where
    at : (b : Bool) → p x ≡ b → cond b (x ∷ filter p xs) (filter p xs) ≡ x ∷ xs
        → (filter p xs ≡ xs → Each (λ y. p y ≡ true) xs) → Each (λ y. p y ≡ true) (x ∷ xs)
    at true here is' more = (here, more (cons-tail is'))
    at false here is' more = absurd
        (let short = short-filter p xs in let same = ap length is' in omega (arith, short, same))

-- ---- lists that go on where nobody else writes

-- the list that went on by what was added
pub grew-is : {E : Type 0} (ours : E → Bool) (before added after : List E)
    → Grew true ours before added after → after ≡ before ++ added
grew-is ours before added after g = g.after_is ∙ ap (λ l. before ++ l) (g.all_alone refl)

-- all that was added is ours
pub grew-ours : {E : Type 0} (ours : E → Bool) (before added after : List E)
    → Grew true ours before added after → Each (λ e. ours e ≡ true) added
grew-ours ours before added after g =
    each-mine ours added (ap (filter ours) (sym (g.all_alone refl)) ∙ g.ours_are)

-- entries of a node are its own list
pub own-all : (n : ℕ) (es : List RingEntry) → Each (IsMine n) es → own n es ≡ es
own-all n [] mine = refl
own-all n (e ∷ es) mine = ap (λ b. cond b (e ∷ own n es) (own n es)) mine.0
    ∙ ap (λ l. e ∷ l) (own-all n es mine.1)

-- ---- how many calls ended

-- an entry of a controller that ends a call
abbrev pub ending : Entry → ℕ
ending (entries.Finish id result) = 1
ending _ = 0

abbrev pub endings : List Entry → ℕ
endings [] = 0
endings (e ∷ es) = ending e + endings es

abbrev pub closing_kind : FrameKind → ℕ
closing_kind Request = 0
closing_kind Reply = 1

-- an entry of the ring that ends a call of its node
abbrev pub closing : RingEntry → ℕ
closing (Take m f) = closing_kind f.kind
closing (Local m id op result) = cond (id.node == m) 1 0
closing (GiveUp id word) = 1
closing _ = 0

abbrev pub closings : List RingEntry → ℕ
closings [] = 0
closings (e ∷ es) = closing e + closings es

-- the ends of joined lists
pub endings-join : (a b : List Entry) → endings (a ++ b) ≡ endings a + endings b
endings-join [] b = omega arith
endings-join (e ∷ a) b = let more = endings-join a b in omega (arith, more)

pub closings-join : (a b : List RingEntry) → closings (a ++ b) ≡ closings a + closings b
closings-join [] b = omega arith
closings-join (e ∷ a) b = let more = closings-join a b in omega (arith, more)

-- no more calls of a controller have ended than of its node
abbrev pub Behind : ℕ → List Entry → List RingEntry → Type 0
Behind n known ring = endings known ≤ closings (own n ring)

-- the ends on the ring in joined lists
own-join : (n : ℕ) (ring more : List RingEntry)
    → closings (own n (ring ++ more)) ≡ closings (own n ring) + closings (own n more)
own-join n ring more = ap closings (filter-append (is_of n) ring more)
    ∙ closings-join (own n ring) (own n more)

-- a controller ends no more calls than its node, if it is so of what both add
pub behind-more : (n : ℕ) (known noted : List Entry) (ring done : List RingEntry)
    → Behind n known ring → endings noted ≤ closings (own n done)
    → Behind n (known ++ noted) (ring ++ done)
behind-more n known noted ring done old new =
    let a = endings-join known noted in
    let b = own-join n ring done in omega (arith, a, b, old, new)

pub behind-by : (n : ℕ) (known noted : List Entry) (ring done : List RingEntry)
    → Each (IsMine n) done → Behind n known ring
    → endings noted ≤ closings done → Behind n (known ++ noted) (ring ++ done)
behind-by n known noted ring done mine old new =
    behind-more n known noted ring done old
    (subst (λ l. endings noted ≤ closings l) (sym (own-all n done mine)) new)

-- ---- as many are told

-- how long a list is in front of which there may be an item
option-long : {X : Type 0} (o : Option X) (xs : List X)
    → length (cons_option o xs) ≡ length (cons_option o []) + length xs
option-long None xs = omega arith
option-long (Some x) xs = omega arith

one-where : (b : Bool) (x : Ended)
    → length (cons_option (cond b (Some x) None) []) ≡ cond {A = ℕ} b 1 0
one-where true x = refl
one-where false x = refl

-- what an entry ends, as the laws read it, is one call or none
ended-one : (asked : List Asked) (e : RingEntry)
    → length (cons_option (ended_of AController asked e) []) ≡ closing e
ended-one asked (Post m f) = refl
ended-one asked (Send m heard) = refl
ended-one asked (Take m f) = at f.kind
  where
    at : (kind : FrameKind)
        → length (cons_option (ended_in AController asked kind f) []) ≡ closing_kind kind
    at Request = refl
    at Reply = refl
ended-one asked (Local m id op result) =
    one-where (id.node == m) (record { id = id; kind = Some (LocalCall op); outcome = Came result })
ended-one asked (GiveUp id word) = refl
ended-one asked (Pass m done words) = refl
ended-one asked (Leave m cause) = refl
ended-one asked (Join m) = refl

-- and what a list ends is as many
ended-many : (asked : List Asked) (es : List RingEntry)
    → length (ended_by AController asked es) ≡ closings es
ended-many asked [] = refl
ended-many asked (e ∷ es) =
    let rest = ended_by AController (asked ++ cons_option (asked_of e) []) es in
    let more = ended-many (asked ++ cons_option (asked_of e) []) es in
    let long = option-long (ended_of AController asked e) rest in
    let one = ended-one asked e in
    omega (arith, more, long, one)

-- what a controller's list ends goes on
pub record EndsOn (a b : Items) (many : ℕ) : Type 0 where
  pub more : List Ended
  pub is : b.ends ≡ a.ends ++ more
  pub long : length more ≡ many

ends-one : (a : Items) (e : Entry) → EndsOn a (item_next a e) (ending e)
ends-one a entries.Begin = record { more = []; is = sym (append-nil a.ends); long = refl }
ends-one a (entries.Input row) = record { more = []; is = sym (append-nil a.ends); long = refl }
ends-one a (entries.Solve row) = record { more = []; is = sym (append-nil a.ends); long = refl }
ends-one a (entries.Output row words) =
    record { more = []; is = sym (append-nil a.ends); long = refl }
ends-one a entries.End = record { more = []; is = sym (append-nil a.ends); long = refl }
ends-one a entries.Fail = record { more = []; is = sym (append-nil a.ends); long = refl }
ends-one a entries.Dark = record { more = []; is = sym (append-nil a.ends); long = refl }
ends-one a (entries.Collect calls) = record { more = []; is = sym (append-nil a.ends); long = refl }
ends-one a (entries.Peer id request reply) =
    record { more = []; is = sym (append-nil a.ends); long = refl }
ends-one a (entries.Off id request) =
    record { more = []; is = sym (append-nil a.ends); long = refl }
ends-one a (entries.Finish id result) =
    record {
      more = record { id = id; kind = kind_in a.calls id; outcome = Came result } ∷ [];
      is = refl;
      long = refl;
    }

ends-on : (a : Items) (es : List Entry) → EndsOn a (items_after a es) (endings es)
ends-on a [] = record { more = []; is = sym (append-nil a.ends); long = refl }
ends-on a (e ∷ es) =
    let one = ends-one a e in
    let all = ends-on (item_next a e) es in
    record {
      more = one.more ++ all.more;
      is = all.is ∙ ap (λ l. l ++ all.more) one.is ∙ append_assoc a.ends one.more all.more;
      long = let l = length-append one.more all.more in let p = one.long in let q = all.long in
          omega (arith, l, p, q);
    }

-- what the laws read of joined lists
items-join : (a : Items) (xs ys : List Entry)
    → items_after a (xs ++ ys) ≡ items_after (items_after a xs) ys
items-join a [] ys = refl
items-join a (x ∷ xs) ys = items-join (item_next a x) xs ys

-- as many calls have ended, as the laws read it, as entries end one
ends-many : (es : List Entry) → length (items_of es).ends ≡ endings es
ends-many es = let all = ends-on no_items es in ap length all.is ∙ all.long

-- ---- both lists tell the same, as far as they go

pub record Meets (n : ℕ) (known : List Entry) (ring : List RingEntry) : Type 0 where
  pub noted : List Ended
  pub done : List Ended
  pub is : (items_of known).ends ++ noted ≡ ended_by AController [] (own n ring) ++ done

-- lists that keep the laws tell the same
pub meets-tied : (n : ℕ) (known : List Entry) (ring : List RingEntry)
    → Tied AController (items_of known) (own n ring) → Meets n known ring
meets-tied n known ring t = record { noted = []; done = []; is = ap (λ l. l ++ []) t.ends }

-- they have as many ends
pub behind-tied : (n : ℕ) (known : List Entry) (ring : List RingEntry)
    → Tied AController (items_of known) (own n ring) → Behind n known ring
behind-tied n known ring t =
    let few = ends-many known in
    let many = ended-many [] (own n ring) in
    let same = ap length t.ends in
    omega (arith, few, many, same)

-- the fronts of two lists tell what the lists do
pub meets-front : (n : ℕ) (known more : List Entry) (ring rest : List RingEntry)
    → Meets n (known ++ more) (ring ++ rest) → Meets n known ring
meets-front n known more ring rest m =
    let on = ends-on (items_of known) more in
    let asked = [] ++ asked_by (own n ring) in
    record {
      noted = on.more ++ m.noted;
      done = ended_by AController asked (own n rest) ++ m.done;
      is = sym (append_assoc (items_of known).ends on.more m.noted)
          ∙ ap (λ l. l ++ m.noted)
          (sym on.is ∙ ap (λ (a : Items). a.ends) (sym (items-join no_items known more)))
          ∙ m.is
          ∙ ap (λ l. l ++ m.done) (ap (ended_by AController []) (filter-append (is_of n) ring rest)
          ∙ ended-join AController [] (own n ring) (own n rest))
          ∙ append_assoc (ended_by AController [] (own n ring))
          (ended_by AController asked (own n rest)) m.done;
    }

-- two lists that go on from one front are the same where a longer list fixes them
same-next : {X : Type 0} (front other : List X) (a b : X) (xs ys one two : List X)
    → length front < length other
    → front ++ (a ∷ xs) ≡ other ++ one → front ++ (b ∷ ys) ≡ other ++ two → a ≡ b
same-next front [] a b xs ys one two less p q = absurd (omega (arith, less))
same-next [] (o ∷ other) a b xs ys one two less p q = cons-head p ∙ sym (cons-head q)
same-next (x ∷ front) (o ∷ other) a b xs ys one two less p q =
    same-next front other a b xs ys one two (omega (arith, less)) (cons-tail p) (cons-tail q)

-- the result of a call that its node's next entry ends is that entry's
pub finish-same : (n : ℕ) (known : List Entry) (ring : List RingEntry) (id : CallId)
    (one two : MstrResult) (e : RingEntry)
    → Behind n known ring → IsMine n e → closing e ≡ 1
    → Meets n (known ++ entries.Finish id one ∷ []) (ring ++ e ∷ [])
    → Meets n (known ++ entries.Finish id two ∷ []) (ring ++ e ∷ []) → one ≡ two
finish-same n known ring id one two e behind mine closes a b =
    let named = same-next (items_of known).ends (ended_by AController [] (own n (ring ++ e ∷ [])))
    (end one) (end two) a.noted b.noted a.done b.done
    fewer (told one a) (told two b) in
    let came : Came one ≡ Came two = ap (λ (x : Ended). x.outcome) named in
    cc
  where
    end : MstrResult → Ended
    end result = record { id = id; kind = kind_in (items_of known).calls id; outcome = Came result }

    told : (result : MstrResult)
        (m : Meets n (known ++ entries.Finish id result ∷ []) (ring ++ e ∷ []))
        → (items_of known).ends ++ (end result ∷ m.noted)
        ≡ ended_by AController [] (own n (ring ++ e ∷ [])) ++ m.done
    told result m =
        sym (append_assoc (items_of known).ends (end result ∷ []) m.noted)
        ∙ ap (λ (a : Items). a.ends ++ m.noted) (sym (items-push known (entries.Finish id result)))
        ∙ m.is

    fewer : length (items_of known).ends < length (ended_by AController [] (own n (ring ++ e ∷ [])))
    fewer =
        let few = ends-many known in
        let many = ended-many [] (own n (ring ++ e ∷ [])) in
        let join = own-join n ring (e ∷ []) in
        let last : closings (own n (e ∷ [])) ≡ 1 = ap closings (own-all n (e ∷ []) (mine, tt))
        ∙ (let c = closes in omega (arith, c)) in
        omega (arith, few, many, join, last, behind)

-- ---- what both final lists say of their fronts

pub record May (fixed : Fixed) (net : NetPlan) (n : ℕ) (known : List Entry)
    (ring : List RingEntry) : Type 0 where
  pub legal : IsLegal fixed known
  pub ring_legal : IsLegalRing net ring
  pub meets : Meets n known ring

-- the same of equal lists
pub may-as : (fixed : Fixed) (net : NetPlan) (n : ℕ) (known known' : List Entry)
    (ring ring' : List RingEntry) → known ≡ known' → ring ≡ ring'
    → May fixed net n known ring → May fixed net n known' ring'
may-as fixed net n known known' ring ring' p q m =
    subst (λ k. May fixed net n k ring') p (subst (λ r. May fixed net n known r) q m)

-- what both final lists say holds of their fronts
pub may-front : (fixed : Fixed) (net : NetPlan) (n : ℕ) (known more : List Entry)
    (ring rest : List RingEntry)
    → May fixed net n (known ++ more) (ring ++ rest) → May fixed net n known ring
may-front fixed net n known more ring rest m = record {
  legal = front_legal fixed known more m.legal;
  ring_legal = (legal-parts net ring rest m.ring_legal).0;
  meets = meets-front n known more ring rest m.meets;
}

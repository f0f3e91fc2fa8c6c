-- Where what a node's own list tells comes from: ends, replies, and the ring's list itself.
use Rattle.std.proofs.Common.{◌≡◌, ℕ, zero, suc, ◌==◌, Bool, true, false, cond, Option}
use Rattle.std.proofs.Common.{Some}
use Rattle.std.proofs.Common.{None, List, [], ◌∷◌, ◌++◌, map, refl, sym, ap, ◌∙◌, subst}
use Rattle.std.proofs.Common.{inl}
use Rattle.std.proofs.Common.{inr, ◌⊎◌, ⊎_elim, arith, append_assoc, append-nil}
use Rattle.std.specs.Prelude.{Contains, filter_map, if◌then◌else◌}
use Rattle.std.specs.List.{cons_option}
use Rattle.std.proofs.lemmas.Bool.{eqb-true}
use Rattle.mstr_block.specs.declared.call.CallId.{CallId}
use Rattle.mstr_block.specs.declared.call.MstrResult.{MstrResult}
use Rattle.ring_core.specs.declared.entry.LocalOp.{LocalOp}
use Rattle.ring_core.specs.declared.entry.RingEntry.{RingEntry}
use Rattle.ring_core.specs.declared.entry.RingEntry.TheVariants.{Post, Send, Take, Local, GiveUp}
use Rattle.ring_core.specs.declared.entry.RingEntry.TheVariants.{Pass, Leave, Join}
use Rattle.ring_core.specs.declared.frame.FrameKind.{FrameKind}
use Rattle.ring_core.specs.declared.frame.FrameKind.TheVariants.{Request, Reply}
use Rattle.ring_core.specs.declared.frame.Frame.{Frame}
use Rattle.ring_core.specs.Statistics.{is_for_stats}
use Rattle.ring_core.specs.Words.{maker}
use Rattle.tied_lists.specs.Own.{own}
use Rattle.tied_lists.specs.Items.{Answered, Asked, Ended, ForStats, Item, Plain, Station, Taken}
use Rattle.tied_lists.specs.Items.{LocalCall, NetCall, Came}
use Rattle.tied_lists.specs.Items.{asked_by, asked_of, due_replies, ended_by, ended_of, item_of}
use Rattle.tied_lists.specs.Items.{last_asked, outcome_of_reply, outcome_of_word, plain_items}
use Rattle.tied_lists.specs.Items.{RequestItem, replies_in, stats_items, taken_in, taken_of}
use Rattle.tied_lists.specs.Items.{due_reply, ended_in}

-- ---- members of lists

pub here : {X : Type 0} (x : X) (xs : List X) → Contains (x ∷ xs) x
here x xs = (0, omega arith, refl)

pub behind : {X : Type 0} (y : X) (xs : List X) (x : X) → Contains xs x → Contains (y ∷ xs) x
behind y xs x (k, low, is) = (suc k, omega (arith, low), is)

pub first-or-behind : {X : Type 0} (y : X) (xs : List X) (x : X) → Contains (y ∷ xs) x
    → (y ≡ x) ⊎ Contains xs x
first-or-behind y xs x (zero, low, is) = inl is
first-or-behind y xs x (suc k, low, is) = inr (k, omega (arith, low), is)

pub in-none : {X : Type 0} (x : X) → Contains {X = X} [] x → ⊥
in-none x (k, low, is) = omega (arith, low)

pub in-option : {X : Type 0} (o : Option X) (xs : List X) (x : X) → Contains (cons_option o xs) x
    → (o ≡ Some x) ⊎ Contains xs x
in-option None xs x there = inr there
in-option (Some y) xs x there =
    ⊎_elim (λ (is : y ≡ x). inl (ap Some is)) (λ (more : Contains xs x). inr more)
    (first-or-behind y xs x there)

option-here : {X : Type 0} (o : Option X) (xs : List X) (x : X) → o ≡ Some x
    → Contains (cons_option o xs) x
option-here o xs x is =
    subst (λ (p : Option _). Contains (cons_option p xs) x) (sym is) (here x xs)

option-behind : {X : Type 0} (o : Option X) (xs : List X) (x : X) → Contains xs x
    → Contains (cons_option o xs) x
option-behind None xs x there = there
option-behind (Some y) xs x there = behind y xs x there

pub in-map : {X Y : Type 0} (h : X → Option Y) (xs : List X) (x : X) (y : Y) → h x ≡ Some y
    → Contains xs x → Contains (filter_map h xs) y
in-map h [] x y is there = absurd (in-none x there)
in-map h (z ∷ xs) x y is there =
    ⊎_elim
    (λ (same : z ≡ x). option-here (h z) (filter_map h xs) y (ap h same ∙ is))
    (λ (more : Contains xs x). option-behind (h z) (filter_map h xs) y (in-map h xs x y is more))
    (first-or-behind z xs x there)

pub of-map : {X Y : Type 0} (h : X → Option Y) (xs : List X) (y : Y) → Contains (filter_map h xs) y
    → (x : X) × Contains xs x × (h x ≡ Some y)
of-map h [] y there = absurd (in-none y there)
of-map h (x ∷ xs) y there =
    ⊎_elim
    (λ (is : h x ≡ Some y). (x, here x xs, is))
    (λ (more : Contains (filter_map h xs) y). let found = of-map h xs y more in
    (found.0, behind x xs found.0 found.1, found.2))
    (in-option (h x) (filter_map h xs) y there)

-- what a map made
pub in-mapped : {X Y : Type 0} (g : X → Y) (xs : List X) (x : X) → Contains xs x
    → Contains (map g xs) (g x)
in-mapped g [] x there = absurd (in-none x there)
in-mapped g (y ∷ xs) x there =
    ⊎_elim
    (λ (same : y ≡ x). subst (λ z. Contains (z ∷ map g xs) (g x)) (ap g (sym same))
    (here (g x) (map g xs)))
    (λ (more : Contains xs x). behind (g y) (map g xs) (g x) (in-mapped g xs x more))
    (first-or-behind y xs x there)

pub of-mapped : {X Y : Type 0} (g : X → Y) (xs : List X) (y : Y) → Contains (map g xs) y
    → (x : X) × Contains xs x × (g x ≡ y)
of-mapped g [] y there = absurd (in-none y there)
of-mapped g (x ∷ xs) y there =
    ⊎_elim
    (λ (same : g x ≡ y). (x, here x xs, same))
    (λ (more : Contains (map g xs) y).
    let found = of-mapped g xs y more in (found.0, behind x xs found.0 found.1, found.2))
    (first-or-behind (g x) (map g xs) y there)

-- a node's own list
pub in-own : (n : ℕ) (es : List RingEntry) (e : RingEntry) → (maker e == n) ≡ true → Contains es e
    → Contains (own n es) e
in-own n [] e is there = absurd (in-none e there)
in-own n (x ∷ es) e is there =
    at (maker x == n) refl (first-or-behind x es e there) (in-own n es e is)
  where
    at : (b : Bool) → (maker x == n) ≡ b → (x ≡ e) ⊎ Contains es e
        → (Contains es e → Contains (own n es) e)
        → Contains (cond b (x ∷ own n es) (own n es)) e
    at true mine (inl same) rest =
        subst (λ (y : RingEntry). Contains (x ∷ own n es) y) same (here x (own n es))
    at false other (inl same) rest =
        absurd (let no' : true ≡ false = sym is
        ∙ (ap (λ (y : RingEntry). maker y == n) (sym same) ∙ other) in cc)
    at true mine (inr more) rest = behind x (own n es) e (rest more)
    at false other (inr more) rest = rest more

pub of-own : (n : ℕ) (es : List RingEntry) (e : RingEntry) → Contains (own n es) e
    → Contains es e × (maker e ≡ n)
of-own n [] e there = absurd (in-none e there)
of-own n (x ∷ es) e there = at (maker x == n) refl there (of-own n es e)
  where
    behind-both : Contains es e × (maker e ≡ n) → Contains (x ∷ es) e × (maker e ≡ n)
    behind-both found = (behind x es e found.0, found.1)

    at : (b : Bool) → (maker x == n) ≡ b → Contains (cond b (x ∷ own n es) (own n es)) e
        → (Contains (own n es) e → Contains es e × (maker e ≡ n))
        → Contains (x ∷ es) e × (maker e ≡ n)
    at true mine in' rest =
        ⊎_elim
        (λ (same : x ≡ e). (
          subst (λ (y : RingEntry). Contains (x ∷ es) y) same (here x es),
          subst
              (λ (y : RingEntry). maker y ≡ n) same (eqb-true (maker x) n mine),
        ))
        (λ (more : Contains (own n es) e). behind-both (rest more))
        (first-or-behind x (own n es) e in')
    at false other in' rest = behind-both (rest in')

-- a place in a node's own list is a place of the ring's
pub record Place (n : ℕ) (ring before : List RingEntry) (e : RingEntry) : Type 0 where
  pub front : List RingEntry
  pub rest : List RingEntry
  pub ring_is : ring ≡ front ++ e ∷ rest
  pub own_is : own n front ≡ before

pub placed : (n : ℕ) (ring before : List RingEntry) (e : RingEntry) (after : List RingEntry)
    → own n ring ≡ before ++ e ∷ after → Place n ring before e
placed n [] [] e after is = absurd cc
placed n [] (y ∷ before) e after is = absurd cc
placed n (x ∷ ring) before e after is =
    at (maker x == n) refl is (λ l more. placed n ring l e after more)
  where
    shift : (b : Bool) → (maker x == n) ≡ b → (old : List RingEntry)
        → cond b (x ∷ old) old ≡ before → Place n ring old e → Place n (x ∷ ring) before e
    shift b mine old same p = record {
      front = x ∷ p.front;
      rest = p.rest;
      ring_is = ap (λ (l : List RingEntry). x ∷ l) p.ring_is;
      own_is =
          ap (λ c. cond c (x ∷ own n p.front) (own n p.front)) mine
          ∙ (ap (λ (l : List RingEntry). cond b (x ∷ l) l) p.own_is ∙ same);
    }

    mine-first : (l : List RingEntry) → l ≡ before → (maker x == n) ≡ true
        → x ∷ own n ring ≡ l ++ e ∷ after
        → ((k : List RingEntry) → own n ring ≡ k ++ e ∷ after → Place n ring k e)
        → Place n (x ∷ ring) before e
    mine-first [] same mine is' rest =
        let first : x ≡ e = cc in
        record {
          front = [];
          rest = ring;
          ring_is = ap (λ (y : RingEntry). y ∷ ring) first;
          own_is = same;
        }
    mine-first (y ∷ l) same mine is' rest =
        let first : x ≡ y = cc in
        let more : own n ring ≡ l ++ e ∷ after = cc in
        shift true mine l (ap (λ (z : RingEntry). z ∷ l) first ∙ same) (rest l more)

    at : (b : Bool) → (maker x == n) ≡ b
        → cond b (x ∷ own n ring) (own n ring) ≡ before ++ e ∷ after
        → ((k : List RingEntry) → own n ring ≡ k ++ e ∷ after → Place n ring k e)
        → Place n (x ∷ ring) before e
    at true mine is' rest = mine-first before refl mine is' rest
    at false other is' rest = shift false other before refl (rest before is')

-- ---- ends

-- what ended a call: a Reply that was taken, the word with which it was given up, or what the port
-- did at home
pub data EndedBy (station : Station) (asked : List Asked) (x : RingEntry) (end' : Ended) : Type 0
  where
    by_reply : (n : ℕ) (f : Frame) → x ≡ Take n f → f.kind ≡ Reply → f.id ≡ end'.id
        → outcome_of_reply station (last_asked f.id asked) f.pdu ≡ end'.outcome
        → EndedBy station asked x end'
    by_word : (word : ℕ) → x ≡ GiveUp end'.id word → outcome_of_word station word ≡ end'.outcome
        → EndedBy station asked x end'
    by_port : (n : ℕ) (op : LocalOp) (result : MstrResult) → x ≡ Local n end'.id op result
        → (end'.id.node == n) ≡ true
        → Came result ≡ end'.outcome → EndedBy station asked x end'

by-take : (station : Station) (asked : List Asked) (n : ℕ) (f : Frame) (kind : FrameKind)
    → f.kind ≡ kind → (end' : Ended) → ended_in station asked kind f ≡ Some end'
    → EndedBy station asked (Take n f) end'
by-take station asked n f Request k end' is = absurd cc
by-take station asked n f Reply k end' is =
    let this : Ended = record {
      id = f.id;
      kind = Some NetCall;
      outcome = outcome_of_reply station (last_asked f.id asked) f.pdu;
    } in
    let same : this ≡ end' = cc in
    by_reply n f refl k
    (ap (λ (x : Ended). x.id) same) (ap (λ (x : Ended). x.outcome) same)

by-local : (station : Station) (asked : List Asked) (n : ℕ) (id : CallId) (op : LocalOp)
    (result : MstrResult) (end' : Ended)
    → ended_of station asked (Local n id op result) ≡ Some end'
    → EndedBy station asked (Local n id op result) end'
by-local station asked n id op result end' is = at (id.node == n) refl is
  where
    this : Ended
    this = record { id = id; kind = Some (LocalCall op); outcome = Came result }

    at : (b : Bool) → (id.node == n) ≡ b → (if b then Some this else None) ≡ Some end'
        → EndedBy station asked (Local n id op result) end'
    at true mine is' =
        let same : this ≡ end' = cc in
        by_port n op result (ap (λ (x : Ended). Local n x.id op result) same)
        (ap (λ (x : Ended). x.id.node == n) (sym same) ∙ mine)
        (ap (λ (x : Ended). x.outcome) same)
    at false other is' = absurd cc

pub ended-by : (station : Station) (asked : List Asked) (x : RingEntry) (end' : Ended)
    → ended_of station asked x ≡ Some end' → EndedBy station asked x end'
ended-by station asked (Post n f) end' is = absurd cc
ended-by station asked (Send n heard) end' is = absurd cc
ended-by station asked (Take n f) end' is = by-take station asked n f f.kind refl end' is
ended-by station asked (Local n id op result) end' is =
    by-local station asked n id op result end' is
ended-by station asked (GiveUp id word) end' is =
    let this : Ended = record {
      id = id;
      kind = Some NetCall;
      outcome = outcome_of_word station word;
    } in
    let same : this ≡ end' = cc in
    by_word word (ap (λ (x : Ended). GiveUp x.id word) same) (ap (λ (x : Ended). x.outcome) same)
ended-by station asked (Pass n done words) end' is = absurd cc
ended-by station asked (Leave n cause) end' is = absurd cc
ended-by station asked (Join n) end' is = absurd cc

-- where an end stands
pub record EndAt (station : Station) (asked : List Asked) (b : List RingEntry)
    (end' : Ended) : Type 0 where
  pub before : List RingEntry
  pub entry : RingEntry
  pub after : List RingEntry
  pub is : b ≡ before ++ entry ∷ after
  pub ended : ended_of station (asked ++ asked_by before) entry ≡ Some end'

asked-first : (asked : List Asked) (o : Option Asked) (more : List Asked)
    → (asked ++ cons_option o []) ++ more ≡ asked ++ cons_option o more
asked-first asked None more = ap (λ l. l ++ more) (append-nil asked)
asked-first asked (Some a) more = append_assoc asked (a ∷ []) more

pub end-at : (station : Station) (asked : List Asked) (b : List RingEntry) (end' : Ended)
    → Contains (ended_by station asked b) end' → EndAt station asked b end'
end-at station asked [] end' there = absurd (in-none end' there)
end-at station asked (x ∷ b) end' there =
    ⊎_elim
    (λ (is : ended_of station asked x ≡ Some end').
    record {
      before = [];
      entry = x;
      after = b;
      is = refl;
      ended = ap (λ l. ended_of station l x) (append-nil asked) ∙ is;
    })
    (λ (more : Contains (ended_by station (asked ++ cons_option (asked_of x) []) b) end').
    let found = end-at station (asked ++ cons_option (asked_of x) []) b end' more in
    record {
      before = x ∷ found.before;
      entry = found.entry;
      after = found.after;
      is = ap (λ l. x ∷ l) found.is;
      ended =
          ap (λ l. ended_of station l found.entry)
          (sym (asked-first asked (asked_of x) (asked_by found.before))) ∙ found.ended;
    })
    (in-option (ended_of station asked x) _ end' there)

-- ---- replies

abbrev pub name_of : Taken → CallId
name_of (Plain id rest pdu) = id
name_of (ForStats id pdu) = id

abbrev pub pdu_of : Taken → List ℕ
pdu_of (Plain id rest pdu) = pdu
pdu_of (ForStats id pdu) = pdu

-- a Reply that is due is the answer to a Request that was taken
pub record Source (ts : List Taken) (peers port : List Answered) (id : CallId)
    (pdu : List ℕ) : Type 0 where
  pub request : Taken
  pub taken : Contains ts request
  pub answer : Answered
  pub among : Contains peers answer ⊎ Contains port answer
  pub reply : answer.reply ≡ Some pdu
  pub name : name_of request ≡ id
  pub named : answer.id ≡ id
  pub asked : answer.request ≡ Some (pdu_of request)

abbrev pub sources : List Taken → CallId → List ℕ → Type 0
sources ts id pdu =
    (peers port : List Answered) → map item_of peers ≡ plain_items ts
    → map item_of port ≡ stats_items ts
    → Contains (due_replies ts (replies_in peers) (replies_in port)) (id, Some pdu)
    → Source ts peers port id pdu

-- what is due to a Request, with its answer
due-is : (name : CallId) (reply : Option (List ℕ)) (id : CallId) (pdu : List ℕ)
    → due_reply name (Some reply) ≡ Some (id, Some pdu) → (name ≡ id) × (reply ≡ Some pdu)
due-is name None id pdu is = absurd cc
due-is name (Some reply) id pdu is =
    let same : (name, Some reply) ≡ (id, Some pdu) = some-item _ _ is in
    (ap (λ (i : Item). i.0) same, ap (λ (i : Item). i.1) same)
  where
    some-item : (x y : Item) → Some x ≡ Some y → x ≡ y
    some-item x y e = cc

plain-source : (name : CallId) (rest request : List ℕ) (ts : List Taken) (id : CallId)
    (pdu : List ℕ) → sources ts id pdu → sources (Plain name rest request ∷ ts) id pdu
plain-source name rest request ts id pdu later [] port plain stats there = absurd cc
plain-source name rest request ts id pdu later (a ∷ peers) port plain stats there =
    let this : RequestItem = record { id = name; rest = rest; request = Some request } in
    let first : item_of a ≡ this = cc in
    let more : map item_of peers ≡ plain_items ts = cc in
    ⊎_elim
    (λ (is : due_reply name (Some a.reply) ≡ Some (id, Some pdu)).
    let due = due-is name a.reply id pdu is in
    record {
      request = Plain name rest request;
      taken = here (Plain name rest request) ts;
      answer = a;
      among = inl (here a peers);
      reply = due.1;
      name = due.0;
      named = ap (λ (i : RequestItem). i.id) first ∙ due.0;
      asked = ap (λ (i : RequestItem). i.request) first;
    })
    (λ (due : Contains (due_replies ts (replies_in peers) (replies_in port)) (id, Some pdu)).
    let s = later peers port more stats due in
    record {
      request = s.request;
      taken = behind (Plain name rest request) ts s.request s.taken;
      answer = s.answer;
      among =
          ⊎_elim (λ (p : Contains peers s.answer). inl (behind a peers s.answer p))
          (λ (p : Contains port s.answer). inr p) s.among;
      reply = s.reply;
      name = s.name;
      named = s.named;
      asked = s.asked;
    })
    (in-option (due_reply name (Some a.reply))
    (due_replies ts (replies_in peers) (replies_in port)) (id, Some pdu) there)

stats-source : (name : CallId) (request : List ℕ) (ts : List Taken) (id : CallId) (pdu : List ℕ)
    → sources ts id pdu
    → sources (ForStats name request ∷ ts) id pdu
stats-source name request ts id pdu rest peers [] plain stats there = absurd cc
stats-source name request ts id pdu rest peers (a ∷ port) plain stats there =
    let this : RequestItem = record { id = name; rest = []; request = Some request } in
    let first : item_of a ≡ this = cc in
    let more : map item_of port ≡ stats_items ts = cc in
    ⊎_elim
    (λ (is : due_reply name (Some a.reply) ≡ Some (id, Some pdu)).
    let due = due-is name a.reply id pdu is in
    record {
      request = ForStats name request;
      taken = here (ForStats name request) ts;
      answer = a;
      among = inr (here a port);
      reply = due.1;
      name = due.0;
      named = ap (λ (i : RequestItem). i.id) first ∙ due.0;
      asked = ap (λ (i : RequestItem). i.request) first;
    })
    (λ (later : Contains (due_replies ts (replies_in peers) (replies_in port)) (id, Some pdu)).
    let s = rest peers port plain more later in
    record {
      request = s.request;
      taken = behind (ForStats name request) ts s.request s.taken;
      answer = s.answer;
      among =
          ⊎_elim (λ (p : Contains peers s.answer). inl p)
          (λ (p : Contains port s.answer). inr (behind a port s.answer p)) s.among;
      reply = s.reply;
      name = s.name;
      named = s.named;
      asked = s.asked;
    })
    (in-option (due_reply name (Some a.reply))
    (due_replies ts (replies_in peers) (replies_in port)) (id, Some pdu) there)

no-source : (id : CallId) (pdu : List ℕ) → sources [] id pdu
no-source id pdu peers port plain stats there = absurd (in-none (id, Some pdu) there)

pub source-of : (ts : List Taken) (id : CallId) (pdu : List ℕ) → sources ts id pdu
source-of [] id pdu = no-source id pdu
source-of (Plain name rest request ∷ ts) id pdu =
    plain-source name rest request ts id pdu (source-of ts id pdu)
source-of (ForStats name request ∷ ts) id pdu =
    stats-source name request ts id pdu (source-of ts id pdu)

-- a Request that was taken stands in the list
pub record TakeOf (x : RingEntry) (t : Taken) : Type 0 where
  pub node : ℕ
  pub frame : Frame
  pub is : x ≡ Take node frame
  pub kind : frame.kind ≡ Request
  pub id : frame.id ≡ name_of t
  pub pdu : frame.pdu ≡ pdu_of t

take-kind : (n : ℕ) (f : Frame) (kind : FrameKind) → f.kind ≡ kind → (t : Taken)
    → taken_in kind f ≡ Some t → TakeOf (Take n f) t
take-kind n f Reply k t is = absurd cc
take-kind n f Request k t is = at (is_for_stats f) is
  where
    this : (u : Taken) → u ≡ t → f.id ≡ name_of u → f.pdu ≡ pdu_of u → TakeOf (Take n f) t
    this u same name bytes = record {
      node = n;
      frame = f;
      is = refl;
      kind = k;
      id = name ∙ ap name_of same;
      pdu = bytes ∙ ap pdu_of same;
    }

    at : (b : Bool)
        → Some (if b then ForStats f.id f.pdu else Plain f.id f.rest f.pdu) ≡ Some t
        → TakeOf (Take n f) t
    at true is' =
        let same : ForStats f.id f.pdu ≡ t = cc in this (ForStats f.id f.pdu) same refl refl
    at false is' =
        let same : Plain f.id f.rest f.pdu ≡ t = cc in
        this (Plain f.id f.rest f.pdu) same refl refl

pub take-of : (x : RingEntry) (t : Taken) → taken_of x ≡ Some t → TakeOf x t
take-of (Post n f) t is = absurd cc
take-of (Send n heard) t is = absurd cc
take-of (Take n f) t is = take-kind n f f.kind refl t is
take-of (Local n id op result) t is = absurd cc
take-of (GiveUp id word) t is = absurd cc
take-of (Pass n done words) t is = absurd cc
take-of (Leave n cause) t is = absurd cc
take-of (Join n) t is = absurd cc

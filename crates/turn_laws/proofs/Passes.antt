-- A node's own list that goes on.
use Rattle.std.proofs.Common.{Bool, ◌≡◌, ◌≢◌, ◌⊎◌, ℕ, zero, suc, true, false, cond}
use Rattle.std.proofs.Common.{List, [], ◌∷◌, ◌++◌, length, map, ◌≤◌, Option, Some, None, inl, inr}
use Rattle.std.proofs.Common.{refl, sym, ap, subst, ◌∙◌, arith, append_assoc, append-nil}
use Rattle.std.specs.List.{All, cons_option, AllByRecursion as Each}
use Rattle.std.proofs.lemmas.Bool.{eq-eqb}
use Rattle.std.proofs.lemmas.List.{length-map, map-append}
use Rattle.std.proofs.lemmas.List.Elements.{filter_map-append}
use Rattle.mstr_block.specs.declared.call.CallId.{CallId}
use Rattle.mstr_block.specs.declared.call.MstrResult.{MstrResult}
use Rattle.ring_core.specs.declared.frame.FrameKind.{FrameKind}
use Rattle.ring_core.specs.declared.frame.FrameKind.TheVariants.{Request, Reply}
use Rattle.ring_core.specs.declared.frame.Frame.{Frame}
use Rattle.ring_core.specs.declared.entry.LocalOp.{LocalOp}
use Rattle.ring_core.specs.declared.entry.RingEntry.{RingEntry}
use Rattle.ring_core.specs.declared.entry.RingEntry.TheVariants.{Post, Send, Take, Local, GiveUp}
use Rattle.ring_core.specs.declared.entry.RingEntry.TheVariants.{Pass, Leave, Join}
use Rattle.tied_lists.specs.Items.{Asked, Station, Taken, asked_of, asked_in, asked_by}
use Rattle.tied_lists.specs.Items.{ended_of, ended_by, ended_at_home, replied_by, replied_of}
use Rattle.tied_lists.specs.Items.{taken_by, taken_of, due_replies, due_reply, Plain, ForStats}
use Rattle.tied_lists.specs.Items.{LocalCall, Came, Answered, Items, answered_of, item_of}
use Rattle.tied_lists.specs.Items.{plain_items, stats_items, port_answers, replies_in}
use Rattle.tied_lists.specs.Tied.{Tied}
use Rattle.joint_history.specs.Complete.{RepliesBeforePasses, StandsIn}
use Rattle.joint_history.specs.Complete.{StaysDone, IsOfDone, is_pass}
use Rattle.turn_laws.specs.KeepsOn.{SaidDone}

-- ---- lists

pub cons-head : {X : Type 0} {x y : X} {xs ys : List X} → x ∷ xs ≡ y ∷ ys → x ≡ y
cons-head is = cc

pub cons-tail : {X : Type 0} {x y : X} {xs ys : List X} → x ∷ xs ≡ y ∷ ys → xs ≡ ys
cons-tail is = cc

pub nil-cons : {X C : Type 0} {x : X} {xs : List X} → [] ≡ x ∷ xs → C
nil-cons is = absurd cc

-- what stands in a list with one entry more: the last one, or one of the others
pub data Stands {X : Type 0} (b : List X) (e : X) (before : List X) (x : X)
    (after : List X) : Type 0 where
  last : before ≡ b → x ≡ e → after ≡ [] → Stands b e before x after
  earlier : (rest : List X) → b ≡ before ++ x ∷ rest → after ≡ rest ++ e ∷ []
      → Stands b e before x after

pub stands-in : {X : Type 0} (b : List X) (e : X) (before : List X) (x : X) (after : List X)
    → b ++ e ∷ [] ≡ before ++ x ∷ after
    → Stands b e before x after
stands-in [] e [] x after is = last refl (sym (cons-head is)) (sym (cons-tail is))
stands-in [] e (y ∷ []) x after is = nil-cons (cons-tail is)
stands-in [] e (y ∷ z ∷ before) x after is = nil-cons (cons-tail is)
stands-in (c ∷ b) e [] x after is = earlier b (ap (λ y. y ∷ b) (cons-head is)) (sym (cons-tail is))
stands-in (c ∷ b) e (y ∷ before) x after is = more (stands-in b e before x after (cons-tail is))
  where
    more : Stands b e before x after → Stands (c ∷ b) e (y ∷ before) x after
    more (last p q r) = last (λ i. sym (cons-head is) i ∷ p i) q r
    more (earlier rest p q) = earlier rest (λ i. cons-head is i ∷ p i) q

-- what is left of two equal lists with a common front
pub cancel : {X : Type 0} (front one other : List X) → front ++ one ≡ front ++ other → one ≡ other
cancel [] one other is = is
cancel (x ∷ front) one other is = cancel front one other (cons-tail is)

pub cancel-none : {X : Type 0} (front more : List X) → front ≡ front ++ more → more ≡ []
cancel-none front more is = cancel front more [] (sym is ∙ sym (append-nil front))

pub each-join : {X : Type 0} (P : X → Type 0) (xs ys : List X) → Each P xs → Each P ys
    → Each P (xs ++ ys)
each-join P [] ys a b = b
each-join P (x ∷ xs) ys a b = (a.0, each-join P xs ys a.1 b)

pub each-map : {X : Type 0} (P Q : X → Type 0) (xs : List X) → ((x : X) → P x → Q x)
    → Each P xs → Each Q xs
each-map P Q [] f e = tt
each-map P Q (x ∷ xs) f e = (f x e.0, each-map P Q xs f e.1)

pub all-push : {X : Type 0} (P : X → Type 0) (xs : List X) (x : X) → All P xs → P x
    → All P (xs ++ x ∷ [])
all-push P [] x all p zero d within = p
all-push P [] x all p (suc k) d within = absurd (omega (arith, within))
all-push P (y ∷ xs) x all p zero d within = all 0 d (omega arith)
all-push P (y ∷ xs) x all p (suc k) d within =
    all-push P xs x (λ j e less. all (suc j) e (omega (arith, less))) p k d (omega (arith, within))

-- ---- Passes

abbrev pub IsNoPass : RingEntry → Type 0
IsNoPass e = is_pass e ≡ false

-- an entry inside a turn: neither a Pass nor a Leave nor a Join
abbrev pub is_last : RingEntry → Bool
is_last (Pass n done words) = true
is_last (Leave n cause) = true
is_last (Join n) = true
is_last _ = false

abbrev pub IsInner : RingEntry → Type 0
IsInner e = is_last e ≡ false

inner-one : (e : RingEntry) → IsInner e → IsNoPass e
inner-one (Post n f) inner = refl
inner-one (Send n heard) inner = refl
inner-one (Take n f) inner = refl
inner-one (Local n id op result) inner = refl
inner-one (GiveUp id word) inner = refl
inner-one (Pass n done words) inner = inner
inner-one (Leave n cause) inner = refl
inner-one (Join n) inner = refl

pub no-pass : (c : List RingEntry) → Each IsInner c → Each IsNoPass c
no-pass c inner = each-map IsInner IsNoPass c inner-one inner

-- what is posted before each Pass, by these replies of the station and of the port
abbrev pub RepliesIn : List (Option (List ℕ)) → List (Option (List ℕ)) → List RingEntry → Type 0
RepliesIn peers locals b = (before after : List RingEntry) (n : ℕ) (done : Bool) (words : List ℕ)
    → StandsIn b before (Pass n done words) after
    → length (replied_by before) ≡ length (due_replies (taken_by before) peers locals)

pub replies-push : (peers locals : List (Option (List ℕ))) (b : List RingEntry) (e : RingEntry)
    → RepliesIn peers locals b
    → (is_pass e ≡ true
    → length (replied_by b) ≡ length (due_replies (taken_by b) peers locals))
    → RepliesIn peers locals (b ++ e ∷ [])
replies-push peers locals b e old new before after n done words is =
    at (stands-in b e before (Pass n done words) after is)
  where
    at : Stands b e before (Pass n done words) after
        → length (replied_by before) ≡ length (due_replies (taken_by before) peers locals)
    at (last p q r) =
        subst (λ (l : List RingEntry).
        length (replied_by l) ≡ length (due_replies (taken_by l) peers locals)) (sym p)
        (new (ap is_pass (sym q)))
    at (earlier rest p q) = old before rest n done words p

pub stays-push : (b : List RingEntry) (e : RingEntry) → StaysDone b → (SaidDone b → IsOfDone e)
    → StaysDone (b ++ e ∷ [])
stays-push b e old new before after n words is =
    at (stands-in b e before (Pass n true words) after is)
  where
    at : Stands b e before (Pass n true words) after → All IsOfDone after
    at (last p q r) = subst (All IsOfDone) (sym r) (λ k d within. absurd (omega (arith, within)))
    at (earlier rest p q) =
        subst (All IsOfDone) (sym q) (all-push IsOfDone rest e (old before rest n words p)
        (new (record { before = before; after = rest; node = n; words = words; stands = p })))

-- what was said before, or is said now
pub said-push : (b : List RingEntry) (e : RingEntry) → SaidDone (b ++ e ∷ [])
    → SaidDone b ⊎ ((n : ℕ) × (words : List ℕ) × (e ≡ Pass n true words))
said-push b e s = at (stands-in b e s.before (Pass s.node true s.words) s.after s.stands)
  where
    at : Stands b e s.before (Pass s.node true s.words) s.after
        → SaidDone b ⊎ ((n : ℕ) × (words : List ℕ) × (e ≡ Pass n true words))
    at (last p q r) = inr (s.node, s.words, sym q)
    at (earlier rest p q) =
        inl (record { before = s.before; after = rest; node = s.node; words = s.words; stands = p })

pub none-said : SaidDone [] → ⊥
none-said s = at s.before s.stands
  where
    at : (before : List RingEntry) → [] ≡ before ++ Pass s.node true s.words ∷ s.after → ⊥
    at [] is = nil-cons is
    at (x ∷ xs) is = nil-cons is

said-quiet : (b : List RingEntry) (e : RingEntry) → IsNoPass e → SaidDone (b ++ e ∷ []) → SaidDone b
said-quiet b e quiet_e s = elim (said-push b e s) [
  | inl before ↦ before
  | inr now ↦ absurd (let is : is_pass e ≡ true = ap is_pass now.2 in let both : true ≡ false =
      sym is ∙ quiet_e in cc)
]

-- entries without a Pass
shift : {X : Type 0} (P : List X → Type 0) (b : List X) (e : X) (c : List X)
    → P ((b ++ e ∷ []) ++ c) → P (b ++ e ∷ c)
shift P b e c = subst P (append_assoc b (e ∷ []) c)

back : {X : Type 0} (P : List X → Type 0) (b : List X) (e : X) (c : List X) → P (b ++ e ∷ c)
    → P ((b ++ e ∷ []) ++ c)
back P b e c = subst P (sym (append_assoc b (e ∷ []) c))

pub said-more : (b c : List RingEntry) → Each IsNoPass c → SaidDone (b ++ c) → SaidDone b
said-more b [] quiet_e s = subst SaidDone (append-nil b) s
said-more b (e ∷ c) quiet_e s =
    said-quiet b e quiet_e.0 (said-more (b ++ e ∷ []) c quiet_e.1 (back SaidDone b e c s))

pub replies-more : (peers locals : List (Option (List ℕ))) (b c : List RingEntry)
    → Each IsNoPass c → RepliesIn peers locals b → RepliesIn peers locals (b ++ c)
replies-more peers locals b [] quiet_e old =
    subst (RepliesIn peers locals) (sym (append-nil b)) old
replies-more peers locals b (e ∷ c) quiet_e old =
    shift (RepliesIn peers locals) b e c (replies-more peers locals (b ++ e ∷ []) c quiet_e.1
    (replies-push peers locals b e old
    (λ is. absurd (let both : true ≡ false = sym is ∙ quiet_e.0 in cc))))

pub stays-more : (b c : List RingEntry) → Each IsNoPass c → (SaidDone b → Each IsOfDone c)
    → StaysDone b → StaysDone (b ++ c)
stays-more b [] quiet_e of old = subst StaysDone (sym (append-nil b)) old
stays-more b (e ∷ c) quiet_e of old =
    shift StaysDone b e c
    (stays-more (b ++ e ∷ []) c quiet_e.1 (λ s. (of (said-quiet b e quiet_e.0 s)).1)
    (stays-push b e old (λ s. (of s).0)))

-- ---- an entry that asks nothing and ends nothing

no-some : {X C : Type 0} {x : X} → Some x ≡ None → C
no-some is = absurd cc

post-replies : (f : Frame) (kind : FrameKind) → asked_in kind f ≡ None → kind ≡ Reply
post-replies f Request is = no-some is
post-replies f Reply is = refl

home-other : (n : ℕ) (id : CallId) (op : LocalOp) (result : MstrResult)
    → ended_at_home n id op result ≡ None → id.node ≢ n
home-other n id op result none same =
    no-some (sym (ap (λ b.
    cond b (Some (record { id = id; kind = Some (LocalCall op); outcome = Came result })) None)
    (eq-eqb id.node n same)) ∙ none)

pub of-done : (station : Station) (asked : List Asked) (e : RingEntry) → IsNoPass e
    → asked_of e ≡ None → ended_of station asked e ≡ None → IsOfDone e
of-done station asked (Post n f) quiet_e asks ends = post-replies f f.kind asks
of-done station asked (Send n heard) quiet_e asks ends = tt
of-done station asked (Take n f) quiet_e asks ends = tt
of-done station asked (Local n id op result) quiet_e asks ends = home-other n id op result ends
of-done station asked (GiveUp id word) quiet_e asks ends = no-some ends
of-done station asked (Pass n done words) quiet_e asks ends =
    absurd (let both : true ≡ false = quiet_e in cc)
of-done station asked (Leave n cause) quiet_e asks ends = tt
of-done station asked (Join n) quiet_e asks ends = tt

no-option : {X : Type 0} (o : Option X) (xs : List X) → cons_option o xs ≡ []
    → (o ≡ None) × (xs ≡ [])
no-option None xs is = (refl, is)
no-option (Some x) xs is = nil-cons (sym is)

pub each-of-done : (station : Station) (asked : List Asked) (c : List RingEntry) → Each IsNoPass c
    → asked_by c ≡ []
    → ended_by station asked c ≡ [] → Each IsOfDone c
each-of-done station asked [] quiet_e asks ends = tt
each-of-done station asked (e ∷ c) quiet_e asks ends =
    let a = no-option (asked_of e) (asked_by c) asks in
    let d = no-option (ended_of station asked e)
    (ended_by station (asked ++ cons_option (asked_of e) []) c) ends in (
      of-done station asked e quiet_e.0 a.0 d.0,
      each-of-done station (asked ++ cons_option (asked_of e) []) c quiet_e.1 a.1 d.1,
    )

-- what is asked and what ends in joined lists
pub asked-join : (b c : List RingEntry) → asked_by (b ++ c) ≡ asked_by b ++ asked_by c
asked-join b c = filter_map-append asked_of b c

pub ended-join : (station : Station) (asked : List Asked) (b c : List RingEntry)
    → ended_by station asked (b ++ c) ≡ ended_by station
    asked b ++ ended_by station (asked ++ asked_by b) c
ended-join station asked [] c = ap (λ l. ended_by station l c) (sym (append-nil asked))
ended-join station asked (x ∷ b) c =
    let more = asked ++ cons_option (asked_of x) [] in
    let joins : more ++ asked_by b ≡ asked ++ asked_by (x ∷ b) =
    append_assoc asked (cons_option (asked_of x) []) (asked_by b)
    ∙ ap (λ l. asked ++ l) (cons-join (asked_of x) (asked_by b)) in
    ap (λ l. cons_option (ended_of station asked x) l)
    (ended-join station more b c ∙ ap (λ l. ended_by station more b ++ ended_by station l c) joins)
    ∙ cons-append (ended_of station asked x) (ended_by station more b)
    (ended_by station (asked ++ asked_by (x ∷ b)) c)
  where
    cons-join : {X : Type 0} (o : Option X) (xs : List X)
        → cons_option o [] ++ xs ≡ cons_option o xs
    cons-join None xs = refl
    cons-join (Some x) xs = refl

    cons-append : {X : Type 0} (o : Option X) (xs ys : List X)
        → cons_option o (xs ++ ys) ≡ cons_option o xs ++ ys
    cons-append None xs ys = refl
    cons-append (Some x) xs ys = refl

-- ---- Replies that are due

-- answers that come later make nothing else due for what was taken before
due-later : (ts : List Taken) (peers more locals later : List (Option (List ℕ)))
    → length (plain_items ts) ≤ length peers → length (stats_items ts) ≤ length locals
    → due_replies ts (peers ++ more) (locals ++ later) ≡ due_replies ts peers locals
due-later [] peers more locals later few small = refl
due-later (Plain id rest pdu ∷ ts) [] more locals later few small = absurd (omega (arith, few))
due-later (Plain id rest pdu ∷ ts) (p ∷ peers) more locals later few small =
    ap (cons_option (due_reply id (Some p)))
    (due-later ts peers more locals later (omega (arith, few)) small)
due-later (ForStats id pdu ∷ ts) peers more [] later few small = absurd (omega (arith, small))
due-later (ForStats id pdu ∷ ts) peers more (p ∷ locals) later few small =
    ap (cons_option (due_reply id (Some p)))
    (due-later ts peers more locals later few (omega (arith, small)))

plain-front : (ts us : List Taken)
    → length (plain_items ts) ≤ length (plain_items (ts ++ us))
plain-front [] us = omega arith
plain-front (Plain id rest pdu ∷ ts) us = let more = plain-front ts us in omega (arith, more)
plain-front (ForStats id pdu ∷ ts) us = plain-front ts us

stats-front : (ts us : List Taken)
    → length (stats_items ts) ≤ length (stats_items (ts ++ us))
stats-front [] us = omega arith
stats-front (Plain id rest pdu ∷ ts) us = stats-front ts us
stats-front (ForStats id pdu ∷ ts) us = let rest = stats-front ts us in omega (arith, rest)

replies-later : (peers more locals later : List (Option (List ℕ))) (b : List RingEntry)
    → length (plain_items (taken_by b)) ≤ length peers
    → length (stats_items (taken_by b)) ≤ length locals
    → RepliesIn peers locals b → RepliesIn (peers ++ more) (locals ++ later) b
replies-later peers more locals later b few small old before after n done words is =
    let e = Pass n done words in
    let joined : taken_by b ≡ taken_by before ++ taken_by (e ∷ after) =
    ap taken_by is ∙ filter_map-append taken_of before (e ∷ after) in
    let plain : length (plain_items (taken_by before)) ≤ length (plain_items (taken_by b)) =
    subst (λ (l : List Taken). length (plain_items (taken_by before)) ≤ length (plain_items l))
    (sym joined) (plain-front (taken_by before) (taken_by (e ∷ after))) in
    let stats : length (stats_items (taken_by before)) ≤ length (stats_items (taken_by b)) =
    subst (λ (l : List Taken). length (stats_items (taken_by before)) ≤ length (stats_items l))
    (sym joined) (stats-front (taken_by before) (taken_by (e ∷ after))) in
    old before after n done words is
    ∙ ap length (sym (due-later (taken_by before) peers more locals later
    (omega (arith, few, plain)) (omega (arith, small, stats))))

-- in tied lists each Request that was taken has its answer
plain-few : (station : Station) (a : Items) (b : List RingEntry) → Tied station a b
    → length (plain_items (taken_by b)) ≤ length (replies_in a.answers)
plain-few station a b t =
    let one = ap length t.peers in
    let two : length (map item_of a.answers) ≡ length a.answers = length-map a.answers item_of in
    let three : length (replies_in a.answers) ≡ length a.answers =
    length-map a.answers (λ (x : Answered). x.reply) in
    omega (arith, one, two, three)

stats-few : (station : Station) (a : Items) (b : List RingEntry) → Tied station a b
    → length (stats_items (taken_by b)) ≤ length (replies_in (port_answers b))
stats-few station a b t =
    let one = ap length t.port in
    let two : length (map item_of (port_answers b)) ≡ length (port_answers b) =
    length-map (port_answers b) item_of in
    let three : length (replies_in (port_answers b)) ≡ length (port_answers b) =
    length-map (port_answers b) (λ (x : Answered). x.reply) in
    omega (arith, one, two, three)

-- the answers of a list that went on
pub record AnswersMore (a a' : Items) : Type 0 where
  pub more : List Answered
  pub is : a'.answers ≡ a.answers ++ more

-- so the Replies before each Pass are still those that are due
pub replies-quiet : (station : Station) (a a' : Items) (b c : List RingEntry) → Tied station a b
    → AnswersMore a a' → Each IsNoPass c → RepliesBeforePasses a b
    → RepliesBeforePasses a' (b ++ c)
replies-quiet station a a' b c t m quiet old =
    let peers : replies_in a.answers ++ replies_in m.more ≡ replies_in a'.answers =
    sym (ap replies_in m.is ∙ map-append (λ (x : Answered). x.reply) a.answers m.more) in
    let locals : replies_in (port_answers b) ++ replies_in (port_answers c)
    ≡ replies_in (port_answers (b ++ c)) =
    sym (ap replies_in (filter_map-append answered_of b c)
    ∙ map-append (λ (x : Answered). x.reply) (port_answers b) (port_answers c)) in
    subst (λ (l : List (Option (List ℕ))). RepliesIn l (replies_in (port_answers (b ++ c)))
    (b ++ c))
    peers
    (subst (λ (l : List (Option (List ℕ))).
    RepliesIn (replies_in a.answers ++ replies_in m.more) l (b ++ c)) locals
    (replies-more _ _ b c quiet
    (replies-later (replies_in a.answers) (replies_in m.more) (replies_in (port_answers b))
    (replies_in (port_answers c)) b (plain-few station a b t) (stats-few station a b t) old)))

-- and so they are before one more Pass
pub replies-pass : (station : Station) (a : Items) (b : List RingEntry) (n : ℕ) (done : Bool)
    (words : List ℕ) → Tied station a (b ++ Pass n done words ∷ []) → RepliesBeforePasses a b
    → RepliesBeforePasses a (b ++ Pass n done words ∷ [])
replies-pass station a b n done words t old =
    let e = Pass n done words in
    let peers = replies_in a.answers in
    let locals = replies_in (port_answers (b ++ e ∷ [])) in
    let same : port_answers (b ++ e ∷ []) ≡ port_answers b =
    filter_map-append answered_of b (e ∷ []) ∙ append-nil (port_answers b) in
    let replied : replied_by (b ++ e ∷ []) ≡ replied_by b =
    filter_map-append replied_of b (e ∷ []) ∙ append-nil (replied_by b) in
    let taken : taken_by (b ++ e ∷ []) ≡ taken_by b =
    filter_map-append taken_of b (e ∷ []) ∙ append-nil (taken_by b) in
    replies-push peers locals b e
    (subst (λ (l : List Answered). RepliesIn peers (replies_in l) b) (sym same) old)
    (λ is. ap length (sym replied ∙ t.replies)
    ∙ ap (λ (l : List Taken). length (due_replies l peers locals)) taken)

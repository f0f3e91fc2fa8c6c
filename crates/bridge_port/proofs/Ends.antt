-- The laws of a bridge's end and its node, as both lists go on.
use Rattle.std.proofs.Common.{◌≡◌, ℕ, ◌==◌, ◌||◌, Bool, true, false, cond, List, [], ◌∷◌, ◌++◌, map}
use Rattle.std.proofs.Common.{filter, filter_map, not, Option, Some, None, refl, sym, ap, ◌∙◌}
use Rattle.std.proofs.Common.{append-nil, ne_eqb}
use Rattle.std.specs.List.{AllByRecursion as Each, cons_option}
use Rattle.std.proofs.lemmas.Bool.{cond-true, cond-false}
use Rattle.std.proofs.lemmas.List.{map-append}
use Rattle.std.proofs.lemmas.List.Elements.{filter-append, filter_map-append}
use Rattle.std.proofs.lemmas.List.Folds.{list_any-append}
use Rattle.mstr_block.specs.declared.call.CallId.{CallId}
use Rattle.mstr_block.specs.declared.call.MstrResult.{MstrResult}
use Rattle.ring_core.specs.Statistics.{is_for_stats}
use Rattle.ring_core.specs.Words.{frame_route, is_same_call}
use Rattle.ring_core.specs.declared.frame.FrameKind.TheVariants.{Request, Reply}
use Rattle.ring_core.specs.declared.frame.Frame.{Frame}
use Rattle.ring_core.specs.declared.entry.LocalOp.{LocalOp}
use Rattle.ring_core.specs.declared.entry.RingEntry.{RingEntry}
use Rattle.ring_core.specs.declared.entry.RingEntry.TheVariants.{Post, Take, Local, GiveUp}
use Rattle.tied_lists.specs.Items.{ABridge, Answered, Asked, Called, Item, Items, Kind, NetCall}
use Rattle.tied_lists.specs.Items.{LocalCall, Came, Replied, Lacked, RequestItem, ForStats}
use Rattle.tied_lists.specs.Items.{Plain, answered_of, asked_by, asked_in, asked_of, down_of}
use Rattle.tied_lists.specs.Items.{downs_by, ended_at_home, ended_by, ended_in, ended_of, item_of}
use Rattle.tied_lists.specs.Items.{kind_in, net_ask, plain_items, port_answers, replied_by}
use Rattle.tied_lists.specs.Items.{replied_in, replied_of, reply_of, request_of, stats_items}
use Rattle.tied_lists.specs.Items.{taken_by, taken_in, taken_of, with_answer, with_calls, with_end}
use Rattle.tied_lists.specs.Tied.{RepliesAreBacks, TiedEnd, is_port_reply}
use Rattle.tied_lists.proofs.Asked.{same-refl}
use Rattle.tied_lists.proofs.Steps.{ends-append, plain-append, stats-append}

both : {X : Type 0} (a b c d : List X) → a ≡ c → b ≡ d → a ++ b ≡ c ++ d
both a b c d p q = λ i. p i ++ q i

-- what is added keeps the laws by itself, but for that of the Replies
pub record EndAdds (a a' : Items) (b c : List RingEntry) (calls : List Called)
    (answers : List Answered) : Type 0 where
  pub asks : asked_by c ≡ filter_map net_ask calls
  pub calls_are : a'.calls ≡ a.calls ++ calls
  pub answers_are : a'.answers ≡ a.answers ++ answers
  pub peers : map item_of answers ≡ plain_items (taken_by c)
  pub port : map item_of (port_answers c) ≡ stats_items (taken_by c)
  pub ends : a'.ends ≡ a.ends ++ ended_by ABridge (asked_by b) c
  pub downs : downs_by c ≡ []

pub end-adds : (a a' : Items) (backs backs' : List Item) (b c : List RingEntry)
    (calls : List Called) (answers : List Answered) → TiedEnd a backs b
    → EndAdds a a' b c calls answers → RepliesAreBacks backs' (b ++ c) → TiedEnd a' backs' (b ++ c)
end-adds a a' backs backs' b c calls answers t m replies =
    let ts = taken_by b in
    let us = taken_by c in
    let tu = filter_map-append taken_of b c in
    let lm = filter_map-append answered_of b c in
    record {
      asks = filter_map-append asked_of b c ∙ (both _ _ _ _ t.asks m.asks
          ∙ (sym (filter_map-append net_ask a.calls calls)
          ∙ ap (filter_map net_ask) (sym m.calls_are)));
      peers = ap (map item_of) m.answers_are ∙ (map-append item_of a.answers answers
          ∙ (both _ _ _ _ t.peers m.peers ∙ (sym (plain-append ts us) ∙ ap plain_items (sym tu))));
      port = ap (map item_of) lm ∙ (map-append item_of (port_answers b) (port_answers c)
          ∙ (both _ _ _ _ t.port m.port ∙ (sym (stats-append ts us) ∙ ap stats_items (sym tu))));
      replies = replies;
      ends = m.ends ∙ (ap (λ l. l ++ ended_by ABridge (asked_by b) c) t.ends
          ∙ sym (ends-append ABridge [] b c));
      downs = filter_map-append down_of b c ∙ both _ _ [] [] t.downs m.downs;
    }

-- ---- the law of the Replies

-- neither the port nor the end replied
replies-same : (backs : List Item) (b c : List RingEntry) → port_answers c ≡ []
    → replied_by c ≡ [] → RepliesAreBacks backs b → RepliesAreBacks backs (b ++ c)
replies-same backs b c port none t =
    let port_is : port_answers (b ++ c) ≡ port_answers b = filter_map-append answered_of b c
    ∙ (ap (λ l. port_answers b ++ l) port ∙ append-nil (port_answers b)) in
    let replied_is : replied_by (b ++ c) ≡ replied_by b = filter_map-append replied_of b c
    ∙ (ap (λ l. replied_by b ++ l) none ∙ append-nil (replied_by b)) in
    record {
      given = (λ i. filter (λ (item : Item). not (is_port_reply (port_is i) item)) (replied_is i))
          ∙ t.given;
      told = (λ i. filter (is_port_reply (port_is i)) (replied_is i))
          ∙ (t.told ∙ ap (map (λ (x : Answered). (x.id, x.reply))) (sym port_is));
    }

one-kept : {X : Type 0} (test : X → Bool) (x : X) → test x ≡ true → filter test (x ∷ []) ≡ x ∷ []
one-kept test x is = cond-true (test x) (x ∷ []) [] is

one-left : {X : Type 0} (test : X → Bool) (x : X) → test x ≡ false → filter test (x ∷ []) ≡ []
one-left test x is = cond-false (test x) (x ∷ []) [] is

-- the end replied to what the port did not answer
replies-given : (backs : List Item) (b : List RingEntry) (n : ℕ) (g : Frame) → g.kind ≡ Reply
    → is_port_reply (port_answers b) (g.id, Some g.pdu) ≡ false → RepliesAreBacks backs b
    → RepliesAreBacks (backs ++ (g.id, Some g.pdu) ∷ []) (b ++ Post n g ∷ [])
replies-given backs b n g kind apart t =
    let item : Item = (g.id, Some g.pdu) in
    let c : List RingEntry = Post n g ∷ [] in
    let port_is : port_answers (b ++ c) ≡ port_answers b = filter_map-append answered_of b c
    ∙ append-nil (port_answers b) in
    let replied_is : replied_by (b ++ c) ≡ replied_by b ++ item ∷ [] =
    filter_map-append replied_of b c
    ∙ ap (λ k. replied_by b ++ cons_option (replied_in k g) []) kind in
    let by_port : Item → Bool = is_port_reply (port_answers b) in
    let by_end : Item → Bool = λ x. not (is_port_reply (port_answers b) x) in
    record {
      given = (λ i. filter (λ (x : Item). not (is_port_reply (port_is i) x)) (replied_is i))
          ∙ (filter-append by_end (replied_by b) (item ∷ [])
          ∙ both _ _ _ _ t.given (one-kept by_end item (ap not apart)));
      told = (λ i. filter (is_port_reply (port_is i)) (replied_is i))
          ∙ (filter-append by_port (replied_by b) (item ∷ [])
          ∙ (both _ _ _ [] t.told (one-left by_port item apart)
          ∙ (append-nil _ ∙ ap (map (λ (x : Answered). (x.id, x.reply))) (sym port_is))));
    }

-- the port replied to what it answered
filter-as : {X : Type 0} (p q : X → Bool) (xs : List X) → Each (λ x. p x ≡ q x) xs
    → filter p xs ≡ filter q xs
filter-as p q [] same = refl
filter-as p q (x ∷ xs) same =
    let rest = filter-as p q xs same.1 in
    λ i. cond (same.0 i) (x ∷ rest i) (rest i)

each-as : {X : Type 0} (P Q : X → Type 0) (xs : List X) → ((x : X) → P x → Q x) → Each P xs
    → Each Q xs
each-as P Q [] f all = tt
each-as P Q (x ∷ xs) f all = (f x all.0, each-as P Q xs f all.1)

or-none : (x : Bool) → (x || false) ≡ x
or-none true = refl
or-none false = refl

-- one more that the port answered counts for no other name
more-by-port : (answers : List Answered) (more : Answered) (item : Item)
    → is_same_call more.id item.0 ≡ false
    → is_port_reply (answers ++ more ∷ []) item ≡ is_port_reply answers item
more-by-port answers more item apart =
    list_any-append (λ (a : Answered). is_same_call a.id item.0) answers (more ∷ [])
    ∙ (ap (λ (b : Bool). is_port_reply answers item || (b || false)) apart
    ∙ or-none (is_port_reply answers item))

last-by-port : (answers : List Answered) (more : Answered) (reply : Option (List ℕ))
    → is_port_reply (answers ++ more ∷ []) (more.id, reply) ≡ true
last-by-port answers more reply =
    list_any-append (λ (a : Answered). is_same_call a.id more.id) answers (more ∷ [])
    ∙ (ap (λ (b : Bool). is_port_reply answers (more.id, reply) || (b || false))
    (same-refl more.id) ∙ or-true (is_port_reply answers (more.id, reply)))
  where
    or-true : (x : Bool) → (x || true) ≡ true
    or-true true = refl
    or-true false = refl

replies-told : (backs : List Item) (b c : List RingEntry) (answer : Answered)
    → port_answers c ≡ answer ∷ [] → replied_by c ≡ (answer.id, answer.reply) ∷ []
    → Each (λ (item : Item). is_same_call answer.id item.0 ≡ false) (replied_by b)
    → RepliesAreBacks backs b → RepliesAreBacks backs (b ++ c)
replies-told backs b c answer port replied apart t =
    let item : Item = (answer.id, answer.reply) in
    let port_is : port_answers (b ++ c) ≡ port_answers b ++ answer ∷ [] =
    filter_map-append answered_of b c ∙ ap (λ l. port_answers b ++ l) port in
    let replied_is : replied_by (b ++ c) ≡ replied_by b ++ item ∷ [] =
    filter_map-append replied_of b c ∙ ap (λ l. replied_by b ++ l) replied in
    let more = port_answers b ++ answer ∷ [] in
    let by_port : Item → Bool = is_port_reply more in
    let by_end : Item → Bool = λ x. not (is_port_reply more x) in
    let same = each-as (λ (x : Item). is_same_call answer.id x.0 ≡ false)
    (λ (x : Item). is_port_reply more x ≡ is_port_reply (port_answers b) x) (replied_by b)
    (more-by-port (port_answers b) answer) apart in
    let last = last-by-port (port_answers b) answer answer.reply in
    record {
      given = (λ i. filter (λ (x : Item). not (is_port_reply (port_is i) x)) (replied_is i))
          ∙ (filter-append by_end (replied_by b) (item ∷ [])
          ∙ (both _ _ _ []
          (filter-as by_end (λ x. not (is_port_reply (port_answers b) x)) (replied_by b)
          (each-as (λ (x : Item). is_port_reply more x ≡ is_port_reply (port_answers b) x)
          (λ (x : Item). by_end x ≡ not (is_port_reply (port_answers b) x)) (replied_by b)
          (λ x is. ap not is) same) ∙ t.given)
          (one-left by_end item (ap not last)) ∙ append-nil backs));
      told = (λ i. filter (is_port_reply (port_is i)) (replied_is i))
          ∙ (filter-append by_port (replied_by b) (item ∷ [])
          ∙ (both _ _ _ _
          (filter-as by_port (is_port_reply (port_answers b)) (replied_by b) same ∙ t.told)
          (one-kept by_port item last)
          ∙ (sym (map-append (λ (x : Answered). (x.id, x.reply)) (port_answers b) (answer ∷ []))
          ∙ ap (map (λ (x : Answered). (x.id, x.reply))) (sym port_is))));
    }

-- ---- each step

-- a Reply that was taken
pub end-got : (a : Items) (backs : List Item) (b : List RingEntry) (n : ℕ) (f : Frame)
    → f.kind ≡ Reply → kind_in a.calls f.id ≡ Some NetCall → TiedEnd a backs b
    → TiedEnd (with_end a f.id (Replied f.pdu)) backs (b ++ Take n f ∷ [])
end-got a backs b n f kind made t =
    let c : List RingEntry = Take n f ∷ [] in
    let taken : taken_by c ≡ [] = ap (λ k. cons_option (taken_in k f) []) kind in
    end-adds a (with_end a f.id (Replied f.pdu)) backs backs b c [] [] t (record {
      asks = refl;
      calls_are = sym (append-nil a.calls);
      answers_are = sym (append-nil a.answers);
      peers = ap plain_items (sym taken);
      port = ap stats_items (sym taken);
      ends = ap (λ (k : Option Kind).
          a.ends ++ record { id = f.id; kind = k; outcome = Replied f.pdu } ∷ []) made
          ∙ ap (λ k. a.ends ++ cons_option (ended_in ABridge (asked_by b) k f) []) (sym kind);
      downs = refl;
    }) (replies-same backs b c refl refl t.replies)

-- a Request that was accepted
pub end-accepted : (a : Items) (backs : List Item) (b : List RingEntry) (n : ℕ) (f : Frame)
    → f.kind ≡ Request → is_for_stats f ≡ false → TiedEnd a backs b
    → TiedEnd
    (with_answer a (record { id = f.id; rest = f.rest; request = Some f.pdu; reply = None }))
    backs (b ++ Take n f ∷ [])
end-accepted a backs b n f kind plain t =
    let answer : Answered =
    record { id = f.id; rest = f.rest; request = Some f.pdu; reply = None } in
    let c : List RingEntry = Take n f ∷ [] in
    let taken : taken_by c ≡ Plain f.id f.rest f.pdu ∷ [] =
    ap (λ k. cons_option (taken_in k f) []) kind
    ∙ ap (λ x. x ∷ []) (cond-false (is_for_stats f) (ForStats f.id f.pdu)
    (Plain f.id f.rest f.pdu) plain) in
    end-adds a (with_answer a answer) backs backs b c [] (answer ∷ []) t (record {
      asks = refl;
      calls_are = sym (append-nil a.calls);
      answers_are = refl;
      peers = ap plain_items (sym taken);
      port = ap stats_items (sym taken);
      ends = sym (ap (λ l. a.ends ++ l)
          (ap (λ k. cons_option (ended_in ABridge (asked_by b) k f) []) kind) ∙ append-nil a.ends);
      downs = refl;
    }) (replies-same backs b c refl refl t.replies)

-- statistics that were told
pub end-told : (a : Items) (backs : List Item) (b : List RingEntry) (n : ℕ) (f g : Frame)
    (op : LocalOp) (result : MstrResult) → f.kind ≡ Request → is_for_stats f ≡ true
    → (f.id.node ≡ n → ⊥) → request_of op ≡ Some f.pdu → g.kind ≡ Reply → g.id ≡ f.id
    → g.pdu ≡ reply_of result
    → Each (λ (item : Item). is_same_call f.id item.0 ≡ false) (replied_by b)
    → TiedEnd a backs b
    → TiedEnd a backs (b ++ (Take n f ∷ Local n f.id op result ∷ Post n g ∷ []))
end-told a backs b n f g op result kind stats other op_is gkind gid gpdu apart t =
    let c : List RingEntry = Take n f ∷ Local n f.id op result ∷ Post n g ∷ [] in
    let answer : Answered =
    record { id = f.id; rest = []; request = request_of op; reply = Some (reply_of result) } in
    let told : Option (List ℕ) → RequestItem =
    λ o. record { id = f.id; rest = []; request = o } in
    let not_own : (f.id.node == n) ≡ false = ne_eqb f.id.node n other in
    let none : asked_by c ≡ [] = ap (λ k. cons_option (asked_in k g) []) gkind in
    let taken : taken_by c ≡ ForStats f.id f.pdu ∷ [] =
    ap (λ k. cons_option (taken_in k f) []) kind
    ∙ ap (λ x. x ∷ []) (cond-true (is_for_stats f) (ForStats f.id f.pdu)
    (Plain f.id f.rest f.pdu) stats) in
    let posted : replied_by c ≡ (f.id, Some (reply_of result)) ∷ [] =
    ap (λ k. cons_option (replied_in k g) []) gkind ∙ (λ i. (gid i, Some (gpdu i)) ∷ []) in
    let port : port_answers c ≡ answer ∷ [] =
    ap (λ x. cons_option (cond x None (Some answer)) []) not_own in
    let home : ended_at_home n f.id op result ≡ None = cond-false (f.id.node == n) (Some (record
    { id = f.id; kind = Some (LocalCall op); outcome = Came result })) None not_own in
    let no_end : ended_by ABridge (asked_by b) c ≡ [] =
    ap (λ k. cons_option (ended_in ABridge (asked_by b) k f) (cons_option
    (ended_at_home n f.id op result) [])) kind ∙ ap (λ x. cons_option x []) home in
    end-adds a a backs backs b c [] [] t (record {
      asks = none;
      calls_are = sym (append-nil a.calls);
      answers_are = sym (append-nil a.answers);
      peers = ap plain_items (sym taken);
      port = ap (map item_of) port
          ∙ (ap (λ (o : Option (List ℕ)). told o ∷ []) op_is ∙ ap stats_items (sym taken));
      ends = sym (ap (λ l. a.ends ++ l) no_end ∙ append-nil a.ends);
      downs = refl;
    }) (replies-told backs b c answer port posted apart t.replies)

-- a reply that was given back
pub end-backed : (a : Items) (backs : List Item) (b : List RingEntry) (n : ℕ) (g : Frame)
    → g.kind ≡ Reply → is_port_reply (port_answers b) (g.id, Some g.pdu) ≡ false
    → TiedEnd a backs b
    → TiedEnd a (backs ++ (g.id, Some g.pdu) ∷ []) (b ++ Post n g ∷ [])
end-backed a backs b n g kind apart t =
    let c : List RingEntry = Post n g ∷ [] in
    end-adds a a backs (backs ++ (g.id, Some g.pdu) ∷ []) b c [] [] t (record {
      asks = ap (λ k. cons_option (asked_in k g) []) kind;
      calls_are = sym (append-nil a.calls);
      answers_are = sym (append-nil a.answers);
      peers = refl;
      port = refl;
      ends = sym (append-nil a.ends);
      downs = refl;
    }) (replies-given backs b n g kind apart t.replies)

-- a request that was sent on
pub end-called : (a : Items) (backs : List Item) (b : List RingEntry) (n : ℕ) (call : Called)
    (f : Frame) → f.kind ≡ Request
    → net_ask call ≡ Some (record { id = f.id; route = frame_route f; pdu = f.pdu })
    → TiedEnd a backs b → TiedEnd (with_calls a (call ∷ [])) backs (b ++ Post n f ∷ [])
end-called a backs b n call f kind is t =
    let c : List RingEntry = Post n f ∷ [] in
    let ask : Asked = record { id = f.id; route = frame_route f; pdu = f.pdu } in
    let asked : asked_by c ≡ ask ∷ [] = ap (λ k. cons_option (asked_in k f) []) kind in
    let posted : replied_by c ≡ [] = ap (λ k. cons_option (replied_in k f) []) kind in
    end-adds a (with_calls a (call ∷ [])) backs backs b c (call ∷ []) [] t (record {
      asks = asked ∙ ap (λ o. cons_option o []) (sym is);
      calls_are = refl;
      answers_are = sym (append-nil a.answers);
      peers = refl;
      port = refl;
      ends = sym (append-nil a.ends);
      downs = refl;
    }) (replies-same backs b c refl posted t.replies)

-- a call that was given up
pub end-given : (a : Items) (backs : List Item) (b : List RingEntry) (id : CallId) (word : ℕ)
    → kind_in a.calls id ≡ Some NetCall → TiedEnd a backs b
    → TiedEnd (with_end a id (Lacked word)) backs (b ++ GiveUp id word ∷ [])
end-given a backs b id word made t =
    let c : List RingEntry = GiveUp id word ∷ [] in
    end-adds a (with_end a id (Lacked word)) backs backs b c [] [] t (record {
      asks = refl;
      calls_are = sym (append-nil a.calls);
      answers_are = sym (append-nil a.answers);
      peers = refl;
      port = refl;
      ends = ap (λ (k : Option Kind).
          a.ends ++ record { id = id; kind = k; outcome = Lacked word } ∷ []) made;
      downs = refl;
    }) (replies-same backs b c refl refl t.replies)

-- an entry that says nothing to the laws
pub end-quiet : (a : Items) (backs : List Item) (b : List RingEntry) (e : RingEntry)
    → asked_of e ≡ None → taken_of e ≡ None → answered_of e ≡ None → replied_of e ≡ None
    → ended_of ABridge (asked_by b) e ≡ None → down_of e ≡ None → TiedEnd a backs b
    → TiedEnd a backs (b ++ e ∷ [])
end-quiet a backs b e asks takes answers replies ends downs t =
    end-adds a a backs backs b (e ∷ []) [] [] t (record {
      asks = ap (λ o. cons_option o []) asks;
      calls_are = sym (append-nil a.calls);
      answers_are = sym (append-nil a.answers);
      peers = ap (λ o. plain_items (cons_option o [])) (sym takes);
      port = ap (λ o. map item_of (cons_option o [])) answers
          ∙ ap (λ o. stats_items (cons_option o [])) (sym takes);
      ends = sym (append-nil a.ends) ∙ ap (λ o. a.ends ++ cons_option o []) (sym ends);
      downs = ap (λ o. cons_option o []) downs;
    }) (replies-same backs b (e ∷ []) (ap (λ o. cons_option o []) answers)
    (ap (λ o. cons_option o []) replies) t.replies)

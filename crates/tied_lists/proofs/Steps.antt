-- The laws of a station and its node, as both lists go on.
use Rattle.std.proofs.Common.{◌≡◌, ℕ, ◌==◌, true, false, cond, List, [], ◌∷◌, ◌++◌, map}
use Rattle.std.proofs.Common.{filter_map, Option, Some, None, refl, sym, ap, ◌∙◌}
use Rattle.std.proofs.Common.{append_assoc, append-nil, eq-eqb, ne_eqb, subst, arith, ◌<◌, ◌≤◌}
use Rattle.std.specs.List.{AllByRecursion as Each, cons_option}
use Rattle.std.proofs.lemmas.Bool.{cond-true, cond-false}
use Rattle.std.proofs.lemmas.List.Elements.{filter_map-append}
use Rattle.ring_core.specs.Statistics.{is_for_stats}
use Rattle.ring_core.specs.Words.{frame_route}
use Rattle.tied_lists.specs.Words.{CallId, Request, Reply, Frame, MstrResult}
use Rattle.tied_lists.specs.Words.{LocalOp, RingEntry, Post, Take, Local}
use Rattle.tied_lists.specs.Words.{GiveUp, Leave, Down}
use Rattle.tied_lists.specs.Items.{Asked, Called, Answered, Kind}
use Rattle.tied_lists.specs.Items.{NetCall, LocalCall, Outcome, Came, Station, Items}
use Rattle.tied_lists.specs.Items.{net_ask, kind_in, asked_in, asked_of, asked_by, last_asked}
use Rattle.tied_lists.specs.Items.{Taken, Plain, ForStats, taken_in, taken_of, taken_by, RequestItem}
use Rattle.tied_lists.specs.Items.{item_of, plain_items, stats_items, request_of, reply_of}
use Rattle.tied_lists.specs.Items.{answered_of, port_answers, replied_in, replied_of}
use Rattle.tied_lists.specs.Items.{replied_by, replies_in, due_replies, outcome_of_reply}
use Rattle.tied_lists.specs.Items.{outcome_of_word, ended_in, ended_at_home, ended_of, ended_by}
use Rattle.tied_lists.specs.Items.{with_calls, with_answer, with_end, with_fails, due_reply}
use Rattle.tied_lists.specs.Items.{down_of, downs_by, last_from, latest_down}
use Rattle.tied_lists.specs.Tied.{Tied, TiedBut, DownsAreFails, RiseAbove}
use Rattle.tied_lists.proofs.Boxes.{each-map, each-push}

pub tied-all : (station : Station) (a : Items) (b : List RingEntry) → TiedBut station [] a b
    → Tied station a b
tied-all station a b t = record {
  asks = sym (append-nil (asked_by b)) ∙ t.asks;
  peers = t.peers;
  port = t.port;
  replies = t.replies;
  ends = t.ends;
  downs = t.downs;
}

pub tied-none : (station : Station) (a : Items) (b : List RingEntry) → Tied station a b
    → TiedBut station [] a b
tied-none station a b t = record {
  asks = append-nil (asked_by b) ∙ t.asks;
  peers = t.peers;
  port = t.port;
  replies = t.replies;
  ends = t.ends;
  downs = t.downs;
}

-- calls that are made
pub tied-called : (station : Station) (calls : List Called) (a : Items) (b : List RingEntry)
    → Tied station a b → TiedBut station calls (with_calls a calls) b
tied-called station calls a b t = record {
  asks = ap (λ l. l ++ filter_map net_ask calls) t.asks
      ∙ sym (filter_map-append net_ask a.calls calls);
  peers = t.peers;
  port = t.port;
  replies = t.replies;
  ends = t.ends;
  downs = t.downs;
}

-- power failed more often
pub tied-raised : (station : Station) (rest : List Called) (a : Items) (fails : ℕ)
    (b : List RingEntry) → a.fails ≤ fails → TiedBut station rest a b
    → TiedBut station rest (with_fails a fails) b
tied-raised station rest a fails b more t = record {
  asks = t.asks;
  peers = t.peers;
  port = t.port;
  replies = t.replies;
  ends = t.ends;
  downs = (
    t.downs.0,
    each-map (λ k. k ≤ a.fails) (λ k. k ≤ fails) (downs_by b) (λ k le. omega (arith, le, more))
        t.downs.1,
  );
}

-- the Downs, where there is none more, and where there is one
no-more-downs : (a : Items) (b c : List RingEntry) → downs_by c ≡ [] → DownsAreFails a b
    → DownsAreFails a (b ++ c)
no-more-downs a b c none t = subst
    (λ (l : List ℕ). RiseAbove 0 l × Each (λ k. k ≤ a.fails) l)
    (sym (filter_map-append down_of b c
    ∙ (ap (λ l. downs_by b ++ l) none ∙ append-nil (downs_by b))))
    t

rise-push : (m : ℕ) (ks : List ℕ) (k : ℕ) → RiseAbove m ks → last_from m ks < k
    → RiseAbove m (ks ++ k ∷ [])
rise-push m [] k rise above = (above, tt)
rise-push m (j ∷ ks) k rise above = (rise.0, rise-push j ks k rise.1 above)

one-more-down : (a : Items) (b c : List RingEntry) (k : ℕ) → downs_by c ≡ k ∷ []
    → latest_down b < k → k ≤ a.fails → DownsAreFails a b → DownsAreFails a (b ++ c)
one-more-down a b c k one above failed t = subst
    (λ (l : List ℕ). RiseAbove 0 l × Each (λ j. j ≤ a.fails) l)
    (sym (filter_map-append down_of b c ∙ ap (λ l. downs_by b ++ l) one))
    (rise-push 0 (downs_by b) k t.0 above, each-push _ (downs_by b) k t.1 failed)

-- lists that go on
both : {X : Type 0} (a b c d : List X) → a ≡ c → b ≡ d → a ++ b ≡ c ++ d
both a b c d p q = λ i. p i ++ q i

cons-append : {X : Type 0} (o : Option X) (xs ys : List X)
    → cons_option o (xs ++ ys) ≡ cons_option o xs ++ ys
cons-append None xs ys = refl
cons-append (Some x) xs ys = refl

pub ends-append : (station : Station) (asked : List Asked) (b c : List RingEntry)
    → ended_by station asked (b ++ c) ≡ ended_by station
    asked b ++ ended_by station (asked ++ asked_by b) c
ends-append station asked [] c = ap (λ l. ended_by station l c) (sym (append-nil asked))
ends-append station asked (x ∷ b) c =
    let more = asked ++ cons_option (asked_of x) [] in
    let joins : more ++ asked_by b ≡ asked ++ asked_by (x ∷ b) =
    append_assoc asked (cons_option (asked_of x) []) (asked_by b)
    ∙ ap (λ l. asked ++ l) (cons-join (asked_of x) (asked_by b)) in
    ap (λ l. cons_option (ended_of station asked x) l)
    (ends-append station more b c ∙ ap (λ l. ended_by station more b ++ ended_by station l c) joins)
    ∙ cons-append (ended_of station asked x) (ended_by station more b)
    (ended_by station (asked ++ asked_by (x ∷ b)) c)
  where
    cons-join : {X : Type 0} (o : Option X) (xs : List X)
        → cons_option o [] ++ xs ≡ cons_option o xs
    cons-join None xs = refl
    cons-join (Some x) xs = refl

pub plain-append : (ts us : List Taken) → plain_items (ts ++ us) ≡ plain_items ts ++ plain_items us
plain-append [] us = refl
plain-append (Plain id rest pdu ∷ ts) us =
    ap (λ (l : List RequestItem). record { id = id; rest = rest; request = Some pdu } ∷ l)
    (plain-append ts us)
plain-append (ForStats id pdu ∷ ts) us = plain-append ts us

pub stats-append : (ts us : List Taken) → stats_items (ts ++ us) ≡ stats_items ts ++ stats_items us
stats-append [] us = refl
stats-append (Plain id rest pdu ∷ ts) us = stats-append ts us
stats-append (ForStats id pdu ∷ ts) us =
    ap (λ (l : List RequestItem). record { id = id; rest = []; request = Some pdu } ∷ l)
    (stats-append ts us)

cons-tail : {X : Type 0} (x y : X) (xs ys : List X) → x ∷ xs ≡ y ∷ ys → xs ≡ ys
cons-tail x y xs ys e = cc

-- no answer is missing, so what is due composes
pub due-append : (ts us : List Taken) (ps qs ls ms : List Answered)
    → map item_of ps ≡ plain_items ts
    → map item_of ls ≡ stats_items ts
    → due_replies (ts ++ us) (replies_in (ps ++ qs)) (replies_in (ls ++ ms)) ≡ due_replies ts
    (replies_in ps) (replies_in ls) ++ due_replies us (replies_in qs) (replies_in ms)
due-append [] us [] qs [] ms p l = refl
due-append [] us [] qs (y ∷ ls) ms p l = absurd (cc)
due-append [] us (x ∷ ps) qs ls ms p l = absurd (cc)
due-append (Plain j more q ∷ ts) us [] qs ls ms p l = absurd (cc)
due-append (Plain j more q ∷ ts) us (x ∷ ps) qs ls ms p l =
    let first : RequestItem = record { id = j; rest = more; request = Some q } in
    ap (cons_option (due_reply j (Some x.reply))) (due-append ts us ps qs ls ms
    (cons-tail (item_of x) first (map item_of ps) (plain_items ts) p) l)
    ∙ cons-append (due_reply j (Some x.reply)) _ _
due-append (ForStats j q ∷ ts) us ps qs [] ms p l = absurd (cc)
due-append (ForStats j q ∷ ts) us ps qs (x ∷ ls) ms p l =
    let first : RequestItem = record { id = j; rest = []; request = Some q } in
    ap (cons_option (due_reply j (Some x.reply))) (due-append ts us ps qs ls
    ms p (cons-tail (item_of x) first (map item_of ls) (stats_items ts) l))
    ∙ cons-append (due_reply j (Some x.reply)) _ _

-- what is added keeps the laws by itself
pub record Adds (station : Station) (rest rest' : List Called) (a a' : Items) (b c : List RingEntry)
    (answers : List Answered) : Type 0 where
  pub asks : asked_by c ++ filter_map net_ask rest' ≡ filter_map net_ask rest
  pub calls : a'.calls ≡ a.calls
  pub answers_are : a'.answers ≡ a.answers ++ answers
  pub peers : map item_of answers ≡ plain_items (taken_by c)
  pub port : map item_of (port_answers c) ≡ stats_items (taken_by c)
  pub replies : replied_by c
      ≡ due_replies (taken_by c) (replies_in answers) (replies_in (port_answers c))
  pub ends : a'.ends ≡ a.ends ++ ended_by station (asked_by b) c

pub tied-adds : (station : Station) (rest rest' : List Called) (a a' : Items) (b c : List RingEntry)
    (answers : List Answered) → TiedBut station rest a b → Adds station rest rest' a a' b c answers
    → DownsAreFails a' (b ++ c) → TiedBut station rest' a' (b ++ c)
tied-adds station rest rest' a a' b c answers t m downs =
    let ts = taken_by b in
    let us = taken_by c in
    let tu = filter_map-append taken_of b c in
    let lm = filter_map-append answered_of b c in
    record {
      asks = ap (λ l. l ++ filter_map net_ask rest') (filter_map-append asked_of b c)
          ∙ (append_assoc (asked_by b) (asked_by c) (filter_map net_ask rest')
          ∙ (ap (λ l. asked_by b ++ l) m.asks ∙ (t.asks ∙ ap (filter_map net_ask) (sym m.calls))));
      peers = ap (map item_of) m.answers_are ∙ (map-append item_of a.answers answers
          ∙ (both _ _ _ _ t.peers m.peers ∙ (sym (plain-append ts us) ∙ ap plain_items (sym tu))));
      port = ap (map item_of) lm ∙ (map-append item_of (port_answers b) (port_answers c)
          ∙ (both _ _ _ _ t.port m.port ∙ (sym (stats-append ts us) ∙ ap stats_items (sym tu))));
      replies = filter_map-append replied_of b c ∙ (both _ _ _ _ t.replies m.replies ∙ (sym
          (due-append ts us a.answers answers (port_answers b) (port_answers c) t.peers t.port)
          ∙ (λ i. due_replies (sym tu i) (replies_in (sym m.answers_are i))
          (replies_in (sym lm i)))));
      ends = m.ends ∙ (ap (λ l. l ++ ended_by station (asked_by b) c) t.ends
          ∙ sym (ends-append station [] b c));
      downs = downs;
    }
  where
    map-append : {X Y : Type 0} (f : X → Y) (xs ys : List X)
        → map f (xs ++ ys) ≡ map f xs ++ map f ys
    map-append f [] ys = refl
    map-append f (x ∷ xs) ys = ap (λ l. f x ∷ l) (map-append f xs ys)

-- a Request that was served
pub tied-served : (station : Station) (rest : List Called) (a : Items) (b : List RingEntry) (n : ℕ)
    (f g : Frame) (reply : List ℕ)
    → f.kind ≡ Request → is_for_stats f ≡ false → g.kind ≡ Reply → g.id ≡ f.id → g.pdu ≡ reply
    → TiedBut station rest a b → TiedBut station rest
    (with_answer a
    (record { id = f.id; rest = f.rest; request = Some f.pdu; reply = Some reply }))
    (b ++ (Take n f ∷ Post n g ∷ []))
tied-served station rest a b n f g reply kind plain gkind gid gpdu t =
    let answer : Answered =
    record { id = f.id; rest = f.rest; request = Some f.pdu; reply = Some reply } in
    let c = Take n f ∷ Post n g ∷ [] in
    let none : asked_by c ≡ [] = ap (λ k. cons_option (asked_in k g) []) gkind in
    let taken : taken_by c ≡ Plain f.id f.rest f.pdu ∷ [] =
    ap (λ k. cons_option (taken_in k f) []) kind
    ∙ ap (λ x. x ∷ []) (cond-false
    (is_for_stats f) (ForStats f.id f.pdu) (Plain f.id f.rest f.pdu) plain) in
    let posted : replied_by c ≡ (f.id, Some reply) ∷ [] =
    ap (λ k. cons_option (replied_in k g) []) gkind ∙ (λ i. (gid i, Some (gpdu i)) ∷ []) in
    tied-adds station rest rest a _ b c (answer ∷ []) t (record {
      asks = ap (λ l. l ++ filter_map net_ask rest) none;
      calls = refl;
      answers_are = refl;
      peers = ap plain_items (sym taken);
      port = ap stats_items (sym taken);
      replies = posted ∙ ap (λ l. due_replies l (Some reply ∷ []) []) (sym taken);
      ends = sym (ap (λ l. a.ends ++ l)
          (ap (λ k. cons_option (ended_in station (asked_by b) k f) []) kind) ∙ append-nil a.ends);
    }) (no-more-downs a b c refl t.downs)

-- a Request that came without power
pub tied-off : (station : Station) (rest : List Called) (a : Items) (b : List RingEntry) (n : ℕ)
    (f : Frame) → f.kind ≡ Request → is_for_stats f ≡ false
    → TiedBut station rest a b → TiedBut station rest
    (with_answer a (record { id = f.id; rest = f.rest; request = Some f.pdu; reply = None }))
    (b ++ Take n f ∷ [])
tied-off station rest a b n f kind plain t =
    let answer : Answered =
    record { id = f.id; rest = f.rest; request = Some f.pdu; reply = None } in
    let c = Take n f ∷ [] in
    let taken : taken_by c ≡ Plain f.id f.rest f.pdu ∷ [] =
    ap (λ k. cons_option (taken_in k f) []) kind
    ∙ ap (λ x. x ∷ []) (cond-false
    (is_for_stats f) (ForStats f.id f.pdu) (Plain f.id f.rest f.pdu) plain) in
    tied-adds station rest rest a _ b c (answer ∷ []) t (record {
      asks = refl;
      calls = refl;
      answers_are = refl;
      peers = ap plain_items (sym taken);
      port = ap stats_items (sym taken);
      replies = ap (λ l. due_replies l (None ∷ []) []) (sym taken);
      ends = sym (ap (λ l. a.ends ++ l)
          (ap (λ k. cons_option (ended_in station (asked_by b) k f) []) kind) ∙ append-nil a.ends);
    }) (no-more-downs a b c refl t.downs)

-- statistics that were told
pub tied-told : (station : Station) (rest : List Called) (a : Items) (b : List RingEntry) (n : ℕ)
    (f g : Frame) (op : LocalOp)
    (result : MstrResult) → f.kind ≡ Request → is_for_stats f ≡ true → (f.id.node ≡ n → ⊥)
    → request_of op ≡ Some f.pdu → g.kind ≡ Reply → g.id ≡ f.id → g.pdu ≡ reply_of result
    → TiedBut station rest a b
    → TiedBut station rest a (b ++ (Take n f ∷ Local n f.id op result ∷ Post n g ∷ []))
tied-told station rest a b n f g op result kind stats other op_is gkind gid gpdu t =
    let c = Take n f ∷ Local n f.id op result ∷ Post n g ∷ [] in
    let answer : Answered =
    record { id = f.id; rest = []; request = request_of op; reply = Some (reply_of result) } in
    let told : Option (List ℕ) → RequestItem =
    λ o. record { id = f.id; rest = []; request = o } in
    let not_own : (f.id.node == n) ≡ false = ne_eqb f.id.node n other in
    let none : asked_by c ≡ [] = ap (λ k. cons_option (asked_in k g) []) gkind in
    let taken : taken_by c ≡ ForStats f.id f.pdu ∷ [] = ap (λ k. cons_option (taken_in k f) []) kind
    ∙ ap (λ x. x ∷ []) (cond-true
    (is_for_stats f) (ForStats f.id f.pdu) (Plain f.id f.rest f.pdu) stats) in
    let posted : replied_by c ≡ (f.id, Some (reply_of result)) ∷ [] =
    ap (λ k. cons_option (replied_in k g) []) gkind ∙ (λ i. (gid i, Some (gpdu i)) ∷ []) in
    let port : port_answers c ≡ answer ∷ [] =
    ap (λ x. cons_option (cond x None (Some answer)) []) not_own in
    let home : ended_at_home n f.id op result ≡ None = cond-false (f.id.node == n) (Some (record
    { id = f.id; kind = Some (LocalCall op); outcome = Came result })) None not_own in
    let no_end : ended_by station (asked_by b) c ≡ [] =
    ap (λ k. cons_option (ended_in station (asked_by b) k f) (cons_option
    (ended_at_home n f.id op result) [])) kind ∙ ap (λ x. cons_option x []) home in
    tied-adds station rest rest a a b c [] t (record {
      asks = ap (λ l. l ++ filter_map net_ask rest) none;
      calls = refl;
      answers_are = sym (append-nil a.answers);
      peers = ap plain_items (sym taken);
      port = ap (map item_of) port
          ∙ (ap (λ (o : Option (List ℕ)). told o ∷ []) op_is ∙ ap stats_items (sym taken));
      replies = posted ∙ (λ i. due_replies (sym taken i) [] (replies_in (sym port i)));
      ends = sym (ap (λ l. a.ends ++ l) no_end ∙ append-nil a.ends);
    }) (no-more-downs a b c refl t.downs)

-- a call that ended, by its one entry in the ring
pub tied-ended : (station : Station) (rest : List Called) (a : Items) (b : List RingEntry)
    (e : RingEntry) (id : CallId) (kind : Kind) (outcome : Outcome) → asked_of e ≡ None
    → taken_of e ≡ None → answered_of e ≡ None → replied_of e ≡ None → down_of e ≡ None
    → ended_of station (asked_by b) e ≡ Some
    (record { id = id; kind = Some kind; outcome = outcome }) → kind_in a.calls id ≡ Some kind
    → TiedBut station rest a b → TiedBut station rest (with_end a id outcome) (b ++ e ∷ [])
tied-ended station rest a b e id kind outcome asks takes answers replies downs ends made t =
    tied-adds station rest rest a (with_end a
    id outcome) b (e ∷ []) [] t (record {
      asks = ap (λ o. cons_option o [] ++ filter_map net_ask rest) asks;
      calls = refl;
      answers_are = sym (append-nil a.answers);
      peers = ap (λ o. plain_items (cons_option o [])) (sym takes);
      port = ap (λ o. map item_of (cons_option o [])) answers
          ∙ ap (λ o. stats_items (cons_option o [])) (sym takes);
      replies = ap (λ o. cons_option o []) replies ∙ (λ i. due_replies
          (cons_option (sym takes i) []) [] (replies_in (cons_option (sym answers i) [])));
      ends = ap (λ (k : Option Kind). a.ends ++ record { id = id; kind = k; outcome = outcome }
          ∷ []) made ∙ ap (λ o. a.ends ++ cons_option o []) (sym ends);
    }) (no-more-downs a b (e ∷ []) (ap (λ o. cons_option o []) downs) t.downs)

-- an entry that says nothing to the laws but that of the Downs, and what stays to be posted
tied-but-downs : (station : Station) (rest : List Called) (a : Items) (b : List RingEntry)
    (e : RingEntry) → asked_of e ≡ None → taken_of e ≡ None → answered_of e ≡ None
    → replied_of e ≡ None → ended_of station (asked_by b) e ≡ None
    → DownsAreFails a (b ++ e ∷ [])
    → TiedBut station rest a b → TiedBut station rest a (b ++ e ∷ [])
tied-but-downs station rest a b e asks takes answers replies ends downs t =
    tied-adds station rest rest a a b (e ∷ []) [] t (record {
      asks = ap (λ o. cons_option o [] ++ filter_map net_ask rest) asks;
      calls = refl;
      answers_are = sym (append-nil a.answers);
      peers = ap (λ o. plain_items (cons_option o [])) (sym takes);
      port = ap (λ o. map item_of (cons_option o [])) answers
          ∙ ap (λ o. stats_items (cons_option o [])) (sym takes);
      replies = ap (λ o. cons_option o []) replies
          ∙ (λ i. due_replies (cons_option (sym takes i) []) []
          (replies_in (cons_option (sym answers i) [])));
      ends = sym (append-nil a.ends) ∙ ap (λ o. a.ends ++ cons_option o []) (sym ends);
    }) downs

pub tied-quiet : (station : Station) (rest : List Called) (a : Items) (b : List RingEntry)
    (e : RingEntry) → asked_of e ≡ None → taken_of e ≡ None → answered_of e ≡ None
    → replied_of e ≡ None → ended_of station (asked_by b) e ≡ None → down_of e ≡ None
    → TiedBut station rest a b → TiedBut station rest a (b ++ e ∷ [])
tied-quiet station rest a b e asks takes answers replies ends downs t =
    tied-but-downs station rest a b e asks takes answers replies ends
    (no-more-downs a b (e ∷ []) (ap (λ o. cons_option o []) downs) t.downs) t

-- a node that leaves as power has failed more often than it has noticed
pub tied-down : (station : Station) (rest : List Called) (a : Items) (b : List RingEntry) (n k : ℕ)
    → latest_down b < k → k ≤ a.fails → TiedBut station rest a b
    → TiedBut station rest a (b ++ Leave n (Down k) ∷ [])
tied-down station rest a b n k above failed t =
    tied-but-downs station rest a b (Leave n (Down k)) refl refl refl refl refl
    (one-more-down a b (Leave n (Down k) ∷ []) k refl above failed t.downs) t

-- a call that is posted
pub tied-posted : (station : Station) (rest : List Called) (call : Called) (a : Items)
    (b : List RingEntry) (n : ℕ) (f : Frame) → f.kind ≡ Request
    → net_ask call ≡ Some (record { id = f.id; route = frame_route f; pdu = f.pdu })
    → TiedBut station (call ∷ rest) a b → TiedBut station rest a (b ++ Post n f ∷ [])
tied-posted station rest call a b n f kind is t =
    let c = Post n f ∷ [] in
    let ask : Asked = record { id = f.id; route = frame_route f; pdu = f.pdu } in
    let asked : asked_by c ≡ ask ∷ [] = ap (λ k. cons_option (asked_in k f) []) kind in
    let posted : replied_by c ≡ [] = ap (λ k. cons_option (replied_in k f) []) kind in
    tied-adds station (call ∷ rest) rest a a b c [] t (record {
      asks = ap (λ l. l ++ filter_map net_ask rest) asked
          ∙ ap (λ o. cons_option o (filter_map net_ask rest)) (sym is);
      calls = refl;
      answers_are = sym (append-nil a.answers);
      peers = refl;
      port = refl;
      replies = posted;
      ends = sym (append-nil a.ends);
    }) (no-more-downs a b c refl t.downs)

-- a call at home, done
pub tied-done : (station : Station) (rest : List Called) (call : Called) (a : Items)
    (b : List RingEntry) (n : ℕ) (op : LocalOp)
    (result : MstrResult) → net_ask call ≡ None → call.id.node ≡ n
    → kind_in a.calls call.id ≡ Some (LocalCall op)
    → TiedBut station (call ∷ rest) a b
    → TiedBut station rest (with_end a call.id (Came result)) (b ++ Local n call.id op result ∷ [])
tied-done station rest call a b n op result none own made t =
    let mine : (call.id.node == n) ≡ true = eq-eqb call.id.node n own in
    tied-ended station rest a b (Local n call.id op result) call.id (LocalCall op)
    (Came result) refl refl
    (cond-true (call.id.node == n) None
    (Some (record
    { id = call.id; rest = []; request = request_of op; reply = Some (reply_of result) })) mine)
    refl refl
    (cond-true (call.id.node == n) (Some
    (record { id = call.id; kind = Some (LocalCall op); outcome = Came result })) None mine) made
    (record {
      asks = ap (λ o. asked_by b ++ cons_option o (filter_map net_ask rest)) (sym none) ∙ t.asks;
      peers = t.peers;
      port =
          t.port;
      replies = t.replies;
      ends = t.ends;
      downs = t.downs;
    })

-- a Reply that was taken, and a call that was given up
pub tied-got : (station : Station) (rest : List Called) (a : Items) (b : List RingEntry) (n : ℕ)
    (f : Frame) → f.kind ≡ Reply → kind_in a.calls f.id ≡ Some NetCall
    → TiedBut station rest a b → TiedBut station rest (with_end a f.id
    (outcome_of_reply station (last_asked f.id (asked_by b)) f.pdu)) (b ++ Take n f ∷ [])
tied-got station rest a b n f kind made t =
    tied-ended station rest a b (Take n f) f.id NetCall
    (outcome_of_reply station (last_asked f.id (asked_by b)) f.pdu) refl (ap
    (λ k. taken_in k f) kind) refl refl refl (ap (λ k. ended_in station (asked_by b) k f) kind) made
    t

pub tied-given_up : (station : Station) (rest : List Called) (a : Items) (b : List RingEntry)
    (id : CallId) (word : ℕ) → kind_in a.calls id ≡ Some NetCall
    → TiedBut station rest a b
    → TiedBut station rest (with_end a id (outcome_of_word station word)) (b ++ GiveUp id word ∷ [])
tied-given_up station rest a b id word made t =
    tied-ended station rest a b (GiveUp id word) id NetCall (outcome_of_word station
    word) refl refl refl refl refl refl made t

-- What is taken and what is due, as the lists go on.
use Rattle.std.proofs.Common.{◌≡◌, ℕ, Bool, true, false, List, [], ◌∷◌, ◌++◌, map, Option, Some}
use Rattle.std.proofs.Common.{None}
use Rattle.std.proofs.Common.{refl, sym, ap, ◌∙◌, append-nil}
use Rattle.std.specs.List.{cons_option, filter_map}
use Rattle.std.proofs.lemmas.List.Elements.{filter_map-append}
use Rattle.tied_lists.specs.Items.{Answered, ForStats, Item, Plain, RequestItem, Taken}
use Rattle.tied_lists.specs.Items.{due_replies, due_reply, first_reply, item_of, rest_of}
use Rattle.station_laws.specs.Bound.{Sorted, SortedOf, sorted, sorted_answer}
use Rattle.station_laws.specs.Taking.{DueNext, items_for, left_plain, left_stats}

pub items_for-append : (statistics : Bool) (xs ys : List Taken)
    → items_for statistics (xs ++ ys) ≡ items_for statistics xs ++ items_for statistics ys
items_for-append true [] ys = refl
items_for-append true (Plain id rest pdu ∷ xs) ys = items_for-append true xs ys
items_for-append true (ForStats id pdu ∷ xs) ys =
    ap (λ (l : List RequestItem). record { id = id; rest = []; request = Some pdu } ∷ l)
    (items_for-append true xs ys)
items_for-append false [] ys = refl
items_for-append false (Plain id rest pdu ∷ xs) ys =
    ap (λ (l : List RequestItem). record { id = id; rest = rest; request = Some pdu } ∷ l)
    (items_for-append false xs ys)
items_for-append false (ForStats id pdu ∷ xs) ys = items_for-append false xs ys

-- one item more or none in front of two lists
pub cons-append : {X : Type 0} (o : Option X) (xs ys : List X)
    → cons_option o (xs ++ ys) ≡ cons_option o xs ++ ys
cons-append None xs ys = refl
cons-append (Some x) xs ys = refl

pub due-append : (ts us : List Taken) (P L : List (Option (List ℕ)))
    → due_replies (ts ++ us) P L ≡ due_replies ts P L
    ++ due_replies us (left_plain ts P) (left_stats ts L)
due-append [] us P L = refl
due-append (Plain id rest pdu ∷ ts) us P L =
    ap (cons_option (due_reply id (first_reply P))) (due-append ts us (rest_of P) L)
    ∙ cons-append (due_reply id (first_reply P)) (due_replies ts (rest_of P) L) _
due-append (ForStats id pdu ∷ ts) us P L =
    ap (cons_option (due_reply id (first_reply L))) (due-append ts us P (rest_of L))
    ∙ cons-append (due_reply id (first_reply L)) (due_replies ts P (rest_of L)) _

pub left_plain-append : (ts us : List Taken) (P : List (Option (List ℕ)))
    → left_plain (ts ++ us) P ≡ left_plain us (left_plain ts P)
left_plain-append [] us P = refl
left_plain-append (Plain id rest pdu ∷ ts) us P = left_plain-append ts us (rest_of P)
left_plain-append (ForStats id pdu ∷ ts) us P = left_plain-append ts us P

pub left_stats-append : (ts us : List Taken) (L : List (Option (List ℕ)))
    → left_stats (ts ++ us) L ≡ left_stats us (left_stats ts L)
left_stats-append [] us L = refl
left_stats-append (Plain id rest pdu ∷ ts) us L = left_stats-append ts us L
left_stats-append (ForStats id pdu ∷ ts) us L = left_stats-append ts us (rest_of L)

-- two joined lists of two sorts are one where their parts are
abbrev pick : {A : Type 0} → Bool → Bool → A → Option A
pick true true item = Some item
pick true false item = None
pick false true item = None
pick false false item = Some item

abbrev of-sort : {A : Type 0} → Bool → SortedOf A → Option A
of-sort statistics s = pick statistics s.statistics s.item

picks-own : {A : Type 0} (statistics : Bool) (xs : List A)
    → filter_map (of-sort statistics) (map (sorted statistics) xs) ≡ xs
picks-own true [] = refl
picks-own true (x ∷ xs) = ap (λ l. x ∷ l) (picks-own true xs)
picks-own false [] = refl
picks-own false (x ∷ xs) = ap (λ l. x ∷ l) (picks-own false xs)

picks-other : {A : Type 0} (xs : List A)
    → filter_map (of-sort true) (map (sorted false) xs) ≡ []
picks-other [] = refl
picks-other (x ∷ xs) = picks-other xs

picks-another : {A : Type 0} (xs : List A)
    → filter_map (of-sort false) (map (sorted true) xs) ≡ []
picks-another [] = refl
picks-another (x ∷ xs) = picks-another xs

abbrev joined : {A : Type 0} → List A → List A → List (SortedOf A)
joined peers port = map (sorted false) peers ++ map (sorted true) port

first-part : {A : Type 0} (peers port : List A)
    → filter_map (of-sort false) (joined peers port) ≡ peers
first-part peers port =
    filter_map-append (of-sort false) (map (sorted false) peers) (map (sorted true) port)
    ∙ ((λ i. picks-own false peers i ++ picks-another port i) ∙ append-nil peers)

second-part : {A : Type 0} (peers port : List A)
    → filter_map (of-sort true) (joined peers port) ≡ port
second-part peers port =
    filter_map-append (of-sort true) (map (sorted false) peers) (map (sorted true) port)
    ∙ (λ i. picks-other peers i ++ picks-own true port i)

pub parts-same : {A : Type 0} (peers port peers' port' : List A)
    → joined peers port ≡ joined peers' port'
    → (peers ≡ peers') × (port ≡ port')
parts-same peers port peers' port' e = (
  sym (first-part peers port) ∙ (ap (filter_map (of-sort false)) e ∙ first-part peers' port'),
  sym (second-part peers port) ∙ (ap (filter_map (of-sort true)) e ∙ second-part peers' port'),
)

-- answers are sorted as their items are
pub sorted-items : (statistics : Bool) (answers : List Answered)
    → map (sorted_answer statistics) answers ≡ map (sorted statistics) (map item_of answers)
sorted-items statistics [] = refl
sorted-items statistics (a ∷ as') =
    ap (λ (l : List Sorted). sorted statistics (item_of a) ∷ l) (sorted-items statistics as')

-- what is due behind some taken more
pub due-step : (front taken whole : List Taken) (list list' : List Item)
    (peers locals peers' locals' P L : List (Option (List ℕ))) → whole ≡ front ++ taken
    → list ≡ due_replies front P L → peers ≡ left_plain front P → locals ≡ left_stats front L
    → DueNext taken list peers locals list' peers' locals'
    → DueNext whole [] P L list' peers' locals'
due-step front taken whole list list' peers locals peers' locals' P L is e p l next = record {
  list_is =
      next.list_is ∙ ((λ i. e i ++ due_replies taken (p i) (l i))
      ∙ (sym (due-append front taken P L) ∙ ap (λ (t : List Taken). due_replies t P L) (sym is)));
  peers_are =
      next.peers_are ∙ (ap (left_plain taken) p
      ∙ (sym (left_plain-append front taken P)
      ∙ ap (λ (t : List Taken). left_plain t P) (sym is)));
  locals_are =
      next.locals_are ∙ (ap (left_stats taken) l
      ∙ (sym (left_stats-append front taken L)
      ∙ ap (λ (t : List Taken). left_stats t L) (sym is)));
}

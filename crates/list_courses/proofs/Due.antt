-- How many Replies are due.
use Rattle.std.proofs.Common.{◌≡◌, ℕ, ◌+◌, ◌≤◌, Bool, true, false, List, [], ◌∷◌, ◌++◌, length}
use Rattle.std.proofs.Common.{Option, Some, None, map, refl, ap, subst, ◌∙◌, arith, is_some}
use Rattle.std.specs.Prelude.{◌==◌, if◌then◌else◌}
use Rattle.std.specs.List.{AllByRecursion, cons_option}
use Rattle.std.proofs.lemmas.List.{map-append}
use Rattle.mstr_block.specs.declared.call.CallId.{CallId}
use Rattle.ring_core.specs.declared.entry.RingEntry.{RingEntry}
use Rattle.ring_core.specs.declared.entry.RingEntry.TheVariants.{Post, Send, Take, Local, GiveUp}
use Rattle.ring_core.specs.declared.entry.RingEntry.TheVariants.{Pass, Leave, Join}
use Rattle.tied_lists.specs.Items.{Answered, ForStats, Item, Plain, Taken, answered_of, due_replies}
use Rattle.tied_lists.specs.Items.{due_reply, first_reply, port_answers, replies_in, rest_of}
use Rattle.list_courses.specs.Completing.{due_count, first_given, given_in, left_given, one_due}
use Rattle.list_courses.specs.Completing.{rest_given}

-- a list of replies, none of which lacks
abbrev AreGiven : List (Option (List ℕ)) → Type 0
AreGiven replies = AllByRecursion (λ (r : Option (List ℕ)). is_some r ≡ true) replies

-- an answer makes as many Replies due as are counted
due-one : (id : CallId) (answers : List (Option (List ℕ))) (xs : List Item)
    → length (cons_option (due_reply id (first_reply answers)) xs)
    ≡ one_due (first_given (map is_some answers)) + length xs
due-one id [] xs = omega arith
due-one id (None ∷ rest) xs = omega arith
due-one id (Some reply ∷ rest) xs = omega arith

rest-given : (answers : List (Option (List ℕ)))
    → map is_some (rest_of answers) ≡ rest_given (map is_some answers)
rest-given [] = refl
rest-given (answer ∷ rest) = refl

-- the port's answers all have replies
stats-one : (id : CallId) (replies : List (Option (List ℕ))) (xs : List Item) → AreGiven replies
    → length (cons_option (due_reply id (first_reply replies)) xs) ≡ 1 + length xs
stats-one id [] xs given = omega arith
stats-one id (Some reply ∷ rest) xs given = omega arith
stats-one id (None ∷ rest) xs given = absurd (let no' : false ≡ true = given.0 in cc)

stats-rest : (replies : List (Option (List ℕ))) → AreGiven replies → AreGiven (rest_of replies)
stats-rest [] given = tt
stats-rest (reply ∷ rest) given = given.1

due-length : (ts : List Taken) (P L : List (Option (List ℕ))) → AreGiven L
    → length (due_replies ts P L) ≡ due_count ts (map is_some P)
due-length [] P L given = refl
due-length (Plain id rest pdu ∷ ts) P L given =
    due-one id P (due_replies ts (rest_of P) L)
    ∙ ap (λ (n : ℕ). one_due (first_given (map is_some P)) + n)
    (due-length ts (rest_of P) L given ∙ ap (due_count ts) (rest-given P))
due-length (ForStats id pdu ∷ ts) P L given =
    let here = stats-one id L (due_replies ts P (rest_of L)) given in
    let rest = due-length ts P (rest_of L) (stats-rest L given) in
    omega (arith, rest, here)

answer-given : (id : CallId) (b : Bool) (some a : Answered) → is_some some.reply ≡ true
    → (if b then None else Some some) ≡ Some a → is_some a.reply ≡ true
answer-given id true some a given e = absurd cc
answer-given id false some a given e =
    let same : some ≡ a = cc in subst (λ (x : Answered). is_some x.reply ≡ true) same given

one-given : (e : RingEntry) (a : Answered) → answered_of e ≡ Some a → is_some a.reply ≡ true
one-given (Post n f) a is = absurd cc
one-given (Send n heard) a is = absurd cc
one-given (Take n f) a is = absurd cc
one-given (Local n id op result) a is = answer-given id (id.node == n) _ a refl is
one-given (GiveUp id word) a is = absurd cc
one-given (Pass n done words) a is = absurd cc
one-given (Leave n cause) a is = absurd cc
one-given (Join n) a is = absurd cc

port-given : (b : List RingEntry) → AreGiven (replies_in (port_answers b))
port-given [] = tt
port-given (e ∷ es) = at (answered_of e) (one-given e) (port-given es)
  where
    at : (o : Option Answered) → ((a : Answered) → o ≡ Some a → is_some a.reply ≡ true)
        → AreGiven (replies_in (port_answers es))
        → AreGiven (replies_in (cons_option o (port_answers es)))
    at None one rest = rest
    at (Some a) one rest = (one a refl, rest)

-- as many Replies are due as are counted
pub due-counted : (ts : List Taken) (answers : List Answered) (b : List RingEntry)
    → length (due_replies ts (replies_in answers) (replies_in (port_answers b)))
    ≡ due_count ts (given_in answers)
due-counted ts answers b =
    due-length ts (replies_in answers) (replies_in (port_answers b)) (port-given b)

-- requests, and some more behind them
pub due_count-append : (ts us : List Taken) (P : List Bool)
    → due_count (ts ++ us) P ≡ due_count ts P + due_count us (left_given ts P)
due_count-append [] us P = omega arith
due_count-append (Plain id rest pdu ∷ ts) us P =
    omega (arith, due_count-append ts us (rest_given P))
due_count-append (ForStats id pdu ∷ ts) us P = omega (arith, due_count-append ts us P)

pub left_given-append : (ts us : List Taken) (P : List Bool)
    → left_given (ts ++ us) P ≡ left_given us (left_given ts P)
left_given-append [] us P = refl
left_given-append (Plain id rest pdu ∷ ts) us P = left_given-append ts us (rest_given P)
left_given-append (ForStats id pdu ∷ ts) us P = left_given-append ts us P

one-few : (answer : Option Bool) → one_due answer ≤ 1
one-few None = omega arith
one-few (Some false) = omega arith
one-few (Some true) = omega arith

-- no more Replies are due than Requests were taken
pub due-few : (ts : List Taken) (P : List Bool) → due_count ts P ≤ length ts
due-few [] P = omega arith
due-few (Plain id rest pdu ∷ ts) P =
    omega (arith, due-few ts (rest_given P), one-few (first_given P))
due-few (ForStats id pdu ∷ ts) P = omega (arith, due-few ts P)

-- answers, and some more behind them
pub given-append : (xs ys : List Answered) → given_in (xs ++ ys) ≡ given_in xs ++ given_in ys
given-append xs ys =
    ap (map is_some) (map-append (λ (a : Answered). a.reply) xs ys)
    ∙ map-append is_some (replies_in xs) (replies_in ys)

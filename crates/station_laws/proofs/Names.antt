-- Names of requests that a port answered, and the Replies to them, entry by entry.
use Rattle.std.proofs.Common.{◌≡◌, ℕ, Bool, true, false, List, [], ◌++◌}
use Rattle.std.proofs.Common.{map, Option, refl, sym, ap, subst, ◌∙◌}
use Rattle.std.specs.Prelude.{◌||◌, filter, is_some}
use Rattle.std.specs.List.{cons_option}
use Rattle.std.proofs.lemmas.List.{map-append}
use Rattle.std.proofs.lemmas.List.Elements.{filter-append}
use Rattle.std.proofs.lemmas.List.Folds.{list_any-append}
use Rattle.mstr_block.specs.Call.{is_same_call}
use Rattle.ring_core.specs.declared.entry.RingEntry.{RingEntry}
use Rattle.tied_lists.specs.Items.{Answered, Item, or_some, port_answers, replied_by}
use Rattle.tied_lists.specs.Tied.{is_port_reply}
use Rattle.station_laws.specs.Backs.{HasNames, NotesName, is_answered, is_to, marked_if, replies_to}
use Rattle.station_laws.specs.Bound.{SortedReply, given_in_order, is_of_sort, port_replies}
use Rattle.station_laws.specs.Bound.{replied_in_order, replied_to, sorted}
use Rattle.station_laws.specs.Comparing.{Compared, ComparesBacks}
use Rattle.station_laws.specs.declared.by_call.ByCall.{ByCall}

either : (a b : Bool) → or_some (marked_if b) (marked_if a) ≡ marked_if (a || b)
either true true = refl
either true false = refl
either false true = refl
either false false = refl

-- one name more, or none
pub names-next : (before whole : List Answered) (o : Option Answered) (old new : ByCall Bool)
    → whole ≡ before ++ cons_option o [] → HasNames before old → NotesName old o new
    → HasNames whole new
names-next before whole o old new push has notes q =
    notes q
    ∙ (ap (or_some (marked_if (is_answered (cons_option o []) q))) (has q)
    ∙ (either (is_answered before q) (is_answered (cons_option o []) q)
    ∙ ap marked_if (sym (ap (λ (l : List Answered). is_answered l q) push
    ∙ list_any-append (λ (a : Answered). is_same_call a.id q) before (cons_option o [])))))

marked : (b : Bool) → is_some (marked_if b) ≡ b
marked true = refl
marked false = refl

-- by the names a Reply is found to be one to what the port answered
pub to-port : (answers : List Answered) (names : ByCall Bool) (statistics : Bool) (item : Item)
    → HasNames answers names
    → is_to names statistics item ≡ is_of_sort statistics (is_port_reply answers item)
to-port answers names statistics item has =
    ap (is_of_sort statistics) (ap is_some (has item.0) ∙ marked (is_answered answers item.0))

-- the Replies behind some more
pub replies-append : (names : ByCall Bool) (statistics : Bool) (xs ys : List Item)
    → replies_to names statistics (xs ++ ys)
    ≡ replies_to names statistics xs ++ replies_to names statistics ys
replies-append names statistics xs ys =
    ap (map (sorted statistics)) (filter-append (is_to names statistics) xs ys)
    ∙ map-append (sorted statistics) (filter (is_to names statistics) xs)
    (filter (is_to names statistics) ys)

-- by the names all are found
pub replies-found : (answers : List Answered) (names : ByCall Bool) (statistics : Bool)
    (items : List Item) → HasNames answers names
    → replies_to names statistics items
    ≡ map (sorted statistics)
    (filter (λ (item : Item). is_of_sort statistics (is_port_reply answers item)) items)
replies-found answers names statistics items has i =
    map (sorted statistics)
    (filter (λ (item : Item). to-port answers names statistics item has i) items)

-- what was posted and what was given are compared
pub compared-backs : (backs : List Item) (b : List RingEntry) (names : ByCall Bool)
    (none some all none' some' all' xs ys : List SortedReply) (end : Option ℕ)
    → HasNames (port_answers b) names → none ≡ []
    → some ≡ none ++ replies_to names false (replied_by b)
    → all ≡ some ++ replies_to names true (replied_by b) → xs ≡ all → none' ≡ []
    → some' ≡ none' ++ map (sorted false) backs
    → all' ≡ some' ++ map (sorted true) (port_replies b) → ys ≡ all'
    → Compared xs ys end → ComparesBacks backs b end
compared-backs backs b names none some all none' some' all' xs ys end has n s a x n' s' a' y h =
    let found : (statistics : Bool) → replies_to names statistics (replied_by b)
    ≡ map (sorted statistics) (replied_to statistics b) =
    λ statistics. replies-found (port_answers b) names statistics (replied_by b) has in
    let posted : xs ≡ replied_in_order b = x ∙ (a
    ∙ (λ i. (s ∙ (λ j. n j ++ found false j)) i ++ found true i)) in
    let given : ys ≡ given_in_order backs b = y ∙ (a'
    ∙ (λ i. (s' ∙ (λ j. n' j ++ map (sorted false) backs)) i
    ++ map (sorted true) (port_replies b))) in
    subst (λ (l : List SortedReply). Compared l (given_in_order backs b) end) posted
    (subst (λ (l : List SortedReply). Compared xs l end) given h)

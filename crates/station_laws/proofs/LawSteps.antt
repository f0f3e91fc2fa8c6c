-- The laws at stations.
use Rattle.std.proofs.Common.{◌≡◌, ℕ, true, false, List, ◌++◌, map, Option, Some, None, sym}
use Rattle.std.proofs.Common.{subst, ◌∙◌}
use Rattle.ring_core.specs.declared.entry.RingEntry.{RingEntry}
use Rattle.tied_lists.specs.Items.{ABridge, Answered, Item, Items, Station, item_of, plain_items}
use Rattle.tied_lists.specs.Items.{port_answers, stats_items, taken_by}
use Rattle.tied_lists.specs.Tied.{RepliesAreBacks}
use Rattle.station_laws.specs.Bound.{Sorted, answered_in_order, sorted, given_in_order}
use Rattle.station_laws.specs.Bound.{port_replies, replied_in_order, replied_to, sorted_answer}
use Rattle.station_laws.specs.Bound.{taken_in_order}
use Rattle.station_laws.specs.Comparing.{Compared, IsLawEnd}
use Rattle.station_laws.specs.declared.law.Law.{Law}
use Rattle.station_laws.specs.declared.law.Law.TheVariants.{Answers, Replies}
use Rattle.station_laws.proofs.AnswerSteps.{parts-same, sorted-items}

-- the second law by its joined lists
joined-items : (answers : List Answered) (ring : List RingEntry)
    → answered_in_order answers ring ≡ map (sorted false) (map item_of answers)
    ++ map (sorted true) (map item_of (port_answers ring))
joined-items answers ring i =
    sorted-items false answers i ++ sorted-items true (port_answers ring) i

keeps-answers : (answers : List Answered) (ring : List RingEntry)
    → answered_in_order answers ring ≡ taken_in_order ring
    → (map item_of answers ≡ plain_items (taken_by ring))
    × (map item_of (port_answers ring) ≡ stats_items (taken_by ring))
keeps-answers answers ring e =
    parts-same (map item_of answers) (map item_of (port_answers ring))
    (plain_items (taken_by ring)) (stats_items (taken_by ring))
    (sym (joined-items answers ring) ∙ e)

at-answers : (station : Station) (items : Items) (backs : List Item) (ring : List RingEntry)
    (end : Option ℕ) → Compared (answered_in_order items.answers ring) (taken_in_order ring) end
    → IsLawEnd Answers station items backs ring end
at-answers station items backs ring None h = keeps-answers items.answers ring h
at-answers station items backs ring (Some place) h = h

pub answers-end : (law : Law) (station : Station) (items : Items) (backs : List Item)
    (ring : List RingEntry) (answers : List Sorted) (end : Option ℕ) → law ≡ Answers
    → answers ≡ map (sorted_answer false) items.answers
    → Compared (answers ++ map (sorted_answer true) (port_answers ring)) (taken_in_order ring)
    end
    → IsLawEnd law station items backs ring end
answers-end law station items backs ring answers end is made h =
    subst (λ (l : Law). IsLawEnd l station items backs ring end) (sym is)
    (at-answers station items backs ring end
    (subst (λ (l : List Sorted). Compared (l ++ map (sorted_answer true) (port_answers ring))
    (taken_in_order ring) end) made h))

-- the third law at an end of a bridge by its joined lists
backs-same : (backs : List Item) (ring : List RingEntry)
    → replied_in_order ring ≡ given_in_order backs ring → RepliesAreBacks backs ring
backs-same backs ring e =
    let parts = parts-same (replied_to false ring) (replied_to true ring) backs
    (port_replies ring) e in
    record { given = parts.0; told = parts.1 }

pub same-backs : (backs : List Item) (ring : List RingEntry) → RepliesAreBacks backs ring
    → replied_in_order ring ≡ given_in_order backs ring
same-backs backs ring keeps i =
    map (sorted false) (keeps.given i) ++ map (sorted true) (keeps.told i)

at-backs : (items : Items) (backs : List Item) (ring : List RingEntry) (end : Option ℕ)
    → Compared (replied_in_order ring) (given_in_order backs ring) end
    → IsLawEnd Replies ABridge items backs ring end
at-backs items backs ring None h = backs-same backs ring h
at-backs items backs ring (Some place) h = h

pub backs-end : (law : Law) (items : Items) (backs : List Item) (ring : List RingEntry)
    (end : Option ℕ) → law ≡ Replies
    → Compared (replied_in_order ring) (given_in_order backs ring) end
    → IsLawEnd law ABridge items backs ring end
backs-end law items backs ring end is h =
    subst (λ (l : Law). IsLawEnd l ABridge items backs ring end) (sym is)
    (at-backs items backs ring end h)

pub keeps-joined : (answers : List Answered) (ring : List RingEntry)
    → map item_of answers ≡ plain_items (taken_by ring)
    → map item_of (port_answers ring) ≡ stats_items (taken_by ring)
    → answered_in_order answers ring ≡ taken_in_order ring
keeps-joined answers ring peers port =
    joined-items answers ring ∙ (λ i. map (sorted false) (peers i) ++ map (sorted true) (port i))

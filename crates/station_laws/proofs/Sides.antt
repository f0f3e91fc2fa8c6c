-- A bridge's list for one of its ends, one entry more at a time.
use Rattle.std.proofs.Common.{◌≡◌, ℕ, ◌+◌, ◌<◌, ◌==◌, Bool, true, false, cond, List, [], ◌∷◌, ◌++◌}
use Rattle.std.proofs.Common.{length, get_or, take, Option, Some, None}
use Rattle.std.proofs.Common.{refl, sym, ap, ◌∙◌, append-nil}
use Rattle.std.specs.Prelude.{if◌then◌else◌}
use Rattle.std.specs.List.{cons_option, filter_map}
use Rattle.std.proofs.lemmas.List.Elements.{filter-append, filter_map-append}
use Rattle.bridge_relay.specs.Laws.{is_by}
use Rattle.bridge_relay.specs.declared.entry.BridgeEntry.{BridgeEntry}
use Rattle.bridge_relay.specs.declared.entry.BridgeEntry.TheVariants.{Accept, Forward, Finish}
use Rattle.bridge_relay.specs.declared.entry.BridgeEntry.TheVariants.{Back, Gone}
use Rattle.tied_lists.specs.Items.{Answered, Called, Ended, Item, Items, kind_in, no_items}
use Rattle.joint_history.specs.Bridges.{back_of, backs_of, made_at_end, side_item_next, side_items}
use Rattle.joint_history.specs.Bridges.{side_items_after}
use Rattle.station_laws.specs.Endings.{side_end_with}
use Rattle.station_laws.specs.Readings.{side_answer_in, side_back_in, side_call_in}
use Rattle.station_laws.proofs.Lists.{take-push}

items-joined : (a : Items) (xs ys : List BridgeEntry)
    → side_items_after a (xs ++ ys) ≡ side_items_after (side_items_after a xs) ys
items-joined a [] ys = refl
items-joined a (x ∷ xs) ys = items-joined (side_item_next a x) xs ys

-- the items behind one entry more, which is of the end or not
items-push : (side : ℕ) (es : List BridgeEntry) (i : ℕ) (e : BridgeEntry) → i < length es
    → e ≡ get_or es i e
    → side_items side (take (i + 1) es)
    ≡ side_items_after (side_items side (take i es)) (made_at_end side (e ∷ []))
items-push side es i e low is =
    ap (side_items side) (take-push es i e low is)
    ∙ (ap (side_items_after no_items) (filter-append (is_by side) (take i es) (e ∷ []))
    ∙ items-joined no_items (made_at_end side (take i es)) (made_at_end side (e ∷ [])))

-- an entry that adds nothing here, whoever made it
still : {A : Type 0} (part : Items → List A) (a : Items) (e : BridgeEntry) (mine : Bool)
    → part (side_item_next a e) ≡ part a
    → part (side_items_after a (cond mine (e ∷ []) [])) ≡ part a ++ []
still part a e true same = same ∙ sym (append-nil (part a))
still part a e false same = sym (append-nil (part a))

-- one that adds something, if the end made it
adds : {A : Type 0} (part : Items → List A) (a : Items) (e : BridgeEntry) (mine : Bool) (x : A)
    → part (side_item_next a e) ≡ part a ++ x ∷ []
    → part (side_items_after a (cond mine (e ∷ []) []))
    ≡ part a ++ cons_option (if mine then Some x else None) []
adds part a e true x more = more
adds part a e false x more = sym (append-nil (part a))

abbrev calls_of : Items → List Called
calls_of a = a.calls

abbrev answers_of : Items → List Answered
answers_of a = a.answers

abbrev ends_in : Items → List Ended
ends_in a = a.ends

one-calls : (side : ℕ) (a : Items) (e : BridgeEntry)
    → (side_items_after a (made_at_end side (e ∷ []))).calls
    ≡ a.calls ++ cons_option (side_call_in side e) []
one-calls side a (Accept near id route request) =
    still calls_of a (Accept near id route request) (near == side) refl
one-calls side a (Forward near old id route request) =
    adds calls_of a (Forward near old id route request) (near == side) _ refl
one-calls side a (Finish near id result) =
    still calls_of a (Finish near id result) (near == side) refl
one-calls side a (Back near id reply) =
    still calls_of a (Back near id reply) (near == side) refl
one-calls side a (Gone near) = still calls_of a (Gone near) (near == side) refl

one-answers : (side : ℕ) (a : Items) (e : BridgeEntry)
    → (side_items_after a (made_at_end side (e ∷ []))).answers
    ≡ a.answers ++ cons_option (side_answer_in side e) []
one-answers side a (Accept near id route request) =
    adds answers_of a (Accept near id route request) (near == side) _ refl
one-answers side a (Forward near old id route request) =
    still answers_of a (Forward near old id route request) (near == side) refl
one-answers side a (Finish near id result) =
    still answers_of a (Finish near id result) (near == side) refl
one-answers side a (Back near id reply) =
    still answers_of a (Back near id reply) (near == side) refl
one-answers side a (Gone near) = still answers_of a (Gone near) (near == side) refl

one-ends : (side : ℕ) (a : Items) (e : BridgeEntry)
    → (side_items_after a (made_at_end side (e ∷ []))).ends
    ≡ a.ends ++ cons_option (side_end_with side (kind_in a.calls) e) []
one-ends side a (Accept near id route request) =
    still ends_in a (Accept near id route request) (near == side) refl
one-ends side a (Forward near old id route request) =
    still ends_in a (Forward near old id route request) (near == side) refl
one-ends side a (Finish near id result) =
    adds ends_in a (Finish near id result) (near == side) _ refl
one-ends side a (Back near id reply) =
    still ends_in a (Back near id reply) (near == side) refl
one-ends side a (Gone near) = still ends_in a (Gone near) (near == side) refl

pub side-calls-more : (side : ℕ) (es : List BridgeEntry) (i : ℕ) (e : BridgeEntry)
    → i < length es → e ≡ get_or es i e
    → (side_items side (take (i + 1) es)).calls ≡ (side_items side (take i es)).calls
    ++ cons_option (side_call_in side e) []
side-calls-more side es i e low is =
    ap calls_of (items-push side es i e low is) ∙ one-calls side (side_items side (take i es)) e

pub side-answers-more : (side : ℕ) (es : List BridgeEntry) (i : ℕ) (e : BridgeEntry)
    → i < length es → e ≡ get_or es i e
    → (side_items side (take (i + 1) es)).answers ≡ (side_items side (take i es)).answers
    ++ cons_option (side_answer_in side e) []
side-answers-more side es i e low is =
    ap answers_of (items-push side es i e low is)
    ∙ one-answers side (side_items side (take i es)) e

pub side-ends-more : (side : ℕ) (es : List BridgeEntry) (i : ℕ) (e : BridgeEntry)
    → i < length es → e ≡ get_or es i e
    → (side_items side (take (i + 1) es)).ends ≡ (side_items side (take i es)).ends
    ++ cons_option (side_end_with side (kind_in (side_items side (take i es)).calls) e) []
side-ends-more side es i e low is =
    ap ends_in (items-push side es i e low is) ∙ one-ends side (side_items side (take i es)) e

-- what an entry gives back, if the end made it
none-back : (e : BridgeEntry) (mine : Bool) → back_of e ≡ None
    → filter_map back_of (cond mine (e ∷ []) []) ≡ []
none-back e true none = ap (λ (o : Option Item). cons_option o []) none
none-back e false none = refl

some-back : (e : BridgeEntry) (mine : Bool) (item : Item) → back_of e ≡ Some item
    → filter_map back_of (cond mine (e ∷ []) [])
    ≡ cons_option (if mine then Some item else None) []
some-back e true item is = ap (λ (o : Option Item). cons_option o []) is
some-back e false item is = refl

one-back : (side : ℕ) (e : BridgeEntry)
    → filter_map back_of (made_at_end side (e ∷ [])) ≡ cons_option (side_back_in side e) []
one-back side (Accept near id route request) =
    none-back (Accept near id route request) (near == side) refl
one-back side (Forward near old id route request) =
    none-back (Forward near old id route request) (near == side) refl
one-back side (Finish near id result) = none-back (Finish near id result) (near == side) refl
one-back side (Back near id reply) =
    some-back (Back near id reply) (near == side) (id, Some reply) refl
one-back side (Gone near) = none-back (Gone near) (near == side) refl

pub side-backs-more : (side : ℕ) (es : List BridgeEntry) (i : ℕ) (e : BridgeEntry)
    → i < length es → e ≡ get_or es i e
    → backs_of side (take (i + 1) es)
    ≡ backs_of side (take i es) ++ cons_option (side_back_in side e) []
side-backs-more side es i e low is =
    ap (backs_of side) (take-push es i e low is)
    ∙ (ap (filter_map back_of) (filter-append (is_by side) (take i es) (e ∷ []))
    ∙ (filter_map-append back_of (made_at_end side (take i es)) (made_at_end side (e ∷ []))
    ∙ ap (λ (l : List Item). backs_of side (take i es) ++ l) (one-back side e)))

-- A bridge's list for one of its ends, as it goes on.
use Rattle.std.proofs.Common.{◌≡◌, ℕ, Bool, List, [], ◌∷◌, ◌++◌, cond, filter_map}
use Rattle.std.proofs.Common.{refl, ap, ◌∙◌, append-nil, eq-eqb}
use Rattle.std.specs.List.{cons_option, AllByRecursion as Each}
use Rattle.std.proofs.lemmas.List.Elements.{filter_map-append}
use Rattle.bridge_relay.specs.Machine.{side_of}
use Rattle.bridge_relay.specs.declared.entry.BridgeEntry.{BridgeEntry}
use Rattle.bridge_relay.specs.declared.entry.BridgeEntry.TheVariants.{Accept, Forward, Finish}
use Rattle.bridge_relay.specs.declared.entry.BridgeEntry.TheVariants.{Back, Gone}
use Rattle.tied_lists.specs.Own.{WentOn}
use Rattle.tied_lists.specs.Items.{Called, Items, NetCall, kind_of_sort, no_items}
use Rattle.tied_lists.proofs.Boxes.{each-push}
use Rattle.tied_lists.proofs.Growth.{grew-one, grew-ours}
use Rattle.bridge_relay.specs.Laws.{is_by}
use Rattle.comm_port.specs.JointHistory.{back_of, backs_of, made_at_end, side_item_next, side_items}
use Rattle.comm_port.specs.JointHistory.{side_items_after}

-- an entry of an end stands in its own list
pub mine-one : (n : ℕ) (e : BridgeEntry) → side_of e ≡ n → made_at_end n (e ∷ []) ≡ e ∷ []
mine-one n e is = ap (λ (b : Bool). cond b (e ∷ []) []) (eq-eqb (side_of e) n is)

-- entries of the other end, and then these
pub made-went : (alone : Bool) (n : ℕ) (old added new : List BridgeEntry)
    → made_at_end n added ≡ added → WentOn alone (is_by n) old added new
    → made_at_end n new ≡ made_at_end n old ++ added
made-went alone n old added new mine w =
    grew-ours alone (is_by n) old added new (grew-one alone (is_by n) old added new mine w)

pub made-still : (alone : Bool) (n : ℕ) (old new : List BridgeEntry)
    → WentOn alone (is_by n) old [] new → made_at_end n new ≡ made_at_end n old
made-still alone n old new w =
    made-went alone n old [] new refl w ∙ append-nil (made_at_end n old)

pub made-one : (alone : Bool) (n : ℕ) (old : List BridgeEntry) (e : BridgeEntry)
    (new : List BridgeEntry) → side_of e ≡ n → WentOn alone (is_by n) old (e ∷ []) new
    → made_at_end n new ≡ made_at_end n old ++ e ∷ []
made-one alone n old e new is w = made-went alone n old (e ∷ []) new (mine-one n e is) w

pub items-joined : (a : Items) (xs ys : List BridgeEntry)
    → side_items_after a (xs ++ ys) ≡ side_items_after (side_items_after a xs) ys
items-joined a [] ys = refl
items-joined a (x ∷ xs) ys = items-joined (side_item_next a x) xs ys

-- the items after an entry of the end, and after none
pub items-one : (alone : Bool) (n : ℕ) (old : List BridgeEntry) (e : BridgeEntry)
    (new : List BridgeEntry) → side_of e ≡ n → WentOn alone (is_by n) old (e ∷ []) new
    → side_items n new ≡ side_item_next (side_items n old) e
items-one alone n old e new is w = ap (side_items_after no_items) (made-one alone n old e new is w)
    ∙ items-joined no_items (made_at_end n old) (e ∷ [])

pub items-still : (alone : Bool) (n : ℕ) (old new : List BridgeEntry)
    → WentOn alone (is_by n) old [] new → side_items n new ≡ side_items n old
items-still alone n old new w = ap (side_items_after no_items) (made-still alone n old new w)

-- what it gave back
pub backs-one : (alone : Bool) (n : ℕ) (old : List BridgeEntry) (e : BridgeEntry)
    (new : List BridgeEntry) → side_of e ≡ n → WentOn alone (is_by n) old (e ∷ []) new
    → backs_of n new ≡ backs_of n old ++ cons_option (back_of e) []
backs-one alone n old e new is w = ap (filter_map back_of) (made-one alone n old e new is w)
    ∙ filter_map-append back_of (made_at_end n old) (e ∷ [])

pub backs-still : (alone : Bool) (n : ℕ) (old new : List BridgeEntry)
    → WentOn alone (is_by n) old [] new → backs_of n new ≡ backs_of n old
backs-still alone n old new w = ap (filter_map back_of) (made-still alone n old new w)

-- each call of an end goes over the network
abbrev pub IsNet : Called → Type 0
IsNet c = kind_of_sort c.sort ≡ NetCall

net-next : (a : Items) (e : BridgeEntry) → Each IsNet a.calls
    → Each IsNet (side_item_next a e).calls
net-next a (Accept side id route request) all = all
net-next a (Forward side old id route request) all = each-push IsNet a.calls _ all refl
net-next a (Finish side id result) all = all
net-next a (Back side id reply) all = all
net-next a (Gone side) all = all

net-after : (a : Items) (es : List BridgeEntry) → Each IsNet a.calls
    → Each IsNet (side_items_after a es).calls
net-after a [] all = all
net-after a (e ∷ es) all = net-after (side_item_next a e) es (net-next a e all)

pub all-net : (n : ℕ) (list : List BridgeEntry) → Each IsNet (side_items n list).calls
all-net n list = net-after no_items (made_at_end n list) tt

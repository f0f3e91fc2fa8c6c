-- Calls that wait, and calls that are out.
use Rattle.std.proofs.Common.{◌≡◌, ◌≢◌, ℕ, zero, suc, Bool, true, false}
use Rattle.std.proofs.Common.{List, [], ◌∷◌, filter_map, Option, Some, None, inl, inr}
use Rattle.std.proofs.Common.{refl, sym, ap, ◌∙◌, arith}
use Rattle.std.specs.Prelude.{◌||◌, if◌then◌else◌}
use Rattle.std.specs.List.{cons_option}
use Rattle.mstr_block.specs.Call.{is_same_call}
use Rattle.mstr_block.specs.declared.call.CallId.{CallId}
use Rattle.plant_types.specs.declared.net.NetPlan.{NetPlan}
use Rattle.ring_core.specs.declared.entry.RingEntry.{RingEntry}
use Rattle.ring_core.specs.declared.frame.Frame.{Frame}
use Rattle.ring_core.specs.Legal.{IsPath}
use Rattle.controller_core.specs.declared.entry.Entry.{Entry}
use Rattle.controller_core.specs.declared.fixed.Fixed.{Fixed}
use Rattle.tied_lists.specs.Items.{AController, Called, CallSort, Items, Kind, LocalCall}
use Rattle.tied_lists.specs.Items.{NetCall, OverNet, AtHome, kind_in}
use Rattle.tied_lists.specs.Items.{kind_of_sort, net_ask}
use Rattle.tied_lists.specs.Own.{own}
use Rattle.tied_lists.specs.Waits.{waiting}
use Rattle.tied_lists.proofs.Histories.{legal-follows}
use Rattle.joint_history.specs.Reading.{items_of}
use Rattle.comm_port.specs.Parts.{calls_waiting}
use Rattle.comm_port.specs.Waiting.{id_of}
use Rattle.mstr_block.specs.Table.{network_paths}
use Rattle.turn_laws.specs.KeepsOn.{DidAtHome}
use Rattle.turn_laws.specs.KeepsOn.{StandsTied}
use Rattle.turn_laws.proofs.Rests.{NoneOut, end-none}
use Rattle.turn_laws.proofs.Rests.{over}
use Rattle.turn_laws.proofs.Posted.{all-wait, asked_named}

clash : {C : Type 0} {b : Bool} → b ≡ true → b ≡ false → C
clash is no' = let e : true ≡ false = sym is ∙ no' in absurd cc

some-none : {X C : Type 0} {x : X} → Some x ≡ None → C
some-none is = absurd cc

-- ---- calls that wait

pub none-listed : (n : ℕ) (ring : List RingEntry) → ((path : ℕ) → waiting path (own n ring) ≡ None)
    → calls_waiting n ring ≡ []
none-listed n ring none = λ i. filter_map (λ path. id_of (none path i)) network_paths

-- what a list of picked ones without any says of each
none-picked : {X Y : Type 0} (pick : X → Option Y) (x : X) (xs : List X)
    → filter_map pick (x ∷ xs) ≡ [] → (pick x ≡ None) × (filter_map pick xs ≡ [])
none-picked {X} {Y} pick x xs is = at (pick x) is
  where
    at : (o : Option Y) → cons_option o (filter_map pick xs) ≡ []
        → (o ≡ None) × (filter_map pick xs ≡ [])
    at None is' = (refl, is')
    at (Some y) is' = absurd (let no' : y ∷ filter_map pick xs ≡ [] = is' in cc)

no-id : (o : Option Frame) → id_of o ≡ None → o ≡ None
no-id None is = refl
no-id (Some f) is = some-none is

path-of : (path : ℕ) → IsPath path → (P : ℕ → Type 0) → P 1 → P 2 → P 3 → P 4 → P path
path-of path is P one two three four = at path is
  where
    at : (p : ℕ) → IsPath p → P p
    at zero is' = absurd (let low = is'.0 in omega (arith, low))
    at (suc zero) is' = one
    at (suc (suc zero)) is' = two
    at (suc (suc (suc zero))) is' = three
    at (suc (suc (suc (suc zero)))) is' = four
    at (suc (suc (suc (suc (suc p))))) is' = absurd (let high = is'.1 in omega (arith, high))

listed-none : (n : ℕ) (ring : List RingEntry) → calls_waiting n ring ≡ [] → (path : ℕ) → IsPath path
    → waiting path (own n ring) ≡ None
listed-none n ring is path low =
    let pick = λ (p : ℕ). id_of (waiting p (own n ring)) in
    let one = none-picked pick 1 (2 ∷ 3 ∷ 4 ∷ []) is in
    let two = none-picked pick 2 (3 ∷ 4 ∷ []) one.1 in
    let three = none-picked pick 3 (4 ∷ []) two.1 in
    let four = none-picked pick 4 [] three.1 in
    path-of path low (λ p. waiting p (own n ring) ≡ None) (no-id _ one.0) (no-id _ two.0)
    (no-id _ three.0) (no-id _ four.0)

-- ---- calls that are out

net-named : (calls : List Called) (id : CallId) → kind_in calls id ≡ Some NetCall
    → asked_named id (filter_map net_ask calls) ≡ true
net-named [] id is = some-none (sym is)
net-named (c ∷ cs) id is = by-sort c.sort refl (net-named cs id)
  where
    some : {X : Type 0} {x y : X} → Some x ≡ Some y → x ≡ y
    some same = cc

    or-right : (x y : Bool) → y ≡ true → (x || y) ≡ true
    or-right true y is' = refl
    or-right false y is' = is'

    named : (b : Bool) → is_same_call c.id id ≡ b
        → (if b then Some (kind_of_sort c.sort) else kind_in cs id) ≡ Some NetCall
        → (kind_in cs id ≡ Some NetCall → asked_named id (filter_map net_ask cs) ≡ true)
        → (is_same_call c.id id || asked_named id (filter_map net_ask cs)) ≡ true
    named true same found rest = ap (λ b. b || asked_named id (filter_map net_ask cs)) same
    named false same found rest = or-right (is_same_call c.id id) _ (rest found)

    apart : (b : Bool) → (kind : Kind) → kind ≢ NetCall
        → (if b then Some kind else kind_in cs id) ≡ Some NetCall
        → (kind_in cs id ≡ Some NetCall → asked_named id (filter_map net_ask cs) ≡ true)
        → asked_named id (filter_map net_ask cs) ≡ true
    apart true kind other found rest = absurd (other (some found))
    apart false kind other found rest = rest found

    by-sort : (sort : CallSort) → c.sort ≡ sort
        → (kind_in cs id ≡ Some NetCall → asked_named id (filter_map net_ask cs) ≡ true)
        → asked_named id (filter_map net_ask (c ∷ cs)) ≡ true
    by-sort (OverNet route pdu) same rest =
        ap (λ (s : CallSort).
        asked_named id (filter_map net_ask (record { id = c.id; sort = s } ∷ cs))) same
        ∙ named (is_same_call c.id id) refl is rest
    by-sort (AtHome op) same rest =
        ap (λ (s : CallSort).
        asked_named id (filter_map net_ask (record { id = c.id; sort = s } ∷ cs))) same
        ∙ apart (is_same_call c.id id) (LocalCall op)
        (λ e. let no' : LocalCall op ≡ NetCall = e in cc)
        (ap (λ (s : CallSort). if is_same_call c.id id then Some (kind_of_sort s)
        else kind_in cs id) (sym same) ∙ is) rest

-- where nothing waits and what was to be done at home is done, none is out
pub none-open : (fixed : Fixed) (net : NetPlan) (n : ℕ) (entries : List Entry)
    (ring : List RingEntry) → StandsTied fixed net n entries ring
    → DidAtHome (items_of entries) → calls_waiting n ring ≡ [] → NoneOut (items_of entries)
none-open fixed net n entries ring st home idle id out = by-kind out.0 out.1
  where
    a : Items
    a = items_of entries

    by-kind : (kind : Kind) → Rattle.tied_lists.specs.Calls.IsOutAs a id kind → ⊥
    by-kind (LocalCall op) is = home id op is
    by-kind NetCall is =
        elim (all-wait AController net n ring st.on id
        (ap (asked_named id) st.tied.asks ∙ net-named a.calls id is.made)) [
          | inl w ↦
              let low =
              ((legal-follows net ring n st.on).node.part.asks w.path w.frame w.waits).is_path in
              some-none (sym w.waits ∙ listed-none n ring idle w.path low)
          | inr ended ↦ clash (ap (over id) st.tied.ends ∙ ended) (end-none id a.ends is.unended)
        ]

-- and where none is out, nothing waits
pub none-waits : (fixed : Fixed) (net : NetPlan) (n : ℕ) (entries : List Entry)
    (ring : List RingEntry) → StandsTied fixed net n entries ring
    → NoneOut (items_of entries) → (path : ℕ) → waiting path (own n ring) ≡ None
none-waits fixed net n entries ring st none path = at (waiting path (own n ring)) refl
  where
    at : (o : Option Frame) → waiting path (own n ring) ≡ o → waiting path (own n ring) ≡ None
    at None is = is
    at (Some f) is = absurd (none f.id (st.waits path f is))

-- What a node noted on several rings.
use Rattle.std.proofs.Common.{◌≡◌, ℕ, suc, ◌+◌, ◌<◌, ◌≤◌, List, [], ◌∷◌, ◌++◌, length, get_or, take}
use Rattle.std.proofs.Common.{drop, refl, sym, ap, subst, ◌∙◌, ⊎_elim, inr, arith, append-nil}
use Rattle.std.proofs.Common.{append_assoc}
use Rattle.std.specs.Prelude.{map}
use Rattle.std.proofs.lemmas.Bool.{cases_lt}
use Rattle.std.proofs.lemmas.List.{drop_more, get_or_append_left, get_or_at, get_or_default}
use Rattle.std.proofs.lemmas.List.{length-map, take-append-drop}
use Rattle.std.proofs.Math.Seq.{take-suc}
use Rattle.ring_core.specs.declared.entry.RingEntry.{RingEntry}
use Rattle.tied_lists.specs.Own.{own}
use Rattle.joint_history.specs.declared.joint.RingLog.{RingLog}
use Rattle.joint_history.specs.Nets.{entries_of_rings}
use Rattle.net_laws.proofs.Rings.{own-cons}
use Rattle.own_places.specs.Places.{ArePlaces, node_numbers}
use Rattle.station_laws.specs.Picked.{AreOfNode, entry_at}
use Rattle.joint_law.specs.OnRings.{ArePlacesOn, IsOnOne}
use Rattle.joint_law.proofs.AtNodes.{item-of}
use Rattle.joint_law.proofs.OwnPlaces.{of-node}

-- on some rings, and then on others
own-joined : (n : ℕ) (xs ys : List RingLog)
    → own n (entries_of_rings (xs ++ ys))
    ≡ own n (entries_of_rings xs) ++ own n (entries_of_rings ys)
own-joined n [] ys = refl
own-joined n (x ∷ xs) ys =
    own-cons n x (xs ++ ys)
    ∙ (ap (λ (l : List RingEntry). own n x.entries ++ l) (own-joined n xs ys)
    ∙ (sym (append_assoc (own n x.entries) (own n (entries_of_rings xs))
    (own n (entries_of_rings ys)))
    ∙ ap (λ (l : List RingEntry). l ++ own n (entries_of_rings ys)) (sym (own-cons n x xs))))

-- on the first rings, and then on one more
pub own-more : (n : ℕ) (rings : List RingLog) (k : ℕ) (ring : RingLog) → k < length rings
    → ring ≡ get_or rings k ring → own n (entries_of_rings (take k rings)) ≡ []
    → own n ring.entries ≡ [] → own n (entries_of_rings (take (k + 1) rings)) ≡ []
own-more n rings k ring low is before here =
    let one_more : suc k ≡ k + 1 = omega arith in
    ap (λ (i : ℕ). own n (entries_of_rings (take i rings))) (sym one_more)
    ∙ (ap (λ (l : List RingLog). own n (entries_of_rings l)) (take-suc rings k ring low)
    ∙ (own-joined n (take k rings) (get_or rings k ring ∷ [])
    ∙ (λ i. before i ++ (ap (λ (r : RingLog). own n r.entries) (sym is) ∙ here) i)))

-- a node that noted nothing on the first rings, and something on the next, noted nothing else
pub own-alone : (n : ℕ) (rings : List RingLog) (k : ℕ) (ring : RingLog) → k < length rings
    → ring ≡ get_or rings k ring → IsOnOne n rings → own n (entries_of_rings (take k rings)) ≡ []
    → (own n ring.entries ≡ [] → ⊥) → own n ring.entries ≡ own n (entries_of_rings rings)
own-alone n rings k ring low is one before some =
    let around : rings ≡ take k rings ++ ring ∷ drop (k + 1) rings =
    sym (take-append-drop k rings)
    ∙ (ap (λ (l : List RingLog). take k rings ++ l) (drop_more rings k ring low)
    ∙ ap (λ (r : RingLog). take k rings ++ r ∷ drop (k + 1) rings) (sym is)) in
    let after = drop (k + 1) rings in
    let behind : own n (entries_of_rings after) ≡ [] =
    ⊎_elim (λ (none : own n ring.entries ≡ []). absurd (some none))
    (λ (none : own n (entries_of_rings after) ≡ []). none) (one (take k rings) after ring around) in
    sym (ap (λ (l : List RingLog). own n (entries_of_rings l)) around
    ∙ (own-joined n (take k rings) (ring ∷ after)
    ∙ (ap (λ (l : List RingEntry). l ++ own n (entries_of_rings (ring ∷ after))) before
    ∙ (own-cons n ring after
    ∙ (ap (λ (l : List RingEntry). own n ring.entries ++ l) behind
    ∙ append-nil (own n ring.entries))))))

-- a node has as many entries as places
none-there : (places : List ℕ) → length places ≡ 0 → places ≡ []
none-there [] none = refl
none-there (p ∷ ps) none = absurd (omega (arith, none))

pub no-places : (ring : List RingEntry) (n : ℕ) (places : List ℕ) → AreOfNode ring n places
    → length places ≡ 0 → own n ring ≡ []
no-places ring n places of none =
    sym of.own_is ∙ ap (map (entry_at ring)) (none-there places none)

pub some-places : (ring : List RingEntry) (n : ℕ) (places : List ℕ) → AreOfNode ring n places
    → own n ring ≡ [] → length places ≡ 0
some-places ring n places of none =
    sym (length-map places (entry_at ring)) ∙ ap length (of.own_is ∙ none)

-- places that were found on the first rings, and on one more
pub places-more : (rings : List RingLog) (own_on : List (List (List ℕ))) (i : ℕ) (ring : RingLog)
    (new : List (List ℕ)) → length own_on ≡ i → i < length rings → ring ≡ get_or rings i ring
    → ((k : ℕ) (d : RingLog) → k < i
    → ArePlaces (get_or rings k d).entries (get_or own_on k []))
    → ArePlaces ring.entries new → (k : ℕ) (d : RingLog) → k < i + 1
    → ArePlaces (get_or rings k d).entries (get_or (own_on ++ new ∷ []) k [])
places-more rings own_on i ring new size low is before here k d below =
    ⊎_elim
    (λ (l : k < i).
    subst (ArePlaces (get_or rings k d).entries)
    (sym (get_or_append_left own_on (new ∷ []) [] k (omega (arith, size, l)))) (before k d l))
    (λ (l : i ≤ k).
    let e : i ≡ k = omega arith in
    let log : ring ≡ get_or rings k d = is ∙ get_or_default rings i ring d low
    ∙ ap (λ (n : ℕ). get_or rings n d) e in
    subst (λ (r : RingLog). ArePlaces r.entries (get_or (own_on ++ new ∷ []) k [])) log
    (subst (ArePlaces ring.entries)
    (sym (get_or_at own_on new [] [] k (omega (arith, size, e)))) here))
    (cases_lt k i)

-- the places that were found on one ring of them
found-at : (rings : List RingLog) (own_on : List (List (List ℕ))) (k : ℕ) (ring : RingLog)
    (new : List (List ℕ)) → ArePlacesOn rings own_on → k < length rings
    → ring ≡ get_or rings k ring → new ≡ get_or own_on k new → ArePlaces ring.entries new
found-at rings own_on k ring new of low is is-new =
    let count = of.count in
    subst (λ (r : RingLog). ArePlaces r.entries new) (sym is)
    (subst (ArePlaces (get_or rings k ring).entries)
    (get_or_default own_on k [] new (omega (arith, count, low)) ∙ sym is-new)
    (of.each k ring low))

pub of-ring-at : (n : ℕ) (rings : List RingLog) (own_on : List (List (List ℕ))) (k : ℕ)
    (ring : RingLog) (new : List (List ℕ)) (places : List ℕ) → ArePlacesOn rings own_on
    → n < node_numbers → k < length rings → ring ≡ get_or rings k ring
    → new ≡ get_or own_on k new → places ≡ get_or new n [] → AreOfNode ring.entries n places
of-ring-at n rings own_on k ring new places of low-node low is is-new are =
    of-node ring.entries ring.entries new places n
    (found-at rings own_on k ring new of low is is-new) low-node refl are

-- a node that has no place on the next ring
pub none-more : (n : ℕ) (rings : List RingLog) (own_on : List (List (List ℕ))) (k : ℕ)
    (new : List (List ℕ)) (places : List ℕ) → ArePlacesOn rings own_on → n < node_numbers
    → k < length rings → new ≡ get_or own_on k new → places ≡ get_or new n []
    → length places ≡ 0 → own n (entries_of_rings (take k rings)) ≡ []
    → own n (entries_of_rings (take (k + 1) rings)) ≡ []
none-more n rings own_on k new places of low-node low is-new are none before =
    let any = item-of rings k low in
    let ring = get_or rings k any in
    let is = get_or_default rings k any ring low in
    own-more n rings k ring low is before
    (no-places ring.entries n places
    (of-ring-at n rings own_on k ring new places of low-node low is is-new are) none)

-- The places of all nodes, and of one entry more.
use Rattle.std.proofs.Common.{◌≡◌, ◌≢◌, ℕ, ◌+◌, ◌<◌, List, [], ◌∷◌, ◌++◌, length, get_or, set}
use Rattle.std.proofs.Common.{take, replicate, sym, ap, subst, ◌∙◌, ⊎_elim, arith}
use Rattle.std.proofs.lemmas.Bool.{cases_eq, eq-eqb, ne_eqb}
use Rattle.std.proofs.lemmas.List.{get_or-set_same, get_or-set_other, get_or-replicate, length-set}
use Rattle.std.proofs.lemmas.List.{length-replicate, length-take-le, take_more}
use Rattle.ring_core.specs.Words.{maker}
use Rattle.ring_core.specs.declared.entry.RingEntry.{RingEntry}
use Rattle.one_order.specs.Fronts.{places_of}
use Rattle.one_order.proofs.Fronts.{places-mine, places-other}
use Rattle.own_places.specs.Places.{ArePlaces, node_numbers}

pub no-places : (lists : List (List ℕ)) → lists ≡ replicate node_numbers [] → ArePlaces [] lists
no-places lists q = subst (ArePlaces []) (sym q) (record {
  count = length-replicate {A = List ℕ} node_numbers [];
  each = λ node low. get_or-replicate {A = List ℕ} node_numbers node [] [] low;
})

mine : (ring : List RingEntry) (size node : ℕ) (e : RingEntry) → size < length ring
    → e ≡ get_or ring size e → maker e ≡ node
    → places_of maker node (take (size + 1) ring) ≡ places_of maker node (take size ring)
    ++ size ∷ []
mine ring size node e low is m =
    let next : take (size + 1) ring ≡ take size ring ++ e ∷ [] = take_more ring size e low
    ∙ ap (λ (r : RingEntry). take size ring ++ r ∷ []) (sym is) in
    let long : length (take size ring) ≡ size = length-take-le size ring (omega arith) in
    ap (places_of maker node) next
    ∙ (places-mine maker node (take size ring) e (eq-eqb (maker e) node m)
    ∙ ap (λ (k : ℕ). places_of maker node (take size ring) ++ k ∷ []) long)

other : (ring : List RingEntry) (size node : ℕ) (e : RingEntry) → size < length ring
    → e ≡ get_or ring size e → maker e ≢ node
    → places_of maker node (take (size + 1) ring) ≡ places_of maker node (take size ring)
other ring size node e low is m =
    let next : take (size + 1) ring ≡ take size ring ++ e ∷ [] = take_more ring size e low
    ∙ ap (λ (r : RingEntry). take size ring ++ r ∷ []) (sym is) in
    ap (places_of maker node) next
    ∙ places-other maker node (take size ring) e (ne_eqb (maker e) node m)

pub more-places : (ring : List RingEntry) (size m : ℕ) (lists now : List (List ℕ)) (e : RingEntry)
    → size < length ring → e ≡ get_or ring size e → m ≡ maker e → m < node_numbers
    → now ≡ set lists m (get_or lists m [] ++ size ∷ []) → ArePlaces (take size ring) lists
    → ArePlaces (take (size + 1) ring) now
more-places ring size m lists now e low is by fits q s =
    subst (ArePlaces (take (size + 1) ring)) (sym q) (record {
      count = length-set lists m (get_or lists m [] ++ size ∷ []) ∙ s.count;
      each = λ node below. ⊎_elim
          (λ (same : m ≡ node).
          ap (λ (k : ℕ). get_or (set lists m (get_or lists m [] ++ size ∷ [])) k []) (sym same)
          ∙ (get_or-set_same lists m (get_or lists m [] ++ size ∷ []) []
          (subst (λ (n : ℕ). m < n) (sym s.count) fits)
          ∙ (ap (λ (l : List ℕ). l ++ size ∷ []) (s.each m fits)
          ∙ (ap (λ (k : ℕ). places_of maker k (take size ring) ++ size ∷ []) same
          ∙ sym (mine ring size node e low is (sym by ∙ same))))))
          (λ (apart : m ≢ node).
          get_or-set_other lists m node (get_or lists m [] ++ size ∷ []) [] (λ eq. apart (sym eq))
          ∙ (s.each node below ∙ sym (other ring size node e low is (λ eq. apart (by ∙ eq)))))
          (cases_eq m node);
    })

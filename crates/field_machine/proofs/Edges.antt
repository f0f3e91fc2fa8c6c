-- Edge bits as words.
use Rattle.std.proofs.Common.{◌≡◌, ℕ, zero, suc, Bool, true, false, cond, ◌&&◌, ◌==◌, List, []}
use Rattle.std.proofs.Common.{◌∷◌, ◌++◌, ◌⊎◌, inl, inr, Some, None, refl, sym, ap, ◌∙◌, arith, length}
use Rattle.std.proofs.Common.{drop}
use Rattle.std.specs.Prelude.{nat_lt, slice_get, slice_index}
use Rattle.std.specs.FinSet.{contains, contains-empty, empty, same_set}
use Rattle.std.specs.Ordering.{is_eq}
use Rattle.std.proofs.lemmas.Bool.Decides.{nat_tests}
use Rattle.std.proofs.lemmas.Cmp.{tied_itself}
use Rattle.std.proofs.lemmas.List.{length-map}
use Rattle.ladder_solver.specs.declared.places.BlockPlace.{BlockPlace}
use Rattle.ladder_solver.specs.State.{Places, place_cmp, with_place}
use Rattle.ladder_solver.proofs.PlaceSets.{contains-with_place, eq_by_cmp-place, exact_places, is_place}
use Rattle.ladder_solver.proofs.PlaceSets.{places_total}
use Rattle.state_ram.proofs.Banked.{on_again}
use Rattle.field_machine.specs.Counters.{Among}
use Rattle.field_machine.specs.Keys.{edge_words, edges_set}

-- edge bits stand at these places alone
abbrev pub Within : Places → List BlockPlace → Type 0
Within edges places = (q : BlockPlace) → contains edges q ≡ true → Among places q

pub among-none : (q : BlockPlace) → Among [] q → ⊥
among-none q h = let is = h.1 in let no' : None ≡ Some q = is in cc

pub among-more : (p : BlockPlace) (places : List BlockPlace) (q : BlockPlace) → Among places q
    → Among (p ∷ places) q
among-more p places q h = (suc h.0, h.1)

pub among-split : (p : BlockPlace) (places : List BlockPlace) (q : BlockPlace) (i : ℕ)
    → slice_get (p ∷ places) i ≡ Some q → (p ≡ q) ⊎ Among places q
among-split p places q zero is = inl (let first : Some p ≡ Some q = is in cc)
among-split p places q (suc i) is = inr (i, is)

pub own-place : (q : BlockPlace) → is_place q q ≡ true
own-place q =
    sym (eq_by_cmp-place q q) ∙ ap is_eq (tied_itself places_total q)

place-numbers : (a b c d e f g h : ℕ) → (((a == b) && (c == d)) && (e == f)) && (g == h) ≡ true
    → (a ≡ b) × (c ≡ d) × (e ≡ f) × (g ≡ h)
place-numbers a b c d e f g h t = grind (arith, nat_tests)

pub same-place : (p q : BlockPlace) → is_place p q ≡ true → q ≡ p
same-place p q t =
    let same = place-numbers q.segment p.segment q.network p.network q.column p.column
    q.row p.row t in
    λ i. record { segment = same.0 i; network = same.1 i; column = same.2 i; row = same.3 i }

-- a place that two sets have alike, or that is still to be set
abbrev Alike : Places → Places → List BlockPlace → BlockPlace → Type 0
Alike a b places q = (contains a q ≡ contains b q) ⊎ Among places q

still : (a b a' b' : Places) (p : BlockPlace) (places : List BlockPlace) (q : BlockPlace)
    → is_place p q ≡ false → contains a' q ≡ contains a q → contains b' q ≡ contains b q
    → Alike a b (p ∷ places) q → Alike a' b' places q
still a b a' b' p places q apart one other (inl same) = inl (one ∙ (same ∙ sym other))
still a b a' b' p places q apart one other (inr among) =
    elim (among-split p places q among.0 among.1) [
      | inl is ↦ absurd (let no' : true ≡ false = sym (own-place q)
          ∙ (ap (λ (x : BlockPlace). is_place x q) (sym is) ∙ apart) in cc)
      | inr more ↦ inr more
    ]

set-other : (a : Places) (p q : BlockPlace) (on : Bool) → is_place p q ≡ false
    → contains (with_place a p on) q ≡ contains a q
set-other a p q on apart =
    contains-with_place a p on q ∙ ap (λ b. cond b on (contains a q)) apart

set-same : (a : Places) (p q : BlockPlace) (on : Bool) → is_place p q ≡ true
    → contains (with_place a p on) q ≡ on
set-same a p q on is =
    contains-with_place a p on q ∙ ap (λ b. cond b on (contains a q)) is

-- two sets in which a place is set alike have the others alike as before
set-alike : (a b : Places) (p : BlockPlace) (places : List BlockPlace) (q : BlockPlace) (on : Bool)
    → Alike a b (p ∷ places) q → Alike (with_place a p on) (with_place b p on) places q
set-alike a b p places q on alike = by (is_place p q) refl
  where
    by : (c : Bool) → is_place p q ≡ c → Alike (with_place a p on) (with_place b p on) places q
    by true is = inl (set-same a p q on is ∙ sym (set-same b p q on is))
    by false is =
        still a b (with_place a p on) (with_place b p on) p places q is (set-other a p q on is)
        (set-other b p q on is) alike

-- so do a set in which a place is set as another has it, and that one
read-alike : (a e : Places) (p : BlockPlace) (places : List BlockPlace) (q : BlockPlace)
    → Alike a e (p ∷ places) q
    → Alike (with_place a p (nat_lt 0 (cond (contains e p) 1 0))) e places q
read-alike a e p places q alike = by (is_place p q) refl
  where
    by : (c : Bool) → is_place p q ≡ c
        → Alike (with_place a p (nat_lt 0 (cond (contains e p) 1 0))) e places q
    by true is =
        inl (set-same a p q (nat_lt 0 (cond (contains e p) 1 0)) is ∙ (on_again (contains e p)
        ∙ ap (contains e) (sym (same-place p q is))))
    by false is =
        still a e (with_place a p (nat_lt 0 (cond (contains e p) 1 0))) e p places q is
        (set-other a p q (nat_lt 0 (cond (contains e p) 1 0)) is) refl alike

edges-agree : (places : List BlockPlace) (a b : Places) (words : List ℕ) (q : BlockPlace)
    → Alike a b places q
    → contains (edges_set a places words) q ≡ contains (edges_set b places words) q
edges-agree [] a b words q (inl same) = same
edges-agree [] a b words q (inr among) = absurd (among-none q among)
edges-agree (p ∷ places) a b words q alike =
    let on = nat_lt 0 (slice_index words 0) in
    edges-agree places (with_place a p on) (with_place b p on) (drop 1 words) q
    (set-alike a b p places q on alike)

edges-read : (places : List BlockPlace) (a e : Places) (rest : List ℕ) (q : BlockPlace)
    → Alike a e places q
    → contains (edges_set a places (edge_words e places ++ rest)) q ≡ contains e q
edges-read [] a e rest q (inl same) = same
edges-read [] a e rest q (inr among) = absurd (among-none q among)
edges-read (p ∷ places) a e rest q alike =
    let on = nat_lt 0 (cond (contains e p) 1 0) in
    edges-read places (with_place a p on) e rest q (read-alike a e p places q alike)

none-or : (e : Places) (places : List BlockPlace) (q : BlockPlace) (b : Bool)
    → contains e q ≡ b → (b ≡ true → Among places q) → Alike empty e places q
none-or e places q true is within = inr (within refl)
none-or e places q false is within = inl (contains-empty place_cmp q ∙ sym is)

-- words of edge bits are read as these
pub edges-again : (places : List BlockPlace) (e : Places) (rest : List ℕ) → Within e places
    → edges_set empty places (edge_words e places ++ rest) ≡ e
edges-again places e rest within =
    same_set places_total exact_places _ _ (λ q.
    edges-read places empty e rest q
    (none-or e places q (contains e q) refl (λ is. within q is)))

alike-back : (a b : Places) (places : List BlockPlace) (q : BlockPlace) → Alike a b places q
    → Alike b a places q
alike-back a b places q (inl same) = inl (sym same)
alike-back a b places q (inr among) = inr among

-- words set all of the places at which edge bits were on
pub edges-anew : (places : List BlockPlace) (e : Places) (words : List ℕ) → Within e places
    → edges_set e places words ≡ edges_set empty places words
edges-anew places e words within =
    same_set places_total exact_places _ _ (λ q.
    edges-agree places e empty words q
    (alike-back empty e places q
    (none-or e places q (contains e q) refl (λ is. within q is))))

pub set-within : (places : List BlockPlace) (a : Places) (words : List ℕ) (q : BlockPlace)
    → contains (edges_set a places words) q ≡ true → (contains a q ≡ true) ⊎ Among places q
set-within [] a words q is = inl is
set-within (p ∷ places) a words q is =
    let on = nat_lt 0 (slice_index words 0) in
    elim (set-within places (with_place a p on) (drop 1 words) q is) [
      | inl there ↦ by on (is_place p q) refl there
      | inr more ↦ inr (among-more p places q more)
    ]
  where
    by : (on : Bool) (c : Bool) → is_place p q ≡ c → contains (with_place a p on) q ≡ true
        → (contains a q ≡ true) ⊎ Among (p ∷ places) q
    by on true same there = inr (0, ap Some (sym (same-place p q same)))
    by on false apart there = inl (sym (set-other a p q on apart) ∙ there)

-- edge bits that are set stand at the places
pub edges-within : (places : List BlockPlace) (words : List ℕ)
    → Within (edges_set empty places words) places
edges-within places words q is =
    elim (set-within places empty words q is) [
      | inl there ↦ absurd (let no' : false ≡ true = sym (contains-empty place_cmp q) ∙ there in cc)
      | inr among ↦ among
    ]

pub length-edges : (e : Places) (places : List BlockPlace)
    → length (edge_words e places) ≡ length places
length-edges e places = length-map places (λ place. cond (contains e place) 1 0)

-- a place stands in a list or not
pub among-or-not : (places : List BlockPlace) (q : BlockPlace)
    → Among places q ⊎ (Among places q → ⊥)
among-or-not [] q = inr (among-none q)
among-or-not (p ∷ places) q =
    elim (among-or-not places q) [
      | inl there ↦ inl (among-more p places q there)
      | inr none ↦ by (is_place p q) refl none
    ]
  where
    by : (b : Bool) → is_place p q ≡ b → (Among places q → ⊥)
        → Among (p ∷ places) q ⊎ (Among (p ∷ places) q → ⊥)
    by true is none = inl (0, ap Some (sym (same-place p q is)))
    by false is none = inr (λ among. elim (among-split p places q among.0 among.1) [
      | inl same ↦ absurd (let no' : true ≡ false = sym (own-place q)
          ∙ (ap (λ (x : BlockPlace). is_place x q) (sym same) ∙ is) in cc)
      | inr more ↦ none more
    ])

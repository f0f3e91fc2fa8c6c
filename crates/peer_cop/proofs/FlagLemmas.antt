-- The flags of the words that wires feed.
use Rattle.std.proofs.Common.{◌≡◌, ℕ, zero, suc, ◌+◌, ◌-◌, ◌*◌, ◌<◌, ◌≤◌, Bool, true, false, ◌||◌, ◌⊎◌}
use Rattle.std.proofs.Common.{inl, inr, ⊎_elim, List, [], ◌∷◌, ◌++◌, length, get_or, take, drop, refl}
use Rattle.std.proofs.Common.{sym, ap, ◌∙◌, arith, length-append, length-drop, length-take, cond}
use Rattle.std.specs.Prelude.{replicate, count_by, All}
use Rattle.std.specs.List.{list_any}
use Rattle.std.proofs.lemmas.Bool.{cases_lt, false≢true}
use Rattle.std.proofs.lemmas.List.{length-replicate, get_or-replicate, get_or-append_right}
use Rattle.std.proofs.lemmas.List.{get_or_append_left, get_or-take, get_or-drop}
use Rattle.std.proofs.lemmas.List.{drop-drop, take-append-drop}
use Rattle.std.proofs.lemmas.List.Elements.{All-nil, All-push}
use Rattle.std.proofs.lemmas.List.Folds.{list_any-append, list_any_at, list_any_none}
use Rattle.std.proofs.lemmas.List.Folds.{sum_by-replicate}
use Rattle.std.proofs.lemmas.List.Sums.{sum_by-append}
use Rattle.peer_cop.specs.declared.wire.Wire.{Wire}
use Rattle.peer_cop.specs.Words.{AreApart}
use Rattle.peer_cop.specs.Places.{HasPlaces, IsFree, covers, first_place, flagged, place_count}
use Rattle.peer_cop.proofs.PlaceLemmas.{among, covered, fed_place, first_within, not_apart}
use Rattle.peer_cop.proofs.PlaceLemmas.{place_of}

-- the flags of the words that wires feed
pub record AreFlags (wires : List Wire) (flags : List Bool) : Type 0 where
  pub size : length flags ≡ place_count
  pub there : All HasPlaces wires
  pub fed : (place : ℕ) → place < place_count
      → get_or flags place false ≡ list_any (covers place) wires

-- a place of a wire is there
covered_within : (place : ℕ) (wire : Wire) → HasPlaces wire → covers place wire ≡ true
    → place < place_count
covered_within place wire there is =
    let least = first_within wire there in
    let inside = among place wire is in
    omega (arith, inside.to)

-- a wire whose words are free is apart from all wires before it
pub free_apart : (wires : List Wire) (flags : List Bool) (wire : Wire) → AreFlags wires flags
    → HasPlaces wire → IsFree flags wire → (k : ℕ) (d : Wire) → k < length wires
    → AreApart (get_or wires k d) wire
free_apart wires flags wire are there free k d within node number word one other =
    let place = place_of node number word in
    let here = covered place wire (fed_place wire node number word there other) in
    let too = covered place (get_or wires k d)
    (fed_place (get_or wires k d) node number word (are.there k d within) one) in
    let any = list_any_at (covers place) wires k d within too in
    let flag = are.fed place (covered_within place wire there here) in
    false≢true (sym (free place here) ∙ flag ∙ any)

-- a wire that is apart from all wires before it has free words
untrue : (b : Bool) → (b ≡ true → ⊥) → b ≡ false
untrue true apart = absurd (apart refl)
untrue false apart = refl

pub apart_free : (wires : List Wire) (flags : List Bool) (wire : Wire) → AreFlags wires flags
    → HasPlaces wire
    → ((k : ℕ) (d : Wire) → k < length wires → AreApart (get_or wires k d) wire)
    → IsFree flags wire
apart_free wires flags wire are there apart place here =
    are.fed place (covered_within place wire there here)
    ∙ list_any_none (covers place) wires (λ k d within.
    untrue (covers place (get_or wires k d)) (λ too.
    not_apart place (get_or wires k d) wire (are.there k d within) there
    (among place (get_or wires k d) too) (among place wire here) (apart k d within)))

-- the flags with those of one more wire
abbrev marked : List Bool → ℕ → ℕ → List Bool
marked flags from count = take from flags ++ replicate count true ++ drop (from + count) flags

front_size : (flags : List Bool) (from count : ℕ) → from + count ≤ length flags
    → length (take from flags ++ replicate count true) ≡ from + count
front_size flags from count within =
    simp (length-append, length-take, length-replicate) (omega arith)

marked_size : (flags : List Bool) (from count : ℕ) → from + count ≤ length flags
    → length (marked flags from count) ≡ length flags
marked_size flags from count within =
    simp (length-append, length-take, length-replicate, length-drop) (omega arith)

taken_size : (flags : List Bool) (from : ℕ) → from ≤ length flags
    → length (take from flags) ≡ from
taken_size flags from within = simp length-take (omega arith)

marked_before : (flags : List Bool) (from count place : ℕ) → from + count ≤ length flags
    → place < from → get_or (marked flags from count) place false ≡ get_or flags place false
marked_before flags from count place within before =
    let front : place < length (take from flags ++ replicate count true) =
    omega (arith, front_size flags from count within) in
    let taken : place < length (take from flags) =
    omega (arith, taken_size flags from (omega arith)) in
    get_or_append_left (take from flags ++ replicate count true) (drop (from + count) flags) false
    place front
    ∙ get_or_append_left (take from flags) (replicate count true) false place taken
    ∙ get_or-take from flags place false before

marked_inside : (flags : List Bool) (from count place : ℕ) → from + count ≤ length flags
    → from ≤ place → place < from + count
    → get_or (marked flags from count) place false ≡ true
marked_inside flags from count place within least before =
    let front : place < length (take from flags ++ replicate count true) =
    omega (arith, front_size flags from count within) in
    let inside : place - from < count = omega arith in
    get_or_append_left (take from flags ++ replicate count true) (drop (from + count) flags) false
    place front
    ∙ get_or-append_right (take from flags) (replicate count true) from place false
    (taken_size flags from (omega arith)) least
    ∙ get_or-replicate count (place - from) true false inside

marked_after : (flags : List Bool) (from count place : ℕ) → from + count ≤ length flags
    → from + count ≤ place → get_or (marked flags from count) place false ≡ get_or flags place false
marked_after flags from count place within least =
    let back : from + count + (place - (from + count)) ≡ place = omega arith in
    get_or-append_right (take from flags ++ replicate count true) (drop (from + count) flags)
    (from + count) place false (front_size flags from count within) least
    ∙ get_or-drop (from + count) flags (place - (from + count)) false
    ∙ ap (λ (k : ℕ). get_or flags k false) back

or_true : (b : Bool) → (b || true) ≡ true
or_true true = refl
or_true false = refl

or_false : (b : Bool) → (b || false) ≡ b
or_false true = refl
or_false false = refl

one_more : (wires : List Wire) (wire : Wire) (place : ℕ) (covers_it : Bool)
    → covers place wire ≡ covers_it
    → list_any (covers place) (wires ++ wire ∷ []) ≡ (list_any (covers place) wires || covers_it)
one_more wires wire place covers_it is =
    list_any-append (covers place) wires (wire ∷ [])
    ∙ ap (λ (b : Bool). list_any (covers place) wires || b) (or_false (covers place wire) ∙ is)

more_at : (wires : List Wire) (flags : List Bool) (wire : Wire) → AreFlags wires flags
    → HasPlaces wire → (place : ℕ) → place < place_count → (b : Bool) → covers place wire ≡ b
    → get_or (flagged flags wire) place false ≡ list_any (covers place) (wires ++ wire ∷ [])
more_at wires flags wire are there place within true is =
    let room : first_place wire + wire.count ≤ length flags =
    omega (arith, first_within wire there, are.size) in
    let inside = among place wire is in
    marked_inside flags (first_place wire) wire.count place room inside.from inside.to
    ∙ sym (one_more wires wire place true is ∙ or_true (list_any (covers place) wires))
more_at wires flags wire are there place within false is =
    let room : first_place wire + wire.count ≤ length flags =
    omega (arith, first_within wire there, are.size) in
    let same = are.fed place within ∙ sym (or_false (list_any (covers place) wires))
    ∙ sym (one_more wires wire place false is) in
    ⊎_elim (λ before. marked_before flags (first_place wire) wire.count place room before ∙ same)
    (λ after. marked_after flags (first_place wire) wire.count place room after ∙ same)
    (outside (first_place wire) (first_place wire + wire.count) place
    (λ from to. false≢true (sym is ∙ covered place wire (record { from = from; to = to }))))
  where
    outside : (from to place : ℕ) → (from ≤ place → place < to → ⊥)
        → (place < from) ⊎ (to ≤ place)
    outside from to place apart = go (cases_lt place from)
      where
        go : (place < from) ⊎ (from ≤ place) → (place < from) ⊎ (to ≤ place)
        go (inl before) = inl before
        go (inr least) = later (cases_lt place to)
          where
            later : (place < to) ⊎ (to ≤ place) → (place < from) ⊎ (to ≤ place)
            later (inl before) = absurd (apart least before)
            later (inr after) = inr after

pub more_flags : (wires : List Wire) (flags : List Bool) (wire : Wire) → AreFlags wires flags
    → HasPlaces wire → AreFlags (wires ++ wire ∷ []) (flagged flags wire)
more_flags wires flags wire are there =
    let room : first_place wire + wire.count ≤ length flags =
    omega (arith, first_within wire there, are.size) in
    record {
      size = marked_size flags (first_place wire) wire.count room ∙ are.size;
      there = All-push HasPlaces wires wire are.there there;
      fed = λ place within.
          more_at wires flags wire are there place within (covers place wire) refl;
    }

-- no wire feeds no word
pub no_flags : (flags : List Bool) → flags ≡ replicate place_count false → AreFlags [] flags
no_flags flags are = record {
  size = ap length are ∙ length-replicate place_count false;
  there = All-nil HasPlaces;
  fed = λ place within. ap (λ (l : List Bool). get_or l place false) are
      ∙ get_or-replicate place_count place false false within;
}

-- a wire whose words are free flags at least one more word
abbrev pub flag_count : List Bool → ℕ
flag_count flags = count_by (λ flag. flag) flags

none_of : (count : ℕ) (flags : List Bool)
    → ((k : ℕ) → k < count → get_or flags k false ≡ false) → flag_count (take count flags) ≡ 0
none_of zero flags free = refl
none_of (suc count) [] free = refl
none_of (suc count) (flag ∷ flags) free =
    let first : flag ≡ false = free 0 (omega arith) in
    let later = none_of count flags (λ k h. free (suc k) (omega arith)) in
    rw (first, later) refl

cut_thrice : (from count : ℕ) (flags : List Bool)
    → flag_count flags ≡ flag_count (take from flags)
    + (flag_count (take count (drop from flags)) + flag_count (drop count (drop from flags)))
cut_thrice from count flags =
    ap flag_count (sym (take-append-drop from flags))
    ∙ sum_by-append (λ flag. cond flag 1 0) (take from flags) (drop from flags)
    ∙ ap (λ n. flag_count (take from flags) + n)
    (ap flag_count (sym (take-append-drop count (drop from flags)))
    ∙ sum_by-append (λ flag. cond flag 1 0) (take count (drop from flags))
    (drop count (drop from flags)))

marked_count : (from count : ℕ) (flags : List Bool)
    → flag_count (marked flags from count)
    ≡ flag_count (take from flags) + count * 1 + flag_count (drop (from + count) flags)
marked_count from count flags =
    sum_by-append (λ flag. cond flag 1 0) (take from flags ++ replicate count true)
    (drop (from + count) flags)
    ∙ ap (λ n. n + flag_count (drop (from + count) flags))
    (sum_by-append (λ flag. cond flag 1 0) (take from flags) (replicate count true)
    ∙ ap (λ n. flag_count (take from flags) + n)
    (sum_by-replicate (λ flag. cond flag 1 0) count true))

pub more_count : (flags : List Bool) (wire : Wire) → IsFree flags wire → 1 ≤ wire.count
    → flag_count flags < flag_count (flagged flags wire)
more_count flags wire free some =
    let from = first_place wire in
    let none : flag_count (take wire.count (drop from flags)) ≡ 0 =
    none_of wire.count (drop from flags) (λ k h. get_or-drop from flags k false
    ∙ free (from + k) (covered (from + k) wire
    (record { from = omega arith; to = omega arith }))) in
    let same : drop wire.count (drop from flags) ≡ drop (from + wire.count) flags =
    drop-drop wire.count from flags in
    let all = cut_thrice from wire.count flags in
    let later = marked_count from wire.count flags in
    let rest = ap flag_count same in
    omega arith

-- what a test of the words of a wire finds
none_at : (flags : List Bool) (k : ℕ) → list_any (λ flag. flag) flags ≡ false
    → get_or flags k false ≡ false
none_at [] k none = refl
none_at (true ∷ flags) k none = absurd (false≢true (sym none))
none_at (false ∷ flags) zero none = refl
none_at (false ∷ flags) (suc k) none = none_at flags k none

none_from : (count : ℕ) (flags : List Bool)
    → ((k : ℕ) → k < count → get_or flags k false ≡ false)
    → list_any (λ flag. flag) (take count flags) ≡ false
none_from zero flags free = refl
none_from (suc count) [] free = refl
none_from (suc count) (flag ∷ flags) free =
    let first : flag ≡ false = free 0 (omega arith) in
    rw (first, none_from count flags (λ k h. free (suc k) (omega arith))) refl

pub free_from : (flags : List Bool) (wire : Wire)
    → list_any (λ flag. flag) (take wire.count (drop (first_place wire) flags)) ≡ false
    → IsFree flags wire
free_from flags wire none place is =
    let inside = among place wire is in
    let from = first_place wire in
    let least : place - from < wire.count = omega (arith, inside.from, inside.to) in
    let back : from + (place - from) ≡ place = omega (arith, inside.from) in
    ap (λ (k : ℕ). get_or flags k false) (sym back)
    ∙ sym (get_or-drop from flags (place - from) false)
    ∙ sym (get_or-take wire.count (drop from flags) (place - from) false least)
    ∙ none_at (take wire.count (drop from flags)) (place - from) none

pub free_none : (flags : List Bool) (wire : Wire) → IsFree flags wire
    → list_any (λ flag. flag) (take wire.count (drop (first_place wire) flags)) ≡ false
free_none flags wire free =
    let from = first_place wire in
    none_from wire.count (drop from flags) (λ k h. get_or-drop from flags k false
    ∙ free (from + k) (covered (from + k) wire
    (record { from = omega arith; to = omega arith })))

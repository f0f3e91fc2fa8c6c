-- States in which what cannot matter is cleared, and the states that they are of.
use Rattle.std.proofs.Common.{◌≡◌, ℕ, zero, suc, ◌+◌, ◌<◌, ◌≤◌, Bool, true, false, cond, not, List, []}
use Rattle.std.proofs.Common.{◌∷◌, ◌++◌, ◌⊎◌, inl, inr, Option, Some, None, unwrap_or, refl, sym, ap, ◌∙◌}
use Rattle.std.proofs.Common.{subst, arith, is_some}
use Rattle.std.specs.Prelude.{◌&&◌, ◌==◌, nat_le, nat_lt, filter, fold, if◌then◌else◌, slice_get}
use Rattle.std.specs.List.{AllByRecursion}
use Rattle.std.specs.FinMap.{get, insert, contains_key, same_map}
use Rattle.std.specs.FinSet.{contains, contains-empty, empty, same_set}
use Rattle.std.proofs.lemmas.Bool.{and_parts, le-leb, leb-true}
use Rattle.std.proofs.lemmas.Bool.Decides.{leb_tells}
use Rattle.plant_types.specs.declared.plan.ControllerPlan.{ControllerPlan}
use Rattle.plant_types.specs.declared.network.Segment.{Segment}
use Rattle.plant_types.specs.declared.reference.Ref.{Ref}
use Rattle.plant_types.specs.declared.reference.RefKind.{RefKind}
use Rattle.plant_types.specs.declared.reference.RefKind.TheVariants.{Coil, Input, InputRegister}
use Rattle.plant_types.specs.declared.reference.RefKind.TheVariants.{Register}
use Rattle.plant_types.specs.declared.sizes.Sizes.{Sizes}
use Rattle.plant_types.specs.Checks.{sizes_of}
use Rattle.plant_types.specs.Discretes.{Refs}
use Rattle.plant_types.specs.Reference.{ref_cmp}
use Rattle.plant_types.specs.Sizes.{cleared, count_of, has_reference}
use Rattle.plant_types.specs.Store.{Contents, word_at}
use Rattle.plant_types.proofs.Contents.{exact_refs, refs_total}
use Rattle.plant_types.proofs.RunLemmas.{get-insert_other, get-insert_same}
use Rattle.plant_types.proofs.SizesLemmas.{get-cleared}
use Rattle.state_ram.specs.Packed.{Words, packed_contents, packed_sizes}
use Rattle.state_ram.proofs.Banked.{contains_key-packed}
use Rattle.state_ram.proofs.Filled.{same_or_apart}
use Rattle.ladder_solver.specs.declared.places.BlockPlace.{BlockPlace}
use Rattle.ladder_solver.specs.State.{Places, place_cmp, with_place}
use Rattle.ladder_solver.proofs.PlaceSets.{contains-with_place, exact_places, is_place, places_total}
use Rattle.controller_core.specs.Replay.{ControllerState, start}
use Rattle.field_runs.specs.Alike.{IsAlike}
use Rattle.cone_laws.specs.Agree.{place_matters, SameIn}
use Rattle.cone_laws.proofs.Stores.{insert-elsewhere, onward}
use Rattle.field_search.specs.ConeRuns.{IsAlikeIn}
use Rattle.field_machine.specs.Counters.{Among}
use Rattle.field_machine.specs.Keys.{edges_set, IsKeyOf}
use Rattle.field_machine.specs.Narrow.{apart_of, does_not_matter, kind_outside, one_outside}
use Rattle.field_machine.specs.Narrow.{outside_of, state_cleared, zeroed}
use Rattle.field_machine.proofs.Edges.{among-more, among-none, among-split, own-place, same-place}

-- ---- the references that a set lacks

module _ (set : Refs) where
  one-lacks : (at : Ref) → AllByRecursion (λ q. contains set q ≡ false) (one_outside set at)
  one-lacks at = by (contains set at) refl
    where
      by : (b : Bool) → contains set at ≡ b
          → AllByRecursion (λ q. contains set q ≡ false) (if b then [] else at ∷ [])
      by true is = tt
      by false is = (is, tt)

both-all : {X : Type 0} (P : X → Type 0) (xs ys : List X) → AllByRecursion P xs
    → AllByRecursion P ys → AllByRecursion P (xs ++ ys)
both-all P [] ys a b = b
both-all P (x ∷ xs) ys a b = (a.0, both-all P xs ys a.1 b)

-- what holds of each reference of a kind up to a number, and of each that a set lacks
kind-all : (P : Ref → Type 0) (set : Refs) (kind : RefKind) (count most : ℕ) → count ≤ most
    → ((number : ℕ) → 1 ≤ number → number ≤ most
    → contains set (record { kind = kind; number = number }) ≡ false
    → P (record { kind = kind; number = number }))
    → AllByRecursion P (kind_outside set kind count)
unfolding kind_outside
kind-all P set kind zero most few each = tt
kind-all P set kind (suc count) most few each =
    both-all P (kind_outside set kind count) _
    (kind-all P set kind count most (omega (arith, few)) each)
    (by (contains set (record { kind = kind; number = suc count })) refl)
  where
    by : (b : Bool) → contains set (record { kind = kind; number = suc count }) ≡ b
        → AllByRecursion P (if b then [] else record { kind = kind; number = suc count } ∷ [])
    by true is = tt
    by false is = (each (suc count) (omega arith) few is, tt)

-- the references up to one more
pub outside_more : (set : Refs) (kind : RefKind) (n : ℕ)
    → kind_outside set kind (n + 1)
    ≡ kind_outside set kind n ++ one_outside set (record { kind = kind; number = n + 1 })
unfolding kind_outside
outside_more set kind n =
    let e : n + 1 ≡ suc n = omega arith in
    ap (kind_outside set kind) e
    ∙ ap (λ k. kind_outside set kind n ++ one_outside set (record { kind = kind; number = k })) (sym e)

pub outside_none : (set : Refs) (kind : RefKind) → kind_outside set kind 0 ≡ []
unfolding kind_outside
outside_none set kind = refl

within : (number most : ℕ) → 1 ≤ number → number ≤ most → nat_le 1 number && nat_le number most ≡ true
within number most from to =
    ap (λ b. b && nat_le number most) (le-leb 1 number from) ∙ le-leb number most to

outside-kind : (P : Ref → Type 0) (sizes : Sizes) (set : Refs)
    → ((at : Ref) → has_reference sizes at ≡ true → contains set at ≡ false → P at)
    → (kind : RefKind) → AllByRecursion P (kind_outside set kind (count_of sizes kind))
outside-kind P sizes set each kind =
    kind-all P set kind (count_of sizes kind) (count_of sizes kind) (omega arith)
    (λ number from to lacks. each (record { kind = kind; number = number })
    (within number (count_of sizes kind) from to) lacks)

-- what holds of each reference that a set lacks
pub outside-all : (P : Ref → Type 0) (sizes : Sizes) (set : Refs)
    → ((at : Ref) → has_reference sizes at ≡ true → contains set at ≡ false → P at)
    → AllByRecursion P (outside_of sizes set)
outside-all P sizes set each =
    let one = outside-kind P sizes set each in
    both-all P _ _ (both-all P _ _ (both-all P _ _ (one Coil) (one Input)) (one InputRegister))
    (one Register)

-- ---- references that are 0

zero-one : (m : Contents) (at q : Ref) → word_at m q ≡ 0 → word_at (insert m at 0) q ≡ 0
zero-one m at q is =
    same_or_apart q at (word_at (insert m at 0) q ≡ 0)
    (λ e. ap (word_at (insert m at 0)) e
    ∙ ap (λ (o : Option ℕ). unwrap_or o 0) (get-insert_same m at 0))
    (λ other. ap (λ (o : Option ℕ). unwrap_or o 0)
    (get-insert_other m at 0 q (λ e. other (sym e))) ∙ is)

zero-kept : (refs : List Ref) (m : Contents) (q : Ref) → word_at m q ≡ 0
    → word_at (zeroed m refs) q ≡ 0
zero-kept [] m q is = is
zero-kept (at ∷ refs) m q is = zero-kept refs (insert m at 0) q (zero-one m at q is)

zeroed-both : (xs ys : List Ref) (m : Contents) → zeroed m (xs ++ ys) ≡ zeroed (zeroed m xs) ys
zeroed-both [] ys m = refl
zeroed-both (x ∷ xs) ys m = zeroed-both xs ys (insert m x 0)

zero-left : (xs ys : List Ref) (m : Contents) (q : Ref) → word_at (zeroed m xs) q ≡ 0
    → word_at (zeroed m (xs ++ ys)) q ≡ 0
zero-left xs ys m q is =
    ap (λ n. word_at n q) (zeroed-both xs ys m) ∙ zero-kept ys (zeroed m xs) q is

zero-right : (xs ys : List Ref) (m : Contents) (q : Ref)
    → ((n : Contents) → word_at (zeroed n ys) q ≡ 0) → word_at (zeroed m (xs ++ ys)) q ≡ 0
zero-right xs ys m q is = ap (λ n. word_at n q) (zeroed-both xs ys m) ∙ is (zeroed m xs)

zero-here : (set : Refs) (at : Ref) (m : Contents) (b : Bool) → contains set at ≡ b → b ≡ false
    → word_at (zeroed m (if b then [] else at ∷ [])) at ≡ 0
zero-here set at m true is lacks = absurd (let no' : true ≡ false = lacks in cc)
zero-here set at m false is lacks =
    ap (λ (o : Option ℕ). unwrap_or o 0) (get-insert_same m at 0)

kind-zero : (set : Refs) (kind : RefKind) (count number : ℕ) (m : Contents) → 1 ≤ number
    → number ≤ count → contains set (record { kind = kind; number = number }) ≡ false
    → word_at (zeroed m (kind_outside set kind count)) (record { kind = kind; number = number }) ≡ 0
unfolding kind_outside
kind-zero set kind zero number m from to lacks = absurd (omega (arith, from, to))
kind-zero set kind (suc count) number m from to lacks =
    elim (leb_tells number count) [
      | inl h ↦ zero-left (kind_outside set kind count)
          (one_outside set (record { kind = kind; number = suc count })) m
          (record { kind = kind; number = number })
          (kind-zero set kind count number m from h.1 lacks)
      | inr h ↦ let q : Ref = record { kind = kind; number = number } in
          let above = h.1 in
          let e : number ≡ suc count = omega (arith, above, to) in
          zero-right (kind_outside set kind count)
          (one_outside set (record { kind = kind; number = suc count })) m q
          (λ n. subst (λ k. word_at (zeroed n (one_outside set (record { kind = kind; number = k })))
          q ≡ 0) e (zero-here set q n (contains set q) refl lacks))
    ]

-- each reference that a set lacks is 0
outside-by : (sizes : Sizes) (set : Refs) (kind : RefKind) (number : ℕ) (m : Contents)
    → 1 ≤ number → number ≤ count_of sizes kind
    → contains set (record { kind = kind; number = number }) ≡ false
    → word_at (zeroed m (outside_of sizes set)) (record { kind = kind; number = number }) ≡ 0
outside-by sizes set Coil number m from to lacks =
    let a = kind_outside set Coil sizes.coils in
    let b = kind_outside set Input sizes.inputs in
    let c = kind_outside set InputRegister sizes.input_registers in
    let d = kind_outside set Register sizes.registers in
    let q : Ref = record { kind = Coil; number = number } in
    zero-left ((a ++ b) ++ c) d m q (zero-left (a ++ b) c m q (zero-left a b m q
    (kind-zero set Coil sizes.coils number m from to lacks)))
outside-by sizes set Input number m from to lacks =
    let a = kind_outside set Coil sizes.coils in
    let b = kind_outside set Input sizes.inputs in
    let c = kind_outside set InputRegister sizes.input_registers in
    let d = kind_outside set Register sizes.registers in
    let q : Ref = record { kind = Input; number = number } in
    zero-left ((a ++ b) ++ c) d m q (zero-left (a ++ b) c m q (zero-right a b m q
    (λ n. kind-zero set Input sizes.inputs number n from to lacks)))
outside-by sizes set InputRegister number m from to lacks =
    let a = kind_outside set Coil sizes.coils in
    let b = kind_outside set Input sizes.inputs in
    let c = kind_outside set InputRegister sizes.input_registers in
    let d = kind_outside set Register sizes.registers in
    let q : Ref = record { kind = InputRegister; number = number } in
    zero-left ((a ++ b) ++ c) d m q (zero-right (a ++ b) c m q
    (λ n. kind-zero set InputRegister sizes.input_registers number n from to lacks))
outside-by sizes set Register number m from to lacks =
    let a = kind_outside set Coil sizes.coils in
    let b = kind_outside set Input sizes.inputs in
    let c = kind_outside set InputRegister sizes.input_registers in
    let d = kind_outside set Register sizes.registers in
    zero-right ((a ++ b) ++ c) d m (record { kind = Register; number = number })
    (λ n. kind-zero set Register sizes.registers number n from to lacks)

pub outside-zero : (sizes : Sizes) (set : Refs) (m : Contents) (q : Ref)
    → has_reference sizes q ≡ true → contains set q ≡ false
    → word_at (zeroed m (outside_of sizes set)) q ≡ 0
outside-zero sizes set m q held lacks =
    let tests = and_parts (nat_le 1 q.number) (nat_le q.number (count_of sizes q.kind)) held in
    outside-by sizes set q.kind q.number m (leb-true 1 q.number tests.0)
    (leb-true q.number (count_of sizes q.kind) tests.1) lacks

-- the others are as they were
zeroed-same : (set : Refs) (refs : List Ref) (m : Contents)
    → AllByRecursion (λ q. contains set q ≡ false) refs → SameIn set m (zeroed m refs)
zeroed-same set [] m lacks = λ at has. refl
zeroed-same set (at ∷ refs) m lacks =
    onward set m (insert m at 0) (zeroed (insert m at 0) refs)
    (insert-elsewhere set m at 0 lacks.0) (zeroed-same set refs (insert m at 0) lacks.1)

-- ---- edge bits that are off

not-false : (b : Bool) → not b ≡ true → b ≡ false
not-false true is = absurd (let no' : false ≡ true = is in cc)
not-false false is = refl

filter-all : {X : Type 0} (test : X → Bool) (xs : List X)
    → AllByRecursion (λ x. test x ≡ true) (filter test xs)
filter-all test [] = tt
filter-all {X} test (x ∷ xs) = by (test x) refl (filter-all test xs)
  where
    by : (b : Bool) → test x ≡ b → AllByRecursion (λ y. test y ≡ true) (filter test xs)
        → AllByRecursion (λ y. test y ≡ true) (cond b (x ∷ filter test xs) (filter test xs))
    by true is rest = (is, rest)
    by false is rest = rest

filter-some : (test : BlockPlace → Bool) (places : List BlockPlace) (q : BlockPlace) (i : ℕ)
    → slice_get places i ≡ Some q → test q ≡ true → Among (filter test places) q
filter-some test [] q i is on = absurd (let no' : None ≡ Some q = is in cc)
filter-some test (p ∷ places) q zero is on =
    let e : p ≡ q = cc in
    subst (λ b. Among (cond b (p ∷ filter test places) (filter test places)) q)
    (sym (ap test e ∙ on)) (0, ap Some e)
filter-some test (p ∷ places) q (suc i) is on =
    by (test p) (filter-some test places q i is on)
  where
    by : (b : Bool) → Among (filter test places) q
        → Among (cond b (p ∷ filter test places) (filter test places)) q
    by true there = among-more p (filter test places) q there
    by false there = there

pub filter-among : (test : BlockPlace → Bool) (places : List BlockPlace) (q : BlockPlace)
    → Among (filter test places) q → Among places q
filter-among test [] q among = absurd (among-none q among)
filter-among test (p ∷ places) q among =
    by (test p) among (filter-among test places q)
  where
    by : (b : Bool) → Among (cond b (p ∷ filter test places) (filter test places)) q
        → (Among (filter test places) q → Among places q) → Among (p ∷ places) q
    by true there rest =
        elim (among-split p (filter test places) q there.0 there.1) [
          | inl same ↦ (0, ap Some same)
          | inr more ↦ among-more p places q (rest more)
        ]
    by false there rest = among-more p places q (rest there)

off-one : (e : Places) (p q : BlockPlace) (b : Bool) → is_place p q ≡ b → contains e q ≡ false
    → contains (with_place e p false) q ≡ false
off-one e p q true is off =
    contains-with_place e p false q ∙ ap (λ b. cond b false (contains e q)) is
off-one e p q false is off =
    contains-with_place e p false q ∙ (ap (λ b. cond b false (contains e q)) is ∙ off)

off-kept : (places : List BlockPlace) (e : Places) (q : BlockPlace) → contains e q ≡ false
    → contains (edges_set e places []) q ≡ false
off-kept [] e q off = off
off-kept (p ∷ places) e q off =
    off-kept places (with_place e p false) q (off-one e p q (is_place p q) refl off)

off-there : (e : Places) (p q : BlockPlace) → p ≡ q → contains (with_place e p false) q ≡ false
off-there e p q same =
    contains-with_place e p false q
    ∙ ap (λ b. cond b false (contains e q))
    (ap (λ (x : BlockPlace). is_place x q) same ∙ own-place q)

off-among : (places : List BlockPlace) (e : Places) (q : BlockPlace) (i : ℕ)
    → slice_get places i ≡ Some q → contains (edges_set e places []) q ≡ false
off-among [] e q i is = absurd (let no' : None ≡ Some q = is in cc)
off-among (p ∷ places) e q zero is =
    off-kept places (with_place e p false) q (off-there e p q (let f : Some p ≡ Some q = is in cc))
off-among (p ∷ places) e q (suc i) is = off-among places (with_place e p false) q i is

off-other : (matters : BlockPlace → Bool) (e : Places) (p q : BlockPlace) (b : Bool)
    → is_place p q ≡ b → matters p ≡ false → matters q ≡ true
    → contains (with_place e p false) q ≡ contains e q
off-other matters e p q true is apart on =
    let no' : true ≡ false = sym on ∙ (ap matters (same-place p q is) ∙ apart) in absurd (cc)
off-other matters e p q false is apart on =
    contains-with_place e p false q ∙ ap (λ b. cond b false (contains e q)) is

off-same : (matters : BlockPlace → Bool) (places : List BlockPlace) (e : Places) (q : BlockPlace)
    → AllByRecursion (λ p. matters p ≡ false) places → matters q ≡ true
    → contains (edges_set e places []) q ≡ contains e q
off-same matters [] e q apart on = refl
off-same matters (p ∷ places) e q apart on =
    off-same matters places (with_place e p false) q apart.1 on
    ∙ off-other matters e p q (is_place p q) refl apart.0 on

all-follow : {X : Type 0} (P Q : X → Type 0) → ((x : X) → P x → Q x) → (xs : List X)
    → AllByRecursion P xs → AllByRecursion Q xs
all-follow P Q f [] all = tt
all-follow P Q f (x ∷ xs) all = (f x all.0, all-follow P Q f xs all.1)

-- ---- cleared states

-- in a state what does not matter is cleared
pub record IsClear (plan : ControllerPlan) (set : Refs) (places : List BlockPlace)
    (s : ControllerState) : Type 0 where
  pub zero_outside : (q : Ref) → has_reference (sizes_of plan) q ≡ true → contains set q ≡ false
      → word_at s.solving.map q ≡ 0
  pub off : (q : BlockPlace) → Among places q → place_matters set plan.segments q ≡ false
      → contains s.solving.edges q ≡ false

module _ (plan : ControllerPlan) (set : Refs) (places : List BlockPlace) where
  -- the states that a search has
  abbrev pub cleared_state : ControllerState → ControllerState
  cleared_state s =
      state_cleared (outside_of (sizes_of plan) set) (apart_of set plan.segments places) s

  pub cleared-alike : (s : ControllerState) → IsAlikeIn plan set s (cleared_state s)
  cleared-alike s = record {
    references = zeroed-same set (outside_of (sizes_of plan) set) s.solving.map
        (outside-all (λ q. contains set q ≡ false) (sizes_of plan) set (λ at held lacks. lacks));
    edges = λ q matters. sym (off-same (place_matters set plan.segments)
        (apart_of set plan.segments places) s.solving.edges q
        (all-follow (λ p. does_not_matter set plan.segments p ≡ true)
        (λ p. place_matters set plan.segments p ≡ false)
        (λ p. not-false (place_matters set plan.segments p))
        (apart_of set plan.segments places)
        (filter-all (does_not_matter set plan.segments) places)) matters);
    stop = refl;
    clock = refl;
  }

  pub cleared-clear : (s : ControllerState) → IsClear plan set places (cleared_state s)
  cleared-clear s = record {
    zero_outside = λ q held lacks. outside-zero (sizes_of plan) set s.solving.map q held lacks;
    off = λ q among apart.
        let there = filter-some (does_not_matter set plan.segments) places q among.0 among.1
        (ap not apart) in
        off-among (apart_of set plan.segments places) s.solving.edges q there.0 there.1;
  }

  pub start-clear : IsClear plan set places (start plan)
  start-clear = record {
    zero_outside = λ q held lacks. ap (λ (o : Option ℕ). unwrap_or o 0) (get-cleared (sizes_of plan) q)
        ∙ ap (λ b. unwrap_or (if b then Some 0 else None) 0) held;
    off = λ q among apart. contains-empty place_cmp q;
  }

  pub alike-in : (s t : ControllerState) → IsAlike s t → IsAlikeIn plan set s t
  alike-in s t a =
      let references = a.references in
      let edges = a.edges in
      record {
        references = λ at has. ap (λ m. word_at m at) references;
        edges = λ place matters. ap (λ e. contains e place) edges;
        stop = a.stop;
        clock = a.clock;
      }

  pub alike-in-back : (s t : ControllerState) → IsAlikeIn plan set s t → IsAlikeIn plan set t s
  alike-in-back s t a = record {
    references = λ at has. sym (a.references at has);
    edges = λ place matters. sym (a.edges place matters);
    stop = sym a.stop;
    clock = sym a.clock;
  }

  -- two stores of the same references have the same numbers
  same-found : (one other : Option ℕ) (b : Bool) → is_some one ≡ b → is_some other ≡ b
      → (b ≡ true → unwrap_or one 0 ≡ unwrap_or other 0) → one ≡ other
  same-found None None b h k same = refl
  same-found (Some v) (Some w) b h k same = ap Some (same (sym h))
  same-found None (Some w) b h k same = absurd (let no' : false ≡ true = h ∙ sym k in cc)
  same-found (Some v) None b h k same = absurd (let no' : true ≡ false = h ∙ sym k in cc)

  word-same : (s t : ControllerState) (q : Ref) (b : Bool) → contains set q ≡ b
      → IsAlikeIn plan set s t → IsClear plan set places s → IsClear plan set places t
      → has_reference (sizes_of plan) q ≡ true
      → word_at s.solving.map q ≡ word_at t.solving.map q
  word-same s t q true has a c d held = a.references q has
  word-same s t q false lacks a c d held =
      c.zero_outside q held lacks ∙ sym (d.zero_outside q held lacks)

  is-false : (b : Bool) → (b ≡ true → ⊥) → b ≡ false
  is-false true h = absurd (h refl)
  is-false false h = refl

  -- the edge bit of a place that does not matter is off
  edge-off : (s : ControllerState) (q : BlockPlace)
      → ((p : BlockPlace) → contains s.solving.edges p ≡ true → Among places p)
      → IsClear plan set places s → place_matters set plan.segments q ≡ false
      → contains s.solving.edges q ≡ false
  edge-off s q within c apart =
      is-false (contains s.solving.edges q)
      (λ on. let no' : true ≡ false = sym on ∙ c.off q (within q on) apart in absurd (cc))

  edge-same : (s t : ControllerState) (q : BlockPlace) (b : Bool)
      → place_matters set plan.segments q ≡ b → IsAlikeIn plan set s t
      → ((p : BlockPlace) → contains s.solving.edges p ≡ true → Among places p)
      → ((p : BlockPlace) → contains t.solving.edges p ≡ true → Among places p)
      → IsClear plan set places s → IsClear plan set places t
      → contains s.solving.edges q ≡ contains t.solving.edges q
  edge-same s t q true matters a here there c d = a.edges q matters
  edge-same s t q false apart a here there c d =
      edge-off s q here c apart ∙ sym (edge-off t q there d apart)

  -- clear states of keys that are alike on the set are alike
  pub clear-alike : (s t : ControllerState) (key other : List ℕ) → IsKeyOf plan places s key
      → IsKeyOf plan places t other → IsClear plan set places s → IsClear plan set places t
      → IsAlikeIn plan set s t → IsAlike s t
  clear-alike s t key other k o c d a = record {
    references = same_map refs_total exact_refs s.solving.map t.solving.map (λ q.
        same-found (get s.solving.map q) (get t.solving.map q)
        (has_reference (sizes_of plan) q)
        (ap (λ m. contains_key m q) k.references ∙ (contains_key-packed k.words q
        ∙ ap (λ (z : Sizes). has_reference z q) k.sizes))
        (ap (λ m. contains_key m q) o.references ∙ (contains_key-packed o.words q
        ∙ ap (λ (z : Sizes). has_reference z q) o.sizes))
        (word-same s t q (contains set q) refl a c d));
    edges = same_set places_total exact_places s.solving.edges t.solving.edges (λ q.
        edge-same s t q (place_matters set plan.segments q) refl a k.edges o.edges c d);
    stop = a.stop;
    clock = a.clock;
  }

-- What a set is forced to have.
use Rattle.std.proofs.Common.{◌≡◌, ℕ, zero, suc, ◌+◌, ◌<◌, Bool, true, false, List, [], ◌∷◌, ◌++◌, take}
use Rattle.std.proofs.Common.{get_or, length, Option, Some, None, refl, sym, ap, subst, ◌∙◌, arith}
use Rattle.std.specs.Prelude.{◌&&◌, ◌||◌}
use Rattle.std.specs.List.{cons_option, filter_map, flat_map, list_all, list_any, AllByRecursion}
use Rattle.std.specs.FinSet.{contains, insert, contains-insert}
use Rattle.std.specs.Ordering.{is_eq, eq_by_cmp}
use Rattle.std.specs.declared.cmp.Ordering.{Ordering}
use Rattle.std.specs.declared.cmp.Ordering.TheVariants.{Less, Equal, Greater}
use Rattle.std.proofs.lemmas.Cmp.{tied_itself}
use Rattle.plant_types.specs.Reference.{ref_cmp}
use Rattle.plant_types.proofs.Contents.{exact_refs, refs_total}
use Rattle.std.proofs.lemmas.Bool.{and_parts}
use Rattle.std.proofs.lemmas.List.Folds.{list_all-append, list_all_more}
use Rattle.plant_types.specs.declared.reference.Ref.{Ref}
use Rattle.plant_types.specs.declared.element.Element.{Element}
use Rattle.plant_types.specs.declared.network.Cell.{Cell}
use Rattle.plant_types.specs.declared.network.Network.{Network}
use Rattle.plant_types.specs.declared.plan.OrderRow.{OrderRow}
use Rattle.plant_types.specs.Discretes.{Refs}
use Rattle.cone_of.specs.Cone.{HasAllOf, HasIn, HasNetwork}
use Rattle.cone_of.specs.Growing.{network_reads, forced_by, AddsAll, GrowsBy}
use Rattle.cone_of.specs.Uses.{directs, has_network, has_read, matters_to, network_matters, read_by}
use Rattle.cone_of.specs.Uses.{stored_by, stores_in}

-- what one of two passes, one at least of them does
or-on : (a b c d : Bool) → (a ≡ true → c ≡ true) → (b ≡ true → d ≡ true) → a || b ≡ true
    → c || d ≡ true
or-on true b c d one other is = ap (λ x. x || d) (one refl)
or-on false b true d one other is = refl
or-on false b false d one other is = other is

any-more : (set other : Refs) (refs : List Ref) → HasAllOf other set
    → list_any (contains set) refs ≡ true → list_any (contains other) refs ≡ true
any-more set other [] all is = absurd (let no' : false ≡ true = is in cc)
any-more set other (at ∷ refs) all is =
    or-on (contains set at) (list_any (contains set) refs) (contains other at)
    (list_any (contains other) refs) (all at) (any-more set other refs all) is

matters-more : (set other : Refs) (cells : List Cell) → HasAllOf other set
    → list_any (λ cell. matters_to set cell.element) cells ≡ true
    → list_any (λ cell. matters_to other cell.element) cells ≡ true
matters-more set other [] all is = absurd (let no' : false ≡ true = is in cc)
matters-more set other (cell ∷ cells) all is =
    or-on (matters_to set cell.element) (list_any (λ c. matters_to set c.element) cells)
    (matters_to other cell.element) (list_any (λ c. matters_to other c.element) cells)
    (or-on (stores_in set cell.element) (directs cell.element) (stores_in other cell.element)
    (directs cell.element) (any-more set other (stored_by cell.element) all) (λ on. on))
    (matters-more set other cells all) is

-- a network that matters to a set matters to each that has all of it
pub network-more : (set other : Refs) (network : Network) → HasAllOf other set
    → network_matters set network ≡ true → network_matters other network ≡ true
network-more set other network all = matters-more set other network.cells all

reads-all : (set : Refs) (cells : List Cell)
    → list_all (contains set) (flat_map (λ cell. read_by cell.element) cells)
    ≡ list_all (λ cell. has_read set cell.element) cells
reads-all set [] = refl
reads-all set (cell ∷ cells) =
    list_all-append (contains set) (read_by cell.element)
    (flat_map (λ (c : Cell). read_by c.element) cells)
    ∙ ap (λ b. has_read set cell.element && b) (reads-all set cells)

-- a set has all that a network reads
pub network-all : (set : Refs) (network : Network)
    → list_all (contains set) (network_reads network) ≡ has_network set network
network-all set network = reads-all set network.cells

-- ---- growing

pub grown : (network : Network) (refs : List Ref) (old new : Refs) → refs ≡ network_reads network
    → network_matters old network ≡ true → AddsAll refs old new
    → GrowsBy (λ set. HasNetwork set network) true old new
grown network refs old new is matters adds = record {
  keeps = adds.keeps;
  least = λ set all has. adds.least set all
      (ap (list_all (contains set)) is ∙ (network-all set network
      ∙ has (network-more old set network all matters)));
  stays = λ no. absurd (let no' : true ≡ false = no in cc);
  such = λ no. absurd (let no' : true ≡ false = no in cc);
}

pub stayed : (Such : Refs → Type 0) (set : Refs) → Such set → GrowsBy Such false set set
stayed Such set has = record {
  keeps = λ at is. is;
  least = λ other all such. all;
  stays = λ no. refl;
  such = λ no. has;
}

or-off : (a b : Bool) → a || b ≡ false → (a ≡ false) × (b ≡ false)
or-off true b is = absurd (let no' : true ≡ false = is in cc)
or-off false b is = (refl, is)

pub grows-on : (One Other Both : Refs → Type 0) (a b : Bool) (old mid new : Refs)
    → ((set : Refs) → One set → Other set → Both set) → ((set : Refs) → Both set → One set)
    → ((set : Refs) → Both set → Other set) → GrowsBy One a old mid → GrowsBy Other b mid new
    → GrowsBy Both (a || b) old new
grows-on One Other Both a b old mid new join first second one other = record {
  keeps = λ at is. other.keeps at (one.keeps at is);
  least = λ set all both. other.least set (one.least set all (first set both)) (second set both);
  stays = λ no. let parts = or-off a b no in other.stays parts.1 ∙ one.stays parts.0;
  such = λ no. let parts = or-off a b no in
      join new (subst One (sym (other.stays parts.1)) (one.such parts.0)) (other.such parts.1);
}

-- what holds of the first items, one more, and all of them
pub more-hold : {X : Type 0} (P : X → Type 0) (xs : List X) (i : ℕ) (d : X) → i < length xs
    → AllByRecursion P (take i xs) → P (get_or xs i d) → AllByRecursion P (take (i + 1) xs)
more-hold P [] i d below all one = absurd (omega (arith, below))
more-hold P (x ∷ xs) zero d below all one = (one, tt)
more-hold P (x ∷ xs) (suc i) d below all one =
    let e : suc (i + 1) ≡ suc i + 1 = omega arith in
    subst (λ n. AllByRecursion P (take n (x ∷ xs))) e
    (all.0, more-hold P xs i d (omega (arith, below)) all.1 one)

pub first-hold : {X : Type 0} (P : X → Type 0) (xs : List X) (i : ℕ)
    → AllByRecursion P (take (i + 1) xs) → AllByRecursion P (take i xs)
first-hold P [] zero all = tt
first-hold P [] (suc i) all = tt
first-hold P (x ∷ xs) zero all = tt
first-hold P (x ∷ xs) (suc i) all =
    let e : suc i + 1 ≡ suc (i + 1) = omega arith in
    let parts = subst (λ n. AllByRecursion P (take n (x ∷ xs))) e all in
    (parts.0, first-hold P xs i parts.1)

pub last-holds : {X : Type 0} (P : X → Type 0) (xs : List X) (i : ℕ) (d : X) → i < length xs
    → AllByRecursion P (take (i + 1) xs) → P (get_or xs i d)
last-holds P [] i d below all = absurd (omega (arith, below))
last-holds P (x ∷ xs) zero d below all = all.0
last-holds P (x ∷ xs) (suc i) d below all =
    let e : suc i + 1 ≡ suc (i + 1) = omega arith in
    let parts = subst (λ n. AllByRecursion P (take n (x ∷ xs))) e all in
    last-holds P xs i d (omega (arith, below)) parts.1

-- ---- what is forced from the start

one-had : (set : Refs) (control : Option Ref) (rest : List Ref)
    → list_all (contains set) (cons_option control rest) ≡ true
    → HasIn set control × (list_all (contains set) rest ≡ true)
one-had set None rest is = ((λ at no. absurd (cc)), is)
one-had set (Some at) rest is =
    let parts = and_parts (contains set at) (list_all (contains set) rest) is in
    ((λ other same. let e : at ≡ other = cc in ap (contains set) (sym e) ∙ parts.0), parts.1)

one-all : (set : Refs) (control : Option Ref) (rest : List Ref) → HasIn set control
    → list_all (contains set) rest ≡ true
    → list_all (contains set) (cons_option control rest) ≡ true
one-all set None rest has all = all
one-all set (Some at) rest has all =
    ap (λ b. b && list_all (contains set) rest) (has at refl) ∙ all

controls-had : (set : Refs) (orders : List OrderRow)
    → list_all (contains set) (filter_map (λ row. row.control) orders) ≡ true
    → AllByRecursion (λ row. HasIn set row.control) orders
controls-had set [] is = tt
controls-had set (row ∷ orders) is =
    let parts = one-had set row.control (filter_map (λ r. r.control) orders) is in
    (parts.0, controls-had set orders parts.1)

controls-all : (set : Refs) (orders : List OrderRow)
    → AllByRecursion (λ row. HasIn set row.control) orders
    → list_all (contains set) (filter_map (λ row. row.control) orders) ≡ true
controls-all set [] all = refl
controls-all set (row ∷ orders) all =
    one-all set row.control (filter_map (λ r. r.control) orders) all.0
    (controls-all set orders all.1)

pub forced-had : (set : Refs) (of : Option Ref) (orders : List OrderRow)
    → list_all (contains set) (forced_by of orders) ≡ true
    → HasIn set of × AllByRecursion (λ row. HasIn set row.control) orders
forced-had set of orders is =
    let parts = one-had set of (filter_map (λ r. r.control) orders) is in
    (parts.0, controls-had set orders parts.1)

pub forced-all : (set : Refs) (of : Option Ref) (orders : List OrderRow) → HasIn set of
    → AllByRecursion (λ row. HasIn set row.control) orders
    → list_all (contains set) (forced_by of orders) ≡ true
forced-all set of orders has all =
    one-all set of (filter_map (λ r. r.control) orders) has (controls-all set orders all)

-- what a set has, each has that has all of it
pub all-more : (set other : Refs) (refs : List Ref) → HasAllOf other set
    → list_all (contains set) refs ≡ true → list_all (contains other) refs ≡ true
all-more set other [] all is = refl
all-more set other (at ∷ refs) all is =
    let parts = and_parts (contains set at) (list_all (contains set) refs) is in
    ap (λ b. b && list_all (contains other) refs) (all at parts.0)
    ∙ all-more set other refs all parts.1

-- ---- one reference more

or-true : (b : Bool) → b || true ≡ true
or-true true = refl
or-true false = refl

pub insert-keeps : (set : Refs) (at : Ref) → HasAllOf (insert set at) set
insert-keeps set at q is =
    contains-insert refs_total set at q
    ∙ (ap (λ b. eq_by_cmp ref_cmp q at || b) is ∙ or-true (eq_by_cmp ref_cmp q at))

insert-has : (set : Refs) (at : Ref) → contains (insert set at) at ≡ true
insert-has set at =
    contains-insert refs_total set at at
    ∙ ap (λ o. is_eq o || contains set at) (tied_itself refs_total at)

same-ordering : (o : Ordering) → is_eq o ≡ true → o ≡ Equal
same-ordering Less e = absurd (let no' : false ≡ true = e in cc)
same-ordering Equal e = refl
same-ordering Greater e = absurd (let no' : false ≡ true = e in cc)

by-one : (other : Refs) (q at : Ref) (b c : Bool) → eq_by_cmp ref_cmp q at ≡ b
    → contains other at ≡ true → (c ≡ true → contains other q ≡ true) → b || c ≡ true
    → contains other q ≡ true
by-one other q at true c is has rest on =
    ap (contains other) (exact_refs q at (same-ordering (ref_cmp q at) is)) ∙ has
by-one other q at false c is has rest on = rest on

insert-least : (set other : Refs) (at : Ref) → HasAllOf other set → contains other at ≡ true
    → HasAllOf other (insert set at)
insert-least set other at all has q is =
    by-one other q at (eq_by_cmp ref_cmp q at) (contains set q) refl has (all q)
    (sym (contains-insert refs_total set at q) ∙ is)

pub adds-none : (set : Refs) → AddsAll [] set set
adds-none set = record { keeps = λ q is. is; has = refl; least = λ other all has. all }

pub adds-more : (refs : List Ref) (i : ℕ) (d : Ref) (old mid new : Refs) → i < length refs
    → new ≡ insert mid (get_or refs i d) → AddsAll (take i refs) old mid
    → AddsAll (take (i + 1) refs) old new
adds-more refs i d old mid new below is adds =
    let at = get_or refs i d in
    let split : (set : Refs) → list_all (contains set) (take (i + 1) refs)
    ≡ list_all (contains set) (take i refs) && contains set at =
    λ set. list_all_more (contains set) refs i d below in
    let grown : HasAllOf (insert mid at) mid = insert-keeps mid at in
    let more : AddsAll (take (i + 1) refs) old (insert mid at) = record {
      keeps = λ q has. grown q (adds.keeps q has);
      has = split (insert mid at)
          ∙ (ap (λ b. b && contains (insert mid at) at)
          (all-more mid (insert mid at) (take i refs) grown adds.has)
          ∙ insert-has mid at);
      least = λ other all has.
          let parts = and_parts (list_all (contains other) (take i refs)) (contains other at)
          (sym (split other) ∙ has) in
          insert-least mid other at (adds.least other all parts.0) parts.1;
    } in
    subst (AddsAll (take (i + 1) refs) old) (sym is) more

use Rattle.std.proofs.Common.{rules, tests, ◌≡◌, ◌++◌, [], ◌∷◌, length, map, take, None, Some, sym, ap}
use Rattle.std.proofs.Common.{ap₂, ◌∙◌, ◌≤◌, arith}
use Rattle.std.proofs.Common.{get_or}
use Rattle.std.specs.Prelude.{◌==◌}
use Rattle.std.specs.List.{list_all}
use Rattle.std.proofs.lemmas.Bool.{ne_eqb}
use Rattle.std.proofs.lemmas.List.{length_push, map_push, length-map, length-set, take_more_set}
use Rattle.std.proofs.lemmas.List.{get_or-take}
use Rattle.std.proofs.lemmas.Iterator.Splits.{YieldsList-from_slice_split}
use Rattle.std.proofs.lemmas.Iterator.Consumers.{YieldsList-turn, YieldsList-end}
use Rattle.plant_types.specs.Limits.{is_up_to, most_address}
use Rattle.plant_types.specs.Numerals.{value_of}
use Rattle.plant_tables.specs.Numerals.{numeral_within}
use Rattle.plant_tables.specs.Routes.{route_words, addresses_in}
use Rattle.plant_tables.proofs.RouteLemmas.{address-some, address-none, number-at, route-none}
use Rattle.plant_tables.proofs.RouteLemmas.{route-own, route-leads, some-words, all-more}
use Rattle.plant_tables.proofs.RouteLemmas.{numbers-of}
use Rattle.plant_tables.proofs.routes.route_from.Goals as goal

pub returns-in_err-addresses : goal.returns-in_err-addresses
returns-in_err-addresses c =
    let t = YieldsList-turn (YieldsList-from_slice_split _ (λ byte. byte == 46) {f = tt {0}}
    c.args.word.now (cc) (cc) (cc) (λ x r q k. search (rules, tests))) c.loop-part.yielded _
    c.loop-part.yielded_by _ _ c.in-Some.part c.in-Some.is c.next.ensures.steps in
    let within : numeral_within 1 most_address c.in-Some.part.now ≡ None =
    ap (λ high. numeral_within 1 high c.in-Some.part.now) (sym c.from.ensures)
    ∙ sym c.numeral_within.ensures ∙ c.in_err-addresses.was in
    let number = number-at (route_words c.args.word.now) (length c.loop-part.yielded)
    c.in-Some.part.now t.0 t.1 c.requires.numbers in
    c.from_residual.ensures ∙ sym (route-none c.args.node c.args.word.now
    (length c.loop-part.yielded) c.in-Some.part.now t.0 t.1
    (address-none c.in-Some.part.now number within))

pub bounds-addresses-count : goal.bounds-addresses-count
bounds-addresses-count c =
    let t = YieldsList-turn (YieldsList-from_slice_split _ (λ byte. byte == 46) {f = tt {0}}
    c.args.word.now (cc) (cc) (cc) (λ x r q k. search (rules, tests))) c.loop-part.yielded _
    c.loop-part.yielded_by _ _ c.in-Some.part c.in-Some.is c.next.ensures.steps in
    omega (arith, c.loop-part.invariant.count, t.0, c.requires.few)

pub loop-part-preserved : goal.loop-part-preserved
loop-part-preserved c =
    let t = YieldsList-turn (YieldsList-from_slice_split _ (λ byte. byte == 46) {f = tt {0}}
    c.args.word.now (cc) (cc) (cc) (λ x r q k. search (rules, tests))) c.loop-part.yielded _
    c.loop-part.yielded_by _ _ c.in-Some.part c.in-Some.is c.next.ensures.steps in
    let within : numeral_within 1 most_address c.in-Some.part.now
    ≡ Some c.in_ok-addresses.field-0 =
    ap (λ high. numeral_within 1 high c.in-Some.part.now) (sym c.from.ensures)
    ∙ sym c.numeral_within.ensures ∙ c.in_ok-addresses.was in
    let address = address-some c.in-Some.part.now c.in_ok-addresses.field-0 within in
    record {
      count = omega (
        arith,
        c.loop-part.invariant.count,
        length_push c.loop-part.yielded c.in-Some.part,
      );
      read = take_more_set c.loop-part.addresses c.loop-part.count c.in_ok-addresses.field-0
          (omega (
            arith,
            c.loop-part.invariant.count,
            c.loop-part.invariant.long,
            t.0,
            c.requires.few,
          ))
          ∙ ap₂ (λ xs x. xs ++ x ∷ []) c.loop-part.invariant.read (sym address.1)
          ∙ sym (map_push (λ w. value_of w.now) c.loop-part.yielded c.in-Some.part);
      long = length-set c.loop-part.addresses c.loop-part.count c.in_ok-addresses.field-0
          ∙ c.loop-part.invariant.long;
      nodes = rw (map_push (λ w. value_of w.now) c.loop-part.yielded c.in-Some.part)
          (all-more (is_up_to most_address) (map (λ w. value_of w.now) c.loop-part.yielded)
          (value_of c.in-Some.part.now) c.loop-part.invariant.nodes address.0);
    }

pub returns-then-addresses-node : goal.returns-then-addresses-node
returns-then-addresses-node c =
    let t = YieldsList-end (YieldsList-from_slice_split _ (λ byte. byte == 46) {f = tt {0}}
    c.args.word.now (cc) (cc) (cc) (λ x r q k. search (rules, tests))) c.loop-part.yielded _
    c.loop-part.yielded_by _ _ c.in-None.is c.next.ensures.steps in
    let numbers = take c.loop-part.count c.loop-part.addresses in
    let all : numbers ≡ addresses_in c.args.word.now =
    c.loop-part.invariant.read ∙ numbers-of c.loop-part.yielded ∙ ap (map value_of) t.0 in
    let some : 1 ≤ length (addresses_in c.args.word.now) = omega (
      arith,
      length-map (route_words c.args.word.now) value_of,
      some-words c.args.word.now,
    ) in
    let first = get_or-take c.loop-part.count c.loop-part.addresses 0 0 (omega (
      arith,
      c.loop-part.invariant.count,
      t.1,
      some-words c.args.word.now,
    )) in
    sym (route-own c.args.node c.args.word.now numbers all (first ∙ c.if-addresses-node.true)
    (rw all some))

pub returns-else-addresses-node : goal.returns-else-addresses-node
returns-else-addresses-node c =
    let t = YieldsList-end (YieldsList-from_slice_split _ (λ byte. byte == 46) {f = tt {0}}
    c.args.word.now (cc) (cc) (cc) (λ x r q k. search (rules, tests))) c.loop-part.yielded _
    c.loop-part.yielded_by _ _ c.in-None.is c.next.ensures.steps in
    let numbers = take c.loop-part.count c.loop-part.addresses in
    let all : numbers ≡ addresses_in c.args.word.now =
    c.loop-part.invariant.read ∙ numbers-of c.loop-part.yielded ∙ ap (map value_of) t.0 in
    let some : 1 ≤ length (addresses_in c.args.word.now) = omega (
      arith,
      length-map (route_words c.args.word.now) value_of,
      some-words c.args.word.now,
    ) in
    let first = get_or-take c.loop-part.count c.loop-part.addresses 0 0 (omega (
      arith,
      c.loop-part.invariant.count,
      t.1,
      some-words c.args.word.now,
    )) in
    let nodes = ap (list_all (is_up_to most_address)) c.loop-part.invariant.read
    ∙ c.loop-part.invariant.nodes in
    let other = ne_eqb (get_or numbers 0 0) c.args.node
    (λ e. c.if-addresses-node.false (sym first ∙ e)) in
    ap Some c.of.ensures
    ∙ sym (route-leads c.args.node c.args.word.now numbers all nodes other (rw all some))

use Rattle.std.proofs.Common.{rules, tests, length, map, sym, arith}
use Rattle.std.specs.Prelude.{◌==◌}
use Rattle.plant_types.specs.Numerals.{is_numeral}
use Rattle.std.proofs.lemmas.List.{length_push, map_push, length-map}
use Rattle.std.proofs.lemmas.Iterator.Splits.{YieldsList-from_slice_split}
use Rattle.std.proofs.lemmas.Iterator.Consumers.{YieldsList-turn, YieldsList-end}
use Rattle.plant_tables.proofs.RouteLemmas.{route-long, route-wrong, route-reads, all-more}
use Rattle.plant_tables.proofs.routes.is_route.Goals as goal
use Rattle.plant_tables.proofs.routes.is_route.Goals.{then-left-eq0-via-then-left-eq0}
use Rattle.plant_tables.proofs.routes.is_route.Goals.{then-left-eq0-via-else-left-eq0+then-not-is_numeral}

pub returns-then-left-eq0 : goal.returns-then-left-eq0
returns-then-left-eq0 c =
    let t = YieldsList-turn (YieldsList-from_slice_split _ (λ byte. byte == 46) {f = tt {0}}
    c.args.word.now (cc) (cc) (cc) (λ x r q k. search (rules, tests))) c.loop-part.yielded _
    c.loop-part.yielded_by _ _ c.in-Some.part c.in-Some.is c.next.ensures.steps in
    elim c.then-left-eq0.branch [
      | then-left-eq0-via-then-left-eq0 w ↦ sym (route-long c.args.version c.args.word.now
          (length c.loop-part.yielded)
          (omega (arith, c.loop-part.invariant.few, w.if-left-eq0.true)) t.0)
      | then-left-eq0-via-else-left-eq0+then-not-is_numeral w ↦ sym (route-wrong c.args.version
          c.args.word.now (length c.loop-part.yielded) c.in-Some.part.now t.0 t.1
          (sym w.if-not-is_numeral.ensures))
    ]

pub loop-part-preserved : goal.loop-part-preserved
loop-part-preserved c = record {
  few = omega (
    arith,
    length_push c.loop-part.yielded c.in-Some.part,
    c.loop-part.invariant.few,
    c.if-left-eq0.false,
  );
  numbers = rw (map_push (λ w. w.now) c.loop-part.yielded c.in-Some.part)
      (all-more is_numeral (map (λ w. w.now) c.loop-part.yielded) c.in-Some.part.now
      c.loop-part.invariant.numbers (sym c.if-not-is_numeral.ensures));
}

pub returns : goal.returns
returns c =
    let t = YieldsList-end (YieldsList-from_slice_split _ (λ byte. byte == 46) {f = tt {0}}
    c.args.word.now (cc) (cc) (cc) (λ x r q k. search (rules, tests))) c.loop-part.yielded _
    c.loop-part.yielded_by _ _ c.in-None.is c.next.ensures.steps in
    sym (route-reads c.args.version c.args.word.now (map (λ w. w.now) c.loop-part.yielded)
    c.loop-part.left t.0
    (omega (arith, c.loop-part.invariant.few, length-map c.loop-part.yielded (λ w. w.now)))
    c.loop-part.invariant.numbers)

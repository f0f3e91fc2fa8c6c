use Rattle.std.proofs.Common.{◌≡◌, List, [], length, get_or, ap, subst, sym, ◌∙◌, arith}
use Rattle.std.proofs.lemmas.Bool.{eq-eqb, eqb-true}
use Rattle.ring_core.specs.declared.entry.RingEntry.{RingEntry}
use Rattle.tied_lists.specs.Own.{own}
use Rattle.joint_history.specs.declared.joint.RingLog.{RingLog}
use Rattle.station_laws.specs.Picked.{AreOfNode}
use Rattle.joint_law.proofs.OwnRings.{none-more, of-ring-at, own-alone, some-places}
use Rattle.station_laws.proofs.Lists.{not-true}
use Rattle.joint_law.proofs.on_rings.entries_of.Goals as goal

pub returns-then-not-is_empty : goal.returns-then-not-is_empty
returns-then-not-is_empty c =
    let rings = c.args.on.rings.now in
    let ring = c.index-on-at-then-not-is_empty.result in
    let places = c.places-places.result.now in
    let here = of-ring-at c.args.node rings c.args.on.own.now c.loop-at.at ring
    c.index-on-at.result places c.requires.places (omega arith) (omega arith)
    c.index-on-at-then-not-is_empty.is c.index-on-at.is
    (c.places-places.ensures ∙ ap (λ own_on. get_or own_on c.args.node []) (sym c.index-on-at.is))
    in
    let same : c.as_slice.result.now ≡ ring.entries = c.as_slice.ensures
    ∙ ap (λ (r : RingLog). r.entries) (sym c.index-on-at-then-not-is_empty.is) in
    record {
      places = subst (λ (l : List RingEntry). AreOfNode l c.args.node places) (sym same) here;
      own_is = ap (own c.args.node) same
          ∙ own-alone c.args.node rings c.loop-at.at ring (omega arith)
          c.index-on-at-then-not-is_empty.is c.requires.one c.loop-at.invariant
          (λ none. not-true (sym c.if-not-is_empty.true ∙ c.is_empty.ensures
          ∙ eq-eqb (length places) 0 (some-places ring.entries c.args.node places here none)));
    }

pub loop-at-preserved : goal.loop-at-preserved
loop-at-preserved c =
    let places = c.places-places.result.now in
    none-more c.args.node c.args.on.rings.now c.args.on.own.now c.loop-at.at
    c.index-on-at.result places c.requires.places (omega arith) (omega arith) c.index-on-at.is
    (c.places-places.ensures ∙ ap (λ own_on. get_or own_on c.args.node []) (sym c.index-on-at.is))
    (eqb-true (length places) 0 (sym c.if-not-is_empty.ensures)) c.loop-at.invariant

use Rattle.std.proofs.Common.{ap, subst, sym}
use Rattle.joint_history.specs.Nets.{entries_of_rings}
use Rattle.net_laws.proofs.Rings.{on-one}
use Rattle.joint_law.specs.AllComplete.{IsFirstIncomplete}
use Rattle.joint_law.specs.LawEnds.{IsLawsEnd}
use Rattle.joint_law.specs.OnRings.{ArePlacesOn, IsOnOne}
use Rattle.station_laws.specs.Bound.{bounds_of}
use Rattle.joint_law.proofs.LogSteps.{none-of}
use Rattle.joint_law.proofs.Verdicts.{end-spot, incomplete-spot, law-spot, laws-joint}
use Rattle.joint_law.proofs.judging.spot_from_laws.Goals as goal

pub laws_spot-requires : goal.laws_spot-requires
laws_spot-requires c = record {
  places = subst (ArePlacesOn c.as_slice-rings.result.now) (sym c.as_slice.ensures.value)
      c.in_ok-own.ensures;
  one = λ node. subst (IsOnOne node) (sym c.as_slice-rings.ensures)
      (on-one c.args.plant.now c.args.joint.now.rings c.requires.sound c.requires.legal.rings node);
  noted_is = ap entries_of_rings c.as_slice-rings.ensures;
}

pub first_incomplete-requires-clause-on_rings : goal.first_incomplete-requires-clause-on_rings
first_incomplete-requires-clause-on_rings c = record {
  places = subst (ArePlacesOn c.as_slice-rings.result.now) (sym c.as_slice.ensures.value)
      c.in_ok-own.ensures;
  one = λ node. subst (IsOnOne node) (sym c.as_slice-rings.ensures)
      (on-one c.args.plant.now c.args.joint.now.rings c.requires.sound c.requires.legal.rings node);
  noted_is = ap entries_of_rings c.as_slice-rings.ensures;
}

pub returns-in-Some : goal.returns-in-Some
returns-in-Some c =
    law-spot c.args.plant.now c.args.scans c.args.joint.now c.in-Some.spot c.requires.sound
    c.requires.legal
    (subst (IsLawsEnd (bounds_of c.args.joint.now)) c.in-Some.is c.in_ok-spot.ensures)

pub returns-in-Some-2 : goal.returns-in-Some-2
returns-in-Some-2 c =
    let tied = laws-joint c.args.plant.now c.args.scans c.args.joint.now c.requires.sound
    c.requires.legal
    (subst (IsLawsEnd (bounds_of c.args.joint.now))
    (none-of c.in_ok-spot.field-0 c.in_default.not-Some) c.in_ok-spot.ensures) in
    incomplete-spot c.args.plant.now c.args.scans c.args.joint.now c.in-Some-2.node
    c.requires.legal tied
    (subst (IsFirstIncomplete c.args.plant.now c.args.scans c.args.joint.now) c.in-Some-2.is
    c.in_ok-node.ensures)

pub returns : goal.returns
returns c =
    let tied = laws-joint c.args.plant.now c.args.scans c.args.joint.now c.requires.sound
    c.requires.legal
    (subst (IsLawsEnd (bounds_of c.args.joint.now))
    (none-of c.in_ok-spot.field-0 c.in_default.not-Some) c.in_ok-spot.ensures) in
    end-spot c.args.plant.now c.args.scans c.args.joint.now c.requires.sound c.requires.legal tied
    (subst (IsFirstIncomplete c.args.plant.now c.args.scans c.args.joint.now) c.in-None.is
    c.in_ok-node.ensures)

use Rattle.std.proofs.Common.{◌≡◌, ◌-◌, suc, List, Option, sym, subst, ◌∙◌, arith}
use Rattle.std.proofs.lemmas.List.{take_rest}
use Rattle.standby_pair.specs.declared.scanning.ScanMade.{ScanMade}
use Rattle.standby_pair.specs.Kept.{MadeScan}
use Rattle.panel_session.specs.Asked.{frames_heard}
use Rattle.standby_pair.proofs.Making.{InCourse, course-begins, course-goes-on, course-over}
use Rattle.standby_pair.proofs.Making.{first-dropped}
use Rattle.standby_pair.proofs.scanning.make_scans.Goals as goal

pub loop-place-init : goal.loop-place-init
loop-place-init c =
    let first = c.args.bench.now in
    let frames = c.args.frames.now in
    subst (λ (made : List ScanMade). InCourse first c.args.left frames first made frames 0)
    (sym c.new-made.ensures.items)
    (course-begins first c.args.left frames c.requires.leaves c.requires.few)

pub loop-place-preserved : goal.loop-place-preserved
loop-place-preserved c =
    let v = c.loop-place.bench in
    let u = c.make_scan.new.bench in
    let rest = c.loop-place.rest.now in
    let place = c.loop-place.place in
    let behind = c.args.left - 1 - place in
    let less : c.args.left - place ≡ suc behind =
    omega (arith, c.loop-place-test.true, c.requires.many) in
    course-goes-on c.args.bench.now c.args.left c.args.frames.now v c.loop-place.made.items rest
    place c.loop-place.invariant u c.in-Some.scan behind less
    (subst (λ (made : Option ScanMade). MadeScan v behind (frames_heard rest) made u) c.in-Some.is
    c.in_ok-scan.ensures) _ c.push.new.self.items
    (take_rest rest c.min.result ∙ first-dropped rest c.min.result c.min.ensures)
    c.in_ok-push.ensures.items

pub returns-in_default-clause-parts : goal.returns-in_default-clause-parts
returns-in_default-clause-parts c =
    let v = c.loop-place.bench in
    let rest = c.loop-place.rest.now in
    let place = c.loop-place.place in
    let over = subst (λ (made : Option ScanMade). MadeScan v (c.args.left - 1 - place)
    (frames_heard rest) made c.make_scan.new.bench) c.in_default.is c.in_ok-scan.ensures in
    course-over c.args.bench.now c.args.left c.args.frames.now v c.loop-place.made.items rest
    place c.args.many c.loop-place.invariant (omega (arith, c.loop-place-test.true)) over.0

use Rattle.std.proofs.Common.{◌+◌, Bool, List, length, sym, ap, subst, ◌∙◌}
use Rattle.peer_cop.specs.declared.wire.Wire.{Wire}
use Rattle.peer_cop.specs.Lines.{lines_of}
use Rattle.peer_cop.specs.Places.{IsFree}
use Rattle.peer_cop.specs.Wires.{IsFirstBad}
use Rattle.peer_cop.proofs.LineLemmas.{wire_shorter}
use Rattle.peer_cop.proofs.ReadLemmas.{first_bad, given_back, no_bytes, read_all, read_none}
use Rattle.peer_cop.proofs.ReadLemmas.{read_pushed, some_bytes}
use Rattle.peer_cop.proofs.wires.read_wires.Goals as goal

pub loop-rest-init : goal.loop-rest-init
loop-rest-init c =
    read_none c.args.plant.now c.args.bytes.now c.new-wires.result c.in_ok-flags.flags.items
    c.new-wires.ensures (c.in_ok-flags.ensures.items_if_clones_equal (λ y same. same))

pub loop-rest-smaller : goal.loop-rest-smaller
loop-rest-smaller c =
    wire_shorter c.loop-rest.rest.now c.in-Some.wire c.in-Some.later.now c.in-Some.ensures.begins

pub loop-rest-preserved : goal.loop-rest-preserved
loop-rest-preserved c =
    let items = c.loop-rest.flags.items in
    let after = c.take_wire.new.flags in
    let back = given_back items after c.loop-rest.flags.len c.loop-rest.flags.ok.0
    (c.take_wire.auto.flags ∙ ap length c.deref_mut.ensures.value) in
    read_pushed c.args.plant.now c.args.bytes.now c.loop-rest.rest.now c.in-Some.later.now
    c.loop-rest.wires c.push.new.self items c.deref_mut.result.now after _ c.in-Some.wire c.requires
    c.loop-rest.invariant c.in-Some.ensures c.deref_mut.ensures.value
    c.in_ok-push-in-Some.ensures.ok back

pub returns-in-None-clause-refused : goal.returns-in-None-clause-refused
returns-in-None-clause-refused c =
    let plant = c.args.plant.now in
    let bytes = c.args.bytes.now in
    subst (λ (wires : List Wire). IsFirstBad plant (lines_of bytes) (length wires + 1))
    (sym c.as_slice.ensures)
    (first_bad plant bytes c.loop-rest.rest.now c.loop-rest.wires c.loop-rest.flags.items c.requires
    c.loop-rest.invariant (some_bytes c.loop-rest.rest.now c.loop-rest-test.ensures)
    (λ wire more begins fits free. c.in-None.ensures wire more begins fits
    (subst (λ (flags : List Bool). IsFree flags wire) (sym c.deref_mut.ensures.value) free)))

pub returns-clause-wires : goal.returns-clause-wires
returns-clause-wires c =
    read_all c.args.plant.now c.args.bytes.now c.loop-rest.rest.now c.loop-rest.wires
    c.loop-rest.flags.items c.loop-rest.invariant
    (no_bytes c.loop-rest.rest.now c.loop-rest-test.ensures)

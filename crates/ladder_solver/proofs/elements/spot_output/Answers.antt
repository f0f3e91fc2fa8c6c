use Rattle.std.proofs.Common.{ap, ◌∙◌, ◌&&◌}
use Rattle.plant_types.specs.Discretes.{discretes_on}
use Rattle.plant_types.specs.Reference.{coil_at}
use Rattle.plant_types.specs.Store.{with_bit}
use Rattle.relay_ops.specs.Relay.{passes_power}
use Rattle.relay_ops.specs.declared.ContactKind.TheVariants as contacts
use Rattle.ladder_solver.specs.Relays.{input_ref}
use Rattle.ladder_solver.proofs.ElementLemmas.{gives_contact, gives_coil, gives_wire}
use Rattle.ladder_solver.proofs.RelayLemmas.{has_contact, had_contact, has_coil, named_by, coil_by}
use Rattle.ladder_solver.proofs.elements.spot_output.Goals as goal

pub passes-requires-clause-now : goal.passes-requires-clause-now
passes-requires-clause-now g c =
    has_contact _ contacts.Open (coil_at c.in-OpenCoil.number) _ c.args.spot.now.element
    (named_by _ _ _ c.requires.relay c.in-OpenCoil.is) c.coil_at.ensures c.requires.operands

pub passes-requires-clause-before : goal.passes-requires-clause-before
passes-requires-clause-before g c =
    had_contact _ contacts.Open (coil_at c.in-OpenCoil.number) _ c.args.spot.now.element
    (named_by _ _ _ c.requires.relay c.in-OpenCoil.is) c.coil_at.ensures c.requires.past

pub returns-in-OpenCoil-clause-leaves : goal.returns-in-OpenCoil-clause-leaves
returns-in-OpenCoil-clause-leaves g c =
    gives_contact contacts.Open (coil_at c.in-OpenCoil.number)
    c.args.spot.now.element c.args.power _ _ _
    (named_by _ _ _ c.requires.relay c.in-OpenCoil.is)
    (c.passes.ensures ∙ ap (λ at. c.args.power && passes_power contacts.Open at
    (g.R.RefStore.contents c.args.ram.now)
    (discretes_on (g.P.RefStore.contents c.args.past.now))) c.coil_at.ensures)

pub passes-requires-in-ClosedCoil-clause-now : goal.passes-requires-in-ClosedCoil-clause-now
passes-requires-in-ClosedCoil-clause-now g c =
    has_contact _ contacts.Closed (coil_at c.in-ClosedCoil.number) _ c.args.spot.now.element
    (named_by _ _ _ c.requires.relay c.in-ClosedCoil.is)
    c.coil_at-in-ClosedCoil.ensures c.requires.operands

pub passes-requires-in-ClosedCoil-clause-before : goal.passes-requires-in-ClosedCoil-clause-before
passes-requires-in-ClosedCoil-clause-before g c =
    had_contact _ contacts.Closed (coil_at c.in-ClosedCoil.number) _ c.args.spot.now.element
    (named_by _ _ _ c.requires.relay c.in-ClosedCoil.is)
    c.coil_at-in-ClosedCoil.ensures c.requires.past

pub returns-in-ClosedCoil-clause-leaves : goal.returns-in-ClosedCoil-clause-leaves
returns-in-ClosedCoil-clause-leaves g c =
    gives_contact contacts.Closed (coil_at c.in-ClosedCoil.number)
    c.args.spot.now.element c.args.power _ _ _
    (named_by _ _ _ c.requires.relay c.in-ClosedCoil.is)
    (c.passes-in-ClosedCoil.ensures ∙ ap (λ at. c.args.power && passes_power contacts.Closed at
    (g.R.RefStore.contents c.args.ram.now)
    (discretes_on (g.P.RefStore.contents c.args.past.now))) c.coil_at-in-ClosedCoil.ensures)

pub passes-requires-in-OpenInput-clause-now : goal.passes-requires-in-OpenInput-clause-now
passes-requires-in-OpenInput-clause-now g c =
    has_contact _ contacts.Open (input_ref c.in-OpenInput.number) _ c.args.spot.now.element
    (named_by _ _ _ c.requires.relay c.in-OpenInput.is) c.input_ref.ensures c.requires.operands

pub passes-requires-in-OpenInput-clause-before : goal.passes-requires-in-OpenInput-clause-before
passes-requires-in-OpenInput-clause-before g c =
    had_contact _ contacts.Open (input_ref c.in-OpenInput.number) _ c.args.spot.now.element
    (named_by _ _ _ c.requires.relay c.in-OpenInput.is) c.input_ref.ensures c.requires.past

pub returns-in-OpenInput-clause-leaves : goal.returns-in-OpenInput-clause-leaves
returns-in-OpenInput-clause-leaves g c =
    gives_contact contacts.Open (input_ref c.in-OpenInput.number)
    c.args.spot.now.element c.args.power _ _ _
    (named_by _ _ _ c.requires.relay c.in-OpenInput.is)
    (c.passes-in-OpenInput.ensures ∙ ap (λ at. c.args.power && passes_power contacts.Open at
    (g.R.RefStore.contents c.args.ram.now)
    (discretes_on (g.P.RefStore.contents c.args.past.now))) c.input_ref.ensures)

pub passes-requires-in-ClosedInput-clause-now : goal.passes-requires-in-ClosedInput-clause-now
passes-requires-in-ClosedInput-clause-now g c =
    has_contact _ contacts.Closed (input_ref c.in-ClosedInput.number) _ c.args.spot.now.element
    (named_by _ _ _ c.requires.relay c.in-ClosedInput.is)
    c.input_ref-in-ClosedInput.ensures c.requires.operands

pub passes-requires-in-ClosedInput-clause-before : goal.passes-requires-in-ClosedInput-clause-before
passes-requires-in-ClosedInput-clause-before g c =
    had_contact _ contacts.Closed (input_ref c.in-ClosedInput.number) _ c.args.spot.now.element
    (named_by _ _ _ c.requires.relay c.in-ClosedInput.is)
    c.input_ref-in-ClosedInput.ensures c.requires.past

pub returns-in-ClosedInput-clause-leaves : goal.returns-in-ClosedInput-clause-leaves
returns-in-ClosedInput-clause-leaves g c =
    gives_contact contacts.Closed (input_ref c.in-ClosedInput.number)
    c.args.spot.now.element c.args.power _ _ _
    (named_by _ _ _ c.requires.relay c.in-ClosedInput.is)
    (c.passes-in-ClosedInput.ensures ∙ ap (λ at. c.args.power && passes_power contacts.Closed at
    (g.R.RefStore.contents c.args.ram.now)
    (discretes_on (g.P.RefStore.contents c.args.past.now))) c.input_ref-in-ClosedInput.ensures)

pub coil-requires : goal.coil-requires
coil-requires g c =
    has_coil _ (coil_at c.in-Coil.number) _ c.args.spot.now.element
    (coil_by _ c.in-Coil.number _ c.requires.relay c.in-Coil.is) c.coil_at-in-Coil.ensures
    c.requires.operands

pub returns-in-Coil-clause-leaves : goal.returns-in-Coil-clause-leaves
returns-in-Coil-clause-leaves g c =
    gives_coil (coil_at c.in-Coil.number) c.args.spot.now.element c.args.power _ _ _
    (coil_by _ c.in-Coil.number _ c.requires.relay c.in-Coil.is)
    (c.coil.ensures.stored ∙ ap (λ at. with_bit (g.R.RefStore.contents c.args.ram.now) at
    c.args.power) c.coil_at-in-Coil.ensures)

pub returns-in-Wire-clause-leaves : goal.returns-in-Wire-clause-leaves
returns-in-Wire-clause-leaves g c =
    gives_wire c.args.spot.now.element c.args.power _ _
    (named_by _ _ _ c.requires.relay c.in-Wire.is)

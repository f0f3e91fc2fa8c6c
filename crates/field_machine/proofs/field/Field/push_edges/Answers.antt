use Rattle.std.proofs.Common.{◌≡◌, List, Some, get_or, subst}
use Rattle.std.specs.Prelude.{slice_get}
use Rattle.ladder_solver.specs.declared.places.BlockPlace.{BlockPlace}
use Rattle.field_machine.proofs.Items.{get-there}
use Rattle.field_machine.proofs.field.Field.push_edges.Goals as goal

pub edge-requires : goal.edge-requires
edge-requires c =
    let items = c.as_slice-place-items.result.now in
    let i = c.loop-place.place-index in
    let none : BlockPlace = record { segment = 0; network = 0; column = 0; row = 0 } in
    let place = get_or items i none in
    c.requires place (
      i,
      subst (λ (l : List BlockPlace). slice_get l i ≡ Some place)
          c.as_slice-place-items.ensures.value (get-there items i none c.loop-place-test.true),
    )

use Rattle.std.proofs.Common.{◌≡◌, true}
use Rattle.std.specs.FinMap.{contains_key}
use Rattle.plant_types.specs.declared.reference.Ref.{Ref}
use Rattle.state_ram.specs.Packed.{packed_contents}
use Rattle.ladder_solver.proofs.Stored.{all_at}
use Rattle.field_machine.proofs.narrow.zero_all.Goals as goal

pub zero-requires : goal.zero-requires
zero-requires c =
    c.loop-at.invariant.keeps _
    (all_at (λ (at : Ref). contains_key (packed_contents c.args.ram.now) at ≡ true)
    c.args.refs.now c.loop-at.at-index _ c.loop-at-test.true c.requires)

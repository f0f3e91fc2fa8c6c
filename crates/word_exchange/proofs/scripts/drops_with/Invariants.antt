use Rattle.std.proofs.Common.{◌≡◌, ◌++◌, drop, map}
use Rattle.plant_types.specs.declared.drops.IoDrop.{IoDrop}
use Rattle.word_exchange.specs.Feeding.{with_script}
use Rattle.word_exchange.specs.Starting.{script_in}
use Rattle.word_exchange.proofs.scripts.drops_with.Given as goal

abbrev pub invariant-loop-drop : goal.invariant-loop-drop
invariant-loop-drop l =
    l.made ++ map (λ (d : IoDrop). with_script d (script_in l.wired l.node d))
    (drop l.drop-index l.drops)
    ≡ map (λ (d : IoDrop). with_script d (script_in l.wired l.node d)) l.drops

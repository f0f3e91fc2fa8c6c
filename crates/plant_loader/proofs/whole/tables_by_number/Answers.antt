use Rattle.std.proofs.Common.{rules}
use Rattle.std.proofs.lemmas.List.Sorted.{IsNonDecreasingBy-from_sort_by_key, answers_always}
use Rattle.plant_tables.specs.declared.net.NetTable.{NetTable}
use Rattle.plant_loader.proofs.RisingLemmas.{sorted-by_network}
use Rattle.plant_loader.proofs.whole.tables_by_number.Goals as goal

pub returns : goal.returns
returns c =
    let number = λ (net : NetTable). net.number in
    sorted-by_network number _ _
    (IsNonDecreasingBy-from_sort_by_key number _ c.in_ok-sort_by_key.ensures.sorted
    (λ a r q k. search rules))
    (c.sort_by_key.ensures.stable number (answers_always _ _ _ (λ f a r g h. search rules)))
    c.sort_by_key.ensures.permutation c.requires

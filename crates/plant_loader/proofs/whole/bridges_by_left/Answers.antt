use Rattle.std.proofs.Common.{◌∙◌, rules}
use Rattle.std.proofs.lemmas.List.Sorted.{IsNonDecreasingBy-from_sort_by_key, answers_always}
use Rattle.plant_types.specs.declared.net.BridgePlan.{BridgePlan}
use Rattle.plant_loader.proofs.RisingLemmas.{sorted-by_node}
use Rattle.plant_loader.proofs.whole.bridges_by_left.Goals as goal

pub returns : goal.returns
returns c =
    let node = λ (bridge : BridgePlan). bridge.left in
    c.from_vec.ensures ∙ sorted-by_node node _ _
    (IsNonDecreasingBy-from_sort_by_key node _ c.in_ok-sort_by_key.ensures.sorted
    (λ a r q k. search rules))
    (c.sort_by_key.ensures.stable node (answers_always _ _ _ (λ f a r g h. search rules)))
    c.sort_by_key.ensures.permutation c.requires

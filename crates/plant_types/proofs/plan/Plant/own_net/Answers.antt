use Rattle.std.proofs.Common.{◌∙◌, ap, sym, subst, arith}
use Rattle.std.specs.Prelude.{Option, Contains, unwrap_or, option_map}
use Rattle.plant_types.specs.declared.net.NetPlan.{NetPlan}
use Rattle.plant_types.specs.Plans.{no_net}
use Rattle.plant_types.proofs.plan.Plant.own_net.Goals as goal

pub returns : goal.returns
returns c =
    ap (λ (o : Option NetPlan). unwrap_or o no_net)
    (sym (ap (option_map _) c.in-Some.is) ∙ c.net_of.ensures)

pub unreachable-requires : goal.unreachable-requires
unreachable-requires c =
    let none = sym c.net_of.ensures ∙ ap (option_map _) c.in-None.is in
    let member = subst (λ (net : NetPlan). Contains net.members c.args.node)
    (ap (λ (o : Option NetPlan). unwrap_or o no_net) none) c.requires.member in
    absurd (let low = member.1 in omega (arith, low))

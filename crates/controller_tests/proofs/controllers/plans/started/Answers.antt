use Rattle.std.proofs.Common.{◌≡◌, ℕ, zero, suc, List, length, sym, ap, subst, arith}
use Rattle.std.specs.Prelude.{replicate}
use Rattle.std.specs.List.{AllByRecursion}
use Rattle.std.proofs.lemmas.List.{length-replicate}
use Rattle.plant_types.specs.declared.plan.ControllerPlan.{ControllerPlan}
use Rattle.plant_types.specs.declared.plan.OrderRow.{OrderRow}
use Rattle.traffic_cop.specs.Rows.{FitsPlan}
use Rattle.controller_tests.specs.declared.controllers.plans.TheConstants.{ROW}
use Rattle.controller_tests.proofs.controllers.plans.started.Goals as goal

-- rows that solve the one segment fit its plan
fits-rows : (plan : ControllerPlan) → length plan.segments ≡ 1 → (rows : ℕ)
    → AllByRecursion (FitsPlan plan) (replicate rows ROW)
fits-rows plan one zero = tt
fits-rows plan one (suc rows) =
    let fits : FitsPlan plan ROW =
    record { from = omega arith; to = omega (arith, one); control = tt; input = tt; output = tt } in
    (fits, fits-rows plan one rows)

pub new-requires : goal.new-requires
new-requires c =
    let made = c.args.made.now in
    let rows = c.args.plan.now.rows in
    let many = ap length c.requires.orders in
    let few = c.requires.rows in
    let all = length-replicate rows ROW in
    record {
      plan = record {
        passes = c.requires.checked.passes;
        messages = c.requires.checked.messages;
        count = omega (arith, many, few, all);
        rows = subst (λ (l : List OrderRow). AllByRecursion (FitsPlan made) l)
            (sym c.requires.orders) (fits-rows made c.requires.segment rows);
      };
      scan_time = omega arith;
      watchdog = c.requires.watchdog;
      scans = c.requires.scans;
    }

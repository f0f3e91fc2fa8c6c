use Rattle.std.proofs.Common.{◌≡◌, ◌∷◌, sym, ap, ◌∙◌, arith, length}
use Rattle.port_tests.proofs.turns.checked.Goals as goal

pub returns-in-Ok-clause-runs : goal.returns-in-Ok-clause-runs
returns-in-Ok-clause-runs c =
    let plan = c.args.plan in
    let law = c.checks_are_exact.ensures in
    let checked = law.checked plan ((law.exact plan).0 (sym c.in-Ok.ensures)) in
    let one = c.requires.segment in
    record {
      passes = checked.passes;
      messages = checked.messages;
      count = let few = ap length c.requires.rows in omega (arith, few);
      rows = rw c.requires.rows (
        record {
          from = omega arith;
          to = omega (arith, one);
          control = tt;
          input = tt;
          output = tt;
        },
        tt,
      );
    }

use Rattle.std.proofs.Common.{◌≡◌, ℕ, zero, suc, true, List, length, get_or, replicate, refl}
use Rattle.std.proofs.Common.{sym, ap, subst, ◌∙◌, arith}
use Rattle.std.proofs.lemmas.List.{length-replicate}
use Rattle.std.specs.FinSet.{empty}
use Rattle.plant_types.specs.Checks.{sizes_of}
use Rattle.plant_types.specs.Discretes.{discretes_on}
use Rattle.plant_types.specs.Sizes.{cleared, discretes_of}
use Rattle.plant_types.specs.Store.{Keeps}
use Rattle.mstr_block.specs.declared.state.BlockState.TheVariants.{Idle}
use Rattle.mstr_block.specs.Table.{BlockTable}
use Rattle.ladder_solver.specs.Numbers.{mstr_blocks}
use Rattle.ladder_solver.specs.State.{LadderState, solve_state}
use Rattle.controller_core.proofs.machine.Machine.new.Goals as goal

zero_at : (n i : ℕ) → get_or (replicate {A = ℕ} n 0) i 0 ≡ 0
zero_at zero i = refl
zero_at (suc n) zero = refl
zero_at (suc n) (suc i) = zero_at n i

pub returns-clause-sound : goal.returns-clause-sound
returns-clause-sound c =
    let plan = c.args.fixed.plan in
    let sizes = sizes_of plan in
    let made = c.in_ok-parts.ensures in
    let blocks : length c.in_ok-parts.parts.solver.bank.blocks ≡ mstr_blocks plan.segments =
    ap (λ (t : BlockTable). length t.blocks) made.solver.bank
    ∙ length-replicate (mstr_blocks plan.segments) Idle in
    record {
      runs = c.requires;
      grids = sym (ap (λ (l : LadderState). l.grids) made.solver.ladder);
      drops = made.cop;
      keeps = subst (Keeps (cleared sizes)) (sym made.stores.ram) (λ at there. there);
      past = record {
        store = cleared sizes;
        keeps = λ at there. there;
        is = made.stores.past ∙ sym (c.discretes_follow.ensures.fresh sizes);
      };
      node = ap (λ (t : BlockTable). t.node) made.solver.bank;
      routed = ap (λ (t : BlockTable). t.routed) made.solver.bank;
      blocks = blocks;
      few = let few = made.solver.few in omega (arith, blocks, few);
      exchanges = ap length made.exchanges ∙ length-replicate {A = ℕ} 32 0;
    }

pub returns-clause-state : goal.returns-clause-state
returns-clause-state c =
    let sizes = sizes_of c.args.fixed.plan in
    let made = c.in_ok-parts.ensures in
    let past : discretes_on c.in_ok-parts.parts.stores.past ≡ empty =
    ap discretes_on made.stores.past ∙ c.discretes_are_on.ensures.fresh (discretes_of sizes) in
    let edges = ap (λ (l : LadderState). l.edges) made.solver.ladder in
    λ i. record {
      solving = solve_state (made.stores.ram i) (past i) (edges i) (made.solver.bank i)
          (record { before = 0; now = 0 }) 0;
      exchanges = made.exchanges i;
      gone = 0;
      stop = 0;
      powered = true;
      failures = 0;
    }

pub returns-clause-timely : goal.returns-clause-timely
returns-clause-timely c =
    let items = c.in_ok-parts.ensures.exchanges in
    record {
      clock = omega arith;
      exchanges = λ i. let e : get_or c.in_ok-parts.parts.exchanges.items i 0 ≡ 0 =
          ap (λ (l : List ℕ). get_or l i 0) items ∙ zero_at 32 i in omega arith;
      gone = omega arith;
      failures = omega arith;
    }

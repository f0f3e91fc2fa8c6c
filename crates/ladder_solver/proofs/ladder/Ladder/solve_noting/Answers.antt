use Rattle.std.proofs.Common.{◌≡◌, ℕ, ◌++◌, length, ap, ◌∙◌, sym, subst, arith}
use Rattle.plant_types.specs.Discretes.{discretes_on}
use Rattle.plant_types.specs.Operands.{HasOperands, HasPast}
use Rattle.grid_compile.proofs.Listed.{segments_listed}
use Rattle.ladder_solver.specs.State.{LadderState, solve_state}
use Rattle.ladder_solver.specs.Ladder.{HasSegments}
use Rattle.ladder_solver.specs.Numbers.{mstr_count, networks_of, block_number}
use Rattle.ladder_solver.specs.Segment.{networks_after, setting_within, call_depth}
use Rattle.ladder_solver.specs.Noted.{networks_notes, notes_within}
use Rattle.mstr_block.specs.Table.{BlockTable}
use Rattle.ladder_solver.specs.Conditions.{EachInGrids}
use Rattle.ladder_solver.proofs.LadderLemmas.{segment_can, length-spots_at, whole_run}
use Rattle.ladder_solver.proofs.NumberLemmas.{length-laid, spots_at-of}
use Rattle.ladder_solver.proofs.ladder.Ladder.solve_noting.Goals as goal

pub note_run-requires-clause-calls : goal.note_run-requires-clause-calls
note_run-requires-clause-calls g c =
    let grids = ap (λ (l : LadderState). l.grids) c.self.view_is in
    let many = ap length grids in
    let blocks = ap mstr_count grids in
    let bank = ap (λ (t : BlockTable). length t.blocks) c.swap.ensures.x_after in
    segment_can _ _ (record {
      clock = c.args.clock;
      edges = c.self.inside.scan.edges;
      bank = c.swap.new.x;
      left = c.args.watch.now.left;
    })
    c.self.inside.program (length c.self.inside.program) c.self.invariant.can_lay.grids
    c.self.invariant.edges (omega (arith, c.requires.solvable.blocks, blocks, bank))
    (subst (EachInGrids (HasOperands (g.R.RefStore.contents c.args.ram.now)))
    (sym grids) c.requires.solvable.operands)
    (subst (EachInGrids (HasPast (g.P.RefStore.contents c.args.past.now)))
    (sym grids) c.requires.solvable.past)
    (omega (arith, many, c.requires.solvable.first, c.requires.solvable.last)) (omega arith)

pub note_run-requires-clause-here : goal.note_run-requires-clause-here
note_run-requires-clause-here g c =
    let grids = ap (λ (l : LadderState). l.grids) c.self.view_is in
    let many = ap length grids in
    let blocks = ap mstr_count grids in
    let bank = ap (λ (t : BlockTable). length t.blocks) c.swap.ensures.x_after in
    segment_can _ _ (record {
      clock = c.args.clock;
      edges = c.self.inside.scan.edges;
      bank = c.swap.new.x;
      left = c.args.watch.now.left;
    })
    c.self.inside.program c.from-segment.result c.self.invariant.can_lay.grids
    c.self.invariant.edges (omega (arith, c.requires.solvable.blocks, blocks, bank))
    (subst (EachInGrids (HasOperands (g.R.RefStore.contents c.args.ram.now)))
    (sym grids) c.requires.solvable.operands)
    (subst (EachInGrids (HasPast (g.P.RefStore.contents c.args.past.now)))
    (sym grids) c.requires.solvable.past)
    (omega (arith, c.from-segment.ensures, c.requires.solvable.first))
    (omega (arith, many, c.from-segment.ensures, c.requires.solvable.last))

pub note_run-requires-clause-within : goal.note_run-requires-clause-within
note_run-requires-clause-within g c =
    let many = ap length c.networks.ensures
    ∙ length-spots_at c.self.inside.program c.from-segment.result in
    omega (arith, many)

pub invariant_of-self : goal.invariant_of-self
invariant_of-self g c = record {
  can_lay = c.self.invariant.can_lay;
  edges = c.note_run.ensures.scan.counts ∙ c.self.invariant.edges;
}

pub returns-clause-solved : goal.returns-clause-solved
returns-clause-solved g c =
    let count : BlockTable → ℕ = λ table. length table.blocks in
    let grids = ap (λ (l : LadderState). l.grids) c.self.view_is in
    let edges = ap (λ (l : LadderState). l.edges) c.self.view_is in
    let program = c.self.inside.program in
    let number = c.from-segment.result in
    let old = g.R.RefStore.contents c.args.ram.now in
    let past = discretes_on (g.P.RefStore.contents c.args.past.now) in
    let left = c.args.watch.now.left in
    record {
      same = grids;
      keeps = c.note_run.ensures.keeps;
      listed = subst HasSegments grids (segments_listed program c.self.invariant.can_lay.grids);
      blocks = ap count c.swap-2.ensures.y_after ∙ c.note_run.ensures.scan.bank
          ∙ ap count c.swap.ensures.x_after;
      solved = λ segments same.
          let setting = setting_within call_depth segments in
          let networks = networks_of segments number in
          let laid = c.networks.ensures ∙ spots_at-of segments program number
          (omega (arith, c.from-segment.ensures, c.requires.solvable.first)) (same ∙ sym grids) in
          let many : length c.networks.result.now ≡ length networks =
          ap length laid ∙ length-laid (block_number segments) number 1 networks in
          let all = whole_run networks (length c.networks.result.now) many in
          (λ i. solve_state (g.R.RefStore.contents c.note_run.new.ram) past
          c.note_run.new.scan.edges.on
          (c.swap-2.ensures.y_after i) (sym c.note_run.ensures.scan.clock i)
          c.note_run.new.scan.left)
          ∙ sym ((λ i. networks_after setting (sym c.from-segment.ensures i) 1
          (networks_of segments (sym c.from-segment.ensures i)) 0
          (solve_state old past (sym edges i) (sym c.swap.ensures.x_after i) c.args.clock left))
          ∙ (λ i. networks_after setting number 1 (sym all i) 0
          (solve_state old past c.self.inside.scan.edges.on c.swap.new.x c.args.clock left))
          ∙ c.note_run.ensures.solved segments (same ∙ sym grids));
    }

pub returns-clause-noted : goal.returns-clause-noted
returns-clause-noted g c segments same =
    let grids = ap (λ (l : LadderState). l.grids) c.self.view_is in
    let edges = ap (λ (l : LadderState). l.edges) c.self.view_is in
    let program = c.self.inside.program in
    let number = c.from-segment.result in
    let old = g.R.RefStore.contents c.args.ram.now in
    let past = discretes_on (g.P.RefStore.contents c.args.past.now) in
    let left = c.args.watch.now.left in
    let noting = notes_within call_depth segments in
    let setting = setting_within call_depth segments in
    let networks = networks_of segments number in
    let laid = c.networks.ensures ∙ spots_at-of segments program number
    (omega (arith, c.from-segment.ensures, c.requires.solvable.first)) (same ∙ sym grids) in
    let many : length c.networks.result.now ≡ length networks =
    ap length laid ∙ length-laid (block_number segments) number 1 networks in
    let all = whole_run networks (length c.networks.result.now) many in
    c.note_run.ensures.noted segments (same ∙ sym grids)
    ∙ ap (λ xs. c.args.notes.now.items ++ xs)
    (sym ((λ i. networks_notes noting setting (sym c.from-segment.ensures i) 1
    (networks_of segments (sym c.from-segment.ensures i)) 0
    (solve_state old past (sym edges i) (sym c.swap.ensures.x_after i) c.args.clock left))
    ∙ (λ i. networks_notes noting setting number 1 (sym all i) 0
    (solve_state old past c.self.inside.scan.edges.on c.swap.new.x c.args.clock left))))

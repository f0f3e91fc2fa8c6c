use Rattle.std.proofs.Common.{◌≡◌, true, false, sym, ap, ap₂, ◌∙◌}
use Rattle.std.specs.FinSet.{contains, contains-empty}
use Rattle.mstr_block.specs.Table.{idle_table}
use Rattle.ladder_solver.specs.Numbers.{mstr_blocks, mstr_count}
use Rattle.ladder_solver.specs.State.{place_cmp, LadderState}
use Rattle.field_machine.proofs.work.Work.new.Goals as goal

pub returns : goal.returns
returns c =
    let plan = c.args.plan.now in
    let ladder = c.in_ok-ladder.ensures in
    let blocks : c.blocks-count.result ≡ mstr_blocks plan.segments =
    c.blocks-count.ensures ∙ ap (λ (l : LadderState). mstr_count l.grids) ladder
    ∙ c.grids_ask_no_more.ensures.blocks plan.segments in
    record {
      grids = sym (ap (λ (l : LadderState). l.grids) ladder);
      bank = c.in_ok-bank.ensures ∙ ap₂ (idle_table plan.node) c.is_routed.ensures blocks;
      edges = λ place is. absurd (let no' : false ≡ true =
          sym (ap (λ (l : LadderState). contains l.edges place) ladder
          ∙ contains-empty place_cmp place) ∙ is in cc);
    }

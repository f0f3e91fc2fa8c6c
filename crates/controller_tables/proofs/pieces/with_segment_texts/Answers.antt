use Rattle.controller_tables.proofs.Checked.{with_texts-within}
use Rattle.controller_tables.proofs.pieces.with_segment_texts.Goals as goal

pub with_segment-requires : goal.with_segment-requires
with_segment-requires c =
    let within = with_texts-within c.args.owner _ c.args.program c.in_ok-program.program
    c.in_ok-program.ensures c.requires.between.cells in
    rw within.segments c.requires.segments

use Rattle.controller_tables.specs.Pieces.{pieces_of}
use Rattle.controller_tables.proofs.Checked.{with_pieces-before}
use Rattle.controller_tables.proofs.pieces.with_text.Goals as goal

pub with_network-requires : goal.with_network-requires
with_network-requires c =
    let same = with_pieces-before c.args.owner (pieces_of c.args.text.now) c.args.program
    c.in_ok-program.program c.in_ok-program.ensures in
    rw same.networks c.requires

use Rattle.std.proofs.Common.{◌∷◌, take}
use Rattle.std.specs.List.{flat_map}
use Rattle.std.specs.Fmt.{HasWritten, IsPlainFormatter}
use Rattle.cell_text.specs.Texts.{operand_text}
use Rattle.cell_text.proofs.writing.PieceDisplay.fmt.Given as goal

abbrev pub invariant-loop-operand : goal.invariant-loop-operand
invariant-loop-operand g l =
    IsPlainFormatter l.initial.f → HasWritten g.W.Write.write_str_gives l.initial.f
    (flat_map (λ operand. 32 ∷ operand_text operand) (take l.operand-index l.operand-items)) l.f

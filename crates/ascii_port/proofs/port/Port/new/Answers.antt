use Rattle.std.proofs.Common.{sym, ◌∙◌, refl}
use Rattle.ascii_port.proofs.Cutting.{frames-uncut}
use Rattle.ascii_port.proofs.port.Port.new.Goals as goal

pub returns : goal.returns
returns c = λ more none. frames-uncut more none ∙ sym (frames-uncut _ refl)

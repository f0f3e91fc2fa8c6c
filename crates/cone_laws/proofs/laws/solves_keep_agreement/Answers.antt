use Rattle.cone_laws.proofs.Walk.{segment-both}
use Rattle.cone_laws.proofs.laws.solves_keep_agreement.Goals as goal

pub returns : goal.returns
returns c segments set number s t none closed agree =
    segment-both segments set none closed number s t agree

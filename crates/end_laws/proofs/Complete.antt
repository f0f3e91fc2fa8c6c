-- A bridge's end that has left is complete.
use Rattle.std.proofs.Common.{refl}
use Rattle.end_laws.specs.Laws.{EndsComplete}
use Rattle.end_laws.proofs.Ended.{each-ended, gone-made}

pub end-complete : EndsComplete
end-complete plan net side list ring sound t k =
    let g = k.gone refl in
    record {
      finished = each-ended plan list side sound t.legal g.none;
      gone = gone-made plan side list sound t.end t.legal g.bridge;
      left = g.on_ring;
      quiet = g.quietly;
    }

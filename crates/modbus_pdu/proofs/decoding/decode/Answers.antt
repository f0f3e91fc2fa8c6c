use Rattle.std.proofs.Common.{◌≡◌, ◌-◌, true, length, take, drop, slice_index, arith, rules}
use Rattle.std.proofs.lemmas.List.{take_all, length-drop}
use Rattle.modbus_pdu.specs.Spelling.{is_listed}
use Rattle.modbus_pdu.proofs.Requests.{decoded}
use Rattle.modbus_pdu.proofs.decoding.decode.Goals as goal

pub returns : goal.returns
returns c =
    let bytes = c.args.bytes.now in
    let listed : is_listed (slice_index bytes 0) ≡ true = search rules in
    let fields : take (length bytes - 1) (drop 1 bytes) ≡ drop 1 bytes =
    take_all (length bytes - 1) (drop 1 bytes) (omega (arith, length-drop 1 bytes)) in
    let all = decoded bytes c.decode_listed.result c.requires
    (rw fields at c.decode_listed.ensures) in
    record {
      spelled = all.spelled;
      only = all.only;
      unlisted = (λ e. absurd (all.unlisted e), λ other. absurd cc);
      misformed = (λ e. (listed, all.unspelled.0 e), λ h. all.unspelled.1 h.1);
      ends = all.ends;
      memory = all.memory;
    }

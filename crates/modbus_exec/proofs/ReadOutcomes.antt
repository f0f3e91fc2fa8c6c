-- What a read of references of a kind comes to.
use Rattle.std.proofs.Common.{◌≡◌, ℕ, refl}
use Rattle.plant_types.specs.declared.reference.RefKind.{RefKind}
use Rattle.plant_types.specs.declared.reference.RefKind.TheVariants.{Coil, Input, InputRegister}
use Rattle.plant_types.specs.declared.reference.RefKind.TheVariants.{Register}
use Rattle.plant_types.specs.Store.{Contents}
use Rattle.modbus_pdu.specs.Steps.{read_request}
use Rattle.modbus_exec.specs.Answer.{reply_by, execution_of}
use Rattle.modbus_exec.specs.Runs.{reference_at, are_in_map}
use Rattle.modbus_exec.proofs.Outcomes.{chosen}

-- A read comes to its reply where the map has the references, else to exception 2.
pub read_chosen : (kind : RefKind) (address count : ℕ) (m : Contents)
    → execution_of (read_request kind address count) m
    ≡ chosen (are_in_map m (reference_at kind address) count) (record {
      reply = reply_by (read_request kind address count) m;
      stored = m;
    })
read_chosen Coil address count m = refl
read_chosen Input address count m = refl
read_chosen Register address count m = refl
read_chosen InputRegister address count m = refl

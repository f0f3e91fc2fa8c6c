use Rattle.std.specs.Cmp.{second_so}
use Rattle.modbus_exec.proofs.RunLemmas.{run_of}
use Rattle.modbus_exec.proofs.storing.store.Goals as goal

pub write_bits-requires : goal.write_bits-requires
write_bits-requires g c = rw c.as_slice.ensures (run_of _ _ _ (rw c.in-WriteCoils.is at c.requires))

pub write_words-requires : goal.write_words-requires
write_words-requires g c =
    rw c.words.ensures (run_of _ _ _ (rw c.in-WriteRegisters.is at c.requires))

pub write_words-requires-in-ReadWrite : goal.write_words-requires-in-ReadWrite
write_words-requires-in-ReadWrite g c = rw c.words-in-ReadWrite.ensures
    (run_of _ _ _ (second_so _ _ (rw c.in-ReadWrite.is at c.requires)))

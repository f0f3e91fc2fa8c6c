-- What the banks of words hold.
use Rattle.state_ram.specs.Packed.{Words}
use Rattle.key_store.specs.declared.banks.Banks.{Banks}

-- The words of banks. This project's own.
abbrev pub bank_words : Banks → Words
bank_words banks = record {
  coils = banks.coils.items;
  inputs = banks.inputs.items;
  input_registers = banks.input_registers.items;
  registers = banks.registers.items;
}

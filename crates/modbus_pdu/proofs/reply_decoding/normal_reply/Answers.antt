use Rattle.modbus_pdu.proofs.Matching.{read_coils_reply, read_inputs_reply, read_registers_reply}
use Rattle.modbus_pdu.proofs.Matching.{read_input_registers_reply, write_coil_reply}
use Rattle.modbus_pdu.proofs.Matching.{write_register_reply, echo_reply, stats_reply}
use Rattle.modbus_pdu.proofs.Matching.{write_coils_reply, write_registers_reply, mask_reply}
use Rattle.modbus_pdu.proofs.Matching.{read_write_reply}
use Rattle.modbus_pdu.proofs.reply_decoding.normal_reply.Goals as goal

pub returns-in-ReadCoils : goal.returns-in-ReadCoils
returns-in-ReadCoils c = rw c.in-ReadCoils.is (read_coils_reply _ _ _ _ c.decode_bits.ensures)

pub returns-in-ReadInputs : goal.returns-in-ReadInputs
returns-in-ReadInputs c =
    rw c.in-ReadInputs.is (read_inputs_reply _ _ _ _ c.decode_bits-in-ReadInputs.ensures)

pub returns-in-ReadRegisters : goal.returns-in-ReadRegisters
returns-in-ReadRegisters c =
    rw c.in-ReadRegisters.is (read_registers_reply _ _ _ _ c.decode_words.ensures)

pub returns-in-ReadInputRegisters : goal.returns-in-ReadInputRegisters
returns-in-ReadInputRegisters c = rw c.in-ReadInputRegisters.is
    (read_input_registers_reply _ _ _ _ c.decode_words-in-ReadInputRegisters.ensures)

pub returns-in-WriteCoil : goal.returns-in-WriteCoil
returns-in-WriteCoil c = rw c.in-WriteCoil.is (write_coil_reply _ _ _ _ c.decode_write_coil.ensures)

pub returns-in-WriteRegister : goal.returns-in-WriteRegister
returns-in-WriteRegister c =
    rw c.in-WriteRegister.is (write_register_reply _ _ _ _ c.decode_write_register.ensures)

pub returns-in-Echo : goal.returns-in-Echo
returns-in-Echo c = rw c.in-Echo.is (echo_reply _ _ _ c.decode_echo.ensures)

pub returns-in-Mask : goal.returns-in-Mask
returns-in-Mask c = rw c.in-Mask.is (mask_reply _ _ _ _ _ c.decode_mask.ensures)

pub returns-in-ReadWrite : goal.returns-in-ReadWrite
returns-in-ReadWrite c =
    rw c.in-ReadWrite.is (read_write_reply _ _ _ _ _ _ c.decode_words-in-ReadWrite.ensures)

pub returns-in-WriteCoils : goal.returns-in-WriteCoils
returns-in-WriteCoils c = rw c.in-WriteCoils.is
    (write_coils_reply _ _ _ _ (rw c.as_slice.ensures at c.decode_written.ensures))

pub returns-in-WriteRegisters : goal.returns-in-WriteRegisters
returns-in-WriteRegisters c =
    rw c.in-WriteRegisters.is (write_registers_reply _ _ _ _
    (rw c.words.ensures at c.decode_written-in-WriteRegisters.ensures))

pub returns-in-Stats : goal.returns-in-Stats
returns-in-Stats c =
    rw c.in-Stats.is (stats_reply _ _ _ (rw c.stats_quantity.ensures.due at c.decode_stats.ensures))

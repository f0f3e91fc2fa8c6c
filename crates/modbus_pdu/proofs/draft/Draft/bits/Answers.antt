use Rattle.std.proofs.Common.{◌++◌, ◌-◌, ◌*◌, ◌∷◌, [], List, Bool, ℕ, length, sym, ap, ◌∙◌}
use Rattle.std.proofs.Common.{append_assoc, arith}
use Rattle.std.proofs.lemmas.List.{append-nil}
use Rattle.modbus_pdu.specs.Bytes.{packed, bytes_for, clear_spare}
use Rattle.modbus_pdu.proofs.Packing.{packed_more}
use Rattle.modbus_pdu.proofs.draft.Draft.bits.Goals as goal

pub loop-index-init : goal.loop-index-init
unfolding packed
loop-index-init c = record { bytes = sym (append-nil c.args.self.now); length = omega arith }

pub loop-index-preserved : goal.loop-index-preserved
loop-index-preserved c =
    let bits : List Bool = c.args.bits.now in
    let old = c.args.self.now in
    let index = c.loop-index.index in
    let before = packed index (bits ++ clear_spare (length bits)) in
    let byte = c.byte_at.result in
    let more = packed_more index bits (8 * bytes_for (length bits) - length bits) (omega arith) in
    record {
      bytes = c.byte.ensures.bytes
          ∙ ap (λ (s : List ℕ). s ++ byte ∷ []) c.loop-index.invariant.bytes
          ∙ append_assoc old before (byte ∷ [])
          ∙ ap (λ (p : List ℕ). old ++ p)
          (ap (λ (b : ℕ). before ++ b ∷ []) c.byte_at.ensures ∙ sym more);
      length = omega (arith, c.byte.ensures.length);
    }

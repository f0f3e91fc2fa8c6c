use Rattle.std.proofs.Common.{◌≡◌, refl, subst, sym, ◌∙◌, ◌*◌, ◌-◌, ◌%◌, ◌^◌, Bool, true, false}
use Rattle.std.proofs.Common.{cond}
use Rattle.std.specs.Prelude.{bit_and, bit_or}
use mir.Val.{bool_byte}
use Rattle.state_ram.specs.Bits.{IsWithBit}
use Rattle.state_ram.proofs.OneBit.{put_bit}
use Rattle.key_store.proofs.bits.with_bit.Goals as goal

byte_is : (on : Bool) → bool_byte on ≡ cond on 1 0
byte_is true = refl
byte_is false = refl

pub returns : goal.returns
returns c =
    let word = c.args.word in
    let k = 15 - c.args.place in
    subst (λ n. IsWithBit word c.args.place c.args.on
    (bit_or (bit_and word (65535 - 1 * 2 ^ k % 65536)) (n * 2 ^ k % 65536))) (sym
    (c.from.ensures ∙ byte_is c.args.on)) (put_bit word c.args.place c.args.on c.requires)

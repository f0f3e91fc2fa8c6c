use Rattle.std.proofs.Common.{◌≡◌, ◌<◌, ℕ, ◌+◌, ◌*◌, Bool, true, false, take, get_or, refl, sym, ap}
use Rattle.std.proofs.Common.{◌∙◌, arith}
use Rattle.std.specs.Prelude.{nat_lt}
use mir.Val.{bool_byte}
use Rattle.std.proofs.lemmas.List.{get_or-map, take_all}
use Rattle.plant_types.specs.Power.{bit_of}
use Rattle.plant_types.specs.Store.{is_on, words_from}
use Rattle.plant_types.specs.Discretes.{bits_from, number_of_bits}
use Rattle.plant_types.proofs.DiscretesLemmas.{length-bits_from}
use Rattle.plant_types.proofs.RunLemmas.{get_or-words_from, length-words_from}
use Rattle.traffic_cop.proofs.ModuleLemmas.{number_more, twice_small}
use Rattle.traffic_cop.proofs.modules.word_of.Goals as goal

byte_is : (on : Bool) → bool_byte on ≡ bit_of on
byte_is true = refl
byte_is false = refl

pub loop-place-preserved : goal.loop-place-preserved
loop-place-preserved g c =
    let m = g.R.RefStore.contents c.args.ram.now in
    let place = c.loop-place.place in
    let bits = bits_from m c.args.at 16 in
    let size = length-bits_from m c.args.at 16 in
    let run = length-words_from m c.args.at 16 in
    let lt : place < 16 = c.loop-place-test.true in
    let on = c.bit.result in
    let byte : c.from.result ≡ bit_of on = c.from.ensures ∙ byte_is on in
    let is : get_or bits place false ≡ on =
    get_or-map (λ (word : ℕ). nat_lt 0 word) (words_from m c.args.at 16) place 0 false (omega arith)
    ∙ ap (λ (word : ℕ). nat_lt 0 word) (get_or-words_from m c.args.at 16 place 0 lt)
    ∙ sym (c.bit.ensures ∙ ap (is_on m) c.ref_after.ensures) in
    let more = number_more bits place (omega arith) in
    let small = twice_small c.loop-place.word place on c.loop-place.invariant.small in
    record {
      number = ap (λ n. 2 * c.loop-place.word + n) byte
          ∙ ap (λ n. 2 * n + bit_of on) c.loop-place.invariant.number
          ∙ sym (more ∙ ap (λ b. 2 * number_of_bits (take place bits) + bit_of b) is);
      small = rw byte small;
    }

pub returns : goal.returns
returns g c =
    let m = g.R.RefStore.contents c.args.ram.now in
    let bits = bits_from m c.args.at 16 in
    let size = length-bits_from m c.args.at 16 in
    c.loop-place.invariant.number
    ∙ ap number_of_bits (take_all c.loop-place.place bits (omega arith))

use Rattle.std.proofs.Common.{◌≡◌, ◌≢◌, ℕ, ◌+◌, ◌-◌, ◌<◌, length, ap, sym, ◌∙◌, arith}
use Rattle.plant_types.specs.declared.reference.Ref.{Ref}
use Rattle.plant_types.specs.declared.reference.RefKind.TheVariants as kinds
use Rattle.plant_types.specs.Reference.{ref_from}
use Rattle.plant_types.specs.Store.{word_at}
use Rattle.modbus_exec.specs.Runs.{reference_at}
use Rattle.modbus_exec.proofs.Outcomes.{word_written, word_kept, register}
use Rattle.modbus_exec.proofs.writing.word_after.Goals as goal

pub returns-then-from-to : goal.returns-then-from-to
returns-then-from-to g c =
    let m = g.R.RefStore.contents c.args.ram.now in
    let to = reference_at kinds.Register c.args.write in
    let at = ref_from (reference_at kinds.Register c.args.read) c.args.place in
    let other : (i : ℕ) → i < length c.args.words.now → ref_from to i ≢ at =
    λ i lt e. let same : c.args.write + 1 + i ≡ c.args.read + 1 + c.args.place =
    ap (λ (r : Ref). r.number) e in omega arith in
    c.word.ensures ∙ ap (word_at m) c.reference_behind-at.ensures
    ∙ sym (word_kept m to c.args.words.now at other)

pub returns-in-Some : goal.returns-in-Some
returns-in-Some g c =
    let m = g.R.RefStore.contents c.args.ram.now in
    let to = reference_at kinds.Register c.args.write in
    let at = ref_from (reference_at kinds.Register c.args.read) c.args.place in
    let i = c.args.read + c.args.place - c.args.write in
    let h = c.in-Some.ensures.lookup in
    let same : c.args.read + 1 + c.args.place ≡ c.args.write + 1 + i = omega arith in
    h.3.1 0 ∙ sym (word_written m to c.args.words.now at i h.3.0 (ap register same))

pub returns-in-None : goal.returns-in-None
returns-in-None g c =
    let m = g.R.RefStore.contents c.args.ram.now in
    let to = reference_at kinds.Register c.args.write in
    let at = ref_from (reference_at kinds.Register c.args.read) c.args.place in
    let other : (i : ℕ) → i < length c.args.words.now → ref_from to i ≢ at =
    λ i lt e. let same : c.args.write + 1 + i ≡ c.args.read + 1 + c.args.place =
    ap (λ (r : Ref). r.number) e in omega
    (arith, c.in-None.ensures.lookup) in
    c.word-in-None.ensures ∙ ap (word_at m) c.reference_behind-at.ensures
    ∙ sym (word_kept m to c.args.words.now at other)

-- What a store keeps has each module that it had; a word by its bits.
use Rattle.std.proofs.Common.{◌≡◌, ◌≤◌, ◌<◌, ℕ, suc, ◌+◌, ◌*◌, ◌-◌, ◌^◌, Bool, true, false, cond}
use Rattle.std.proofs.Common.{◌==◌, List, [], ◌∷◌, ◌++◌, length, get_or, take, drop, sym, ap, subst}
use Rattle.std.proofs.Common.{◌∙◌, arith, append_assoc}
use Rattle.std.specs.Int.{bit_at}
use Rattle.std.specs.FinMap.{insert}
use Rattle.std.proofs.lemmas.List.{get_or-map, length-take-le, take_more, drop_more, length-drop}
use Rattle.std.proofs.lemmas.List.Sums.{sum_by-drop_more}
use Rattle.std.proofs.Math.Seq.{take-append-add}
use Rattle.std.proofs.Math.Nat.{pow-suc}
use Rattle.std.proofs.lemmas.List.Sums.{fold_more}
use Rattle.plant_types.specs.declared.reference.Ref.{Ref}
use Rattle.plant_types.specs.declared.drops.ModuleKind.{ModuleKind}
use Rattle.plant_types.specs.declared.drops.ModuleKind.TheVariants.{In, Out, InWords, OutWords}
use Rattle.plant_types.specs.declared.drops.Module.{Module}
use Rattle.plant_types.specs.Reference.{ref_from}
use Rattle.plant_types.specs.Power.{bit_of}
use Rattle.plant_types.specs.Store.{Contents, Keeps, with_words}
use Rattle.plant_types.specs.Discretes.{bit_words, word_bits, number_of_bits}
use Rattle.plant_types.proofs.DiscretesLemmas.{length-bits_high_first, length-bit_words}
use Rattle.plant_types.proofs.DiscretesLemmas.{get_or-bits_high_first}
use Rattle.plant_types.proofs.RunLemmas.{HasRegisters-kept, with_words-push}
use Rattle.traffic_cop.specs.Exchange.{HasGroup, HasModuleBy, HasModules, module_at}
use Rattle.traffic_cop.specs.Exchange.{input_count, output_count, input_total, output_total}
use Rattle.traffic_cop.specs.Exchange.{put_words, put_all, words_given, output_words}

pub HasGroup-kept : (m n : Contents) (at : Ref) → Keeps m n → HasGroup m at → HasGroup n at
HasGroup-kept m n at keeps has =
    record {
      kind = has.kind;
      range = has.range;
      held = λ i l. keeps (ref_from at i) (has.held i l);
    }

HasModuleBy-kept : (kind : ModuleKind) (m n : Contents) (at : Ref) (count : ℕ) → Keeps m n
    → HasModuleBy kind m at count → HasModuleBy kind n at count
HasModuleBy-kept In m n at count keeps has = HasGroup-kept m n at keeps has
HasModuleBy-kept Out m n at count keeps has = HasGroup-kept m n at keeps has
HasModuleBy-kept InWords m n at count keeps has = HasRegisters-kept m n at count keeps has
HasModuleBy-kept OutWords m n at count keeps has = HasRegisters-kept m n at count keeps has

pub HasModules-kept : (m n : Contents) (modules : List Module) → Keeps m n → HasModules m modules
    → HasModules n modules
HasModules-kept m n [] keeps has = tt
HasModules-kept m n (io_module ∷ modules) keeps has = (
  HasModuleBy-kept io_module.kind m n (module_at io_module) io_module.count keeps has.0,
  HasModules-kept m n modules keeps has.1,
)

-- the number that is stored for a bit of a word
pub stored_bit : (word place : ℕ) → place < 16
    → get_or (bit_words (word_bits word)) place 0 ≡ cond (bit_at word (15 - place) == 1) 1 0
stored_bit word place h =
    let size = length-bits_high_first 16 word in
    get_or-map (λ (bit : Bool). cond bit 1 0) (word_bits word) place false 0 (omega arith)
    ∙ ap (λ (bit : Bool). cond bit 1 0)
    (get_or-bits_high_first 16 word place (15 - place) false (omega arith))

-- one discrete more is stored
pub stored_more : (m : Contents) (at : Ref) (word place : ℕ) → place < 16
    → with_words m at (take (place + 1) (bit_words (word_bits word)))
    ≡ insert (with_words m at (take place (bit_words (word_bits word)))) (ref_from at place)
    (cond (bit_at word (15 - place) == 1) 1 0)
stored_more m at word place h =
    let words = bit_words (word_bits word) in
    let size = length-bit_words (word_bits word) ∙ length-bits_high_first 16 word in
    let front = take place words in
    let long : length front ≡ place = length-take-le place words (omega arith) in
    ap (with_words m at) (take_more words place 0 (omega arith))
    ∙ with_words-push m at front (get_or words place 0)
    ∙ ap (λ n. insert (with_words m at front) (ref_from at n) (get_or words place 0)) long
    ∙ ap (insert (with_words m at front) (ref_from at place)) (stored_bit word place h)

bit_small : (b : Bool) → bit_of b ≤ 1
bit_small true = omega arith
bit_small false = omega arith

-- one bit more of a number
pub number_more : (bits : List Bool) (i : ℕ) → i < length bits
    → number_of_bits (take (i + 1) bits)
    ≡ 2 * number_of_bits (take i bits) + bit_of (get_or bits i false)
number_more bits i h = fold_more (λ (n : ℕ) (on : Bool). 2 * n + bit_of on) 0 bits i false h

pub twice_small : (n i : ℕ) (b : Bool) → n < 2 ^ i → 2 * n + bit_of b < 2 ^ (i + 1)
twice_small n i b h =
    let small = bit_small b in
    let power : 2 ^ (i + 1) ≡ 2 ^ i * 2 = ap (λ k. 2 ^ k) (let e : i + 1 ≡ suc i = omega arith in e)
    ∙ pow-suc 2 i in
    omega arith

-- What is left to put, one module on.
pub record PutNext (modules : List Module) (i : ℕ) (rest later : List ℕ)
    (m n : Contents) : Type 0 where
  pub stored : put_all (drop i modules) rest m ≡ put_all (drop (i + 1) modules) later n
  pub room : HasModules n (drop (i + 1) modules)
  pub words : length later ≡ input_total (drop (i + 1) modules)

pub put_next : (modules : List Module) (i : ℕ) (d : Module) (rest now later : List ℕ)
    (m n : Contents) → i < length modules
    → now ≡ take (input_count (get_or modules i d)) rest
    → later ≡ drop (input_count (get_or modules i d)) rest
    → n ≡ put_words (get_or modules i d) now m → HasModules m (drop i modules)
    → length rest ≡ input_total (drop i modules) → Keeps m n
    → PutNext modules i rest later m n
unfolding put_all
put_next modules i d rest now later m n h front back put has total keeps =
    let x = get_or modules i d in
    let first : drop i modules ≡ x ∷ drop (i + 1) modules = drop_more modules i d h in
    let here : put_words x (take (input_count x) rest) m ≡ n =
    ap (λ w. put_words x w m) (sym front) ∙ sym put in
    let there : HasModules m (x ∷ drop (i + 1) modules) = subst (HasModules m) first has in
    let sums = sum_by-drop_more input_count modules i d h in
    let short : length later ≡ length rest - input_count x = ap length back
    ∙ length-drop (input_count x) rest in
    record {
      stored = ap (λ l. put_all l rest m) first
          ∙ ap (λ w. put_all (drop (i + 1) modules) w (put_words x (take (input_count x) rest) m))
          (sym back)
          ∙ ap (put_all (drop (i + 1) modules) later) here;
      room = HasModules-kept m n (drop (i + 1) modules) keeps there.1;
      words = omega arith;
    }

-- What is left to take, one module on.
pub record TakeNext (m : Contents) (modules : List Module) (i so_far got : ℕ)
    (new : List ℕ) : Type 0 where
  pub count : so_far + got + output_total (drop (i + 1) modules) ≡ output_total modules
  pub taken : take (so_far + got) new ++ output_words m (drop (i + 1) modules)
      ≡ output_words m modules
  pub room : HasModules m (drop (i + 1) modules)

pub take_next : (m : Contents) (modules : List Module) (i : ℕ) (d : Module) (count got : ℕ)
    (words part : List ℕ) → i < length modules
    → count ≤ length words → got ≡ output_count (get_or modules i d)
    → take (output_count (get_or modules i d)) part ≡ words_given m (get_or modules i d)
    → count + output_total (drop i modules) ≡ output_total modules
    → take count words ++ output_words m (drop i modules) ≡ output_words m modules
    → HasModules m (drop i modules)
    → TakeNext m modules i count got (take count words ++ part)
take_next m modules i d count got words part h fits many taken total so_far has =
    let x = get_or modules i d in
    let first : drop i modules ≡ x ∷ drop (i + 1) modules = drop_more modules i d h in
    let there : HasModules m (x ∷ drop (i + 1) modules) = subst (HasModules m) first has in
    let sums = sum_by-drop_more output_count modules i d h in
    let front = take count words in
    let long : length front ≡ count = length-take-le count words fits in
    let both : take (count + got) (front ++ part) ≡ front ++ take got part =
    ap (λ n. take (n + got) (front ++ part)) (sym long)
    ∙ take-append-add front part got in
    let mine : take got part ≡ words_given m x = ap (λ n. take n part) many ∙ taken in
    record {
      count = omega arith;
      taken = ap (λ l. l ++ output_words m (drop (i + 1) modules))
          (both ∙ ap (λ l. front ++ l) mine)
          ∙ append_assoc front (words_given m x) (output_words m (drop (i + 1) modules))
          ∙ ap (λ l. front ++ output_words m l) (sym first)
          ∙ so_far;
      room = there.1;
    }

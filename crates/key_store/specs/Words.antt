-- The words of a store as one list. All of it is this project's own.
use Rattle.std.specs.Prelude.{◌≡◌, ℕ, ◌+◌, ◌/◌, ◌%◌, List, [], ◌++◌, take, drop, refl}
use Rattle.std.specs.Coded.{Coded, code_by, coded×, coded_ℕ, coded_list}
use Rattle.plant_types.specs.Sizes.{Sizes}
use Rattle.state_ram.specs.Packed.{Words}

-- The words of all kinds, one kind behind the other.
abbrev pub flat_words : Words → List ℕ
flat_words words = words.coils ++ (words.inputs ++ (words.input_registers ++ words.registers))

-- No words.
abbrev pub no_words : Words
no_words = record { coils = []; inputs = []; input_registers = []; registers = [] }

-- The words of each kind from the front of a list, as many as references of these sizes take.
abbrev pub words_cut : Sizes → List ℕ → Words
words_cut sizes words =
    let coils = sizes.coils / 16 in
    let inputs = sizes.inputs / 16 in
    record {
      coils = take coils words;
      inputs = take inputs (drop coils words);
      input_registers = take sizes.input_registers (drop inputs (drop coils words));
      registers = take sizes.registers (drop sizes.input_registers (drop inputs (drop coils words)));
    }

-- Words as lists of numbers, by which a proof tells two apart.
abbrev pub coded_words : Coded Words
coded_words =
    code_by ((List ℕ × List ℕ) × (List ℕ × List ℕ))
    (coded× (coded× (coded_list coded_ℕ) (coded_list coded_ℕ))
    (coded× (coded_list coded_ℕ) (coded_list coded_ℕ)))
    (λ w. ((w.coils, w.inputs), (w.input_registers, w.registers)))
    (λ n. record { coils = n.0.0; inputs = n.0.1; input_registers = n.1.0; registers = n.1.1 })
    (λ _. refl)

-- How many words references of these sizes take.
abbrev pub word_count : Sizes → ℕ
word_count sizes =
    sizes.coils / 16 + sizes.inputs / 16 + sizes.input_registers + sizes.registers

-- Discretes come in sixteens.
pub record HasWholeGroups (sizes : Sizes) : Type 0 where
  pub coils : sizes.coils % 16 ≡ 0
  pub inputs : sizes.inputs % 16 ≡ 0

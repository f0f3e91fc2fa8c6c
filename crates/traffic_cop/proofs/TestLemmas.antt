-- Drops that pass their tests are ready for their exchanges.
use Rattle.std.proofs.Common.{◌≡◌, ◌≤◌, ◌<◌, ℕ, ◌+◌, ◌==◌, Bool, true, false, List, [], ◌∷◌}
use Rattle.std.proofs.Common.{Some, None, refl, ◌∙◌, arith, le-leb}
use Rattle.std.specs.Prelude.{nat_le, is_some, if◌then◌else◌}
use Rattle.std.specs.FinMap.{contains_key}
use Rattle.std.specs.List.{AllByRecursion}
use Rattle.std.proofs.lemmas.Bool.{and_parts, leb-true, eqb-true}
use Rattle.plant_types.specs.declared.reference.RefKind.{RefKind}
use Rattle.plant_types.specs.declared.reference.RefKind.TheVariants.{Coil, Input, InputRegister}
use Rattle.plant_types.specs.declared.reference.RefKind.TheVariants.{Register}
use Rattle.plant_types.specs.declared.drops.ModuleKind.{ModuleKind}
use Rattle.plant_types.specs.declared.drops.ModuleKind.TheVariants.{In, Out, InWords, OutWords}
use Rattle.plant_types.specs.declared.drops.Module.{Module}
use Rattle.plant_types.specs.declared.drops.IoDrop.{IoDrop}
use Rattle.plant_types.specs.Reference.{ref_from, most_references}
use Rattle.plant_types.specs.declared.sizes.Sizes.{Sizes}
use Rattle.plant_types.specs.Sizes.{count_of, has_reference, cleared}
use Rattle.plant_types.proofs.SizesLemmas.{contains_key-cleared}
use Rattle.plant_types.specs.FirstFault.{first_failed}
use Rattle.traffic_cop.specs.Exchange.{carried_kind, input_total, output_total, HasModule}
use Rattle.traffic_cop.specs.Exchange.{HasModules}
use Rattle.traffic_cop.specs.Exchange.{IsDrop}
use Rattle.traffic_cop.specs.Drops.{drop_named, CanExchange}
use Rattle.traffic_cop.specs.Tests.{fault_in, references_by, is_regular, has_references}
use Rattle.traffic_cop.specs.Tests.{module_fault, held_of, IsTested}

-- what has no fault passed both tests
passed : {E : Type 0} (a b : Bool) (e f : E)
    → fault_in (first_failed ((a, e) ∷ (b, f) ∷ [])) ≡ None → b ≡ true
passed true true e f h = refl
passed true false e f h = cc
passed false b e f h = cc

-- a module without a fault has its references
pub faultless-references : (held : ℕ) (io_module : Module) → module_fault held io_module ≡ None
    → has_references held io_module ≡ true
unfolding module_fault
faultless-references held io_module h = passed (is_regular io_module.kind io_module.first
    io_module.count) (has_references held io_module) _ _ h

-- references from one on, of which the last is there, are there
run-held : (sizes : Sizes) (kind : RefKind) (first count : ℕ) → 1 ≤ first
    → first + count ≤ count_of sizes kind + 1
    → (i : ℕ) → i < count
    → has_reference sizes (ref_from (record { kind = kind; number = first }) i) ≡ true
run-held sizes kind first count low high i h =
    rw (le-leb 1 (first + i) (omega arith), le-leb (first + i) (count_of sizes kind) (omega arith))
    refl

-- the same in the store that sizes make
run-found : (sizes : Sizes) (kind : RefKind) (first count : ℕ) → 1 ≤ first
    → first + count ≤ count_of sizes kind + 1
    → (i : ℕ) → i < count
    → contains_key (cleared sizes) (ref_from (record { kind = kind; number = first }) i) ≡ true
run-found sizes kind first count low high i h =
    contains_key-cleared sizes (ref_from (record { kind = kind; number = first }) i)
    ∙ run-held sizes kind first count low high i h

-- sizes of which none is above the most
pub record AreSizes (sizes : Sizes) : Type 0 where
  pub coils : sizes.coils ≤ most_references
  pub inputs : sizes.inputs ≤ most_references
  pub input_registers : sizes.input_registers ≤ most_references
  pub registers : sizes.registers ≤ most_references

-- a module whose references are there has its place in the store
has_module : (sizes : Sizes) (kind : ModuleKind) (first count : ℕ) → AreSizes sizes → 1 ≤ first
    → first + references_by kind count ≤ count_of sizes (carried_kind kind) + 1
    → HasModule (cleared sizes) (record { kind = kind; first = first; count = count })
has_module sizes In first count s low high =
    let most = s.inputs in
    record { kind = refl; range = omega arith; held = run-found sizes Input first 16 low high }
has_module sizes Out first count s low high =
    let most = s.coils in
    record { kind = refl; range = omega arith; held = run-found sizes Coil first 16 low high }
has_module sizes InWords first count s low high =
    let most = s.input_registers in record {
      kind = refl;
      range = omega arith;
      held = run-found sizes InputRegister first count low high;
    }
has_module sizes OutWords first count s low high =
    let most = s.registers in record {
      kind = refl;
      range = omega arith;
      held = run-found sizes Register first count low high;
    }

-- so has one without a fault
faultless-module : (sizes : Sizes) (io_module : Module) → AreSizes sizes
    → module_fault (held_of sizes io_module) io_module ≡ None
    → HasModule (cleared sizes) io_module
faultless-module sizes io_module s h =
    let tests = and_parts (nat_le 1 io_module.first)
    (nat_le (io_module.first + references_by io_module.kind io_module.count)
    (held_of sizes io_module + 1)) (faultless-references (held_of sizes io_module) io_module h) in
    has_module sizes io_module.kind io_module.first io_module.count s (leb-true _ _ tests.0)
    (leb-true _ _ tests.1)

faultless-modules : (sizes : Sizes) (modules : List Module) → AreSizes sizes
    → AllByRecursion (λ io_module. module_fault (held_of sizes io_module) io_module ≡ None) modules
    → HasModules (cleared sizes) modules
faultless-modules sizes [] s h = tt
faultless-modules sizes (io_module ∷ modules) s h =
    (faultless-module sizes io_module s h.0, faultless-modules sizes modules s h.1)

-- a drop that passed its tests is one
tested-drop : (sizes : Sizes) (d : IoDrop) → IsTested sizes d → IsDrop d
tested-drop sizes d t =
    let few = and_parts (nat_le (input_total d.modules) 64)
    (nat_le (output_total d.modules) 64) t.words in
    record { rows = t.rows; inputs = leb-true _ _ few.0; outputs = leb-true _ _ few.1 }

-- what was found passed as all did, and has the number
record Found (P : IoDrop → Type 0) (drops : List IoDrop) (number : ℕ) : Type 0 where
  found : IoDrop
  named : drop_named drops number ≡ Some found
  holds : P found
  same : found.number ≡ number

found-step : (P : IoDrop → Type 0) (d : IoDrop) (drops : List IoDrop) (number : ℕ) (b : Bool)
    → (d.number == number) ≡ b → P d
    → (is_some (drop_named drops number) ≡ true → Found P drops number)
    → is_some (if b then Some d else drop_named drops number) ≡ true
    → Found P (d ∷ drops) number
unfolding drop_named
found-step P d drops number true e p rest h =
    record { found = d; named = rw e refl; holds = p; same = eqb-true d.number number e }
found-step P d drops number false e p rest h =
    let more = rest h in
    record { found = more.found; named = rw e more.named; holds = more.holds; same = more.same }

find : (P : IoDrop → Type 0) (drops : List IoDrop) (number : ℕ) → AllByRecursion P drops
    → is_some (drop_named drops number) ≡ true → Found P drops number
unfolding drop_named
find P [] number all h = cc
find P (d ∷ drops) number all h =
    found-step P d drops number (d.number == number) refl all.0 (find P drops number all.1) h

-- a named drop of drops that passed, with what its number says of it
pub record Ready (sizes : Sizes) (drops : List IoDrop) (number : ℕ) : Type 0 where
  pub from : 1 ≤ number
  pub to : number ≤ 32
  pub ready : CanExchange drops number (cleared sizes)

-- drops that passed their tests are ready, where they are named
pub tested-ready : (sizes : Sizes) (drops : List IoDrop) (number : ℕ) → AreSizes sizes
    → AllByRecursion (IsTested sizes) drops
    → is_some (drop_named drops number) ≡ true → Ready sizes drops number
tested-ready sizes drops number s all named =
    let it = find (IsTested sizes) drops number all named in
    record {
      from = rw (← it.same) it.holds.number.0;
      to = rw (← it.same) it.holds.number.1;
      ready = record {
        found = it.found;
        named = it.named;
        fits = tested-drop sizes it.found it.holds;
        room =
            faultless-modules sizes it.found.modules s it.holds.modules;
      };
    }

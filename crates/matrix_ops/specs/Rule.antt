-- How the rules combine two words.
use Rattle.std.specs.Prelude.{ℕ, bit_and, bit_or, bit_xor}
use Rattle.plant_types.specs.declared.power.NodePower.{NodePower}
use Rattle.plant_types.specs.declared.reference.Ref.{Ref}
use Rattle.plant_types.specs.Effect.{Effect}
use Rattle.plant_types.specs.Store.{Contents}
use Rattle.matrix_ops.specs.declared.combining.Rule.{Rule}
use Rattle.matrix_ops.specs.declared.combining.Rule.TheVariants.{Both, Either, OneAlone}
use Rattle.matrix_ops.specs.Matrices.{combine_effect}

-- Bit by bit: on where both are, where one at least is, where one alone is. Modicon Ladder
-- Logic Block Library User Guide.
abbrev pub rule_of : Rule → ℕ → ℕ → ℕ
rule_of Both word other = bit_and word other
rule_of Either word other = bit_or word other
rule_of OneAlone word other = bit_xor word other

-- What a block of a rule does when it is solved.
abbrev pub rule_effect : Rule → Ref → Ref → ℕ → NodePower → Contents → Effect
rule_effect rule = combine_effect (rule_of rule)

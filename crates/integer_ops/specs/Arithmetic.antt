-- What each block of integer arithmetic does when it is solved: Modicon Ladder Logic Block Library
-- User Guide; the exact inputs and outputs are this project's own.
use Rattle.std.specs.Prelude.{ℕ, ◌+◌, ◌-◌, ◌*◌, ◌/◌, ◌%◌, ◌==◌, nat_lt, min, max}
use Rattle.std.specs.Prelude.{Bool, ◌&&◌, not, if◌then◌else◌, [], ◌∷◌}
use Rattle.std.specs.FinMap.{insert}
use Rattle.plant_types.specs.declared.power.NodePower.{NodePower}
use Rattle.plant_types.specs.declared.reference.Ref.{Ref}
use Rattle.plant_types.specs.Effect.{Effect}
use Rattle.plant_types.specs.Power.{no_output, top_output, middle_output, bottom_output}
use Rattle.plant_types.specs.Store.{Contents, with_words}

-- Nothing changes, and no output is on.
abbrev pub no_effect : Contents → Effect
no_effect m = record { outputs = no_output; stored = m }

-- The largest number of four digits, and how many numbers of four digits there are.
abbrev pub largest : ℕ
largest = 9999

abbrev pub base : ℕ
base = 10000

-- A number that four digits don't hold.
abbrev pub is_too_large : ℕ → Bool
is_too_large n = nat_lt largest n

-- ADD: the last four digits of the sum; the top output tells that it has more.
unfoldable pub add_effect : ℕ → ℕ → Ref → NodePower → Contents → Effect
add_effect a b low inputs m =
    if inputs.top
    then record {
      outputs = record no_output { top = is_too_large (a + b) };
      stored = insert m low ((a + b) % base);
    }
    else no_effect m

-- SUB: the absolute difference; the outputs tell from the top whether the first operand is above,
-- equal to or below the second.
unfoldable pub sub_effect : ℕ → ℕ → Ref → NodePower → Contents → Effect
sub_effect a b low inputs m =
    if inputs.top
    then record {
      outputs = record { top = nat_lt b a; middle = a == b; bottom = nat_lt a b };
      stored = insert m low (max a b - min a b);
    }
    else no_effect m

-- MUL: the product as upper and lower four digits, and the top output; nothing where an operand is
-- too large.
unfoldable pub mul_effect : ℕ → ℕ → Ref → NodePower → Contents → Effect
mul_effect a b low inputs m =
    if inputs.top && not (is_too_large a) && not (is_too_large b)
    then record {
      outputs = top_output;
      stored = with_words m low (a * b / base ∷ a * b % base ∷ []);
    }
    else no_effect m

-- The dividend of eight digits from its upper and lower four.
abbrev pub dividend : ℕ → ℕ → ℕ
dividend high units = high * base + units

-- What a division leaves: the remainder, or as a fraction its first four decimal places.
abbrev pub left_over : Bool → ℕ → ℕ → ℕ
left_over as_fraction n by = if as_fraction then n % by * base / by else n % by

-- DIV with operands of four digits: the bottom output for a divisor of 0, the middle one for a
-- quotient that is too large, else the quotient and what is left over, and the top output.
abbrev pub quotient_effect : ℕ → ℕ → Ref → Bool → Contents → Effect
quotient_effect n by low as_fraction m =
    if by == 0 then record { outputs = bottom_output; stored = m }
    else (if is_too_large (n / by) then record { outputs = middle_output; stored = m }
    else record {
      outputs = top_output;
      stored = with_words m low (n / by ∷ left_over as_fraction n by ∷ []);
    })

-- DIV: nothing where an operand is too large; the middle input asks for the fraction.
unfoldable pub div_effect : ℕ → ℕ → ℕ → Ref → NodePower → Contents → Effect
div_effect high units by low inputs m =
    if inputs.top && not (is_too_large high) && not (is_too_large units) && not (is_too_large by)
    then quotient_effect (dividend high units) by low inputs.middle m
    else no_effect m

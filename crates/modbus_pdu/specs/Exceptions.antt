-- The codes of the exceptions. Modicon Modbus Protocol Reference Guide.
use Rattle.std.specs.Prelude.{ℕ}

-- The function is not served.
abbrev pub illegal_function : ℕ
illegal_function = 1

-- A reference is not there.
abbrev pub illegal_address : ℕ
illegal_address = 2

-- The form, a quantity or a count is wrong.
abbrev pub illegal_value : ℕ
illegal_value = 3

-- How the errors read.
use Rattle.std.specs.Prelude.{ℕ, List, codes}
use Rattle.plant_io.specs.declared.reading.ReadEnd.{ReadEnd}
use Rattle.plant_io.specs.declared.reading.ReadEnd.TheVariants.{Fault, TooLong, NoMemory}

-- What an early end says. This project's own.
abbrev pub end_text : ReadEnd → List ℕ
end_text Fault = codes "the input could not be read"
end_text TooLong = codes "the input is too long"
end_text NoMemory = codes "out of memory"

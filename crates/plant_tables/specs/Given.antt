-- What stands behind the references that a call was given, or answers. This project's own.
use Rattle.std.specs.Prelude.{ℕ, List, map, Option, option_map, String}
use Rattle.std.specs.BTreeMap.{BTreeMap}
use Rattle.std.specs.Borrow.{Bor}
use Rattle.std.specs.declared.alloc.Global.{Global}
use Rattle.toml.specs.Data.{Members}
use Rattle.toml.specs.View.{table_view}
use Rattle.toml.specs.declared.value.Value.{Value}

-- Texts, tables, and a table that may be there.
abbrev pub texts_in : List (Bor (List ℕ)) → List (List ℕ)
texts_in given = map (λ text. text.now) given

abbrev pub tables_in : List (Bor (BTreeMap (String Global) Value)) → List Members
tables_in given = map (λ table. table_view table.now) given

abbrev pub table_in : Option (Bor (BTreeMap (String Global) Value)) → Option Members
table_in given = option_map (λ table. table_view table.now) given

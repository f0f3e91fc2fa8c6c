-- Names of calls, and what calls come to. This project's own.
use Rattle.std.specs.Prelude.{ℕ, Bool, ◌==◌, ◌&&◌, List, []}
use Rattle.mstr_block.specs.declared.call.CallId.{CallId}
use Rattle.mstr_block.specs.declared.call.MstrResult.{MstrResult}
use Rattle.mstr_block.specs.declared.call.MstrResult.TheVariants.{Good, Bad}

-- Two names name one call.
abbrev pub is_same_call : CallId → CallId → Bool
is_same_call one other = (one.node == other.node) && ((one.path == other.path) && (one.seq ==
    other.seq))

-- The words that a call came to: none where it came to an error word.
abbrev pub words_told : MstrResult → List ℕ
words_told (Good words) = words
words_told (Bad word) = []

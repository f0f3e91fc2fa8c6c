use Rattle.std.proofs.Common.{◌≡◌, ◌++◌, string_bytes}
use Rattle.std.specs.Iterator.Adapters.{zip_first, zip_second}
use Rattle.std.specs.Slice.Iter.{iter_rest}
use Rattle.controller_core.specs.NotedLines.{noted_texts}
use Rattle.panel_line.proofs.line.push_values.Given as goal

abbrev pub invariant-loop-reading : goal.invariant-loop-reading
invariant-loop-reading l =
    let readings = iter_rest (zip_first l.reading-iterator) in
    let values = iter_rest (zip_second l.reading-iterator) in
    string_bytes l.text ++ noted_texts readings values
    ≡ string_bytes l.fn.text ++ noted_texts l.readings l.values

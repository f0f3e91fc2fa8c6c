use Rattle.std.proofs.Common.{◌≡◌, ◌∙◌, ◌++◌, [], ⊎_elim, ap, append-nil, sym, string_bytes}
use Rattle.std.proofs.lemmas.Slice.Zip.{either_empty_from_Zip}
use Rattle.std.specs.Iterator.Adapters.{zip_first, zip_second}
use Rattle.std.specs.Slice.Iter.{iter_rest}
use Rattle.controller_core.specs.NotedLines.{noted_texts}
use Rattle.panel_line.proofs.LineLemmas.{no_texts}
use Rattle.panel_line.proofs.line.push_values.Goals as goal

pub returns : goal.returns
returns c =
    let text = string_bytes c.loop-reading.text in
    let readings = iter_rest (zip_first c.loop-reading.reading-iterator) in
    let values = iter_rest (zip_second c.loop-reading.reading-iterator) in
    let spent : noted_texts readings values ≡ [] = ⊎_elim
    (λ (none : readings ≡ []). ap (λ left. noted_texts left values) none)
    (λ (none : values ≡ []). ap (noted_texts readings) none ∙ no_texts readings)
    (either_empty_from_Zip _ c.next.new.self _ c.in-None.is c.next.ensures.steps) in
    sym (append-nil text) ∙ ap (λ more. text ++ more) (sym spent) ∙ c.loop-reading.invariant

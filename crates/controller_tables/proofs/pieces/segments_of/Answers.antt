use Rattle.std.proofs.Common.{◌∙◌, map, sym, ap}
use Rattle.std.proofs.lemmas.List.{length-map}
use Rattle.controller_tables.specs.Program.{nothing_read}
use Rattle.toml.specs.View.{table_view}
use Rattle.std.proofs.lemmas.Result.{err_from_is_err_and}
use Rattle.controller_tables.proofs.InOrderLemmas.{segments-given, segments-stop}
use Rattle.controller_tables.proofs.pieces.segments_of.Goals as goal

pub returns-in_err-program-clause-read : goal.returns-in_err-program-clause-read
returns-in_err-program-clause-read c =
    let p = err_from_is_err_and c.from_residual.result c.from_residual.ensures.1 in
    rw (p.1, p.2) (segments-stop c.args.owner
    (map (λ t. table_view t.now) c.args.tables.now) c.new.result c.in_err-program.field-0.0
    (c.new.ensures ∙ ap nothing_read (sym (length-map c.args.tables.now (λ t. table_view t.now))))
    c.in_err-program.ensures.read)

pub returns-clause-read : goal.returns-clause-read
returns-clause-read c = segments-given c.args.owner
    (map (λ t. table_view t.now) c.args.tables.now) c.new.result c.in_ok-program.program _
    (c.new.ensures ∙ ap nothing_read (sym (length-map c.args.tables.now (λ t. table_view t.now))))
    c.in_ok-program.ensures.read c.into_segments.ensures

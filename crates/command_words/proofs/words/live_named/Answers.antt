use Rattle.std.proofs.Common.{◌≡◌, ◌∙◌, sym, codes, map, string_bytes}
use Rattle.std.proofs.lemmas.Slice.Eq.{bytes_eq-Decides}
use Rattle.command_words.proofs.Spelled.{Spells-live}
use Rattle.command_words.proofs.words.live_named.Goals as goal

pub returns-then-eq : goal.returns-then-eq
returns-then-eq c =
    let named : c.args.name.now ≡ codes "live" =
    (bytes_eq-Decides c.args.name.now (codes "live")).0 (sym c.eq.ensures ∙ c.if-eq.true) in
    Spells-live c.args.name.now (map string_bytes c.args.behind.now) c.scans_of.result named
    c.scans_of.ensures

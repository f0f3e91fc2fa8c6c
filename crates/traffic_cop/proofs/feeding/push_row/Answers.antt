use Rattle.std.proofs.Common.{◌≡◌, List, ap, ◌∙◌}
use Rattle.plant_types.specs.declared.drops.IoDrop.{IoDrop}
use Rattle.traffic_cop.specs.Feeding.{place_named}
use Rattle.traffic_cop.proofs.FeedingLemmas.{at-within, back-again, back-fed, on-err, on-ok, still-within}
use Rattle.traffic_cop.proofs.feeding.push_row.Goals as goal

pub replace-found-requires : goal.replace-found-requires
replace-found-requires c =
    let at : c.place_named-at.result ≡ place_named c.args.drops.now c.args.number =
    c.place_named-at.ensures ∙ ap (λ (l : List IoDrop). place_named l c.args.number)
    c.as_slice.ensures in
    at-within c.args.drops.now c.args.number c.place_named-at.result at c.requires

pub replace-requires : goal.replace-requires
replace-requires c =
    let at : c.place_named-at.result ≡ place_named c.args.drops.now c.args.number =
    c.place_named-at.ensures ∙ ap (λ (l : List IoDrop). place_named l c.args.number)
    c.as_slice.ensures in
    still-within c.args.drops.now c.replace-found.new.self c.place_named-at.result c.no_drop.result
    c.replace-found.ensures.items
    (at-within c.args.drops.now c.args.number c.place_named-at.result at c.requires)

pub returns-clause-ok : goal.returns-clause-ok
returns-clause-ok c =
    let at : c.place_named-at.result ≡ place_named c.args.drops.now c.args.number =
    c.place_named-at.ensures ∙ ap (λ (l : List IoDrop). place_named l c.args.number)
    c.as_slice.ensures in
    on-ok c.push-pushed.result (λ pushed. back-fed c.args.drops.now c.replace.new.self
    c.replace-found.new.self c.place_named-at.result c.args.number c.args.row c.no_drop.result
    c.replace-found.result c.push-pushed.new.self at c.replace-found.ensures.given
    c.replace-found.ensures.items c.replace.ensures.items pushed) c.push-pushed.ensures.ok

pub returns-clause-err : goal.returns-clause-err
returns-clause-err c =
    on-err c.push-pushed.result (λ same. back-again c.args.drops.now c.replace.new.self
    c.replace-found.new.self c.place_named-at.result c.no_drop.result c.replace-found.result
    c.push-pushed.new.self c.replace-found.ensures.given c.replace-found.ensures.items
    c.replace.ensures.items same) c.push-pushed.ensures.err

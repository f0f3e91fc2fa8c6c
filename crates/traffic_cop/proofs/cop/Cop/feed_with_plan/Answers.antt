use Rattle.std.proofs.Common.{◌≡◌, List, sym, ap, ◌∙◌}
use Rattle.plant_types.specs.declared.drops.IoDrop.{IoDrop}
use Rattle.traffic_cop.specs.Feeding.{place_named, row_fed}
use Rattle.traffic_cop.proofs.FeedingLemmas.{at-within, back-again, back-fed, either-way, on-both}
use Rattle.traffic_cop.proofs.FeedingLemmas.{on-both-err, on-err, on-ok, still-within}
use Rattle.traffic_cop.proofs.cop.Cop.feed_with_plan.Goals as goal

pub replace-found-requires : goal.replace-found-requires
replace-found-requires c =
    let at : c.place_named-at.result ≡ place_named c.args.drops.now c.args.drop =
    c.place_named-at.ensures ∙ ap (λ (l : List IoDrop). place_named l c.args.drop)
    c.as_slice.ensures in
    at-within c.args.drops.now c.args.drop c.place_named-at.result at (rw (← c.requires.same) c.requires.named)

pub replace-requires : goal.replace-requires
replace-requires c =
    let at : c.place_named-at.result ≡ place_named c.args.drops.now c.args.drop =
    c.place_named-at.ensures ∙ ap (λ (l : List IoDrop). place_named l c.args.drop)
    c.as_slice.ensures in
    still-within c.args.drops.now c.replace-found.new.self c.place_named-at.result c.no_drop.result
    c.replace-found.ensures.items
    (at-within c.args.drops.now c.args.drop c.place_named-at.result at (rw (← c.requires.same) c.requires.named))

pub returns-clause-ok : goal.returns-clause-ok
returns-clause-ok c =
    let at : c.place_named-at.result ≡ place_named c.args.drops.now c.args.drop =
    c.place_named-at.ensures ∙ ap (λ (l : List IoDrop). place_named l c.args.drop)
    c.as_slice.ensures in
    on-ok c.push_both-fed.result (λ pushed. back-fed c.args.drops.now c.replace.new.self
    c.replace-found.new.self c.place_named-at.result c.args.drop c.args.row c.no_drop.result
    c.replace-found.result c.push_both-fed.new.script at c.replace-found.ensures.given
    c.replace-found.ensures.items c.replace.ensures.items pushed) c.push_both-fed.ensures.script

pub returns-clause-err : goal.returns-clause-err
returns-clause-err c =
    on-err c.push_both-fed.result (λ same. back-again c.args.drops.now c.replace.new.self
    c.replace-found.new.self c.place_named-at.result c.no_drop.result c.replace-found.result
    c.push_both-fed.new.script c.replace-found.ensures.given c.replace-found.ensures.items
    c.replace.ensures.items same) c.push_both-fed.ensures.script_stays

pub returns-clause-same : goal.returns-clause-same
returns-clause-same c =
    either-way c.push_both-fed.result
    (on-both c.push_both-fed.result (λ fed both. fed
    ∙ ap (λ (l : List IoDrop). row_fed l c.args.drop c.args.row) c.requires.same ∙ sym both)
    c.push_both-fed.ensures.cop (returns-clause-ok c))
    (on-both-err c.push_both-fed.result (λ stays both. stays ∙ c.requires.same ∙ sym both)
    c.push_both-fed.ensures.cop_stays (returns-clause-err c))

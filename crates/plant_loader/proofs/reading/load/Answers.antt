use Rattle.toml.specs.View.{table_view}
use Rattle.plant_loader.proofs.LoadedLemmas.{plant_of-document, gives-loaded, gives-first}
use Rattle.plant_loader.proofs.LoadedLemmas.{loaded-checked, loaded-drops, loaded-runnable}
use Rattle.plant_loader.proofs.reading.load.Goals as goal

pub returns-clause-plant : goal.returns-clause-plant
returns-clause-plant c = plant_of-document c.args.newest c.args.bytes.now
    (table_view c.in_ok-top.top) c.plant_at.result c.in_ok-top.ensures c.plant_at.ensures

pub returns-clause-checked : goal.returns-clause-checked
returns-clause-checked c =
    loaded-checked c.plant_at.result (gives-loaded c.args.newest c.args.bytes.now c.plant_at.result
    (plant_of-document c.args.newest c.args.bytes.now (table_view c.in_ok-top.top)
    c.plant_at.result c.in_ok-top.ensures c.plant_at.ensures))

pub returns-clause-first : goal.returns-clause-first
returns-clause-first c =
    gives-first c.args.newest c.args.bytes.now c.plant_at.result
    (plant_of-document c.args.newest c.args.bytes.now (table_view c.in_ok-top.top)
    c.plant_at.result c.in_ok-top.ensures c.plant_at.ensures)

pub returns-clause-drops : goal.returns-clause-drops
returns-clause-drops c =
    loaded-drops c.plant_at.result (gives-loaded c.args.newest c.args.bytes.now c.plant_at.result
    (plant_of-document c.args.newest c.args.bytes.now (table_view c.in_ok-top.top)
    c.plant_at.result c.in_ok-top.ensures c.plant_at.ensures))

pub returns-clause-runnable : goal.returns-clause-runnable
returns-clause-runnable c =
    loaded-runnable c.plant_at.result (gives-loaded c.args.newest c.args.bytes.now
    c.plant_at.result (plant_of-document c.args.newest c.args.bytes.now
    (table_view c.in_ok-top.top) c.plant_at.result c.in_ok-top.ensures c.plant_at.ensures))

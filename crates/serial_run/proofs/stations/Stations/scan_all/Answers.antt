use Rattle.std.proofs.Common.{◌<◌, length, refl, sym, subst, ap, ◌∙◌, arith}
use Rattle.whole_scan.specs.Scans.{IsBetweenScans}
use Rattle.serial_run.proofs.AllScans.{everyone-scanned, none-scanned, one-more-scanned}
use Rattle.serial_run.proofs.AllScans.{scan-all-between}
use Rattle.serial_run.proofs.AllScans.{scan-all-did, scan-all-less, still-first}
use Rattle.serial_run.specs.declared.stations.ControllerStation.{ControllerStation}
use Rattle.serial_run.proofs.stations.Stations.scan_all.Goals as goal

pub loop-at-init : goal.loop-at-init
loop-at-init c = record {
  hosts = refl;
  bridges = refl;
  rings = refl;
  some = none-scanned
      c.args.self.now.controllers.items;
}

pub scan-requires : goal.scan-requires
scan-requires c =
    let first = c.args.self.now.controllers.items in
    let at = c.loop-at.at in
    let s = c.index_mut.result.now in
    let less = c.loop-at-test.true in
    let end = c.len-at-end.ensures in
    let size = c.args.self.now.controllers.ok.0 in
    let low : at < length first = omega (arith, less, end, size) in
    let there = c.index_mut.ensures.value ∙ still-first first c.loop-at.self.controllers.items at s
    c.loop-at.invariant.some low in
    subst (λ (x : ControllerStation). IsBetweenScans x.controller) (sym there)
    (c.requires.between at s low)

pub loop-at-preserved : goal.loop-at-preserved
loop-at-preserved c =
    let first = c.args.self.now.controllers.items in
    let at = c.loop-at.at in
    let s = c.index_mut.result.now in
    let t : ControllerStation = record s { controller = c.scan.new.controller } in
    let less = c.loop-at-test.true in
    let end = c.len-at-end.ensures in
    let size = c.args.self.now.controllers.ok.0 in
    let o = c.in_ok-scan.ensures in
    record {
      hosts = c.loop-at.invariant.hosts;
      bridges = c.loop-at.invariant.bridges;
      rings = c.loop-at.invariant.rings;
      some = one-more-scanned first c.loop-at.self.controllers.items at s t c.loop-at.invariant.some
          (omega (arith, less, end, size))
          c.index_mut.ensures.value (record
          { same = refl; made = o.made; between = o.between; less = o.less });
    }

pub returns-clause-scans : goal.returns-clause-scans
returns-clause-scans c =
    let low = c.loop-at-test.false in
    let high = c.loop-at.auto.at-end in
    let end = c.len-at-end.ensures in
    let size = c.args.self.now.controllers.ok.0 in
    let i = c.loop-at.invariant in
    scan-all-did c.args.self.now c.loop-at.self (ap (λ v. v.items) i.hosts) (ap (λ v. v.items)
    i.bridges)
    (ap (λ v. v.items) i.rings)
    (everyone-scanned c.args.self.now.controllers.items c.loop-at.self.controllers.items
    c.loop-at.at (omega (arith, low, high, end, size)) i.some)

pub returns-clause-between : goal.returns-clause-between
returns-clause-between c =
    let low = c.loop-at-test.false in
    let high = c.loop-at.auto.at-end in
    let end = c.len-at-end.ensures in
    let size = c.args.self.now.controllers.ok.0 in
    scan-all-between c.args.self.now c.loop-at.self
    (everyone-scanned c.args.self.now.controllers.items c.loop-at.self.controllers.items
    c.loop-at.at (omega (arith, low, high, end, size))
    c.loop-at.invariant.some)

pub returns-clause-less : goal.returns-clause-less
returns-clause-less c =
    let low = c.loop-at-test.false in
    let high = c.loop-at.auto.at-end in
    let end = c.len-at-end.ensures in
    let size = c.args.self.now.controllers.ok.0 in
    scan-all-less c.args.self.now c.loop-at.self
    (everyone-scanned c.args.self.now.controllers.items c.loop-at.self.controllers.items
    c.loop-at.at (omega (arith, low, high, end, size))
    c.loop-at.invariant.some)

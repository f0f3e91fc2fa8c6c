use Rattle.std.proofs.Common.{◌≡◌, [], length, sym, ap, ◌∙◌}
use Rattle.live_run.proofs.Closings.{closed-all, closing-init, closing-next, next-closable}
use Rattle.live_run.proofs.Closings.{none-left, some-purse}
use Rattle.live_run.proofs.Gathering.{on-ok, reversed-is}
use Rattle.live_run.proofs.Zipped.{none-long}
use Rattle.live_run.proofs.rings.close_all.Goals as goal

pub loop-home-init : goal.loop-home-init
loop-home-init c =
    closing-init c.args.rings.homes.items _ c.args.rings.purses.items _ c.new-logs.result.items
    (reversed-is c.args.rings.homes.items c.as_mut_slice.result.now c.reverse.new.self
    c.args.rings.homes.len c.as_mut_slice.ensures.value c.reverse.ensures.after
    c.as_mut_slice.ensures.len)
    (reversed-is c.args.rings.purses.items c.as_mut_slice-2.result.now c.reverse-2.new.self
    c.args.rings.purses.len c.as_mut_slice-2.ensures.value c.reverse-2.ensures.after
    c.as_mut_slice-2.ensures.len)
    c.new-logs.ensures.items c.requires

pub next_of-purse-requires : goal.next_of-purse-requires
next_of-purse-requires c =
    let l = c.loop-home in
    some-purse l.homes.items c.pop.new.self.items c.in-Some.home l.purses.items
    c.in-Some.ensures.items l.invariant.closable

pub close-log-requires : goal.close-log-requires
close-log-requires c =
    let l = c.loop-home in
    (next-closable l.homes.items c.pop.new.self.items c.in-Some.home l.purses.items
    c.next_of-purse.new.purses.items c.next_of-purse.result c.in-Some.ensures.items
    c.next_of-purse.ensures l.invariant.closable).0

pub loop-home-preserved : goal.loop-home-preserved
loop-home-preserved c =
    let l = c.loop-home in
    closing-next c.args.rings.homes.items l.homes.items c.pop.new.self.items
    c.args.rings.purses.items l.purses.items c.next_of-purse.new.purses.items c.in-Some.home
    c.next_of-purse.result c.close-log.result l.logs.items c.keep.new.logs.items l.done
    c.is_ok-done.result c.in-Some.ensures.items c.next_of-purse.ensures c.close-log.ensures
    (on-ok c.keep.result _ c.is_ok-done.result c.is_ok-done.ensures.value c.keep.ensures)
    l.invariant

pub destroy_empty-requires-2 : goal.destroy_empty-requires-2
destroy_empty-requires-2 c =
    let l = c.loop-home in
    let empty : l.homes.items ≡ [] =
    none-long l.homes.items (sym l.homes.ok.0 ∙ c.in_default.ensures.cases.0) in
    l.purses.ok.0 ∙ ap length (none-left l.homes.items l.purses.items empty l.invariant.closable)

pub returns : goal.returns
returns c =
    let l = c.loop-home in
    let empty : l.homes.items ≡ [] =
    none-long l.homes.items (sym l.homes.ok.0 ∙ c.in_default.ensures.cases.0) in
    closed-all c.args.rings.homes.items l.homes.items c.args.rings.purses.items l.purses.items
    l.logs.items l.done empty l.invariant

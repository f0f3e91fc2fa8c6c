use Rattle.std.proofs.Common.{◌≡◌, length, arith, subst, sym}
use Rattle.state_space.proofs.Trails.{trail-init, trail-next, trail-end, IsTrail, link-before}
use Rattle.state_space.proofs.Places.{at-value}
use Rattle.state_space.proofs.exploring.Search.path_to.Goals as goal

pub back-init : goal.back-init
back-init g c =
    subst (IsTrail (g.M.Machine.starts c.args._machine.now) (g.M.Machine.count c.args._machine.now)
    (g.M.Machine.leads c.args._machine.now) c.args.self.now.found.entries c.args.end c.args.end)
    (sym c.new-path.ensures.items) (trail-init _ _ _ _ _ c.requires.within)

pub back-smaller : goal.back-smaller
back-smaller g c =
    let there = at-value c.args.self.now.found.entries c.back.at c.index-link.result.now
    c.index-link.ensures in
    link-before (g.M.Machine.starts c.args._machine.now) (g.M.Machine.count c.args._machine.now)
    (g.M.Machine.leads c.args._machine.now) c.args.self.now.found.entries c.back.at
    (there.0, c.index-link.result.now) c.requires.linked c.back-test.true there.1

pub back-preserved : goal.back-preserved
back-preserved g c =
    let there = at-value c.args.self.now.found.entries c.back.at c.index-link.result.now
    c.index-link.ensures in
    subst (IsTrail (g.M.Machine.starts c.args._machine.now) (g.M.Machine.count c.args._machine.now)
    (g.M.Machine.leads c.args._machine.now) c.args.self.now.found.entries c.args.end
    c.index-link.result.now.from)
    (sym c.in_ok-push.ensures.items)
    (trail-next (g.M.Machine.starts c.args._machine.now) (g.M.Machine.count c.args._machine.now)
    (g.M.Machine.leads c.args._machine.now) c.args.self.now.found.entries c.args.end c.back.at
    c.back.path.items (there.0, c.index-link.result.now) c.requires.linked c.back.invariant
    c.back-test.true there.1)

pub returns : goal.returns
returns g c =
    let start : c.back.at ≡ 0 = let t = c.back-test.false in omega (arith, t) in
    let long : length c.reverse.new.self.items ≡ length c.back.path.items =
    let a = c.reverse.new.self.ok.0 in let b = c.back.path.ok.0 in
    let l = c.reverse.ensures.len in omega (arith, a, b, l) in
    trail-end (g.M.Machine.starts c.args._machine.now) (g.M.Machine.count c.args._machine.now)
    (g.M.Machine.leads c.args._machine.now) c.args.self.now.found.entries c.args.end
    c.back.path.items c.reverse.new.self.items c.requires.linked
    (subst (λ n. IsTrail (g.M.Machine.starts c.args._machine.now)
    (g.M.Machine.count c.args._machine.now) (g.M.Machine.leads c.args._machine.now)
    c.args.self.now.found.entries c.args.end n c.back.path.items) start c.back.invariant)
    c.reverse.ensures.items long

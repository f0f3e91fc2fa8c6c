use Rattle.std.proofs.Common.{◌≡◌, ◌+◌, ◌∙◌, arith, sym, ap, subst, inr, true, false}
use Rattle.state_space.specs.Search.{IsExplored}
use Rattle.state_space.specs.Reaching.{IsBelow}
use Rattle.state_space.proofs.Steps.{begun, ended}
use Rattle.state_space.specs.Answers.{HoldsWith}
use Rattle.state_space.proofs.Ends.{holds, fails}
use Rattle.state_space.specs.declared.exploring.Search.{Search}
use Rattle.state_space.proofs.exploring.explore.Goals as goal
use Rattle.state_space.proofs.exploring.explore.Goals.{then-goes_on+in_ok-look_on, else-goes_on}

pub returns-then-is_bad : goal.returns-then-is_bad
returns-then-is_bad g c =
    let t = c.in_ok-depth.ensures.taken in
    fails (g.M.Machine.starts c.args.machine.now) (g.M.Machine.count c.args.machine.now)
    (g.M.Machine.leads c.args.machine.now) (g.M.Machine.bad c.args.machine.now) c.args.limit
    c.take_up.new.self.found.entries c.states.head
    (rw c.in_ok-depth.ensures.found c.states.invariant.explored) t.entry t.is_there
    (ap (g.M.Machine.bad c.args.machine.now) (sym t.key_is ∙ sym c.as_slice.ensures.value)
    ∙ (sym c.is_bad.ensures ∙ c.if-is_bad.true)) c.in_ok-path.path.items c.in_ok-path.ensures

pub look_on-requires-clause-explored : goal.look_on-requires-clause-explored
look_on-requires-clause-explored g c =
    let t = c.in_ok-depth.ensures.taken in
    begun (g.M.Machine.starts c.args.machine.now) (g.M.Machine.count c.args.machine.now)
    (g.M.Machine.leads c.args.machine.now) (g.M.Machine.bad c.args.machine.now) c.args.limit
    c.take_up.new.self.found.entries c.states.head t.entry
    (rw c.in_ok-depth.ensures.found c.states.invariant.explored)
    t.is_there
    (ap (g.M.Machine.bad c.args.machine.now) (sym t.key_is ∙ sym c.as_slice.ensures.value)
    ∙ (sym c.is_bad.ensures ∙ c.if-is_bad.false))

pub states-preserved : goal.states-preserved
states-preserved g c =
    let t = c.in_ok-depth.ensures.taken in
    elim c.if-goes_on.branch [
      | then-goes_on+in_ok-look_on w ↦ record {
        fits = rw w.work-is w.look_on.ensures.fits;
        explored = subst (λ (s : Search). IsExplored (g.M.Machine.starts c.args.machine.now)
            (g.M.Machine.count c.args.machine.now) (g.M.Machine.leads c.args.machine.now)
            (g.M.Machine.bad c.args.machine.now) c.args.limit s.found.entries (c.states.head + 1) 0
            (c.states.head + 1)) (sym w.search-is) w.in_ok-look_on.ensures.explored;
      }
      | else-goes_on w ↦ record {
        fits = rw w.work-is c.states.invariant.fits;
        explored = subst (λ (s : Search). IsExplored (g.M.Machine.starts c.args.machine.now)
            (g.M.Machine.count c.args.machine.now) (g.M.Machine.leads c.args.machine.now)
            (g.M.Machine.bad c.args.machine.now) c.args.limit s.found.entries (c.states.head + 1) 0
            (c.states.head + 1)) (sym w.search-is)
            (ended (g.M.Machine.starts c.args.machine.now) (g.M.Machine.count c.args.machine.now)
            (g.M.Machine.leads c.args.machine.now) (g.M.Machine.bad c.args.machine.now)
            c.args.limit c.take_up.new.self.found.entries c.states.head 0 t.entry t.is_there
            (begun (g.M.Machine.starts c.args.machine.now) (g.M.Machine.count c.args.machine.now)
            (g.M.Machine.leads c.args.machine.now) (g.M.Machine.bad c.args.machine.now)
            c.args.limit c.take_up.new.self.found.entries c.states.head t.entry
            (rw c.in_ok-depth.ensures.found c.states.invariant.explored) t.is_there
            (ap (g.M.Machine.bad c.args.machine.now)
            (sym t.key_is ∙ sym c.as_slice.ensures.value)
            ∙ (sym c.is_bad.ensures ∙ c.if-is_bad.false)))
            (inr (λ goes.
            let yes' : true ≡ false =
            sym (c.goes_on.ensures.1
            (subst (IsBelow c.args.limit) (sym t.depth_is) goes)) ∙ w.if-goes_on.false in
            cc)));
      }
    ]

pub returns : goal.returns
returns g c =
    subst (HoldsWith (g.M.Machine.starts c.args.machine.now) (g.M.Machine.count c.args.machine.now)
    (g.M.Machine.leads c.args.machine.now) (g.M.Machine.bad c.args.machine.now) c.args.limit)
    (sym c.len-2.ensures.len)
    (holds (g.M.Machine.starts c.args.machine.now) (g.M.Machine.count c.args.machine.now)
    (g.M.Machine.leads c.args.machine.now) (g.M.Machine.bad c.args.machine.now) c.args.limit
    c.states.search.found.entries c.states.head c.states.invariant.explored
    (let m = c.len.ensures.len in let over = c.states-test.false in omega (arith, m, over)))

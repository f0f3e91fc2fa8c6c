use Rattle.std.proofs.Common.{◌≡◌, ◌+◌, ◌∙◌, arith, refl, sym, ap, subst, inl, is_some}
use Rattle.std.proofs.Common.{false, true}
use Rattle.std.specs.Map.{lookup}
use Rattle.state_space.specs.declared.exploring.Search.{Search}
use Rattle.state_space.specs.Found.{key_in, depth_in}
use Rattle.state_space.specs.Reaching.{IsBelow}
use Rattle.state_space.specs.Search.{IsExplored, IsTakenUp}
use Rattle.state_space.proofs.Keys.{is_key}
use Rattle.state_space.proofs.Steps.{grow-as, stay-as, ended}
use Rattle.state_space.proofs.exploring.Search.look_on.Goals as goal
use Rattle.state_space.proofs.exploring.Search.look_on.Goals.{then-not-contains_key+in_ok-key+in_ok-insert, else-not-contains_key}

pub overflow_add-link : goal.overflow_add-link
overflow_add-link g c =
    let low = c.requires.explored.shallow c.args.head c.requires.taken.entry
    c.requires.taken.is_there in
    let d = c.requires.taken.depth_is in
    let small = c.requires.small in
    omega (arith, low, d, small)

pub moves-preserved : goal.moves-preserved
moves-preserved g c =
    let t = c.moves.invariant.taken in
    let m = c.moves-by-end.ensures in
    let leads-on : g.M.Machine.leads c.args.machine.now (key_in t.entry) c.moves.by
    c.next.new.key.items =
    subst (λ w. g.M.Machine.leads c.args.machine.now w c.moves.by c.next.new.key.items)
    (c.as_slice.ensures.value ∙ t.key_is) c.in_ok-next.ensures.key in
    let goes : IsBelow c.args._limit (depth_in t.entry) =
    subst (IsBelow c.args._limit) t.depth_is c.requires.goes_on in
    elim c.if-not-contains_key.branch [
      | then-not-contains_key+in_ok-key+in_ok-insert w ↦
          let none : is_some (lookup (is_key c.next.new.key.items) c.moves.self.found.entries)
          ≡ false =
          ap (λ k. is_some (lookup (is_key k) c.moves.self.found.entries))
          (sym c.as_slice-in-moves.ensures.value)
          ∙ (sym c.contains_key.ensures ∙ w.if-not-contains_key.true) in
          let copied : w.in_ok-key.key.items ≡ c.next.new.key.items =
          w.in_ok-key.ensures.items_if_clones_equal (λ x y h. h)
          ∙ w.as_slice-then-not-contains_key.ensures.value in
          let grown = grow-as (g.M.Machine.starts c.args.machine.now)
          (g.M.Machine.count c.args.machine.now) (g.M.Machine.leads c.args.machine.now)
          (g.M.Machine.bad c.args.machine.now) c.args._limit c.moves.self.found.entries
          w.insert.new.self.entries c.args.head c.moves.by (c.args.head + 1) t.entry
          w.in_ok-key.key
          (record { from = c.args.head; by = c.moves.by; depth = c.args.depth + 1 })
          c.next.new.key.items c.moves.invariant.explored t.is_there
          (omega (arith, m)) goes leads-on copied none
          (record {
            from_is = refl;
            by_is = refl;
            depth_is = ap (λ n. n + 1) t.depth_is;
          }) w.in_ok-insert.ensures.entries in
          record {
            fits = c.next.ensures.fits;
            explored = subst (λ (s : Search). IsExplored (g.M.Machine.starts c.args.machine.now)
                (g.M.Machine.count c.args.machine.now) (g.M.Machine.leads c.args.machine.now)
                (g.M.Machine.bad c.args.machine.now) c.args._limit s.found.entries c.args.head
                (c.moves.by + 1) (c.args.head + 1)) (sym w.self-is) grown.0;
            taken = subst (λ (s : Search). IsTakenUp s.found.entries c.args.head s.state.items
                c.args.depth) (sym w.self-is) (record {
                  entry = t.entry;
                  is_there = grown.1;
                  key_is = t.key_is;
                  depth_is = t.depth_is;
                });
          }
      | else-not-contains_key w ↦
          let there : is_some (lookup (is_key c.next.new.key.items) c.moves.self.found.entries)
          ≡ true =
          ap (λ k. is_some (lookup (is_key k) c.moves.self.found.entries))
          (sym c.as_slice-in-moves.ensures.value)
          ∙ (sym c.contains_key.ensures ∙ w.if-not-contains_key.false) in
          record {
            fits = c.next.ensures.fits;
            explored = subst (λ (s : Search). IsExplored (g.M.Machine.starts c.args.machine.now)
                (g.M.Machine.count c.args.machine.now) (g.M.Machine.leads c.args.machine.now)
                (g.M.Machine.bad c.args.machine.now) c.args._limit s.found.entries c.args.head
                (c.moves.by + 1) (c.args.head + 1)) (sym w.self-is)
                (stay-as (g.M.Machine.starts c.args.machine.now)
                (g.M.Machine.count c.args.machine.now) (g.M.Machine.leads c.args.machine.now)
                (g.M.Machine.bad c.args.machine.now) c.args._limit c.moves.self.found.entries
                c.args.head c.moves.by (c.args.head + 1) t.entry c.next.new.key.items
                c.moves.invariant.explored t.is_there leads-on there);
            taken = subst (λ (s : Search). IsTakenUp s.found.entries c.args.head s.state.items
                c.args.depth) (sym w.self-is) t;
          }
    ]

pub returns-clause-explored : goal.returns-clause-explored
returns-clause-explored g c =
    let t = c.moves.invariant.taken in
    let m = c.moves-by-end.ensures in
    let over = c.moves-test.false in
    ended (g.M.Machine.starts c.args.machine.now) (g.M.Machine.count c.args.machine.now)
    (g.M.Machine.leads c.args.machine.now) (g.M.Machine.bad c.args.machine.now) c.args._limit
    c.moves.self.found.entries c.args.head c.moves.by t.entry t.is_there
    c.moves.invariant.explored (inl (omega (arith, m, over)))

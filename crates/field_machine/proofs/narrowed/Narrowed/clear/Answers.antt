use Rattle.std.proofs.Common.{◌≡◌, true, List, [], inl, inr, replicate, sym, ap, subst, ◌∙◌}
use Rattle.std.specs.List.{AllByRecursion}
use Rattle.std.specs.FinMap.{contains_key}
use Rattle.std.specs.FinSet.{contains}
use Rattle.plant_types.specs.declared.reference.Ref.{Ref}
use Rattle.plant_types.specs.Checks.{sizes_of}
use Rattle.plant_types.specs.Discretes.{discretes_on}
use Rattle.plant_types.proofs.SizesLemmas.{contains_key-cleared}
use Rattle.state_ram.specs.Packed.{packed_contents}
use Rattle.grid_compile.specs.declared.grid.Grid.{Grid}
use Rattle.ladder_solver.specs.declared.places.BlockPlace.{BlockPlace}
use Rattle.ladder_solver.specs.Edges.{network_counts, HasEdgeBit}
use Rattle.ladder_solver.specs.State.{LadderState, Places}
use Rattle.field_machine.specs.Counters.{Among}
use Rattle.field_machine.specs.Keys.{edges_set}
use Rattle.field_machine.specs.Narrow.{apart_of, does_not_matter, zeroed}
use Rattle.field_machine.proofs.Counting.{listed-bits}
use Rattle.field_machine.proofs.Edges.{set-within}
use Rattle.field_machine.proofs.Narrowing.{filter-among, outside-all}
use Rattle.field_machine.proofs.narrowed.Narrowed.clear.Goals as goal

pub zero_all-requires : goal.zero_all-requires
zero_all-requires c =
    let self = c.args.self.now in
    let plan = self.field.fixed.plan in
    let are = c.requires.narrowed.apart_are in
    let ram = packed_contents c.args.work.now.ram in
    subst (AllByRecursion (λ (at : Ref). contains_key ram at ≡ true))
    (sym (c.as_slice.ensures.value ∙ are.outside_is))
    (outside-all (λ (at : Ref). contains_key ram at ≡ true) (sizes_of plan) are.cone
    (λ at held lacks. c.requires.ready.keeps at (contains_key-cleared (sizes_of plan) at ∙ held)))

pub set_edges-requires : goal.set_edges-requires
set_edges-requires c place among =
    let self = c.args.self.now in
    let plan = self.field.fixed.plan in
    let are = c.requires.narrowed.apart_are in
    subst (λ (grids : List (List Grid)). HasEdgeBit (network_counts grids) place)
    c.requires.ready.sound.grids
    (listed-bits plan.segments place
    (subst (λ (places : List BlockPlace). Among places place)
    c.requires.narrowed.field_is.counters_are
    (filter-among (does_not_matter are.cone plan.segments) self.field.counters.items place
    (subst (λ (places : List BlockPlace). Among places place)
    (c.as_slice-2.ensures.value ∙ are.apart_is) among))))

pub returns-clause-state : goal.returns-clause-state
returns-clause-state c =
    let self = c.args.self.now in
    let work = c.args.work.now in
    let map = c.zero_all.ensures.stored
    ∙ ap (λ (refs : List Ref). zeroed (packed_contents work.ram) refs) c.as_slice.ensures.value in
    let edges : c.set_edges.new.ladder.edges ≡ edges_set work.ladder.edges self.apart.items [] =
    ap (λ (l : LadderState). l.edges) c.set_edges.ensures
    ∙ ap (λ (places : List BlockPlace). edges_set work.ladder.edges places [])
    c.as_slice-2.ensures.value in
    λ i. record {
      solving = record {
        map = map i;
        past = discretes_on (packed_contents work.past);
        edges = edges i;
        table = work.bank;
        clock = work.clock;
        left = work.watch.left;
      };
      exchanges = replicate 32 0;
      gone = 0;
      stop = work.stop;
      powered = true;
      failures = 0;
    }

pub returns-clause-work : goal.returns-clause-work
returns-clause-work c =
    let self = c.args.self.now in
    let plan = self.field.fixed.plan in
    let work = c.args.work.now in
    let are = c.requires.narrowed.apart_are in
    let sound = c.requires.ready.sound in
    let apart = c.as_slice-2.ensures.value ∙ are.apart_is in
    let edges : c.set_edges.new.ladder.edges
    ≡ edges_set work.ladder.edges (apart_of are.cone plan.segments self.field.counters.items) [] =
    ap (λ (l : LadderState). l.edges) c.set_edges.ensures
    ∙ ap (λ (places : List BlockPlace). edges_set work.ladder.edges places []) apart in
    record {
      grids = sound.grids ∙ sym (ap (λ (l : LadderState). l.grids) c.set_edges.ensures);
      bank = sound.bank;
      edges = λ place on.
          elim (set-within (apart_of are.cone plan.segments self.field.counters.items)
          work.ladder.edges [] place
          (ap (λ (e : Places). contains e place) (sym edges) ∙ on)) [
            | inl there ↦ sound.edges place there
            | inr among ↦ subst (λ (places : List BlockPlace). Among places place)
                c.requires.narrowed.field_is.counters_are
                (filter-among (does_not_matter are.cone plan.segments)
                self.field.counters.items place among)
          ];
    }

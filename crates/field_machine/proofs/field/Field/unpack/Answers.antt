use Rattle.std.proofs.Common.{◌≡◌, true, List, drop, length, replicate, sym, ap, subst, ◌∙◌}
use Rattle.std.specs.FinSet.{empty}
use Rattle.plant_types.specs.Checks.{sizes_of}
use Rattle.plant_types.specs.Discretes.{discretes_on}
use Rattle.plant_types.specs.Sizes.{Sizes, cleared, discretes_of}
use Rattle.plant_types.specs.Store.{Keeps}
use Rattle.state_ram.specs.Packed.{Words, packed_contents, packed_sizes}
use Rattle.grid_compile.specs.declared.grid.Grid.{Grid}
use Rattle.ladder_solver.specs.declared.places.BlockPlace.{BlockPlace}
use Rattle.ladder_solver.specs.Edges.{network_counts, HasEdgeBit}
use Rattle.ladder_solver.specs.State.{LadderState, Places}
use Rattle.key_store.specs.Words.{words_cut}
use Rattle.key_store.proofs.Cutting.{discretes-cut}
use Rattle.field_machine.specs.Counters.{Among, counters_of}
use Rattle.field_machine.specs.Keys.{edges_set}
use Rattle.field_machine.proofs.Counting.{listed-bits}
use Rattle.field_machine.proofs.Edges.{edges-anew, edges-within, Within}
use Rattle.field_machine.proofs.States.{keeps-sizes, part-sizes}
use Rattle.field_machine.proofs.field.Field.unpack.Goals as goal

pub set_edges-requires : goal.set_edges-requires
set_edges-requires c place among =
    let plan = c.args.self.now.fixed.plan in
    subst (λ (grids : List (List Grid)). HasEdgeBit (network_counts grids) place)
    c.requires.work.grids
    (listed-bits plan.segments place
    (subst (λ (places : List BlockPlace). Among places place)
    (c.as_slice.ensures.value ∙ c.requires.field.counters_are) among))

pub returns-clause-work : goal.returns-clause-work
returns-clause-work c =
    let plan = c.args.self.now.fixed.plan in
    let old = c.args.work.now.ladder.edges in
    let places = counters_of plan.segments in
    let words = drop 2 c.args.key.now in
    let listed : c.as_slice.result.now ≡ places =
    c.as_slice.ensures.value ∙ c.requires.field.counters_are in
    let set = c.set_edges.ensures in
    let edges : c.set_edges.new.ladder.edges ≡ edges_set empty places words =
    ap (λ (l : LadderState). l.edges) set
    ∙ ((λ i. edges_set old (listed i) (c.words_behind-edges.ensures i))
    ∙ edges-anew places old words c.requires.work.edges) in
    record {
      grids = c.requires.work.grids ∙ sym (ap (λ (l : LadderState). l.grids) set);
      bank = c.requires.work.bank;
      edges = subst (λ (e : Places). Within e places) (sym edges) (edges-within places words);
    }

pub returns-clause-state : goal.returns-clause-state
returns-clause-state c =
    let plan = c.args.self.now.fixed.plan in
    let counters = c.args.self.now.counters.items in
    let sizes = sizes_of plan in
    let old = c.args.work.now.ladder.edges in
    let places = counters_of plan.segments in
    let words = drop 2 c.args.key.now in
    let rest = drop (length counters) words in
    let ram : c.fill.new.self ≡ words_cut sizes rest =
    c.in_ok-fill.ensures
    ∙ (λ i. words_cut (c.sizes-sizes.ensures i) (c.references-words.ensures i)) in
    let part : c.discretes_of.result ≡ discretes_of sizes =
    c.discretes_of.ensures ∙ ap (λ (s : Sizes). discretes_of s) c.sizes-sizes.ensures in
    let past : c.fill-2.new.self ≡ words_cut (discretes_of sizes) rest =
    c.in_ok-fill-2.ensures ∙ (λ i. words_cut (part i) (c.references-words.ensures i)) in
    let whole : packed_sizes (words_cut sizes rest) ≡ sizes =
    ap packed_sizes (sym ram) ∙ (c.in_ok-hold_sizes.ensures ∙ c.sizes-sizes.ensures) in
    let map = ap packed_contents ram in
    let kept = ap discretes_on (ap packed_contents past ∙ discretes-cut sizes rest whole) in
    let listed : c.as_slice.result.now ≡ places =
    c.as_slice.ensures.value ∙ c.requires.field.counters_are in
    let set = c.set_edges.ensures in
    let edges : c.set_edges.new.ladder.edges ≡ edges_set empty counters words =
    ap (λ (l : LadderState). l.edges) set
    ∙ ((λ i. edges_set old (listed i) (c.words_behind-edges.ensures i))
    ∙ (edges-anew places old words c.requires.work.edges
    ∙ ap (λ (l : List BlockPlace). edges_set empty l words) (sym c.requires.field.counters_are))) in
    let now = c.from.ensures ∙ c.word_at.ensures in
    let stop = c.word_at-work.ensures in
    let bank = c.requires.work.bank in
    λ i. record {
      solving = record {
        map = map i;
        past = kept i;
        edges = edges i;
        table = bank i;
        clock = record { before = 0; now = now i };
        left = 0;
      };
      exchanges = replicate 32 0;
      gone = 0;
      stop = stop i;
      powered = true;
      failures = 0;
    }

pub returns-clause-ready : goal.returns-clause-ready
returns-clause-ready c =
    let plan = c.args.self.now.fixed.plan in
    let counters = c.args.self.now.counters.items in
    let sizes = sizes_of plan in
    let rest = drop (length counters) (drop 2 c.args.key.now) in
    let ram : c.fill.new.self ≡ words_cut sizes rest =
    c.in_ok-fill.ensures
    ∙ (λ i. words_cut (c.sizes-sizes.ensures i) (c.references-words.ensures i)) in
    let part : c.discretes_of.result ≡ discretes_of sizes =
    c.discretes_of.ensures ∙ ap (λ (s : Sizes). discretes_of s) c.sizes-sizes.ensures in
    let past : c.fill-2.new.self ≡ words_cut (discretes_of sizes) rest =
    c.in_ok-fill-2.ensures ∙ (λ i. words_cut (part i) (c.references-words.ensures i)) in
    let whole : packed_sizes (words_cut sizes rest) ≡ sizes =
    ap packed_sizes (sym ram) ∙ (c.in_ok-hold_sizes.ensures ∙ c.sizes-sizes.ensures) in
    record {
      sound = returns-clause-work c;
      keeps = subst (λ (w : Words). Keeps (cleared sizes) (packed_contents w)) (sym ram)
          (keeps-sizes (words_cut sizes rest) sizes whole);
      past = subst (λ (w : Words). Keeps (cleared (discretes_of sizes)) (packed_contents w))
          (sym past) (keeps-sizes (words_cut (discretes_of sizes) rest) (discretes_of sizes)
          (part-sizes sizes rest whole));
    }

-- States as keys. All of it is this project's own.
use Rattle.std.specs.Prelude.{◌≡◌, ◌<◌, ℕ, ◌%◌, true, if◌then◌else◌, nat_lt, List, [], ◌∷◌}
use Rattle.std.specs.Prelude.{◌++◌, length, drop, map, replicate, slice_index}
use Rattle.std.specs.FinSet.{contains, empty}
use Rattle.plant_types.specs.declared.plan.ControllerPlan.{ControllerPlan}
use Rattle.plant_types.specs.Checks.{sizes_of}
use Rattle.plant_types.specs.Discretes.{discretes_on}
use Rattle.plant_types.specs.Plans.{is_routed}
use Rattle.plant_types.specs.Sizes.{discretes}
use Rattle.plant_types.specs.Store.{Contents}
use Rattle.state_ram.specs.Packed.{Words, packed_contents, packed_sizes}
use Rattle.mstr_block.specs.Table.{idle_table}
use Rattle.ladder_solver.specs.Numbers.{mstr_blocks}
use Rattle.ladder_solver.specs.declared.places.BlockPlace.{BlockPlace}
use Rattle.ladder_solver.specs.State.{Places, with_place}
use Rattle.controller_core.specs.Replay.{ControllerState}
use Rattle.key_store.specs.Words.{flat_words, words_cut}
use Rattle.field_machine.specs.Counters.{Among}

-- The words that stand for edge bits: 1 for one that is on.
abbrev pub edge_words : Places → List BlockPlace → List ℕ
edge_words edges places = map (λ place. if contains edges place then 1 else 0) places

-- Edge bits behind those of these places are set by words.
abbrev pub edges_set : Places → List BlockPlace → List ℕ → Places
edges_set edges [] words = edges
edges_set edges (place ∷ places) words =
    edges_set (with_place edges place (nat_lt 0 (slice_index words 0))) places (drop 1 words)

-- The references that a key has, where so many places have edge bits.
abbrev pub map_in : ControllerPlan → ℕ → List ℕ → Contents
map_in plan places key = packed_contents (words_cut (sizes_of plan) (drop places (drop 2 key)))

-- The state that a key stands for: the clock, the stop code, the edge bits of these places, the
-- references; all else as between two scans.
abbrev pub state_in : ControllerPlan → List BlockPlace → List ℕ → ControllerState
state_in plan places key =
    let references = map_in plan (length places) key in
    record {
      solving = record {
        map = references;
        past = discretes_on (discretes (sizes_of plan) references);
        edges = edges_set empty places (drop 2 key);
        table = idle_table plan.node (is_routed plan.network) (mstr_blocks plan.segments);
        clock = record { before = 0; now = slice_index key 0 };
        left = 0;
      };
      exchanges = replicate 32 0;
      gone = 0;
      stop = slice_index key 1;
      powered = true;
      failures = 0;
    }

-- A key is that of a state with edge bits at these places alone: the clock within its second, the
-- stop code, the edge bits, and words that hold the references.
pub record IsKeyOf (plan : ControllerPlan) (places : List BlockPlace) (s : ControllerState)
    (key : List ℕ) : Type 0 where
  pub words : Words
  pub sizes : packed_sizes words ≡ sizes_of plan
  pub references : s.solving.map ≡ packed_contents words
  pub edges : (place : BlockPlace) → contains s.solving.edges place ≡ true → Among places place
  pub fits : (i : ℕ) → slice_index key i < 65536
  pub is : key ≡ (s.solving.clock.now % 100) ∷ s.stop
      ∷ (edge_words s.solving.edges places ++ flat_words words)

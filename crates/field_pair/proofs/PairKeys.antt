-- Keys of pairs of states.
use Rattle.std.proofs.Common.{◌≡◌, ℕ, ◌+◌, ◌*◌, List, ◌++◌, refl, sym, ap, ◌∙◌, subst}
use Rattle.std.proofs.Common.{arith, length, take, drop}
use Rattle.std.proofs.Math.Seq.{drop-append_seam, take-append_seam}
use Rattle.std.proofs.lemmas.List.{length-append, length-map}
use Rattle.plant_types.specs.declared.plan.ControllerPlan.{ControllerPlan}
use Rattle.plant_types.specs.declared.drops.IoDrop.{IoDrop}
use Rattle.plant_types.specs.Checks.{sizes_of}
use Rattle.plant_types.specs.Sizes.{Sizes}
use Rattle.state_ram.specs.Packed.{packed_sizes, Words}
use Rattle.ladder_solver.specs.declared.places.BlockPlace.{BlockPlace}
use Rattle.controller_core.specs.Replay.{ControllerState}
use Rattle.field_runs.specs.Alike.{IsAlike}
use Rattle.side_runs.specs.Standing.{StandsWhole}
use Rattle.side_runs.proofs.Standing.{alike-then}
use Rattle.key_store.specs.Words.{flat_words, word_count}
use Rattle.field_machine.specs.Keys.{edge_words, state_in, IsKeyOf}
use Rattle.field_machine.proofs.States.{key-stands, one-key, StandsAs}
use Rattle.side_runs.specs.Beside.{AreAlikePairs, StatePair}
use Rattle.side_runs.specs.Laws.{StandsForPair}
use Rattle.field_pair.specs.Keys.{IsPairKeyOf, pair_in}

-- how many words a key has
words-long : (sizes : Sizes) (w : Words) → packed_sizes w ≡ sizes
    → length (flat_words w) ≡ word_count sizes
words-long sizes w is =
    let coils : 16 * length w.coils ≡ sizes.coils = ap (λ (s : Sizes). s.coils) is in
    let inputs : 16 * length w.inputs ≡ sizes.inputs = ap (λ (s : Sizes). s.inputs) is in
    let input_registers : length w.input_registers ≡ sizes.input_registers =
    ap (λ (s : Sizes). s.input_registers) is in
    let registers : length w.registers ≡ sizes.registers = ap (λ (s : Sizes). s.registers) is in
    let one = length-append w.coils (w.inputs ++ (w.input_registers ++ w.registers)) in
    let two = length-append w.inputs (w.input_registers ++ w.registers) in
    let three = length-append w.input_registers w.registers in
    omega (arith, coils, inputs, input_registers, registers, one, two, three)

pub key-long : (plan : ControllerPlan) (places : List BlockPlace) (s : ControllerState)
    (key : List ℕ) → IsKeyOf plan places s key
    → length key ≡ 2 + length places + word_count (sizes_of plan)
key-long plan places s key is =
    let whole = ap length is.is in
    let both = length-append (edge_words s.solving.edges places) (flat_words is.words) in
    let edges : length (edge_words s.solving.edges places) ≡ length places =
    length-map places _ in
    let words = words-long (sizes_of plan) is.words is.sizes in
    omega (arith, whole, both, edges, words)

pub alike-back : (s t : ControllerState) → IsAlike s t → IsAlike t s
alike-back s t a = record {
  references = sym a.references;
  edges = sym a.edges;
  stop = sym a.stop;
  clock = sym a.clock;
}

alike-self : (s : ControllerState) → IsAlike s s
alike-self s = record { references = refl; edges = refl; stop = refl; clock = refl }

-- the drops do not matter to what a key stands for
pub stands-own : (plan : ControllerPlan) (drops : List IoDrop) (s kept : ControllerState)
    → StandsWhole (record plan { drops = drops }) s kept → StandsWhole plan s kept
stands-own plan drops s kept h = record {
  alike = h.alike;
  settled = λ goes. let settled = h.settled goes in
      record { kept = settled.kept; blocks = settled.blocks };
}

-- what the key of one controller stands for
whole : (plan : ControllerPlan) (s kept : ControllerState) → StandsAs plan s kept
    → StandsWhole plan s kept
whole plan s kept stands = record { alike = stands.alike; settled = stands.settled }

module _ (old : ControllerPlan) (old-places : List BlockPlace) (new : ControllerPlan)
    (new-places : List BlockPlace) (size : ℕ)
    (long : size ≡ 2 + length old-places + word_count (sizes_of old)) where
  abbrev states : List ℕ → StatePair
  states key = pair_in old old-places new new-places size key

  front-is : (s : StatePair) (key : List ℕ) (k : IsPairKeyOf old old-places new new-places s key)
      → take size key ≡ k.front
  front-is s key k =
      let same : size ≡ length k.front = long ∙ sym (key-long old old-places s.old k.front
      k.old_key) in
      (λ i. take (same i) (k.both i)) ∙ take-append_seam k.front k.behind

  behind-is : (s : StatePair) (key : List ℕ) (k : IsPairKeyOf old old-places new new-places s key)
      → drop size key ≡ k.behind
  behind-is s key k =
      let same : size ≡ length k.front = long ∙ sym (key-long old old-places s.old k.front
      k.old_key) in
      (λ i. drop (same i) (k.both i)) ∙ drop-append_seam k.front k.behind

  pub pair-stands : (s : StatePair) (key : List ℕ)
      → IsPairKeyOf old old-places new new-places s key
      → StandsForPair old new s (states key)
  pair-stands s key k = record {
    old_stands = subst (λ (l : List ℕ). StandsWhole old s.old (state_in old old-places l))
        (sym (front-is s key k))
        (whole old s.old _ (key-stands old old-places s.old k.front k.old_key));
    new_stands = subst (λ (l : List ℕ). StandsWhole new s.new (state_in new new-places l))
        (sym (behind-is s key k))
        (whole new s.new _ (key-stands new new-places s.new k.behind k.new_key));
  }

  -- alike pairs have one key
  pub one-pair-key : (s t : StatePair) (key other : List ℕ)
      → IsPairKeyOf old old-places new new-places s key
      → IsPairKeyOf old old-places new new-places t other → AreAlikePairs s t → key ≡ other
  one-pair-key s t key other k o alike =
      let front = one-key old old-places s.old t.old k.front o.front k.old_key o.old_key alike.old
      in
      let behind = one-key new new-places s.new t.new k.behind o.behind k.new_key o.new_key
      alike.new in
      k.both ∙ ((λ i. front i ++ behind i) ∙ sym o.both)

  pub same-pair : (s : StatePair) → AreAlikePairs s s
  same-pair s = record { old = alike-self s.old; new = alike-self s.new }

  -- keys of pairs that keys stand for alike are one
  pub pair-keys-apart : (s t : StatePair) (key other : List ℕ)
      → IsPairKeyOf old old-places new new-places s key
      → IsPairKeyOf old old-places new new-places t other
      → AreAlikePairs (states key) (states other) → key ≡ other
  pair-keys-apart s t key other k o alike =
      let one = pair-stands s key k in
      let two = pair-stands t other o in
      one-pair-key s t key other k o (record {
        old = alike-then s.old (states key).old t.old one.old_stands.alike
            (alike-then (states key).old (states other).old t.old alike.old
            (alike-back t.old (states other).old two.old_stands.alike));
        new = alike-then s.new (states key).new t.new one.new_stands.alike
            (alike-then (states key).new (states other).new t.new alike.new
            (alike-back t.new (states other).new two.new_stands.alike));
      })

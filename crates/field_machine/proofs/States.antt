-- Keys and the states that they are of.
use Rattle.std.proofs.Common.{◌≡◌, ℕ, zero, suc, ◌+◌, ◌*◌, ◌/◌, ◌<◌, Bool, true, false, ◌&&◌, List, []}
use Rattle.std.proofs.Common.{◌∷◌, ◌++◌, refl, sym, ap, ◌∙◌, subst, arith, length, get_or, drop}
use Rattle.std.proofs.Common.{replicate, cond}
use Rattle.std.specs.Prelude.{nat_le, slice_index}
use Rattle.std.proofs.lemmas.Bool.{eqb-true}
use Rattle.std.specs.FinSet.{contains, contains-empty, empty}
use Rattle.std.proofs.Math.Seq.{drop-append_seam}
use Rattle.std.proofs.lemmas.List.{length-replicate, replicate-append-replicate}
use Rattle.plant_types.specs.declared.plan.ControllerPlan.{ControllerPlan}
use Rattle.plant_types.specs.Checks.{is_discrete_size, is_size, numbers_pass, passes_check, sizes_of}
use Rattle.plant_types.specs.Sizes.{Sizes, cleared, discretes_of, has_reference}
use Rattle.plant_types.specs.Store.{Keeps}
use Rattle.plant_types.proofs.SizesLemmas.{contains_key-cleared}
use Rattle.state_ram.specs.Packed.{Words, packed_contents, packed_sizes, zero_words}
use Rattle.state_ram.proofs.Banked.{contains_key-packed, packed-zero_words}
use Rattle.ladder_solver.specs.declared.places.BlockPlace.{BlockPlace}
use Rattle.ladder_solver.specs.State.{Places, place_cmp}
use Rattle.controller_core.specs.Replay.{ControllerState, start}
use Rattle.field_runs.specs.Alike.{IsAlike, IsSettled}
use Rattle.key_store.specs.Words.{flat_words, word_count, words_cut, HasWholeGroups}
use Rattle.key_store.proofs.Cutting.{cut-flat, flat-same, rest-words, AreWords}
use Rattle.field_machine.specs.Keys.{edge_words, state_in, IsKeyOf}
use Rattle.field_machine.proofs.Edges.{edges-again, length-edges}

-- the words of a key behind those of the edge bits
rest-is : (places : List BlockPlace) (edges : Places) (words : List ℕ)
    → drop (length places) (edge_words edges places ++ words) ≡ words
rest-is places edges words =
    ap (λ n. drop n (edge_words edges places ++ words)) (sym (length-edges edges places))
    ∙ drop-append_seam (edge_words edges places) words

-- a key stands for a state: it is alike that of the key, which has settled unless it stopped
pub record StandsAs (plan : ControllerPlan) (s kept : ControllerState) : Type 0 where
  pub alike : IsAlike s kept
  pub settled : kept.stop ≡ 0 → IsSettled plan kept

pub alike-then : (s t u : ControllerState) → IsAlike s t → IsAlike t u → IsAlike s u
alike-then s t u a b = record {
  references = a.references ∙ b.references;
  edges = a.edges ∙ b.edges;
  stop = a.stop ∙ b.stop;
  clock = a.clock ∙ b.clock;
}

-- a key of a state stands for it
pub key-stands : (plan : ControllerPlan) (places : List BlockPlace) (s : ControllerState)
    (key : List ℕ) → IsKeyOf plan places s key → StandsAs plan s (state_in plan places key)
key-stands plan places s key k =
    let words = flat_words k.words in
    let edges = edge_words s.solving.edges places in
    subst (λ (l : List ℕ). StandsAs plan s (state_in plan places l)) (sym k.is) (record {
      alike = record {
        references = k.references
            ∙ sym (ap (λ (l : List ℕ). packed_contents (words_cut (sizes_of plan) l))
            (rest-is places s.solving.edges words)
            ∙ ap packed_contents (cut-flat (sizes_of plan) k.words k.sizes));
        edges = sym (edges-again places s.solving.edges words k.edges);
        stop = refl;
        clock = omega arith;
      };
      settled = λ goes. record { kept = refl; blocks = refl };
    })

key-words : (c t : ℕ) (edges words key : List ℕ) → key ≡ c ∷ t ∷ (edges ++ words)
    → ((i : ℕ) → slice_index key i < 65536) → AreWords words
key-words c t edges words key is fits =
    let all : AreWords (c ∷ t ∷ (edges ++ words)) = λ i.
    subst (λ n. n < 65536) (ap (λ (l : List ℕ). get_or l i 0) is) (fits i) in
    rest-words edges words (λ i. all (suc (suc i)))

-- alike states have one key
pub one-key : (plan : ControllerPlan) (places : List BlockPlace) (s t : ControllerState)
    (key other : List ℕ) → IsKeyOf plan places s key → IsKeyOf plan places t other → IsAlike s t
    → key ≡ other
one-key plan places s t key other k o alike =
    let words : flat_words k.words ≡ flat_words o.words =
    flat-same k.words o.words (k.sizes ∙ sym o.sizes)
    (sym k.references ∙ (alike.references ∙ o.references))
    (key-words _ _ (edge_words s.solving.edges places) (flat_words k.words) key k.is k.fits)
    (key-words _ _ (edge_words t.solving.edges places) (flat_words o.words) other o.is o.fits) in
    k.is ∙ ((λ i. alike.clock i ∷ alike.stop i
    ∷ (edge_words (alike.edges i) places ++ words i)) ∙ sym o.is)

-- a key of a state is one of each that is alike
pub key-alike : (plan : ControllerPlan) (places : List BlockPlace) (s t : ControllerState)
    (key : List ℕ) → IsAlike s t → IsKeyOf plan places t key → IsKeyOf plan places s key
key-alike plan places s t key alike k = record {
  words = k.words;
  sizes = k.sizes;
  references = alike.references ∙ k.references;
  edges = λ place is. k.edges place (ap (λ (e : Places). contains e place) (sym alike.edges) ∙ is);
  fits = k.fits;
  is = k.is ∙ sym (λ i. alike.clock i ∷ alike.stop i
      ∷ (edge_words (alike.edges i) places ++ flat_words k.words));
}

-- ---- the key of the start

no-edges : (places : List BlockPlace) → edge_words empty places ≡ replicate (length places) 0
no-edges [] = refl
no-edges (p ∷ places) =
    let off : cond (contains {R = place_cmp} empty p) 1 0 ≡ 0 =
    ap (λ b. cond b 1 0) (contains-empty place_cmp p) in
    λ i. off i ∷ no-edges places i

no-words : (a b c d : ℕ) → flat_words (zero_words a b c d) ≡ replicate (a + (b + (c + d))) 0
no-words a b c d =
    ap (λ (l : List ℕ). replicate a 0 ++ (replicate b 0 ++ l)) (replicate-append-replicate c d 0)
    ∙ (ap (λ (l : List ℕ). replicate a 0 ++ l) (replicate-append-replicate b (c + d) 0)
    ∙ replicate-append-replicate a (b + (c + d)) 0)

zero-at : (n i : ℕ) → get_or (replicate {A = ℕ} n 0) i 0 ≡ 0
zero-at zero i = refl
zero-at (suc n) zero = refl
zero-at (suc n) (suc i) = zero-at n i

pub start-key : (plan : ControllerPlan) (places : List BlockPlace) → HasWholeGroups (sizes_of plan)
    → IsKeyOf plan places (start plan)
    (replicate (2 + length places + word_count (sizes_of plan)) 0)
start-key plan places whole =
    let sizes = sizes_of plan in
    let e = sizes.coils / 16 in
    let f = sizes.inputs / 16 in
    let c = sizes.input_registers in
    let d = sizes.registers in
    let coils = whole.coils in
    let inputs = whole.inputs in
    let a-is : 16 * e ≡ sizes.coils = omega (arith, coils) in
    let b-is : 16 * f ≡ sizes.inputs = omega (arith, inputs) in
    let long : (n : ℕ) → length (replicate {A = ℕ} n 0) ≡ n = λ n. length-replicate n 0 in
    let many : 2 + length places + word_count sizes
    ≡ suc (suc (length places + (e + (f + (c + d))))) = omega arith in
    record {
      words = zero_words e f c d;
      sizes = λ i. record {
        coils = (ap (λ n. 16 * n) (long e) ∙ a-is) i;
        inputs = (ap (λ n. 16 * n) (long f) ∙ b-is) i;
        input_registers = long c i;
        registers = long d i;
      };
      references = sym (packed-zero_words sizes.coils sizes.inputs c d e f a-is b-is);
      edges = λ place is. absurd (let no' : false ≡ true =
          sym (contains-empty place_cmp place) ∙ is in cc);
      fits = λ i. subst (λ n. n < 65536)
          (sym (zero-at (2 + length places + word_count sizes) i)) (omega arith);
      is = ap (λ n. replicate n 0) many
          ∙ ap (λ (l : List ℕ). 0 ∷ 0 ∷ l)
          (sym (replicate-append-replicate (length places) (e + (f + (c + d))) 0)
          ∙ (λ i. sym (no-edges places) i ++ sym (no-words e f c d) i));
    }

-- ---- stores of words that have all references

pub keeps-sizes : (w : Words) (sizes : Sizes) → packed_sizes w ≡ sizes
    → Keeps (cleared sizes) (packed_contents w)
keeps-sizes w sizes is q held =
    contains_key-packed w q
    ∙ (ap (λ (s : Sizes). has_reference s q) is ∙ (sym (contains_key-cleared sizes q) ∙ held))

pub part-sizes : (sizes : Sizes) (words : List ℕ) → packed_sizes (words_cut sizes words) ≡ sizes
    → packed_sizes (words_cut (discretes_of sizes) words) ≡ discretes_of sizes
part-sizes sizes words is = λ i. record {
  coils = (ap (λ (s : Sizes). s.coils) is) i;
  inputs = (ap (λ (s : Sizes). s.inputs) is) i;
  input_registers = 0;
  registers = 0;
}

both-true : (a b : Bool) → a && b ≡ true → (a ≡ true) × (b ≡ true)
both-true true true e = (refl, refl)
both-true true false e = absurd (let no' : false ≡ true = e in cc)
both-true false b e = absurd (let no' : false ≡ true = e in cc)

-- a plan that passes has discretes in sixteens
pub whole-groups : (plan : ControllerPlan) → passes_check plan ≡ true
    → HasWholeGroups (sizes_of plan)
whole-groups plan passes =
    let numbers = (both-true (numbers_pass plan) _ passes).0 in
    let sizes = (both-true (nat_le 1 plan.node && nat_le plan.node 64) _ numbers).1 in
    let coils = both-true (is_discrete_size plan.coils) _ sizes in
    let inputs = both-true (is_discrete_size plan.inputs) _ coils.1 in
    record {
      coils = eqb-true _ _ (both-true (is_size plan.coils) _ coils.0).1;
      inputs = eqb-true _ _ (both-true (is_size plan.inputs) _ inputs.0).1;
    }

-- each word of a list fits
pub words-fit : (xs : List ℕ) → ((i d : ℕ) → i < length xs → get_or xs i d < 65536) → (i : ℕ)
    → slice_index xs i < 65536
words-fit [] h i = omega arith
words-fit (x ∷ xs) h zero = h 0 0 (omega arith)
words-fit (x ∷ xs) h (suc i) = words-fit xs (λ j d l. h (suc j) d (omega (arith, l))) i

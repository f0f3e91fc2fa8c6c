use Rattle.std.proofs.Common.{◌≡◌, ◌%◌, ◌++◌, ◌∷◌, [], ℕ, List, sym, ap, subst, ◌∙◌, refl}
use Rattle.std.specs.Prelude.{Result, Ok, Err, OnOk}
use Rattle.grid_compile.specs.declared.grid.Grid.{Grid}
use Rattle.ladder_solver.specs.declared.places.BlockPlace.{BlockPlace}
use Rattle.ladder_solver.specs.Edges.{network_counts, HasEdgeBit}
use Rattle.key_store.specs.Words.{flat_words}
use Rattle.field_machine.specs.Counters.{Among}
use Rattle.field_machine.specs.Keys.{edge_words}
use Rattle.field_machine.proofs.Counting.{listed-bits}
use Rattle.field_machine.proofs.States.{words-fit}
use Rattle.field_machine.proofs.field.Field.pack.Goals as goal

pub push_edges-requires : goal.push_edges-requires
push_edges-requires c place among =
    let plan = c.args.self.now.fixed.plan in
    subst (λ (grids : List (List Grid)). HasEdgeBit (network_counts grids) place)
    c.requires.work.grids
    (listed-bits plan.segments place
    (subst (λ (places : List BlockPlace). Among places place) c.requires.field.counters_are among))

-- where a result is Ok, what follows from its clause
on-ok : {T E : Type 0} (r : Result T E) (A B : Type 0) → OnOk r A → (A → B) → OnOk r B
on-ok (Ok x) A B h f = f h
on-ok (Err e) A B h f = tt

pub returns : goal.returns
returns c =
    let self = c.args.self.now in
    let work = c.args.work.now in
    let edges = edge_words work.ladder.edges self.counters.items in
    let clock = work.clock.now % 100 in
    let none = c.clear.ensures.items in
    let one : c.push.new.self.items ≡ clock ∷ [] =
    c.in_ok-push.ensures.items ∙ ap (λ (l : List ℕ). l ++ clock ∷ []) none in
    let two : c.push-2.new.self.items ≡ clock ∷ work.stop ∷ [] =
    c.in_ok-push-2.ensures.items ∙ ap (λ (l : List ℕ). l ++ work.stop ∷ []) one in
    let three : c.push_edges.new.key.items ≡ clock ∷ work.stop ∷ edges =
    c.in_ok-push_edges.ensures ∙ ap (λ (l : List ℕ). l ++ edges) two in
    on-ok c.push_to.result _ _ c.push_to.ensures (λ is. record {
      words = work.ram;
      sizes = c.in_ok-hold_sizes.ensures ∙ c.sizes.ensures;
      references = refl;
      edges = λ place there. subst (λ (places : List BlockPlace). Among places place)
          (sym c.requires.field.counters_are) (c.requires.work.edges place there);
      fits = words-fit c.push_to.new.words.items c.type_inv.key;
      is = is ∙ ap (λ (l : List ℕ). l ++ flat_words work.ram) three;
    })

use Rattle.std.proofs.Common.{◌≡◌, ◌∷◌, [], ◌++◌, take, refl, sym, ap, ◌∙◌, append_assoc, arith}
use Rattle.std.proofs.lemmas.List.{append-nil}
use Rattle.ladder_solver.specs.Numbers.{mstrs_in}
use Rattle.ladder_solver.specs.Layout.{spot_of, with_numbers, ops_spots}
use Rattle.ladder_solver.proofs.NumberLemmas.{ops-singly, mstrs-within, numbered-item, behind-item}
use Rattle.ladder_solver.proofs.layout.add_spots.Goals as goal

pub loop-op-init : goal.loop-op-init
unfolding with_numbers
loop-op-init c = record { spots = sym (append-nil c.args.spots.now); block = omega arith }

pub next_block-requires : goal.next_block-requires
next_block-requires c =
    omega (
      arith,
      c.requires.few,
      c.loop-op.invariant.block,
      mstrs-within (λ op. op.element ∷ []) c.args.ops.now c.loop-op.op-index,
      ap mstrs_in (ops-singly c.args.ops.now),
    )

pub loop-op-preserved : goal.loop-op-preserved
loop-op-preserved c = record {
  spots =
      let had = c.args.spots.now in
      let some = ops_spots c.args.reaches.now c.args.column c.args.block.now
      (take c.loop-op.op-index c.args.ops.now) in
      let again : (had ++ some) ++ c.spot_of.result ∷ [] ≡ had ++ (some ++ c.spot_of.result ∷ []) =
      rw append_assoc refl in
      c.in_ok-push.ensures.ok
      ∙ ap (λ spots. spots ++ c.spot_of.result ∷ []) c.loop-op.invariant.spots ∙ again
      ∙ ap (λ spots. had ++ spots)
      (sym (numbered-item (λ op. op.element ∷ []) (spot_of c.args.reaches.now c.args.column)
      c.args.block.now c.args.ops.now c.loop-op.op-index
      c.loop-op.block c.loop-op.invariant.block c.loop-op-test.true _ c.spot_of.result
      c.spot_of.ensures));
  block = behind-item (λ op. op.element ∷ []) (spot_of c.args.reaches.now c.args.column)
      c.args.block.now c.args.ops.now c.loop-op.op-index
      c.loop-op.block c.loop-op.invariant.block c.loop-op-test.true _ c.next_block.result
      c.next_block.ensures;
}

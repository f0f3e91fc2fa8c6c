use Rattle.std.proofs.Common.{◌≡◌, ◌+◌, List, drop, sym, ap, ◌∙◌, arith}
use Rattle.std.specs.Prelude.{is_some}
use Rattle.plant_types.specs.declared.drops.IoDrop.{IoDrop}
use Rattle.traffic_cop.specs.Drops.{drop_named}
use Rattle.traffic_cop.proofs.DropLemmas.{named_here, named_later, named_none}
use Rattle.traffic_cop.proofs.cop.Cop.drop_of.Goals as goal

pub returns-then-drop-number : goal.returns-then-drop-number
returns-then-drop-number c =
    let drops = c.as_slice-drop-items.result.now in
    let same : drops ≡ c.args.self.now = c.as_slice-drop-items.ensures ∙ c.self.view_is in
    sym (c.loop-drop.invariant
    ∙ ap (λ (l : List IoDrop). drop_named (drop c.loop-drop.drop-index l) c.args.number) (sym same)
    ∙ named_here drops c.loop-drop.drop-index c.drop-item.result c.args.number c.loop-drop-test.true
    c.drop-item.is c.if-drop-number.true)

pub loop-drop-preserved : goal.loop-drop-preserved
loop-drop-preserved c =
    let drops = c.as_slice-drop-items.result.now in
    let same : drops ≡ c.args.self.now = c.as_slice-drop-items.ensures ∙ c.self.view_is in
    let i = c.loop-drop.drop-index in
    c.loop-drop.invariant ∙ ap (λ (l : List IoDrop). drop_named (drop i l) c.args.number) (sym same)
    ∙ named_later drops i c.drop-item.result c.args.number c.loop-drop-test.true c.drop-item.is
    c.if-drop-number.false
    ∙ ap (λ (l : List IoDrop). drop_named (drop (i + 1) l) c.args.number) same

pub unreachable-requires : goal.unreachable-requires
unreachable-requires c =
    let drops = c.as_slice-drop-items.result.now in
    let same : drops ≡ c.args.self.now = c.as_slice-drop-items.ensures ∙ c.self.view_is in
    let none = c.loop-drop.invariant
    ∙ ap (λ (l : List IoDrop). drop_named (drop c.loop-drop.drop-index l) c.args.number) (sym same)
    ∙ named_none drops c.loop-drop.drop-index c.args.number (omega arith) in
    let some = sym c.requires ∙ ap is_some none in
    absurd cc

use Rattle.std.proofs.Common.{◌-◌, [], ◌∷◌, ◌++◌, take, map, List, sym, ap, ◌∙◌, arith}
use Rattle.std.proofs.lemmas.List.{map_push}
use Rattle.mstr_block.specs.declared.call.MstrCall.{MstrCall}
use Rattle.mstr_block.specs.Table.{started_calls, untaken}
use Rattle.controller_core.specs.declared.call.Call.{Call}
use Rattle.controller_core.specs.Calls.{call_of}
use Rattle.controller_core.proofs.Counting.{length-filter_map, next_item, no_item}
use Rattle.controller_core.proofs.machine.Machine.uncollected.Goals as goal

pub overflow_add-next : goal.overflow_add-next
overflow_add-next c =
    let few = c.requires.few in
    let calls = length-filter_map untaken c.args.self.now.bank.blocks in
    let within = c.loop-call.invariant.1 in
    omega arith

pub loop-call-smaller : goal.loop-call-smaller
loop-call-smaller c =
    let next = next_item (started_calls c.args.self.now.bank) c.loop-call.next c.in-Some.call
    c.loop-call.invariant.0 c.in-Some.ensures.call in
    let within = next.within in
    omega arith

pub loop-call-preserved : goal.loop-call-preserved
loop-call-preserved c =
    let xs = started_calls c.args.self.now.bank in
    let next = next_item xs c.loop-call.next c.in-Some.call c.loop-call.invariant.0
    c.in-Some.ensures.call in
    let within = next.within in (
      omega arith,
      omega arith,
      c.in_ok-push.ensures.ok
          ∙ ap (λ (l : List Call). l ++ c.in_ok-of.field-0 ∷ []) c.loop-call.invariant.2
          ∙ ap (λ (x : Call). map call_of (take (c.loop-call.next - 1) xs) ++ x ∷ [])
          c.in_ok-of.ensures
          ∙ sym (ap (λ (l : List MstrCall). map call_of l) next.more
          ∙ map_push call_of (take (c.loop-call.next - 1) xs) c.in-Some.call),
    )

pub returns : goal.returns
returns c =
    let xs = started_calls c.args.self.now.bank in
    let all = no_item xs c.loop-call.next c.loop-call.invariant.0 c.in_default.ensures.call in
    c.loop-call.invariant.2 ∙ ap (λ (l : List MstrCall). map call_of l) all

-- Where a call took effect, there is a node that has the effect.
use Rattle.std.proofs.Common.{◌≡◌, ℕ, ◌<◌, ◌≤◌, true, List, [], ◌∷◌, refl, sym, ap, subst, inl}
use Rattle.std.proofs.Common.{inr, ⊎_elim, arith}
use Rattle.std.specs.Prelude.{Contains}
use Rattle.std.specs.List.{count_by, sum_by}
use Rattle.std.proofs.lemmas.Bool.{cases_lt, true≢false}
use Rattle.mstr_block.specs.declared.call.CallId.{CallId}
use Rattle.mstr_block.specs.declared.call.MstrResult.{MstrResult}
use Rattle.ring_core.specs.declared.entry.LocalOp.{LocalOp}
use Rattle.ring_core.specs.declared.entry.RingEntry.{RingEntry}
use Rattle.ring_core.specs.declared.entry.RingEntry.TheVariants.{Post, Send, Take, Local, GiveUp}
use Rattle.ring_core.specs.declared.entry.RingEntry.TheVariants.{Pass, Leave, Join}
use Rattle.ring_laws.proofs.Lists.{count-contains, same-eq}
use Rattle.joint_history.specs.declared.joint.ControllerLog.{ControllerLog}
use Rattle.joint_history.specs.declared.joint.HostLog.{HostLog}
use Rattle.joint_history.specs.declared.joint.Joint.{Joint}
use Rattle.joint_history.specs.Effects.{answers_to, does_locally, effects}
use Rattle.joint_history.specs.Reading.{host_items_of, items_of}
use Rattle.joint_history.specs.Nets.{noted_on_rings}
use Rattle.effect_laws.specs.Places.{TakesEffectAt}
use Rattle.std.proofs.lemmas.List.Sums.{sum_by-cons}
use Rattle.effect_laws.proofs.Sources.{behind, in-none, first-or-behind}

-- a sum that is not 0 has a part that is not
pub part-of : {X : Type 0} (f : X → ℕ) (xs : List X) → 1 ≤ sum_by f xs
    → (x : X) × Contains xs x × (1 ≤ f x)
part-of f [] some = absurd (omega (arith, some))
part-of f (x ∷ xs) some =
    let step = sum_by-cons f x xs in
    ⊎_elim
    (λ (none : f x < 1).
    let rest = part-of f xs (omega (arith, some, step, none)) in
    (rest.0, behind x xs rest.0 rest.1, rest.2))
    (λ (here : 1 ≤ f x). (x, (0, omega arith, refl), here))
    (cases_lt (f x) 1)

-- no part of a sum is more than all of it
pub part-most : {X : Type 0} (f : X → ℕ) (xs : List X) (x : X) → Contains xs x → f x ≤ sum_by f xs
part-most f [] x there = absurd (in-none x there)
part-most f (y ∷ xs) x there =
    let step = sum_by-cons f y xs in
    ⊎_elim
    (λ (same : y ≡ x). let here = ap f same in omega (arith, step, here))
    (λ (more : Contains xs x). let rest = part-most f xs x more in omega (arith, step, rest))
    (first-or-behind y xs x there)

-- an entry by which a port did what a call asks
record Acts (id : CallId) (e : RingEntry) : Type 0 where
  node : ℕ
  op : LocalOp
  result : MstrResult
  is : e ≡ Local node id op result

acts : (id : CallId) (e : RingEntry) → does_locally id e ≡ true → Acts id e
acts id (Post n f) is = absurd (true≢false (sym is))
acts id (Send n heard) is = absurd (true≢false (sym is))
acts id (Take n f) is = absurd (true≢false (sym is))
acts id (Local n name op result) is =
    record {
      node = n;
      op = op;
      result = result;
      is = ap (λ (i : CallId). Local n i op result) (same-eq name id is);
    }
acts id (GiveUp name word) is = absurd (true≢false (sym is))
acts id (Pass n done words) is = absurd (true≢false (sym is))
acts id (Leave n cause) is = absurd (true≢false (sym is))
acts id (Join n) is = absurd (true≢false (sym is))

-- where a controller, a host or a port has an effect, there is one that has it
at-controller : (joint : Joint) (id : CallId)
    → 1 ≤ sum_by (λ (log : ControllerLog). answers_to id (items_of log.entries)) joint.controllers
    → (n : ℕ) × TakesEffectAt joint id n
at-controller joint id some =
    let found = part-of (λ (log : ControllerLog). answers_to id (items_of log.entries))
    joint.controllers some in
    (found.0.node, inl (found.0, found.1, refl, found.2))

at-host : (joint : Joint) (id : CallId)
    → 1 ≤ sum_by (λ (log : HostLog). answers_to id (host_items_of log.entries)) joint.hosts
    → (n : ℕ) × TakesEffectAt joint id n
at-host joint id some =
    let found = part-of (λ (log : HostLog). answers_to id (host_items_of log.entries)) joint.hosts
    some in
    (found.0.node, inr (inl (found.0, found.1, refl, found.2)))

at-port : (joint : Joint) (id : CallId) → 1 ≤ count_by (does_locally id) (noted_on_rings joint)
    → (n : ℕ) × TakesEffectAt joint id n
at-port joint id some =
    let found = count-contains (does_locally id) (noted_on_rings joint) some in
    let a = acts id found.0 found.2 in (
      a.node,
      inr (inr (
        a.op,
        a.result,
        subst (λ (e : RingEntry). Contains (noted_on_rings joint) e) a.is
            found.1,
      )),
    )

-- so there is where a call has an effect anywhere
pub found-effect : (joint : Joint) (id : CallId) → 1 ≤ effects joint id
    → (n : ℕ) × TakesEffectAt joint id n
found-effect joint id some =
    let c = sum_by (λ (log : ControllerLog). answers_to id (items_of log.entries))
    joint.controllers in
    let h = sum_by (λ (log : HostLog). answers_to id (host_items_of log.entries)) joint.hosts in
    ⊎_elim
    (λ (none : c < 1).
    ⊎_elim
    (λ (none' : h < 1). at-port joint id (omega (arith, some, none, none')))
    (λ (host : 1 ≤ h). at-host joint id host)
    (cases_lt h 1))
    (λ (controller : 1 ≤ c). at-controller joint id controller)
    (cases_lt c 1)

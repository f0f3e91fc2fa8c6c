use Rattle.std.proofs.Common.{◌≡◌, ℕ, Bool, true, false, cond, ap, refl, sym, ◌∙◌, set}
use Rattle.ring_core.specs.Words.{Join, In, Asking}
use Rattle.ring_core.specs.Machine.{NodeIs, RingIs, is_here, is_held, part_of, ring_node}
use Rattle.ring_core.specs.Machine.{with_node, with_status}
use Rattle.ring_core.specs.Bare.{bare_ring}
use Rattle.ring_core.proofs.Keeping.{kept-call, part}
use Rattle.ring_core.proofs.bare.BareRing.join.Goals as goal

abbrev asks : RingIs → ℕ → RingIs
asks r n = with_node r n (with_status (ring_node r n) Asking)

abbrev comes : RingIs → ℕ → RingIs
comes r n = record {
  holder = n;
  sent = r.sent;
  nodes = set r.nodes n (with_status (ring_node r n) In);
}

pub returns-then-is_here : goal.returns-then-is_here
returns-then-is_here c =
    let n = c.args.node in
    let r = bare_ring c.args.self.now in
    let k = c.requires.kept in
    let read = part _ _ _ _ _ n _ k c.requires.member c.index_mut-part.ensures.value in
    let held : is_held r ≡ true =
    sym (c.is_here.ensures.node ∙ ap (λ l. is_here (part_of l r.holder)) c.deref.ensures.value)
    ∙ c.if-is_here.true in
    record {
      net = refl;
      behind = kept-call _ _ r _ _ _ _ _ (Join n) k (c.requires.member, c.requires.free)
          (ap (λ (p : NodeIs). with_node r n p)
          (c.set_status.ensures ∙ ap (λ (p : NodeIs). with_status p Asking) read)
          ∙ sym (ap (λ (b : Bool). cond b (asks r n) (comes r n)) held)) refl refl;
    }

pub returns-else-is_here : goal.returns-else-is_here
returns-else-is_here c =
    let n = c.args.node in
    let r = bare_ring c.args.self.now in
    let k = c.requires.kept in
    let read = part _ _ _ _ _ n _ k c.requires.member c.index_mut-part-else-is_here.ensures.value in
    let free : is_held r ≡ false =
    sym (c.is_here.ensures.node ∙ ap (λ l. is_here (part_of l r.holder)) c.deref.ensures.value)
    ∙ c.if-is_here.false in
    let node = c.set_status-else-is_here.ensures ∙ ap (λ (p : NodeIs). with_status p In) read in
    record {
      net = refl;
      behind = kept-call _ _ r _ _ _ _ _ (Join n) k (c.requires.member, c.requires.free)
          ((λ i. record { holder = n; sent = r.sent; nodes = set r.nodes n (node i) })
          ∙ sym (ap (λ (b : Bool). cond b (asks r n) (comes r n)) free)) refl refl;
    }

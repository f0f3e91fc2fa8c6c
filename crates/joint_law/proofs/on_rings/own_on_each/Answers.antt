use Rattle.std.proofs.Common.{◌≡◌, [], ◌∷◌, ◌++◌, length, get_or, ap, subst, sym, ◌∙◌, arith}
use Rattle.std.proofs.lemmas.List.{length-append}
use Rattle.own_places.specs.Places.{ArePlaces}
use Rattle.joint_law.proofs.OwnRings.{places-more}
use Rattle.joint_law.proofs.on_rings.own_on_each.Goals as goal

pub loop-ring-preserved : goal.loop-ring-preserved
loop-ring-preserved c =
    let before = c.loop-ring.own.items in
    let new = c.in_ok-of.field-0 in
    let pushed : c.push.new.self.items ≡ before ++ new ∷ [] = c.in_ok-push.ensures.items in
    let found = subst (λ l. ArePlaces l new) c.as_slice.ensures c.in_ok-of.ensures in
    record {
      count =
          let size = length-append before (new ∷ []) in
          let count = c.loop-ring.invariant.count in
          ap length pushed ∙ (omega (arith, size, count));
      each = λ k d below.
          subst (λ own. ArePlaces (get_or c.args.rings.now k d).entries (get_or own k []))
          (sym pushed)
          (places-more c.args.rings.now before c.loop-ring.ring-index c.ring-item.result new
          c.loop-ring.invariant.count (omega arith) c.ring-item.is c.loop-ring.invariant.each found
          k d below);
    }

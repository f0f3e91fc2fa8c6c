-- Reads one after another, and writes one after another.
use Rattle.std.proofs.Common.{ℕ, ◌+◌, List, ◌++◌, take, take-add, drop, Option, Some, None, ◌∙◌}
use Rattle.std.proofs.Common.{sym, ap, subst, append_assoc}
use Rattle.plant_io.specs.Streams.{Gave, Took}

-- what two reads gave went from the front, one after the other
pub Gave-then : (a b c : Option (List ℕ)) (xs ys : List ℕ) → Gave a b xs → Gave b c ys
    → Gave a c (xs ++ ys)
Gave-then None b c xs ys h k = subst (λ m. Gave m c ys) h k
Gave-then (Some old) b c xs ys h k =
    let next : Gave (Some h.0) c ys = subst (λ m. Gave m c ys) h.1 k in
    (next.0, next.1, h.2 ∙ ap (λ t. xs ++ t) next.2 ∙ sym (append_assoc xs ys next.0))

-- what two writes put stands behind what was there, one after the other
pub Took-then : (a b c : Option (List ℕ)) (xs ys : List ℕ) → Took a b xs → Took b c ys
    → Took a c (xs ++ ys)
Took-then None b c xs ys h k = subst (λ m. Took m c ys) h k
Took-then (Some old) b c xs ys h k =
    let next : Took (Some (old ++ xs)) c ys = subst (λ m. Took m c ys) h k in
    next ∙ ap Some (append_assoc old xs ys)

-- a text goes on where the front of it ended
pub Took-front : (a b c : Option (List ℕ)) (text : List ℕ) (done n : ℕ) → Took a b (take done text)
    → Took b c (take n (drop done text))
    → Took a c (take (done + n) text)
Took-front a b c text done n h k = subst (λ t. Took a c t) (sym (take-add done n text))
    (Took-then a b c (take done text) (take n (drop done text)) h k)

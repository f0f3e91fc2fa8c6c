use Rattle.std.proofs.Common.{◌≡◌, ℕ, ◌+◌, ◌-◌, Bool, true, false, take, drop, refl, sym, ap, ◌∙◌, arith}
use Rattle.std.specs.Prelude.{not}
use Rattle.std.specs.List.{list_any}
use Rattle.peer_cop.specs.Places.{first_place}
use Rattle.peer_cop.proofs.FlagLemmas.{free_from, free_none}
use Rattle.peer_cop.proofs.PlaceLemmas.{first_within}
use Rattle.peer_cop.proofs.flags.is_free.Goals as goal

pub overflow_add-first : goal.overflow_add-first
overflow_add-first c =
    let least = first_within c.args.wire c.requires.places in
    omega (arith, c.first_place-first.ensures, c.from.ensures)

pub slice_bounds-has_flag-end : goal.slice_bounds-has_flag-end
slice_bounds-has_flag-end c =
    let least = first_within c.args.wire c.requires.places in
    omega (arith, c.first_place-first.ensures, c.from.ensures, c.requires.size)

unset : (b : Bool) → not b ≡ true → b ≡ false
unset true h = cc
unset false h = refl

pub returns : goal.returns
returns c =
    let flags = c.args.flags.now in
    let wire = c.args.wire in
    let first = c.first_place-first.result in
    let size : first + c.from.result - first ≡ wire.count = omega (arith, c.from.ensures) in
    let part : c.has_flag.result
    ≡ list_any (λ flag. flag) (take wire.count (drop (first_place wire) flags)) =
    c.has_flag.ensures
    ∙ ap (λ (n : ℕ). list_any (λ flag. flag) (take n (drop first flags))) size
    ∙ ap (λ (n : ℕ). list_any (λ flag. flag) (take wire.count (drop n flags)))
    c.first_place-first.ensures in (
      λ is. free_from flags wire (sym part ∙ unset c.has_flag.result is),
      λ free. ap not (part ∙ free_none flags wire free),
    )

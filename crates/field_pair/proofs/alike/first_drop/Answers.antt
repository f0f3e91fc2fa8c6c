use Rattle.std.proofs.Common.{ℕ, Option, subst, sym}
use Rattle.field_pair.specs.Least.{IsFirstUnlike}
use Rattle.field_pair.proofs.Drops.{first-unlike}
use Rattle.field_pair.proofs.alike.first_drop.Goals as goal

pub returns : goal.returns
returns c =
    let old = c.args.old.now in
    let new = c.args.new.now in
    subst (λ (l : Option ℕ). IsFirstUnlike old new l) (sym c.lesser.ensures)
    (first-unlike old new c.in_ok-one.one c.in_ok-other.other c.in_ok-one.ensures
    c.in_ok-other.ensures)

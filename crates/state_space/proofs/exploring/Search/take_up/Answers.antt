use Rattle.std.proofs.Common.{◌++◌, List, ℕ, sym, refl, ap, ◌∙◌}
use Rattle.state_space.proofs.exploring.Search.take_up.Goals as goal

pub returns-clause-taken : goal.returns-clause-taken
returns-clause-taken c =
    record {
      entry = (c.in-Some.key.now, c.in-Some.link.now);
      is_there = sym c.in-Some.ensures.entry;
      key_is = c.in_ok-extend_from_slice.ensures.items
          ∙ (ap (λ (l : List ℕ). l ++ c.as_slice.result.now) c.clear.ensures.items
          ∙ c.as_slice.ensures.value);
      depth_is = refl;
    }

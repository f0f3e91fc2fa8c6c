use Rattle.route_laws.proofs.laws.effects_are_right.Goals as goal

pub returns : goal.returns
returns c plant scans joint is legal tied = record {
  at_most_once = c.ways_have_one_effect.ensures plant scans joint is legal tied;
  taken_on = c.requests_are_taken_on_once.ensures plant scans joint is legal tied;
  success = c.success_is_one_effect_on_way.ensures plant scans joint is legal tied;
  at_end = c.effects_are_at_their_end.ensures plant scans joint is legal tied;
  replies = c.finishes_have_results.ensures plant scans joint is legal tied;
  own = c.effects_are_own.ensures plant scans joint is legal tied;
  without_power = c.offs_have_no_effect.ensures plant scans joint is legal tied;
}

use Rattle.std.proofs.Common.{◌∙◌, ap, sym}
use Rattle.std.specs.List.{count_by}
use Rattle.panel_session.specs.Bench.{shown_of}
use Rattle.panel_session.specs.Serving.{takes_request}
use Rattle.panel_session.proofs.Counted.{counted}
use Rattle.panel_session.proofs.bench.Bench.of.Goals as goal

pub invariant_of-result : goal.invariant_of-result
invariant_of-result c = record {
  shown_is = c.out_of.ensures ∙ ap shown_of c.requires.plan;
  between = c.requires.between;
  rests = c.requires.rests;
  served_is = c.requests_in-served.ensures
      ∙ ap (count_by takes_request) c.history.ensures.history
      ∙ sym (counted c.args.controller.history);
}

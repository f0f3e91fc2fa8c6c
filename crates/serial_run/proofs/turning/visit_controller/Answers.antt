use Rattle.std.proofs.Common.{Bool, refl, sym, subst, ◌∙◌}
use Rattle.serial_run.specs.Held.{VisitedWhere}
use Rattle.serial_run.proofs.turning.visit_controller.Goals as goal

pub returns : goal.returns
returns c =
    let s = c.args.station.now in
    let ring = c.args.ring.now in
    record {
      stays = record {
        node = refl;
        network = refl;
        worker = refl;
        fixed = refl;
        legal = c.history.ensures.legal;
        net = refl;
        ring_legal = c.history-2.ensures.legal;
        stands = c.requires.stands;
      };
      left = refl;
      visit = subst (λ (b : Bool). VisitedWhere b s s ring ring)
          (sym (sym c.is_visit_due.ensures ∙ c.if-is_visit_due.false)) (refl, refl);
      keeps = c.requires.keeps.keeps;
      status = refl;
      visited = sym c.is_visit_due.ensures ∙ c.if-is_visit_due.false;
    }

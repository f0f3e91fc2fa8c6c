use Rattle.std.proofs.Common.{◌≡◌, true, false, Bool, List, []}
use Rattle.std.proofs.Common.{refl, sym, ap, ◌∙◌, append-nil, ◌++◌}
use Rattle.ring_core.specs.declared.status.NodeStatus.{NodeStatus}
use Rattle.ring_core.specs.declared.status.NodeStatus.TheVariants.{In, Away, Asking, Gone}
use Rattle.ring_core.specs.declared.entry.RingEntry.{RingEntry}
use Rattle.controller_core.specs.Controller.{is_off}
use Rattle.tied_lists.specs.Waits.{status_at}
use Rattle.serial_run.specs.Held.{is_away, is_away_status}
use Rattle.serial_run.specs.Turns.{coming_back}
use Rattle.serial_run.proofs.turning.come_back.Goals as goal

-- who is not away does not come back
none-back : (status : NodeStatus) (off : Bool) (n : _) → is_away_status status ≡ false
    → coming_back status off n ≡ []
none-back In off n is = refl
none-back Away off n is = absurd (let no' : true ≡ false = is in cc)
none-back Asking off n is = refl
none-back Gone off n is = refl

pub make_away_turn-requires-clause-away : goal.make_away_turn-requires-clause-away
make_away_turn-requires-clause-away c =
    ap (is_away c.args.ring.now) (sym c.requires.node)
    ∙ (sym c.is_away.ensures ∙ c.if-is_away.true)

pub returns : goal.returns
returns c =
    let s = c.args.station.now in
    let ring = c.args.ring.now in
    let no' : is_away ring s.worker.node ≡ false =
    ap (is_away ring) (sym c.requires.node) ∙ (sym c.is_away.ensures ∙ c.if-is_away.false) in
    record {
      stays = record {
        node = refl;
        network = refl;
        worker = refl;
        fixed = refl;
        legal = c.history.ensures.legal;
        net = refl;
        ring_legal = c.history-2.ensures.legal;
        stands = c.requires.stands;
      };
      history = refl;
      came = sym (ap (λ (l : List RingEntry). ring.history ++ l)
          (none-back (status_at ring.net ring.history s.worker.node) (is_off s.controller)
          s.worker.node no') ∙ append-nil ring.history);
      left = c.requires.left;
      keeps = c.requires.keeps.keeps;
      off = λ away. absurd (let bad : true ≡ false = sym away ∙ (ap (is_away ring) c.requires.node
          ∙ no') in cc);
    }

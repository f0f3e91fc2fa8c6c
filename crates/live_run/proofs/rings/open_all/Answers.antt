use Rattle.std.proofs.Common.{◌≡◌, ◌++◌, ◌∷◌, [], List, Some, get_or, map, sym, ap, subst, ◌∙◌}
use Rattle.std.proofs.Common.{rules}
use Rattle.std.specs.List.{AllZip}
use Rattle.std.proofs.lemmas.List.{map-append, take_more}
use Rattle.live_run.specs.Closing.{IsOpened, net_of_gate}
use Rattle.live_run.specs.Homes.{Purse, RingGate}
use Rattle.live_run.proofs.Zipped.{zip-push}
use Rattle.live_run.proofs.rings.open_all.Goals as goal

pub loop-index-preserved : goal.loop-index-preserved
loop-index-preserved c =
    let l = c.loop-index in
    let nets = c.args.nets.now in
    let homes = l.rings.homes.items in
    let purses = l.rings.purses.items in
    let home = c.in-Ok.home in
    let pass = c.in-Ok.pass in
    let net = c.index-nets-index.result in
    let one = c.push_reserved.ensures.items in
    let two = c.push_reserved-in-Ok.ensures.items in
    let fixed : home.fixed ≡ get_or nets l.index net =
    c.in-Ok.ensures.fixed ∙ c.index-nets-index.is in
    let it : IsOpened home (Some pass) =
    record { unused = c.in-Ok.ensures.unused; kept = ap Some c.in-Ok.ensures.pass } in
    record {
      opened = subst (λ (hs : List RingGate).
          AllZip IsOpened hs c.push_reserved-in-Ok.new.self.items) (sym one)
          (subst (λ (ps : List Purse). AllZip IsOpened (homes ++ home ∷ []) ps) (sym two)
          (zip-push IsOpened homes purses home (Some pass) l.invariant.opened it));
      nets_are = ap (map net_of_gate) one ∙ (map-append net_of_gate homes (home ∷ [])
          ∙ ((λ i. l.invariant.nets_are i ++ fixed i ∷ [])
          ∙ sym (take_more nets l.index net c.loop-index-test.true)));
      filled = search rules;
      room = search rules;
    }

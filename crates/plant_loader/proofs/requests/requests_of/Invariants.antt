use Rattle.std.proofs.Common.{◌≡◌, ◌+◌, map, drop}
use Rattle.plant_tables.specs.InOrder.{with_front, each_from}
use Rattle.plant_loader.specs.Requests.{numbered_request, requests_of}
use Rattle.plant_loader.proofs.requests.requests_of.Given as goal

-- the requests so far, before those of the texts left
abbrev pub invariant-loop-text : goal.invariant-loop-text
invariant-loop-text l = record {
  read : with_front l.asks (each_from (numbered_request l.version l.node l.host) (l.number + 1)
      (map (λ t. t.now) (drop l.text-index l.texts)))
      ≡ requests_of l.version l.node l.host (map (λ t. t.now) l.texts);
  number : l.number ≡ l.text-index;
}

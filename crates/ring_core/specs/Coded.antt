-- The codes by which a proof tells two of a thing apart. This project's own.
use Rattle.std.specs.Prelude.{ℕ, List, refl}
use Rattle.std.specs.Coded.{Coded, code_by, coded×, coded_ℕ, coded_list}
use Rattle.std.specs.FinMap.{code}
use Rattle.ring_core.specs.Words.{Frame, NodeStatus, Path}
use Rattle.ring_core.specs.contracts.frame.Frame as frame
use Rattle.ring_core.specs.contracts.path.Path as path
use Rattle.ring_core.specs.contracts.status.NodeStatus as status
use Rattle.ring_core.specs.Machine.{NodeIs, AcceptedIs}

-- The numbers that a node has accepted, as a list of sources with their numbers.
abbrev pub coded_accepted : Coded AcceptedIs
coded_accepted = code (coded× coded_ℕ coded_ℕ) coded_ℕ

-- A node's part as pairs.
abbrev pub coded_node : Coded NodeIs
coded_node =
    code_by
    ((((NodeStatus × ℕ) × List Frame) × (ℕ × List Frame)) × ((ℕ × ℕ) × (List Path × AcceptedIs)))
    (coded×
    (coded× (coded× (coded× status.the_row.coded coded_ℕ) (coded_list frame.the_row.coded))
    (coded× coded_ℕ (coded_list frame.the_row.coded)))
    (coded× (coded× coded_ℕ coded_ℕ) (coded× (coded_list path.the_row.coded) coded_accepted)))
    (λ n. (
      (((n.status, n.down), n.outbox), (n.tries, n.inbox)),
      ((n.passes, n.done_run), (n.paths, n.accepted)),
    ))
    (λ p. record {
      status = p.0.0.0.0;
      down = p.0.0.0.1;
      outbox = p.0.0.1;
      tries = p.0.1.0;
      inbox = p.0.1.1;
      passes = p.1.0.0;
      done_run = p.1.0.1;
      paths = p.1.1.0;
      accepted = p.1.1.1;
    })
    (λ _. refl)

-- How many requests a history has taken.
use Rattle.std.proofs.Common.{◌≡◌, ◌+◌, List, ◌∷◌, length, Option, Some, None, refl, arith}
use Rattle.std.specs.Prelude.{is_some, if◌then◌else◌}
use Rattle.std.specs.List.{cons_option, count_by}
use Rattle.std.proofs.lemmas.List.Recursion.{is_count_by}
use Rattle.controller_core.specs.declared.entry.Entry.{Entry}
use Rattle.panel_session.specs.Serving.{NamedRequest, request_count, request_taken, requests_taken}
use Rattle.panel_session.specs.Serving.{takes_request}

-- They are as many as the entries that take one.
pub counted : (history : List Entry) → request_count history ≡ count_by takes_request history
counted history = is_count_by request_count takes_request refl one history
  where
    by : (taken : Option NamedRequest) (rest : List NamedRequest)
        → length (cons_option taken rest)
        ≡ (if is_some taken then 1 + length rest else length rest)
    by None rest = refl
    by (Some first) rest = omega arith

    one : (entry : Entry) (rest : List Entry) → request_count (entry ∷ rest)
        ≡ (if takes_request entry then 1 + request_count rest else request_count rest)
    one entry rest = by (request_taken entry) (requests_taken rest)

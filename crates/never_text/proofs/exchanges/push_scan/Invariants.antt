use Rattle.std.proofs.Common.{◌≡◌, ◌++◌, drop, string_bytes}
use Rattle.std.specs.List.{flat_map}
use Rattle.never_text.specs.Texts.{exchange_line}
use Rattle.never_text.proofs.exchanges.push_scan.Given as goal

abbrev pub invariant-loop-exchange : goal.invariant-loop-exchange
invariant-loop-exchange l =
    string_bytes l.text ++ flat_map (exchange_line l.scan) (drop l.exchange-index l.exchanges)
    ≡ string_bytes l.fn.text ++ flat_map (exchange_line l.scan) l.exchanges

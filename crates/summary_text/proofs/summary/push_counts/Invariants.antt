use Rattle.std.proofs.Common.{◌≡◌, ◌++◌, drop, map, string_bytes}
use Rattle.std.specs.List.{flat_map}
use Rattle.summary_text.specs.Summary.{count_line}
use Rattle.summary_text.proofs.summary.push_counts.Given as goal

abbrev pub invariant-loop-name : goal.invariant-loop-name
invariant-loop-name l =
    string_bytes l.text
    ++ flat_map count_line (map (λ count. (count.0.now, count.1)) (drop l.name-index l.counts))
    ≡ string_bytes l.fn.text ++ flat_map count_line (map (λ count. (count.0.now, count.1)) l.counts)

use Rattle.std.proofs.Common.{◌++◌, List, append_assoc, ap, sym, string_bytes, ◌∙◌, ℕ}
use Rattle.std.specs.Fmt.{decimal}
use Rattle.std.specs.List.{flat_map}
use Rattle.journal_lines.specs.Fields.{behind_point}
use Rattle.journal_lines.proofs.JoinedParts.{joined_parts}
use Rattle.journal_lines.proofs.fields.push_way.Goals as goal

pub returns : goal.returns
returns c =
    let old = string_bytes c.args.text.now in
    c.in_ok-push_behind.ensures
    ∙ ap (λ (t : List ℕ). t ++ flat_map behind_point c.addresses.result.now)
    c.in_ok-write.ensures.bytes
    ∙ append_assoc old (decimal c.args.to) (flat_map behind_point c.addresses.result.now)
    ∙ ap (λ (t : List ℕ). old ++ (decimal c.args.to ++ flat_map behind_point t))
    c.addresses.ensures.addresses
    ∙ ap (λ (t : List ℕ). old ++ t) (sym (joined_parts decimal 46 c.args.to c.args.rest))

use Rattle.std.proofs.Common.{◌+◌, ◌++◌, ◌∙◌, sym, ap, append-nil, string_bytes}
use Rattle.panel_text.specs.Hosts.{ask_line, entry_lines, result_in}
use Rattle.panel_text.proofs.hosts.push_entry.Goals as goal

pub returns-in_ok-push_ask-in-Ask-clause-text : goal.returns-in_ok-push_ask-in-Ask-clause-text
returns-in_ok-push_ask-in-Ask-clause-text c =
    let old = string_bytes c.args.text.now in
    let node = c.args.node in
    let number = c.args.number in
    let behind = c.args.behind.now in
    c.in_ok-push_ask-in-Ask.ensures
    ∙ ap (λ result. old ++ ask_line node (number + 1) result) c.result_in.ensures
    ∙ ap (λ line. old ++ line)
    (sym (append-nil (ask_line node (number + 1) (result_in behind c.in-Ask.id))))
    ∙ ap (λ entry. old ++ entry_lines node number behind entry) (sym c.in-Ask.is)

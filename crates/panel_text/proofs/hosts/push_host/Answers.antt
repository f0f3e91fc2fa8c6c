use Rattle.std.proofs.Common.{◌++◌, refl, arith, string_bytes}
use Rattle.panel_text.specs.Hosts.{host_lines}
use Rattle.panel_text.proofs.HostLemmas.{few_requests, HasNewNames, host_step}
use Rattle.panel_text.proofs.hosts.push_host.Goals as goal

pub loop-at-preserved : goal.loop-at-preserved
loop-at-preserved c =
    let entries = c.args.entries.now in
    let entry = c.index-entries-at.result in
    let legal = c.requires in
    let new : HasNewNames entries = λ before rest id to pdu parts.
    c.asks_have_new_names.ensures legal.0 entries before rest id to pdu legal.1 parts in
    record {
      within = omega (arith, few_requests entry, c.in_ok-number.ensures.number);
      text =
          host_step c.args.node c.loop-at.number c.loop-at.at c.in_ok-number.number entries _ entry
          (string_bytes c.loop-at.text)
          (string_bytes c.push_entry.new.text)
          (string_bytes c.args.text.now ++ host_lines c.args.node entries) (omega arith)
          c.index-entries-at.is refl new c.in_ok-number.ensures.number c.loop-at.invariant.text
          c.in_ok-number.ensures.text;
    }

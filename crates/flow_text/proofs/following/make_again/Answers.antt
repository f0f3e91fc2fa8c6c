use Rattle.std.proofs.Common.{◌≡◌, refl, sym, ◌∙◌, arith}
use Rattle.controller_core.specs.Controller.{state_of}
use Rattle.flow_text.specs.Window.{texts_of}
use Rattle.flow_text.proofs.Telling.{told_again}
use Rattle.flow_text.proofs.following.make_again.Goals.{in_default-via-in-Solve+else-has}
use Rattle.flow_text.proofs.following.make_again.Goals.{in_default-via-in_default}
use Rattle.flow_text.proofs.following.make_again.Goals as goal

pub returns-in_ok-follow-in_default-clause-told : goal.returns-in_ok-follow-in_default-clause-told
returns-in_ok-follow-in_default-clause-told c =
    let v = c.args.controller.now in
    let window = c.args.window.now in
    let scan : c.from-scan.result ≡ (state_of v).gone =
    c.from-scan.ensures ∙ c.scans_gone.ensures in
    record {
      first = refl;
      texts = sym (told_again c.args.node v.fixed (state_of v) c.args.entry.now window.first
          (texts_of window) (λ row same from to. elim c.in_default.branch [
            | in_default-via-in-Solve+else-has w ↦
                let there = w.if-has.ensures.1
                (omega (arith, from, scan), omega (arith, to, scan)) in
                absurd cc
            | in_default-via-in_default w ↦ w.in_default.not-Solve row same
          ]));
    }

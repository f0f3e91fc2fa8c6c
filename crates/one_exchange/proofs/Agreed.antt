-- A legal list of a fixed part is one of each fixed part that agrees on it.
use Rattle.std.proofs.Common.{◌≡◌, ℕ, List, [], ◌∷◌, ◌++◌, refl, sym, ap, subst, ◌∙◌}
use Rattle.std.proofs.Common.{append_assoc}
use Rattle.std.specs.List.{flat_map, range_with_len}
use Rattle.std.proofs.lemmas.List.Sums.{fold-append}
use Rattle.scan_order.specs.declared.due.ScanStep.TheVariants as steps
use Rattle.controller_core.specs.declared.entry.Entry.{Entry}
use Rattle.controller_core.specs.declared.entry.Entry.TheVariants as entries
use Rattle.controller_core.specs.declared.fixed.Fixed.{Fixed}
use Rattle.controller_core.specs.Controller.{EachFits, Fits, IsLegal}
use Rattle.controller_core.specs.Event.{outputs_at}
use Rattle.controller_core.specs.Replay.{ControllerState, apply, replay, start}
use Rattle.controller_core.specs.Scans.{all_due}
use Rattle.fed_turns.specs.Agreeing.{AgreeOn}

-- Outputs that are the same have the same words
words-same : (row : ℕ) (a b : List ℕ) → entries.Output row a ≡ entries.Output row b → a ≡ b
words-same row a b same = cc

module _ (fixed other : Fixed) where
  -- an entry that fits the state fits it for the other too
  fits-same : (h : List Entry) (s : ControllerState) (e : Entry) → AgreeOn fixed other h
      → Fits fixed s e → Fits other s e
  fits-same h s entries.Begin a fits = fits
  fits-same h s (entries.Input row) a fits = fits
  fits-same h s (entries.Solve row) a fits = fits
  fits-same h s (entries.Output row words) a fits = (
    fits.0,
    fits.1 ∙ sym (words-same row (outputs_at other s row) (outputs_at fixed s row)
        (a.entries s (steps.Out row))),
  )
  fits-same h s entries.End a fits = fits
  fits-same h s entries.Fail a fits = fits
  fits-same h s entries.Dark a fits = fits
  fits-same h s (entries.Collect calls) a fits = fits
  fits-same h s (entries.Peer id request reply) a fits = fits
  fits-same h s (entries.Off id request) a fits = fits
  fits-same h s (entries.Finish id result) a fits = fits

  -- the state after one more entry
  after-one : (f : Fixed) (front : List Entry) (e : Entry)
      → replay f (front ++ e ∷ []) ≡ apply f (replay f front) e
  after-one f front e = fold-append (apply f) (start f.plan) front (e ∷ [])

  -- so do entries one after another
  each-same : (front list : List Entry) → AgreeOn fixed other (front ++ list)
      → EachFits fixed (replay fixed front) list → EachFits other (replay fixed front) list
  unfolding EachFits
  each-same front [] a each = tt
  each-same front (e ∷ list) a each =
      let longer = front ++ e ∷ [] in
      let whole = append_assoc front (e ∷ []) list in
      let next : replay fixed longer ≡ apply other (replay fixed front) e =
      sym (a.states longer (list, whole)) ∙ after-one other front e
      ∙ ap (λ (s : ControllerState). apply other s e) (a.states front (e ∷ list, refl)) in (
        fits-same (front ++ e ∷ list) (replay fixed front) e a each.0,
        subst (λ (s : ControllerState). EachFits other s list) next
            (each-same longer list (subst (AgreeOn fixed other) (sym whole) a)
            (subst (λ (s : ControllerState). EachFits fixed s list) (sym (after-one fixed front e))
            each.1)),
      )

  -- the same is due in all scans
  due-same : (h : List Entry) → AgreeOn fixed other h → all_due other ≡ all_due fixed
  due-same h a = λ i. flat_map (λ n. a.steps n i) (range_with_len 1 (a.scans i))

  -- a list that is legal for one is legal for the other
  pub legal-same : (h : List Entry) → AgreeOn fixed other h → IsLegal fixed h → IsLegal other h
  legal-same h a legal = record {
    each = subst (λ (s : ControllerState). EachFits other s h) (sym (a.states [] (h, refl)))
        (each-same [] h a legal.each);
    due = (legal.due.0, legal.due.1 ∙ sym (due-same h a));
  }

-- A whole scan, and a step, of fixed parts that agree on what it leaves.
use Rattle.std.proofs.Common.{◌≡◌, ◌+◌, Bool, true, false, List, [], ◌∷◌, ◌++◌, Option, Some}
use Rattle.std.proofs.Common.{None, refl, sym, ap, subst, ◌∙◌, append_assoc}
use Rattle.std.specs.Prelude.{◌==◌, if◌then◌else◌}
use Rattle.std.proofs.lemmas.List.Sums.{fold-append}
use Rattle.scan_order.specs.declared.due.ScanStep.{ScanStep}
use Rattle.scan_order.specs.Due.{due}
use Rattle.controller_core.specs.declared.entry.Entry.{Entry}
use Rattle.controller_core.specs.declared.fixed.Fixed.{Fixed}
use Rattle.controller_core.specs.Controller.{due_step, made, stepped}
use Rattle.controller_core.specs.Event.{entry_of}
use Rattle.controller_core.specs.Replay.{ControllerState, apply, replay, start}
use Rattle.controller_core.specs.Run.{entries_from}
use Rattle.joint_history.specs.Reading.{controller_at, has_ended_at}
use Rattle.fed_turns.specs.Agreeing.{AgreeOn}
use Rattle.fed_turns.specs.Laws.{ScansAgree}
use Rattle.fed_turns.proofs.Agreements.{agree-front, due-same, ended-same, state-same}

module _ (fixed other : Fixed) where
  -- the state after one more entry
  after-one : (f : Fixed) (front : List Entry) (e : Entry)
      → replay f (front ++ e ∷ []) ≡ apply f (replay f front) e
  after-one f front e = fold-append (apply f) (start f.plan) front (e ∷ [])

  abbrev entries_on : Fixed → List Entry → List ScanStep → List Entry
  entries_on f front rest = entries_from f (replay fixed front) rest

  applied : (front : List Entry) (e : Entry) (more : List Entry)
      → AgreeOn fixed other (front ++ e ∷ more)
      → apply other (replay fixed front) e ≡ apply fixed (replay fixed front) e
  applied front e more a =
      ap (λ (s : ControllerState). apply other s e) (sym (a.states front (e ∷ more, refl)))
      ∙ sym (after-one other front e)
      ∙ a.states (front ++ e ∷ []) (more, append_assoc front (e ∷ []) more)
      ∙ after-one fixed front e

  abbrev AreSame : List ScanStep → List Entry → Type 0
  AreSame rest front = AgreeOn fixed other (front ++ entries_on fixed front rest)
      → entries_on other front rest ≡ entries_on fixed front rest

  abbrev entry_on : List Entry → ScanStep → Entry
  entry_on front step = entry_of fixed (replay fixed front) step

  abbrev entries_if : Fixed → Bool → ControllerState → Entry → List ScanStep → List Entry
  entries_if f b s e rest = if b then e ∷ entries_from f (apply f s e) rest else []

  more-same : (b : Bool) (step : ScanStep) (rest : List ScanStep) (front : List Entry)
      → ((longer : List Entry) → AreSame rest longer)
      → AgreeOn fixed other (front
      ++ entries_if fixed b (replay fixed front) (entry_on front step) rest)
      → entries_if other b (replay fixed front) (entry_of other (replay fixed front) step) rest
      ≡ entries_if fixed b (replay fixed front) (entry_on front step) rest
  more-same false step rest front again a = refl
  more-same true step rest front again a =
      let s = replay fixed front in
      let e = entry_on front step in
      let more = entries_from fixed (apply fixed s e) rest in
      let same = a.entries s step in
      let next = applied front e more a in
      let one = after-one fixed front e in
      let later : AgreeOn fixed other ((front ++ e ∷ []) ++ entries_on fixed (front ++ e ∷ [])
      rest) =
      subst (AgreeOn fixed other) (sym (append_assoc front (e ∷ []) more)
      ∙ ap (λ (t : ControllerState). (front ++ e ∷ []) ++ entries_from fixed t rest) (sym one)) a
      in
      (λ i. same i ∷ entries_from other (apply other s (same i)) rest)
      ∙ ap (λ (t : ControllerState). e ∷ entries_from other t rest) (next ∙ sym one)
      ∙ ap (λ (l : List Entry). e ∷ l) (again (front ++ e ∷ []) later)
      ∙ ap (λ (t : ControllerState). e ∷ entries_from fixed t rest) one

  entries-same : (rest : List ScanStep) (front : List Entry) → AreSame rest front
  unfolding entries_from
  entries-same [] front a = refl
  entries-same (step ∷ rest) front a = more-same ((replay fixed front).stop == 0) step rest front
      (λ longer. entries-same rest longer) a

  abbrev scanned_if : Fixed → Bool → List Entry → List Entry
  scanned_if f b h = if b then h
      else h ++ entries_from f (replay f h) (due f.plan ((replay f h).gone + 1))

  scan-from : (b : Bool) (h : List Entry) → AgreeOn fixed other (scanned_if fixed b h)
      → AgreeOn fixed other h
  scan-from true h a = a
  scan-from false h a = agree-front fixed other h (scanned_if fixed false h)
      (entries_from fixed (replay fixed h) (due fixed.plan ((replay fixed h).gone + 1)), refl) a

  scan-by : (b : Bool) (h : List Entry) → AgreeOn fixed other (scanned_if fixed b h)
      → scanned_if other b h ≡ scanned_if fixed b h
  scan-by true h a = refl
  scan-by false h a =
      let low = scan-from false h a in
      let state = state-same fixed other h low in
      (λ i. h ++ entries_from other (state i) (low.steps ((state i).gone + 1) i))
      ∙ ap (λ (l : List Entry). h ++ l)
      (entries-same (due fixed.plan ((replay fixed h).gone + 1)) h a)

  -- a step of fixed parts that agree before it
  stepped-by : (h : List Entry) (o : Option ScanStep)
      → AgreeOn fixed other h
      → (made (controller_at other h) o).history ≡ (made (controller_at fixed h) o).history
  stepped-by h None a = refl
  stepped-by h (Some step) a =
      let state = state-same fixed other h a in
      (λ i. h ++ entry_of other (state i) step ∷ [])
      ∙ ap (λ (e : Entry). h ++ e ∷ []) (a.entries (replay fixed h) step)

  pub step-same : (h : List Entry) → AgreeOn fixed other h
      → (stepped (controller_at other h)).history ≡ (stepped (controller_at fixed h)).history
  step-same h a =
      ap (λ (o : Option ScanStep). (made (controller_at other h) o).history)
      (due-same fixed other h a)
      ∙ stepped-by h (due_step (controller_at fixed h)) a

pub scans : ScansAgree
scans fixed other h a =
    let low = scan-from fixed other (has_ended_at fixed h) h a in
    ap (λ (b : Bool). scanned_if fixed other other b h) (ended-same fixed other h low)
    ∙ scan-by fixed other (has_ended_at fixed h) h a

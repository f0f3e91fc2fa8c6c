-- A legal log that is made again, event by event.
use Rattle.std.proofs.Common.{◌≡◌, ◌<◌, ℕ, ◌+◌, List, [], ◌∷◌, ◌++◌, length, get_or, take, drop}
use Rattle.std.proofs.Common.{sym, ap, subst, ◌∙◌}
use Rattle.std.proofs.lemmas.List.{take-append-drop, take_more}
use Rattle.controller_core.specs.declared.entry.Entry.{Entry}
use Rattle.controller_core.specs.declared.fixed.Fixed.{Fixed}
use Rattle.controller_core.specs.Controller.{ControllerIs, IsLegal}
use Rattle.controller_core.specs.Following.{MayFollow}
use Rattle.controller_core.specs.Laws.{FrontsAreLegal}

-- one event more of the log
pub one_more_entry : (log : List Entry) (at : ℕ) (entry : Entry) → at < length log
    → entry ≡ get_or log at entry → take (at + 1) log ≡ take at log ++ entry ∷ []
one_more_entry log at entry within is =
    take_more log at entry within ∙ ap (λ e. take at log ++ e ∷ []) (sym is)

-- the event behind the first so many of a legal log may come next
pub entry_may_follow : FrontsAreLegal → (v : ControllerIs) (fixed : Fixed) (log : List Entry)
    (at : ℕ) (entry : Entry) → take (at + 1) log ≡ take at log ++ entry ∷ []
    → IsLegal fixed log → v.fixed ≡ fixed → v.history ≡ take at log → MayFollow v entry
entry_may_follow fronts v fixed log at entry more legal same history =
    let P : Fixed → List Entry → Type 0 = λ f h. IsLegal f h in
    let front : take (at + 1) log ≡ v.history ++ entry ∷ [] =
    more ∙ ap (λ h. h ++ entry ∷ []) (sym history) in
    let whole : IsLegal fixed (take (at + 1) log ++ drop (at + 1) log) =
    subst (P fixed) (sym (take-append-drop (at + 1) log)) legal in
    subst (λ (f : Fixed). P f (v.history ++ entry ∷ [])) (sym same)
    (subst (P fixed) front (fronts fixed (take (at + 1) log) (drop (at + 1) log) whole))

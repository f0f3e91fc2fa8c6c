use Rattle.std.proofs.Common.{Option, List, ℕ, Bor, refl, subst}
use Rattle.std.proofs.lemmas.Bool.Decides.{Decides-eqb}
use Rattle.std.proofs.lemmas.Slice.Eq.{strip_prefix_is}
use Rattle.input_cuts.proofs.CutLemmas.{Strips, mark-alone, mark-line}
use Rattle.input_cuts.proofs.cutting.has_mark.Goals as goal

pub returns-in-Some-empty : goal.returns-in-Some-empty
returns-in-Some-empty c =
    let mark = c.args.mark.now in
    let back = c.args.back.now in
    let P : Option (Bor (List ℕ)) → Type 0 = Strips mark back in
    let line = subst P c.in-Some-empty.is
    (strip_prefix_is Decides-eqb back mark c.strip_prefix.result c.strip_prefix.ensures.cases) in
    let rest = c.in-Some-empty.field-0.now in (
      λ _. mark-alone mark back rest line c.in-Some-empty.len_below,
      λ _. refl,
    )

pub returns-in-Some-len1-up : goal.returns-in-Some-len1-up
returns-in-Some-len1-up c =
    let mark = c.args.mark.now in
    let back = c.args.back.now in
    let P : Option (Bor (List ℕ)) → Type 0 = Strips mark back in
    let line = subst P c.in-Some-len1-up.is
    (strip_prefix_is Decides-eqb back mark c.strip_prefix.result c.strip_prefix.ensures.cases) in
    mark-line mark back c.in-Some-len1-up.field-0.now line c.in-Some-len1-up.len_at_least

pub returns-in-None : goal.returns-in-None
returns-in-None c =
    let mark = c.args.mark.now in
    let back = c.args.back.now in
    let P : Option (Bor (List ℕ)) → Type 0 = Strips mark back in
    let none = subst P c.in-None.is
    (strip_prefix_is Decides-eqb back mark c.strip_prefix.result c.strip_prefix.ensures.cases) in (
      λ is. cc,
      λ has. absurd (none has.rest has.line),
    )

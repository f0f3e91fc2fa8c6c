use Rattle.std.proofs.Common.{◌≡◌, ap, sym, ◌∙◌, None, Some, is_some, unwrap_or}
use Rattle.std.specs.FinMap.{get}
use Rattle.std.specs.Option.{option_copied}
use Rattle.global_data.specs.Book.{no_words}
use Rattle.global_data.proofs.Changes.{words-read}
use Rattle.global_data.proofs.book.GlobalBook.get.Goals as goal

pub returns-in-None-clause-none : goal.returns-in-None-clause-none
returns-in-None-clause-none c = λ _.
    let read : None ≡ get c.args.self.now c.args.node = ap option_copied (sym c.in-None.is)
    ∙ c.get.ensures.value ∙ words-read _ _ _ c.self.view_is in
    sym (ap (λ o. (unwrap_or o no_words).heard) read)

pub returns-in-None-clause-member : goal.returns-in-None-clause-member
returns-in-None-clause-member c =
    let read : None ≡ get c.args.self.now c.args.node = ap option_copied (sym c.in-None.is)
    ∙ c.get.ensures.value ∙ words-read _ _ _ c.self.view_is in
    ap is_some read

pub returns-in-Some-clause-words : goal.returns-in-Some-clause-words
returns-in-Some-clause-words c =
    let read : Some c.in-Some.own.now ≡ get c.args.self.now c.args.node =
    ap option_copied (sym c.in-Some.is) ∙ c.get.ensures.value
    ∙ words-read _ _ _ c.self.view_is in
    c.heard.ensures.words ∙ ap (λ o. (unwrap_or o no_words).heard) read

pub returns-in-Some-clause-member : goal.returns-in-Some-clause-member
returns-in-Some-clause-member c =
    let read : Some c.in-Some.own.now ≡ get c.args.self.now c.args.node =
    ap option_copied (sym c.in-Some.is) ∙ c.get.ensures.value
    ∙ words-read _ _ _ c.self.view_is in
    ap is_some read

use Rattle.std.proofs.Common.{◌≡◌, ap, sym, ◌∙◌, None, Some, rules, nat_cmp}
use Rattle.std.specs.FinMap.{get, from_entries}
use Rattle.std.specs.Option.{option_copied_mut}
use Rattle.global_data.proofs.Changes.{words-read, no_member, put-written}
use Rattle.global_data.proofs.book.GlobalBook.put.Goals as goal
use Rattle.global_data.proofs.book.GlobalBook.put.Goals.{in-Some, in_default}

pub returns : goal.returns
returns c =
    let es = c.self.inside.words.entries in
    let book = c.args.self.now in
    let node = c.args.node in
    let read = c.get_mut.ensures.value ∙ words-read es book node c.self.view_is in
    elim c.match-get_mut.branch [
      | in-Some w ↦
          let new = w.put.new.self in
          let got : Some w.in-Some.own.now ≡ get book node =
          ap option_copied_mut (sym w.in-Some.is) ∙ read in
          ap (λ f. from_entries {R = nat_cmp} f.words.entries) w.self-inside-is
          ∙ put-written es (c.get_mut.follows.lender new).entries book node c.args.words.now
          w.in-Some.own.now new
          c.self.view_is (sym got) w.put.ensures
          ((c.get_mut.follows.holds new).3 (search rules)).0
      | in_default w ↦
          let none : None ≡ get book node = ap option_copied_mut (sym w.in_default.is) ∙ read in
          absurd (no_member book node c.requires.member (sym none))
    ]

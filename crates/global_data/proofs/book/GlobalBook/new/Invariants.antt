use Rattle.std.proofs.Common.{◌≡◌, drop}
use Rattle.std.specs.FinMap.{from_entries}
use Rattle.global_data.specs.Book.{new_book}
use Rattle.global_data.proofs.Members.{joined}
use Rattle.global_data.proofs.book.GlobalBook.new.Given as goal

abbrev pub invariant-loop-member : goal.invariant-loop-member
invariant-loop-member l =
    joined (from_entries l.words.entries) (drop l.member-index l.members) ≡ new_book l.members

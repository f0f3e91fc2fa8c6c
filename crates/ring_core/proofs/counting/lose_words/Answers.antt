use Rattle.std.proofs.Common.{◌≡◌, true, sym, subst}
use Rattle.std.specs.FinMap.{contains_key}
use Rattle.global_data.specs.Book.{Book}
use Rattle.ring_core.proofs.Books.{stays_in}
use Rattle.ring_core.proofs.counting.lose_words.Goals as goal

pub heard-requires : goal.heard-requires
heard-requires c = record {
  member = subst (λ (b : Book). contains_key b c.args.node ≡ true) (sym c.put.ensures)
      (stays_in c.args.book.now c.args.node c.args.node _ c.requires);
}

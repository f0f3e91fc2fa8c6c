use Rattle.std.proofs.Common.{◌≡◌, ◌∙◌, List, ℕ, Vec, Global, ap, arith, subst, get_or}
use Rattle.state_space.specs.Reaching.{Reaches}
use Rattle.field_pair.specs.Pair.{pair_leads, pair_starts}
use Rattle.field_pair.proofs.Scanned.{move-below, reaches-more}
use Rattle.field_pair.proofs.Sets.{take-whole}
use Rattle.field_pair.proofs.pair.Pair.go.Goals as goal

pub loop-by-preserved : goal.loop-by-preserved
loop-by-preserved c =
    let pair = c.args.self.now in
    let path = c.args.path.now in
    let i = c.loop-by.by-index in
    let from : c.as_slice.result.now ≡ c.loop-by.key.items =
    c.as_slice.ensures.value ∙ ap (λ (v : Vec ℕ Global). v.items) c.swap.ensures.x_after in
    record {
      fits = c.in_ok-next.ensures.fits;
      reached = reaches-more (pair_starts pair) pair.moves (pair_leads pair) path
          c.loop-by.key.items c.next.new.key.items i c.loop-by-test.true
          c.loop-by.invariant.reached
          (move-below pair.moves path i c.requires.moves c.loop-by-test.true)
          (subst (λ (k : List ℕ). pair_leads pair k (get_or path i 0) c.next.new.key.items) from
          c.in_ok-next.ensures.key);
    }

pub returns-clause-key : goal.returns-clause-key
returns-clause-key c =
    let pair = c.args.self.now in
    let path = c.args.path.now in
    let over = c.loop-by-test.false in
    subst (λ (l : List ℕ). Reaches (pair_starts pair) pair.moves (pair_leads pair) l
    c.loop-by.key.items) (take-whole path c.loop-by.by-index (omega (arith, over)))
    c.loop-by.invariant.reached

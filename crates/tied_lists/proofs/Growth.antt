-- Lists that go on by calls of ours.
use Rattle.std.proofs.Common.{◌≡◌, Bool, List, [], ◌∷◌, ◌++◌, filter, refl, sym, ap, ◌∙◌}
use Rattle.std.proofs.Common.{append_assoc, append-nil}
use Rattle.std.proofs.lemmas.List.Elements.{filter-append}
use Rattle.std.specs.List.{AllByRecursion}
use Rattle.tied_lists.specs.Own.{WentOn, Grew, Adds}

pub grew-one : {E : Type 0} (alone : Bool) (ours : E → Bool) (before added after' : List E)
    → filter ours added ≡ added → WentOn
    alone ours before added after' → Grew alone ours before added after'
grew-one alone ours before added after' mine w = record {
  more = w.between ++ added;
  after_is = w.after_is ∙ append_assoc before w.between added;
  ours_are = filter-append ours w.between added
      ∙ (ap (λ l. l ++ filter ours added) w.others ∙ mine);
  all_alone = λ is. ap (λ l. l ++ added) (w.none_alone is);
}

pub grew-more : {E : Type 0} (alone : Bool) (ours : E → Bool) (first middle last one two : List E)
    → Grew alone ours first one
    middle → Grew alone ours middle two last → Grew alone ours first (one ++ two) last
grew-more alone ours first middle last one two a b = record {
  more = a.more ++ b.more;
  after_is = b.after_is ∙ (ap (λ l. l ++ b.more) a.after_is ∙ append_assoc first a.more b.more);
  ours_are = filter-append ours a.more b.more ∙ (λ i. a.ours_are i ++ b.ours_are i);
  all_alone = λ is. (λ i. a.all_alone is i ++ b.all_alone is i);
}

pub grew-ours : {E : Type 0} (alone : Bool) (ours : E → Bool) (before added after' : List E)
    → Grew alone ours before added after'
    → filter ours after' ≡ filter ours before ++ added
grew-ours alone ours before added after' g = ap (filter ours) g.after_is
    ∙ (filter-append ours before g.more ∙ ap (λ l. filter ours before ++ l) g.ours_are)

-- entries of one sort
pub adds_none : {E : Type 0} (alone : Bool) (ours : E → Bool) (Sort : E → Type 0) (xs : List E)
    → Adds alone ours Sort xs xs
adds_none alone ours Sort xs = record {
  added = [];
  sort = tt;
  grew = record {
    more = [];
    after_is = sym (append-nil xs);
    ours_are
        = refl;
    all_alone = λ is. refl;
  };
}

pub adds-went : {E : Type 0} (alone : Bool) (ours : E → Bool) (Sort : E → Type 0)
    (before added after' : List E) → AllByRecursion
    Sort added → filter ours added ≡ added → WentOn alone ours before added after'
    → Adds alone ours Sort before after'
adds-went alone ours Sort before added after' sorts mine w =
    record { added = added; sort = sorts; grew = grew-one alone ours before added after' mine w }

pub adds-grew : {E : Type 0} (alone : Bool) (ours : E → Bool) (Sort : E → Type 0)
    (before added after' : List E) → AllByRecursion
    Sort added → Grew alone ours before added after' → Adds alone ours Sort before after'
adds-grew alone ours Sort before added after' sorts g =
    record { added = added; sort = sorts; grew = g }

each-append : {E : Type 0} (Sort : E → Type 0) (xs ys : List E) → AllByRecursion Sort xs
    → AllByRecursion Sort ys → AllByRecursion Sort (xs ++ ys)
each-append Sort [] ys a b = b
each-append Sort (x ∷ xs) ys a b = (a.0, each-append Sort xs ys a.1 b)

pub adds-both : {E : Type 0} (alone : Bool) (ours : E → Bool) (Sort : E → Type 0)
    (first middle last : List E) → Adds alone ours
    Sort first middle → Adds alone ours Sort middle last → Adds alone ours Sort first last
adds-both alone ours Sort first middle last a b = record {
  added = a.added ++ b.added;
  sort = each-append Sort a.added b.added a.sort b.sort;
  grew = grew-more alone ours first middle last a.added b.added a.grew b.grew;
}

each-weaker : {E : Type 0} (Sort Sort' : E → Type 0) → ((x : E) → Sort x → Sort' x) → (xs : List E)
    → AllByRecursion Sort xs → AllByRecursion Sort' xs
each-weaker Sort Sort' f [] a = tt
each-weaker Sort Sort' f (x ∷ xs) a = (f x a.0, each-weaker Sort Sort' f xs a.1)

pub adds-weaker : {E : Type 0} (alone : Bool) (ours : E → Bool) (Sort Sort' : E → Type 0)
    (before after' : List E) → ((x : E) → Sort x → Sort' x) → Adds alone ours Sort before after'
    → Adds alone ours Sort' before after'
adds-weaker alone ours Sort Sort' before after' f a =
    record { added = a.added; sort = each-weaker Sort Sort' f a.added a.sort; grew = a.grew }

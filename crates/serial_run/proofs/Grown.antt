-- What a turn of one node leaves of all others.
use Rattle.std.proofs.Common.{◌≡◌, ◌≢◌, ℕ, ◌==◌, Bool, true, false, cond, List}
use Rattle.std.proofs.Common.{[], ◌∷◌, ◌++◌, filter, refl, sym, ap, ◌∙◌, append-nil}
use Rattle.std.proofs.Common.{append_assoc, ⊎_elim}
use Rattle.std.proofs.lemmas.Bool.{cases_Bool, eqb-true, ne_eqb}
use Rattle.std.proofs.lemmas.List.Elements.{filter-append}
use Rattle.plant_types.specs.declared.net.NetPlan.{NetPlan}
use Rattle.ring_core.specs.declared.entry.RingEntry.{RingEntry}
use Rattle.ring_core.specs.Words.{maker}
use Rattle.tied_lists.specs.Own.{is_of, own, Adds, Grew, WentOn}
use Rattle.tied_lists.specs.Waits.{status_at}
use Rattle.ring_core.specs.declared.status.NodeStatus.TheVariants.{Away}
use Rattle.bridge_station.proofs.TurnLaws.{away-others, left-others}
use Rattle.serial_run.specs.Turns.{node_has_left}

-- a list went on by entries of one maker alone
pub record Further {E : Type 0} (ours : E → Bool) (old new : List E) : Type 0 where
  pub more : List E
  pub is : new ≡ old ++ more
  pub mine : filter ours more ≡ more

pub further-none : {E : Type 0} (ours : E → Bool) (list : List E) → Further ours list list
further-none ours list = record { more = []; is = sym (append-nil list); mine = refl }

pub further-both : {E : Type 0} (ours : E → Bool) (a b c : List E) → Further ours a b
    → Further ours b c → Further ours a c
further-both ours a b c x y = record {
  more = x.more ++ y.more;
  is = y.is ∙ (ap (λ l. l ++ y.more) x.is ∙ append_assoc a x.more y.more);
  mine = filter-append ours x.more y.more ∙ (λ i. x.mine i ++ y.mine i);
}

pub further-grew : {E : Type 0} (ours : E → Bool) (added old new : List E)
    → Grew true ours old added new → Further ours old new
further-grew ours added old new g = record
    { more = g.more; is = g.after_is; mine = g.ours_are ∙ sym (g.all_alone refl) }

-- nobody else writes
pub further-went : {E : Type 0} (ours : E → Bool) (old new : List E) → WentOn true ours old [] new
    → Further ours old new
further-went ours old new w = record {
  more = w.between;
  is = w.after_is ∙ append-nil (old ++ w.between);
  mine = w.others ∙ sym (w.none_alone refl);
}

pub further-adds : {E : Type 0} (ours : E → Bool) (Sort : E → Type 0) (old new : List E)
    → Adds true ours Sort old new → Further ours old new
further-adds ours Sort old new a = further-grew ours a.added old new a.grew

-- entries of one node are none of another
none-of : (n m : ℕ) (es : List RingEntry) → m ≢ n → own m (own n es) ≡ []
none-of n m [] other = refl
none-of n m (e ∷ es) other = ⊎_elim
    (λ (is : (maker e == n) ≡ true).
    let not-m : (maker e == m) ≡ false = ne_eqb (maker e) m
    (λ h. other (sym h ∙ eqb-true (maker e) n is)) in
    ap (λ (b : Bool). own m (cond b (e ∷ own n es) (own n es))) is
    ∙ (ap (λ (b : Bool). cond b (e ∷ own m (own n es)) (own m (own n es))) not-m ∙ none-of n m es
    other))
    (λ (no' : (maker e == n) ≡ false). ap (λ (b : Bool). own m (cond b (e ∷ own n es) (own n es)))
    no' ∙ none-of n m es other)
    (cases_Bool (maker e == n))

pub others-none : (n m : ℕ) (old new : List RingEntry) → m ≢ n → (f : Further (is_of n) old new)
    → own m f.more ≡ []
others-none n m old new other f = ap (own m) (sym f.mine) ∙ none-of n m f.more other

pub others-own : (n m : ℕ) (old new : List RingEntry) → m ≢ n → Further (is_of n) old new
    → own m new ≡ own m old
others-own n m old new other f =
    ap (own m) f.is ∙ (filter-append (is_of m) old f.more
    ∙ (ap (λ l. own m old ++ l) (others-none n m old new other f) ∙ append-nil (own m old)))

pub others-left : (net : NetPlan) (n m : ℕ) (old new : List RingEntry) → m ≢ n
    → Further (is_of n) old new
    → node_has_left net new m ≡ node_has_left net old m
others-left net n m old new other f =
    ap (λ (l : List RingEntry). node_has_left net l m) f.is
    ∙ left-others net m old f.more (others-none n m old new other f)

-- who is away behind a turn of another was away before
pub others-away : (net : NetPlan) (n m : ℕ) (old new : List RingEntry) → m ≢ n
    → Further (is_of n) old new → status_at net new m ≡ Away → status_at net old m ≡ Away
others-away net n m old new other f away =
    away-others net m old f.more (others-none n m old new other f)
    (ap (λ (l : List RingEntry). status_at net l m) (sym f.is) ∙ away)

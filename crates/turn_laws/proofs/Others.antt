-- What comes between turns keeps what a controller's lists keep.
use Rattle.std.proofs.Common.{◌≡◌, true, false, List, [], ◌∷◌, ◌++◌, refl, sym, ap}
use Rattle.std.proofs.Common.{subst, ◌∙◌, append-nil, arith}
use Rattle.controller_core.specs.declared.entry.Entry.{Entry}
use Rattle.tied_lists.specs.Waits.{waiting}
use Rattle.ring_core.specs.declared.entry.LeaveCause.TheVariants.{Ended}
use Rattle.ring_core.specs.declared.entry.RingEntry.{RingEntry}
use Rattle.ring_core.specs.declared.entry.RingEntry.TheVariants.{Leave}
use Rattle.tied_lists.specs.Items.{Items, no_items}
use Rattle.tied_lists.specs.Own.{own}
use Rattle.tied_lists.proofs.Turns.{own-found}
use Rattle.joint_history.specs.Reading.{has_ended_at, items_of}
use Rattle.joint_history.proofs.Items.{ItemsWent, items-same}
use Rattle.joint_history.specs.Complete.{RepliesBeforePasses, StaysDone}
use Rattle.comm_port.specs.Waiting.{id_of}
use Rattle.std.specs.List.{Contains, filter_map}
use Rattle.mstr_block.specs.Table.{network_paths}
use Rattle.time_laws.specs.InTime.{StaysInTime}
use Rattle.time_laws.proofs.Turn.{others-in-time, starts-in-time}
use Rattle.turn_laws.specs.KeepsOn.{DidAtHome, EndedNoticed, IsDone, SaidDone}
use Rattle.turn_laws.specs.Laws.{OthersKeepOn, ScansKeepOn, StartsKeep}
use Rattle.turn_laws.proofs.Passes.{nil-cons, none-said}
use Rattle.turn_laws.proofs.Rests.{ended-alone}
use Rattle.turn_laws.proofs.Holders.{left-others}

-- a list without entries
pub no-replies : (items : Items) → RepliesBeforePasses items []
no-replies items [] after n done words is = nil-cons is
no-replies items (x ∷ before) after n done words is = nil-cons is

pub no-stays : StaysDone []
no-stays [] after n words is = nil-cons is
no-stays (x ∷ before) after n words is = nil-cons is

no-entry : (e : RingEntry) → Contains [] e → ⊥
no-entry e c = omega (arith, c.1)

pub starts : StartsKeep
starts fixed net n ring none = record {
  replied = subst (RepliesBeforePasses no_items) (sym none) (no-replies no_items);
  stays = subst StaysDone (sym none) no-stays;
  said = λ s. absurd (none-said (subst SaidDone none s));
  noticed = λ m c. absurd (no-entry (Leave m Ended) (subst
      (λ (l : List RingEntry). Contains l (Leave m Ended)) none c));
  at_home = λ id op out.
      let no' : Rattle.std.specs.Prelude.None ≡ Rattle.std.specs.Prelude.Some _ = out.made in cc;
  gone = λ is_so. absurd (let no' : false ≡ true = is_so in cc);
  timely = starts-in-time n ring none;
}

-- events of the scan
pub scans : ScansKeepOn
scans fixed net n entries more ring left legal none k = record {
  replied = subst (λ (items : Items). RepliesBeforePasses items (own n ring))
      (sym (later.items_are))
      k.replied;
  stays = k.stays;
  said = λ s. let done = k.said s in subst (IsDone fixed) (sym (same done.ended)) done;
  noticed = λ m c. let e = k.noticed m c in
      subst (λ (list : List Entry). EndedNoticed fixed list (own n ring)) (sym (same e.ended)) e;
  at_home = subst DidAtHome (sym later.items_are)
      (λ id op out. k.at_home id op (record { made = out.made; unended = out.unended }));
  gone = k.gone;
  timely = subst (StaysInTime n (entries ++ more)) (append-nil ring)
      (others-in-time n entries more ring [] none refl k.timely);
} where
  later : ItemsWent (items_of entries) [] (items_of (entries ++ more))
  later = items-same false entries (entries ++ more) (record {
    between = more;
    others = none;
    none_alone = λ e. absurd (let no' : false ≡ true = e in cc);
    after_is = sym (append-nil (entries ++ more));
  })

  same : has_ended_at fixed entries ≡ true → entries ++ more ≡ entries
  same ended = ap (λ l. entries ++ l) (ended-alone fixed entries more ended legal none)
      ∙ append-nil entries

-- entries of other nodes
pub others : OthersKeepOn
others fixed net n entries ring more left none k =
    let same = own-found n ring more none in
    record {
      replied = subst (RepliesBeforePasses (items_of entries)) (sym same) k.replied;
      stays = subst StaysDone (sym same) k.stays;
      said = λ s. k.said (subst SaidDone same s);
      noticed = λ m c. subst (EndedNoticed fixed entries) (sym same)
          (k.noticed m (subst (λ (l : List RingEntry). Contains l (Leave m Ended)) same c));
      at_home = k.at_home;
      gone = λ is_so.
          let g = k.gone is_so in
          record {
            left = left-others net n ring more none ∙ g.left;
            idle = (λ i. filter_map (λ path. id_of (waiting path (same i))) network_paths) ∙ g.idle;
          };
      timely = subst (λ (l : List Entry). StaysInTime n l (ring ++ more)) (append-nil entries)
          (others-in-time n entries [] ring more refl none k.timely);
    }

-- What comes between the turns of a bridge's end keeps what they keep.
use Rattle.std.proofs.Common.{◌≡◌, true, false, List, [], ◌++◌, refl, sym, ap, subst, ◌∙◌}
use Rattle.std.proofs.Common.{append-nil}
use Rattle.bridge_relay.specs.declared.entry.BridgeEntry.{BridgeEntry}
use Rattle.bridge_relay.specs.Laws.{end_after}
use Rattle.bridge_relay.specs.Machine.{RelayPath, none_out}
use Rattle.ring_core.specs.declared.entry.RingEntry.{RingEntry}
use Rattle.ring_core.specs.declared.status.NodeStatus.TheVariants.{Asking, Gone}
use Rattle.std.specs.List.{All, list_all}
use Rattle.std.proofs.lemmas.List.Elements.{All-nil}
use Rattle.std.specs.Prelude.{is_some, not}
use Rattle.tied_lists.proofs.Turns.{membership-kept, own-found}
use Rattle.end_times.proofs.BridgePort.{across-stays}
use Rattle.joint_history.specs.Complete.{LeavesQuietly}
use Rattle.end_times.specs.EndTimes.{IsEndInTime}
use Rattle.end_times.proofs.Turn.{others-in-time, starts-in-time}
use Rattle.end_laws.specs.EndKeeps.{HasNoneOutSinceDone, IsNoDoneLeave, IsQuietSinceDone}
use Rattle.end_laws.specs.Laws.{EndOthersKeepOn, EndsAcrossKeepOn, EndsStartKeep}
use Rattle.end_laws.proofs.Rows.{no-row, quiet-none}

-- an end of which nothing stands in either list
pub end-starts : EndsStartKeep
end-starts plan net side list ring none' none = record {
  in_time = starts-in-time side list ring none' none;
  here = λ stays. subst (All IsNoDoneLeave) (sym none) (All-nil IsNoDoneLeave);
  quiet = λ stays. subst IsQuietSinceDone (sym none) quiet-none;
  none_out = λ stays. subst (HasNoneOutSinceDone plan list side) (sym none)
      (λ before between node words d. absurd (no-row (record {
        before = before;
        between = between;
        node = node;
        words = words;
        ends = d;
      })));
  gone = λ is. absurd (let bad : false ≡ true = is in cc);
}

-- entries of other nodes
pub end-others : EndOthersKeepOn
end-others plan net side list ring more left none k =
    let same = own-found side ring more none in
    record {
      in_time = subst (λ (l : List BridgeEntry). IsEndInTime side l (ring ++ more))
          (append-nil list) (others-in-time side list [] ring more refl none k.in_time);
      here = λ stays. subst (All IsNoDoneLeave) (sym same) (k.here stays);
      quiet = λ stays. subst IsQuietSinceDone (sym same) (k.quiet stays);
      none_out = λ stays. subst (HasNoneOutSinceDone plan list side) (sym same) (k.none_out stays);
      gone = λ is.
          let g = k.gone is in
          record {
            bridge = g.bridge;
            on_ring = membership-kept net side ring more none
                (λ asks. let bad : Gone ≡ Asking = sym g.on_ring ∙ asks in absurd cc) ∙ g.on_ring;
            none = g.none;
            quietly = subst LeavesQuietly (sym same) g.quietly;
          };
    }

-- entries of the other end
pub end-across : EndsAcrossKeepOn
end-across plan net side list more ring left sound end legal none k =
    let stays = across-stays plan side list more end legal none in
    let out : none_out (end_after plan (list ++ more) side)
    ≡ none_out (end_after plan list side) =
    ap (list_all (λ (path : RelayPath). not (is_some path.out))) stays.paths in
    record {
      in_time = subst (λ (l : List RingEntry). IsEndInTime side (list ++ more) l)
          (append-nil ring) (others-in-time side list more ring [] none refl k.in_time);
      here = k.here;
      quiet = k.quiet;
      none_out = λ here before between node words d.
          out ∙ k.none_out here before between node words d;
      gone = λ is.
          let g = k.gone is in
          record {
            bridge = stays.gone ∙ g.bridge;
            on_ring = g.on_ring;
            none = out ∙ g.none;
            quietly = g.quietly;
          };
    }

-- Worked lists of the end 7 of a bridge, which answers a request for its statistics between two
-- Passes that say done, and leaves; and of one that asks something there.
use Rattle.std.proofs.Common.{◌≡◌, true, false, List, [], ◌∷◌, ◌++◌, refl, arith}
use Rattle.std.specs.List.{All}
use Rattle.std.proofs.lemmas.List.Elements.{All-from_recursion, All-nil}
use Rattle.plant_types.specs.declared.net.BridgePlan.{BridgePlan}
use Rattle.plant_types.specs.declared.net.Fate.TheVariants.{D}
use Rattle.plant_types.specs.declared.net.NetPlan.{NetPlan}
use Rattle.mstr_block.specs.declared.call.CallId.{CallId}
use Rattle.mstr_block.specs.declared.call.MstrResult.TheVariants.{Good}
use Rattle.bridge_relay.specs.declared.entry.BridgeEntry.{BridgeEntry}
use Rattle.bridge_relay.specs.declared.entry.BridgeEntry.TheVariants.{Gone}
use Rattle.ring_core.specs.Statistics.{get_statistics}
use Rattle.ring_core.specs.declared.frame.Frame.{Frame}
use Rattle.ring_core.specs.declared.frame.FrameKind.TheVariants.{Request, Reply}
use Rattle.ring_core.specs.declared.entry.LeaveCause.TheVariants.{Ended}
use Rattle.ring_core.specs.declared.entry.LocalOp.TheVariants.{RemoteGet}
use Rattle.ring_core.specs.declared.entry.RingEntry.{RingEntry}
use Rattle.ring_core.specs.declared.entry.RingEntry.TheVariants.{Post, Take, Local, Pass, Leave}
use Rattle.joint_history.specs.Complete.{IsQuiet, SaysDone}
use Rattle.one_order.specs.Merges.{Merged, AsNoted, AsDone}
use Rattle.end_times.specs.EndCauses.{no_end_notes, no_end_deeds}
use Rattle.end_times.specs.EndTimes.{IsEndInTime}
use Rattle.end_times.proofs.Worked.{runs-by}
use Rattle.end_laws.specs.EndKeeps.{EndKeepsOn, IsNoDoneLeave, IsQuietSinceDone}
use Rattle.end_laws.proofs.Rows.{leaves-now, quiet-more, quiet-none, quiet-push}

abbrev bridge : BridgePlan
bridge = record { left_net = 1; left = 7; right_net = 2; right = 8 }

abbrev net : NetPlan
net = record {
  number = 1;
  members = 5 ∷ 7 ∷ [];
  bridges = 7 ∷ [];
  fates = D ∷ [];
  answer = 2;
  rotations = 1;
  rounds = 1;
  holds = 9;
}

abbrev call : CallId
call = record { node = 5; path = 1; seq = 1 }

abbrev asks : Frame
asks = record { kind = Request; to = 7; rest = []; id = call; pdu = get_statistics }

abbrev tells : Frame
tells = record { kind = Reply; to = 5; rest = []; id = call; pdu = 8 ∷ [] }

abbrev done : RingEntry
done = Pass 7 true []

abbrev answers : List RingEntry
answers = Take 7 asks ∷ Local 7 call RemoteGet (Good []) ∷ Post 7 tells ∷ []

-- it answers, which is no call of its own
abbrev answered : List RingEntry
answered = done ∷ Take 7 asks ∷ Local 7 call RemoteGet (Good []) ∷ Post 7 tells ∷ done ∷ []

is-quiet : IsQuietSinceDone answered
is-quiet = quiet-push (done ∷ answers) done
    (quiet-more (done ∷ []) answers (refl, (refl, (refl, tt)))
    (λ row. (tt, ((λ same. omega (arith, same)), (refl, tt))))
    (quiet-push [] done quiet-none (λ row. tt)))
    (λ row. tt)

is-here : All IsNoDoneLeave answered
is-here = All-from_recursion IsNoDoneLeave answered (
  (λ n is. absurd cc),
  (
    (λ n is. absurd cc),
    (
      (λ n is. absurd cc),
      (
        (λ n is. absurd cc),
        ((λ n is. absurd cc), tt),
      ),
    ),
  ),
)

-- it answers at the port what it took for it
answers-in-time : IsEndInTime 7 [] answered
answers-in-time =
    let w : List (Merged BridgeEntry RingEntry) =
    AsDone done ∷ AsDone (Take 7 asks) ∷ AsDone (Local 7 call RemoteGet (Good []))
    ∷ AsDone (Post 7 tells) ∷ AsDone done ∷ [] in
    record { merge = w; noted = refl; done = refl; runs = runs-by no_end_notes no_end_deeds w refl }

keeps : EndKeepsOn bridge net 7 [] answered false
keeps = record {
  in_time = answers-in-time;
  here = λ stays. is-here;
  quiet = λ stays. is-quiet;
  none_out = λ stays before between node words d. refl;
  gone = λ left. absurd (let bad : false ≡ true = left in cc);
}

-- it leaves then, as all is done
abbrev left_ring : List RingEntry
left_ring = done ∷ Take 7 asks ∷ Local 7 call RemoteGet (Good []) ∷ Post 7 tells ∷ done
    ∷ Leave 7 Ended ∷ []

-- its bridge notes that it is gone behind that
left-in-time : IsEndInTime 7 (Gone 7 ∷ []) left_ring
left-in-time =
    let w : List (Merged BridgeEntry RingEntry) =
    AsDone done ∷ AsDone (Take 7 asks) ∷ AsDone (Local 7 call RemoteGet (Good []))
    ∷ AsDone (Post 7 tells) ∷ AsDone done ∷ AsDone (Leave 7 Ended) ∷ AsNoted (Gone 7) ∷ [] in
    record { merge = w; noted = refl; done = refl; runs = runs-by no_end_notes no_end_deeds w refl }

keeps-left : EndKeepsOn bridge net 7 (Gone 7 ∷ []) left_ring true
keeps-left = record {
  in_time = left-in-time;
  here = λ stays. absurd (let bad : true ≡ false = stays in cc);
  quiet = λ stays. absurd (let bad : true ≡ false = stays in cc);
  none_out = λ stays. absurd (let bad : true ≡ false = stays in cc);
  gone = λ left. record {
    bridge = refl;
    on_ring = refl;
    none = refl;
    quietly = leaves-now answered [] (Leave 7 Ended) is-here (All-nil IsNoDoneLeave)
        (λ n is. (is-quiet, All-nil IsQuiet));
  };
}

-- ---- it asks between them

abbrev own_call : CallId
own_call = record { node = 7; path = 1; seq = 1 }

abbrev asked : Frame
asked = record { kind = Request; to = 5; rest = []; id = own_call; pdu = get_statistics }

not-quiet : IsQuietSinceDone (done ∷ Post 7 asked ∷ done ∷ []) → ⊥
not-quiet law =
    let quiet = law [] (Post 7 asked ∷ done ∷ []) 7 []
    (record {
      stands = refl;
      done = All-from_recursion SaysDone (Post 7 asked ∷ done ∷ []) (tt, (refl, tt));
    }) in
    let bad : Request ≡ Reply = quiet 0 done (omega arith) in cc

not-so : EndKeepsOn bridge net 7 [] (done ∷ Post 7 asked ∷ done ∷ []) false → ⊥
not-so k = not-quiet (k.quiet refl)

-- ---- it asks behind its Leave

not-left : EndKeepsOn bridge net 7 (Gone 7 ∷ []) (left_ring ++ Post 7 asked ∷ []) true → ⊥
not-left k =
    let quiet = ((k.gone refl).quietly (done ∷ answers) [] (Post 7 asked ∷ []) 7 7 [] refl
    (All-nil SaysDone)).1 in
    let bad : Request ≡ Reply = quiet 0 done (omega arith) in cc

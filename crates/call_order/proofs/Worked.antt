-- Worked orders of a read that node 5 answers: its Reply is posted behind its Peer, and is not.
use Rattle.std.proofs.Common.{ℕ, ◌⊎◌, List, [], ◌∷◌, Some, refl, ⊎_elim, inl, arith}
use Rattle.std.specs.List.{flat_map}
use Rattle.std.proofs.lemmas.List.Elements.{Contains-push}
use Rattle.mstr_block.specs.declared.call.CallId.{CallId}
use Rattle.controller_core.specs.declared.entry.Entry.TheVariants.{Peer}
use Rattle.ring_core.specs.declared.frame.Frame.{Frame}
use Rattle.ring_core.specs.declared.frame.FrameKind.TheVariants.{Request, Reply}
use Rattle.ring_core.specs.declared.entry.RingEntry.TheVariants.{Post, Take}
use Rattle.tied_lists.specs.Items.{Answered}
use Rattle.joint_history.specs.Reading.{answered_here}
use Rattle.one_order.specs.Orders.{AtStation, AtRing, at_station}
use Rattle.entry_causes.specs.Causes.{ByController}
use Rattle.call_order.specs.Named.{Order, own_in, answers_in, port_answers_in, Carries}
use Rattle.call_order.specs.Named.{ReplyPostsFollowAnswers}

abbrev call : CallId
call = record { node = 2; path = 1; seq = 1 }

abbrev reads : List ℕ
reads = 3 ∷ 0 ∷ 0 ∷ 0 ∷ 2 ∷ []

abbrev tells : List ℕ
tells = 3 ∷ 4 ∷ 0 ∷ 42 ∷ 0 ∷ 43 ∷ []

abbrev request : Frame
request = record { kind = Request; to = 5; rest = []; id = call; pdu = reads }

abbrev reply : Frame
reply = record { kind = Reply; to = 2; rest = []; id = call; pdu = tells }

abbrev taken : Order
taken = AtRing (Take 5 request) ∷ []

abbrev answered : Order
answered = AtRing (Take 5 request) ∷ AtStation 5 (ByController (Peer call reads tells)) ∷ []

abbrev answer : Answered
answer = answered_here call reads (Some tells)

-- behind it the Reply has its answer
is-told : Carries reply (flat_map answers_in (at_station 5 answered))
    ⊎ Carries reply (flat_map port_answers_in (own_in 5 answered))
is-told =
    inl (record { answer = answer; among = Contains-push [] answer; call = refl; reply = refl })

no-answer : Carries reply [] → ⊥
no-answer x = let none = x.among in absurd (omega (arith, none.1))

-- before it the Reply has none
not-told : ReplyPostsFollowAnswers 5
    (AtRing (Take 5 request) ∷ AtRing (Post 5 reply) ∷ AtStation 5
    (ByController (Peer call reads tells)) ∷ []) → ⊥
not-told law =
    ⊎_elim no-answer no-answer (law taken (AtStation 5 (ByController (Peer call reads tells)) ∷ [])
    reply refl refl)

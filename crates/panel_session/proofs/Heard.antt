-- The frames for a node, byte by byte.
use Rattle.std.proofs.Common.{◌≡◌, ℕ, ◌+◌, ◌<◌, List, [], ◌++◌, length, get_or, take, refl, sym}
use Rattle.std.proofs.Common.{ap, subst, ◌∙◌}
use Rattle.std.specs.Prelude.{filter}
use Rattle.std.proofs.lemmas.List.{take_more}
use Rattle.std.proofs.lemmas.List.Elements.{filter-append}
use Rattle.ascii_port.specs.Frames.{AsciiFrame, frames}
use Rattle.ascii_port.specs.Hearing.{HasHeard, HearsByte, frame_told}
use Rattle.ascii_port.specs.declared.port.Fed.{Fed}
use Rattle.ascii_port.specs.declared.port.Port.{Port}
use Rattle.panel_session.specs.Serving.{frames_for, is_for}

-- No byte, no frame.
pub frames_for-none : (node : ℕ) → [] ≡ frames_for node []
unfolding frames
frames_for-none node = refl

-- What a port has heard of a stream, and the frames for a node so far.
pub record HasKept (node : ℕ) (port : Port) (kept : List AsciiFrame) (stream : List ℕ)
    : Type 0 where
  pub heard : HasHeard port stream
  pub frames : kept ≡ frames_for node stream

-- A byte more.
pub kept-more : (node : ℕ) (old port : Port) (kept more : List AsciiFrame) (stream : List ℕ)
    (place : ℕ) (fed : Fed) → place < length stream
    → ((front : List ℕ) → HasHeard old front → HearsByte port front (get_or stream place 0) fed)
    → HasKept node old kept (take place stream)
    → more ≡ kept ++ filter (is_for node) (frame_told port fed)
    → HasKept node port more (take (place + 1) stream)
kept-more node old port kept more stream place fed within hears has added =
    let front = take place stream in
    let byte = get_or stream place 0 in
    let heard = hears front has.heard in
    subst (HasKept node port more) (sym (take_more stream place 0 within)) (record {
      heard = heard.heard;
      frames = added
          ∙ ap (λ (frames : List AsciiFrame). frames ++ filter (is_for node) (frame_told port fed))
          has.frames
          ∙ sym (filter-append (is_for node) (frames front) (frame_told port fed))
          ∙ ap (filter (is_for node)) (sym heard.grows);
    })

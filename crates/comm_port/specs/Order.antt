-- The parts of a turn, by what each adds. This project's own.
use Rattle.std.specs.Prelude.{◌≡◌, ◌≢◌, ℕ}
use Rattle.controller_core.specs.declared.entry.Entry.{Entry}
use Rattle.controller_core.specs.declared.entry.Entry.TheVariants as entries
use Rattle.ring_core.specs.declared.frame.FrameKind.TheVariants.{Request, Reply}
use Rattle.ring_core.specs.declared.entry.RingEntry.{RingEntry}
use Rattle.ring_core.specs.declared.entry.RingEntry.TheVariants.{Post, Send, Take, Local, GiveUp}

-- First: what came is taken; the port's operations for others, and Replies that are posted.
abbrev pub IsServing : ℕ → RingEntry → Type 0
IsServing n (Take m f) = Unit {0}
IsServing n (Local m id op result) = id.node ≢ n
IsServing n (Post m f) = f.kind ≡ Reply
IsServing n _ = ⊥

-- Second: Requests that are posted, and the own operations.
abbrev pub IsCalling : ℕ → RingEntry → Type 0
IsCalling n (Post m f) = f.kind ≡ Request
IsCalling n (Local m id op result) = id.node ≡ n
IsCalling n _ = ⊥

-- Third: Sends, and Requests that failed.
abbrev pub IsSending : RingEntry → Type 0
IsSending (Send m heard) = Unit {0}
IsSending (GiveUp id word) = Unit {0}
IsSending _ = ⊥

-- Fourth, and after a Leave: calls that are given up.
abbrev pub IsGivingUp : RingEntry → Type 0
IsGivingUp (GiveUp id word) = Unit {0}
IsGivingUp _ = ⊥

-- What the controller notes of a call that ended.
abbrev pub IsFinish : Entry → Type 0
IsFinish (entries.Finish id result) = Unit {0}
IsFinish _ = ⊥

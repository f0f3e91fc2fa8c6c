use Rattle.std.proofs.Common.{ap, ◌∙◌, sym, subst, ◌<◌, length, List}
use Rattle.station_stats.specs.Counts.{StatsIs, stats_words}
use Rattle.ring_core.specs.Scratch.{count_members}
use Rattle.ring_core.specs.Kept.{stats_at}
use Rattle.ring_core.specs.Bare.{bare_ring}
use Rattle.ring_core.proofs.Keeping.{counted, statistics-are}
use Rattle.ring_core.proofs.bare.BareRing.statistics.Goals as goal

pub station_words-requires : goal.station_words-requires
station_words-requires c =
    subst (λ (l : List StatsIs). c.args.node < length l) (sym c.deref-2.ensures.value)
    (counted _ _ _ _ _ c.args.node c.requires.kept c.requires.member)

pub returns : goal.returns
returns c =
    c.station_words.ensures
    ∙ (ap (λ (l : List StatsIs). stats_words (stats_at l c.args.node) c.members_now-members.result
    c.passed-passed.result) c.deref-2.ensures.value
    ∙ statistics-are _ _ (bare_ring c.args.self.now) _ _ c.args.node _ _ c.requires.kept
    c.requires.member
    (c.members_now-members.ensures.count
    ∙ ap count_members c.deref.ensures.value) c.passed-passed.ensures)

use Rattle.std.proofs.Common.{◌≡◌, ◌++◌, ◌∷◌, ◌+◌, [], sym, subst, cond, rules}
use Rattle.host_port.specs.Following.{MayComeNext}
use Rattle.host_port.specs.Host.{HostIs}
use Rattle.host_port.specs.Kept.{IsHostKept, paths_after}
use Rattle.host_port.specs.Calls.{is_ask}
use Rattle.host_port.proofs.Keeping.{has_path, kept_more, went_more}
use Rattle.host_port.proofs.Next.{may_of}
use Rattle.host_port.proofs.host.Host.note.Goals as goal

pub paths_after-paths-requires : goal.paths_after-paths-requires
paths_after-paths-requires c =
    let i = c.self.inside in
    let h = i.history.items in
    let next = subst (λ (v : HostIs). MayComeNext v c.args.entry) (sym c.self.view_is) c.requires in
    let may = may_of (record { plan = i.plan; history = h }) c.args.entry
    c.self.invariant.kept.legal next in
    has_path i.plan i.made i.paths h c.args.entry c.self.invariant.kept may

pub invariant_of-self-2 : goal.invariant_of-self-2
invariant_of-self-2 c =
    let i = c.self.inside in
    let h = i.history.items in
    let next = subst (λ (v : HostIs). MayComeNext v c.args.entry) (sym c.self.view_is) c.requires in
    let may = may_of (record { plan = i.plan; history = h }) c.args.entry
    c.self.invariant.kept.legal next in
    let kept = kept_more i.plan i.made i.paths h c.args.entry c.self.invariant.kept may in
    let made : i.made + cond (is_ask c.args.entry) 1 0 ≡ i.made + c.from.result = search rules in
    let counted = subst (λ n. IsHostKept i.plan n (paths_after i.paths c.args.entry)
    (h ++ c.args.entry ∷ [])) made kept in
    let placed = subst (λ p. IsHostKept i.plan (i.made + c.from.result) p (h ++ c.args.entry ∷ []))
    (sym c.paths_after-paths.ensures) counted in
    record {
      sound = c.self.invariant.sound;
      kept = subst (λ l. IsHostKept i.plan (i.made + c.from.result) c.paths_after-paths.result l)
          (sym c.in_ok-push.ensures.items) placed;
    }

pub returns-clause-went_on : goal.returns-clause-went_on
returns-clause-went_on c =
    let i = c.self.inside in
    let h = i.history.items in
    let next = subst (λ (v : HostIs). MayComeNext v c.args.entry) (sym c.self.view_is) c.requires in
    let may = may_of (record { plan = i.plan; history = h }) c.args.entry
    c.self.invariant.kept.legal next in
    went_more c.args.self.now i.plan h c.push.new.self.items c.args.entry c.self.view_is
    c.in_ok-push.ensures.items may

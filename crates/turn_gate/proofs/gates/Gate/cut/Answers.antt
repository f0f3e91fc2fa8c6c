use Rattle.std.proofs.Common.{rules, ap, ◌≡◌, ◌<◌, ◌^◌, sym, ◌∙◌, subst, ℕ, false, arith}
use Rattle.turn_gate.specs.Known.{is_among}
use Rattle.turn_gate.proofs.Splitting.{splits}
use Rattle.turn_gate.proofs.gates.Gate.cut.Goals as goal

pub split_seat-requires : goal.split_seat-requires
split_seat-requires g c =
    let n : ℕ = c.args.number in
    let p : n ≡ g.N.Numbering.number = c.requires.picked in
    let z = c.requires.zero in
    let not_zero = c.requires.fresh.0 in
    let fits = c.ranges.number.fits in
    let above : 0 < n = omega arith in
    let below : n < 2 ^ 32 = fits in (
      c.requires.gate ∙ ap (λ v. v.name.table) (sym c.self.view_is),
      search rules,
      splits g.V.Journal.entries g.V.Journal.fixed g.V.Journal.maker _ _ _ g.N.Numbering.number z
          (subst (λ (k : ℕ). 0 < k) p above)
          (subst (λ (k : ℕ). k < 2 ^ 32) p below)
          (subst (λ (k : ℕ). is_among k c.args.seat.now.me.0.given ≡ false) p c.requires.fresh.1),
    )

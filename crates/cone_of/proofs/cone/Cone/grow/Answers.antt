use Rattle.std.proofs.Common.{◌≡◌, true, sym, ap, ◌∙◌}
use Rattle.std.specs.List.{list_all}
use Rattle.std.specs.FinSet.{contains}
use Rattle.cone_of.specs.Cone.{HasNetwork}
use Rattle.cone_of.specs.Growing.{network_reads}
use Rattle.cone_of.proofs.Forced.{grown, stayed, network-all}
use Rattle.cone_of.proofs.cone.Cone.grow.Goals as goal

pub returns-then-has_all : goal.returns-then-has_all
returns-then-has_all c =
    let set = c.args.self.now in
    let network = c.args.network.now in
    let all : list_all (contains set) (network_reads network) ≡ true =
    ap (list_all (contains set)) (sym (c.as_slice.ensures.value ∙ c.in_ok-put_reads.ensures))
    ∙ (sym c.has_all.ensures ∙ c.if-has_all.true) in
    stayed (λ other. HasNetwork other network) set
    (λ matters. sym (network-all set network) ∙ all)

pub returns : goal.returns
returns c =
    grown c.args.network.now c.as_slice-2.result.now c.args.self.now c.add_all.new.self
    (c.as_slice-2.ensures.value ∙ c.in_ok-put_reads.ensures)
    (sym c.in_ok-network_matters.ensures ∙ c.if-not-branch.false) c.in_ok-add_all.ensures

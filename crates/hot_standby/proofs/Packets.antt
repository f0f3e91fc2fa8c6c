-- What lists of packets make of a standby.
use Rattle.std.proofs.Common.{◌≡◌, ℕ, suc, ◌+◌, List, [], ◌∷◌, ◌++◌, map, refl, sym}
use Rattle.std.proofs.Common.{ap, subst, ◌∙◌, append_assoc, append-nil, zero-add, arith}
use Rattle.std.specs.List.{flat_map, range_with_len}
use Rattle.controller_core.specs.declared.entry.Entry.{Entry}
use Rattle.controller_core.specs.declared.fixed.Fixed.{Fixed}
use Rattle.controller_core.specs.Controller.{EachFits, IsLegal}
use Rattle.controller_core.specs.Scans.{all_due}
use Rattle.hot_standby.specs.declared.packet.Packet.{Packet}
use Rattle.hot_standby.specs.declared.packet.Taken.{Taken}
use Rattle.hot_standby.specs.declared.packet.Taken.TheVariants as answers
use Rattle.hot_standby.specs.Standby.{AnsweredPacket, IsMadeOfNewPackets, StandbyIs, Took, TookAll}
use Rattle.hot_standby.specs.Standby.{new_packets, new_standby, scans_held}

-- the entries of packets, and their scans
abbrev entries-of : List Packet → List Entry
entries-of packets = flat_map (λ (packet : Packet). packet.entries) packets

abbrev scans-in : List Packet → List ℕ
scans-in packets = map (λ (packet : Packet). packet.scan) packets

-- what packets that were taken as New add to a standby
record Adds (v : StandbyIs) (packets : List Packet) (w : StandbyIs) : Type 0 where
  pub fixed : w.fixed ≡ v.fixed
  pub history : w.history ≡ v.history ++ entries-of packets
  pub count : ℕ
  pub held : scans_held w ≡ scans_held v + count
  pub scans : scans-in packets ≡ range_with_len (scans_held v + 1) count
  pub legal : IsLegal v.fixed v.history → IsLegal w.fixed w.history

adds-nothing : (v w : StandbyIs) → w ≡ v → Adds v [] w
adds-nothing v w is = record {
  fixed = ap (λ (u : StandbyIs). u.fixed) is;
  history = ap (λ (u : StandbyIs). u.history) is ∙ sym (append-nil v.history);
  count = 0;
  held = ap scans_held is ∙ omega arith;
  scans = refl;
  legal = λ so. subst (λ (u : StandbyIs). IsLegal u.fixed u.history) (sym is) so;
}

adds-one : (v u w : StandbyIs) (packet : Packet) (taken : Taken) (rest : List AnsweredPacket)
    → Took v packet taken u → Adds u (new_packets rest) w
    → Adds v (new_packets (record { packet = packet; taken = taken } ∷ rest)) w
adds-one v u w packet answers.New rest took more =
    let fixed : u.fixed ≡ v.fixed = ap (λ (x : StandbyIs). x.fixed) took.2 in
    let history : u.history ≡ v.history ++ packet.entries =
    ap (λ (x : StandbyIs). x.history) took.2 in
    let held : scans_held u ≡ scans_held v + 1 =
    ap scans_held took.2 ∙ took.1.part.over in
    record {
      fixed = more.fixed ∙ fixed;
      history = more.history
          ∙ ap (λ (h : List Entry). h ++ entries-of (new_packets rest)) history
          ∙ append_assoc v.history packet.entries (entries-of (new_packets rest));
      count = suc more.count;
      held = more.held ∙ ap (λ n. n + more.count) held ∙ omega arith;
      scans = ap (λ n. n ∷ scans-in (new_packets rest)) took.0
          ∙ ap (λ (l : List ℕ). (scans_held v + 1) ∷ l)
          (more.scans ∙ ap (λ n. range_with_len (n + 1) more.count) held);
      legal = λ so. more.legal (subst (λ (x : StandbyIs). IsLegal x.fixed x.history)
          (sym took.2) took.1.legal);
    }
adds-one v u w packet answers.Repeated rest took more =
    subst (λ (x : StandbyIs). Adds x (new_packets rest) w) took.1 more
adds-one v u w packet answers.Early rest took more =
    subst (λ (x : StandbyIs). Adds x (new_packets rest) w) took.1 more

adds-all : (v w : StandbyIs) (answered : List AnsweredPacket) → TookAll v answered w
    → Adds v (new_packets answered) w
unfolding TookAll
adds-all v w [] took = adds-nothing v w took
adds-all v w (one ∷ rest) took =
    adds-one v took.0 w one.packet one.taken rest took.1 (adds-all took.0 w rest took.2)

-- a history of nothing is legal, and holds no scan
none-legal : (fixed : Fixed) → IsLegal fixed []
unfolding EachFits
none-legal fixed = record { each = tt; due = (all_due fixed, refl) }

pub made-of-packets : (fixed : Fixed) (answered : List AnsweredPacket) (v : StandbyIs)
    → TookAll (new_standby fixed) answered v → IsMadeOfNewPackets v answered
made-of-packets fixed answered v took =
    let all = adds-all (new_standby fixed) v answered took in
    let held : scans_held v ≡ all.count = all.held ∙ zero-add all.count in
    record {
      history = all.history;
      scans = all.scans ∙ ap (range_with_len 1) (sym held);
      legal = all.legal (none-legal fixed);
    }

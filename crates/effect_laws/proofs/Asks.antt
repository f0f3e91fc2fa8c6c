-- What a legal history of a controller asked other nodes for, and what stations answered.
use Rattle.std.proofs.Common.{◌≡◌, ℕ, suc, ◌-◌, Bool, true, false, Option, Some, None, List, []}
use Rattle.std.proofs.Common.{◌∷◌, ◌++◌, map, get_or}
use Rattle.std.proofs.Common.{refl, sym, ap, ◌∙◌, subst, append_assoc}
use Rattle.std.specs.List.{AllByRecursion as Each, cons_option, filter_map}
use Rattle.std.specs.Option.{option_map}
use Rattle.plant_types.specs.declared.net.HostPlan.{HostPlan}
use Rattle.modbus_pdu.specs.Spelling.{spelling_of}
use Rattle.modbus_pdu.specs.declared.request.Request.TheVariants as requests
use Rattle.mstr_block.specs.Running.{MayBeAsked, IsRunning, IsStateOf}
use Rattle.mstr_block.specs.Table.{untaken}
use Rattle.mstr_block.specs.declared.call.MstrAsk.{MstrAsk}
use Rattle.mstr_block.specs.declared.call.MstrAsk.TheVariants as asks
use Rattle.mstr_block.specs.declared.call.MstrCall.{MstrCall}
use Rattle.mstr_block.specs.declared.state.BlockState.{BlockState}
use Rattle.mstr_block.specs.declared.state.BlockState.TheVariants.{Idle, Waiting, Active, Aborted}
use Rattle.mstr_block.specs.declared.state.BlockState.TheVariants.{Ready}
use Rattle.mstr_block.specs.declared.state.Running.{Running}
use Rattle.controller_core.specs.declared.call.Call.{Call}
use Rattle.controller_core.specs.declared.entry.Entry.{Entry}
use Rattle.controller_core.specs.declared.entry.Entry.TheVariants as entries
use Rattle.controller_core.specs.declared.fixed.Fixed.{Fixed}
use Rattle.controller_core.specs.Calls.{call_of, kind_of}
use Rattle.controller_core.specs.Controller.{Fits, IsLegal}
use Rattle.controller_core.specs.Replay.{replay, table_of}
use Rattle.host_port.specs.Legal.{IsHostHistory}
use Rattle.host_port.specs.declared.entry.HostEntry.{HostEntry}
use Rattle.host_port.specs.declared.entry.HostEntry.TheVariants as host_entries
use Rattle.host_port.proofs.Lists.{all_append}
use Rattle.tied_lists.specs.Items.{Answered, Called, Items, OverNet, no_items}
use Rattle.joint_history.specs.Reading.{answered_here, called_of, host_item_next, host_items_after}
use Rattle.joint_history.specs.Reading.{host_items_of}
use Rattle.joint_history.specs.Reading.{item_next, items_of, sort_of}
use Rattle.joint_history.proofs.Collected.{CallLaws, history-follows}
use Rattle.effect_laws.proofs.Calls.{by-entries}
use Rattle.effect_laws.proofs.Fits.{Fitting, NetAsk, answer-fits, for_statistics, refusal-fits}
use Rattle.effect_laws.proofs.Fits.{to_read, to_write}

-- a call by the network is one of the three requests
abbrev pub IsAskOf : Called → Type 0
IsAskOf c = (route pdu : List ℕ) → c.sort ≡ OverNet route pdu → NetAsk pdu

-- a request that was answered has a fitting answer
abbrev pub IsFitAnswer : Answered → Type 0
IsFitAnswer a = (ask reply : List ℕ) → a.request ≡ Some ask → a.reply ≡ Some reply → NetAsk ask
    → Fitting ask reply

pub record FitItems (a : Items) : Type 0 where
  pub asks : Each IsAskOf a.calls
  pub answers : Each IsFitAnswer a.answers

-- ---- calls

ask-is : (routed : Bool) (own : ℕ) (ask : MstrAsk) → MayBeAsked routed own ask
    → (route pdu : List ℕ) → sort_of (kind_of ask) ≡ OverNet route pdu → NetAsk pdu
ask-is routed own (asks.Write way start words) is route pdu e =
    let same : spelling_of (requests.WriteRegisters (start - 1) words) ≡ pdu = cc in
    to_write (start - 1) words is.1.1 is.1.2 (sym same)
ask-is routed own (asks.Read way start count) is route pdu e =
    let same : spelling_of (requests.ReadRegisters (start - 1) count) ≡ pdu = cc in
    to_read (start - 1) count is.1.1 is.1.2 (sym same)
ask-is routed own asks.LocalStats is route pdu e = absurd cc
ask-is routed own asks.ClearLocal is route pdu e = absurd cc
ask-is routed own (asks.PutGlobal words) is route pdu e = absurd cc
ask-is routed own (asks.GetGlobal node count) is route pdu e = absurd cc
ask-is routed own (asks.RemoteStats way) is route pdu e =
    let same : spelling_of (requests.Stats false) ≡ pdu = cc in for_statistics false (sym same)
ask-is routed own (asks.ClearRemote way) is route pdu e =
    let same : spelling_of (requests.Stats true) ≡ pdu = cc in for_statistics true (sym same)

running-ask : (routed : Bool) (n : ℕ) (numbers : List ℕ) (r : Running) (call : MstrCall)
    (o : Option MstrAsk) → r.ask ≡ o → IsRunning routed n numbers r
    → option_map (λ ask. record { id = r.id; ask = ask }) o ≡ Some call
    → MayBeAsked routed n call.ask
running-ask routed n numbers r call None asked is e = absurd cc
running-ask routed n numbers r call (Some ask) asked is e =
    let this : MstrCall = record { id = r.id; ask = ask } in
    let same : this ≡ call = cc in
    subst (MayBeAsked routed n) (ap (λ (c : MstrCall). c.ask) same) (is.ask ask asked).0

untaken-ask : (routed : Bool) (n : ℕ) (numbers : List ℕ) (b : BlockState) (call : MstrCall)
    → IsStateOf routed n numbers b → untaken b ≡ Some call → MayBeAsked routed n call.ask
untaken-ask routed n numbers Idle call is e = absurd cc
untaken-ask routed n numbers Waiting call is e = absurd cc
untaken-ask routed n numbers (Active r) call is e =
    running-ask routed n numbers r call r.ask refl is e
untaken-ask routed n numbers (Aborted r) call is e =
    running-ask routed n numbers r call r.ask refl is e
untaken-ask routed n numbers (Ready kept result) call is e = absurd cc

blocks-ask : (routed : Bool) (n : ℕ) (numbers : List ℕ) (bs : List BlockState)
    → ((place : ℕ) → IsStateOf routed n numbers (get_or bs place Idle))
    → Each IsAskOf (map called_of (map call_of (filter_map untaken bs)))
blocks-ask routed n numbers [] states = tt
blocks-ask routed n numbers (b ∷ bs) states =
    at (untaken b) refl (blocks-ask routed n numbers bs (λ place. states (suc place)))
  where
    at : (o : Option MstrCall) → untaken b ≡ o
        → Each IsAskOf (map called_of (map call_of (filter_map untaken bs)))
        → Each IsAskOf (map called_of (map call_of (cons_option o (filter_map untaken bs))))
    at None is rest = rest
    at (Some call) is rest =
        (ask-is routed n call.ask (untaken-ask routed n numbers b call (states 0) is), rest)

-- ---- what a controller keeps

fit-next : CallLaws → (fixed : Fixed) (h : List Entry) (e : Entry) → IsLegal fixed h
    → Fits fixed (replay fixed h) e → FitItems (items_of h)
    → FitItems (item_next (items_of h) e)
fit-next laws fixed h entries.Begin legal fits f = f
fit-next laws fixed h (entries.Input row) legal fits f = f
fit-next laws fixed h (entries.Solve row) legal fits f = f
fit-next laws fixed h (entries.Output row words) legal fits f = f
fit-next laws fixed h entries.End legal fits f = f
fit-next laws fixed h entries.Fail legal fits f = record { asks = f.asks; answers = f.answers }
fit-next laws fixed h entries.Dark legal fits f = f
fit-next laws fixed h (entries.Off id request) legal fits f = record {
  asks = f.asks;
  answers = all_append IsFitAnswer (items_of h).answers _ f.answers
      ((λ ask reply is gives net. absurd (let no' : None ≡ Some reply = gives in cc)), tt);
}
fit-next laws fixed h (entries.Collect calls) legal fits f =
    let T = table_of (replay fixed h) in
    let follows = history-follows laws fixed h legal in
    record {
      asks = all_append IsAskOf (items_of h).calls (map called_of calls) f.asks
          (subst (λ (l : List Call). Each IsAskOf (map called_of l)) (sym fits.1)
          (blocks-ask T.routed T.node T.numbers T.blocks follows.table.states));
      answers = f.answers;
    }
fit-next laws fixed h (entries.Peer id request reply) legal fits f = record {
  asks = f.asks;
  answers = all_append IsFitAnswer (items_of h).answers _ f.answers (last, tt);
}
  where
    last : IsFitAnswer (answered_here id request (Some reply))
    last ask told is gives net =
        let same : request ≡ ask = cc in
        let given : reply ≡ told = cc in
        subst (λ (l : List ℕ). Fitting l told) same
        (subst (λ (l : List ℕ). Fitting request l) (sym fits.1 ∙ given)
        (answer-fits request (replay fixed h).solving.map (subst NetAsk (sym same) net)))
fit-next laws fixed h (entries.Finish id result) legal fits f =
    record { asks = f.asks; answers = f.answers }

pub controller-fits : CallLaws → (fixed : Fixed) (h : List Entry) → IsLegal fixed h
    → FitItems (items_of h)
controller-fits laws fixed h legal =
    by-entries fixed FitItems (record { asks = tt; answers = tt }) (fit-next laws fixed) h legal

-- ---- what a host keeps

host-next : (plan : HostPlan) (before : List HostEntry) (e : HostEntry) (h : List HostEntry)
    (a : Items) → IsHostHistory plan (before ++ e ∷ h)
    → Each IsFitAnswer a.answers → Each IsFitAnswer (host_item_next a e).answers
host-next plan before (host_entries.Ask id route pdu) h a legal all = all
host-next plan before (host_entries.Answer id result) h a legal all = all
host-next plan before (host_entries.Served id request reply) h a legal all =
    let told = legal.each before h (host_entries.Served id request reply) refl in
    all_append IsFitAnswer a.answers _ all (
      (λ ask given is gives net.
          let same : request ≡ ask = cc in
          let reply_is : reply ≡ given = cc in
          subst (λ (l : List ℕ). Fitting l given) same
          (subst (λ (l : List ℕ). Fitting request l) (sym told ∙ reply_is) (refusal-fits request))),
      tt,
    )

host-from : (plan : HostPlan) (before h : List HostEntry) (a : Items)
    → IsHostHistory plan (before ++ h) → Each IsFitAnswer a.answers
    → Each IsFitAnswer (host_items_after a h).answers
host-from plan before [] a legal all = all
host-from plan before (e ∷ h) a legal all =
    host-from plan (before ++ e ∷ []) h (host_item_next a e)
    (subst (IsHostHistory plan) (sym (append_assoc before (e ∷ []) h)) legal)
    (host-next plan before e h a legal all)

pub host-fits : (plan : HostPlan) (h : List HostEntry) → IsHostHistory plan h
    → Each IsFitAnswer (host_items_of h).answers
host-fits plan h legal = host-from plan [] h no_items legal tt

-- Legal histories of a host. This project's own.
use Rattle.std.specs.Prelude.{◌≡◌, ℕ, true, List, ◌∷◌, ◌++◌, Option, Some, None, map, slice_index}
use Rattle.std.specs.List.{filter_map}
use Rattle.plant_types.specs.declared.net.HostAsk.{HostAsk}
use Rattle.plant_types.specs.declared.net.HostPlan.{HostPlan}
use Rattle.modbus_pdu.specs.declared.reply.Reply.TheVariants.{Exception}
use Rattle.modbus_pdu.specs.Exceptions.{illegal_function}
use Rattle.modbus_pdu.specs.Spelling.{reply_bytes}
use Rattle.host_port.specs.declared.entry.HostEntry.{HostEntry}
use Rattle.host_port.specs.declared.entry.HostEntry.TheVariants.{Ask, Answer, Served}
use Rattle.host_port.specs.Calls.{is_unanswered, next_host_call}

-- What is asked, and by which route.
pub record Question : Type 0 where
  pub route : List ℕ
  pub pdu : List ℕ

-- The question of an entry: only an Ask has one.
abbrev pub question_by : HostEntry → Option Question
question_by (Ask id route pdu) = Some (record { route = route; pdu = pdu })
question_by (Answer id result) = None
question_by (Served id request reply) = None

abbrev pub question_due : HostAsk → Question
question_due ask = record { route = ask.route; pdu = ask.pdu }

-- What was asked, and what the plan asks, each in its order.
abbrev pub questions_in : List HostEntry → List Question
questions_in history = filter_map question_by history

abbrev pub questions_of : HostPlan → List Question
questions_of plan = map question_due plan.requests

-- A host serves no function: the reply is the request's function with its highest bit set, and
-- code 1. Modicon Modbus Protocol Reference Guide for the form.
abbrev pub refusal_to : List ℕ → List ℕ
refusal_to request = reply_bytes (Exception (slice_index request 0) illegal_function)

-- What an entry owes to those before it: an Ask has the name of the next call, an Answer names a
-- call that is out, and what is served is refused.
abbrev pub FitsHost : HostPlan → List HostEntry → HostEntry → Type 0
FitsHost plan before (Ask id route pdu) = next_host_call plan before ≡ Some id
FitsHost plan before (Answer id result) = is_unanswered before id ≡ true
FitsHost plan before (Served id request reply) = reply ≡ refusal_to request

-- A legal history: what it asks is the first of what the plan asks, and each entry fits those
-- before it.
pub record IsHostHistory (plan : HostPlan) (history : List HostEntry) : Type 0 where
  pub order : (rest : List Question) × (questions_in history ++ rest ≡ questions_of plan)
  pub each : (before after : List HostEntry) (entry : HostEntry)
      → history ≡ before ++ entry ∷ after → FitsHost plan before entry

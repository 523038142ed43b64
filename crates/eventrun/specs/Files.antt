-- An event file played on a house of its own.
-- opening_number: the number of an opening that brings its own tables. opening_in: of the opening of a file, if there is one.
-- tables_after: the tables that an accepted opening and the calls after it leave.
-- answers_after: the answers to the records after an opening; none after a refused one. answers_in: to those of a file. answer_in: the answer in a reply.
-- IsolatedFile: the isolation of the run. Plays: the number and the answers of played records, and their isolation.
-- IsFileRun: what the run of a file holds: its records, its fault and its answers.
use Rattle.std.specs.Prelude.{◌≡◌, ℕ, if◌then◌else◌, List, [], ◌∷◌, map, Some, None, vec_items, Option, ◌==◌}
use Rattle.models.specs.Meaning.{Meaning}
use Rattle.events.specs.Files.{events_of, fault_of}
use Rattle.events.specs.declared.event.Event.{Event}
use Rattle.events.specs.declared.event.Event.TheVariants.{Open, Trade, LodgeCash, DrawCash}
use Rattle.rules.specs.Opening.{opening_result, opened_market, opened_rows, opened_trades}
use Rattle.refusals.specs.Refusals.{result_number}
use Rattle.rules.specs.Runs.{Lent, lent_run, answers_run}
use Rattle.rules.specs.declared.call.Answer.{Answer}
use Rattle.rules.specs.declared.call.NamedCall.{NamedCall}
use Rattle.rules.specs.declared.call.Reply.{Reply}
use Rattle.rules.specs.declared.call.Reply.TheVariants.{Account as AccountReply, Market as MarketReply}
use Rattle.rules.specs.Outcomes.{blank_answer}
use Rattle.isolation.specs.Runs.{run, opened}
use Rattle.isolation.specs.Isolation.{Isolated}
use Rattle.eventrun.specs.Calls.{calls_in, event_of}
use Rattle.eventrun.specs.declared.play.FileRun.{FileRun}
use Rattle.eventrun.specs.declared.play.Played.{Played}

abbrev pub opening_number : ℕ → ℕ → ℕ
opening_number n month = result_number (opening_result n month)

abbrev pub opening_in : List Event → Option ℕ
opening_in [] = None
opening_in (Open n month ∷ es) = Some (opening_number n month)
opening_in (Trade a n b s m c t ∷ es) = None
opening_in (LodgeCash a m ∷ es) = None
opening_in (DrawCash a m ∷ es) = None

abbrev pub answers_after : Meaning → ℕ → ℕ → List Event → List Answer
answers_after m n month es =
    (if opening_number n month == 0 then answers_run m (opened_market month) n (opened_rows n, opened_trades n) (calls_in es) else [])

-- the tables that an accepted opening and the calls after it leave
abbrev pub tables_after : Meaning → ℕ → ℕ → List NamedCall → Lent
tables_after m n month cs = lent_run m (opened_market month) n (opened_rows n, opened_trades n) cs

abbrev pub answers_in : Meaning → List Event → List Answer
answers_in m [] = []
answers_in m (Open n month ∷ es) = answers_after m n month es
answers_in m (Trade a n b s mo c t ∷ es) = []
answers_in m (LodgeCash a c ∷ es) = []
answers_in m (DrawCash a c ∷ es) = []

-- the run of a file that begins with an accepted opening is isolated
abbrev pub IsolatedFile : Meaning → List Event → List Answer → Type 0
IsolatedFile m [] os = Unit {0}
IsolatedFile m (Open n month ∷ es) os =
    opening_number n month ≡ 0 → Isolated m month n (map event_of (calls_in es)) (map AccountReply os) (run m (opened month n) (map event_of (calls_in es)))
IsolatedFile m (Trade a n b s mo c t ∷ es) os = Unit {0}
IsolatedFile m (LodgeCash a c ∷ es) os = Unit {0}
IsolatedFile m (DrawCash a c ∷ es) os = Unit {0}

-- the answer in the reply to an account call
abbrev pub answer_in : Reply → Answer
answer_in (AccountReply a) = a
answer_in (MarketReply a) = blank_answer 0

pub record Plays (m : Meaning) (es : List Event) (p : Played) : Type 0 where
  pub number : p.number ≡ opening_in es
  pub answers : vec_items p.answers ≡ answers_in m es
  pub isolated : IsolatedFile m es (vec_items p.answers)

pub record IsFileRun (m : Meaning) (bytes : List ℕ) (f : FileRun) : Type 0 where
  pub events : vec_items f.found.events ≡ events_of bytes
  pub fault : f.found.fault ≡ fault_of bytes
  pub played : Plays m (events_of bytes) f.played

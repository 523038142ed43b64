-- The lines that the run of an event file prints: words and decimal numbers, as `line` of crate `scan` puts them together.
--   opening_line   of the opening, if there is one: record 1, kind 1, and its number
--   answer_line    of the answer to record n: the record, its kind, and the answer
--   answer_lines   of the answers to records that are numbered from n
--   fault_line     of the fault, if there is one; none after a refused opening, which has a number other than 0
--   run_text       what a run on a model prints of a file
--   transcript_of  what is printed of a file: the run on the model of which every number is 0
use Rattle.std.specs.Prelude.{ℕ, zero, suc, ◌+◌, List, [], ◌∷◌, ◌++◌, drop, Some, None, Option, codes}
use Rattle.std.specs.Fmt.{decimal}
use Rattle.models.specs.Meaning.{Meaning}
use Rattle.scan.specs.Texts.{line}
use Rattle.modelfile.specs.Default.{zero_table}
use Rattle.events.specs.Files.{events_of, fault_of}
use Rattle.events.specs.Kinds.{code_of, event_kind}
use Rattle.events.specs.Printing.{fault_text}
use Rattle.events.specs.declared.event.Event.{Event}
use Rattle.events.specs.declared.fault.Fault.{Fault}
use Rattle.rules.specs.Printing.{answer_text}
use Rattle.rules.specs.declared.call.Answer.{Answer}
use Rattle.eventrun.specs.Files.{opening_in, answers_in}

abbrev pub opening_line : Option ℕ → List ℕ
opening_line None = []
opening_line (Some number) = line (codes "1" ∷ codes "1" ∷ decimal number ∷ [])

abbrev pub answer_line : ℕ → Event → Answer → List ℕ
answer_line n e a = line (decimal n ∷ decimal (code_of (event_kind e)) ∷ answer_text a ∷ [])

abbrev pub answer_lines : ℕ → List Event → List Answer → List ℕ
answer_lines n [] os = []
answer_lines n (e ∷ es) [] = []
answer_lines n (e ∷ es) (a ∷ os) = answer_line n e a ++ answer_lines (n + 1) es os

abbrev pub fault_line : Option ℕ → Option Fault → List ℕ
fault_line number None = []
fault_line None (Some f) = line (fault_text f ∷ [])
fault_line (Some zero) (Some f) = line (fault_text f ∷ [])
fault_line (Some (suc n)) (Some f) = []

abbrev pub run_text : Meaning → List ℕ → List ℕ
run_text m bytes =
    let es = events_of bytes in
    let number = opening_in es in
    opening_line number ++ answer_lines 2 (drop 1 es) (answers_in m es) ++ fault_line number (fault_of bytes)

abbrev pub transcript_of : List ℕ → List ℕ
transcript_of bytes = run_text zero_table bytes

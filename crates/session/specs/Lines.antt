-- What a line of a script makes of a session. Assumes nothing.
--   Reply   what a line is answered
--   Takes   a text is taken for a model: what is said (r), and what is held after (k)
--   Loads   the same of a file, whose text is not known; it may be one that cannot be read, or for which there is no memory
--   Opens   what an opening does
--   Does    what a command does
--   PlaysBy, Plays   what a line does: nothing where it asks for nothing or has an error, else what its command does
-- Want of memory is the only freedom, and it changes nothing.
use Rattle.std.specs.Prelude.{◌≡◌, ℕ, ◌⊎◌, List, Some, None, Ok, Err, Option, Result}
use Rattle.models.specs.declared.refusal.MakingRefusal.{MakingRefusal}
use Rattle.modelfile.specs.Parts.{means, refused, malformed}
use Rattle.modelfile.specs.Texts.{Gives}
use Rattle.refusals.specs.Refusals.{result_number}
use Rattle.rules.specs.Opening.{opening_result}
use Rattle.script.specs.Commands.{command_of}
use Rattle.script.specs.declared.command.Command.{Command}
use Rattle.script.specs.declared.command.Command.TheVariants.{Open, Model, Call, Report}
use Rattle.script.specs.declared.reason.Reason.{Reason}
use Rattle.script.specs.declared.reason.Reason.TheVariants.{NoFile, NotModel, NoMemory}
use Rattle.session.specs.declared.said.Said.{Said}
use Rattle.session.specs.declared.said.Said.TheVariants.{Nothing, Opened, Loaded, Refused, Replied, Report as Reported}
use Rattle.session.specs.Held.{Held, opened, called, after_call, with_model}

abbrev pub Reply : Type 0
Reply = Result Said Reason

abbrev pub Takes : List ℕ → Held → Reply → Held → Type 0
Takes text h r k =
    ((r ≡ Ok Loaded) × (Gives text (means k.model) × (k ≡ with_model h k.model)))
    ⊎ (((e : MakingRefusal) × ((r ≡ Ok (Refused e)) × (Gives text (refused e) × (k ≡ h))))
    ⊎ (((r ≡ Err NotModel) × (Gives text malformed × (k ≡ h)))
    ⊎ ((r ≡ Err NoMemory) × (k ≡ h))))

abbrev pub Loads : Held → Reply → Held → Type 0
Loads h r k = ((text : List ℕ) × Takes text h r k) ⊎ (((r ≡ Err NoFile) ⊎ (r ≡ Err NoMemory)) × (k ≡ h))

abbrev pub Opens : ℕ → ℕ → Held → Reply → Held → Type 0
Opens n month h r k =
    ((r ≡ Ok (Opened (result_number (opening_result n month)))) × (k ≡ opened n month h)) ⊎ ((r ≡ Err NoMemory) × (k ≡ h))

abbrev pub Does : Command → Held → Reply → Held → Type 0
Does (Open n month) h r k = Opens n month h r k
Does Model h r k = Loads h r k
Does (Call c) h r k = (r ≡ Ok (Replied c (called h c).reply)) × (k ≡ after_call h c)
Does Report h r k = (r ≡ Ok Reported) × (k ≡ h)

abbrev pub PlaysBy : Result (Option Command) Reason → Held → Reply → Held → Type 0
PlaysBy (Ok None) h r k = (r ≡ Ok Nothing) × (k ≡ h)
PlaysBy (Ok (Some c)) h r k = Does c h r k
PlaysBy (Err e) h r k = (r ≡ Err e) × (k ≡ h)

abbrev pub Plays : List ℕ → Held → Reply → Held → Type 0
Plays line h r k = PlaysBy (command_of line) h r k

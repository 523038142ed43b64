-- Why a line is not answered. Assumes nothing.
--   reason_text   how each reason is written
use Rattle.std.specs.Prelude.{ℕ, List, codes}
use Rattle.script.specs.declared.reason.Reason.{Reason}
use Rattle.script.specs.declared.reason.Reason.TheVariants.{UnknownWord, MissingNumber, NotNumber, Negative, TooLarge, TooManyWords, MissingName, NoFile, NotModel, NoMemory}

abbrev pub reason_text : Reason → List ℕ
reason_text UnknownWord = codes "unknown word"
reason_text MissingNumber = codes "missing number"
reason_text NotNumber = codes "not a number"
reason_text Negative = codes "negative number"
reason_text TooLarge = codes "number too large"
reason_text TooManyWords = codes "too many words"
reason_text MissingName = codes "missing file name"
reason_text NoFile = codes "cannot read file"
reason_text NotModel = codes "not a model file"
reason_text NoMemory = codes "out of memory"

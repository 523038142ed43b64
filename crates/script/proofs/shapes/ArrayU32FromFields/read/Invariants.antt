use Rattle.std.proofs.Common.{◌≡◌, ◌-◌, length, replicate, take}
use Rattle.script.specs.Fields.{bits32, then, fields_of}
use Rattle.script.proofs.Chains.{prefixed}
use Rattle.script.proofs.shapes.ArrayU32FromFields.read.Given as goal

-- the fields up to x are read, and the others follow
abbrev pub invariant-loop-x : goal.invariant-loop-x
invariant-loop-x g l =
    (length l.x-items ≡ l.initial.x-index-end)
    × (fields_of (replicate l.initial.x-index-end bits32) l.fn.scan.rest.now
    ≡ then (fields_of (replicate (l.initial.x-index-end - l.x-index) bits32) l.scan.rest.now) (prefixed (take l.x-index l.x-items)))

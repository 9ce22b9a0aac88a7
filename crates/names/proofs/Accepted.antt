-- Every metal of an accepted sheet has a name. Assumes nothing.
use Rattle.std.specs.Prelude.{ℕ, ◌≤◌, ◌≡◌, List, length}
use Rattle.field.specs.Judging.{third_of}
use Rattle.sheet.specs.declared.Day.{Day}
use Rattle.sheet.specs.Judgement.{accepts, judge_sheet}
use Rattle.sheet.specs.laws.Accepted.{accepted-right}
use Rattle.names.specs.Names.{metal_name}
use Rattle.names.specs.laws.Names.{named}

pub accepted-named : (s : List ℕ) (day : Day) → judge_sheet s ≡ accepts day → 1 ≤ length (metal_name day.metal)
accepted-named s day a = named day.metal day.marks (third_of day.form) (accepted-right s day a)

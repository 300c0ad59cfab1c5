-- The numbers by which the reasons are told.
use Rattle.std.specs.Prelude.{ℕ}
use Rattle.bc_script.specs.declared.reason.Reason.{Reason}
use Rattle.bc_script.specs.declared.reason.Reason.TheVariants.{TooMany, Length, Number, Worker, Word, Range}

abbrev pub number_of : Reason → ℕ
number_of Length = 1
number_of Word = 2
number_of Number = 3
number_of Range = 4
number_of Worker = 5
number_of TooMany = 6

-- A part that is kept apart, lent to be changed.
use Rattle.std.specs.Borrow.{Lends, Fml, RattleType, MutBor}
use Rattle.bc_machine.specs.contracts.part.Apart.{the_row}

-- once the borrow ends, the part is what it shows last
abbrev pub LendsPart : (T : RattleType) → MutBor T.Denot → MutBor T.Denot → Fml
LendsPart T apart part = Lends (the_row T) T apart part (λ w. w)

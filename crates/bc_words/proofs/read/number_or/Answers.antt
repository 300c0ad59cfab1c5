use Rattle.std.proofs.Common.{◌≡◌, arith}
use Rattle.std.specs.Prelude.{option_map}
use Rattle.bc_words.proofs.Commands.{one_number}
use Rattle.bc_words.proofs.read.number_or.Goals as goal

pub returns-then-number-least : goal.returns-then-number-least
returns-then-number-least c = λ number within said.
    let high = within.high in
    let low = within.low in
    let same : number ≡ c.in_ok-number.number =
    one_number c.args.default (option_map (λ s. s.now) c.args.word) number c.in_ok-number.number (omega arith) (omega arith) said c.in_ok-number.ensures in
    absurd (omega (arith, c.then-number-least.either))

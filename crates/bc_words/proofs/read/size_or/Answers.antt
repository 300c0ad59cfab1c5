use Rattle.std.proofs.Common.{◌≡◌, ℕ, arith, sym, ◌∙◌, subst}
use Rattle.std.specs.Prelude.{option_map}
use Rattle.std.specs.Int.{IsPowerOfTwo}
use Rattle.std.proofs.lemmas.Bool.{eq-eqb, eqb-true, false≢true}
use Rattle.bc_words.proofs.Commands.{one_number}
use Rattle.bc_words.proofs.Powers.{power_of_one_bit, one_bit_of_power}
use Rattle.bc_words.proofs.read.size_or.Goals as goal

pub returns-then-not-is_power_of_two : goal.returns-then-not-is_power_of_two
returns-then-not-is_power_of_two c = λ size is said.
    let high = is.within.high in
    let same : size ≡ c.in_ok-size.size =
    one_number c.args.default (option_map (λ s. s.now) c.args.word) size c.in_ok-size.size (omega arith) (omega arith) said c.in_ok-size.ensures.1 in
    let bit = one_bit_of_power c.in_ok-size.size (subst (λ (n : ℕ). IsPowerOfTwo n) same is.power) in
    absurd (false≢true (sym c.if-not-is_power_of_two.true ∙ c.is_power_of_two.ensures ∙ eq-eqb _ 1 bit))

pub returns : goal.returns
returns c = (
  record {
    power = power_of_one_bit _ (eqb-true _ _ (sym c.is_power_of_two.ensures ∙ c.if-not-is_power_of_two.false));
    within = c.in_ok-size.ensures.0;
  },
  c.in_ok-size.ensures.1,
)

use Rattle.bc_plain_pair.specs.PairBytes.{pair_of}
use Rattle.bc_plain_pair.proofs.Whole.{no_backing, no_view, serves_alone, sound_by}
use Rattle.bc_plain_pair.proofs.sound.is_sound.Goals as goal

pub returns-in_default : goal.returns-in_default
returns-in_default c = no_backing (pair_of c.args.cache.now c.args.backing.now) (rw c.in_default.is at c.in_ok-b.ensures)

pub returns-then-is_pass_through : goal.returns-then-is_pass_through
returns-then-is_pass_through c =
    serves_alone (pair_of c.args.cache.now c.args.backing.now) c.in-Some.b (rw c.in-Some.is at c.in_ok-b.ensures) (c.is_pass_through.ensures.0 c.if-is_pass_through.true)

pub returns-in-Some-2 : goal.returns-in-Some-2
returns-in-Some-2 c =
    sound_by (pair_of c.args.cache.now c.args.backing.now) c.in-Some.b c.in-Some-2.v c.has_all_parts.result (rw c.in-Some.is at c.in_ok-b.ensures)
    (λ alone. (let never = c.is_pass_through.ensures.1 alone in absurd (cc))) (rw c.in-Some-2.is at c.in_ok-v.ensures) c.has_all_parts.ensures

pub returns-in-None : goal.returns-in-None
returns-in-None c =
    no_view (pair_of c.args.cache.now c.args.backing.now) c.in-Some.b (rw c.in-Some.is at c.in_ok-b.ensures)
    (λ alone. (let never = c.is_pass_through.ensures.1 alone in absurd (cc))) (rw c.in-None.is at c.in_ok-v.ensures)

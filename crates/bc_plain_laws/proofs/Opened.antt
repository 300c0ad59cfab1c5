-- What a plain run opens with is a sound pair, and no two seats are of one worker.
use Rattle.std.proofs.Common.{◌≡◌, Bool, ℕ, ◌+◌, ◌/◌, ◌%◌, ◌<◌, refl, arith, if◌then◌else◌}
use Rattle.std.proofs.lemmas.Bool.{ltb-true}
use Rattle.bc_model.specs.Sector.{Image}
use Rattle.bc_data.specs.Laws.{IsPair}
use Rattle.bc_events.specs.Laws.{HaveWorkers}
use Rattle.bc_hand.specs.bc_machine.Frame.{by_test}
use Rattle.bc_hand.specs.bc_machine.Plain.{bare_data, bare_opening, worker_of}

pub pair_of : (plain : Bool) (size : ℕ) (cache held : Image)
    → IsPair (bare_data plain size cache held)
pair_of plain size cache held = record {
  books = record {
    window = λ b. (omega arith, omega arith);
    inside = λ s r is. absurd (cc);
    dirty = λ s r is dirty. absurd (cc);
    spare = λ s r is live. absurd (cc);
    fixed = λ b is. absurd (cc);
    node = λ b is. absurd (cc);
    chain = λ b is. absurd (cc);
    plain = λ b fixed node chain is. absurd (cc);
    sets = (λ j. j, λ i j low high is. is, λ j low. absurd (omega arith));
    next = (λ j. j, λ i j low high is. is, λ j low. absurd (omega arith));
  };
  agree = λ s r is clean live. absurd (cc);
  plain = λ is s. refl;
  image = λ s. refl;
}

apart : (a b : ℕ) → a < 320 → b < 320 → worker_of a ≡ worker_of b → a ≡ b
apart a b low high = by_test (a % 16) 0
    (λ t. (if t then a / 16 else 320 + a) ≡ worker_of b → a ≡ b)
    (λ first_a. by_test (b % 16) 0 (λ t. a / 16 ≡ (if t then b / 16 else 320 + b) → a ≡ b)
    (λ first_b is. omega arith) (λ other is. absurd (omega arith)))
    (λ other_a. by_test (b % 16) 0 (λ t. 320 + a ≡ (if t then b / 16 else 320 + b) → a ≡ b)
    (λ first_b is. absurd (omega arith)) (λ other is. omega arith))

pub workers_of : (plain : Bool) (size : ℕ) (cache held : Image)
    → HaveWorkers (bare_opening plain size cache held)
workers_of plain size cache held a b low high is =
    apart a b (ltb-true a 320 low) (ltb-true b 320 high) is

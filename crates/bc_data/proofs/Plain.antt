-- The run that uses the backing device alone.
use Rattle.std.proofs.Common.{inl, inr, true, refl, arith}
use Rattle.bc_books.proofs.Small.{sound_small}
use Rattle.bc_data.specs.Seats.{Covers}
use Rattle.bc_data.specs.Data.{State, MakeClaim, claim_of, start}
use Rattle.bc_data.specs.Enabled.{IsBare}
use Rattle.bc_data.specs.After.{after}
use Rattle.bc_data.specs.Example.{plain_pair, one_value, LawPlain}
use Rattle.bc_data.proofs.Asked.{run_one}

abbrev claimed : State
claimed = after plain_pair (start plain_pair) 1 (MakeClaim 0 1 true)

pub law_plain : LawPlain
law_plain = record {
  sound = record {
    books = sound_small;
    agree = λ s r e. absurd (cc);
    plain = λ e s. refl;
    image = λ s. refl;
  };
  run = (
    record {
      heard = refl;
      steps = tt;
      can = record {
        none = refl;
        inside = omega arith;
        apart = λ k ne. inr
            (λ s p q. let q1 = q.1 in omega arith);
      };
    },
    (
      record {
        heard = inl refl;
        steps = tt;
        can = record {
          some = λ e. cc;
          exclusive = refl;
          first_write = refl;
          bare = λ s v e. run_one 0 one_value s v
              (λ s v. Covers (claim_of claimed 1) s × IsBare plain_pair.plain
              (claim_of claimed 1) claimed.books.journal.durable s)
              ((omega arith, omega arith), inl refl) e;
        };
      },
      (
        record { heard = inl refl; steps = tt; can = tt },
        (
          record { heard = refl; steps = tt; can = record { exclusive = refl; wrote = refl; its_line = refl; its_first = refl; its_count = omega arith; keys = omega arith; firm = refl } },
          (record { heard = tt; steps = tt; can = tt }, tt),
        ),
      ),
    ),
  );
  history = refl;
}

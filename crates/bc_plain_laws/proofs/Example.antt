-- The runs of the example.
use Rattle.std.proofs.Common.{◌≡◌, inl, inr, ℕ, ◌-◌, true, List, [], ◌∷◌, Option, Some, None, refl, sym, subst, arith}
use Rattle.std.specs.Prelude.{nat_lt, if◌then◌else◌}
use Rattle.std.proofs.lemmas.Bool.{le-ltb}
use Rattle.bc_model.specs.Sector.{Value, Image, at_run, unless}
use Rattle.bc_disk.specs.Device.{Among, instead, besides}
use Rattle.bc_data.specs.Seats.{Claim, Covers, new_claim}
use Rattle.bc_data.specs.Enabled.{IsBare}
use Rattle.bc_data.specs.Example.{zero_value, one_value}
use Rattle.bc_data.proofs.Asked.{run_one}
use Rattle.bc_hand.specs.bc_machine.declared.part.BackingPart.{BackingPart}
use Rattle.bc_hand.specs.bc_machine.declared.part.CorePart.TheVariants as part
use Rattle.bc_hand.specs.bc_machine.World.{World, opening, IsBackingOf, IsEnabled, after}
use Rattle.bc_hand.proofs.of_bc_machine.Viewing.{plain_view}
use Rattle.bc_events.specs.declared.event.Deed.TheVariants.{Claim as ClaimDeed, BackingWrite, BackingBarrier}
use Rattle.bc_flight.specs.declared.claim.Share.TheVariants.{Exclusive}
use Rattle.bc_events.specs.declared.event.Event.{Event}
use Rattle.bc_plain_laws.specs.Example.{Shown, shown_facts, none_used, fresh, with_one, undoable, kept, a_line, a_write, a_firm_write, HasRun, LawRuns, LawTeeth}

abbrev part_of : Shown → BackingPart Shown
part_of x = record { disk = x; offset = 0; size = 1; fits = omega arith }

-- a sector of data that begin at sector 0
at_zero : (ahead : Image) (values : ℕ → List Value) (t : ℕ) (v : Value) → Among v (values t)
    → Among v (if nat_lt t 0 then ahead t ∷ [] else values (t - 0))
at_zero ahead values t v among = let same : t ≡ t - 0 = omega arith in
    subst (λ b. Among v (if b then ahead t ∷ [] else values (t - 0)))
    (sym (le-ltb t 0 (omega arith)))
    (subst (λ k. Among v (values k)) same among)

in_instead : (o : Option Value) → Among (unless o zero_value) (instead o (zero_value ∷ []))
in_instead None = inl refl
in_instead (Some v) = inl refl

in_besides : (o : Option Value) → Among zero_value (besides o (zero_value ∷ []))
in_besides None = inl refl
in_besides (Some v) = inr (inl refl)

-- ---- the steps of the run

abbrev x0 : World
x0 = opening none_used shown_facts (part.Backing (part_of fresh) ∷ [])

abbrev claims : Event
claims = record { seat = 16; deed = ClaimDeed 0 1 Exclusive }

abbrev writes : Event
writes = record { seat = 16; deed = BackingWrite 0 (Some a_line) (one_value ∷ []) }

abbrev settles : Event
settles = record { seat = 16; deed = BackingBarrier }

claim_on : IsEnabled x0 claims
claim_on = record {
  seat = refl;
  allowed = λ told plain. record {
    enabled = record {
      seat = refl;
      course = (
        record {
          data_allows = (
            record {
              heard = refl;
              steps = tt;
              can = record {
                none = refl;
                inside = omega arith;
                apart = λ k ne. inr (λ s p q. let q1 = q.1 in omega arith);
              };
            },
            tt,
          );
          asks = refl;
        },
        (
          record {
            data_allows = (record { heard = refl; steps = tt; can = λ s covers. refl }, tt);
            asks = refl;
          },
          tt,
        ),
      );
      fit = omega arith;
      its_line = tt;
      plain = λ _. (tt, (tt, tt));
    };
    names = tt;
    number = tt;
  };
  follows = λ o is course. let t = is.with_cache in absurd (cc);
}

-- the claim, once it was looked at
abbrev looked : Claim
looked = record (new_claim 0 1 true) { looked = true }

write_on : IsEnabled (after x0 claims) writes
write_on = record {
  seat = refl;
  allowed = λ told plain. record {
    enabled = record {
      seat = refl;
      course = (
        record {
          data_allows = (
            record {
              heard = inl refl;
              steps = tt;
              can = record {
                some = λ e. cc;
                exclusive = refl;
                first_write = refl;
                bare = λ s v e. run_one 0 one_value s v
                    (λ s v. Covers looked s × IsBare true looked 0 s)
                    ((omega arith, omega arith), inl refl) e;
              };
            },
            tt,
          );
          asks = refl;
        },
        tt,
      );
      fit = tt;
      its_line = refl;
      plain = λ _. (tt, tt);
    };
    names = tt;
    number = tt;
  };
  follows = λ o is course. let t = is.with_cache in absurd (cc);
}

barrier_on : IsEnabled (after (after x0 claims) writes) settles
barrier_on = record {
  seat = refl;
  allowed = λ told plain. record {
    enabled = record {
      seat = refl;
      course = (
        record { data_allows = (record { heard = inl refl; steps = tt; can = tt }, tt); asks = refl },
        tt,
      );
      fit = tt;
      its_line = tt;
      plain = λ _. (tt, tt);
    };
    names = tt;
    number = tt;
  };
  follows = λ o is course. let t = is.with_cache in absurd (cc);
}

-- ---- what they leave

one_there : (t : ℕ) → Among (with_one t) (if nat_lt t 0 then zero_value ∷ []
    else instead (at_run 0 (one_value ∷ []) (t - 0)) (zero_value ∷ []))
one_there t = at_zero (λ s. zero_value)
    (λ s. instead (at_run 0 (one_value ∷ []) s) (zero_value ∷ []))
    t (with_one t) (in_instead (at_run 0 (one_value ∷ []) t))

none : HasRun fresh fresh []
none = record {
  first = part_of fresh;
  left = part_of fresh;
  first_is = refl;
  left_is = refl;
  run = record { plain = refl; course = tt };
  stands = λ y view. subst (IsBackingOf none_used shown_facts (part_of fresh)) (sym (plain_view x0 y refl view)) (record {
    stands = record {
      sectors = refl;
      content = (
        λ t. at_zero (λ s. zero_value) (λ s. zero_value ∷ []) t zero_value (inl refl),
        λ image can t. at_zero (λ s. zero_value) (λ s. zero_value ∷ []) t (image t) (can t),
      );
      calls = refl;
      faults = refl;
    };
    offset = refl;
    size = refl;
    inside = omega arith;
  });
}

write : HasRun fresh undoable a_write
write = record {
  first = part_of fresh;
  left = part_of undoable;
  first_is = refl;
  left_is = refl;
  run = record { plain = refl; course = (claim_on, (write_on, tt)) };
  stands = λ y view. subst (IsBackingOf none_used shown_facts (part_of undoable)) (sym (plain_view (after (after x0 claims) writes) y refl view)) (record {
    stands = record {
      sectors = refl;
      content = (
        one_there,
        λ image can t. at_zero (λ s. zero_value)
            (λ s. besides (at_run 0 (one_value ∷ []) s) (zero_value ∷ [])) t (image t) (can t),
      );
      calls = refl;
      faults = refl;
    };
    offset = refl;
    size = refl;
    inside = omega arith;
  });
}

firm : HasRun fresh kept a_firm_write
firm = record {
  first = part_of fresh;
  left = part_of kept;
  first_is = refl;
  left_is = refl;
  run = record { plain = refl; course = (claim_on, (write_on, (barrier_on, tt))) };
  stands = λ y view. subst (IsBackingOf none_used shown_facts (part_of kept)) (sym (plain_view (after (after (after x0 claims) writes) settles) y refl view)) (record {
    stands = record {
      sectors = refl;
      content = (
        one_there,
        λ image can t. at_zero (λ s. zero_value)
            (λ s. instead (at_run 0 (one_value ∷ []) s) (zero_value ∷ [])) t (image t) (can t),
      );
      calls = refl;
      faults = refl;
    };
    offset = refl;
    size = refl;
    inside = omega arith;
  });
}

pub law_runs : LawRuns
law_runs = record {
  none = none;
  firm = firm;
  ends = record { before = a_write; seat = 16; is = refl; running = refl };
}

pub law_teeth : LawTeeth
law_teeth = record {
  run = write;
  unstable = λ stable. let is : zero_value ≡ one_value = stable (λ s. zero_value)
      (λ s. in_besides (at_run 0 (one_value ∷ []) s)) 0 in absurd (cc);
  backing = part_of fresh;
  disk = refl;
  course = (
    record {
      seat = refl;
      allowed = λ is plain. absurd (cc);
      follows = λ o is course. let t = is.told in absurd (cc);
    },
    tt,
  );
  wrong = λ legal. let is : one_value ≡ zero_value = legal.0 0 one_value refl in absurd (cc);
}

-- The plain run of a forced write and a flush.
use Rattle.std.proofs.Common.{inl, true, refl, arith}
use Rattle.bc_data.specs.Seats.{Claim, Covers, new_claim}
use Rattle.bc_data.specs.Enabled.{IsBare}
use Rattle.bc_data.specs.Example.{one_value}
use Rattle.bc_data.proofs.Asked.{run_one}
use Rattle.bc_data.proofs.Plain as data_plain
use Rattle.bc_events.specs.Example.{LawPlainRuns, LawPlainTooth}

-- the claim of the whole device, once it was looked at
abbrev looked : Claim
looked = record (new_claim 0 1 true) { looked = true }

pub law_plain_runs : LawPlainRuns
law_plain_runs layout before store x n =
    let on = data_plain.law_plain.run in record {
      plain = refl;
      sound = data_plain.law_plain.sound;
      course = (
        record {
          seat = refl;
          course = tt;
          fit = refl;
          its_line = refl;
          plain = λ _. tt;
        },
        (
          record {
            seat = refl;
            course = (
              record { data_allows = (on.0, tt); asks = refl },
              (
                record {
                  data_allows = (record { heard = refl; steps = tt; can = λ s covers. refl }, tt);
                  asks = refl;
                },
                tt,
              ),
            );
            fit = omega arith;
            its_line = tt;
            plain = λ _. (tt, (tt, tt));
          },
          (
            record {
              seat = refl;
              course = (
                record {
                  data_allows = (
                    record {
                      heard = inl refl;
                      steps = tt;
                      can = record {
                        some = λ e. cc;
                        exclusive = refl;
                        first_write = refl;
                        bare = λ s v e. run_one 0 one_value s v (λ s v. Covers looked s × IsBare true looked 0 s)
                            ((omega arith, omega arith), inl refl) e;
                      };
                    },
                    tt,
                  );
                  asks = refl;
                },
                tt,
              );
              fit = tt;
              its_line = refl;
              plain = λ _. (tt, tt);
            },
            (
              record {
                seat = refl;
                course = (record { data_allows = (record { heard = inl refl; steps = tt; can = tt }, tt); asks = refl }, tt);
                fit = tt;
                its_line = tt;
                plain = λ _. (tt, tt);
              },
              (
                record {
                  seat = refl;
                  course = (
                    record {
                      data_allows = (
                        record {
                          heard = refl;
                          steps = tt;
                          can = record {
                            exclusive = refl;
                            wrote = refl;
                            its_line = refl;
                            its_first = refl;
                            its_count = omega arith;
                            keys = omega arith;
                            firm = refl;
                          };
                        },
                        tt,
                      );
                      asks = refl;
                    },
                    tt,
                  );
                  fit = tt;
                  its_line = refl;
                  plain = λ _. (tt, tt);
                },
                (
                  record {
                    seat = refl;
                    course = (record { data_allows = (record { heard = tt; steps = tt; can = tt }, tt); asks = refl }, tt);
                    fit = tt;
                    its_line = tt;
                    plain = λ _. (tt, tt);
                  },
                  (
                    record {
                      seat = refl;
                      course = tt;
                      fit = (refl, refl);
                      its_line = refl;
                      plain = λ _. tt;
                    },
                    (
                      record {
                        seat = refl;
                        course = (record { data_allows = (record { heard = refl; steps = tt; can = tt }, tt); asks = refl }, tt);
                        fit = tt;
                        its_line = refl;
                        plain = λ _. (tt, tt);
                      },
                      (
                        record {
                          seat = refl;
                          course = (record { data_allows = (record { heard = inl refl; steps = tt; can = tt }, tt); asks = refl }, tt);
                          fit = tt;
                          its_line = tt;
                          plain = λ _. (tt, tt);
                        },
                        (
                          record {
                            seat = refl;
                            course = (record { data_allows = (record { heard = refl; steps = tt; can = record { going = refl; its_line = refl; keys = omega arith; firm = refl } }, tt); asks = refl }, tt);
                            fit = tt;
                            its_line = refl;
                            plain = λ _. (tt, tt);
                          },
                          tt,
                        ),
                      ),
                    ),
                  ),
                ),
              ),
            ),
          ),
        ),
      );
      history = refl;
    }

pub law_plain_tooth : LawPlainTooth
law_plain_tooth layout before store x n on =
    let firm = on.course.0.data_allows.0.can.firm in absurd (cc)

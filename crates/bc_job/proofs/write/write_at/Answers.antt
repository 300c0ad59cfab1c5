use Rattle.std.proofs.Common.{◌≡◌, ℕ, ◌+◌, ◌-◌, ◌≤◌, List, [], take, drop, length, inl, refl, sym, ap, ◌∙◌, arith}
use Rattle.std.proofs.lemmas.List.{take_all}
use Rattle.bc_model.specs.Sector.{Value}
use Rattle.bc_job.proofs.Looping.{done_none}
use Rattle.bc_job.proofs.write.write_at.Goals as goal

-- a piece that has all values has just these
whole : (first at count n : ℕ) (values : List Value) → length values ≡ n → count ≡ n → first ≤ at
    → at + count ≤ first + n → values ≡ take count (drop (at - first) values)
whole first at count n values long all low high =
    let none : at - first ≡ 0 = omega arith in
    sym (ap (λ k. take count (drop k values)) none ∙ take_all count values (omega arith))

pub returns-in_default-clause-err : goal.returns-in_default-clause-err
returns-in_default-clause-err g c =
    (tt, ([], inl refl, done_none g.C.Disk.facts g.B.Disk.facts c.args.seat.now c.requires.ready.works.seat))

use Rattle.std.proofs.Common.{◌≡◌, ℕ, ◌+◌, ◌<◌, false, true, inl, inr, get_or, subst}
use Rattle.std.proofs.lemmas.Bool.{cases_lt}
use Rattle.bc_spine.proofs.Alike.{next_alike, same_alike}
use Rattle.bc_spine.proofs.numbers.alike_unset.Goals as goal

pub loop-number-preserved : goal.loop-number-preserved
loop-number-preserved c =
    let inv = c.loop-number.invariant in
    record {
      alike = next_alike c.loop-number.number c.args.parts c.args.rest inv.alike;
      before = λ k is less. elim (cases_lt k c.loop-number.number) [
        | inl low ↦ inv.before k is low
        | inr high ↦ subst (λ i. get_or c.args.flags.now i false ≡ true)
            (same_alike c.loop-number.number k c.args.parts c.args.rest c.requires.rest inv.alike is
            high less) c.if-flags-number.true
      ];
    }

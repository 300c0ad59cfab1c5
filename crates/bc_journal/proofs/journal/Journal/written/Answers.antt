use Rattle.std.proofs.Common.{◌≡◌, ◌∙◌, sym, subst, ap, refl}
use Rattle.std.specs.Prelude.{Some}
use Rattle.bc_journal.specs.Journal.{Journal}
use Rattle.bc_journal.specs.Sealed.{numbers_of}
use Rattle.bc_journal.specs.declared.place.Numbers.{Numbers}
use Rattle.bc_journal.proofs.Journals.{written_so}
use Rattle.bc_journal.proofs.journal.Journal.written.Goals as goal

pub invariant_of-self : goal.invariant_of-self
invariant_of-self c =
    let inside = c.self.inside in
    let j : Journal = record { ring = inside.ring; durable = inside.durable; heads = inside.heads; sealed = inside.sealed; waiting = inside.waiting.items; needed = inside.needed } in
    let is : j.sealed ≡ Some c.numbers-self-inside.result =
    subst (λ (k : Journal). k.sealed ≡ Some (numbers_of c.args.s.entry)) (sym c.self.view_is) c.requires ∙ ap (λ (n : Numbers). Some n) (sym c.numbers-self-inside.ensures) in
    (written_so j c.numbers-self-inside.result c.heads.result.now c.self.invariant.0 is c.heads.ensures.level, c.self.invariant.1, c.self.invariant.2, refl)

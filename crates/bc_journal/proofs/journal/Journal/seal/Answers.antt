use Rattle.std.proofs.Common.{◌≡◌, ◌∙◌, sym, subst, ap, length}
use Rattle.std.specs.Prelude.{None, is_some, vec_capacity, List, Vec}
use Rattle.std.specs.declared.alloc.Global.{Global}
use Rattle.std.proofs.Common.{◌≤◌}
use Rattle.bc_key.specs.declared.key.Key.{Key}
use Rattle.bc_keys.specs.Spelling.{words_of_all}
use Rattle.bc_journal.specs.Journal.{Journal, number_of}
use Rattle.bc_journal.proofs.Journals.{sealed_as}
use Rattle.bc_journal.proofs.journal.Journal.seal.Goals as goal

pub invariant_of-self : goal.invariant_of-self
invariant_of-self c =
    let inside = c.self.inside in
    let j : Journal = record { ring = inside.ring; durable = inside.durable; heads = inside.heads; sealed = inside.sealed; waiting = inside.waiting.items; needed = inside.needed } in
    let none = subst (λ (k : Journal). k.sealed ≡ None) (sym c.self.view_is) c.requires.none in
    let number : c.number-number.result ≡ number_of j = c.number-number.ensures.value ∙ ap number_of (sym c.self.view_is) in
    let empty = ap (λ (v : Vec Key Global). v.items) c.replace-keys.ensures.after ∙ c.in-Some-take.buffers.none in (
      sealed_as j c.in-Some.place c.sectors.result c.number-number.result c.put.new.self c.replace-keys.new.dest.items c.self.invariant.0 none number c.if-number.false c.put.ensures.put c.put.ensures.ring empty,
      sym (ap (λ (ks : List Key). length (words_of_all ks)) empty),
      subst (λ (v : Vec Key Global). 2033 ≤ vec_capacity v) (sym c.replace-keys.ensures.after) c.in-Some-take.buffers.room,
      ap is_some c.take.ensures.after,
    )

use Rattle.std.proofs.Common.{◌^◌, ◌<◌, List, sym, subst, ap, length, arith}
use Rattle.bc_key.specs.declared.key.Key.{Key}
use Rattle.bc_keys.specs.Spelling.{words_of_all}
use Rattle.bc_journal.specs.Journal.{Journal, IsJournal, HasRoom, number_of}
use Rattle.bc_journal.proofs.Journals.{added, with_waiting, words_two, words_append}
use Rattle.bc_journal.proofs.journal.Journal.add.Goals as goal

pub append-requires : goal.append-requires
append-requires c =
    let more = c.args.keys.now in
    let few = (subst (λ (j : Journal). HasRoom j (length (words_of_all more))) (sym c.self.view_is) c.requires.room).few in
    omega (arith, few, words_two c.self.inside.waiting.items, words_two more, c.self.invariant.2)

pub invariant_of-self : goal.invariant_of-self
invariant_of-self c =
    let more = c.args.keys.now in
    let room = subst (λ (j : Journal). HasRoom j (length (words_of_all more))) (sym c.self.view_is) c.requires.room in
    let numbered = subst (λ (j : Journal). number_of j < 2 ^ 63) (sym c.self.view_is) c.requires.numbered in
    let inside = c.self.inside in
    let j : Journal = record { ring = inside.ring; durable = inside.durable; heads = inside.heads; sealed = inside.sealed; waiting = inside.waiting.items; needed = inside.needed } in
    let items = c.append.ensures.items in
    let words = words_append inside.waiting.items more in
    let now = ap (λ (ks : List Key). length (words_of_all ks)) items in (
      subst (λ (ks : List Key). IsJournal (with_waiting j ks)) (sym items) (added j more c.self.invariant.0 room c.requires.extents numbered),
      omega (arith, c.self.invariant.1, c.word_count.ensures.count, words, now),
      omega (arith, c.append.ensures.capacity, c.self.invariant.2),
      c.self.invariant.3,
    )

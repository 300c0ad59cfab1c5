use Rattle.std.proofs.Common.{◌≡◌, ℕ, ◌+◌, ◌<◌, ◌≤◌, ◌∙◌, List, sym, ap, subst, arith}
use Rattle.std.specs.Prelude.{All, IsTrue, false, true}
use Rattle.bc_entries.specs.Lists.{last_numbers}
use Rattle.bc_entries.specs.Reading.{StandsWithin}
use Rattle.bc_journal.specs.Journal.{journal_at}
use Rattle.bc_journal.specs.declared.heads.Heads.{Heads}
use Rattle.bc_jset.specs.EntryBytes.{IsLevel}
use Rattle.bc_jset.specs.Entries.{FoundEntry}
use Rattle.bc_resume.specs.Numbers.{AreNewest}
use Rattle.bc_resume.proofs.Held.{all_counted, below_newest, newest_of, not_empty}
use Rattle.bc_resume.proofs.journal.resume.Goals as goal

not_false : IsTrue false → ⊥
not_false h = absurd (cc)

pub last_entry-newest-requires : goal.last_entry-newest-requires
last_entry-newest-requires c = not_empty c.args.g.now c.args.read.now.all c.args.read.now.entries c.requires.fit

pub place_behind-at-requires-clause-places : goal.place_behind-at-requires-clause-places
place_behind-at-requires-clause-places c = let g = c.args.g.now in all_counted (StandsWithin g) g c.args.read.now.all c.args.read.now.entries c.requires.fit c.requires.places

pub overflow_add-next : goal.overflow_add-next
overflow_add-next c =
    let g = c.args.g.now in
    let read = c.args.read.now in
    let f = c.requires.fit in
    let last = c.last_entry-newest.ensures in
    let number = subst (λ (e : FoundEntry). e.item.seq < last_numbers) (newest_of g read.all read.entries f last.0 c.last_entry-newest.result.now last.1) f.number in
    omega (arith, number)

pub new-requires-clause-newest : goal.new-requires-clause-newest
new-requires-clause-newest c =
    let g = c.args.g.now in
    let read = c.args.read.now in
    let f = c.requires.fit in
    let newest = c.last_entry-newest.result.now in
    let last = c.last_entry-newest.ensures in
    let are : AreNewest g read.all c.in_ok-numbers.numbers.items = subst (λ (es : List FoundEntry). AreNewest g es c.in_ok-numbers.numbers.items) c.all.ensures c.in_ok-numbers.ensures in
    subst (λ (ns : List ℕ). All (λ n. n < newest.item.seq + 1) ns) (sym c.deref.ensures.value)
    (below_newest g read.all read.entries f newest c.in_ok-numbers.numbers.items (newest_of g read.all read.entries f last.0 newest last.1) are)

pub new-requires-clause-next : goal.new-requires-clause-next
new-requires-clause-next c =
    let g = c.args.g.now in
    let read = c.args.read.now in
    let f = c.requires.fit in
    let last = c.last_entry-newest.ensures in
    let number = subst (λ (e : FoundEntry). e.item.seq < last_numbers) (newest_of g read.all read.entries f last.0 c.last_entry-newest.result.now last.1) f.number in
    omega (arith, number)

pub new-requires-clause-needed : goal.new-requires-clause-needed
new-requires-clause-needed c =
    let g = c.args.g.now in
    let read = c.args.read.now in
    let f = c.requires.fit in
    let last = c.last_entry-newest.ensures in
    let reaches = subst (λ (e : FoundEntry). e.item.last_seq ≤ e.item.seq) (newest_of g read.all read.entries f last.0 c.last_entry-newest.result.now last.1) f.listed.reaches in
    omega (arith, reaches)

pub new-requires-clause-level : goal.new-requires-clause-level
new-requires-clause-level c = subst (λ (h : Heads). IsLevel h.level) (sym c.heads_of-heads.ensures) (c.has_level.ensures.0 c.if-not-has_level.false)

pub returns-then-not-has_level-clause-none : goal.returns-then-not-has_level-clause-none
returns-then-not-has_level-clause-none c =
    let last = c.last_entry-newest.ensures in
    record {
      older = last.0;
      newest = c.last_entry-newest.result.now;
      parts = last.1;
      level = λ level. not_false (subst IsTrue c.if-not-has_level.true (c.has_level.ensures.1 level));
    }

pub returns-clause-some : goal.returns-clause-some
returns-clause-some c =
    let g = c.args.g.now in
    let read = c.args.read.now in
    let newest = c.last_entry-newest.result.now in
    let last = c.last_entry-newest.ensures in
    let place = c.place_behind-at.ensures in
    let at = c.place_behind-at.result in
    let numbers = c.in_ok-numbers.numbers.items in
    record {
      older = last.0;
      newest = newest;
      parts = last.1;
      next = place.0;
      place = place.1;
      at = at;
      is_at = place.2;
      numbers = numbers;
      are_newest = subst (λ (es : List FoundEntry). AreNewest g es numbers) c.all.ensures c.in_ok-numbers.ensures;
      is = c.in_ok-journal.ensures
          ∙ ap (λ (ns : List ℕ). journal_at g at ns newest.item.last_seq (newest.item.seq + 1) c.heads_of-heads.result) c.deref.ensures.value
          ∙ ap (λ (h : Heads). journal_at g at numbers newest.item.last_seq (newest.item.seq + 1) h) c.heads_of-heads.ensures;
    }

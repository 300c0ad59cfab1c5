use Rattle.std.proofs.Common.{◌≡◌, suc, ◌≤◌, List, Some, None, subst, sym}
use Rattle.std.specs.Prelude.{All, IfOk, MatchOption}
use Rattle.bc_disk.specs.Bytes.{image_of}
use Rattle.bc_jset.specs.Entries.{FoundEntry, first_with, AreNumbered}
use Rattle.bc_plain.proofs.Listed.{no_newest, newest_above, newest_is, listed}
use Rattle.bc_plain.proofs.journal.entries_of.Goals as goal

pub returns-in_default : goal.returns-in_default
returns-in_default c =
    let all = c.in_ok-all.all.items in
    let number = c.greatest-number.result in
    let read = c.deref.ensures.value in
    no_newest c.args.g.now (image_of c.args.image.now) all c.in_ok-all.ensures number
    (subst (λ (xs : List FoundEntry). All (λ (e : FoundEntry). e.item.seq ≤ number) xs) read c.greatest-number.ensures.above)
    (λ n each. c.greatest-number.ensures.least n (subst (λ (xs : List FoundEntry). All (λ (e : FoundEntry). e.item.seq ≤ n) xs) (sym read) each))
    (subst (λ (xs : List FoundEntry). first_with number xs ≡ None) c.deref-2.ensures.value c.in_default.ensures)

pub returns-then-newest : goal.returns-then-newest
returns-then-newest c =
    let all = c.in_ok-all.all.items in
    let number = c.greatest-number.result in
    let above = subst (λ (xs : List FoundEntry). All (λ (e : FoundEntry). e.item.seq ≤ number) xs) c.deref.ensures.value c.greatest-number.ensures.above in
    let found = subst (λ (xs : List FoundEntry). first_with number xs ≡ Some c.in-Some.newest.now) c.deref-2.ensures.value c.in-Some.ensures in
    newest_above c.args.g.now (image_of c.args.image.now) all c.in_ok-all.ensures c.in-Some.newest.now (newest_is all number c.in-Some.newest.now above found) c.if-newest.true

pub returns : goal.returns
returns c =
    let all = c.in_ok-all.all.items in
    let newest = c.in-Some.newest.now in
    let number = c.greatest-number.result in
    let above = subst (λ (xs : List FoundEntry). All (λ (e : FoundEntry). e.item.seq ≤ number) xs) c.deref.ensures.value c.greatest-number.ensures.above in
    let found = subst (λ (xs : List FoundEntry). first_with number xs ≡ Some newest) c.deref-2.ensures.value c.in-Some.ensures in
    let answer =
    subst (λ (xs : List FoundEntry). IfOk c.numbered.result (λ o. MatchOption o ((es : List FoundEntry) → AreNumbered xs newest.item.last_seq es (suc newest.item.seq) → ⊥) (λ list. AreNumbered xs newest.item.last_seq list.items (suc newest.item.seq))))
    c.deref-3.ensures.value c.numbered.ensures in
    listed c.args.g.now (image_of c.args.image.now) all c.in_ok-all.ensures (λ v. v.items) newest (newest_is all number newest above found) c.if-newest.false c.numbered.result answer

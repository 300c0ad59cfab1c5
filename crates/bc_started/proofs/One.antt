-- Two journals that go on behind the same entries are one.
use Rattle.std.proofs.Common.{◌≡◌, ℕ, zero, suc, ◌+◌, ◌<◌, List, [], ◌∷◌, length, refl, sym, ap, ◌∙◌, subst, arith}
use Rattle.std.specs.Prelude.{slice_index}
use Rattle.bc_disk.specs.declared.geometry.Geometry.{Geometry}
use Rattle.bc_enter.proofs.Rooms.{one_next}
use Rattle.bc_entries.specs.Journal.{Journal as Read}
use Rattle.bc_entries.specs.Lists.{IsFit}
use Rattle.bc_journal.specs.Journal.{Journal, journal_at}
use Rattle.bc_journal.specs.Sealed.{heads_of}
use Rattle.bc_journal.specs.declared.place.Place.{Place}
use Rattle.bc_jset.specs.Entries.{FoundEntry}
use Rattle.bc_jset.specs.Ring.{IsNextPlace, bucket_of}
use Rattle.bc_resume.specs.Behind.{IsAt}
use Rattle.bc_resume.specs.Numbers.{AreNewest}
use Rattle.bc_resume.specs.Resume.{IsResumed}
use Rattle.bc_resume.proofs.Held.{newest_of}

-- lists with the same number in each place
same_numbers : (xs ys : List ℕ) → length xs ≡ length ys
    → ((i : ℕ) → i < length xs → slice_index xs i ≡ slice_index ys i) → xs ≡ ys
same_numbers [] [] long same = refl
same_numbers [] (y ∷ ys) long same = absurd (omega (arith, long))
same_numbers (x ∷ xs) [] long same = absurd (omega (arith, long))
same_numbers (x ∷ xs) (y ∷ ys) long same =
    let first : x ≡ y = same zero (omega arith) in
    let rest : xs ≡ ys = same_numbers xs ys (omega (arith, long))
    (λ i low. same (suc i) (omega (arith, low))) in
    ap (λ n. n ∷ xs) first ∙ ap (λ (l : List ℕ). y ∷ l) rest

same_place : (p q : Place) → p.bucket ≡ q.bucket → p.sector ≡ q.sector → p ≡ q
same_place p q bucket sector = ap (λ b. record { bucket = b; sector = p.sector }) bucket
    ∙ ap (λ s. record { bucket = q.bucket; sector = s }) sector

one_place : (g : Geometry) (bucket sector : ℕ) (p q : Place) → IsAt g bucket sector p
    → IsAt g bucket sector q → p ≡ q
one_place g bucket sector p q a b =
    let first = a.bucket_is in
    let second = b.bucket_is in
    let here = a.sector_is in
    let there = b.sector_is in
    same_place p q (omega (arith, first, second)) (omega (arith, here, there))

one_list : (g : Geometry) (all : List FoundEntry) (xs ys : List ℕ) → AreNewest g all xs
    → AreNewest g all ys → xs ≡ ys
one_list g all xs ys a b = same_numbers xs ys (a.each ∙ sym b.each) (λ i low.
    (let inside : i < g.journal = subst (λ n. i < n) a.each low in
    a.greatest i inside ∙ sym (b.greatest i inside)))

pub one_resumed : (g : Geometry) (read : Read) → IsFit g read.all read.entries → (j k : Journal)
    → IsResumed g read j → IsResumed g read k → j ≡ k
one_resumed g read fit j k a b =
    let newest : b.newest ≡ a.newest =
    sym (newest_of g read.all read.entries fit b.older b.newest b.parts)
    ∙ newest_of g read.all read.entries fit a.older a.newest a.parts in
    let next : b.next ≡ a.next = one_next g read.entries a.newest b.next a.next
    (subst (λ (e : FoundEntry). IsNextPlace g read.entries e b.next) newest b.place) a.place in
    let at : b.at ≡ a.at = one_place g (bucket_of g a.newest) a.next b.at a.at
    (subst (λ n. IsAt g (bucket_of g a.newest) n b.at) next
    (subst (λ (e : FoundEntry). IsAt g (bucket_of g e) b.next b.at) newest b.is_at)) a.is_at in
    let numbers = one_list g read.all b.numbers a.numbers b.are_newest a.are_newest in
    sym (b.is
    ∙ ap (λ (p : Place). journal_at g p b.numbers b.newest.item.last_seq (b.newest.item.seq + 1) (heads_of b.newest.item)) at
    ∙ ap (λ (l : List ℕ). journal_at g a.at l b.newest.item.last_seq (b.newest.item.seq + 1) (heads_of b.newest.item)) numbers
    ∙ ap (λ (e : FoundEntry). journal_at g a.at a.numbers e.item.last_seq (e.item.seq + 1) (heads_of e.item)) newest
    ∙ sym a.is)

-- The entry that follows those that were read: its place, its numbers and what it names.
use Rattle.std.proofs.Common.{cond, false, lit≤, ◌≡◌, ◌≢◌, inl, inr, ℕ, suc, ◌+◌, ◌*◌, ◌<◌, ◌≤◌, ◌^◌, List, [], ◌∷◌, refl, sym, ap, ◌∙◌, subst, arith}
use Rattle.std.specs.Prelude.{All}
use Rattle.std.proofs.lemmas.Bool.{cases_lt}
use Rattle.std.proofs.lemmas.List.Elements.{All-nil, All-cons, All-contains, All-weaker}
use Rattle.std.proofs.Math.Nat.{mul-add}
use Rattle.bc_model.proofs.Cases.{by_le}
use Rattle.bc_disk.specs.declared.geometry.Geometry.{Geometry}
use Rattle.bc_jset.specs.declared.entry.JEntry.{JEntry}
use Rattle.bc_jset.specs.Entries.{FoundEntry, AreNumbered, bucket_start}
use Rattle.bc_jset.specs.Records.{entry_sectors}
use Rattle.bc_jset.specs.Ring.{IsFree, IsNextPlace, bucket_after, bucket_of}
use Rattle.bc_jset.proofs.Entries.{found_number}
use Rattle.bc_entries.specs.Journal.{Journal as Read}
use Rattle.bc_entries.specs.Lists.{IsFit, last_numbers}
use Rattle.bc_journal.specs.Journal.{HasRoom, IsSealed, Journal, entry_now, journal_at, number_of}
use Rattle.bc_journal.specs.Ring.{following, sectors_for}
use Rattle.bc_journal.specs.Sealed.{Sealed, heads_of, sector_at}
use Rattle.bc_journal.specs.declared.heads.Heads.{Heads}
use Rattle.bc_journal.specs.declared.place.Place.{Place}
use Rattle.bc_journal.proofs.Left.{Goes, goes}
use Rattle.bc_journal.proofs.Sizes.{most_fit}
use Rattle.bc_resume.specs.Resume.{HasNoLevel, IsResumed}
use Rattle.bc_resume.proofs.Held.{newest_of}
use Rattle.bc_enter.specs.Entry.{GoesTo, IsOpeningEntry, NeedsOldest}
use Rattle.bc_enter.specs.Begun.{IsBegun, IsUnsealed}
use Rattle.bc_enter.specs.Next.{IsNext, IsOdd}
use Rattle.bc_enter.specs.declared.next.Next.{Next}
use Rattle.bc_enter.proofs.Low.{IsNeeded, IsReached}
use Rattle.bc_enter.proofs.Rooms.{after_is, behind_last, free_greatest, greatest_free, in_front, one_block, one_next}

-- those that count have the numbers from one on
from_on : (all : List FoundEntry) (low next : ℕ) (es : List FoundEntry) → AreNumbered all low es next → All (λ e. low ≤ e.item.seq) es
from_on all low next [] p = All-nil (λ (e : FoundEntry). low ≤ e.item.seq)
from_on all low next (e ∷ es) p =
    let is = found_number low all e p.0 in
    All-cons (λ (x : FoundEntry). low ≤ x.item.seq) e es (omega (arith, is))
    (All-weaker (λ (x : FoundEntry). suc low ≤ x.item.seq) (λ (x : FoundEntry). low ≤ x.item.seq) (λ x up. omega (arith, up)) es (from_on all (suc low) next es p.1))

following_in : (g : Geometry) (k : ℕ) → k < g.journal → following g k < g.journal
following_in g k inside = by_le (suc (k + 1)) g.journal (λ b. cond b (k + 1) 0 < g.journal) (λ up. up) (λ _. omega (arith, inside))

-- one without a level is odd
pub no_level_is_odd : (read : Read) → HasNoLevel read → IsOdd read
no_level_is_odd read h = record { older = h.older; newest = h.newest; parts = h.parts; odd = inl h.level }

module _ (g : Geometry) (read : Read) (fit : IsFit g read.all read.entries) (j : Journal) (r : IsResumed g read j) where
  newest_is : fit.newest ≡ r.newest
  newest_is = newest_of g read.all read.entries fit r.older r.newest r.parts

  at_start : g.bucket * bucket_of g r.newest ≡ bucket_start g r.at.bucket
  at_start = ap (λ n. g.bucket * n) (sym r.is_at.bucket_is)

  -- where the newest one's number may be needed no longer, an entry without keys has a place
  pub has_room : 0 < r.newest.item.last_seq → HasRoom j 0
  has_room some =
      let room = fit.room in
      let low = r.newest.item.last_seq in
      let number = r.newest.item.seq + 1 in
      subst (λ k. HasRoom k 0) (sym r.is) (elim room.room [
        | inl behind ↦ behind_last g r.at r.numbers low number (heads_of r.newest.item) (
            let next = one_next g read.entries r.newest room.next r.next (subst (λ e. IsNextPlace g read.entries e room.next) newest_is room.place) r.place in
            let more = mul-add g.bucket (bucket_of g r.newest) 1 in
            let size = one_block g in
            let spot = r.is_at.sector_is in
            let fits : room.next + g.block ≤ g.bucket * (bucket_of g r.newest + 1) = subst (λ (e : FoundEntry). room.next + g.block ≤ g.bucket * (bucket_of g e + 1)) newest_is behind in
            omega (arith, next, more, size, spot, fits))
        | inr free ↦ in_front g r.at r.numbers low number (heads_of r.newest.item) (
            let bucket : bucket_after g (bucket_of g r.newest) ≡ g.first_bucket + following g r.at.bucket =
            ap (bucket_after g) (sym r.is_at.bucket_is) ∙ after_is g r.at.bucket r.is_at.proper.bucket in
            let inside = following_in g r.at.bucket r.is_at.proper.bucket in
            let none : IsFree g read.all r.newest (g.first_bucket + following g r.at.bucket) =
            subst (λ b. IsFree g read.all r.newest b) bucket (subst (λ (e : FoundEntry). IsFree g read.all e (bucket_after g (bucket_of g e))) newest_is free) in
            subst (λ n. n < low) (sym (r.are_newest.greatest (following g r.at.bucket) inside))
            (free_greatest g (g.first_bucket + following g r.at.bucket) low read.all some none))
      ])

  -- so where it has none, the newest one needs an entry of number 0
  pub full_is_odd : ¬ (HasRoom j 0) → IsOdd read
  full_is_odd none = record {
    older = r.older;
    newest = r.newest;
    parts = r.parts;
    odd = inr (elim (cases_lt 0 r.newest.item.last_seq) [ inl some ↦ absurd (none (has_room some)) | inr zero ↦ omega (arith, zero) ]);
  }

  -- what the next one needs is behind what the newest one needed
  pub needs_later : (low : ℕ) → IsReached read.entries (number_of j) low → j.needed ≤ low
  needs_later low reached = subst (λ n. n ≤ low) (sym (ap (λ (k : Journal). k.needed) r.is)) (elim reached [
    | inl end ↦ (
        let is = end ∙ ap number_of r.is in
        let reaches = subst (λ (e : FoundEntry). e.item.last_seq ≤ e.item.seq) newest_is fit.listed.reaches in
        omega (arith, is, reaches))
    | inr found ↦ (
        let each = from_on read.all fit.newest.item.last_seq (suc fit.newest.item.seq) read.entries fit.listed.numbered in
        let here = All-contains (λ (e : FoundEntry). fit.newest.item.last_seq ≤ e.item.seq) read.entries found.0 each found.1 in
        let is = found.3 in
        let same = ap (λ (e : FoundEntry). e.item.last_seq) newest_is in
        omega (arith, here, is, same))
  ])

  -- ---- the entry that is sealed

  module _ (low : ℕ) (old new : Journal) (heads : Heads) (s : Sealed) (is : old ≡ record j { needed = low }) (sealed : IsSealed old heads s new) where
    abbrev opened : Journal
    opened = record (journal_at g r.at r.numbers r.newest.item.last_seq (r.newest.item.seq + 1) (heads_of r.newest.item)) { needed = low }

    is_opened : old ≡ opened
    is_opened = is ∙ ap (λ (k : Journal). record k { needed = low }) r.is

    so : IsSealed opened heads s new
    so = subst (λ (k : Journal). IsSealed k heads s new) is_opened sealed

    entry_is : s.entry ≡ entry_now opened heads
    entry_is = so.entry

    follows : IsReached read.entries (number_of j) low → low ≤ number_of j → All (IsNeeded low) read.entries
        → heads ≡ heads_of r.newest.item
        → IsOpeningEntry read.entries r.newest s.entry
    follows reached most needed names =
        let from = needs_later low reached in
        let start = ap (λ (k : Journal). k.needed) r.is in
        let last = ap number_of r.is in
        let reaches = subst (λ (e : FoundEntry). e.item.last_seq ≤ e.item.seq) newest_is fit.listed.reaches in
        subst (λ (e : JEntry). IsOpeningEntry read.entries r.newest e) (sym entry_is) (record {
          number = omega arith;
          from = omega (arith, from, start);
          to = omega (arith, most, last);
          needed = needed;
          none = refl;
          uuid_bucket = ap (λ (h : Heads). h.uuid_bucket) names;
          root = ap (λ (h : Heads). h.root) names;
          level = ap (λ (h : Heads). h.level) names;
          prio = ap (λ (h : Heads). h.prio) names;
        })

    oldest : IsReached read.entries (number_of j) low → NeedsOldest read.entries s.entry
    oldest reached = subst (λ (e : JEntry). NeedsOldest read.entries e) (sym entry_is) (elim reached [
      | inl end ↦ inl (end ∙ ap number_of r.is)
      | inr found ↦ inr found
    ])

    size : entry_sectors g s.entry ≡ sectors_for g 0
    size = ap (entry_sectors g) entry_is

    went : Goes opened.ring r.newest.item.last_seq (sectors_for g 0) s.place
    went = goes opened.ring r.newest.item.last_seq false (sectors_for g 0) s.place so.place

    goes_to : GoesTo g read.all read.entries r.newest (entry_sectors g s.entry) s.place.bucket (sector_at g s.place)
    goes_to = elim went [
      | inl here ↦ (
          let bucket = ap (λ (p : Place). p.bucket) here.0 in
          let sector = ap (λ (p : Place). p.sector) here.0 in
          let start = ap (λ n. bucket_start g n) bucket in
          let room = here.1 in
          let spot = r.is_at.sector_is in
          let from = at_start in
          let place : sector_at g s.place ≡ r.next = omega (arith, start, sector, spot, from) in
          record {
            journal = subst (λ n. n < g.journal) bucket r.is_at.proper.bucket;
            fits = omega (arith, sector, size, room);
            place = inl (record {
              next = subst (λ n. IsNextPlace g read.entries r.newest n) (sym place) r.place;
              bucket = sym r.is_at.bucket_is ∙ ap (λ n. g.first_bucket + n) bucket;
            });
          })
      | inr front ↦ (
          let inside : s.place.bucket < g.journal = subst (λ n. n < g.journal) front.2 (following_in g r.at.bucket r.is_at.proper.bucket) in
          let most : sectors_for g 0 ≤ 64 = most_fit g 240 (lit≤ tt) in
          let first = front.0 in
          let bucket_from = g.bucket_from in
          record {
            journal = inside;
            fits = omega (arith, first, size, most, bucket_from);
            place = inr (record {
              free = greatest_free g (g.first_bucket + s.place.bucket) r.newest.item.last_seq read.all
                  (subst (λ n. n < r.newest.item.last_seq) (r.are_newest.greatest s.place.bucket inside) front.1);
              first = omega (arith, first);
            });
          })
    ]

    pub is_next : IsReached read.entries (number_of j) low → low ≤ number_of j → All (IsNeeded low) read.entries
        → heads ≡ heads_of r.newest.item
        → IsNext g read s
    is_next reached most needed names = record {
      older = r.older;
      newest = r.newest;
      parts = r.parts;
      geometry = so.geometry;
      entry = follows reached most needed names;
      oldest = oldest reached;
      place = goes_to;
    }

  -- it has a number
  pub not_end : (low : ℕ) (old : Journal) → old ≡ record j { needed = low } → number_of old ≢ 2 ^ 63
  not_end low old is end =
      let last = ap number_of (is ∙ ap (λ (k : Journal). record k { needed = low }) r.is) in
      let number = subst (λ (e : FoundEntry). e.item.seq < last_numbers) newest_is fit.number in
      omega (arith, last, number, end)

  pub numbered : (low : ℕ) (old : Journal) → old ≡ record j { needed = low } → number_of old < 2 ^ 63
  numbered low old is =
      let last = ap number_of (is ∙ ap (λ (k : Journal). record k { needed = low }) r.is) in
      let number = subst (λ (e : FoundEntry). e.item.seq < last_numbers) newest_is fit.number in
      omega (arith, last, number)

-- the entry that such a journal seals is the one that comes next
pub sealed_next : (g : Geometry) (read : Read) → IsFit g read.all read.entries → (j : Journal) (n : Next)
    → IsUnsealed g read j → IsSealed j j.heads n.sealed n.journal → IsBegun g read n
sealed_next g read fit j n h sealed =
    let low : n.sealed.entry.last_seq ≡ h.low = ap (λ (e : JEntry). e.last_seq) sealed.entry ∙ ap (λ (k : Journal). k.needed) h.is in
    let here : j.heads ≡ h.from.heads = ap (λ (k : Journal). k.heads) h.is in
    record {
      entry = is_next g read fit h.from h.resumed h.low j n.journal j.heads n.sealed h.is sealed h.needs.reached h.needs.most h.needs.needed
          (here ∙ ap (λ (k : Journal). k.heads) h.resumed.is);
      from = h.from;
      resumed = h.resumed;
      sealed = subst (λ (k : Journal). IsSealed k h.from.heads n.sealed n.journal)
          (h.is ∙ ap (λ k. record h.from { needed = k }) (sym low))
          (subst (λ (x : Heads). IsSealed j x n.sealed n.journal) here sealed);
    }

-- A seal as the write of an entry into a ring.
use Rattle.std.proofs.Common.{◌≡◌, inl, inr, ℕ, suc, ◌+◌, ◌*◌, ◌<◌, ◌≤◌, List, Option, None, sym, subst, ap, arith, cond}
use Rattle.std.specs.Prelude.{nat_lt}
use Rattle.bc_model.specs.Sector.{Image, values_of}
use Rattle.bc_model.proofs.Cases.{by_le}
use Rattle.bc_disk.specs.declared.geometry.Geometry.{Geometry}
use Rattle.bc_record.specs.Sectors.{Has}
use Rattle.bc_record.proofs.Found.{reads_back}
use Rattle.bc_jset.specs.declared.entry.JEntry.{JEntry}
use Rattle.bc_jset.specs.Records.{entry_kind, entry_sectors, EntryFound}
use Rattle.bc_jset.specs.Entries.{bucket_end}
use Rattle.bc_jset.proofs.Records.{entry_codec}
use Rattle.bc_journal.specs.declared.heads.Heads.{Heads}
use Rattle.bc_journal.specs.declared.place.Numbers.{Numbers}
use Rattle.bc_journal.specs.Ring.{following, sectors_for}
use Rattle.bc_journal.specs.Sealed.{Sealed, AreBytesOf, sector_at}
use Rattle.bc_journal.specs.Journal.{Journal, IsJournal, IsSealed, newest_of, number_of, waiting_words}
use Rattle.bc_journal.specs.Images.{Holds, MayLeave}
use Rattle.bc_journal.proofs.Sizes.{most_fit}
use Rattle.bc_journal.proofs.Left.{Goes, Writes, goes}

following_within : (g : Geometry) (bucket : ℕ) → bucket < g.journal → following g bucket < g.journal
following_within g bucket inside = by_le (suc (bucket + 1)) g.journal (λ b. cond b (bucket + 1) 0 < g.journal) (λ up. up) (λ _. omega (arith, inside))

-- with the ring's geometry in place of the sealed entry's
pub in_ring : (g : Geometry) (s : Sealed) → s.geometry ≡ g → (a b : Image) → MayLeave s a b → MayLeave (record { geometry = g; place = s.place; entry = s.entry }) a b
in_ring g s is a b leaves = subst (λ (h : Geometry). MayLeave (record { geometry = h; place = s.place; entry = s.entry }) a b) is leaves

pub writes : (old new : Journal) (heads : Heads) (s : Sealed) (a b : Image) (es : List JEntry) → IsJournal old → old.sealed ≡ None → Holds old.ring old.durable a es → IsSealed old heads s new
    → MayLeave s a b → Writes old.ring old.durable s.place s.entry a b es
writes old new heads s a b es p none holds sealed leaves =
    let g = old.ring.geometry in
    let n = entry_sectors g s.entry in
    let size : sectors_for g (waiting_words old) ≡ n = ap (entry_sectors g) (sym sealed.entry) in
    let went = subst (λ m. Goes old.ring old.durable.last_seq m s.place) size (goes old.ring old.durable.last_seq (nat_lt 0 (waiting_words old)) (sectors_for g (waiting_words old)) s.place sealed.place) in
    let few = p.few in
    let most = most_fit g (240 + 8 * waiting_words old) (omega (arith, few)) in
    let bucket_from = g.bucket_from in
    let seq : s.entry.seq ≡ number_of old = ap (λ (e : JEntry). e.seq) sealed.entry in
    let last_seq : s.entry.last_seq ≡ old.needed = ap (λ (e : JEntry). e.last_seq) sealed.entry in
    let number : number_of old ≡ old.durable.seq + 1 = ap (λ (o : Option Numbers). newest_of old.durable o + 1) none in
    let needed_from = p.needed_from in
    let needed_to = p.needed_to in
    record {
      holds = holds;
      goes = went;
      inside = elim went [
        | inl next ↦ (let at = ap (λ q. q.sector) next.0 in omega (arith, next.1, at))
        | inr front ↦ omega (arith, front.0, most, size, bucket_from)
      ];
      bucket = elim went [
        | inl next ↦ subst (λ q. q.bucket < g.journal) next.0 p.ring.next.bucket
        | inr front ↦ subst (λ m. m < g.journal) front.2 (following_within g old.ring.next.bucket p.ring.next.bucket)
      ];
      buckets = p.ring.buckets;
      seq = omega (arith, seq, number);
      from = omega (arith, last_seq, needed_from);
      to = omega (arith, last_seq, seq, needed_to);
      leaves = in_ring g s sealed.geometry a b leaves;
    }

-- the entry's bytes are found where they were written
pub found_written : (g : Geometry) (s : Sealed) (b : Image) (bytes : List ℕ) → s.place.sector + entry_sectors g s.entry ≤ g.bucket → AreBytesOf g s.entry bytes
    → Has b (sector_at g s.place) (values_of bytes) → EntryFound g b (bucket_end g s.place.bucket) (sector_at g s.place) s.entry
found_written g s b bytes inside are has =
    reads_back (entry_kind g) (entry_codec g) b (bucket_end g s.place.bucket) (sector_at g s.place) (entry_sectors g s.entry) bytes s.entry are.whole are.entry has (omega (arith, inside))

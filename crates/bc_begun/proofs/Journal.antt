-- The journal behind the entries that were read.
use Rattle.std.proofs.Common.{◌≡◌, ℕ, ◌+◌, ◌-◌, List, [], ◌∷◌, ◌++◌, refl, sym, ap, ◌∙◌, subst, arith}
use Rattle.std.specs.Prelude.{map, reverse}
use Rattle.std.proofs.lemmas.List.{map-append, reverse-append}
use Rattle.bc_disk.specs.declared.geometry.Geometry.{Geometry}
use Rattle.bc_events.specs.Run.{start}
use Rattle.bc_facts.specs.Seen.{seen_entries, seen_entry}
use Rattle.bc_journal.specs.Journal.{Journal}
use Rattle.bc_journal.specs.declared.place.Numbers.{Numbers}
use Rattle.bc_jset.specs.Entries.{FoundEntry}
use Rattle.bc_machine.specs.Containers.{IsJournalOf, numbers_in, sealed_numbers}
use Rattle.bc_meta.specs.Entries.{Entry}
use Rattle.bc_meta.specs.Records.{Records}
use Rattle.bc_shares.specs.Shares.{entries_in, journal_share}
use Rattle.bc_begun.specs.Laws.{LawJournal}
use Rattle.bc_begun.proofs.Ring.{is_ring}

abbrev numbers : ℕ → ℕ → Numbers
numbers seq last_seq = record { seq = seq; last_seq = last_seq }

-- the newest of the entries comes first
pub first_seen : (g : Geometry) (es : List FoundEntry) (e : FoundEntry) (newest : Entry) (older : List Entry)
    → seen_entries g (es ++ e ∷ []) ≡ newest ∷ older → seen_entry g e.item ≡ newest
first_seen g es e newest older is = one (seen_entry g e.item) newest (seen_entries g es) older
    (sym (ap reverse (map-append (λ (x : FoundEntry). seen_entry g x.item) es (e ∷ []))
    ∙ reverse-append (map (λ (x : FoundEntry). seen_entry g x.item) es) (seen_entry g e.item ∷ [])) ∙ is)
  where
    one : (a b : Entry) (xs ys : List Entry) → a ∷ xs ≡ b ∷ ys → a ≡ b
    one a b xs ys same = cc

pub law_journal : LawJournal
law_journal p v layout x w st next_seq read j h sound found entries resumed =
    let records = h.opening.records in
    let o = w.machine.store in
    let newest : seen_entry v.geometry resumed.newest.item ≡ o.newest =
    first_seen v.geometry resumed.older resumed.newest o.newest o.older
    (ap (seen_entries v.geometry) (sym resumed.parts ∙ entries) ∙ h.opening.store.opens.means.entries) in
    subst (λ (y : Journal). IsJournalOf w.machine (journal_share (start w st next_seq).machine) y)
    (sym resumed.is) (record {
      waiting = sym (ap (λ (y : Records). reverse y.waiting) records);
      all_wait = λ none. omega arith;
      durable = seq_same resumed.newest.item.seq resumed.newest.item.last_seq
          ∙ ap numbers_in newest ∙ sym (ap (λ (y : Records). numbers_in y.newest) records);
      heads = record {
        entry = resumed.newest.item;
        is = ap (λ (y : Records). y.newest) records ∙ sym newest;
        heads_are = refl;
      };
      sealed = sym (ap (λ (y : Records). sealed_numbers (entries_in y).sealed) records);
      ring = is_ring p v layout x w.machine st read j h sound found entries resumed;
    })
  where
    seq_same : (seq last_seq : ℕ) → numbers (seq + 1 - 1) last_seq ≡ numbers seq last_seq
    seq_same seq last_seq = let same : seq + 1 - 1 ≡ seq = omega arith in ap (λ n. numbers n last_seq) same

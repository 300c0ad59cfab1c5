-- The journal in memory, once keys came in.
use Rattle.std.proofs.Common.{◌≡◌, ◌≢◌, ℕ, List, [], ◌∷◌, ◌++◌, Option, refl, sym, ap, ◌∙◌, subst}
use Rattle.std.specs.Prelude.{◌≤◌, IfSome, reverse, slice_index}
use Rattle.std.proofs.lemmas.List.{reverse-append}
use Rattle.bc_journal.specs.Journal.{Journal}
use Rattle.bc_journal.specs.Ring.{Ring}
use Rattle.bc_key.specs.declared.key.Key.{Key}
use Rattle.bc_known.specs.Acts.{Keyed, after}
use Rattle.bc_begun.specs.bc_machine.Containers.{IsJournalOf, IsNamed, IsRingOf, behind_sealed, numbers_in, sealed_numbers}
use Rattle.bc_meta.specs.Entries.{Entry}
use Rattle.bc_meta.specs.Facts.{In}
use Rattle.bc_shares.specs.Shares.{Entries, JournalShare, journal_share}
use Rattle.bc_whole.specs.State.{Opening}
use Rattle.bc_keyed.specs.Came.{LawJournal}
use Rattle.bc_keyed.proofs.Came.{law_came, ring_stays}

none_first : (xs ys : List Key) → xs ++ ys ≡ [] → xs ≡ []
none_first [] ys none = refl
none_first (x ∷ xs) ys none = absurd (cc)

module _ (w : Opening) (x y : JournalShare) (keys : List Key)
    (entries : y.entries ≡ record x.entries { waiting = keys ++ x.entries.waiting })
    (next : y.next ≡ x.next) where
  sealed : y.entries.sealed ≡ x.entries.sealed
  sealed = ap (λ (e : Entries). e.sealed) entries

  bucket : y.entries.bucket ≡ x.entries.bucket
  bucket = ap (λ (e : Entries). e.bucket) entries

  ring : y.entries.ring ≡ x.entries.ring
  ring = ap (λ (e : Entries). e.ring) entries

  same_ring : (r : Ring) → IsRingOf w x r → IsRingOf w y r
  same_ring r h = record {
    layout = h.layout;
    before = h.before;
    bucket = h.bucket ∙ sym bucket;
    next = h.next
        ∙ ap (λ (s : Option Entry). behind_sealed w.layout s (x.next x.entries.bucket)) (sym sealed)
        ∙ ap (λ (f : ℕ → ℕ). behind_sealed w.layout y.entries.sealed (f x.entries.bucket)) (sym next)
        ∙ ap (λ b. behind_sealed w.layout y.entries.sealed (y.next b)) (sym bucket);
    newest = λ b e i. h.newest b e (subst (λ (f : ℕ → List Entry). In e (f b)) ring i);
    sealed = subst (λ b. IfSome y.entries.sealed (λ e. e.number ≤ slice_index r.newest b))
        (sym bucket) (subst (λ (s : Option Entry). IfSome s
        (λ e. e.number ≤ slice_index r.newest x.entries.bucket)) (sym sealed) h.sealed);
  }

  with_waiting : (j : Journal) → keys ≢ [] → IsJournalOf w x j
      → IsJournalOf w y (record j { waiting = j.waiting ++ reverse keys })
  with_waiting j some h = record {
    waiting = ap (λ (l : List Key). l ++ reverse keys) h.waiting
        ∙ sym (reverse-append keys x.entries.waiting)
        ∙ sym (ap (λ (e : Entries). reverse e.waiting) entries);
    all_wait = λ none. absurd (some (none_first keys x.entries.waiting
        (sym (ap (λ (e : Entries). e.waiting) entries) ∙ none)));
    durable = h.durable ∙ sym (ap (λ (e : Entries). numbers_in e.newest) entries);
    heads = subst (IsNamed j.ring.geometry j.heads)
        (sym (ap (λ (e : Entries). e.newest) entries)) h.heads;
    sealed = h.sealed ∙ ap sealed_numbers (sym sealed);
    ring = same_ring j.ring h.ring;
  }

pub law_journal : LawJournal
law_journal w st i act slot keys j some h =
    with_waiting w (journal_share st) (journal_share (after w st i (Keyed act slot keys))) keys
    (law_came w st i act slot keys).entries (ring_stays w.layout st.whole.store slot keys) j some h

-- The entries with which a run began.
use Rattle.std.proofs.Common.{◌≡◌, List, [], ◌∷◌, ◌++◌, Option, Some, sym, ap, ◌∙◌, subst}
use Rattle.std.specs.Prelude.{IfSome, map, reverse}
use Rattle.std.proofs.lemmas.List.{map-append, reverse-append}
use Rattle.bc_disk.specs.declared.geometry.Geometry.{Geometry}
use Rattle.bc_events.specs.Run.{start}
use Rattle.bc_facts.specs.Layout.{IsLayoutOf}
use Rattle.bc_facts.specs.Seen.{seen_entries, seen_entry}
use Rattle.bc_facts.proofs.Journal.{Read, read_entries}
use Rattle.bc_journal.specs.Journal.{Journal}
use Rattle.bc_jset.specs.Entries.{AreEntries, FoundEntry}
use Rattle.bc_jset.proofs.Entries.{entries_stay, newest_is_last, one_list}
use Rattle.bc_machine.specs.Containers.{IsJournalOf}
use Rattle.bc_machine.specs.World.{IsOrigin, Origin, World}
use Rattle.bc_meta.specs.Entries.{Entry}
use Rattle.bc_model.specs.Sector.{Image}
use Rattle.bc_shares.specs.Shares.{journal_share}
use Rattle.bc_whole.specs.State.{Opening}
use Rattle.bc_sealing.specs.Laws.{HasRead, LawRead}

-- the newest of the entries comes first
first_seen : (g : Geometry) (older : List FoundEntry) (e : FoundEntry) (newest : Entry)
    (rest : List Entry) → seen_entries g (older ++ e ∷ []) ≡ newest ∷ rest
    → seen_entry g e.item ≡ newest
first_seen g older e newest rest is = one (seen_entry g e.item) newest (seen_entries g older) rest
    (sym (ap reverse (map-append (λ (x : FoundEntry). seen_entry g x.item) older (e ∷ []))
    ∙ reverse-append (map (λ (x : FoundEntry). seen_entry g x.item) older)
    (seen_entry g e.item ∷ [])) ∙ is)
  where
    one : (a b : Entry) (xs ys : List Entry) → a ∷ xs ≡ b ∷ ys → a ≡ b
    one a b xs ys same = cc

module _ (x : World) (o : Origin) (j : Journal) (es : List FoundEntry)
    (a : AreEntries j.ring.geometry x.opening.machine.flow.cache es) (is : IsOrigin x o)
    (has : x.begun.journal ≡ Some j) where
  abbrev g : Geometry
  g = j.ring.geometry

  abbrev w : Opening
  w = o.opening.machine

  layout : IsLayoutOf g w.layout
  layout =
      let stands = subst (λ (k : Option Journal). IfSome k (IsJournalOf w
      (journal_share (start o.opening o.parts o.next_seq).machine))) has is.begun.journal in
      stands.ring.layout

  found : Read g w.flow.cache w.store.newest w.store.older
  found = subst (λ (image : Image). Read g image w.store.newest w.store.older)
      is.sound.whole.image (read_entries g w.layout layout w.store.image w.store.newest
      w.store.older is.sound.whole.store.whole.sound.entries)

  same : found.es ≡ es
  same = one_list g x.opening.machine.flow.cache found.es es
      (entries_stay g w.flow.cache x.opening.machine.flow.cache found.es found.are
      (λ s low high. is.cache s)) a

  entries : seen_entries g es ≡ w.store.newest ∷ w.store.older
  entries = ap (seen_entries g) (sym same) ∙ found.seen

  read : HasRead g es a.newest o
  read =
      let last = newest_is_last g x.opening.machine.flow.cache es a in record {
        entries = entries;
        newest_is = first_seen g last.0 a.newest w.store.newest w.store.older
            (ap (seen_entries g) (sym last.1) ∙ entries);
      }

pub law_read : LawRead
law_read x o j es a is has = read x o j es a is has

-- An image has one journal, or is refused for one reason.
use Rattle.std.proofs.Common.{◌≡◌, inl, inr, ℕ, ◌<◌, ◌≤◌, List, refl, sym, subst, ap, ◌∙◌, arith}
use Rattle.bc_model.specs.Sector.{Image}
use Rattle.bc_disk.specs.declared.geometry.Geometry.{Geometry}
use Rattle.bc_jset.specs.Entries.{FoundEntry, AreEntries, IsNewest}
use Rattle.bc_jset.specs.Ring.{HasRoom}
use Rattle.bc_jset.proofs.Entries.{one_stand, one_newest, one_list}
use Rattle.bc_jset.proofs.Journal.{no_gap, no_list, never_both, one_gap}
use Rattle.bc_entries.specs.declared.error.JournalError.{JournalError}
use Rattle.bc_entries.specs.declared.error.JournalError.TheVariants as errors
use Rattle.bc_entries.specs.Journal.{Journal, HasJournal, IsAtEnd, IsRefused}

module _ (g : Geometry) (image : Image) where
  same_all : (ds es : List FoundEntry) (p : AreEntries g image ds) (q : AreEntries g image es) → q.all ≡ p.all
  same_all ds es p q = one_stand g image g.journal q.all p.all q.stand p.stand

  same_newest : (ds es : List FoundEntry) (p : AreEntries g image ds) (q : AreEntries g image es) → q.newest ≡ p.newest
  same_newest ds es p q = one_newest p.all q.newest p.newest (subst (λ (xs : List FoundEntry). IsNewest xs q.newest) (same_all ds es p q) q.is_newest) p.is_newest

  pub one_journal : (a b : Journal) → HasJournal g image a → HasJournal g image b → a ≡ b
  one_journal a b p q =
      let entries = one_list g image a.entries b.entries p.entries q.entries in
      let all = sym p.all ∙ sym (same_all a.entries b.entries p.entries q.entries) ∙ q.all in
      same a b entries all
    where
      same : (x y : Journal) → x.entries ≡ y.entries → x.all ≡ y.all → x ≡ y
      same x y one two = λ i. record { entries = one i; all = two i }

  one_end : (a b : ℕ) → IsAtEnd g image a → IsAtEnd g image b → a ≡ b
  one_end a b p q = sym p.number ∙ ap (λ (e : FoundEntry). e.item.seq) (sym (same_newest p.es q.es p.entries q.entries)) ∙ q.number

  room_moves : (j : Journal) (p : HasJournal g image j) (seq : ℕ) (q : IsAtEnd g image seq) → HasRoom g q.entries.all q.es q.entries.newest
  room_moves j p seq q =
      let all = sym p.all ∙ sym (same_all j.entries q.es p.entries q.entries) in
      subst (λ (xs : List FoundEntry). HasRoom g xs q.es q.entries.newest) all
      (subst (λ (xs : List FoundEntry). HasRoom g j.all xs q.entries.newest) (one_list g image j.entries q.es p.entries q.entries)
      (subst (λ (e : FoundEntry). HasRoom g j.all j.entries e) (sym (same_newest j.entries q.es p.entries q.entries)) p.room))

  journal_at_end : (j : Journal) (seq : ℕ) → HasJournal g image j → IsAtEnd g image seq → ⊥
  journal_at_end j seq p q = elim q.full [
    | inl last ↦
        let below = p.number in
        let same = ap (λ (e : FoundEntry). e.item.seq) (same_newest j.entries q.es p.entries q.entries) in
        let number = q.number in
        absurd (omega (arith, below, same, number, last))
    | inr full ↦ full (room_moves j p seq q)
  ]

  pub no_cause : (j : Journal) (e : JournalError) → HasJournal g image j → IsRefused g image e → ⊥
  no_cause j errors.NoJournal p q = no_list g image j.entries q p.entries
  no_cause j (errors.Gap from to) p q = never_both g image from to j.entries q p.entries
  no_cause j (errors.End seq) p q = journal_at_end j seq p q
  no_cause j errors.Fault p q = q
  no_cause j errors.Memory p q = q

  pub one_cause : (a b : JournalError) → IsRefused g image a → IsRefused g image b → a ≡ b
  one_cause errors.NoJournal errors.NoJournal p q = refl
  one_cause errors.NoJournal (errors.Gap from to) p q = absurd (no_gap g image from to p q)
  one_cause errors.NoJournal (errors.End seq) p q = absurd (no_list g image q.es p q.entries)
  one_cause errors.NoJournal errors.Fault p q = absurd q
  one_cause errors.NoJournal errors.Memory p q = absurd q
  one_cause (errors.Gap from to) errors.NoJournal p q = absurd (no_gap g image from to q p)
  one_cause (errors.Gap from to) (errors.Gap x y) p q = let same = one_gap g image from to x y p q in ap (λ n. errors.Gap n to) same.0 ∙ ap (λ n. errors.Gap x n) same.1
  one_cause (errors.Gap from to) (errors.End seq) p q = absurd (never_both g image from to q.es p q.entries)
  one_cause (errors.Gap from to) errors.Fault p q = absurd q
  one_cause (errors.Gap from to) errors.Memory p q = absurd q
  one_cause (errors.End seq) errors.NoJournal p q = absurd (no_list g image p.es q p.entries)
  one_cause (errors.End seq) (errors.Gap x y) p q = absurd (never_both g image x y p.es q p.entries)
  one_cause (errors.End seq) (errors.End other) p q = ap (λ n. errors.End n) (one_end seq other p q)
  one_cause (errors.End seq) errors.Fault p q = absurd q
  one_cause (errors.End seq) errors.Memory p q = absurd q
  one_cause errors.Fault b p q = absurd p
  one_cause errors.Memory b p q = absurd p

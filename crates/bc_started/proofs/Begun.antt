-- What the first seat of a run that was begun over what was read knows of the journal.
use Rattle.std.proofs.Common.{◌≡◌, ℕ, ◌*◌, ◌+◌, ◌≤◌, List, Option, Some, refl, sym, ap, ◌∙◌, subst, arith}
use Rattle.std.specs.Prelude.{IfSome}
use Rattle.bc_cached.specs.bc_begun.Begin.{Beginning, parts_of}
use Rattle.bc_cache.specs.Slots.{NodeCache}
use Rattle.bc_cached.specs.Begun.{IsMadeOf}
use Rattle.bc_cached.specs.declared.run.Ready.{Ready}
use Rattle.bc_disk.specs.Disk.{DiskFacts}
use Rattle.bc_disk.specs.declared.geometry.Geometry.{Geometry}
use Rattle.bc_enter.specs.Begun.{IsUnsealed}
use Rattle.bc_entries.specs.Journal.{Journal as Read}
use Rattle.bc_entry.specs.Seal.{CanSeal}
use Rattle.bc_entry.proofs.Waiting.{law_needs}
use Rattle.bc_events.specs.Run.{start}
use Rattle.bc_journal.specs.Journal.{Journal, number_of}
use Rattle.bc_entry.specs.bc_machine.Containers.{IsJournalOf}
use Rattle.bc_entry.specs.bc_machine.World.{FromEach, IsJournal, World, cache_among, opening}
use Rattle.bc_needs.specs.Needs.{NeedsFrom}
use Rattle.bc_shares.specs.Shares.{JournalShare, journal_share}
use Rattle.bc_whole.specs.State as whole
use Rattle.bc_started.specs.First.{CanPutFirst}
use Rattle.bc_started.specs.Start.{AreReplayed, CanStart}
use Rattle.bc_started.proofs.One.{one_resumed}
use Rattle.bc_started.proofs.Replayed.{all_wait}

-- what a journal needs is no part of what it stands for
needing : (w : whole.Opening) (x : JournalShare) (j : Journal) (low : ℕ) → IsJournalOf w x j
    → IsJournalOf w x (record j { needed = low })
needing w x j low h = record {
  waiting = h.waiting;
  all_wait = h.all_wait;
  durable = h.durable;
  heads = h.heads;
  sealed = h.sealed;
  ring = h.ring;
}

module _ {C B : Type 0} (cache_facts : C → DiskFacts) (backing_facts : B → DiskFacts)
    (g : Geometry) (read : Read) (ready : Ready C B)
    (can : CanStart cache_facts backing_facts g read ready) (u : Journal)
    (is : IsUnsealed g read u) (k : Beginning C B) (made : IsMadeOf ready k) where
  abbrev run : World
  run = opening cache_facts backing_facts (parts_of ready.tree k)

  began_with : ready.journal ≡ is.from
  began_with = one_resumed g read can.fit ready.journal is.from can.journal is.resumed

  journal_is : u ≡ record ready.journal { needed = is.low }
  journal_is = is.is ∙ ap (λ (j : Journal). record j { needed = is.low }) (sym began_with)

  geometry_was : ready.journal.ring.geometry ≡ g
  geometry_was = ap (λ (j : Journal). j.ring.geometry) can.journal.is

  geometry_is : u.ring.geometry ≡ g
  geometry_is = ap (λ (j : Journal). j.ring.geometry) journal_is ∙ geometry_was

  has : run.begun.journal ≡ Some ready.journal
  has = ap (λ (j : Journal). Some j) made.journal

  is_part : FromEach run (λ o st. IsJournalOf o.opening.machine (journal_share st.machine) u)
  is_part o origin course = subst (λ (j : Journal). IsJournalOf o.opening.machine
      (journal_share (start o.opening o.parts o.next_seq).machine) j) (sym journal_is)
      (needing o.opening.machine (journal_share (start o.opening o.parts o.next_seq).machine)
      ready.journal is.low (subst (λ (j : Option Journal). IfSome j (IsJournalOf o.opening.machine
      (journal_share (start o.opening o.parts o.next_seq).machine))) has origin.begun.journal))

  -- ---- the entry

  replayed : AreReplayed cache_facts g read ready.tree.leaves k.leaves
  replayed = subst (λ (l : List NodeCache). AreReplayed cache_facts g read ready.tree.leaves l)
      (sym made.leaves) can.leaves

  least : is.low ≤ ready.journal.durable.seq + 1
  least =
      let most = is.needs.most in
      let same = ap number_of began_with in
      let own = ap number_of can.journal.is in
      let durable = ap (λ (j : Journal). j.durable.seq) can.journal.is in
      omega (arith, most, same, own, durable)

  needs : FromEach run (λ o st. NeedsFrom u.needed st)
  needs = subst (λ n. FromEach run (λ o st. NeedsFrom n st))
      (sym (ap (λ (j : Journal). j.needed) is.is))
      (law_needs run is.low ready.journal refl (all_wait cache_facts backing_facts g read ready.tree
      k replayed is.low is.needs.needed) has least)

  stands : IsJournal u run
  stands = record { stands = is_part; needs = needs }

  can_seal : CanSeal u
  can_seal = record {
    none = ap (λ (j : Journal). j.sealed) journal_is
        ∙ ap (λ (j : Journal). j.sealed) can.journal.is;
    room = is.room;
    numbered = is.numbered;
  }

  pub can_put : CanPutFirst cache_facts backing_facts (parts_of ready.tree k) u
  can_put = record {
    can = can_seal;
    disk = subst (λ (q : Geometry). q.bucket * q.nbuckets
        ≤ (cache_among {C = C} {B = B} cache_facts backing_facts (parts_of ready.tree k)).sectors)
        (sym geometry_is) (subst (λ (c : C). g.bucket * g.nbuckets ≤ (cache_facts c).sectors)
        (sym made.cache) can.division);
    stands = stands;
  }

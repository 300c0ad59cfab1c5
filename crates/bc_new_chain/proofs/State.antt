-- When an entry with a new chain may be sealed, and what that leaves.
use Rattle.std.proofs.Common.{◌≡◌, inl, inr, ℕ, ◌+◌, ◌<◌, Bool, true, false, List, [], ◌∷◌, Option, Some, None, refl, sym, ap, ◌∙◌, subst, arith}
use Rattle.std.specs.Prelude.{map, slice_index, Vec}
use Rattle.std.specs.declared.alloc.Global.{Global}
use Rattle.std.proofs.lemmas.Bool.{lt-ltb}
use Rattle.bc_chain.specs.bc_hand.Seats.{by}
use Rattle.bc_chain.specs.bc_machine.Containers.{AreBucketsOf, IsJournalOf, sealed_numbers}
use Rattle.bc_chain.specs.bc_machine.World.{Origin, World, replay}
use Rattle.bc_chain.specs.bc_machine.declared.part.BucketsPart.{BucketsPart}
use Rattle.bc_chained.proofs.Law.{law_chain}
use Rattle.bc_chained.specs.Chained.{HasRenewing, IsSealedChain}
use Rattle.bc_chained.specs.Laws.{AllowsChain, HasChain, numbers, versions_in}
use Rattle.bc_disk.specs.declared.gens.BucketRecord.{BucketRecord}
use Rattle.bc_disk.specs.declared.geometry.Geometry.{Geometry}
use Rattle.bc_entry.proofs.Course.{is_sealed, nothing_course, waits_course}
use Rattle.bc_entry.proofs.Sealing.{GoesTo, Leaves, Names, entry_is, has_rest, named_so, sealed_behind, sealed_in_front}
use Rattle.bc_entry.specs.Entry.{IsFixedEntry, IsSealedAs}
use Rattle.bc_entry.specs.Seal.{CanSeal}
use Rattle.bc_events.specs.Run as core
use Rattle.bc_events.specs.declared.event.Deed.{Deed}
use Rattle.bc_events.specs.declared.event.Deed.TheVariants as deed
use Rattle.bc_facts.specs.Seen.{counted, entry_rest, seen_entry}
use Rattle.bc_journal.specs.Journal.{IsJournal as IsGoodJournal, IsSealed, Journal, newest_of}
use Rattle.bc_journal.specs.Ring.{is_free}
use Rattle.bc_journal.specs.Sealed.{Sealed}
use Rattle.bc_journal.specs.declared.heads.Heads.{Heads}
use Rattle.bc_journal.specs.declared.place.Numbers.{Numbers}
use Rattle.bc_journal.specs.declared.place.Place.{Place}
use Rattle.bc_known.specs.Acts.{BeginBucket, Seal, State, after}
use Rattle.bc_known.specs.Run.{IsEnabled}
use Rattle.bc_leaves.specs.Enabled.{CanSealNext}
use Rattle.bc_meta.specs.Acts.{head_of}
use Rattle.bc_meta.specs.Entries.{Entry}
use Rattle.bc_meta.specs.Records.{Fixed, Nothing, Ready, Records, Safe, Sent, Stage}
use Rattle.bc_needs.specs.Needs.{NeedsNone}
use Rattle.bc_new_chain.specs.Seal.{with_chain}
use Rattle.bc_entry.proofs.of_bc_sealing.Acts.{law_acts}
use Rattle.bc_entry.proofs.of_bc_sealing.Ring.{law_places}
use Rattle.bc_entry.specs.bc_sealing.Laws.{Seals, front_of}
use Rattle.bc_shares.specs.Shares.{JournalShare, books_of, if_sealed, journal_share}
use Rattle.bc_whole.specs.State as whole
use Rattle.bc_whole.specs.State.{Chain, NewChain, SameRoot}
use Rattle.bc_whole.specs.Together.{entry_of}

never : (b : Bool) → b ≡ true → b ≡ false → ⊥
never b is off = cc

none_sealed : (g : Stage) (e : Entry) → sealed_numbers (if_sealed g e) ≡ None → g ≡ Nothing
none_sealed Nothing e is = refl
none_sealed Fixed e is = absurd (cc)
none_sealed Ready e is = absurd (cc)
none_sealed Sent e is = absurd (cc)
none_sealed Safe e is = absurd (cc)

-- the chain begins in the first of its buckets
head_is : (g : Geometry) (new : List ℕ)
    → head_of (map (counted g) new) ≡ counted g (slice_index new 0)
head_is g [] = let none : 0 ≡ counted g 0 = omega arith in none
head_is g (n ∷ ns) = refl

abbrev pub sealing : Journal → Option ℕ → (rest chain : Vec ℕ Global) → Deed
sealing j begun rest chain = deed.Seal j.needed begun rest None (Some (record { buckets = chain }))

-- what is left: the journal with the entry, which is fixed; the buckets, of which it is noted; and
-- the chain, which is the newest sealed one
pub record IsLeft (o : Origin) (st : core.State) (new_journal : Journal) (s : Sealed)
    (r : BucketsPart) (i : ℕ) (new : List ℕ) : Type 0 where
  pub journal : IsJournalOf o.opening.machine (journal_share st.machine) new_journal
  pub fixed : IsFixedEntry s o st
  pub buckets : AreBucketsOf o.opening.machine (books_of st.machine) r
  pub chain : IsSealedChain i new o st

module _ (x : World) (o : Origin) (i : ℕ) (p : BucketsPart) (j : Journal)
    (records : List BucketRecord) (new : List ℕ) (hc : HasChain x o i p j.ring.geometry records new)
    (good : IsGoodJournal j) (can : CanSeal j)
    (h : IsJournalOf o.opening.machine (journal_share (replay o x.log).machine) j)
    (needs : NeedsNone j.needed (replay o x.log)) where
  abbrev w : whole.Opening
  w = o.opening.machine

  abbrev st : State
  st = (replay o x.log).machine

  abbrev r : Records
  r = st.whole.parts.records

  abbrev g : Geometry
  g = j.ring.geometry

  abbrev heads : Heads
  heads = with_chain j.heads new

  abbrev qs : List ℕ
  qs = numbers g new

  abbrev chain : Chain
  chain = NewChain qs (versions_in o x qs)

  allows : AllowsChain x o i p new qs
  allows = law_chain x o i p g records new hc

  idle : r.stage ≡ Nothing
  idle = none_sealed r.stage r.entry (sym h.sealed ∙ can.none)

  can_seal : CanSealNext st.whole.parts j.needed
  can_seal =
      let seq = ap (λ (n : Numbers). n.seq) h.durable in
      let least = ap (λ (n : Numbers). n.last_seq) h.durable in
      let number = ap (λ n. newest_of j.durable n + 1) can.none in
      let from = good.needed_from in
      let to = good.needed_to in
      (idle, omega (arith, least, from), omega (arith, to, number, seq), needs)

  not_waiting : st.whole.flow.books.journal.waiting ≡ false
  not_waiting = waits_course o hc.origin.sound x.log hc.course
      ∙ ap is_sealed (nothing_course o hc.origin.sound x.log hc.course idle)

  seals : (rest : List ℕ) → st.whole.flow.halted ≡ false
      → IsEnabled w st i (Seal j.needed rest SameRoot chain)
  seals rest running = record {
    data_allows = (
      record { heard = running; steps = (allows.can not_waiting, tt); can = refl },
      tt,
    );
    asks = (can_seal, allows.asks);
  }

  -- a bucket that is begun has older entries alone
  begins : (b : ℕ) → b < g.journal → is_free j.ring j.durable.last_seq b ≡ true
      → IsEnabled w st i (BeginBucket b)
  begins b in_ free = record {
    data_allows = tt;
    asks = (
      (
        idle,
        law_places.free w (journal_share st) j.ring b h.ring
            (subst (λ n. is_free j.ring n b ≡ true)
            (ap (λ (n : Numbers). n.last_seq) h.durable) free),
      ),
      let same = h.ring.layout.journal in omega (arith, in_, same),
    );
  }

  seals_behind : (b : ℕ) (rest : List ℕ) → st.whole.flow.halted ≡ false
      → IsEnabled w (after w st i (BeginBucket b)) i (Seal j.needed rest SameRoot chain)
  seals_behind b rest running = record {
    data_allows = (
      record { heard = running; steps = (allows.can not_waiting, tt); can = refl },
      tt,
    );
    asks = (can_seal, allows.asks);
  }

  -- ---- as a deed

  module _ (chained : Vec ℕ Global) (chained_is : chained.items ≡ qs) (rest : Vec ℕ Global) where
    pub enabled : (begun : Option ℕ) (at : Place) → GoesTo j at begun → i < 320
        → st.whole.flow.halted ≡ false
        → core.IsEnabled o.opening (replay o x.log) (by i (sealing j begun rest chained))
    enabled begun at (inl (is, place)) few running =
        subst (λ (b : Option ℕ). core.IsEnabled o.opening (replay o x.log)
        (by i (sealing j b rest chained))) (sym is) (record {
          seat = lt-ltb i 320 few;
          course = (
            subst (λ ks. IsEnabled w st i (Seal j.needed rest.items SameRoot
                (NewChain ks (versions_in o x ks)))) (sym chained_is) (seals rest.items running),
            tt,
          );
          fit = tt;
          its_line = tt;
          plain = λ plain. absurd (never o.opening.machine.flow.plain plain hc.origin.cached);
        })
    enabled begun at (inr (b, is, place, in_, free)) few running =
        subst (λ (b : Option ℕ). core.IsEnabled o.opening (replay o x.log)
        (by i (sealing j b rest chained))) (sym is) (record {
          seat = lt-ltb i 320 few;
          course = (
            begins b in_ free,
            (
              subst (λ ks. IsEnabled w (after w st i (BeginBucket b)) i
                  (Seal j.needed rest.items SameRoot (NewChain ks (versions_in o x ks))))
                  (sym chained_is) (seals_behind b rest.items running),
              tt,
            ),
          );
          fit = tt;
          its_line = tt;
          plain = λ plain. absurd (never o.opening.machine.flow.plain plain hc.origin.cached);
        })

    -- ---- what it leaves

    module _ (s : Sealed) (new_journal : Journal) (is : IsSealed j heads s new_journal)
        (rest_is : rest.items ≡ entry_rest s.entry) (q : BucketsPart) (f : HasRenewing p q) where
      abbrev share : JournalShare
      share = journal_share st

      entry_same : entry_of st.whole j.needed rest.items SameRoot chain
          ≡ seen_entry g s.entry
      entry_same = entry_is w share j good can h heads s new_journal is r refl refl rest.items rest_is
          (entry_of st.whole j.needed rest.items SameRoot chain)
          (has_rest st.whole j.needed rest.items SameRoot chain) (record {
            root = named.root;
            word = named.word;
            level = named.level;
            prio = head_is g new;
          })
        where
          named : Names g j.heads r.newest
          named = named_so g j.heads r.newest h.heads

      abbrev LeftIn : State → Type 0
      LeftIn a = Leaves w share j good can h heads s new_journal is (journal_share a)

      leaves_behind : s.place ≡ j.ring.next
          → LeftIn (after w st i (Seal j.needed rest.items SameRoot chain))
      leaves_behind place =
          let z = journal_share (after w st i (Seal j.needed rest.items SameRoot chain)) in
          sealed_behind w share j good can h heads s new_journal is z
          (subst (λ (d : Entry). Seals d share z) entry_same
          (law_acts.seals w st i j.needed rest.items SameRoot chain)) place

      leaves_in_front : (b : ℕ) → b < g.journal → s.place ≡ front_of b
          → LeftIn (after w (after w st i (BeginBucket b)) i
          (Seal j.needed rest.items SameRoot chain))
      leaves_in_front b in_ place =
          let before = after w st i (BeginBucket b) in
          let y = journal_share before in
          let z = journal_share (after w before i (Seal j.needed rest.items SameRoot chain)) in
          sealed_in_front w share j good can h heads s new_journal is b y z
          (law_acts.begins w st i b)
          (subst (λ (d : Entry). Seals d y z) entry_same
          (law_acts.seals w before i j.needed rest.items SameRoot chain)) in_ place

      abbrev Left : Option ℕ → Vec ℕ Global → Type 0
      Left begun c = IsLeft o (core.after o.opening (replay o x.log) (by i (sealing j begun rest c)))
          new_journal s q i new

      -- the state that these acts leave
      abbrev LeftAt : State → Type 0
      LeftAt a = IsJournalOf w (journal_share a) new_journal × IsSealedAs s w (journal_share a)
          × AreBucketsOf w (books_of a) q
          × IsSealedChain i new o (record (replay o x.log) { machine = a })

      pub left : (begun : Option ℕ) → GoesTo j s.place begun → Left begun chained
      left begun (inl (none, place)) = subst (λ (b : Option ℕ). Left b chained) (sym none)
          (of_acts (subst (λ ks. LeftAt (after w st i (Seal j.needed rest.items SameRoot
          (NewChain ks (versions_in o x ks))))) (sym chained_is)
          (let both = leaves_behind place in
          (both.0, both.1, allows.stands q f, allows.sealed))))
        where
          of_acts : LeftAt (after w st i (Seal j.needed rest.items SameRoot
              (NewChain chained.items (versions_in o x chained.items))))
              → Left None chained
          of_acts at = record {
            journal = at.0;
            fixed = record { sealed = at.1; stage = tt };
            buckets = at.2;
            chain = at.3;
          }
      left begun (inr (b, some, place, in_, free)) =
          subst (λ (b : Option ℕ). Left b chained) (sym some)
          (of_acts (subst (λ ks. LeftAt (after w (after w st i (BeginBucket b)) i
          (Seal j.needed rest.items SameRoot
          (NewChain ks (versions_in o x ks))))) (sym chained_is)
          (let both = leaves_in_front b in_ place in
          (both.0, both.1, allows.stands q f, allows.sealed))))
        where
          of_acts : LeftAt (after w (after w st i (BeginBucket b)) i
              (Seal j.needed rest.items SameRoot
              (NewChain chained.items (versions_in o x chained.items))))
              → Left (Some b) chained
          of_acts at = record {
            journal = at.0;
            fixed = record { sealed = at.1; stage = tt };
            buckets = at.2;
            chain = at.3;
          }

-- When an entry may be sealed, and what that leaves.
use Rattle.std.proofs.Common.{◌≡◌, ◌⊎◌, inl, inr, ℕ, suc, ◌+◌, ◌<◌, Bool, true, false, List, [], Option, Some, None, refl, sym, ap, ◌∙◌, subst, arith}
use Rattle.std.specs.Prelude.{◌&&◌, ◌||◌, IfOk, IsSome, Result, Ok, Err, not, reverse, nat_le, nat_lt, slice_index, if◌then◌else◌, Vec}
use Rattle.std.specs.declared.alloc.Global.{Global}
use Rattle.std.proofs.lemmas.Bool.{lt-ltb, ltb-true}
use Rattle.std.proofs.lemmas.List.{reverse-reverse}
use Rattle.std.proofs.lemmas.List.Elements.{All-get_or}
use Rattle.bc_disk.specs.Disk.{DiskFacts}
use Rattle.bc_disk.specs.declared.geometry.Geometry.{Geometry}
use Rattle.bc_key.specs.declared.key.Key.{Key}
use Rattle.bc_parts.specs.Seat.{Holds}
use Rattle.bc_seats.specs.Seats.{Since}
use Rattle.bc_seats.proofs.Knowing.{held}
use Rattle.bc_events.specs.Run as core
use Rattle.bc_events.specs.declared.event.Deed.{Deed}
use Rattle.bc_events.specs.declared.event.Deed.TheVariants as deed
use Rattle.bc_events.specs.declared.event.Event.{Event}
use Rattle.bc_facts.specs.Layout.{IsLayoutOf}
use Rattle.bc_facts.specs.Seen.{bucket_of, counted, entry_rest, seen_entry, word_of}
use Rattle.bc_deed.specs.bc_hand.Seats.{Did, IsCoreSeat, MayDo, by, world}
use Rattle.bc_deed.proofs.of_bc_hand.Knowing.{View, framed, is_plain_at, m}
use Rattle.bc_deed.proofs.May.{low}
use Rattle.bc_journal.specs.Journal.{IsJournal as IsGoodJournal, IsSealed, Journal, newest_of, number_of, place_for, waiting_words}
use Rattle.bc_journal.specs.Ring.{following, is_free, may_begin, sectors_for, with_entry}
use Rattle.bc_journal.specs.Sealed.{Sealed, sector_at}
use Rattle.bc_journal.specs.declared.heads.Heads.{Heads}
use Rattle.bc_journal.specs.declared.place.Numbers.{Numbers}
use Rattle.bc_journal.specs.declared.place.Place.{Place}
use Rattle.bc_jset.specs.Records.{entry_sectors}
use Rattle.bc_known.specs.Acts.{BeginBucket, Seal, State, after}
use Rattle.bc_known.specs.Run.{IsEnabled}
use Rattle.bc_known.specs.Laws.{IsSound}
use Rattle.bc_leaves.specs.Enabled.{CanSealNext}
use Rattle.bc_sealing.specs.bc_machine.Containers.{IsJournalOf, IsNamed, IsRingOf, numbers_in, sealed_numbers}
use Rattle.bc_sealing.specs.bc_machine.World.{CanFollow, FromEach, IsCourseOf, IsJournal, IsSeenFrom, Origin, World, are_plain, data_of, replay}
use Rattle.bc_sealing.specs.bc_machine.declared.part.CorePart.TheVariants as part
use Rattle.bc_meta.specs.Entries.{Entry}
use Rattle.bc_meta.specs.Layout.{entry_len}
use Rattle.bc_meta.specs.Records.{Fixed, Nothing, Ready, Records, Safe, Sent, Stage}
use Rattle.bc_sealing.specs.Laws.{Begins, IsNew, Seals, front_of}
use Rattle.bc_sealing.proofs.Acts.{law_acts}
use Rattle.bc_sealing.proofs.Ring.{law_places, law_ring}
use Rattle.bc_shares.specs.Shares.{JournalShare, if_sealed, journal_share}
use Rattle.bc_whole.specs.State as whole
use Rattle.bc_whole.specs.State.{Chain, NewRoot, Root, SameChain, SameRoot}
use Rattle.bc_whole.specs.Together.{entry_of}
use Rattle.bc_entry.specs.Entry.{IsFixedEntry, IsSealedAs}
use Rattle.bc_needs.specs.Needs.{NeedsFrom, NeedsNone}
use Rattle.bc_entry.specs.Seal.{CanSeal, HasSealed, begun_by, rest_of}
use Rattle.bc_entry.proofs.Course.{is_sealed, nothing_course, waits_course}
use Rattle.bc_entry.proofs.Holding.{known_committed, needs_committed}

never : (b : Bool) → b ≡ true → b ≡ false → ⊥
never b is off = cc

none_sealed : (g : Stage) (e : Entry) → sealed_numbers (if_sealed g e) ≡ None → g ≡ Nothing
none_sealed Nothing e is = refl
none_sealed Fixed e is = absurd (cc)
none_sealed Ready e is = absurd (cc)
none_sealed Sent e is = absurd (cc)
none_sealed Safe e is = absurd (cc)

and_left : (p q : Bool) → (p && q) ≡ true → p ≡ true
and_left true q is = refl
and_left false q is = absurd (cc)

-- ---- where it goes

-- behind the last entry, or to the front of the bucket behind, which is free
abbrev pub GoesTo : Journal → Place → Option ℕ → Type 0
GoesTo j p begun = ((begun ≡ None) × (p ≡ j.ring.next))
    ⊎ ((b : ℕ) × (begun ≡ Some b) × (p ≡ front_of b) × (b < j.ring.geometry.journal)
    × (is_free j.ring j.durable.last_seq b ≡ true))

following_in : (g : Geometry) (n : ℕ) → n < g.journal → following g n < g.journal
following_in g n in_ = go (nat_lt (n + 1) g.journal) refl
  where
    go : (b : Bool) → nat_lt (n + 1) g.journal ≡ b → (if b then n + 1 else 0) < g.journal
    go true is = ltb-true (n + 1) g.journal is
    go false is = omega (arith, in_)

by_place : (j : Journal) (p : Place) (b : ℕ) (rest fits begins : Bool)
    → b < j.ring.geometry.journal → (is_free j.ring j.durable.last_seq b && rest) ≡ begins
    → (if fits then Some j.ring.next else (if begins then Some (front_of b) else None)) ≡ Some p
    → GoesTo j p (if fits then None else Some b)
by_place j p b rest true begins in_ may at = inl (refl, cc)
by_place j p b rest false true in_ may at =
    inr (b, refl, cc, in_, and_left (is_free j.ring j.durable.last_seq b) rest may)
by_place j p b rest false false in_ may at = absurd (cc)

pub goes_to : (j : Journal) (p : Place) → IsGoodJournal j → place_for j (waiting_words j) ≡ Some p
    → GoesTo j p (begun_by j)
goes_to j p good is =
    let g = j.ring.geometry in
    let b = following g j.ring.next.bucket in
    let keyed = nat_lt 0 (waiting_words j) in
    by_place j p b (not keyed || is_free j.ring j.durable.last_seq (following g b))
    (nat_le (j.ring.next.sector + sectors_for g (waiting_words j)) g.bucket)
    (may_begin j.ring j.durable.last_seq keyed b)
    (following_in g j.ring.next.bucket good.ring.next.bucket) refl is

pub some_place : (o : Option Place) → IsSome o → (p : Place) × (o ≡ Some p)
some_place None some = absurd (cc)
some_place (Some p) some = (p, refl)

pub has_place : (j : Journal) → CanSeal j
    → (p : Place) × (place_for j (waiting_words j) ≡ Some p)
has_place j can = some_place (place_for j (waiting_words j))
    (subst (λ n. IsSome (place_for j n)) (omega arith) can.room.place)

-- ---- what a seal leaves of the journal in memory, whatever the entry names

-- what an entry has by the records, whatever root and chain it names
pub record HasRest (r : Records) (low : ℕ) (others : List ℕ) (e : Entry) : Type 0 where
  pub number : e.number ≡ suc r.newest.number
  pub last_seq : e.last_seq ≡ low
  pub keys : e.keys ≡ r.waiting
  pub rest : e.rest ≡ others

pub has_rest : (x : whole.State) (last_seq : ℕ) (rest : List ℕ) (root : Root) (chain : Chain)
    → HasRest x.parts.records last_seq rest (entry_of x last_seq rest root chain)
has_rest x last_seq rest SameRoot chain =
    record { number = refl; last_seq = refl; keys = refl; rest = refl }
has_rest x last_seq rest (NewRoot r) chain =
    record { number = refl; last_seq = refl; keys = refl; rest = refl }

-- it names this root and these priorities
pub record Names (g : Geometry) (heads : Heads) (e : Entry) : Type 0 where
  pub root : e.root ≡ bucket_of g heads.root
  pub word : e.word ≡ word_of heads.root
  pub level : e.level ≡ heads.level
  pub prio : e.prio ≡ counted g heads.prio

-- as one does that is known by the formats
pub named_so : (g : Geometry) (heads : Heads) (e : Entry) → IsNamed g heads e → Names g heads e
named_so g heads e n = record {
  root = ap (λ (y : Entry). y.root) n.is
      ∙ ap (λ (k : Heads). bucket_of g k.root) (sym n.heads_are);
  word = ap (λ (y : Entry). y.word) n.is ∙ ap (λ (k : Heads). word_of k.root) (sym n.heads_are);
  level = ap (λ (y : Entry). y.level) n.is ∙ ap (λ (k : Heads). k.level) (sym n.heads_are);
  prio = ap (λ (y : Entry). y.prio) n.is
      ∙ ap (λ (k : Heads). counted g k.prio) (sym n.heads_are);
}

none_numbers : (o : Option Entry) → sealed_numbers o ≡ None → o ≡ None
none_numbers None is = refl
none_numbers (Some e) is = absurd (cc)

-- The journal stands for the share, and sealed an entry that names this.
module _ (w : whole.Opening) (x : JournalShare) (j : Journal) (good : IsGoodJournal j)
    (can : CanSeal j) (h : IsJournalOf w x j) (heads : Heads) (s : Sealed) (new : Journal)
    (is : IsSealed j heads s new) where
  abbrev g : Geometry
  g = j.ring.geometry

  abbrev e : Entry
  e = seen_entry g s.entry

  pub number_now : number_of j ≡ suc x.entries.newest.number
  number_now =
      let all = ap (λ n. newest_of j.durable n + 1) can.none in
      let seq = ap (λ (n : Numbers). n.seq) h.durable in omega (arith, all, seq)

  none_before : x.entries.sealed ≡ None
  none_before = none_numbers x.entries.sealed (sym h.sealed ∙ can.none)

  -- the machine's entry, of the same keys and names, is the one that was sealed
  pub entry_is : (r : Records) → r.newest ≡ x.entries.newest → r.waiting ≡ x.entries.waiting
      → (rest : List ℕ) → rest ≡ entry_rest s.entry → (d : Entry) → HasRest r j.needed rest d
      → Names g heads d → d ≡ e
  entry_is r newest waiting rest rest_is d has named =
      let at = is.entry in
      let number : d.number ≡ s.entry.seq =
      let one = has.number in
      let two = ap (λ (y : Entry). y.number) newest in
      let all = number_now in
      let same = ap (λ y. y.seq) at in omega (arith, one, two, all, same) in
      let low = has.last_seq ∙ sym (ap (λ y. y.last_seq) at) in
      let root = named.root ∙ sym (ap (λ y. bucket_of g y.root) at) in
      let word = named.word ∙ sym (ap (λ y. word_of y.root) at) in
      let level = named.level ∙ sym (ap (λ y. y.level) at) in
      let prio = named.prio ∙ sym (ap (λ y. counted g y.prio) at) in
      let keys : d.keys ≡ reverse s.entry.keys = has.keys ∙ waiting
      ∙ sym (reverse-reverse x.entries.waiting)
      ∙ ap (λ (ks : List Key). reverse ks) (sym h.waiting)
      ∙ ap (λ y. reverse y.keys) (sym at) in
      let others = has.rest ∙ rest_is in
      λ i. record {
        number = number i;
        last_seq = low i;
        root = root i;
        word = word i;
        level = level i;
        prio = prio i;
        keys = keys i;
        rest = others i;
      }

  sectors_are : entry_sectors g s.entry ≡ entry_len w.layout e
  sectors_are = sym (h.ring.layout.entries.long tt s.entry)

  is_new : (b : ℕ) → b < g.journal → IsNew w j.ring b e (entry_sectors g s.entry)
  is_new b in_ = record {
    long = sectors_are;
    within = let all = good.ring.buckets in omega (arith, in_, all);
    number =
        let all = good.ring.buckets in
        let below : slice_index j.ring.newest b < number_of j =
        All-get_or (λ n. n < number_of j) j.ring.newest b 0 (omega (arith, in_, all))
        good.newest in
        let same = ap (λ y. y.seq) is.entry in omega (arith, below, same);
  }

  -- of a share in which the ring has it at its place
  module _ (y z : JournalShare) (newest : y.entries.newest ≡ x.entries.newest) (seals : Seals e y z)
      (ring : IsRingOf w z (with_entry j.ring s.place (entry_sectors g s.entry) s.entry.seq))
    where
      journal_is : IsJournalOf w z new
      journal_is = subst (IsJournalOf w z) (sym is.journal) (record {
        waiting = ap (λ (ks : List Key). reverse ks) (sym seals.waiting);
        all_wait = λ none. seals.count;
        durable = h.durable ∙ ap numbers_in (sym (seals.newest ∙ newest));
        heads = subst (IsNamed g j.heads) (sym (seals.newest ∙ newest)) h.heads;
        sealed = ap sealed_numbers (sym seals.sealed);
        ring = ring;
      })

      sealed_is_as : IsSealedAs s w z
      sealed_is_as = record {
        layout = subst (λ (k : Geometry). IsLayoutOf k w.layout) (sym is.geometry) h.ring.layout;
        before = h.ring.before ∙ ap (λ (k : Geometry). k.first_bucket) (sym is.geometry);
        entry = seals.sealed
            ∙ ap (λ (k : Geometry). Some (seen_entry k s.entry)) (sym is.geometry);
        bucket = sym ring.bucket;
        next = law_places.place w z j.ring s.place e (entry_sectors g s.entry) ring seals.sealed
            sectors_are
            ∙ ap (λ (k : Geometry). sector_at k s.place) (sym is.geometry);
      }

  abbrev pub Leaves : JournalShare → Type 0
  Leaves z = IsJournalOf w z new × IsSealedAs s w z

  -- behind the last entry, and in front of a bucket
  pub sealed_behind : (z : JournalShare) → Seals e x z → s.place ≡ j.ring.next → Leaves z
  sealed_behind z seals place =
      let ring = subst (λ (p : Place). IsRingOf w z
      (with_entry j.ring p (entry_sectors g s.entry) s.entry.seq)) (sym place)
      (law_ring.behind w x z j.ring e (entry_sectors g s.entry) h.ring none_before seals
      (is_new j.ring.next.bucket good.ring.next.bucket)) in
      (journal_is x z refl seals ring, sealed_is_as x z refl seals ring)

  pub sealed_in_front : (b : ℕ) (y z : JournalShare) → Begins w b x y → Seals e y z
      → b < g.journal → s.place ≡ front_of b → Leaves z
  sealed_in_front b y z begins seals in_ place =
      let ring = subst (λ (p : Place). IsRingOf w z
      (with_entry j.ring p (entry_sectors g s.entry) s.entry.seq)) (sym place)
      (law_ring.front w x y z j.ring b e (entry_sectors g s.entry) h.ring begins seals
      (is_new b in_)) in
      (journal_is y z begins.newest seals ring, sealed_is_as y z begins.newest seals ring)

-- ---- in a state of a run

module _ (o : Origin) (sound : IsSound o.opening.machine o.parts) (es : List Event)
    (on : IsCourseOf o es) (j : Journal) (good : IsGoodJournal j) (can : CanSeal j)
    (h : IsJournalOf o.opening.machine (journal_share (replay o es).machine) j) where
  abbrev w : whole.Opening
  w = o.opening.machine

  abbrev st : State
  st = (replay o es).machine

  abbrev r : Records
  r = st.whole.parts.records

  idle : r.stage ≡ Nothing
  idle = none_sealed r.stage r.entry (sym h.sealed ∙ can.none)

  seq_is : j.durable.seq ≡ r.newest.number
  seq_is = ap (λ (n : Numbers). n.seq) h.durable

  low_is : j.durable.last_seq ≡ r.newest.last_seq
  low_is = ap (λ (n : Numbers). n.last_seq) h.durable

  number_is : number_of j ≡ j.durable.seq + 1
  number_is = ap (λ n. newest_of j.durable n + 1) can.none

  can_seal : NeedsNone j.needed (replay o es) → CanSealNext st.whole.parts j.needed
  can_seal needs =
      let seq = seq_is in
      let least = low_is in
      let number = number_is in
      let from = good.needed_from in
      let to = good.needed_to in
      (idle, omega (arith, least, from), omega (arith, to, number, seq), needs)

  not_waiting : st.whole.flow.books.journal.waiting ≡ false
  not_waiting = waits_course o sound es on ∙ ap is_sealed (nothing_course o sound es on idle)

  seals : (i : ℕ) (rest : List ℕ) → NeedsNone j.needed (replay o es)
      → st.whole.flow.halted ≡ false → IsEnabled w st i (Seal j.needed rest SameRoot SameChain)
  seals i rest needs running = record {
    data_allows = (record { heard = running; steps = (not_waiting, tt); can = tt }, tt);
    asks = (can_seal needs, tt);
  }

  -- a bucket that is begun has older entries alone
  begins : (i b : ℕ) → b < j.ring.geometry.journal → is_free j.ring j.durable.last_seq b ≡ true
      → IsEnabled w st i (BeginBucket b)
  begins i b in_ free = record {
    data_allows = tt;
    asks = (
      (
        idle,
        law_places.free w (journal_share st) j.ring b h.ring
            (subst (λ n. is_free j.ring n b ≡ true) low_is free),
      ),
      let same = h.ring.layout.journal in omega (arith, in_, same),
    );
  }

  seals_behind : (i b : ℕ) (rest : List ℕ) → NeedsNone j.needed (replay o es)
      → st.whole.flow.halted ≡ false
      → IsEnabled w (after w st i (BeginBucket b)) i (Seal j.needed rest SameRoot SameChain)
  seals_behind i b rest needs running = record {
    data_allows = (record { heard = running; steps = (not_waiting, tt); can = tt }, tt);
    asks = (can_seal needs, tt);
  }

  -- ---- what it leaves

  module _ (s : Sealed) (new : Journal) (is : IsSealed j j.heads s new) (rest : List ℕ)
      (rest_is : rest ≡ entry_rest s.entry) where
    abbrev x : JournalShare
    x = journal_share st

    abbrev LeftIn : State → Type 0
    LeftIn a = Leaves w x j good can h j.heads s new is (journal_share a)

    entry_same : entry_of st.whole j.needed rest SameRoot SameChain
        ≡ seen_entry j.ring.geometry s.entry
    entry_same = entry_is w x j good can h j.heads s new is r refl refl rest rest_is
        (entry_of st.whole j.needed rest SameRoot SameChain)
        (has_rest st.whole j.needed rest SameRoot SameChain) (record {
          root = named.root;
          word = named.word;
          level = named.level;
          prio = named.prio;
        })
      where
        named : Names j.ring.geometry j.heads r.newest
        named = named_so j.ring.geometry j.heads r.newest h.heads

    leaves_behind : (i : ℕ) → s.place ≡ j.ring.next
        → LeftIn (after w st i (Seal j.needed rest SameRoot SameChain))
    leaves_behind i place =
        let z = journal_share (after w st i (Seal j.needed rest SameRoot SameChain)) in
        sealed_behind w x j good can h j.heads s new is z
        (subst (λ (d : Entry). Seals d x z) entry_same
        (law_acts.seals w st i j.needed rest SameRoot SameChain)) place

    leaves_in_front : (i b : ℕ) → b < j.ring.geometry.journal → s.place ≡ front_of b
        → LeftIn (after w (after w st i (BeginBucket b)) i (Seal j.needed rest SameRoot SameChain))
    leaves_in_front i b in_ place =
        let before = after w st i (BeginBucket b) in
        let y = journal_share before in
        let z = journal_share (after w before i (Seal j.needed rest SameRoot SameChain)) in
        sealed_in_front w x j good can h j.heads s new is b y z (law_acts.begins w st i b)
        (subst (λ (d : Entry). Seals d y z) entry_same
        (law_acts.seals w before i j.needed rest SameRoot SameChain)) in_ place

-- ---- as a deed

abbrev pub sealing : Journal → Option ℕ → Vec ℕ Global → Deed
sealing j begun rest = deed.Seal j.needed begun rest None None

module _ (o : Origin) (sound : IsSound o.opening.machine o.parts)
    (not_plain : o.opening.machine.flow.plain ≡ false) (es : List Event)
    (on : IsCourseOf o es) (j : Journal) (good : IsGoodJournal j) (can : CanSeal j)
    (h : IsJournalOf o.opening.machine (journal_share (replay o es).machine) j) (i : ℕ)
    (rest : Vec ℕ Global) where
  enabled : (begun : Option ℕ) (p : Place) → GoesTo j p begun → i < 320
      → NeedsNone j.needed (replay o es) → (replay o es).machine.whole.flow.halted ≡ false
      → core.IsEnabled o.opening (replay o es) (by i (sealing j begun rest))
  enabled begun p (inl (is, place)) few needs running =
      subst (λ (b : Option ℕ). core.IsEnabled o.opening (replay o es) (by i (sealing j b rest)))
      (sym is) (record {
        seat = lt-ltb i 320 few;
        course = (seals o sound es on j good can h i rest.items needs running, tt);
        fit = tt;
        its_line = tt;
        plain = λ plain. absurd (never o.opening.machine.flow.plain plain not_plain);
      })
  enabled begun p (inr (b, is, place, in_, free)) few needs running =
      subst (λ (b : Option ℕ). core.IsEnabled o.opening (replay o es) (by i (sealing j b rest)))
      (sym is) (record {
        seat = lt-ltb i 320 few;
        course = (
          begins o sound es on j good can h i b in_ free,
          (seals_behind o sound es on j good can h i b rest.items needs running, tt),
        );
        fit = tt;
        its_line = tt;
        plain = λ plain. absurd (never o.opening.machine.flow.plain plain not_plain);
      })

  module _ (s : Sealed) (new : Journal) (is : IsSealed j j.heads s new)
      (rest_is : rest.items ≡ entry_rest s.entry) where
    abbrev Left : Option ℕ → Type 0
    Left begun =
        let a = core.after o.opening (replay o es) (by i (sealing j begun rest)) in
        IsJournalOf o.opening.machine (journal_share a.machine) new × IsFixedEntry s o a

    left : (begun : Option ℕ) → GoesTo j s.place begun → Left begun
    left begun (inl (none, place)) = subst Left (sym none)
        (let both = leaves_behind o sound es on j good can h s new is rest.items rest_is i place in
        (both.0, record { sealed = both.1; stage = tt }))
    left begun (inr (b, some, place, in_, free)) = subst Left (sym some)
        (let both = leaves_in_front o sound es on j good can h s new is rest.items rest_is i b in_
        place in (both.0, record { sealed = both.1; stage = tt }))

-- ---- of a seat

module _ {C B : Type 0} (cache_facts : C → DiskFacts) (backing_facts : B → DiskFacts) where
  module _ (v : View cache_facts backing_facts) (seat : IsCoreSeat cache_facts backing_facts v)
      (journal : Holds v.parts 3) (j : Journal) (good : IsGoodJournal j) (can : CanSeal j)
      (stands : IsJournal j (world cache_facts backing_facts v)) where
    pub journal_since : (x : World) → Since (m cache_facts backing_facts) v x → IsJournal j x
    journal_since x since = (held (m cache_facts backing_facts) (framed cache_facts backing_facts)
        v x
        3 (part.Journal j) seat.seat since journal (refl, stands)).1

    pub may_seal : are_plain cache_facts backing_facts v.run.start ≡ false
        → (rest : Vec ℕ Global)
        → MayDo cache_facts backing_facts v (sealing j (begun_by j) rest)
    may_seal cached rest x y at told =
        let seen = at.from (is_plain_at cache_facts backing_facts v x at.since ∙ cached) in
        go x y seen.0 seen.1 at.since (at.running refl)
      where
        go : (x y : World) (o : Origin) → IsSeenFrom o x y → Since (m cache_facts backing_facts) v x
            → (data_of y).halted ≡ false
            → CanFollow y (by v.first (sealing j (begun_by j) rest))
        go x y o seen since = subst (λ (z : World). (data_of z).halted ≡ false
            → CanFollow z (by v.first (sealing j (begun_by j) rest))) (sym seen.is)
            (λ running. let place = has_place j can in let there = journal_since x since in record {
              enabled = enabled o seen.origin.sound seen.origin.cached x.log seen.course j good can
                  (there.stands o seen.origin seen.course) v.first rest (begun_by j)
                  place.0
                  (goes_to j place.0 good place.1) (low cache_facts backing_facts v seat)
                  (there.needs o seen.origin seen.course).needs running;
              names = tt;
              number = tt;
            })

    module _ (w : View cache_facts backing_facts) (s : Sealed) (new : Journal)
        (is : IsSealed j j.heads s new) (rest : Vec ℕ Global)
        (rest_is : rest.items ≡ entry_rest s.entry)
        (did : Did cache_facts backing_facts (Some (sealing j (begun_by j) rest)) v w) where
      both_left : FromEach (world cache_facts backing_facts w) (λ o a.
          IsJournalOf o.opening.machine (journal_share a.machine) new × IsFixedEntry s o a)
      both_left = known_committed cache_facts backing_facts v w (sealing j (begun_by j) rest)
          (λ o st. IsJournalOf o.opening.machine (journal_share st.machine) j)
          (λ o a. IsJournalOf o.opening.machine (journal_share a.machine) new × IsFixedEntry s o a)
          did
          (λ o origin course on h. left o origin.sound origin.cached did.is.before.log course j good
          can h v.first rest s new is rest_is (begun_by j) (goes_to j s.place good is.place))
          (journal_since did.is.before did.is.since).stands

      pub journal_sealed : IsJournal new (world cache_facts backing_facts w)
      journal_sealed = record {
        stands = λ o origin course. (both_left o origin course).0;
        needs = subst (λ n. FromEach (world cache_facts backing_facts w) (λ o st. NeedsFrom n st))
            (sym (ap (λ (k : Journal). k.needed) is.journal))
            (needs_committed cache_facts backing_facts v w (sealing j (begun_by j) rest) j.needed did
            (journal_since did.is.before did.is.since).needs);
      }

      pub knows_fixed : FromEach (world cache_facts backing_facts w) (IsFixedEntry s)
      knows_fixed o origin course = (both_left o origin course).1

      -- as what the seat did
      pub has_sealed : HasSealed cache_facts backing_facts j s v w
      has_sealed = record {
        rest = rest;
        rest_is = rest_is;
        did = subst (λ n. Did cache_facts backing_facts (Some (deed.Seal n (begun_by j) rest None
            None))
            v w) (sym (ap (λ x. x.last_seq) is.entry)) did;
      }

    -- by whatever numbers these are
    pub may_seal_at : (n : ℕ) (begun : Option ℕ) → n ≡ j.needed → begun ≡ begun_by j
        → are_plain cache_facts backing_facts v.run.start ≡ false
        → (rest : Vec ℕ Global)
        → MayDo cache_facts backing_facts v (deed.Seal n begun rest None None)
    may_seal_at n begun n_is begun_is cached rest = subst
        (λ k. MayDo cache_facts backing_facts v (deed.Seal k begun rest None None)) (sym n_is)
        (subst (λ (b : Option ℕ). MayDo cache_facts backing_facts v
        (deed.Seal j.needed b rest None None)) (sym begun_is) (may_seal cached rest))

  pub did_sealing : (v w : View cache_facts backing_facts) (j : Journal) (n : ℕ) (begun : Option ℕ)
      (rest : Vec ℕ Global) → n ≡ j.needed → begun ≡ begun_by j
      → Did cache_facts backing_facts (Some (deed.Seal n begun rest None None)) v w
      → Did cache_facts backing_facts (Some (sealing j (begun_by j) rest)) v w
  did_sealing v w j n begun rest n_is begun_is did = subst (λ (b : Option ℕ).
      Did cache_facts backing_facts (Some (deed.Seal j.needed b rest None None)) v w) begun_is
      (subst (λ k. Did cache_facts backing_facts (Some (deed.Seal k begun rest None None)) v w)
      n_is did)

pub rest_is_entry : (j : Journal) (heads : Heads) (s : Sealed) (new : Journal) (keys : List Key)
    (rest : List ℕ) → IsSealed j heads s new → rest ≡ rest_of heads keys → keys ≡ j.waiting
    → rest ≡ entry_rest s.entry
rest_is_entry j heads s new keys rest is rest_is keys_are =
    rest_is ∙ ap (rest_of heads) keys_are ∙ sym (ap entry_rest is.entry)

-- of what the newest entry names
pub same_heads : (j : Journal) (heads : Heads) (s : Sealed) (new : Journal) → heads ≡ j.heads
    → IsSealed j heads s new → IsSealed j j.heads s new
same_heads j heads s new same is = subst (λ (h : Heads). IsSealed j h s new) same is

-- ---- of the journal in hand

pub same_some : {A : Type 0} (o : Option A) (a b : A) → o ≡ Some a → o ≡ Some b → a ≡ b
same_some o a b is at = let both : Some a ≡ Some b = sym is ∙ at in cc

pub both_ok : {A E : Type 0} {P Q R : A → Type 0} (x : Result A E)
    → ((a : A) → P a → Q a → R a) → IfOk x P → IfOk x Q → IfOk x R
both_ok (Ok a) f p q = f a p q
both_ok (Err e) f p q = tt

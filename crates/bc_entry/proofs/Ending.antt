-- What the end of an entry leaves of the journal.
use Rattle.std.proofs.Common.{◌≡◌, ◌≢◌, ℕ, ◌-◌, ◌/◌, Bool, true, false, List, Option, Some, None, refl, sym, ap, ◌∙◌, subst}
use Rattle.std.specs.Prelude.{◌==◌, if◌then◌else◌, reverse}
use Rattle.bc_disk.specs.Disk.{DiskFacts}
use Rattle.bc_disk.specs.declared.geometry.Geometry.{Geometry}
use Rattle.bc_parts.specs.Seat.{Holds, PartsView}
use Rattle.bc_seats.specs.Seats.{Kept}
use Rattle.bc_seats.proofs.Knowing.{held}
use Rattle.bc_events.specs.Run as core
use Rattle.bc_events.specs.declared.event.Deed.TheVariants as deed
use Rattle.bc_events.specs.declared.event.Event.{Event}
use Rattle.bc_facts.specs.Layout.{IsLayoutOf}
use Rattle.bc_facts.specs.Seen.{bucket_of, counted, entry_rest, seen_entry, word_of}
use Rattle.bc_deed.specs.bc_hand.Seats.{Did, IsCoreSeat, Works, by, world}
use Rattle.bc_deed.specs.bc_hand.declared.hand.Hand.{Hand}
use Rattle.bc_deed.proofs.of_bc_hand.Knowing.{View, framed, m}
use Rattle.bc_deed.proofs.of_bc_hand.Lends.{works_journal}
use Rattle.bc_deed.proofs.May.{other_number}
use Rattle.bc_journal.specs.Journal.{Journal}
use Rattle.bc_journal.specs.Sealed.{Sealed, heads_of, numbers_of}
use Rattle.bc_key.specs.Key.{ptr_at}
use Rattle.bc_jset.specs.declared.entry.JEntry.{JEntry}
use Rattle.bc_known.specs.Laws.{IsSound}
use Rattle.bc_sealing.specs.bc_machine.Containers.{IsJournalOf, numbers_in}
use Rattle.bc_sealing.specs.bc_machine.Frame.{by_test}
use Rattle.bc_sealing.specs.bc_machine.World.{FromEach, IsCourseOf, IsJournal, Origin, replay}
use Rattle.bc_sealing.specs.bc_machine.declared.part.CorePart.{CorePart}
use Rattle.bc_sealing.specs.bc_machine.declared.part.CorePart.TheVariants as part
use Rattle.bc_sealing.proofs.Acts.{law_acts}
use Rattle.bc_sealing.proofs.Ring.{law_ring}
use Rattle.bc_shares.specs.Shares.{journal_share}
use Rattle.bc_whole.specs.State.{Opening}
use Rattle.bc_entry.specs.Entry.{IsNewestEntry, IsSafeEntry}
use Rattle.bc_entry.proofs.Allowed.{sealed_is}
use Rattle.bc_entry.proofs.Course.{inv_course}
use Rattle.bc_entry.proofs.Holding.{holds_journal, known_committed, known_since, needs_committed, safe_kept, some_is}

-- it changes the journal alone
pub journal_changed : (k : ℕ) → (if k == 0 then false else (if k == 1 then false
    else (if k == 2 then false else (if k == 3 then true else (if k == 4 then false
    else (if k == 5 then false else false)))))) ≡ (k == 3)
journal_changed k = only 0 (λ is. cc) (only 1 (λ is. cc) (only 2 (λ is. cc) (same (k == 3))))
  where
    off : (b c : Bool) → (if b then false else (if c then false else false)) ≡ false
    off true c = refl
    off false true = refl
    off false false = refl

    same : (b : Bool) → (if b then true else (if k == 4 then false
        else (if k == 5 then false else false))) ≡ b
    same true = refl
    same false = off (k == 4) (k == 5)

    only : (n : ℕ) {rest : Bool} → n ≢ 3 → rest ≡ (k == 3)
        → (if k == n then false else rest) ≡ (k == 3)
    only n {rest} ne is = by_test k n (λ b. (if b then false else rest) ≡ (k == 3))
        (λ at. sym (by_test k 3 (λ b. b ≡ false) (λ three. absurd (ne (sym at ∙ three)))
        (λ no. refl))) (λ no. is)

-- the journal with the entry durable
abbrev pub with_durable : Sealed → Journal → Journal
with_durable s j = record j {
  durable = numbers_of s.entry;
  heads = heads_of s.entry;
  sealed = None;
}

-- an entry as one geometry has it, as another of the same layout does
other_geometry : (w : Opening) (g k : Geometry) (e : JEntry) → IsLayoutOf g w.layout
    → w.before ≡ g.first_bucket → IsLayoutOf k w.layout → w.before ≡ k.first_bucket
    → seen_entry g e ≡ seen_entry k e
other_geometry w g k e one at two there = λ i. record {
  number = e.seq;
  last_seq = e.last_seq;
  root = root i;
  word = word_of e.root;
  level = e.level;
  prio = prio i;
  keys = reverse e.keys;
  rest = entry_rest e;
}
  where
    size : g.bucket ≡ k.bucket
    size = sym one.bucket_sectors ∙ two.bucket_sectors

    before : g.first_bucket ≡ k.first_bucket
    before = sym at ∙ there

    sector : ℕ
    sector = (ptr_at e.root 0).offset

    root : bucket_of g e.root ≡ bucket_of k e.root
    root = ap (λ n. sector / n - g.first_bucket) size ∙ ap (λ n. sector / k.bucket - n) before

    prio : counted g e.prio ≡ counted k e.prio
    prio = ap (λ n. e.prio - n) before

ends_in : (o : Origin) (es : List Event) (i : ℕ) (s : Sealed) (j : Journal)
    → IsSound o.opening.machine o.parts → IsCourseOf o es → IsSafeEntry s o (replay o es)
    → IsJournalOf o.opening.machine (journal_share (replay o es).machine) j
    → IsJournalOf o.opening.machine
    (journal_share (core.after o.opening (replay o es) (by i deed.Sealed)).machine) (with_durable s
    j)
ends_in o es i s j sound on h is =
    let st = (replay o es).machine in
    let w = o.opening.machine in
    let e = seen_entry s.geometry s.entry in
    let entry = sealed_is st.whole.parts.records.stage st.whole.parts.records.entry e
    h.sealed.entry in
    let ends = law_acts.ends w st i e (inv_course o sound es on).same h.sealed.entry in record {
      waiting = is.waiting;
      all_wait = is.all_wait;
      durable = ap numbers_in (sym entry);
      heads = record {
        entry = s.entry;
        is = entry ∙ other_geometry w s.geometry j.ring.geometry s.entry h.sealed.layout
            h.sealed.before is.ring.layout is.ring.before;
        heads_are = refl;
      };
      sealed = refl;
      ring = law_ring.durable w (journal_share st)
          (journal_share (core.after o.opening (replay o es) (by i deed.Sealed)).machine) j.ring e
          is.ring h.sealed.entry ends;
    }

module _ {C B : Type 0} (cache_facts : C → DiskFacts) (backing_facts : B → DiskFacts) where
  module _ (v w : View cache_facts backing_facts) (journal : Holds v.parts 3) (s : Sealed)
      (knows : FromEach (world cache_facts backing_facts v) (IsSafeEntry s))
      (did : Did cache_facts backing_facts (Some deed.Sealed) v w) where
    safe_before : FromEach did.is.before (IsSafeEntry s)
    safe_before = known_since cache_facts backing_facts v did.is.before (IsSafeEntry s) journal
        (safe_kept s) did.is.since knows

    pub knows_newest : FromEach (world cache_facts backing_facts w)
        (IsNewestEntry s.geometry s.entry)
    knows_newest = known_committed cache_facts backing_facts v w deed.Sealed (IsSafeEntry s)
        (IsNewestEntry s.geometry s.entry) did (λ o is course on h.
        let r = (replay o did.is.before.log).machine.whole.parts.records in
        sealed_is r.stage r.entry (seen_entry s.geometry s.entry) h.sealed.entry) safe_before

    pub journal_ended : (j : Journal) → IsCoreSeat cache_facts backing_facts v
        → IsJournal j (world cache_facts backing_facts v)
        → IsJournal (with_durable s j) (world cache_facts backing_facts w)
    journal_ended j seat on =
        let there = (held (m cache_facts backing_facts) (framed cache_facts backing_facts) v
        did.is.before 3 (part.Journal j) seat.seat did.is.since journal (refl, on)).1 in
        record {
          stands = known_committed cache_facts backing_facts v w deed.Sealed
              (λ o st. IsJournalOf o.opening.machine (journal_share st.machine) j)
              (λ o st. IsJournalOf o.opening.machine (journal_share st.machine) (with_durable s j))
              did
              (λ o is course on h. ends_in o did.is.before.log v.first s j is.sound course
              (safe_before o is course) h) there.stands;
          needs = needs_committed cache_facts backing_facts v w deed.Sealed j.needed did there.needs;
        }

  -- a part in hand
  pub with_journal_in : (p : PartsView (CorePart C B)) (v : View cache_facts backing_facts)
      (h : Hand C B) (j : Journal) → h.journal ≡ Some j → Works cache_facts backing_facts p v h
      → Works cache_facts backing_facts p v (record h { journal = Some j })
  with_journal_in p v h j is works =
      subst (λ (o : Option Journal). Works cache_facts backing_facts p v (record h { journal = o }))
      is works

  -- one that stands anew for what a deed made of it
  pub works_anew : (p : PartsView (CorePart C B)) (v w : View cache_facts backing_facts)
      (h : Hand C B) (j new : Journal) → h.journal ≡ Some j → Works cache_facts backing_facts p v h
      → IsCoreSeat cache_facts backing_facts w
      → Kept (m cache_facts backing_facts) v w (λ k. k == 3)
      → IsJournal new (world cache_facts backing_facts w)
      → Works cache_facts backing_facts p w (record h { journal = Some new })
  works_anew p v w h j new is works seat kept on = works_journal cache_facts backing_facts p v w h j
      new (λ k. k == 3) (with_journal_in p v h j is works) seat kept (other_number 3) on

  pub works_ended : (p : PartsView (CorePart C B)) (v w : View cache_facts backing_facts)
      (h : Hand C B) (j : Journal) (s : Sealed) → h.journal ≡ Some j
      → Works cache_facts backing_facts p v h
      → FromEach (world cache_facts backing_facts v) (IsSafeEntry s)
      → Did cache_facts backing_facts (Some deed.Sealed) v w
      → Kept (m cache_facts backing_facts) v w (λ k. k == 3)
      → Works cache_facts backing_facts p w (record h { journal = Some (with_durable s j) })
  works_ended p v w h j s is works knows did kept =
      let there = with_journal_in p v h j is works in
      works_anew p v w h j (with_durable s j) is works did.seat kept
      (journal_ended v w
      (subst (λ ks. Holds ks 3) (sym works.parts) (holds_journal h (some_is h.journal j is))) s
      knows did
      j works.seat there.stand.journal)

-- The entry that needs none of the older ones.
use Rattle.std.proofs.Common.{◌≡◌, inl, inr, ℕ, suc, ◌≤◌, Bool, true, false, List, [], Option, None, Some, refl, sym, ap, ◌∙◌, subst, arith}
use Rattle.std.specs.Prelude.{Ok, Err, IfOk, IsTrue, OnOk, Result, fold, if◌then◌else◌, is_some, nat_lt}
use Rattle.std.proofs.lemmas.Bool.{ltb-true}
use Rattle.std.proofs.lemmas.List.{append-nil}
use Rattle.bc_disk.specs.Disk.{DiskFacts}
use Rattle.bc_entry.specs.Entry.{IsNewestEntry}
use Rattle.bc_entry.specs.Put.{HasPut}
use Rattle.bc_entry.specs.Seal.{CanSeal}
use Rattle.bc_events.specs.declared.event.Deed.{Deed}
use Rattle.bc_events.specs.declared.event.Event.{Event}
use Rattle.bc_flush.proofs.Counting.{Lasts}
use Rattle.bc_flush.proofs.Hands.{none_of}
use Rattle.bc_flush.proofs.Syncing.{as_waited, none_done}
use Rattle.bc_flush.proofs.Walking.{lasts_done}
use Rattle.bc_flush.proofs.of_bc_deed.Sequence.{done_both}
use Rattle.bc_flush.proofs.of_bc_hand.Knowing.{View, m}
use Rattle.bc_flush.specs.bc_deed.Flushed.{HasDone}
use Rattle.bc_flush.specs.bc_hand.Seats.{IsCoreSeat, Works, world}
use Rattle.bc_flush.specs.bc_hand.declared.hand.Hand.{Hand}
use Rattle.bc_flush.specs.bc_machine.Standing.{origin_before}
use Rattle.bc_flush.specs.bc_machine.World.{FromEach, IsJournal, World, after, opening}
use Rattle.bc_flush.specs.bc_machine.declared.part.CorePart.{CorePart}
use Rattle.bc_journal.specs.Journal.{Journal, newest_of, number_of}
use Rattle.bc_journal.specs.declared.place.Numbers.{Numbers}
use Rattle.bc_needs.specs.Needs.{NeedsFrom}
use Rattle.bc_parts.specs.Seat.{PartsView, Run}
use Rattle.bc_seats.specs.Seats.{Waited}
use Rattle.bc_turn.proofs.Told.{law_all}
use Rattle.bc_turn.proofs.Known.{law_known}
use Rattle.bc_turn.specs.Need.{IsToCome, PartNeedsFrom}
use Rattle.bc_turn.specs.Needed.{HasNeedFrom}
use Rattle.bc_turned.specs.Turned.{HasGivenUp, HasNoEntry, HasOrNot, IsGivenUp, IsNoEntry, lesser, low_of, newest_ahead}
use Rattle.bc_turned.specs.declared.answer.NoEntry.{NoEntry}

-- ---- numbers

lesser_of : (a d : ℕ) (b : Bool) → nat_lt a d ≡ b → (if b then a else d) ≤ d
lesser_of a d true is = let below = ltb-true a d is in omega (arith, below)
lesser_of a d false is = omega arith

lesser_few : (a d : ℕ) → lesser a d ≤ d
lesser_few a d = lesser_of a d (nat_lt a d) refl

-- what a journal tells is at most the number of the next entry
pub low_to_come : (j : Journal) (low : ℕ) (x : World) → IsJournal j x → low ≡ low_of j
    → FromEach x (IsToCome low)
low_to_come j low x h is o origin course =
    let durable = ap (λ n. n.seq) (h.stands o origin course).durable in
    let few = lesser_few (newest_ahead j) j.durable.seq in
    omega (arith, durable, few, is)

-- ---- what the journal needs

same_needed : (j k : Journal) (low : ℕ) → k ≡ record j { needed = low } → low ≤ k.needed
same_needed j k low is = let same = ap (λ (i : Journal). i.needed) is in omega (arith, same)

number_alone : (j : Journal) → j.sealed ≡ None → number_of j ≡ suc j.durable.seq
number_alone j none = let newest = ap (newest_of j.durable) none in omega (arith, newest)

pub needed_low : (j k : Journal) (low : ℕ) (x : World) → j.sealed ≡ None → HasNeedFrom low j k
    → IsJournal j x → FromEach x (λ o st. NeedsFrom low st) → FromEach x (λ o st. low ≤ k.needed)
needed_low j k low x none (inl (below, to, is)) h needs o origin course = same_needed j k low is
needed_low j k low x none (inr (inl low_is, is)) h needs o origin course =
    let same = ap (λ (i : Journal). i.needed) is in omega (arith, same, low_is)
needed_low j k low x none (inr (inr low_is, is)) h needs o origin course =
    let durable = ap (λ n. n.seq) (h.stands o origin course).durable in
    let number = number_alone j none in
    let next = (needs o origin course).next in
    absurd (omega (arith, durable, number, next, low_is))

pub can_still : (j k : Journal) (low : ℕ) → HasNeedFrom low j k → CanSeal j → CanSeal k
can_still j k low (inl (below, to, is)) can = subst CanSeal (sym is) (record {
  none = can.none;
  room = record { few = can.room.few; place = can.room.place };
  numbered = can.numbered;
})
can_still j k low (inr (why, is)) can = subst CanSeal (sym is) can

-- a journal that was asked has no sealed entry
pub is_unsealed : (j asked : Journal) (o : Option Numbers) (b : Bool) → asked ≡ j
    → o ≡ asked.sealed → b ≡ is_some o → b ≡ false → j.sealed ≡ None
is_unsealed j asked o b is of some none =
    ap (λ (i : Journal). i.sealed) (sym is) ∙ sym of ∙ none_of o (sym some ∙ none)

pub no_room : (b : Bool) → b ≡ false → IsTrue b → ⊥
no_room b is room = let no : IsTrue false = subst IsTrue is room in absurd (cc)

-- what holds whatever the state is goes on to hold
pub fixed_lasts : (P : Type 0) → Lasts (λ o st. P)
fixed_lasts P x e h o is course = h o (origin_before x e o is) course.2

module _ {C B : Type 0} (cache_facts : C → DiskFacts) (backing_facts : B → DiskFacts) where
  abbrev seen : View cache_facts backing_facts → World
  seen v = world cache_facts backing_facts v

  -- a seat that has seen no more knows the same state
  pub same_world : (v w : View cache_facts backing_facts)
      → Waited (m cache_facts backing_facts) v w → w.seen ≡ v.seen → seen w ≡ seen v
  same_world v w h same = ap (λ (r : Run (CorePart C B)).
      fold after (opening cache_facts backing_facts r.start) w.seen) h.same.run
      ∙ ap (λ (l : List Event). fold after (opening cache_facts backing_facts v.run.start) l) same

  pub needs_done : (v w : View cache_facts backing_facts) (ds : List Deed) (low : ℕ)
      → HasDone cache_facts backing_facts ds v w → FromEach (seen v) (λ o st. NeedsFrom low st)
      → FromEach (seen w) (λ o st. NeedsFrom low st)
  needs_done v w ds low done h = law_all (seen w) 1 low (omega arith) (λ part few.
      subst (λ n. FromEach (seen w) (PartNeedsFrom 1 n low)) (omega (arith, few))
      ((law_known cache_facts backing_facts).part v w ds 1 0 low done (λ o is course.
      record { needs = λ k its. (h o is course).needs k; next = (h o is course).next })))

  pub works_as : (p : PartsView (CorePart C B)) (v : View cache_facts backing_facts)
      (h k : Hand C B) → k ≡ h → Works cache_facts backing_facts p v h
      → Works cache_facts backing_facts p v k
  works_as p v h k is works = subst (λ (i : Hand C B). Works cache_facts backing_facts p v i)
      (sym is) works

  pub journal_as : (h k : Hand C B) (j : Journal) → k ≡ record h { journal = Some j }
      → k.journal ≡ Some j
  journal_as h k j is = ap (λ (i : Hand C B). i.journal) is

  -- ---- what was done

  pub given_put : (low : ℕ) (j : Journal) (v w : View cache_facts backing_facts)
      → IsCoreSeat cache_facts backing_facts v → IsJournal j (seen v)
      → FromEach (seen v) (λ o st. low ≤ j.needed) → HasPut cache_facts backing_facts j v w
      → HasGivenUp cache_facts backing_facts low v w
  given_put low j v w seat stands from put = record {
    at = v;
    before = none_done cache_facts backing_facts v seat;
    journal = j;
    stands = stands;
    put = put;
    given = λ o is course.
        let newest = ap (λ e. e.last_seq) (put.newest o is course) in
        let entry = ap (λ e. e.last_seq) put.entry.entry in
        let reaches = lasts_done cache_facts backing_facts (λ o st. low ≤ j.needed)
        (fixed_lasts (low ≤ j.needed)) put.deeds v w put.done from o is course in
        omega (arith, newest, entry, reaches);
  }

  -- between taking a part and giving it back
  module _ (t u v w : View cache_facts backing_facts)
      (first : HasDone cache_facts backing_facts [] t u)
      (last : Waited (m cache_facts backing_facts) v w) (same : w.seen ≡ v.seen) where
    given_on : (low : ℕ) → HasGivenUp cache_facts backing_facts low u v
        → HasGivenUp cache_facts backing_facts low t w
    given_on low h = record {
      at = h.at;
      before = done_both cache_facts backing_facts [] [] t u h.at first h.before;
      journal = h.journal;
      stands = h.stands;
      put = record {
        sealed = h.put.sealed;
        behind = h.put.behind;
        entry = h.put.entry;
        deeds = h.put.deeds;
        put = h.put.put;
        done = subst (λ (l : List Deed). HasDone cache_facts backing_facts l h.at w)
            (append-nil h.put.deeds)
            (done_both cache_facts backing_facts h.put.deeds [] h.at v w h.put.done
            (as_waited cache_facts backing_facts v w last));
        newest = subst (λ x. FromEach x (IsNewestEntry h.put.sealed.geometry h.put.sealed.entry))
            (sym (same_world v w last same)) h.put.newest;
      };
      given = subst (λ x. FromEach x (IsGivenUp low)) (sym (same_world v w last same)) h.given;
    }

    pub given_around : {A E : Type 0} (low : ℕ) (r : Result A E)
        → OnOk r (HasGivenUp cache_facts backing_facts low u v)
        → OnOk r (HasGivenUp cache_facts backing_facts low t w)
    given_around low (Ok a) h = given_on low h
    given_around low (Err e) h = tt

    either_on : (low : ℕ) (r : Result (Unit {0}) NoEntry)
        → HasOrNot cache_facts backing_facts low r u v
        → HasOrNot cache_facts backing_facts low r t w
    either_on low (Ok a) h = given_on low h
    either_on low (Err cause) h = record {
      at = h.at;
      before = done_both cache_facts backing_facts [] [] t u h.at first h.before;
      journal = h.journal;
      stands = h.stands;
      why = h.why;
      since = done_both cache_facts backing_facts [] [] h.at v w h.since
          (as_waited cache_facts backing_facts v w last);
    }

    pub either_around : {E : Type 0} (low : ℕ) (r : Result (Result (Unit {0}) NoEntry) E)
        → IfOk r (λ answer. HasOrNot cache_facts backing_facts low answer u v)
        → IfOk r (λ answer. HasOrNot cache_facts backing_facts low answer t w)
    either_around low (Ok a) h = either_on low a h
    either_around low (Err e) h = tt

  -- there can be no entry
  pub none_put : (cause : NoEntry) (j : Journal) (v : View cache_facts backing_facts)
      → IsCoreSeat cache_facts backing_facts v → IsJournal j (seen v) → IsNoEntry cause j
      → HasNoEntry cache_facts backing_facts cause v v
  none_put cause j v seat stands why = record {
    at = v;
    before = none_done cache_facts backing_facts v seat;
    journal = j;
    stands = stands;
    why = why;
    since = none_done cache_facts backing_facts v seat;
  }

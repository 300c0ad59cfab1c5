-- What is durable of the journal stays so.
use Rattle.std.proofs.Common.{◌≡◌, ◌≢◌, ℕ, ◌≤◌, List, [], ◌∷◌, refl, sym, ap, ◌∙◌, subst, arith}
use Rattle.bc_disk.specs.Disk.{DiskFacts}
use Rattle.bc_events.specs.Acts.{acts_of}
use Rattle.bc_events.specs.Run.{acts_or_none}
use Rattle.bc_events.specs.declared.event.Event.{Event}
use Rattle.bc_parts.specs.Machine.{state_after}
use Rattle.bc_parts.specs.Seat.{Run}
use Rattle.bc_place.proofs.of_bc_hand.Knowing.{m}
use Rattle.bc_place.specs.bc_hand.Seats.{View, by, core, world}
use Rattle.bc_place.specs.bc_machine.declared.part.CorePart.{CorePart}
use Rattle.bc_place.specs.bc_machine.Standing.{origin_before}
use Rattle.bc_place.specs.bc_machine.World.{FromEach, replay}
use Rattle.bc_journal.specs.declared.place.Numbers.{Numbers}
use Rattle.bc_known.proofs.Keyed.{parts_join}
use Rattle.bc_append.proofs.Course.{at_course}
use Rattle.bc_known.proofs.Law.{At, inv_at}
use Rattle.bc_known.specs.Acts.{Act, BeginBucket, Keyed, MakeDurable, Seal, State, after}
use Rattle.bc_known.specs.Laws.{IsSound}
use Rattle.bc_known.specs.Run.{IsEnabled}
use Rattle.bc_leaves.specs.Parts as parts
use Rattle.bc_meta.specs.Records.{Nothing, Safe}
use Rattle.bc_seats.proofs.Knowing.{lasts}
use Rattle.bc_shares.proofs.Acts.{AllActs, journal_kept}
use Rattle.bc_shares.proofs.Law.{in_order}
use Rattle.bc_shares.proofs.Parts.{IsKeptAt, kept_at}
use Rattle.bc_shares.specs.Shares.{JournalShare}
use Rattle.bc_key.specs.declared.key.Key.{Key}
use Rattle.bc_leaves.specs.Events as parts_event
use Rattle.bc_leaves.specs.Laws.{parts_of}
use Rattle.bc_meta.specs.Acts as meta
use Rattle.bc_meta.specs.Entries.{Entry}
use Rattle.bc_meta.specs.Events as event
use Rattle.bc_whole.specs.Together.{inserted, step}
use Rattle.bc_whole.specs.State.{NewRoot, Opening, SameRoot}
use Rattle.bc_append.specs.Durable.{IsDurableTo, LawKnown, LawLasts, LawTold}

abbrev IsUpTo : ℕ → State → Type 0
IsUpTo n st = n ≤ st.whole.parts.records.newest.number

-- keys that come in leave what is durable
keyed : (p : parts.State) (slot : ℕ) (keys : List Key)
    → (parts_of p (inserted slot keys)).records.newest ≡ p.records.newest
keyed p slot [] = refl
keyed p slot (key ∷ keys) =
    ap (λ (s : parts.State). s.records.newest) (parts_join p (inserted slot keys)
    (step (meta.Plain (event.AddKey key)) (parts_event.Insert slot key)))
    ∙ keyed p slot keys

one : (n : ℕ) (w : Opening) (p : parts.State) → IsSound w p → (st : State) (i : ℕ) (act : Act)
    → At w p st → IsEnabled w st i act → IsUpTo n st → IsUpTo n (after w st i act)
one n w p sound st i (Keyed act slot keys) at on low =
    let same = ap (λ (e : Entry). e.number) (keyed st.whole.parts slot keys) in
    omega (arith, same, low)
one n w p sound st i (Seal last_seq rest SameRoot chain) at on low = low
one n w p sound st i (Seal last_seq rest (NewRoot r) chain) at on low = low
one n w p sound st i MakeDurable at on low =
    let inv = (inv_at w p st.whole sound at.at).records in
    let some : st.whole.parts.records.stage ≢ Nothing =
    λ none. let same : Nothing ≡ Safe = sym none ∙ on.asks in absurd (cc) in
    let number = (inv.follows some).number in
    omega (arith, number, low)
one n w p sound st i (BeginBucket b) at on low = low
one n w p sound st i act at on low =
    let same = ap (λ (x : JournalShare). x.entries.newest.number)
    (journal_kept.one w st i act refl on) in
    omega (arith, same, low)

kept : (n : ℕ) (w : Opening) (p : parts.State) → IsSound w p
    → IsKeptAt w p (λ act. Unit {0}) (λ a b. IsUpTo n a → IsUpTo n b)
kept n w p sound = record {
  same = λ a h. h;
  both = λ a b c x y h. y (x h);
  one = λ st i act at any on. one n w p sound st i act at on;
}

any_acts : (acts : List Act) → AllActs (λ act. Unit {0}) acts
any_acts [] = tt
any_acts (act ∷ acts) = (tt, any_acts acts)

pub law_lasts : LawLasts
law_lasts x e n h o is course =
    let before = origin_before x e o is in
    let w = o.opening in
    let st = replay o x.log in
    let acts = acts_or_none (acts_of w.machine st.machine e.seat e.deed) in
    kept_at w.machine o.parts before.sound (λ act. Unit {0}) (λ a b. IsUpTo n a → IsUpTo n b)
    (kept n w.machine o.parts before.sound) st.machine e.seat acts
    (at_course o before.sound x.log course.2) (any_acts acts)
    (in_order w st e (acts_of w.machine st.machine e.seat e.deed) course.0.enabled)
    (h o before course.2)

pub law_told : LawTold
law_told x j h o is course =
    let same = ap (λ (d : Numbers). d.seq) (h.stands o is course).durable in omega (arith, same)

module _ {C B : Type 0} (cache_facts : C → DiskFacts) (backing_facts : B → DiskFacts) where
  -- a seat of the same run that has seen the same events has seen the same state
  pub world_same : (v w : View cache_facts backing_facts) → w.run ≡ v.run → w.seen ≡ v.seen
      → world cache_facts backing_facts w ≡ world cache_facts backing_facts v
  world_same v w run seen = ap (λ (r : Run (CorePart C B)).
      state_after (core cache_facts backing_facts) r.start w.seen) run
      ∙ ap (λ (es : List Event). state_after (core cache_facts backing_facts) v.run.start es) seen

  pub law_known : LawKnown {C = C} {B = B} cache_facts backing_facts
  law_known = record {
    waited = λ v w n waited h. lasts (m cache_facts backing_facts) v _
        (λ y. FromEach y (IsDurableTo n)) (λ y e may on. law_lasts y e n on) waited.since h;
    did = λ v w d n did h. subst (λ y. FromEach y (IsDurableTo n)) (sym did.is.state)
        (law_lasts did.is.before (by v.first d) n (lasts (m cache_facts backing_facts) v did.is.before
        (λ y. FromEach y (IsDurableTo n)) (λ y e may on. law_lasts y e n on) did.is.since h));
  }

-- Each run of events is a run of the machine.
use Rattle.std.proofs.Common.{◌≡◌, ℕ, List, [], ◌∷◌, ◌++◌, Option, Some, None, refl, sym, ap, ◌∙◌, subst}
use Rattle.bc_model.specs.Sector.{Image, unless}
use Rattle.bc_model.specs.History.{gives, now, IsRight, IsLegal}
use Rattle.bc_model.specs.declared.history.Entry.{Entry}
use Rattle.bc_model.specs.declared.history.Entry.TheVariants as entry
use Rattle.bc_disk.specs.Device.{MayLeave}
use Rattle.bc_books.specs.Enabled.{CanRaise}
use Rattle.bc_meta.specs.Places.{NoChance}
use Rattle.bc_leaves.specs.Parts as parts
use Rattle.bc_leaves_runs.specs.Reopen.{AllReplay}
use Rattle.bc_whole.specs.State as whole
use Rattle.bc_whole.specs.Laws.{Reads, IsUnneeded}
use Rattle.bc_known.specs.Acts.{Act}
use Rattle.bc_known.specs.Acts as known
use Rattle.bc_known.specs.Run as machine
use Rattle.bc_known.specs.Laws as known_law
use Rattle.bc_known.specs.Laws.{OpensAgain}
use Rattle.bc_known.specs.Workers.{renamed, all_renamed}
use Rattle.bc_known.proofs.Law as law
use Rattle.bc_known.proofs.Next as next
use Rattle.bc_events.specs.Acts.{acts_of}
use Rattle.bc_events.specs.Run.{Opening, State, start, by, IsSome, CanDo, acts_or_none, acts, after, run, machine_events}
use Rattle.bc_events.specs.Laws.{LawMachine, Always, LawNow, LawCrash, LawRaise, LawNext}
use Rattle.bc_events.specs.declared.event.Event.{Event}

run_join : (w : whole.Opening) (st : known.State) (xs ys : List known.Event)
    → machine.run w st (xs ++ ys) ≡ machine.run w (machine.run w st xs) ys
run_join w st [] ys = refl
run_join w st (x ∷ xs) ys = run_join w (known.after w st x.seat x.act) xs ys

is_run_join : (w : whole.Opening) (st : known.State) (xs ys : List known.Event)
    → machine.IsRun w st xs → machine.IsRun w (machine.run w st xs) ys
    → machine.IsRun w st (xs ++ ys)
is_run_join w st [] ys a b = b
is_run_join w st (x ∷ xs) ys a b =
    (a.0, is_run_join w (known.after w st x.seat x.act) xs ys a.1 b)

-- the acts of an event are in order
allowed : (w : Opening) (st : State) (e : Event) (o : Option (List Act)) → IsSome o (CanDo w st e)
    → machine.IsRun w.machine st.machine (by e.seat (acts_or_none o))
allowed w st e None on = absurd on
allowed w st e (Some acts) on = on.course

pub law_machine : LawMachine
law_machine w first [] h = record { course = tt; last = refl }
law_machine w first (e ∷ es) h =
    let these = by e.seat (acts w first e) in
    let others = machine_events w (after w first e) es in
    let rest = law_machine w (after w first e) es h.1 in record {
      course = is_run_join w.machine first.machine these others
          (allowed w first e (acts_of w.machine first.machine e.seat e.deed) h.0) rest.course;
      last = rest.last ∙ sym (run_join w.machine first.machine these others);
    }

-- so what holds of those runs holds of these
lift : (P : whole.Opening → known.State → Type 0) → known_law.Always P
    → Always (λ w st. P w.machine st.machine)
lift P holds w x n es sound h = let m = law_machine w (start w x n) es h in
    subst (P w.machine) (sym m.last)
    (holds w.machine x n (machine_events w (start w x n) es) sound m.course)

-- ---- histories by workers

gives_same : (f : ℕ → ℕ) (e : Entry) (s : ℕ) → gives (renamed f e) s ≡ gives e s
gives_same f (entry.Write worker line first values) s = refl
gives_same f (entry.Read worker line first values) s = refl
gives_same f (entry.FlushFrom worker line) s = refl
gives_same f (entry.FlushDone worker line) s = refl
gives_same f (entry.Durable worker line first count) s = refl
gives_same f (entry.Tried first values) s = refl

pub now_same : (f : ℕ → ℕ) (opening : Image) (H : List Entry) (s : ℕ)
    → now opening (all_renamed f H) s ≡ now opening H s
now_same f opening [] s = refl
now_same f opening (e ∷ es) s =
    ap (λ o. unless o (now opening (all_renamed f es) s)) (gives_same f e s)
    ∙ ap (λ v. unless (gives e s) v) (now_same f opening es s)

right_same : (f : ℕ → ℕ) (opening : Image) (es : List Entry) (e : Entry)
    → IsRight e (now opening es) → IsRight (renamed f e) (now opening (all_renamed f es))
right_same f opening es (entry.Read worker line first values) h =
    λ s v e. h s v e ∙ sym (now_same f opening es s)
right_same f opening es (entry.Write worker line first values) h = tt
right_same f opening es (entry.FlushFrom worker line) h = tt
right_same f opening es (entry.FlushDone worker line) h = tt
right_same f opening es (entry.Durable worker line first count) h = tt
right_same f opening es (entry.Tried first values) h = tt

pub legal_renamed : (f : ℕ → ℕ) (opening : Image) (H : List Entry) → IsLegal opening H
    → IsLegal opening (all_renamed f H)
legal_renamed f opening [] h = tt
legal_renamed f opening (e ∷ es) h =
    (right_same f opening es e h.0, legal_renamed f opening es h.1)

pub law_now : LawNow
law_now w x n es sound h = legal_renamed w.worker w.machine.flow.image
    (run w (start w x n) es).machine.whole.flow.history
    (lift (λ w st. IsLegal w.flow.image st.whole.flow.history) law.law_now w x n es sound h)

pub law_crash : LawCrash
law_crash w x n es sound h chance c b left = lift (λ w st.
    NoChance w.layout w.store.image st.whole.store.places → (c b : Image)
    → MayLeave st.whole.flow.cache c → MayLeave st.whole.flow.backing b → Reads w st.whole c b)
    law.law_crash w x n es sound h chance c b left.0 left.1

pub law_raise : LawRaise
law_raise = lift (λ w st. (q : ℕ) → CanRaise w.flow.books st.whole.flow.books q
    → IsUnneeded w st.whole q) law.law_raise

pub law_next : LawNext
law_next w x n es sound h chance c b left = lift (λ w st.
    NoChance w.layout w.store.image st.whole.store.places → (c b : Image)
    → MayLeave st.whole.flow.cache c → MayLeave st.whole.flow.backing b
    → (r : Reads w st.whole c b) × ((leaf : ℕ → ℕ) (pending : ℕ → List parts.Pending)
    → AllReplay st.whole.parts r.newest r.older pending → OpensAgain w st c b))
    next.law_next w x n es sound h chance c b left.0 left.1

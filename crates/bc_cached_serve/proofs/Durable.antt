-- All that has come into the index is durable: behind a run's first entry, and behind what changes
-- no value.
use Rattle.std.proofs.Common.{◌≡◌, ℕ, ◌≤◌, false, List, [], ◌∷◌, Option, Some, None, refl, sym, subst, arith}
use Rattle.std.specs.Prelude.{Vec, fold, map}
use Rattle.std.specs.declared.alloc.Global.{Global}
use Rattle.bc_disk.specs.Disk.{DiskFacts}
use Rattle.bc_session.specs.bc_entry.Put.{IsPut, put_by, write_by}
use Rattle.bc_session.specs.bc_entry.Seal.{begun_by}
use Rattle.bc_events.specs.Run.{State}
use Rattle.bc_events.specs.Run as core
use Rattle.bc_events.specs.declared.event.Deed.{Deed}
use Rattle.bc_events.specs.declared.event.Deed.TheVariants as deed
use Rattle.bc_events.specs.declared.event.Event.{Event}
use Rattle.bc_flush.proofs.Counting.{after_each}
use Rattle.bc_serve.specs.bc_hand.Seats.{View, by, world}
use Rattle.bc_journal.specs.Journal.{Journal}
use Rattle.bc_journal.specs.Sealed.{Sealed}
use Rattle.bc_serve.specs.bc_machine.World.{FromEach, Origin, World, after, opening, replay}
use Rattle.bc_model.specs.Sector.{Value}
use Rattle.bc_shares.proofs.Law.{law_journal}
use Rattle.bc_shares.specs.Shares.{JournalShare, books_of}
use Rattle.bc_shares.specs.Touched.{touches_journal}
use Rattle.bc_cached_serve.specs.Deeds.{AreKeeping, IsKeeping}
use Rattle.bc_cached_serve.specs.Worker.{AreAllDurable}

-- ---- what leaves the journal alone

abbrev KeepsShare : (JournalShare → Type 0) → Origin → State → Type 0
KeepsShare P o st = P (Rattle.bc_shares.specs.Shares.journal_share st.machine)

quiet : (P : JournalShare → Type 0) (x : World) (e : Event) → touches_journal e.deed ≡ false
    → FromEach x (KeepsShare P) → FromEach (after x e) (KeepsShare P)
quiet P x e off = after_each x e (KeepsShare P) (KeepsShare P)
    (λ o is course on h. subst P (sym (law_journal o.opening (replay o x.log) e on off)) h)

keeping_quiet : (d : Deed) → IsKeeping d → touches_journal d ≡ false
keeping_quiet (deed.FlushFrom of) is = refl
keeping_quiet deed.BackingBarrier is = refl
keeping_quiet (deed.FlushDone of) is = refl
keeping_quiet (deed.DeviceFault x) is = refl
keeping_quiet (deed.Claim first count how) is = refl
keeping_quiet (deed.Look leaf) is = refl
keeping_quiet (deed.CacheRead at first values) is = refl
keeping_quiet (deed.BackingRead first values) is = refl
keeping_quiet (deed.Answer of first values) is = refl
keeping_quiet deed.Release is = refl
keeping_quiet d is = absurd is

abbrev Durables : JournalShare → Type 0
Durables k = k.counts.count ≤ k.counts.journal.durable

abbrev Sealeds : JournalShare → Type 0
Sealeds k = k.counts.count ≤ k.counts.journal.sealed

pub durable_behind : (i : ℕ) (x : World) (ds : List Deed) → AreKeeping ds
    → FromEach x AreAllDurable → FromEach (fold after x (map (by i) ds)) AreAllDurable
durable_behind i x [] are h = h
durable_behind i x (d ∷ ds) are h = durable_behind i (after x (by i d)) ds are.1
    (quiet Durables x (by i d) (keeping_quiet d are.0) h)

-- ---- behind an entry

sealed_now : (x : World) (i low : ℕ) (bucket : Option ℕ) (rest : Vec ℕ Global)
    → FromEach (after x (by i (deed.Seal low bucket rest None None))) (KeepsShare Sealeds)
sealed_now x i low bucket rest = after_each x (by i (deed.Seal low bucket rest None None))
    (λ o st. Unit {0}) (KeepsShare Sealeds) (λ o is course on h. all o (replay o x.log) bucket)
    (λ o is course. tt)
  where
    all : (o : Origin) (st : State) (b : Option ℕ)
        → KeepsShare Sealeds o (core.after o.opening st (by i (deed.Seal low b rest None None)))
    all o st None = omega arith
    all o st (Some b) = omega arith

durable_now : (x : World) (i : ℕ) → FromEach x (KeepsShare Sealeds)
    → FromEach (after x (by i deed.Sealed)) AreAllDurable
durable_now x i = after_each x (by i deed.Sealed) (KeepsShare Sealeds) AreAllDurable
    (λ o is course on h. h)

put_durable : (x : World) (i : ℕ) (k : Journal) (s : Sealed) (rest : Vec ℕ Global)
    (values : List Value)
    → FromEach (fold after x (map (by i) (put_by k s rest values))) AreAllDurable
put_durable x i k s rest values = durable_now _ i
    (quiet Sealeds _ (by i deed.CacheBarrier) refl
    (quiet Sealeds _ (by i (write_by s values)) refl
    (quiet Sealeds _ (by i deed.CacheBarrier) refl
    (sealed_now x i s.entry.last_seq (begun_by k) rest))))

pub first_durable : (x : World) (i : ℕ) (k : Journal) (s : Sealed) (ds : List Deed) → IsPut k s ds
    → FromEach (fold after x (map (by i) ds)) AreAllDurable
first_durable x i k s ds put = subst (λ (l : List Deed).
    FromEach (fold after x (map (by i) l)) AreAllDurable) (sym put.is)
    (put_durable x i k s put.rest put.values)

module _ {C B : Type 0} (cache_facts : C → DiskFacts) (backing_facts : B → DiskFacts) where
  -- a run of which that entry is all that happened
  pub started_durable : (v : View {C = C} {B = B} cache_facts backing_facts) (k : Journal)
      (s : Sealed) (ds : List Deed) → IsPut k s ds → v.seen ≡ map (by 0) ds
      → FromEach (world cache_facts backing_facts v) AreAllDurable
  started_durable v k s ds put seen = subst (λ (l : List Event).
      FromEach (fold after (opening cache_facts backing_facts v.run.start) l) AreAllDurable)
      (sym seen) (first_durable (opening cache_facts backing_facts v.run.start) 0 k s ds put)

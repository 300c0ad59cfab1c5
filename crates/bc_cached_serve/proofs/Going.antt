-- Deeds of reading, one behind the other.
use Rattle.std.proofs.Common.{◌≡◌, ◌⊎◌, inl, inr, Bool, true, false, List, [], ◌∷◌, ◌++◌, refl, sym, ap, ◌∙◌, subst}
use Rattle.bc_serve.proofs.of_bc_deed.Sequence.{done_both}
use Rattle.bc_serve.specs.bc_deed.Flushed.{HasDone}
use Rattle.bc_disk.specs.Disk.{DiskFacts}
use Rattle.bc_events.specs.declared.event.Deed.{Deed}
use Rattle.bc_events.specs.declared.event.Deed.TheVariants as deed
use Rattle.bc_events.specs.declared.event.Failure.{Failure}
use Rattle.bc_events.specs.declared.event.Failure.TheVariants as failure
use Rattle.bc_serve.proofs.of_bc_hand.Knowing.{View}
use Rattle.bc_model.specs.Sector.{Value}
use Rattle.bc_model.specs.declared.history.Entry.{Entry}
use Rattle.bc_flush.specs.bc_reader.Deeds.{AreRunDeeds, AreRunsDeeds, HasTurned}
use Rattle.bc_flush.specs.bc_reads.declared.runs.ReadRun.{ReadRun}
use Rattle.bc_serve.specs.Causes.{entries_by}
use Rattle.bc_serve.proofs.Lists.{entries_both}
use Rattle.bc_cached_serve.specs.Deeds.{AreKeeping, AreReading, AreTurned, GoesOn, IsKeeping, IsRead, IsReadOrBarrier, IsReading, IsTurned}

-- ---- lists

pub reading_both : (xs ys : List Deed) → AreReading xs → AreReading ys → AreReading (xs ++ ys)
reading_both [] ys a b = b
reading_both (x ∷ xs) ys a b = (a.0, reading_both xs ys a.1 b)

-- what reads changes no value
fault_keeps : (x : Failure) → IsRead x → IsReadOrBarrier x
fault_keeps (failure.Read which) is = tt
fault_keeps x is = absurd is

reading_keeps : (d : Deed) → IsReading d → IsKeeping d
reading_keeps (deed.FlushFrom of) is = tt
reading_keeps deed.BackingBarrier is = tt
reading_keeps (deed.FlushDone of) is = tt
reading_keeps (deed.DeviceFault x) is = fault_keeps x is
reading_keeps d is = is

pub keeping_of : (ds : List Deed) → AreReading ds → AreKeeping ds
keeping_of [] are = tt
keeping_of (d ∷ ds) are = (reading_keeps d are.0, keeping_of ds are.1)

pub keeping_both : (xs ys : List Deed) → AreKeeping xs → AreKeeping ys → AreKeeping (xs ++ ys)
keeping_both [] ys a b = b
keeping_both (x ∷ xs) ys a b = (a.0, keeping_both xs ys a.1 b)

goes_behind : (cut : Bool) (xs ys : List Deed) → GoesOn false xs → GoesOn cut (xs ++ ys)
goes_behind cut [] ys is = absurd (cc)
goes_behind cut (deed.BackingRead first values ∷ xs) ys is = tt
goes_behind cut (x ∷ xs) ys is = absurd is

turned_behind : (cut : Bool) (x : Deed) (xs ys : List Deed) → IsTurned false x xs
    → IsTurned cut x (xs ++ ys)
turned_behind cut (deed.DeviceFault f) xs ys is = (is.0, goes_behind cut xs ys is.1)
turned_behind cut x xs ys is = tt

pub turned_both : (cut : Bool) (xs ys : List Deed) → AreTurned false xs → AreTurned cut ys
    → AreTurned cut (xs ++ ys)
turned_both cut [] ys a b = b
turned_both cut (x ∷ xs) ys a b = (turned_behind cut x xs ys a.0, turned_both cut xs ys a.1 b)

goes_either : (cut : Bool) (xs : List Deed) → GoesOn false xs → GoesOn cut xs
goes_either cut [] is = absurd (cc)
goes_either cut (deed.BackingRead first values ∷ xs) is = tt
goes_either cut (x ∷ xs) is = absurd is

turned_either : (cut : Bool) (x : Deed) (xs : List Deed) → IsTurned false x xs → IsTurned cut x xs
turned_either cut (deed.DeviceFault f) xs is = (is.0, goes_either cut xs is.1)
turned_either cut x xs is = tt

pub all_either : (cut : Bool) (xs : List Deed) → AreTurned false xs → AreTurned cut xs
all_either cut [] all = tt
all_either cut (x ∷ xs) all = (turned_either cut x xs all.0, all_either cut xs all.1)

-- ---- what is known of deeds

-- they are of reading, these are their entries, and each failed call was turned
pub record Reads (cut : Bool) (entries : List Entry) (ds : List Deed) : Type 0 where
  pub reading : AreReading ds
  pub entries_are : entries_by ds ≡ entries
  pub turned : AreTurned cut ds

pub reads_none : (cut : Bool) → Reads cut [] []
reads_none cut = record { reading = tt; entries_are = refl; turned = tt }

pub reads_both : (cut : Bool) (es fs : List Entry) (xs ys : List Deed) → Reads false es xs
    → Reads cut fs ys → Reads cut (es ++ fs) (xs ++ ys)
reads_both cut es fs xs ys a b = record {
  reading = reading_both xs ys a.reading b.reading;
  entries_are = entries_both xs ys
      ∙ ap (λ (l : List Entry). l ++ entries_by ys) a.entries_are
      ∙ ap (λ (l : List Entry). es ++ l) b.entries_are;
  turned = turned_both cut xs ys a.turned b.turned;
}

pub reads_either : (cut : Bool) (es : List Entry) (ds : List Deed) → Reads false es ds
    → Reads cut es ds
reads_either cut es ds a = record {
  reading = a.reading;
  entries_are = a.entries_are;
  turned = all_either cut ds a.turned;
}

-- ---- runs

-- one failed read of the cache device, or none
turns : (r : ReadRun) (ds : List Deed) → HasTurned r ds → Reads true [] ds
turns r ds (inl h) = subst (Reads true []) (sym h.1) (reads_none true)
turns r ds (inr h) = subst (Reads true []) (sym h.1)
    (record { reading = (tt, tt); entries_are = refl; turned = ((refl, refl), tt) })

pub turned_run : (r : ReadRun) (ds : List Deed) → (ds ≡ []) ⊎ HasTurned r ds → Reads true [] ds
turned_run r ds (inl none) = subst (Reads true []) (sym none) (reads_none true)
turned_run r ds (inr h) = turns r ds h

pub before_run : (r : ReadRun) (ds : List Deed) → HasTurned r ds → Reads true [] ds
before_run r ds h = turns r ds h

run_turned : (r : ReadRun) (before : List Deed) (values : List Value) → HasTurned r before
    → Reads false [] (before ++ deed.BackingRead r.first values ∷ [])
run_turned r before values (inl h) = subst (λ (l : List Deed).
    Reads false [] (l ++ deed.BackingRead r.first values ∷ [])) (sym h.1)
    (record { reading = (tt, tt); entries_are = refl; turned = (tt, tt) })
run_turned r before values (inr h) = subst (λ (l : List Deed).
    Reads false [] (l ++ deed.BackingRead r.first values ∷ [])) (sym h.1)
    (record { reading = (tt, (tt, tt)); entries_are = refl; turned = ((refl, tt), (tt, tt)) })

pub run_reads : (r : ReadRun) (values : List Value) (ds : List Deed) → AreRunDeeds r values ds
    → Reads false [] ds
run_reads r values ds (inl h) = subst (Reads false []) (sym h.3)
    (record { reading = (tt, tt); entries_are = refl; turned = (tt, tt) })
run_reads r values ds (inr h) = subst (Reads false []) (sym h.2) (run_turned r h.0 values h.1)

pub runs_read : (rs : List ReadRun) (values : List Value) (ds : List Deed)
    → AreRunsDeeds rs values ds → Reads false [] ds
runs_read [] values ds h = subst (Reads false []) (sym h.1) (reads_none false)
runs_read (r ∷ rs) values ds h = subst (Reads false []) (sym h.7)
    (reads_both false [] [] h.2 h.3 (run_reads r h.0 h.2 h.6) (runs_read rs h.1 h.3 h.8))

-- ---- of a seat

module _ {C B : Type 0} (cache_facts : C → DiskFacts) (backing_facts : B → DiskFacts) where
  pub record HasRead (cut : Bool) (entries : List Entry) (v w : View cache_facts backing_facts)
      : Type 0 where
    pub deeds : List Deed
    pub done : HasDone cache_facts backing_facts deeds v w
    pub reads : Reads cut entries deeds

  pub then_read : (cut : Bool) (es fs : List Entry) (u v w : View cache_facts backing_facts)
      → HasRead false es u v → HasRead cut fs v w → HasRead cut (es ++ fs) u w
  then_read cut es fs u v w a b = record {
    deeds = a.deeds ++ b.deeds;
    done = done_both cache_facts backing_facts a.deeds b.deeds u v w a.done b.done;
    reads = reads_both cut es fs a.deeds b.deeds a.reads b.reads;
  }

  pub none_read : (v w : View cache_facts backing_facts) → HasDone cache_facts backing_facts [] v w
      → HasRead false [] v w
  none_read v w done = record { deeds = []; done = done; reads = reads_none false }

  pub either_read : (cut : Bool) (es : List Entry) (v w : View cache_facts backing_facts)
      → HasRead false es v w → HasRead cut es v w
  either_read cut es v w a = record {
    deeds = a.deeds;
    done = a.done;
    reads = reads_either cut es a.deeds a.reads;
  }

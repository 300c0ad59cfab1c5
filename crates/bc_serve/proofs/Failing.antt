-- A call that failed raises the count of the backing device's faults, to the end of the run.
use Rattle.std.proofs.Common.{◌≡◌, ◌⊎◌, inl, inr, ℕ, suc, ◌≤◌, Bool, true, false, ◌||◌, List, [], ◌∷◌, ◌++◌, Option, Some, None, refl, sym, ap, ◌∙◌, subst, arith}
use Rattle.std.specs.Prelude.{fold, map, if◌then◌else◌}
use Rattle.bc_model.proofs.Cases.{by_test}
use Rattle.bc_disk.specs.Device.{HasRisen, next_count, count_end}
use Rattle.bc_disk.specs.declared.disk.Device.{Device}
use Rattle.bc_disk.specs.declared.disk.Device.TheVariants as device
use Rattle.bc_events.specs.Columns.{Call, call_by, halt_after, halt_by, halt_of, first_halt}
use Rattle.bc_events.specs.declared.event.Deed.{Deed}
use Rattle.bc_events.specs.declared.event.Deed.TheVariants as deed
use Rattle.bc_events.specs.declared.event.Event.{Event}
use Rattle.bc_plain_laws.specs.bc_machine.World.{Side, World, after, called}
use Rattle.bc_plain_laws.specs.bc_hand.Seats.{by}
use Rattle.bc_serve.specs.Causes.{CallsBacking, IsOfBacking, has_failed, is_failed}
use Rattle.bc_serve.specs.Run.{events_by}

-- ---- lists of events

-- a call among these events failed
abbrev pub failed_in : List Event → Bool
failed_in [] = false
failed_in (e ∷ es) = is_failed (call_by e.deed) || failed_in es

-- each call among them is of the backing device
abbrev pub AreOfBacking : List Event → Type 0
AreOfBacking [] = Unit {0}
AreOfBacking (e ∷ es) = IsOfBacking (call_by e.deed) × AreOfBacking es

pub failed_map : (i : ℕ) (ds : List Deed) → failed_in (map (by i) ds) ≡ has_failed ds
failed_map i [] = refl
failed_map i (d ∷ ds) = ap (λ b. is_failed (call_by d) || b) (failed_map i ds)

pub calls_map : (i : ℕ) (ds : List Deed) → CallsBacking ds → AreOfBacking (map (by i) ds)
calls_map i [] h = tt
calls_map i (d ∷ ds) h = (h.0, calls_map i ds h.1)

pub calls_join : (xs ys : List Event) → AreOfBacking xs → AreOfBacking ys → AreOfBacking (xs ++ ys)
calls_join [] ys a b = b
calls_join (x ∷ xs) ys a b = (a.0, calls_join xs ys a.1 b)

or_true : (a b : Bool) → (a || b) ≡ true → (a ≡ true) ⊎ (b ≡ true)
or_true true b is = inl refl
or_true false b is = inr is

or_right : (a b : Bool) → b ≡ true → (a || b) ≡ true
or_right true b is = refl
or_right false b is = is

or_left : (a b : Bool) → a ≡ true → (a || b) ≡ true
or_left true b is = refl
or_left false b is = absurd (cc)

or_mono : (a b c : Bool) → (b ≡ true → c ≡ true) → (a || b) ≡ true → (a || c) ≡ true
or_mono true b c on is = refl
or_mono false b c on is = on is

pub failed_left : (xs ys : List Event) → failed_in xs ≡ true → failed_in (xs ++ ys) ≡ true
failed_left [] ys is = absurd (cc)
failed_left (x ∷ xs) ys is = or_mono (is_failed (call_by x.deed)) (failed_in xs) (failed_in (xs ++ ys))
    (failed_left xs ys) is

pub failed_right : (xs ys : List Event) → failed_in ys ≡ true → failed_in (xs ++ ys) ≡ true
failed_right [] ys is = is
failed_right (x ∷ xs) ys is = or_right (is_failed (call_by x.deed)) (failed_in (xs ++ ys)) (failed_right xs ys is)

-- what a seat's own events tell, all tell
pub failed_own : (i : ℕ) (es : List Event) → failed_in (events_by i es) ≡ true → failed_in es ≡ true
failed_own i [] is = is
failed_own i (e ∷ es) is = by_test e.seat i
    (λ b. failed_in (if b then e ∷ events_by i es else events_by i es) ≡ true
    → (is_failed (call_by e.deed) || failed_in es) ≡ true)
    (λ same here. or_mono (is_failed (call_by e.deed)) (failed_in (events_by i es)) (failed_in es) (failed_own i es) here)
    (λ other here. or_right (is_failed (call_by e.deed)) (failed_in es) (failed_own i es here)) is

-- ---- halts

first_of : (h : Option Device) (n : Option Device) (d : Device) → first_halt h n ≡ Some d
    → (h ≡ Some d) ⊎ (n ≡ Some d)
first_of None n d is = inr is
first_of (Some x) n d is = inl is

-- what halts the run is a call that failed
halts : (e : Deed) (d : Device) → halt_by e ≡ Some d → is_failed (call_by e) ≡ true
halts (deed.DeviceFault x) d is = refl
halts e d is = absurd (cc)

halted_failed : (h : Option Device) (es : List Event) (d : Device) → fold halt_after h es ≡ Some d
    → (h ≡ Some d) ⊎ (failed_in es ≡ true)
halted_failed h [] d is = inl is
halted_failed h (e ∷ es) d is = by_case (halted_failed (halt_after h e) es d is)
  where
    here : (h ≡ Some d) ⊎ (halt_by e.deed ≡ Some d)
        → (h ≡ Some d) ⊎ ((is_failed (call_by e.deed) || failed_in es) ≡ true)
    here (inl before) = inl before
    here (inr now) = inr (or_left (is_failed (call_by e.deed)) (failed_in es) (halts e.deed d now))

    by_case : (halt_after h e ≡ Some d) ⊎ (failed_in es ≡ true)
        → (h ≡ Some d) ⊎ ((is_failed (call_by e.deed) || failed_in es) ≡ true)
    by_case (inl at) = here (first_of h (halt_by e.deed) d at)
    by_case (inr later) = inr (or_right (is_failed (call_by e.deed)) (failed_in es) later)

pub halt_failed : (es : List Event) (d : Device) → halt_of es ≡ Some d → failed_in es ≡ true
halt_failed es d is = by_case (halted_failed None es d is)
  where
    by_case : (None ≡ Some d) ⊎ (failed_in es ≡ true) → failed_in es ≡ true
    by_case (inl never) = absurd (cc)
    by_case (inr failed) = failed

-- ---- counts

-- no lower than before, and at its end still
abbrev Holds : ℕ → ℕ → Type 0
Holds old new = (old ≤ new) × (old ≡ count_end → new ≡ count_end)

holds_same : (old new : ℕ) → new ≡ old → Holds old new
holds_same old new is = (omega (arith, is), (λ end. is ∙ end))

next_holds : (n : ℕ) → Holds n (next_count n)
next_holds n = by_test n count_end (λ t. Holds n (if t then n else suc n))
    (λ same. holds_same n n refl) (λ apart. ((omega arith), (λ end. absurd (apart end))))

pub next_rises : (n : ℕ) → HasRisen n (next_count n)
next_rises n = by_test n count_end (λ t. HasRisen n (if t then n else suc n))
    (λ same. inr same) (λ apart. inl (omega arith))

still_risen : (old mid new : ℕ) → HasRisen old mid → Holds mid new → HasRisen old new
still_risen old mid new (inl less) h = inl (omega (arith, h.0))
still_risen old mid new (inr end) h = inr (h.1 end)

before_risen : (old mid new : ℕ) → Holds old mid → HasRisen mid new → HasRisen old new
before_risen old mid new h (inl less) = inl (omega (arith, h.0))
before_risen old mid new h (inr end) = inr end

counted_holds : (failed : Bool) (n : ℕ) → Holds n (if failed then next_count n else n)
counted_holds true n = next_holds n
counted_holds false n = holds_same n n refl

called_holds : (c : Option Call) (x : Side) → IsOfBacking c → Holds x.faults (called device.Backing c x).faults
called_holds None x of = holds_same x.faults x.faults refl
called_holds (Some call) x of = subst (λ (d : Device). Holds x.faults
    (called device.Backing (Some (record { device = d; failed = call.failed })) x).faults) (sym of)
    (counted_holds call.failed x.faults)

called_rises : (c : Option Call) (x : Side) → IsOfBacking c → is_failed c ≡ true
    → HasRisen x.faults (called device.Backing c x).faults
called_rises None x of is = absurd (cc)
called_rises (Some call) x of is = subst (λ (d : Device). HasRisen x.faults
    (called device.Backing (Some (record { device = d; failed = call.failed })) x).faults) (sym of)
    (subst (λ b. HasRisen x.faults (if b then next_count x.faults else x.faults)) (sym is) (next_rises x.faults))

fold_holds : (x : World) (es : List Event) → AreOfBacking es
    → Holds x.backing.faults (fold after x es).backing.faults
fold_holds x [] of = holds_same x.backing.faults x.backing.faults refl
fold_holds x (e ∷ es) of =
    let one = called_holds (call_by e.deed) x.backing of.0 in
    let rest = fold_holds (after x e) es of.1 in
    (omega (arith, one.0, rest.0), (λ end. rest.1 (one.1 end)))

pub rises : (x : World) (es : List Event) → AreOfBacking es → failed_in es ≡ true
    → HasRisen x.backing.faults (fold after x es).backing.faults
rises x [] of is = absurd (cc)
rises x (e ∷ es) of is = by_case (or_true (is_failed (call_by e.deed)) (failed_in es) is) (rises (after x e) es of.1)
  where
    by_case : (is_failed (call_by e.deed) ≡ true) ⊎ (failed_in es ≡ true)
        → (failed_in es ≡ true → HasRisen (after x e).backing.faults (fold after (after x e) es).backing.faults)
        → HasRisen x.backing.faults (fold after x (e ∷ es)).backing.faults
    by_case (inl here) later = still_risen x.backing.faults (after x e).backing.faults
        (fold after (after x e) es).backing.faults
        (called_rises (call_by e.deed) x.backing of.0 here) (fold_holds (after x e) es of.1)
    by_case (inr is) later = before_risen x.backing.faults (after x e).backing.faults
        (fold after (after x e) es).backing.faults
        (called_holds (call_by e.deed) x.backing of.0) (later is)

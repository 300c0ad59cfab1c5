-- A call that failed raises the count of faults of its device, whichever it was, to the end of a
-- run.
use Rattle.std.proofs.Common.{◌≡◌, ◌⊎◌, inl, inr, ℕ, suc, ◌≤◌, Bool, true, false, ◌||◌, List, [], ◌∷◌, Option, Some, None, refl, sym, ◌∙◌, subst, arith}
use Rattle.std.specs.Prelude.{fold, if◌then◌else◌}
use Rattle.bc_model.proofs.Cases.{by_test}
use Rattle.bc_disk.specs.Device.{HasRisen, next_count, count_end}
use Rattle.bc_disk.specs.declared.disk.Device.{Device}
use Rattle.bc_disk.specs.declared.disk.Device.TheVariants as device
use Rattle.bc_events.specs.Columns.{Call, call_by}
use Rattle.bc_events.specs.declared.event.Event.{Event}
use Rattle.bc_session_laws.specs.bc_machine.World.{Side, World, after, called}
use Rattle.bc_sound_reads.specs.bc_serve.Causes.{is_failed}
use Rattle.bc_sound_reads.proofs.of_bc_serve.Failing.{failed_in, next_rises}

-- no lower than before, and at its end still
abbrev pub Holds : ℕ → ℕ → Type 0
Holds old new = (old ≤ new) × (old ≡ count_end → new ≡ count_end)

pub holds_same : (old new : ℕ) → new ≡ old → Holds old new
holds_same old new is = (omega (arith, is), (λ end. is ∙ end))

pub next_holds : (n : ℕ) → Holds n (next_count n)
next_holds n = by_test n count_end (λ t. Holds n (if t then n else suc n))
    (λ same. holds_same n n refl) (λ apart. ((omega arith), (λ end. absurd (apart end))))

counted_holds : (failed : Bool) (n : ℕ) → Holds n (if failed then next_count n else n)
counted_holds true n = next_holds n
counted_holds false n = holds_same n n refl

pub still_risen : (old mid new : ℕ) → HasRisen old mid → Holds mid new → HasRisen old new
still_risen old mid new (inl less) h = inl (omega (arith, h.0))
still_risen old mid new (inr end) h = inr (h.1 end)

pub before_risen : (old mid new : ℕ) → Holds old mid → HasRisen mid new → HasRisen old new
before_risen old mid new h (inl less) = inl (omega (arith, h.0))
before_risen old mid new h (inr end) = inr end

pub risen_next : (old mid new : ℕ) → Holds old mid → new ≡ next_count mid → HasRisen old new
risen_next old mid new h is = subst (HasRisen old) (sym is)
    (before_risen old mid (next_count mid) h (next_rises mid))

-- ---- a call

call_holds : (d e : Device) (failed : Bool) (x : Side)
    → Holds x.faults (called d (Some (record { device = e; failed = failed })) x).faults
call_holds device.Cache device.Cache failed x = counted_holds failed x.faults
call_holds device.Cache device.Backing failed x = holds_same x.faults x.faults refl
call_holds device.Backing device.Cache failed x = holds_same x.faults x.faults refl
call_holds device.Backing device.Backing failed x = counted_holds failed x.faults

called_holds : (d : Device) (c : Option Call) (x : Side) → Holds x.faults (called d c x).faults
called_holds d None x = holds_same x.faults x.faults refl
called_holds d (Some call) x = call_holds d call.device call.failed x

abbrev OneRises : Option Call → Side → Side → Type 0
OneRises c x y = HasRisen x.faults (called device.Cache c x).faults
    ⊎ HasRisen y.faults (called device.Backing c y).faults

call_rises : (e : Device) (failed : Bool) (x y : Side) → failed ≡ true
    → OneRises (Some (record { device = e; failed = failed })) x y
call_rises device.Cache true x y is = inl (next_rises x.faults)
call_rises device.Backing true x y is = inr (next_rises y.faults)
call_rises device.Cache false x y is = absurd (cc)
call_rises device.Backing false x y is = absurd (cc)

called_rises : (c : Option Call) (x y : Side) → is_failed c ≡ true → OneRises c x y
called_rises None x y is = absurd (cc)
called_rises (Some call) x y is = call_rises call.device call.failed x y is

-- ---- a run

pub both_hold : (x : World) (es : List Event)
    → Holds x.cache.faults (fold after x es).cache.faults
    × Holds x.backing.faults (fold after x es).backing.faults
both_hold x [] = (
  holds_same x.cache.faults x.cache.faults refl,
  holds_same x.backing.faults x.backing.faults refl,
)
both_hold x (e ∷ es) =
    let one = called_holds device.Cache (call_by e.deed) x.cache in
    let other = called_holds device.Backing (call_by e.deed) x.backing in
    let rest = both_hold (after x e) es in (
      (omega (arith, one.0, rest.0.0), (λ end. rest.0.1 (one.1 end))),
      (omega (arith, other.0, rest.1.0), (λ end. rest.1.1 (other.1 end))),
    )

or_true : (a b : Bool) → (a || b) ≡ true → (a ≡ true) ⊎ (b ≡ true)
or_true true b is = inl refl
or_true false b is = inr is

module _ (x : World) (e : Event) (es : List Event) where
  abbrev y : World
  y = after x e

  abbrev z : World
  z = fold after y es

  abbrev Rises : Type 0
  Rises = HasRisen x.cache.faults z.cache.faults ⊎ HasRisen x.backing.faults z.backing.faults

  abbrev RisesLater : Type 0
  RisesLater = HasRisen y.cache.faults z.cache.faults ⊎ HasRisen y.backing.faults z.backing.faults

  here : OneRises (call_by e.deed) x.cache x.backing → Rises
  here (inl cache) = inl (still_risen x.cache.faults y.cache.faults z.cache.faults cache
      (both_hold y es).0)
  here (inr backing) = inr (still_risen x.backing.faults y.backing.faults z.backing.faults backing
      (both_hold y es).1)

  later : RisesLater → Rises
  later (inl cache) = inl (before_risen x.cache.faults y.cache.faults z.cache.faults
      (called_holds device.Cache (call_by e.deed) x.cache) cache)
  later (inr backing) = inr (before_risen x.backing.faults y.backing.faults z.backing.faults
      (called_holds device.Backing (call_by e.deed) x.backing) backing)

  by_case : (is_failed (call_by e.deed) ≡ true) ⊎ (failed_in es ≡ true)
      → (failed_in es ≡ true → RisesLater) → Rises
  by_case (inl now) on = here (called_rises (call_by e.deed) x.cache x.backing now)
  by_case (inr is) on = later (on is)

pub one_rises : (x : World) (es : List Event) → failed_in es ≡ true
    → HasRisen x.cache.faults (fold after x es).cache.faults
    ⊎ HasRisen x.backing.faults (fold after x es).backing.faults
one_rises x [] is = absurd (cc)
one_rises x (e ∷ es) is = by_case x e es (or_true (is_failed (call_by e.deed)) (failed_in es) is)
    (one_rises (after x e) es)

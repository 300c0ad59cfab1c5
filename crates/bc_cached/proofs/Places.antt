-- Where both devices stand among the parts of a run.
use Rattle.std.proofs.Common.{◌≡◌, ℕ, ◌-◌, ◌<◌, Bool, true, false, List, [], ◌∷◌, length, Option, Some, take, ap, ◌∙◌, subst, refl, arith}
use Rattle.std.specs.Prelude.{fold, slice_index_or}
use Rattle.bc_disk.specs.Disk.{DiskFacts}
use Rattle.bc_parts.specs.Machine.{StandFrom}
use Rattle.bc_events.specs.Run.{Opening}
use Rattle.bc_events.specs.declared.event.Event.{Event}
use Rattle.bc_begun.specs.bc_machine.declared.part.BackingPart.{BackingPart}
use Rattle.bc_begun.specs.bc_machine.declared.part.CorePart.{CorePart}
use Rattle.bc_begun.specs.bc_machine.declared.part.CorePart.TheVariants as part
use Rattle.bc_begun.specs.bc_machine.World.{IsBacking, IsCache, StandsAs, World, after, is_plain, opening}
use Rattle.bc_begun.proofs.of_bc_machine.Viewing.{opening_stays}
use Rattle.bc_deed.specs.bc_hand.Seats.{core}
use Rattle.bc_deed.proofs.Ending.{is_backing}
use Rattle.bc_cached.specs.Begun.{HasDevices}

-- the first six
six_first : {P : Type 0} (ps : List P) → 5 < length ps
    → (a b c d e f : P) × (rest : List P) × (ps ≡ a ∷ b ∷ c ∷ d ∷ e ∷ f ∷ rest)
six_first [] h = absurd (omega arith)
six_first (a ∷ []) h = absurd (omega arith)
six_first (a ∷ b ∷ []) h = absurd (omega arith)
six_first (a ∷ b ∷ c ∷ []) h = absurd (omega arith)
six_first (a ∷ b ∷ c ∷ d ∷ []) h = absurd (omega arith)
six_first (a ∷ b ∷ c ∷ d ∷ e ∷ []) h = absurd (omega arith)
six_first (a ∷ b ∷ c ∷ d ∷ e ∷ f ∷ rest) h = (a, b, c, d, e, f, rest, refl)

-- of those, the one behind the first four, once the last was taken
pub fifth : {P : Type 0} (a b c d e f z : P) (rest ps six five : List P) (o : Option P) (n m : ℕ)
    → ps ≡ a ∷ b ∷ c ∷ d ∷ e ∷ f ∷ rest → six ≡ take 6 ps → n ≡ length six
    → five ≡ take (n - 1) six → m ≡ length five
    → (0 < m → o ≡ Some (slice_index_or five (m - 1) z)) → o ≡ Some e
fifth {P} a b c d e f z rest ps six five o n m are six_is n_is five_is m_is o_is =
    let first : six ≡ a ∷ b ∷ c ∷ d ∷ e ∷ f ∷ [] = six_is ∙ ap (λ (l : List P). take 6 l) are in
    let six_long : n ≡ 6 = n_is ∙ ap (λ (l : List P). length l) first in
    let left : five ≡ a ∷ b ∷ c ∷ d ∷ e ∷ [] = five_is ∙ ap (λ k. take (k - 1) six) six_long
    ∙ ap (λ (l : List P). take 5 l) first in
    let five_long : m ≡ 5 = m_is ∙ ap (λ (l : List P). length l) left in
    o_is (omega (arith, five_long)) ∙ ap (λ k. Some (slice_index_or five (k - 1) z)) five_long
    ∙ ap (λ (l : List P). Some (slice_index_or l 4 z)) left

module _ {C B : Type 0} (cache_facts : C → DiskFacts) (backing_facts : B → DiskFacts) where
  -- the fifth part is the cache device
  is_cache : (p : CorePart C B) (x : World) → is_plain x ≡ false
      → StandsAs cache_facts backing_facts 4 p x → (cache : C) × (p ≡ part.Cache cache)
  is_cache part.Absent x cached h = absurd (never (is_plain x) h.plain cached)
    where
      never : (b : Bool) → b ≡ true → b ≡ false → ⊥
      never b is off = cc
  is_cache (part.Spine sp) x cached h = absurd (let is = h.0 in cc)
  is_cache (part.Flight f) x cached h = absurd (let is = h.0 in cc)
  is_cache (part.Buckets p) x cached h = absurd (let is = h.0 in cc)
  is_cache (part.Journal j) x cached h = absurd (let is = h.0 in cc)
  is_cache (part.Cache c) x cached h = (c, refl)
  is_cache (part.Backing b) x cached h = absurd (let is = h.0 in cc)
  is_cache (part.Leaves c) x cached h = let low = h.0 in absurd (omega arith)

  pub has_devices : (ps : List (CorePart C B)) (x : World) → is_plain x ≡ false → 5 < length ps
      → StandFrom (core cache_facts backing_facts) x 0 ps
      → (cache : C) × (backing : BackingPart B) × HasDevices ps cache backing
  has_devices ps x cached count stand =
      let six = six_first ps count in
      let each = subst (λ (qs : List (CorePart C B)).
      StandFrom (core cache_facts backing_facts) x 0 qs) six.7 stand in
      let cache = is_cache six.4 x cached each.1.1.1.1.0 in
      let backing = is_backing cache_facts backing_facts six.5 x each.1.1.1.1.1.0 in (
        cache.0,
        backing.0,
        (
          six.0,
          six.1,
          six.2,
          six.3,
          six.6,
          six.7
              ∙ ap (λ (p : CorePart C B). six.0 ∷ six.1 ∷ six.2 ∷ six.3 ∷ p ∷ six.5 ∷ six.6) cache.1
              ∙ ap (λ (p : CorePart C B).
              six.0 ∷ six.1 ∷ six.2 ∷ six.3 ∷ part.Cache cache.0 ∷ p ∷ six.6) backing.1,
        ),
      )

  pub devices_stand : (ps : List (CorePart C B)) (x : World) (cache : C) (backing : BackingPart B)
      → HasDevices ps cache backing → StandFrom (core cache_facts backing_facts) x 0 ps
      → IsCache {B = B} cache_facts backing_facts cache x
      × IsBacking {C = C} cache_facts backing_facts backing x
  devices_stand ps x cache backing has stand =
      let each = subst (λ (qs : List (CorePart C B)).
      StandFrom (core cache_facts backing_facts) x 0 qs) has.5 stand in
      (each.1.1.1.1.0.1, each.1.1.1.1.1.0.1)

  -- whether a run is plain, its events don't change
  pub plain_run : (start : List (CorePart C B)) (es : List Event)
      → is_plain (fold after (opening cache_facts backing_facts start) es)
      ≡ is_plain (opening cache_facts backing_facts start)
  plain_run start es = ap (λ (o : Opening). o.machine.flow.plain)
      (opening_stays (opening cache_facts backing_facts start) es)

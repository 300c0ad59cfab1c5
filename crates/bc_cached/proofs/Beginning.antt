-- The parts with which a run over a pair with a cache begins stand for its opening state.
use Rattle.std.proofs.Common.{◌≡◌, inl, inr, ℕ, suc, ◌+◌, ◌-◌, ◌<◌, ◌≤◌, Bool, true, false, List, [], ◌∷◌, ◌++◌, length, Option, Some, None, refl, sym, ap, ◌∙◌, subst, arith}
use Rattle.std.specs.Prelude.{map, nat_lt, option_map, if◌then◌else◌}
use Rattle.bc_cache.specs.Slots.{NodeCache}
use Rattle.bc_disk.specs.Device.{Among, Content, quiet}
use Rattle.bc_disk.specs.Disk.{Allows, DiskFacts, StandsFor}
use Rattle.bc_disk.specs.Stands.{settled_model}
use Rattle.bc_flight.specs.Flight.{claim_of}
use Rattle.bc_model.specs.Sector.{Image}
use Rattle.bc_parts.specs.Machine.{StandFrom}
use Rattle.bc_parts.specs.Seat.{PartsView, newcomer}
use Rattle.bc_tree.specs.Spine.{Spine}
use Rattle.bc_begun.specs.bc_machine.Containers.{AreLeavesOf}
use Rattle.bc_begun.specs.bc_machine.declared.part.SpinePart.{SpinePart}
use Rattle.bc_begun.specs.bc_machine.declared.part.CorePart.{CorePart}
use Rattle.bc_begun.specs.bc_machine.declared.part.CorePart.TheVariants as part
use Rattle.bc_data.specs.Seats.{no_candidate}
use Rattle.bc_begun.specs.bc_machine.World.{AreCandidatesOf, AreLeafParts, kept_of, IsBacking, IsBackingOf, IsCache, IsFlight, IsFlightOf, IsOrigin, Origin, Side, World, behind, image_of, is_some_image, leaves_among, model, opening, side_of}
use Rattle.bc_begun.proofs.of_bc_machine.Viewing.{new_view}
use Rattle.bc_deed.specs.bc_hand.Seats.{Works, core, empty}
use Rattle.bc_deed.proofs.Devices.{begins_stands}
use Rattle.bc_deed.proofs.Ending.{six_pushed}
use Rattle.bc_begun.specs.Begin.{Beginning, first_seq, parts_of, resting}

-- ---- devices

-- a device of which a crash leaves what it holds
settled_stands : (d : DiskFacts) → StandsFor d (settled_model d)
    → StandsFor d (model (side_of d) (quiet (image_of d.holds)))
settled_stands d h = record {
  sectors = refl;
  content = told d.holds h.content;
  calls = refl;
  faults = refl;
}
  where
    told : (o : Option Image) → Allows (option_map quiet o) o d.may_leave
        → Allows (if is_some_image o then Some (quiet (image_of o)) else None) o d.may_leave
    told None on = on
    told (Some image) on = on

-- the same content of each sector
record Alike (a b : Content) : Type 0 where
  reads : (t : ℕ) → b.reads t ≡ a.reads t
  leaves : (t : ℕ) → b.leaves t ≡ a.leaves t

alike_stands : (d : DiskFacts) (x : Side) (a b : Content) → Alike a b → StandsFor d (model x a)
    → StandsFor d (model x b)
alike_stands d x a b alike h = record {
  sectors = h.sectors;
  content = go x.told d.holds h.content;
  calls = h.calls;
  faults = h.faults;
}
  where
    go : (told : Bool) (holds : Option Image)
        → Allows (if told then Some a else None) holds d.may_leave
        → Allows (if told then Some b else None) holds d.may_leave
    go false holds on = on
    go true None on = absurd on
    go true (Some held) on = (
      (λ s. subst (Among (held s)) (sym (alike.reads s)) (on.0 s)),
      (λ image left s. subst (Among (image s)) (sym (alike.leaves s)) (on.1 image left s)),
    )

-- data that are the same, behind what lies before them
alike_behind : (offset : ℕ) (ahead a b : Image) → ((s : ℕ) → b s ≡ a s)
    → Alike (behind offset ahead (quiet a)) (behind offset ahead (quiet b))
alike_behind offset ahead a b same = record {
  reads = λ t. ap (λ v. if nat_lt t offset then ahead t ∷ [] else v ∷ []) (same (t - offset));
  leaves = λ t. ap (λ v. if nat_lt t offset then ahead t ∷ [] else v ∷ []) (same (t - offset));
}

-- ---- parts

module _ {C B : Type 0} (cache_facts : C → DiskFacts) (backing_facts : B → DiskFacts) where
  abbrev leaf_parts : List NodeCache → List (CorePart C B)
  leaf_parts cs = map part.Leaves cs

  all_leaves : (cs : List NodeCache) → leaves_among cache_facts backing_facts (leaf_parts cs) ≡ cs
  all_leaves [] = refl
  all_leaves (c ∷ cs) = ap (λ (l : List NodeCache). c ∷ l) (all_leaves cs)

  module _ (tree : Spine) (k : Beginning C B) where
    abbrev run : World
    run = opening cache_facts backing_facts (parts_of tree k)

    leaves_from : (i n : ℕ) (cs : List NodeCache) → n ≡ 6 + i
        → ((o : Origin) → IsOrigin run o
        → AreLeafParts o.opening o.parts run.begun.leaf_parts i cs)
        → StandFrom (core cache_facts backing_facts) run n (leaf_parts cs)
    leaves_from i n [] is on = tt
    leaves_from i n (c ∷ cs) is on = (
      (
        omega (arith, is),
        λ o origin course. subst
            (λ j. AreLeavesOf o.opening.machine o.parts run.begun.leaf_parts j c)
            (omega (arith, is)) (on o origin).0,
      ),
      leaves_from (suc i) (n + 1) cs (omega (arith, is)) (λ o origin. (on o origin).1),
    )

    none_waits : k.flight.candidates ≡ []
        → AreCandidatesOf k.flight.candidates (λ n. kept_of no_candidate)
    none_waits none = subst (λ cs. AreCandidatesOf cs (λ n. kept_of no_candidate)) (sym none)
        (record { each = tt; all = λ n stands. absurd (cc) })

    flight : k.flight.seats ≡ 320 → k.flight.claims ≡ [] → k.flight.candidates ≡ []
        → k.flight.next ≡ 0 → IsFlight k.flight run
    flight seats claims candidates next y (inl is) = subst (IsFlightOf k.flight) (sym is) (record {
      seats = seats;
      claims = λ n. ap (claim_of n) claims;
      candidates = none_waits candidates;
      next = next;
    })
    flight seats claims candidates next y (inr (o, seen)) =
        subst (IsFlightOf k.flight) (sym seen.is) (record {
          seats = seats;
          claims = λ n. ap (claim_of n) claims;
          candidates = none_waits candidates;
          next = next;
        })

    cache : StandsFor (cache_facts k.cache) (settled_model (cache_facts k.cache))
        → IsCache {B = B} cache_facts backing_facts k.cache run
    cache settled = record { stands = settled_stands (cache_facts k.cache) settled }

    backing : StandsFor (backing_facts k.backing.disk)
        (settled_model (backing_facts k.backing.disk))
        → k.backing.offset + k.backing.size ≤ (backing_facts k.backing.disk).sectors
        → IsBacking {C = C} cache_facts backing_facts k.backing run
    backing settled inside y (inl is) =
        subst (IsBackingOf {C = C} cache_facts backing_facts k.backing) (sym is) (record {
          stands = begins_stands (backing_facts k.backing.disk) k.backing.offset settled;
          offset = refl;
          size = refl;
          inside = inside;
        })
    backing settled inside y (inr (o, seen)) =
        subst (IsBackingOf {C = C} cache_facts backing_facts k.backing) (sym seen.is) (record {
          stands = alike_stands (backing_facts k.backing.disk) run.backing _ _
              (alike_behind k.backing.offset run.ahead
              (λ s. image_of (backing_facts k.backing.disk).holds (k.backing.offset + s))
              (λ s. o.opening.machine.flow.backing s) (λ s. seen.origin.backing s))
              (begins_stands (backing_facts k.backing.disk) k.backing.offset settled);
          offset = refl;
          size = sym seen.origin.size;
          inside = inside;
        })

    -- put one behind the other
    pub made : (s : SpinePart) → s ≡ resting tree (first_seq k.journal)
        → (l0 l1 l2 l3 l4 l5 l6 l7 : List (CorePart C B)) → l0 ≡ []
        → l1 ≡ l0 ++ part.Spine s ∷ [] → l2 ≡ l1 ++ part.Flight k.flight ∷ []
        → l3 ≡ l2 ++ part.Buckets k.buckets ∷ [] → l4 ≡ l3 ++ part.Journal k.journal ∷ []
        → l5 ≡ l4 ++ part.Cache k.cache ∷ [] → l6 ≡ l5 ++ part.Backing k.backing ∷ []
        → l7 ≡ l6 ++ map part.Leaves k.leaves → l7 ≡ parts_of tree k
    made s is l0 l1 l2 l3 l4 l5 l6 l7 p0 p1 p2 p3 p4 p5 p6 p7 = p7
        ∙ ap (λ (l : List (CorePart C B)). l ++ map part.Leaves k.leaves)
        (six_pushed l0 l1 l2 l3 l4 l5 l6 _ _ _ _ _ _ p0 p1 p2 p3 p4 p5 p6)
        ∙ ap (λ (t : SpinePart). part.Spine t ∷ rest) is
      where
        rest : List (CorePart C B)
        rest = part.Flight k.flight ∷ part.Buckets k.buckets ∷ part.Journal k.journal
            ∷ part.Cache k.cache ∷ part.Backing k.backing ∷ map part.Leaves k.leaves

    pub begins : k.flight.seats ≡ 320 → k.flight.claims ≡ []
        → k.flight.candidates ≡ [] → k.flight.next ≡ 0
        → StandsFor (cache_facts k.cache) (settled_model (cache_facts k.cache))
        → StandsFor (backing_facts k.backing.disk) (settled_model (backing_facts k.backing.disk))
        → k.backing.offset + k.backing.size ≤ (backing_facts k.backing.disk).sectors
        → StandFrom (core cache_facts backing_facts) run 0 (parts_of tree k)
    begins seats claims candidates next settled_cache settled_backing inside = (
      (refl, λ o is course. is.begun.spine),
      (
        (refl, flight seats claims candidates next),
        (
          (refl, λ o is course. is.begun.buckets),
          (
            (
              refl,
              record {
                stands = λ o is course. is.begun.journal;
                needs = λ o is course. is.begun.needs;
              },
            ),
            (
              (refl, cache settled_cache),
              (
                (refl, backing settled_backing inside),
                leaves_from 0 6 k.leaves refl (λ o is. subst
                    (λ (cs : List NodeCache).
                    AreLeafParts o.opening o.parts run.begun.leaf_parts 0 cs)
                    (all_leaves k.leaves) is.begun.leaves),
              ),
            ),
          ),
        ),
      ),
    )

  -- ---- its seat

  pub newcomer_works : (parts : PartsView (CorePart C B)) → parts.seats ≡ 320
      → 5 < length parts.run.start
      → Works cache_facts backing_facts parts (newcomer parts) empty
  newcomer_works parts all many = record {
    run = refl;
    seat = record {
      seat = record { live = omega (arith, all); run = tt };
      numbers = omega (arith, all);
      parts = many;
      fresh = λ none y view. (new_view cache_facts backing_facts parts.run.start y view).late 0;
      bare = λ told plain. record {
        index = refl;
        journal = refl;
        flushes = λ n. refl;
        writes = λ n. refl;
        sights = λ n s. inl refl;
      };
    };
    parts = refl;
    stand = record {
      spine = tt;
      leaves = tt;
      flight = tt;
      buckets = tt;
      journal = tt;
      cache = tt;
      backing = tt;
    };
  }

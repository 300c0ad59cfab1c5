-- The parts of a run as it begins and ends.
use Rattle.std.proofs.Common.{◌≡◌, ◌+◌, ◌≤◌, List, [], ◌∷◌, ◌++◌, length, ap, sym, ◌∙◌, subst, refl, arith}
use Rattle.bc_disk.specs.Disk.{StandsFor}
use Rattle.bc_disk.specs.Stands.{settled_model}
use Rattle.bc_flight.specs.Flight.{InFlight, claim_of}
use Rattle.bc_parts.specs.Machine.{StandFrom}
use Rattle.bc_disk.specs.Disk.{DiskFacts}
use Rattle.bc_hand.specs.bc_machine.declared.part.BackingPart.{BackingPart}
use Rattle.bc_hand.specs.bc_machine.declared.part.CorePart.{CorePart}
use Rattle.bc_hand.specs.bc_machine.declared.part.CorePart.TheVariants as part
use Rattle.bc_data.specs.Seats.{no_candidate}
use Rattle.bc_hand.specs.bc_machine.World.{World, opening, StandsAs, AreCandidatesOf, kept_of, IsFlightOf, IsBackingOf, IsBacking}
use Rattle.bc_hand.proofs.of_bc_machine.Viewing.{plain_view}
use Rattle.bc_hand.specs.Seats.{core}
use Rattle.bc_deed.specs.Begun.{opening_parts}
use Rattle.bc_deed.proofs.Devices.{begins_stands}

-- six parts
pub six : {P : Type 0} (ps : List P) → length ps ≡ 6
    → (a b c d e f : P) × (ps ≡ a ∷ b ∷ c ∷ d ∷ e ∷ f ∷ [])
six [] h = absurd (omega arith)
six (a ∷ []) h = absurd (omega arith)
six (a ∷ b ∷ []) h = absurd (omega arith)
six (a ∷ b ∷ c ∷ []) h = absurd (omega arith)
six (a ∷ b ∷ c ∷ d ∷ []) h = absurd (omega arith)
six (a ∷ b ∷ c ∷ d ∷ e ∷ []) h = absurd (omega arith)
six (a ∷ b ∷ c ∷ d ∷ e ∷ f ∷ []) h = (a, b, c, d, e, f, refl)
six (a ∷ b ∷ c ∷ d ∷ e ∷ f ∷ g ∷ rest) h = absurd (omega arith)

-- pushed one behind the other
pub six_pushed : {P : Type 0} (l0 l1 l2 l3 l4 l5 l6 : List P) (a b c d e f : P) → l0 ≡ []
    → l1 ≡ l0 ++ a ∷ [] → l2 ≡ l1 ++ b ∷ [] → l3 ≡ l2 ++ c ∷ [] → l4 ≡ l3 ++ d ∷ []
    → l5 ≡ l4 ++ e ∷ [] → l6 ≡ l5 ++ f ∷ [] → l6 ≡ a ∷ b ∷ c ∷ d ∷ e ∷ f ∷ []
six_pushed {P} l0 l1 l2 l3 l4 l5 l6 a b c d e f p0 p1 p2 p3 p4 p5 p6 =
    p6 ∙ ap (λ (l : List P). l ++ f ∷ []) (p5 ∙ ap (λ (l : List P). l ++ e ∷ [])
    (p4 ∙ ap (λ (l : List P). l ++ d ∷ []) (p3 ∙ ap (λ (l : List P). l ++ c ∷ [])
    (p2 ∙ ap (λ (l : List P). l ++ b ∷ []) (p1 ∙ ap (λ (l : List P). l ++ a ∷ []) p0)))))

module _ {C B : Type 0} (cache_facts : C → DiskFacts) (backing_facts : B → DiskFacts) where
  -- the last part is the backing device
  pub is_backing : (p : CorePart C B) (x : World) → StandsAs cache_facts backing_facts 5 p x
      → (backing : BackingPart B) × (p ≡ part.Backing backing)
  is_backing part.Absent x h = absurd (h.not_backing refl)
  is_backing (part.Spine sp) x h = absurd (let not : 5 ≡ 0 = h.0 in omega arith)
  is_backing (part.Buckets p) x h = absurd (let not : 5 ≡ 2 = h.0 in omega arith)
  is_backing (part.Journal j) x h = absurd (let not : 5 ≡ 3 = h.0 in omega arith)
  is_backing (part.Leaves c) x h = absurd (let not : 6 ≤ 5 = h.0 in omega arith)
  is_backing (part.Flight f) x h = absurd (let not : 5 ≡ 1 = h.0 in omega arith)
  is_backing (part.Cache c) x h = absurd (let not : 5 ≡ 4 = h.0 in omega arith)
  is_backing (part.Backing b) x h = (b, refl)

  pub stands_backing : (p : CorePart C B) (b : BackingPart B) (x : World)
      → StandsAs cache_facts backing_facts 5 p x → p ≡ part.Backing b
      → IsBacking {C = C} cache_facts backing_facts b x
  stands_backing p b x h is = (subst (λ (q : CorePart C B). StandsAs cache_facts backing_facts 5 q x) is h).1

  -- as a run over the backing device alone begins
  pub begins : (f : InFlight) (b : BackingPart B) → f.seats ≡ 320 → f.claims ≡ []
      → f.candidates ≡ [] → f.next ≡ 0
      → StandsFor (backing_facts b.disk) (settled_model (backing_facts b.disk))
      → b.offset + b.size ≤ (backing_facts b.disk).sectors
      → StandFrom (core cache_facts backing_facts)
      (opening cache_facts backing_facts (opening_parts f b)) 0 (opening_parts f b)
  begins f b seats claims candidates next stands inside =
      let x = opening cache_facts backing_facts (opening_parts f b) in (
        record { not_flight = λ is. cc; not_backing = λ is. cc; plain = refl },
        (
          (
            refl,
            λ y view. subst (IsFlightOf f) (sym (plain_view x y refl view)) (record {
              seats = seats;
              claims = λ n. ap (claim_of n) claims;
              candidates = subst (λ cs. AreCandidatesOf cs (λ n. kept_of no_candidate))
                  (sym candidates) (record { each = tt; all = λ n stands. absurd (cc) });
              next = next;
            }),
          ),
          (
            record { not_flight = λ is. cc; not_backing = λ is. cc; plain = refl },
            (
              record { not_flight = λ is. cc; not_backing = λ is. cc; plain = refl },
              (
                record { not_flight = λ is. cc; not_backing = λ is. cc; plain = refl },
                (
                  (
                    refl,
                    λ y view. subst (IsBackingOf {C = C} cache_facts backing_facts b)
                        (sym (plain_view x y refl view)) (record {
                          stands = begins_stands (backing_facts b.disk) b.offset stands;
                          offset = refl;
                          size = refl;
                          inside = inside;
                        }),
                  ),
                  tt,
                ),
              ),
            ),
          ),
        ),
      )

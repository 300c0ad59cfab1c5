-- A candidate is noted: when the core allows it, and what the seat knows then.
use Rattle.std.proofs.Common.{◌≡◌, ℕ, ◌+◌, ◌<◌, ◌≤◌, Bool, true, false, Option, Some, None, refl, sym, ap, ◌∙◌, subst, arith, if◌then◌else◌}
use Rattle.bc_books.proofs.Cases.{by_within}
use Rattle.bc_books.specs.Index.{within}
use Rattle.bc_books.specs.Shelves.{IsPinned, Kept}
use Rattle.bc_data.specs.Data as flow
use Rattle.bc_data.specs.Seats.{Seat}
use Rattle.bc_disk.specs.Disk.{DiskFacts}
use Rattle.bc_events.specs.Run as core
use Rattle.bc_events.specs.declared.event.Deed.TheVariants as deed
use Rattle.bc_fill.specs.Fresh.{IsApart}
use Rattle.bc_fill.specs.declared.fill.Placed.{Placed}
use Rattle.bc_flight.specs.Candidates.{AreNumbered}
use Rattle.bc_flight.specs.Flight.{InFlight}
use Rattle.bc_key.specs.Key.{pointer_of}
use Rattle.bc_key.specs.declared.key.Key.{Key}
use Rattle.bc_model.specs.Sector.{Value}
use Rattle.bc_parts.specs.Seat.{Holds}
use Rattle.bc_place.proofs.Going.{law_own}
use Rattle.bc_place.proofs.Keeping.{Lasts, made_by, opening_deed, own_since, since_by, written_lasts}
use Rattle.bc_place.proofs.Knowing.{few, may_each}
use Rattle.bc_place.proofs.of_bc_deed.May.{can_alone}
use Rattle.bc_place.proofs.of_bc_hand.Knowing.{View}
use Rattle.bc_place.specs.Place.{IsOwn}
use Rattle.bc_place.specs.Written.{AreApart, HasWritten, IsWrittenAt, not_in}
use Rattle.bc_place.specs.bc_hand.Seats.{Did, IsCoreSeat, MayDo, by, world}
use Rattle.bc_place.specs.bc_machine.Standing.{origin_before}
use Rattle.bc_place.specs.bc_machine.World.{FromEach, IsCandidateOf, IsFlight, Origin, are_plain, data_of, kept_of, seen_from}
use Rattle.bc_place.specs.bc_machine.declared.part.CorePart.TheVariants as part
use Rattle.bc_shares.specs.Shares.{books_of}
use Rattle.bc_candidate.specs.Noted.{HasNoted, IsKeepable}
use Rattle.bc_candidate.proofs.Flying.{just_noted, put_same}
use Rattle.bc_candidate.proofs.Numbers.{not_among}
use Rattle.bc_candidate.proofs.Seeing.{SameSeat, claim_kept_deed, keepable_lasts, same_as}

run_in : (at n t : ℕ) → within at n t ≡ true → (at ≤ t) × (t < at + n)
run_in at n t = by_within at n t (λ b. b ≡ true → (at ≤ t) × (t < at + n)) (λ r _. r)
    (λ _ e. absurd (cc))

not_true : (b : Bool) → (b ≡ true → ⊥) → b ≡ false
not_true false h = refl
not_true true h = absurd (h refl)

some_none : {A : Type 0} (v : A) → None ≡ Some v → ⊥
some_none v e = absurd (cc)

-- ---- the core's state behind it

module _ (o : Origin) (st : core.State) (i number first at count : ℕ) where
  abbrev behind : core.State
  behind = core.after o.opening st (by i (deed.Candidate number first count at))

  owner_beside : (t : ℕ) → ((at ≤ t) × (t < at + count) → ⊥)
      → (books_of behind.machine).owner t ≡ (books_of st.machine).owner t
  owner_beside t outside = by_within at count t
      (λ b. (if b then Kept number else (books_of st.machine).owner t)
      ≡ (books_of st.machine).owner t)
      (λ inside. absurd (outside inside)) (λ _. refl)

  own_noted : (place p : Placed) → place.ptr.offset ≡ at → place.count ≡ count → IsApart place p
      → IsOwn i p o st → IsOwn i p o behind
  own_noted place p at_is count_is apart h = record {
    some = h.some;
    own = λ t of. owner_beside t (λ inside. apart t (let low = inside.0 in let high = inside.1 in
        (omega (arith, low, at_is), omega (arith, high, at_is, count_is))) of) ∙ h.own t of;
    bucket = h.bucket;
    lies = h.lies;
    generation = h.generation;
  }

  written_noted : (known : ℕ → Option Value) → HasWritten i known o st
      → HasWritten i (not_in at count known) o behind
  written_noted known h t v = by_within at count t
      (λ b. (if b then None else known t) ≡ Some v → IsWrittenAt i t v behind)
      (λ inside none. absurd (some_none v none))
      (λ outside is. let was = h t v is in record {
        own = owner_beside t outside ∙ was.own;
        placed = ap (λ (x : Seat). x.placed t) (put_same st.machine.whole.flow.seats i i)
            ∙ was.placed;
      })

noted_seat : (w : core.Opening) (st : core.State) (i number first count at : ℕ)
    → SameSeat (st.machine.whole.flow.seats i)
    ((core.after w st (by i (deed.Candidate number first count at))).machine.whole.flow.seats i)
noted_seat w st i number first count at =
    same_as (st.machine.whole.flow.seats i) _ (put_same st.machine.whole.flow.seats i i)

-- a place of the seat beside another one
abbrev OwnBeside : ℕ → Placed → Placed → Origin → core.State → Type 0
OwnBeside i other p o st = AreApart other p o st × IsOwn i p o st

beside_lasts : (other p : Placed) → Lasts (λ i. OwnBeside i other p)
beside_lasts other p x e i ne h o is course = (
  (h o (origin_before x e o is) course.2).0,
  law_own x e i p ne (λ o is course. (h o is course).1) o is course,
)

module _ {C B : Type 0} (cache_facts : C → DiskFacts) (backing_facts : B → DiskFacts)
    (v : View cache_facts backing_facts) (seat : IsCoreSeat cache_facts backing_facts v) where
  -- ---- when it may be

  module _ (cached : are_plain cache_facts backing_facts v.run.start ≡ false)
      (holds : Holds v.parts 1) (f : InFlight) (on : IsFlight f (world cache_facts backing_facts v))
      (numbers : AreNumbered 0 f.next f.candidates) (first : ℕ) (p : Placed)
      (own : FromEach (world cache_facts backing_facts v) (IsOwn v.first p))
      (keep : FromEach (world cache_facts backing_facts v) (IsKeepable v.first first p)) where
    pub may_note : MayDo cache_facts backing_facts v
        (deed.Candidate f.next first p.count p.ptr.offset)
    may_note = may_each cache_facts backing_facts v cached
        (deed.Candidate f.next first p.count p.ptr.offset) (λ o x is course at.
        let fl = (at.stand 1 (part.Flight f) holds (refl, on)).1 (seen_from o x) at.view in
        let its = own_since cache_facts backing_facts v x seat at.since p own o is course in
        let its_keep = since_by cache_facts backing_facts (λ i. IsKeepable i first p)
        (keepable_lasts first p) v x seat at.since keep o is course in
        let follows = can_alone (seen_from o x) v.first
        (deed.Candidate f.next first p.count p.ptr.offset)
        (flow.NoteCandidate f.next first p.count p.ptr.offset)
        (few cache_facts backing_facts v seat) refl refl (record {
          heard = at.running refl;
          steps = (
            λ t is. subst IsPinned (sym (its.own t (run_in p.ptr.offset p.count t is))) tt,
            tt,
          );
          can = record {
            free = not_true ((data_of (seen_from o x)).candidates f.next).stands (λ stands.
                not_among 0 f.next f.candidates numbers (fl.candidates.all f.next stands));
            own = λ t is. its.own t (run_in p.ptr.offset p.count t is);
            values = its_keep;
          };
        }) tt tt tt fl.next in (follows.enabled, tt, fl.next))

  -- ---- what the seat knows then

  pub has_noted : (w : View cache_facts backing_facts) (number first : ℕ) (place : Placed)
      → Did cache_facts backing_facts
      (Some (deed.Candidate number first place.count place.ptr.offset)) v w
      → HasNoted cache_facts backing_facts number first place v w
  has_noted w number first place did = record {
    did = did;
    opening = opening_deed cache_facts backing_facts v w
        (deed.Candidate number first place.count place.ptr.offset) seat did;
    own = λ p apart own. made_by cache_facts backing_facts (λ i. OwnBeside i place p)
        (λ i. IsOwn i p)
        (beside_lasts place p) v w (deed.Candidate number first place.count place.ptr.offset) seat
        did
        (λ o st enabled h. own_noted o st v.first number first place.ptr.offset place.count place p
        refl refl h.0 h.1) (λ o is course. (apart o is course, own o is course));
    written = λ known. made_by cache_facts backing_facts (λ i. HasWritten i known)
        (λ i. HasWritten i (not_in place.ptr.offset place.count known)) (written_lasts known) v w
        (deed.Candidate number first place.count place.ptr.offset) seat did
        (λ o st enabled. written_noted o st v.first number first place.ptr.offset place.count
        known);
    claim = claim_kept_deed cache_facts backing_facts v w
        (deed.Candidate number first place.count place.ptr.offset) seat
        (λ w st. noted_seat w st v.first number first place.count place.ptr.offset) did;
  }

-- ---- what lies in the part then

pub its_candidate : (number first : ℕ) (p : Placed) (key : Key) → 1 ≤ p.count
    → key.end ≡ first + p.count → key.size ≡ p.count → pointer_of key ≡ Some p.ptr
    → IsCandidateOf (kept_of (just_noted first p.count p.ptr.offset))
    (record { number = number; key = key; killed = false })
its_candidate number first p key some end size pointer = record {
  stands = refl;
  alive = refl;
  first = omega (arith, end, size);
  count = sym size;
  some = omega (arith, some, size);
  inside = omega (arith, end, size);
  place = (p.ptr, pointer, refl);
}

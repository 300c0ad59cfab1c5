-- What a seat knows of its own places and its claim, behind a candidate's key.
use Rattle.std.proofs.Common.{◌≡◌, ◌⊎◌, inl, inr, ℕ, Bool, true, false, List, Option, Some, refl, sym, ap, ◌∙◌, subst, if◌then◌else◌}
use Rattle.std.specs.Prelude.{reverse}
use Rattle.bc_books.proofs.Cases.{put_run_cases}
use Rattle.bc_books.specs.Index.{names, within}
use Rattle.bc_books.specs.Index as index
use Rattle.bc_books.specs.Shelves.{Kept, Own, Owner, Spent}
use Rattle.bc_candidate.proofs.Flying.{put_same}
use Rattle.bc_candidate.proofs.Seeing.{SameSeat, claim_kept_deed, same_as}
use Rattle.bc_candidate.specs.Noted.{KeepsAll}
use Rattle.bc_data.specs.Seats.{Seat}
use Rattle.bc_disk.specs.Disk.{DiskFacts}
use Rattle.bc_events.specs.Keys.{book_keys}
use Rattle.bc_events.specs.Run as core
use Rattle.bc_events.specs.declared.event.Deed.{Deed}
use Rattle.bc_events.specs.declared.event.Deed.TheVariants as deed
use Rattle.bc_fill.specs.declared.fill.Placed.{Placed}
use Rattle.bc_key.specs.declared.key.Key.{Key}
use Rattle.bc_model.specs.Sector.{Value}
use Rattle.bc_candidate.proofs.of_bc_place.Keeping.{opening_deed, own_since, since_by, written_lasts}
use Rattle.bc_candidate.proofs.of_bc_place.Knowing.{known_changed}
use Rattle.bc_candidate.proofs.of_bc_hand.Knowing.{View}
use Rattle.bc_candidate.specs.bc_place.Place.{IsOwn}
use Rattle.bc_candidate.specs.bc_place.Written.{HasWritten}
use Rattle.bc_candidate.specs.bc_hand.Seats.{Did, IsCoreSeat, by, world}
use Rattle.bc_candidate.specs.bc_machine.World.{FromEach, IsCourseOf, IsOrigin, Origin, World, replay}
use Rattle.bc_shares.specs.Shares.{books_of}
use Rattle.bc_settle.proofs.Settling.{places_kept}

module _ (leaf c : ℕ) (keys : List Key) where
  abbrev d : Deed
  d = deed.Settle leaf c keys

  module _ (o : Origin) (x : World) (is : IsOrigin x o) (course : IsCourseOf o x.log) (i : ℕ)
      (on : core.IsEnabled o.opening (replay o x.log) (by i d)) where
    abbrev st : core.State
    st = replay o x.log

    abbrev at : ℕ
    at = (st.machine.whole.flow.candidates c).place

    abbrev count : ℕ
    count = (st.machine.whole.flow.candidates c).count

    abbrev settled : core.State
    settled = core.after o.opening st (by i d)

    abbrev owner : ℕ → Owner
    owner = (books_of st.machine).owner

    own_kept : (t : ℕ) → owner t ≡ Kept c → owner t ≡ Own i → ⊥
    own_kept t kept own = let e : Own i ≡ Kept c = sym own ∙ kept in absurd (cc)

    own_spent : (t : ℕ) → owner t ≡ Spent → owner t ≡ Own i → ⊥
    own_spent t spent own = let e : Own i ≡ Spent = sym own ∙ spent in absurd (cc)

    -- the keys name none of the seat's own places
    named_own : (ks : List index.Key)
        → ((t : ℕ) → names ks t ≡ true → (owner t ≡ Kept c) ⊎ (owner t ≡ Spent)) → (t : ℕ)
        → owner t ≡ Own i → (if names ks t then Spent else owner t) ≡ Own i
    named_own ks using t own = go (names ks t) refl
      where
        go : (b : Bool) → names ks t ≡ b → (if b then Spent else owner t) ≡ Own i
        go true is = elim (using t is) [
          | inl kept ↦ absurd (own_kept t kept own)
          | inr spent ↦ absurd (own_spent t spent own)
        ]
        go false is = own

    -- the keys as the books have them
    abbrev ks : List index.Key
    ks = book_keys o.opening.machine.flow.books.bucket
        st.machine.whole.flow.books.generations.version (reverse keys)

    owner_then : (t : ℕ) → owner t ≡ Own i → (books_of settled.machine).owner t ≡ Own i
    owner_then t own = put_run_cases (λ u. if names ks u then Spent else owner u) at count t Spent
        (λ y. y ≡ Own i)
        (λ _. named_own ks on.course.0.data_allows.0.can.using t own)
        (λ inside. absurd (own_kept t
        (places_kept x o is course c t on.course.0.data_allows.0.can.stands inside) own))

    own_settled : (p : Placed) → IsOwn i p o st → IsOwn i p o settled
    own_settled p h = record {
      some = h.some;
      own = λ t of. owner_then t (h.own t of);
      bucket = h.bucket;
      lies = h.lies;
      generation = h.generation;
    }

    written_settled : (known : ℕ → Option Value) → HasWritten i known o st
        → HasWritten i known o settled
    written_settled known h t v is = let was = h t v is in record {
      own = owner_then t was.own;
      placed = ap (λ (s : Seat). s.placed t) (put_same st.machine.whole.flow.seats i i)
          ∙ was.placed;
    }

  settled_seat : (w : core.Opening) (st : core.State) (i : ℕ)
      → SameSeat (st.machine.whole.flow.seats i)
      ((core.after w st (by i d)).machine.whole.flow.seats i)
  settled_seat w st i =
      same_as (st.machine.whole.flow.seats i) _ (put_same st.machine.whole.flow.seats i i)

  module _ {C B : Type 0} (cache_facts : C → DiskFacts) (backing_facts : B → DiskFacts)
      (v w : View cache_facts backing_facts) (seat : IsCoreSeat cache_facts backing_facts v)
      (did : Did cache_facts backing_facts (Some d) v w) where
    pub kept_settled : KeepsAll cache_facts backing_facts v w
    kept_settled = record {
      places = record {
        opening = opening_deed cache_facts backing_facts v w d seat did;
        own = λ p h. subst (λ i. FromEach (world cache_facts backing_facts w) (IsOwn i p))
            (sym did.is.same.first)
            (known_changed cache_facts backing_facts v w d (IsOwn v.first p) (IsOwn v.first p) did
            (λ o is course on. own_settled o did.is.before is course v.first on p)
            (own_since cache_facts backing_facts v did.is.before seat did.is.since p h));
        written = λ known h. subst (λ i. FromEach (world cache_facts backing_facts w)
            (HasWritten i known))
            (sym did.is.same.first)
            (known_changed cache_facts backing_facts v w d (HasWritten v.first known)
            (HasWritten v.first known) did
            (λ o is course on. written_settled o did.is.before is course v.first on known)
            (since_by cache_facts backing_facts (λ i. HasWritten i known) (written_lasts known) v
            did.is.before seat did.is.since h));
      };
      claim = claim_kept_deed cache_facts backing_facts v w d seat
          (λ w st. settled_seat w st v.first) did;
    }

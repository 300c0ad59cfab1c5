-- Places that are let go one behind the other.
use Rattle.std.proofs.Common.{◌≡◌, ℕ, ◌+◌, ◌<◌, List, [], ◌∷◌, ◌++◌, get_or, length, take, Some, sym, ap, ◌∙◌, subst}
use Rattle.std.proofs.lemmas.List.{map_push, take_more}
use Rattle.bc_insert.specs.bc_deed.Flushed.{HasDone}
use Rattle.bc_insert.proofs.of_bc_deed.Sequence.{done_then}
use Rattle.bc_disk.specs.Disk.{DiskFacts}
use Rattle.bc_events.specs.declared.event.Deed.{Deed}
use Rattle.bc_events.specs.declared.event.Deed.TheVariants as deed
use Rattle.bc_events.specs.declared.event.UnpinKind.TheVariants as unpin
use Rattle.bc_fill.specs.declared.fill.Placed.{Placed}
use Rattle.bc_insert.specs.bc_hand.Seats.{world}
use Rattle.bc_insert.proofs.of_bc_hand.Knowing.{View}
use Rattle.bc_insert.specs.Write.{AreAllApart, AreReady}
use Rattle.bc_insert.specs.bc_machine.World.{FromEach}
use Rattle.bc_model.specs.Sector.{Value, at_run}
use Rattle.bc_insert.specs.bc_place.Named.{AreFilled, IsApartFrom}
use Rattle.bc_insert.specs.bc_place.Written.{AreApart, HasUnpinned}
use Rattle.bc_stored.specs.All.{AreOwnApart, unpins}
use Rattle.bc_stored.specs.Stored.{KeepsOwn}

pub unpins_more : (ps : List Placed) (i : ℕ) (p : Placed) → i < length ps → p ≡ get_or ps i p
    → unpins (take i ps) ++ deed.Unpin (unpin.Place p.ptr.offset p.count) ∷ []
    ≡ unpins (take (i + 1) ps)
unpins_more ps i p inside is =
    sym (map_push (λ (q : Placed). deed.Unpin (unpin.Place q.ptr.offset q.count)) (take i ps) p)
    ∙ ap unpins (ap (λ q. take i ps ++ q ∷ []) is ∙ sym (take_more ps i p inside))

module _ {C B : Type 0} (cache_facts : C → DiskFacts) (backing_facts : B → DiskFacts) where
  from_still : (v w : View cache_facts backing_facts)
      → ((p q : Placed) → FromEach (world cache_facts backing_facts v) (AreApart p q)
      → FromEach (world cache_facts backing_facts w) (AreApart p q))
      → (p : Placed) (ps : List Placed)
      → FromEach (world cache_facts backing_facts v) (λ o st. IsApartFrom p ps)
      → FromEach (world cache_facts backing_facts w) (λ o st. IsApartFrom p ps)
  from_still v w still p [] h o is course = tt
  from_still v w still p (q ∷ qs) h o is course = (
    still p q (λ o is course. (h o is course).0) o is course,
    from_still v w still p qs (λ o is course. (h o is course).1) o is course,
  )

  -- the others are the seat's own still
  pub rest_own : (p : Placed) (ps : List Placed) (v w : View cache_facts backing_facts)
      → FromEach (world cache_facts backing_facts v) (AreOwnApart v.first (p ∷ ps))
      → HasUnpinned cache_facts backing_facts p v w
      → FromEach (world cache_facts backing_facts w) (AreOwnApart w.first ps)
  rest_own p [] v w h gone o is course = tt
  rest_own p (q ∷ qs) v w h gone o is course = (
    gone.own q (λ o is course. (h o is course).1.0.0) (λ o is course. (h o is course).1.1.0) o is
        course,
    (
      from_still v w gone.opening.apart q qs (λ o is course. (h o is course).1.1.1.0) o is course,
      rest_own p qs v w (λ o is course. (
        (h o is course).0,
        ((h o is course).1.0.1, (h o is course).1.1.1.1),
      )) gone o is course,
    ),
  )

  pub unpinned_more : (ps : List Placed) (i : ℕ) (p : Placed)
      (u v w : View cache_facts backing_facts) → i < length ps → p ≡ get_or ps i p
      → HasDone cache_facts backing_facts (unpins (take i ps)) u v
      → HasUnpinned cache_facts backing_facts p v w
      → HasDone cache_facts backing_facts (unpins (take (i + 1) ps)) u w
  unpinned_more ps i p u v w inside is before gone =
      subst (λ (ds : List Deed). HasDone cache_facts backing_facts ds u w)
      (unpins_more ps i p inside is)
      (done_then cache_facts backing_facts (unpins (take i ps))
      (Some (deed.Unpin (unpin.Place p.ptr.offset p.count))) u v w before gone.did)

  -- places that were filled are the seat's own, behind a place that came and went
  pub filled_own : (first : ℕ) (want : List Value) (n : ℕ) (ps : List Placed)
      (v w : View cache_facts backing_facts) → KeepsOwn cache_facts backing_facts v w
      → FromEach (world cache_facts backing_facts v) (λ o st.
      AreFilled v.first n (at_run first want) ps o st × AreAllApart ps)
      → FromEach (world cache_facts backing_facts w) (AreOwnApart w.first ps)
  filled_own first want n [] v w keeps h o is course = tt
  filled_own first want n (p ∷ ps) v w keeps h o is course = (
    keeps.own p (λ o is course. (h o is course).0.0.own) o is course,
    (
      from_still v w keeps.opening.apart p ps (λ o is course. (h o is course).1.0) o is course,
      filled_own first want (n + p.count) ps v w keeps
          (λ o is course. ((h o is course).0.1, (h o is course).1.1)) o is course,
    ),
  )

  pub ready_own : (first : ℕ) (values : List Value) (ps : List Placed)
      (v w : View cache_facts backing_facts) → KeepsOwn cache_facts backing_facts v w
      → FromEach (world cache_facts backing_facts v) (AreReady v.first first values ps)
      → FromEach (world cache_facts backing_facts w) (AreOwnApart w.first ps)
  ready_own first values ps v w keeps ready = filled_own first values first ps v w keeps
      (λ o is course. ((ready o is course).filled, (ready o is course).apart))

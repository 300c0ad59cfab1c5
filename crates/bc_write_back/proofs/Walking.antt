-- What a seat knows behind its deeds, whatever others did between them.
use Rattle.std.proofs.Common.{◌≡◌, ◌≢◌, ℕ, ◌+◌, Bool, true, List, [], ◌∷◌, ◌++◌, refl, sym, ap, ◌∙◌, subst, arith}
use Rattle.std.specs.Prelude.{◌==◌, All, filter, fold, if◌then◌else◌, map}
use Rattle.std.proofs.lemmas.List.{append_cancel_left}
use Rattle.std.proofs.lemmas.List.Elements.{All-append, All-head, All-nil, All-cons, All-tail, filter-append}
use Rattle.std.proofs.lemmas.List.Sums.{fold-append}
use Rattle.bc_disk.specs.Disk.{DiskFacts}
use Rattle.bc_events.specs.Run as core
use Rattle.bc_events.specs.declared.event.Deed.{Deed}
use Rattle.bc_events.specs.declared.event.Event.{Event}
use Rattle.bc_fill.specs.Fresh.{IsApart}
use Rattle.bc_parts.specs.Seat.{Run}
use Rattle.bc_request.proofs.of_bc_reader.Finding.{note_done}
use Rattle.bc_stored.specs.bc_deed.Flushed.{HasDone}
use Rattle.bc_stored.specs.bc_hand.Seats.{by, note, world}
use Rattle.bc_stored.specs.bc_machine.Frame.{by_test}
use Rattle.bc_stored.specs.bc_machine.Note.{Note, note_after}
use Rattle.bc_stored.specs.bc_machine.World.{FromEach, Origin, World, after, are_plain, opening}
use Rattle.bc_stored.specs.bc_machine.declared.part.CorePart.{CorePart}
use Rattle.bc_stored.specs.bc_place.Place.{HasBefore, IsOwn}
use Rattle.bc_stored.specs.bc_place.Written.{HasWritten, KeepsPlaces, leaves_places}
use Rattle.bc_stored.proofs.of_bc_deed.Sequence.{done_both}
use Rattle.bc_stored.proofs.of_bc_hand.Knowing.{View}
use Rattle.bc_stored.proofs.of_bc_place.Keeping.{law_own_kept, law_written_kept, opening_lasts, own_lasts, written_lasts}

-- ---- events

-- the events of this seat
abbrev own : ℕ → List Event → List Event
own i es = filter (λ e. e.seat == i) es

same_head : (e f : Event) (es fs : List Event) → e ∷ es ≡ f ∷ fs → e ≡ f
same_head e f es fs is = cc

same_tail : (e f : Event) (es fs : List Event) → e ∷ es ≡ f ∷ fs → es ≡ fs
same_tail e f es fs is = cc

none_some : (e : Event) (es none : List Event) → none ≡ [] → e ∷ es ≡ none → ⊥
none_some e es none empty is = let both : e ∷ es ≡ [] = is ∙ empty in absurd (cc)

module _ (i : ℕ) (P : Origin → core.State → Type 0) (D : Deed → Type 0)
    (other : (x : World) (e : Event) → e.seat ≢ i → FromEach x P → FromEach (after x e) P)
    (its : (x : World) (d : Deed) → D d → FromEach x P → FromEach (after x (by i d)) P) where
  kept : (x : World) (es : List Event) (ds : List Deed) → own i es ≡ map (by i) ds → All D ds
      → FromEach x P → FromEach (fold after x es) P
  kept x [] ds is all h = h
  kept x (e ∷ es) [] is all h = by_test e.seat i
      (λ t. (if t then e ∷ own i es else own i es) ≡ [] → FromEach (fold after (after x e) es) P)
      (λ same is. absurd (none_some e (own i es) [] refl is))
      (λ no is. kept (after x e) es [] is all (other x e no h)) is
  kept x (e ∷ es) (d ∷ ds) is all h = by_test e.seat i
      (λ t. (if t then e ∷ own i es else own i es) ≡ by i d ∷ map (by i) ds
      → FromEach (fold after (after x e) es) P)
      (λ same is. kept (after x e) es ds (same_tail e (by i d) (own i es) (map (by i) ds) is)
      (All-tail D d ds all)
      (subst (λ f. FromEach (after x f) P)
      (sym (same_head e (by i d) (own i es) (map (by i) ds) is))
      (its x d (All-head D d ds all) h)))
      (λ no is. kept (after x e) es (d ∷ ds) is all (other x e no h)) is

-- ---- deeds

-- a deed of which the seat notes nothing, one that leaves its claim, and one that leaves its places
abbrev pub IsUnnoted : Deed → Type 0
IsUnnoted d = (plain : Bool) (o : Note) → note_after plain o d ≡ o

abbrev pub LeavesClaim : Deed → Type 0
LeavesClaim d = (plain : Bool) (o : Note) → (note_after plain o d).range ≡ o.range

abbrev pub LeavesPlaces : Deed → Type 0
LeavesPlaces d = leaves_places d ≡ true

abbrev pub IsUnnotedApart : Deed → Type 0
IsUnnotedApart d = IsUnnoted d × LeavesPlaces d

pub leaves_claim : (d : Deed) → IsUnnoted d → LeavesClaim d
leaves_claim d un plain o = ap (λ (n : Note). n.range) (un plain o)

unnoted_fold : (plain : Bool) (i : ℕ) (ds : List Deed) (o : Note) → All IsUnnoted ds
    → fold (λ o (e : Event). note_after plain o e.deed) o (map (by i) ds) ≡ o
unnoted_fold plain i [] o all = refl
unnoted_fold plain i (d ∷ ds) o all =
    unnoted_fold plain i ds (note_after plain o d) (All-tail IsUnnoted d ds all)
    ∙ All-head IsUnnoted d ds all plain o

claim_fold : (plain : Bool) (i : ℕ) (ds : List Deed) (o : Note) → All LeavesClaim ds
    → (fold (λ o (e : Event). note_after plain o e.deed) o (map (by i) ds)).range ≡ o.range
claim_fold plain i [] o all = refl
claim_fold plain i (d ∷ ds) o all =
    claim_fold plain i ds (note_after plain o d) (All-tail LeavesClaim d ds all)
    ∙ All-head LeavesClaim d ds all plain o

all_as : (D E : Deed → Type 0) → ((d : Deed) → D d → E d) → (ds : List Deed) → All D ds → All E ds
all_as D E as_ [] all = All-nil E
all_as D E as_ (d ∷ ds) all = All-cons E d ds (as_ d (All-head D d ds all))
    (all_as D E as_ ds (All-tail D d ds all))

module _ {C B : Type 0} (cache_facts : C → DiskFacts) (backing_facts : B → DiskFacts) where
  -- the run went on, and of that the seat's own deeds are all such
  pub record HasGoneBy (D : Deed → Type 0) (v w : View cache_facts backing_facts) : Type 0 where
    pub deeds : List Deed
    pub all : All D deeds
    pub done : HasDone cache_facts backing_facts deeds v w

  pub went_as : (D E : Deed → Type 0) → ((d : Deed) → D d → E d)
      → (v w : View cache_facts backing_facts)
      → HasGoneBy D v w → HasGoneBy E v w
  went_as D E as_ v w h = record {
    deeds = h.deeds;
    all = all_as D E as_ h.deeds h.all;
    done = h.done;
  }

  pub went_none : (D : Deed → Type 0) (v w : View cache_facts backing_facts)
      → HasDone cache_facts backing_facts [] v w → HasGoneBy D v w
  went_none D v w done = record { deeds = []; all = All-nil D; done = done }

  pub went_one : (D : Deed → Type 0) (d : Deed) (v w : View cache_facts backing_facts) → D d
      → HasDone cache_facts backing_facts (d ∷ []) v w → HasGoneBy D v w
  went_one D d v w is done = record {
    deeds = d ∷ [];
    all = All-cons D d [] is (All-nil D);
    done = done;
  }

  pub went_both : (D : Deed → Type 0) (u v w : View cache_facts backing_facts)
      → HasGoneBy D u v → HasGoneBy D v w
      → HasGoneBy D u w
  went_both D u v w a b = record {
    deeds = a.deeds ++ b.deeds;
    all = All-append D a.deeds b.deeds a.all b.all;
    done = done_both cache_facts backing_facts a.deeds b.deeds u v w a.done b.done;
  }

  -- ---- what it noted

  pub note_went : (v w : View cache_facts backing_facts) → HasGoneBy IsUnnoted v w
      → note cache_facts backing_facts w ≡ note cache_facts backing_facts v
  note_went v w h = note_done cache_facts backing_facts h.deeds v w h.done
      ∙ unnoted_fold (are_plain cache_facts backing_facts v.run.start) v.first h.deeds
      (note cache_facts backing_facts v) h.all

  pub claim_went : (v w : View cache_facts backing_facts) → HasGoneBy LeavesClaim v w
      → (note cache_facts backing_facts w).range ≡ (note cache_facts backing_facts v).range
  claim_went v w h = ap (λ (n : Note). n.range) (note_done cache_facts backing_facts h.deeds v w
      h.done)
      ∙ claim_fold (are_plain cache_facts backing_facts v.run.start) v.first h.deeds
      (note cache_facts backing_facts v) h.all

  -- ---- what it knows

  own_is : (ds : List Deed) (v w : View cache_facts backing_facts)
      → (done : HasDone cache_facts backing_facts ds v w)
      → own v.first done.grown.more ≡ map (by v.first) ds
  own_is ds v w done = append_cancel_left (own v.first v.seen) (own v.first done.grown.more)
      (map (by v.first) ds)
      (sym (filter-append (λ e. e.seat == v.first) v.seen done.grown.more)
      ∙ ap (λ (l : List Event). own v.first l) (sym done.grown.seen)
      ∙ ap (λ n. own n w.seen) (sym done.same.first) ∙ done.own)

  state_is : (ds : List Deed) (v w : View cache_facts backing_facts)
      → (done : HasDone cache_facts backing_facts ds v w) → world cache_facts backing_facts w
      ≡ fold after (world cache_facts backing_facts v) done.grown.more
  state_is ds v w done = ap (λ (r : Run (CorePart C B)).
      fold after (opening cache_facts backing_facts r.start) w.seen) done.same.run
      ∙ ap (λ (l : List Event). fold after (opening cache_facts backing_facts v.run.start) l)
      done.grown.seen
      ∙ fold-append after (opening cache_facts backing_facts v.run.start) v.seen done.grown.more

  kept_went : (P : Origin → core.State → Type 0) (D : Deed → Type 0)
      (v w : View cache_facts backing_facts) → HasGoneBy D v w
      → ((x : World) (e : Event) → e.seat ≢ v.first → FromEach x P → FromEach (after x e) P)
      → ((x : World) (d : Deed) → D d → FromEach x P → FromEach (after x (by v.first d)) P)
      → FromEach (world cache_facts backing_facts v) P
      → FromEach (world cache_facts backing_facts w) P
  kept_went P D v w h other its known =
      subst (λ x. FromEach x P) (sym (state_is h.deeds v w h.done))
      (kept v.first P D other its (world cache_facts backing_facts v) h.done.grown.more h.deeds
      (own_is h.deeds v w h.done) h.all known)

  -- of the opening, whatever it did
  opening_went : (K : Origin → Type 0) (D : Deed → Type 0) (v w : View cache_facts backing_facts)
      → HasGoneBy D v w → FromEach (world cache_facts backing_facts v) (λ o st. K o)
      → FromEach (world cache_facts backing_facts w) (λ o st. K o)
  opening_went K D v w h = kept_went (λ o st. K o) D v w h
      (λ x e ne. opening_lasts K x e v.first ne)
      (λ x d is. opening_lasts K x (by v.first d) (v.first + 1)
      (λ same. absurd (omega (arith, same))))

  pub before_went : (n : ℕ) (D : Deed → Type 0) (v w : View cache_facts backing_facts)
      → HasGoneBy D v w
      → FromEach (world cache_facts backing_facts v) (HasBefore n)
      → FromEach (world cache_facts backing_facts w) (HasBefore n)
  before_went n D v w h = opening_went (λ o. o.opening.machine.before ≡ n) D v w h

  pub keeps_went : (v w : View cache_facts backing_facts) → HasGoneBy LeavesPlaces v w
      → KeepsPlaces cache_facts backing_facts v w
  keeps_went v w h = record {
    opening = record {
      apart = λ p q. opening_went (λ o. IsApart p q) LeavesPlaces v w h;
      before = λ n. before_went n LeavesPlaces v w h;
    };
    own = λ p known. subst (λ i. FromEach (world cache_facts backing_facts w) (IsOwn i p))
        (sym h.done.same.first) (kept_went (IsOwn v.first p) LeavesPlaces v w h
        (λ x e ne. own_lasts p x e v.first ne)
        (λ x d is. law_own_kept x (by v.first d) p is) known);
    written = λ what known. subst (λ i. FromEach (world cache_facts backing_facts w)
        (HasWritten i what))
        (sym h.done.same.first) (kept_went (HasWritten v.first what) LeavesPlaces v w h
        (λ x e ne. written_lasts what x e v.first ne)
        (λ x d is. law_written_kept x (by v.first d) what is) known);
  }

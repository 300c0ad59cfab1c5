-- What a seat knows of its places while it does nothing itself, whatever others do.
use Rattle.std.proofs.Common.{◌≡◌, ◌≢◌, ℕ, List, [], ◌∷◌, sym, ap, ◌∙◌, subst}
use Rattle.std.specs.Prelude.{◌==◌, filter, fold, if◌then◌else◌}
use Rattle.std.proofs.lemmas.List.{append_cancel_left}
use Rattle.std.proofs.lemmas.List.Elements.{filter-append}
use Rattle.std.proofs.lemmas.List.Sums.{fold-append}
use Rattle.bc_append.proofs.of_bc_hand.Knowing.{View}
use Rattle.bc_append.proofs.of_bc_place.Going.{law_own}
use Rattle.bc_append.proofs.of_bc_place.Keeping.{law_written}
use Rattle.bc_append.specs.bc_hand.Seats.{world}
use Rattle.bc_append.specs.bc_machine.Frame.{by_test}
use Rattle.bc_append.specs.bc_machine.Standing.{origin_before}
use Rattle.bc_append.specs.bc_machine.World.{FromEach, Origin, World, after, opening}
use Rattle.bc_append.specs.bc_machine.declared.part.CorePart.{CorePart}
use Rattle.bc_append.specs.bc_place.Place.{HasBefore, IsOwn}
use Rattle.bc_append.specs.bc_place.Written.{AreApart, HasWritten, KeepsPlaces}
use Rattle.bc_disk.specs.Disk.{DiskFacts}
use Rattle.bc_events.specs.Run as core
use Rattle.bc_events.specs.declared.event.Event.{Event}
use Rattle.bc_fetch.specs.bc_deed.Flushed.{HasDone}
use Rattle.bc_parts.specs.Seat.{Run}

-- the events of this seat
abbrev own : ℕ → List Event → List Event
own i es = filter (λ e. e.seat == i) es

none_some : (e : Event) (es : List Event) → e ∷ es ≡ [] → ⊥
none_some e es is = cc

module _ (i : ℕ) (P : Origin → core.State → Type 0)
    (other : (x : World) (e : Event) → e.seat ≢ i → FromEach x P → FromEach (after x e) P) where
  others_walk : (es : List Event) (x : World) → own i es ≡ [] → FromEach x P
      → FromEach (fold after x es) P
  others_walk [] x none h = h
  others_walk (e ∷ es) x none h = by_test e.seat i
      (λ t. (if t then e ∷ own i es else own i es) ≡ [] → FromEach (fold after (after x e) es) P)
      (λ same is. absurd (none_some e (own i es) is))
      (λ no is. others_walk es (after x e) is (other x e no h)) none

module _ {C B : Type 0} (cache_facts : C → DiskFacts) (backing_facts : B → DiskFacts)
    (v w : View cache_facts backing_facts) (done : HasDone cache_facts backing_facts [] v w) where
  state_is : world cache_facts backing_facts w
      ≡ fold after (world cache_facts backing_facts v) done.grown.more
  state_is = ap (λ (r : Run (CorePart C B)).
      fold after (opening cache_facts backing_facts r.start) w.seen) done.same.run
      ∙ ap (λ (l : List Event). fold after (opening cache_facts backing_facts v.run.start) l)
      done.grown.seen
      ∙ fold-append after (opening cache_facts backing_facts v.run.start) v.seen done.grown.more

  none_own : own v.first done.grown.more ≡ []
  none_own = append_cancel_left (own v.first v.seen) (own v.first done.grown.more) []
      (sym (filter-append (λ e. e.seat == v.first) v.seen done.grown.more)
      ∙ ap (λ (l : List Event). own v.first l) (sym done.grown.seen)
      ∙ ap (λ n. own n w.seen) (sym done.same.first) ∙ done.own)

  known : (P : ℕ → Origin → core.State → Type 0)
      → ((x : World) (e : Event) → e.seat ≢ v.first → FromEach x (P v.first)
      → FromEach (after x e) (P v.first))
      → FromEach (world cache_facts backing_facts v) (P v.first)
      → FromEach (world cache_facts backing_facts w) (P w.first)
  known P other h = subst (λ i. FromEach (world cache_facts backing_facts w) (P i))
      (sym done.same.first)
      (subst (λ x. FromEach x (P v.first)) (sym state_is)
      (others_walk v.first (P v.first) other done.grown.more (world cache_facts backing_facts v)
      none_own h))

  pub keeps_nothing : KeepsPlaces cache_facts backing_facts v w
  keeps_nothing = record {
    opening = record {
      apart = λ p q. known (λ i. AreApart p q) (λ x e no h o is course.
          h o (origin_before x e o is) course.2);
      before = λ n. known (λ i. HasBefore n) (λ x e no h o is course.
          h o (origin_before x e o is) course.2);
    };
    own = λ p. known (λ i. IsOwn i p) (λ x e no. law_own x e v.first p no);
    written = λ said. known (λ i. HasWritten i said) (λ x e no. law_written x e v.first said no);
  }

-- What a seat knows behind its deeds, whatever others did between them.
use Rattle.std.proofs.Common.{◌≡◌, ◌≢◌, ℕ, List, [], ◌∷◌, ◌++◌, refl, sym, ap, ◌∙◌, subst}
use Rattle.std.specs.Prelude.{◌==◌, All, filter, fold, if◌then◌else◌, map}
use Rattle.std.proofs.lemmas.List.{append_cancel_left}
use Rattle.std.proofs.lemmas.List.Elements.{All-head, All-tail, filter-append}
use Rattle.std.proofs.lemmas.List.Sums.{fold-append}
use Rattle.bc_entry.specs.bc_deed.Flushed.{HasDone}
use Rattle.bc_disk.specs.Disk.{DiskFacts}
use Rattle.bc_events.specs.Run as core
use Rattle.bc_events.specs.declared.event.Deed.{Deed}
use Rattle.bc_events.specs.declared.event.Event.{Event}
use Rattle.bc_entry.specs.bc_hand.Seats.{by, world}
use Rattle.bc_entry.proofs.of_bc_hand.Knowing.{View}
use Rattle.bc_entry.specs.bc_machine.Frame.{by_test}
use Rattle.bc_entry.specs.bc_machine.World.{FromEach, Origin, World, after, opening}
use Rattle.bc_entry.specs.bc_machine.declared.part.CorePart.{CorePart}
use Rattle.bc_parts.specs.Seat.{Run}
use Rattle.bc_flush.proofs.Counting.{Lasts}

-- the events of this seat
abbrev pub own : ℕ → List Event → List Event
own i es = filter (λ e. e.seat == i) es

same_head : (e f : Event) (es fs : List Event) → e ∷ es ≡ f ∷ fs → e ≡ f
same_head e f es fs is = cc

same_tail : (e f : Event) (es fs : List Event) → e ∷ es ≡ f ∷ fs → es ≡ fs
same_tail e f es fs is = cc

none_some : (e : Event) (es none : List Event) → none ≡ [] → e ∷ es ≡ none → ⊥
none_some e es none empty is = let both : e ∷ es ≡ [] = is ∙ empty in absurd (cc)

-- what lasts, events keep
pub lasts_fold : (P : Origin → core.State → Type 0) → Lasts P → (x : World) (es : List Event)
    → FromEach x P → FromEach (fold after x es) P
lasts_fold P lasts x [] h = h
lasts_fold P lasts x (e ∷ es) h = lasts_fold P lasts (after x e) es (lasts x e h)

-- ---- up to a deed of the seat

-- a state of the way behind the seat's deed, from which these events and deeds are left
pub record Reached (i : ℕ) (Q : Origin → core.State → Type 0) (end : World) (left : List Deed) :
    Type 0 where
  pub state : World
  pub events : List Event
  pub end_is : end ≡ fold after state events
  pub own_is : own i events ≡ map (by i) left
  pub knows : FromEach state Q

module _ (i : ℕ) (P Q : Origin → core.State → Type 0) (lasts : Lasts P) (d : Deed)
    (makes : (x : World) → FromEach x P → FromEach (after x (by i d)) Q) where
  pub through : (x : World) (es : List Event) (before left : List Deed)
      → own i es ≡ map (by i) (before ++ d ∷ left) → FromEach x P
      → Reached i Q (fold after x es) left
  through x [] [] left is h = absurd (none_some (by i d) (map (by i) left) [] refl (sym is))
  through x [] (b ∷ before) left is h =
      absurd (none_some (by i b) (map (by i) (before ++ d ∷ left)) [] refl (sym is))
  through x (e ∷ es) [] left is h = by_test e.seat i
      (λ b. (if b then e ∷ own i es else own i es) ≡ by i d ∷ map (by i) left
      → Reached i Q (fold after (after x e) es) left)
      (λ same is. record {
        state = after x e;
        events = es;
        end_is = refl;
        own_is = same_tail e (by i d) (own i es) (map (by i) left) is;
        knows = subst (λ f. FromEach (after x f) Q)
            (sym (same_head e (by i d) (own i es) (map (by i) left) is)) (makes x h);
      })
      (λ other is. through (after x e) es [] left is (lasts x e h)) is
  through x (e ∷ es) (b ∷ before) left is h = by_test e.seat i
      (λ t. (if t then e ∷ own i es else own i es) ≡ by i b ∷ map (by i) (before ++ d ∷ left)
      → Reached i Q (fold after (after x e) es) left)
      (λ same is. through (after x e) es before left
      (same_tail e (by i b) (own i es) (map (by i) (before ++ d ∷ left)) is) (lasts x e h))
      (λ other is. through (after x e) es (b ∷ before) left is (lasts x e h)) is

-- ---- all the way

module _ (i : ℕ) (P : Origin → core.State → Type 0) (D : Deed → Type 0)
    (other : (x : World) (e : Event) → e.seat ≢ i → FromEach x P → FromEach (after x e) P)
    (its : (x : World) (d : Deed) → D d → FromEach x P → FromEach (after x (by i d)) P) where
  kept : (x : World) (es : List Event) (ds : List Deed) → own i es ≡ map (by i) ds → All D ds
      → FromEach x P → FromEach (fold after x es) P
  kept x [] ds is all h = h
  kept x (e ∷ es) [] is all h = by_test e.seat i
      (λ t. (if t then e ∷ own i es else own i es) ≡ [] → FromEach (fold after (after x e) es) P)
      (λ same is. absurd (none_some e (own i es) [] refl is))
      (λ no is. kept (after x e) es [] is all (other x e no h)) is
  kept x (e ∷ es) (d ∷ ds) is all h = by_test e.seat i
      (λ t. (if t then e ∷ own i es else own i es) ≡ by i d ∷ map (by i) ds
      → FromEach (fold after (after x e) es) P)
      (λ same is. kept (after x e) es ds (same_tail e (by i d) (own i es) (map (by i) ds) is)
      (All-tail D d ds all)
      (subst (λ f. FromEach (after x f) P)
      (sym (same_head e (by i d) (own i es) (map (by i) ds) is))
      (its x d (All-head D d ds all) h)))
      (λ no is. kept (after x e) es (d ∷ ds) is all (other x e no h)) is

module _ {C B : Type 0} (cache_facts : C → DiskFacts) (backing_facts : B → DiskFacts) where
  -- the events that a seat has seen since, of which these are its own
  pub record Behind (ds : List Deed) (v w : View cache_facts backing_facts) : Type 0 where
    pub more : List Event
    pub seen : w.seen ≡ v.seen ++ more
    pub state : world cache_facts backing_facts w
        ≡ fold after (world cache_facts backing_facts v) more
    pub own_is : own v.first more ≡ map (by v.first) ds

  pub behind : (ds : List Deed) (v w : View cache_facts backing_facts)
      → HasDone cache_facts backing_facts ds v w → Behind ds v w
  behind ds v w done = record {
    more = done.grown.more;
    seen = done.grown.seen;
    state = ap (λ (r : Run (CorePart C B)).
        fold after (opening cache_facts backing_facts r.start) w.seen) done.same.run
        ∙ ap (λ (l : List Event). fold after (opening cache_facts backing_facts v.run.start) l)
        done.grown.seen
        ∙ fold-append after (opening cache_facts backing_facts v.run.start) v.seen done.grown.more;
    own_is = append_cancel_left (own v.first v.seen) (own v.first done.grown.more)
        (map (by v.first) ds)
        (sym (filter-append (λ e. e.seat == v.first) v.seen done.grown.more)
        ∙ ap (λ (l : List Event). own v.first l) (sym done.grown.seen)
        ∙ ap (λ n. own n w.seen) (sym done.same.first) ∙ done.own);
  }

  pub kept_done : (P : Origin → core.State → Type 0) (D : Deed → Type 0) (ds : List Deed)
      (v w : View cache_facts backing_facts) → HasDone cache_facts backing_facts ds v w → All D ds
      → ((x : World) (e : Event) → e.seat ≢ v.first → FromEach x P → FromEach (after x e) P)
      → ((x : World) (d : Deed) → D d → FromEach x P → FromEach (after x (by v.first d)) P)
      → FromEach (world cache_facts backing_facts v) P
      → FromEach (world cache_facts backing_facts w) P
  kept_done P D ds v w done all other its h =
      let b = behind ds v w done in
      subst (λ x. FromEach x P) (sym b.state)
      (kept v.first P D other its (world cache_facts backing_facts v) b.more ds b.own_is all h)

  pub lasts_done : (P : Origin → core.State → Type 0) → Lasts P → (ds : List Deed)
      (v w : View cache_facts backing_facts) → HasDone cache_facts backing_facts ds v w
      → FromEach (world cache_facts backing_facts v) P
      → FromEach (world cache_facts backing_facts w) P
  lasts_done P lasts ds v w done h =
      let b = behind ds v w done in
      subst (λ x. FromEach x P) (sym b.state)
      (lasts_fold P lasts (world cache_facts backing_facts v) b.more h)

-- What a seat knows of firm candidates goes on, whoever acts.
use Rattle.std.proofs.Common.{◌≡◌, inl, ℕ, suc, ◌≤◌, Bool, true, false, List, [], ◌∷◌, ◌++◌, Option, Some, None, refl, sym, ap, ◌∙◌, subst, arith}
use Rattle.std.specs.Prelude.{◌==◌, filter, fold, if◌then◌else◌, map}
use Rattle.std.proofs.lemmas.List.{append_cancel_left}
use Rattle.std.proofs.lemmas.List.Elements.{filter-append}
use Rattle.std.proofs.lemmas.List.Sums.{fold-append}
use Rattle.bc_deed.proofs.of_bc_hand.Knowing.{View}
use Rattle.bc_deed.specs.Flushed.{HasDone}
use Rattle.bc_deed.specs.bc_hand.Seats.{Did, by, world}
use Rattle.bc_deed.specs.bc_machine.Frame.{by_test}
use Rattle.bc_deed.specs.bc_machine.Standing.{origin_before}
use Rattle.bc_deed.specs.bc_machine.World.{World, after, candidates_noted, notes_candidate, opening, replay}
use Rattle.bc_deed.specs.bc_machine.declared.part.CorePart.{CorePart}
use Rattle.bc_disk.specs.Disk.{DiskFacts}
use Rattle.bc_events.specs.declared.event.Deed.{Deed}
use Rattle.bc_events.specs.declared.event.Deed.TheVariants as deed
use Rattle.bc_events.specs.declared.event.Event.{Event}
use Rattle.bc_parts.specs.Seat.{Run}
use Rattle.bc_firm.specs.Firm.{AreFirm}
use Rattle.bc_firm.specs.Laws.{LawBarrier, LawBehind, LawCount, LawKept, LawLasts}
use Rattle.bc_firm.proofs.Firming.{all_firm, event_leaves}

-- ---- one event

more_noted : (n : ℕ) (es : List Event) (e : Event) → n ≤ candidates_noted es
    → n ≤ candidates_noted (e ∷ es)
more_noted n es e low = go (notes_candidate e.deed)
  where
    go : (b : Bool) → n ≤ (if b then suc (candidates_noted es) else candidates_noted es)
    go true = omega (arith, low)
    go false = low

pub law_lasts : LawLasts
law_lasts x e n h = record {
  noted = more_noted n x.log e h.noted;
  firm = λ o is course c low. event_leaves n o.opening (replay o x.log) x.log e h.noted
      course.0.number c low (h.firm o (origin_before x e o is) course.2 c low);
}

pub law_barrier : LawBarrier
law_barrier x i n low = record {
  noted = more_noted n x.log (record { seat = i; deed = deed.BackingBarrier }) low;
  firm = λ o is course c less. all_firm o.opening (replay o x.log) i c;
}

pub law_count : LawCount
law_count f x h = (h x (inl refl)).next

-- ---- events in a row

pub lasts_fold : (n : ℕ) (x : World) (es : List Event) → AreFirm n x → AreFirm n (fold after x es)
lasts_fold n x [] h = h
lasts_fold n x (e ∷ es) h = lasts_fold n (after x e) es (law_lasts x e n h)

pub noted_fold : (n : ℕ) (x : World) (es : List Event) → n ≤ candidates_noted x.log
    → n ≤ candidates_noted (fold after x es).log
noted_fold n x [] low = low
noted_fold n x (e ∷ es) low = noted_fold n (after x e) es (more_noted n x.log e low)

-- the events of this seat
abbrev own : ℕ → List Event → List Event
own i es = filter (λ e. e.seat == i) es

same_head : (e f : Event) (es fs : List Event) → e ∷ es ≡ f ∷ fs → e ≡ f
same_head e f es fs is = cc

same_tail : (e f : Event) (es fs : List Event) → e ∷ es ≡ f ∷ fs → es ≡ fs
same_tail e f es fs is = cc

none_some : (e : Event) (es none : List Event) → none ≡ [] → none ≡ e ∷ es → ⊥
none_some e es none empty is = let both : [] ≡ e ∷ es = sym empty ∙ is in absurd (cc)

module _ (i n : ℕ) (behind : List Deed) where
  through : (x : World) (es : List Event) (before : List Deed)
      → own i es ≡ map (by i) (before ++ deed.BackingBarrier ∷ behind)
      → n ≤ candidates_noted x.log → AreFirm n (fold after x es)
  through x [] [] is low = absurd (none_some (by i deed.BackingBarrier) (map (by i) behind) [] refl is)
  through x [] (b ∷ before) is low = absurd (none_some (by i b)
      (map (by i) (before ++ deed.BackingBarrier ∷ behind)) [] refl is)
  through x (e ∷ es) [] is low = by_test e.seat i
      (λ b. (if b then e ∷ own i es else own i es)
      ≡ by i deed.BackingBarrier ∷ map (by i) behind → AreFirm n (fold after (after x e) es))
      (λ same is. lasts_fold n (after x e) es (subst (λ f. AreFirm n (after x f))
      (sym (same_head e (by i deed.BackingBarrier) (own i es) (map (by i) behind) is))
      (law_barrier x i n low)))
      (λ other is. through (after x e) es [] is (more_noted n x.log e low)) is
  through x (e ∷ es) (b ∷ before) is low = by_test e.seat i
      (λ t. (if t then e ∷ own i es else own i es)
      ≡ by i b ∷ map (by i) (before ++ deed.BackingBarrier ∷ behind)
      → AreFirm n (fold after (after x e) es))
      (λ same is. through (after x e) es before
      (same_tail e (by i b) (own i es) (map (by i) (before ++ deed.BackingBarrier ∷ behind)) is)
      (more_noted n x.log e low))
      (λ other is. through (after x e) es (b ∷ before) is (more_noted n x.log e low)) is

-- ---- for a seat

module _ {C B : Type 0} (cache_facts : C → DiskFacts) (backing_facts : B → DiskFacts) where
  -- the events that a seat has seen since, of which these are its own
  record Behind (ds : List Deed) (v w : View cache_facts backing_facts) : Type 0 where
    pub more : List Event
    pub state : world cache_facts backing_facts w
        ≡ fold after (world cache_facts backing_facts v) more
    pub own_is : own v.first more ≡ map (by v.first) ds

  seen_since : (ds : List Deed) (v w : View cache_facts backing_facts)
      → HasDone cache_facts backing_facts ds v w → Behind ds v w
  seen_since ds v w done = record {
    more = done.grown.more;
    state = ap (λ (r : Run (CorePart C B)).
        fold after (opening cache_facts backing_facts r.start) w.seen) done.same.run
        ∙ ap (λ (l : List Event). fold after (opening cache_facts backing_facts v.run.start) l)
        done.grown.seen
        ∙ fold-append after (opening cache_facts backing_facts v.run.start) v.seen done.grown.more;
    own_is = append_cancel_left (own v.first v.seen) (own v.first done.grown.more)
        (map (by v.first) ds)
        (sym (filter-append (λ e. e.seat == v.first) v.seen done.grown.more)
        ∙ ap (λ (l : List Event). own v.first l) (sym done.grown.seen)
        ∙ ap (λ n. own n w.seen) (sym done.same.first) ∙ done.own);
  }

  step_kept : (v w : View cache_facts backing_facts) (o : Option Deed) (n : ℕ)
      → Did cache_facts backing_facts o v w → AreFirm n (world cache_facts backing_facts v)
      → AreFirm n (world cache_facts backing_facts w)
  step_kept v w None n did h = subst (AreFirm n) (sym did.is.since.is)
      (lasts_fold n (world cache_facts backing_facts v) did.is.since.others h)
  step_kept v w (Some d) n did h = subst (AreFirm n) (sym did.is.state)
      (law_lasts did.is.before (by v.first d) n (subst (AreFirm n) (sym did.is.since.is)
      (lasts_fold n (world cache_facts backing_facts v) did.is.since.others h)))

  pub behind_barrier : (v w : View cache_facts backing_facts) (n : ℕ)
      → Did cache_facts backing_facts (Some deed.BackingBarrier) v w
      → n ≤ candidates_noted (world cache_facts backing_facts v).log
      → AreFirm n (world cache_facts backing_facts w)
  behind_barrier v w n did low = subst (AreFirm n) (sym did.is.state)
      (law_barrier did.is.before v.first n (subst (λ x. n ≤ candidates_noted x.log)
      (sym did.is.since.is)
      (noted_fold n (world cache_facts backing_facts v) did.is.since.others low)))

  pub law_kept : LawKept cache_facts backing_facts
  law_kept = record {
    step = step_kept;
    done = λ v w ds n done h. subst (AreFirm n) (sym done.is)
        (lasts_fold n (world cache_facts backing_facts v) done.all h);
  }

  pub law_behind : LawBehind cache_facts backing_facts
  law_behind v w before behind n done low =
      let since = seen_since (before ++ deed.BackingBarrier ∷ behind) v w done in
      subst (AreFirm n) (sym since.state)
      (through v.first n behind (world cache_facts backing_facts v) since.more before since.own_is
      low)

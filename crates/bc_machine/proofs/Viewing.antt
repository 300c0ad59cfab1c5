-- The views of a run's state are the states that its events lead to from the views of its opening.
use Rattle.std.proofs.Common.{◌≡◌, ◌≢◌, ◌⊎◌, inl, inr, ℕ, Bool, true, false, List, [], ◌∷◌, Option, Some, None, refl, sym, ap, ◌∙◌, subst}
use Rattle.std.specs.Prelude.{fold}
use Rattle.bc_disk.specs.Disk.{DiskFacts}
use Rattle.bc_data.specs.Data as flow
use Rattle.bc_events.specs.Run.{Opening, IsSeat, line_after}
use Rattle.bc_events.specs.declared.event.LineNumber.{LineNumber}
use Rattle.bc_events.specs.declared.event.Event.{Event}
use Rattle.bc_machine.specs.declared.part.CorePart.{CorePart}
use Rattle.bc_machine.specs.World.{World, data_of, is_plain, is_told, are_plain, after, Origin, IsOrigin, IsSeenFrom, IsView, seen_from, opening, CanFollow, IsEnabled}
use Rattle.bc_machine.specs.Note.{no_note, note_of}
use Rattle.bc_machine.specs.Bare.{IsBareRun}
use Rattle.bc_machine.specs.Standing.{view_before}

pub view_run : (x : World) (es : List Event) (y : World) → IsView (fold after x es) y
    → (z : World) × IsView x z × (y ≡ fold after z es)
view_run x [] y view = (y, view, refl)
view_run x (e ∷ es) y view = let later = view_run (after x e) es y view in
    let one = view_before x e later.0 later.1 in
    (one.0, one.1, later.2 ∙ ap (λ z. fold after z es) one.2)

pub opening_stays : (x : World) (es : List Event) → (fold after x es).opening ≡ x.opening
opening_stays x [] = refl
opening_stays x (e ∷ es) = opening_stays (after x e) es

-- the lines that seats began and did not end are the events' alone
pub lines_same : (x z : World) (es : List Event) → z.now.line ≡ x.now.line
    → (fold after z es).now.line ≡ (fold after x es).now.line
lines_same x z [] is = is
lines_same x z (e ∷ es) is = lines_same (after x e) (after z e) es
    (ap (λ (line : ℕ → Option LineNumber). line_after line e.seat e.deed) is)

-- of a view: its opening says as much of sizes and workers, and whether the run is plain
pub record IsLike (x y : World) : Type 0 where
  pub size : y.opening.machine.flow.books.size ≡ x.opening.machine.flow.books.size
  pub worker : (i : ℕ) → y.opening.worker i ≡ x.opening.worker i
  pub plain : is_plain y ≡ is_plain x

pub view_like : (x y : World) → IsView x y → IsLike x y
view_like x y (inl is) = record {
  size = ap (λ (z : World). z.opening.machine.flow.books.size) is;
  worker = λ i. ap (λ (z : World). z.opening.worker i) is;
  plain = ap is_plain is;
}
view_like x y (inr (o, seen)) = record {
  size = ap (λ (z : World). z.opening.machine.flow.books.size) seen.is ∙ seen.origin.size;
  worker = λ i. ap (λ (z : World). z.opening.worker i) seen.is ∙ seen.origin.worker i;
  plain = ap is_plain seen.is ∙ seen.origin.cached ∙ sym seen.origin.with_cache;
}

-- a plain run is seen as it is alone
pub plain_view : (x y : World) → is_plain x ≡ true → IsView x y → y ≡ x
plain_view x y plain (inl is) = is
plain_view x y plain (inr (o, seen)) = absurd (true_false (is_plain x) plain seen.origin.with_cache)
  where
    true_false : (b : Bool) → b ≡ true → b ≡ false → ⊥
    true_false b t f = cc

-- nothing was ever cached in what is seen
pub bare_view : (x y : World) → IsBareRun x → IsView x y → IsBareRun y
bare_view x y h (inl is) = subst IsBareRun (sym is) h
bare_view x y h (inr (o, seen)) = λ told plain.
    absurd (true_false (is_plain y) plain (ap is_plain seen.is ∙ seen.origin.cached))
  where
    true_false : (b : Bool) → b ≡ true → b ≡ false → ⊥
    true_false b t f = cc

-- What may follow in each view may happen. A run with a cache is seen from an opening.
pub may_happen : (x : World) (e : Event) → IsSeat e.seat
    → ((y : World) → IsView x y → (is_plain x ≡ false → (o : Origin) × IsSeenFrom o x y)
    → is_told y ≡ true → CanFollow y e) → IsEnabled x e
may_happen x e seat each = record {
  seat = seat;
  allowed = λ told plain. each x (inl refl) (λ off. absurd (true_false (is_plain x) plain off)) told;
  follows = λ o is course. let seen : IsSeenFrom o x (seen_from o x) = record {
    is = refl;
    origin = is;
    course = course;
  } in each (seen_from o x) (inr (o, seen)) (λ _. (o, seen)) is.told;
}
  where
    true_false : (b : Bool) → b ≡ true → b ≡ false → ⊥
    true_false b t f = cc

-- ---- as a run begins

module _ {C B : Type 0} (cache_facts : C → DiskFacts) (backing_facts : B → DiskFacts) where
  -- no seat has noted anything, nothing has stopped, and no line is begun
  pub record IsNew (y : World) : Type 0 where
    pub notes : (i : ℕ) → note_of y i ≡ no_note
    pub late : (i : ℕ) → (data_of y).late i ≡ false
    pub halted : (data_of y).halted ≡ false
    pub line : y.now.line ≡ (λ i. None)

  pub new_view : (start : List (CorePart C B)) (y : World)
      → IsView (opening cache_facts backing_facts start) y → IsNew y
  new_view start y (inl is) = subst IsNew (sym is) (record {
    notes = λ i. refl;
    late = λ i. refl;
    halted = refl;
    line = refl;
  })
  new_view start y (inr (o, seen)) = subst IsNew (sym seen.is) (record {
    notes = λ i. refl;
    late = λ i. refl;
    halted = refl;
    line = refl;
  })

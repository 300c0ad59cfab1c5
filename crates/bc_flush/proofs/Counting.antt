-- What events make of the counts of insertions: none goes back, a seal takes all that came in, and
-- the end of an entry all that is sealed.
use Rattle.std.proofs.Common.{◌≡◌, ℕ, ◌≤◌, true, false, List, [], ◌∷◌, Option, Some, None, arith}
use Rattle.std.specs.declared.alloc.Global.{Global}
use Rattle.std.specs.Prelude.{Vec}
use Rattle.bc_books.specs.After as books
use Rattle.bc_books.specs.Books.{Books, Setup, Step}
use Rattle.bc_books.specs.Books as book
use Rattle.bc_data.specs.Data as flow
use Rattle.bc_data.specs.Enabled.{steps_of}
use Rattle.bc_events.specs.Run as core
use Rattle.bc_events.specs.declared.event.Deed.TheVariants as deed
use Rattle.bc_events.specs.declared.event.Event.{Event}
use Rattle.bc_entry.specs.bc_hand.Seats.{by}
use Rattle.bc_entry.proofs.of_bc_machine.Noting.{any_acts}
use Rattle.bc_entry.specs.bc_machine.Frame.{Keeps, in_acts}
use Rattle.bc_entry.specs.bc_machine.Standing.{origin_before}
use Rattle.bc_entry.specs.bc_machine.World.{FromEach, IsCourseOf, IsOrigin, Origin, World, after, replay}
use Rattle.bc_shares.specs.Shares.{books_of}
use Rattle.bc_flush.specs.Durable.{AreDurable, AreSealed, HaveComeIn}

-- What is durable is sealed, and what is sealed came in. Where no entry is sealed, all that was
-- sealed is durable.
pub record InTurn (k : Books) : Type 0 where
  pub durable : k.journal.durable ≤ k.journal.sealed
  pub sealed : k.journal.sealed ≤ k.index.count
  pub settled : k.journal.waiting ≡ false → k.journal.sealed ≤ k.journal.durable

-- no count went back, and they are in turn still
pub record Onward (a b : Books) : Type 0 where
  pub count : a.index.count ≤ b.index.count
  pub sealed : a.journal.sealed ≤ b.journal.sealed
  pub durable : a.journal.durable ≤ b.journal.durable
  pub turn : InTurn b

onward_same : (a : Books) → InTurn a → Onward a a
onward_same a turn =
    record { count = omega arith; sealed = omega arith; durable = omega arith; turn = turn }

onward_both : (a b c : Books) → Onward a b → Onward b c → Onward a c
onward_both a b c x y = record {
  count = let one = x.count in let two = y.count in omega (arith, one, two);
  sealed = let one = x.sealed in let two = y.sealed in omega (arith, one, two);
  durable = let one = x.durable in let two = y.durable in omega (arith, one, two);
  turn = y.turn;
}

never : true ≡ false → ⊥
never is = cc

onward_step : (w : Setup) (k : Books) (x : Step) → InTurn k → Onward k (books.after w k x)
onward_step w k (book.Put leaf keys) turn = record {
  count = omega arith;
  sealed = omega arith;
  durable = omega arith;
  turn = record {
    durable = turn.durable;
    sealed = let was = turn.sealed in omega (arith, was);
    settled = turn.settled;
  };
}
onward_step w k book.Seal turn = record {
  count = omega arith;
  sealed = turn.sealed;
  durable = omega arith;
  turn = record {
    durable = let a = turn.durable in let b = turn.sealed in omega (arith, a, b);
    sealed = omega arith;
    settled = λ none. absurd (never none);
  };
}
onward_step w k (book.SealChain i versions chain) turn = record {
  count = omega arith;
  sealed = turn.sealed;
  durable = omega arith;
  turn = record {
    durable = let a = turn.durable in let b = turn.sealed in omega (arith, a, b);
    sealed = omega arith;
    settled = λ none. absurd (never none);
  };
}
onward_step w k book.Sealed turn = record {
  count = omega arith;
  sealed = omega arith;
  durable = turn.durable;
  turn = record { durable = omega arith; sealed = turn.sealed; settled = λ none. omega arith };
}
onward_step w k x turn = record {
  count = omega arith;
  sealed = omega arith;
  durable = omega arith;
  turn = record { durable = turn.durable; sealed = turn.sealed; settled = turn.settled };
}

onward_fold : (w : Setup) (k : Books) (xs : List Step) → InTurn k → Onward k (books.fold w k xs)
onward_fold w k [] turn = onward_same k turn
onward_fold w k (x ∷ xs) turn =
    let one = onward_step w k x turn in
    onward_both k (books.after w k x) _ one (onward_fold w (books.after w k x) xs one.turn)

abbrev GoesOnward : flow.State → flow.State → Type 0
GoesOnward a b = InTurn a.books → Onward a.books b.books

goes_onward : (i : ℕ) → Keeps (λ act. Unit {0}) i GoesOnward
goes_onward i = record {
  same = λ a. onward_same a.books;
  both = λ a b c x y turn.
      let one = x turn in onward_both a.books b.books c.books one (y one.turn);
  one = λ w st act any. onward_fold w.books st.books (steps_of st.candidates i act);
}

pub onward_event : (w : core.Opening) (st : core.State) (e : Event) → InTurn (books_of st.machine)
    → Onward (books_of st.machine) (books_of (core.after w st e).machine)
onward_event w st e = in_acts (λ act. Unit {0}) e.seat GoesOnward (goes_onward e.seat) w.machine
    st.machine (core.acts w st e) (any_acts e.seat (core.acts w st e))

pub turn_replay : (o : Origin) (es : List Event) → InTurn (books_of (replay o es).machine)
turn_replay o [] = record {
  durable = omega arith;
  sealed = omega arith;
  settled = λ none. omega arith;
}
turn_replay o (e ∷ es) = (onward_event o.opening (replay o es) e (turn_replay o es)).turn

-- ---- what a seat knows, behind an event

pub after_each : (x : World) (e : Event) (P Q : Origin → core.State → Type 0)
    → ((o : Origin) → IsOrigin x o → IsCourseOf o x.log
    → core.IsEnabled o.opening (replay o x.log) e
    → P o (replay o x.log) → Q o (core.after o.opening (replay o x.log) e))
    → FromEach x P → FromEach (after x e) Q
after_each x e P Q makes h o is course =
    let before = origin_before x e o is in
    makes o before course.2 course.0.enabled (h o before course.2)

-- whatever happens, it goes on to hold
abbrev pub Lasts : (Origin → core.State → Type 0) → Type 0
Lasts P = (x : World) (e : Event) → FromEach x P → FromEach (after x e) P

module _ (n : Origin → ℕ) where
  pub come_lasts : Lasts (HaveComeIn n)
  come_lasts x e = after_each x e (HaveComeIn n) (HaveComeIn n) (λ o is course on h.
      let on = (onward_event o.opening (replay o x.log) e (turn_replay o x.log)).count in
      omega (arith, h, on))

  pub sealed_lasts : Lasts (AreSealed n)
  sealed_lasts x e = after_each x e (AreSealed n) (AreSealed n) (λ o is course on h.
      let on = (onward_event o.opening (replay o x.log) e (turn_replay o x.log)).sealed in
      omega (arith, h, on))

  pub durable_lasts : Lasts (AreDurable n)
  durable_lasts x e = after_each x e (AreDurable n) (AreDurable n) (λ o is course on h.
      let on = (onward_event o.opening (replay o x.log) e (turn_replay o x.log)).durable in
      omega (arith, h, on))

  -- ---- a seal, and the end of an entry

  seal_takes : (o : Origin) (st : core.State) (i low : ℕ) (bucket : Option ℕ) (rest : Vec ℕ Global)
      → HaveComeIn n o st
      → AreSealed n o (core.after o.opening st (by i (deed.Seal low bucket rest None None)))
  seal_takes o st i low None rest h = h
  seal_takes o st i low (Some b) rest h = h

  pub behind_seal : (x : World) (i low : ℕ) (bucket : Option ℕ) (rest : Vec ℕ Global)
      → FromEach x (HaveComeIn n)
      → FromEach (after x (by i (deed.Seal low bucket rest None None))) (AreSealed n)
  behind_seal x i low bucket rest = after_each x (by i (deed.Seal low bucket rest None None))
      (HaveComeIn n) (AreSealed n)
      (λ o is course on h. seal_takes o (replay o x.log) i low bucket rest h)

  pub behind_end : (x : World) (i : ℕ) → FromEach x (AreSealed n)
      → FromEach (after x (by i deed.Sealed)) (AreDurable n)
  behind_end x i = after_each x (by i deed.Sealed) (AreSealed n) (AreDurable n)
      (λ o is course on h. h)

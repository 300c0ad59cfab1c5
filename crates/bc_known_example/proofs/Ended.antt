-- The run's end: the leaf gets a further set, a write of data fails, which halts the run, and
-- another seat's barrier comes late. And no torn record matches by chance there.
use Rattle.std.proofs.Common.{◌≡◌, ◌≢◌, ◌⊎◌, inl, inr, ℕ, true, false, List, [], ◌∷◌, ◌++◌, refl, sym, subst, arith, ◌==◌}
use Rattle.bc_meta.specs.Places.{NoChance}
use Rattle.bc_meta.proofs.Lists.{by_test}
use Rattle.bc_whole.specs.State.{OfData, OfSet}
use Rattle.bc_whole.specs.Example.{HasAnswered, HasChain, HasTree}
use Rattle.bc_whole.proofs.Toy.{stored_key, entry_3, further_set}
use Rattle.bc_whole.proofs.Start.{opening, held}
use Rattle.bc_whole.proofs.Built.{s0}
use Rattle.bc_whole.proofs.Stored.{s28, nine, book_key, data_pointer}
use Rattle.bc_whole.proofs.Failed.{s29, s30, s31, ends}
use Rattle.bc_whole.proofs.Chance.{IsClear, no_chance, put_no, put_yes, in_four}
use Rattle.bc_known.specs.Acts.{State, Act, WriteCache, FailCache, CacheBarrier, Event}
use Rattle.bc_known.specs.Run.{IsEnabled, run}
use Rattle.bc_known_example.specs.Example.{IsWritten, HasData, HasExample}
use Rattle.bc_known_example.proofs.Opened.{sound}
use Rattle.bc_known_example.proofs.Leads.{Leads, at, one, stay, go, then}
use Rattle.bc_known_example.proofs.Built.{building, builds_on}
use Rattle.bc_known_example.proofs.Grown.{growing, grows_on}
use Rattle.bc_known_example.proofs.Stored.{storing, stores_on}

abbrev pub set_act : Act
set_act = WriteCache (OfSet 1 further_set) ((20 ∷ 5 ∷ []) ∷ [])

abbrev pub fail_act : Act
fail_act = FailCache (OfData 7 29) (nine ∷ [])

-- seat 2's barrier comes late
abbrev pub late_barrier : Event
late_barrier = record { seat = 2; act = CacheBarrier }

pub known_28 : IsEnabled opening (at s28 9) 1 set_act
known_28 = record { data_allows = ends.0.flow; asks = (ends.0.store.1.0, ends.0.store.2.1) }

known_29 : IsEnabled opening (at s29 9) 1 fail_act
known_29 = record {
  data_allows = ends.1.0.flow;
  asks = record {
    some = λ e. cc;
    low = omega arith;
    high = omega arith;
    bucket = omega arith;
  };
}

known_30 : IsEnabled opening (at s30 9) 2 CacheBarrier
known_30 = record { data_allows = ends.1.1.0.flow; asks = tt }

abbrev pub before : List Event
before = building ++ (growing ++ (storing ++ (one set_act ∷ [])))

abbrev pub ending : List Event
ending = one fail_act ∷ late_barrier ∷ []

abbrev pub events : List Event
events = before ++ ending

pub begins_on : Leads (at s0 7) before (at s29 9)
begins_on = then building (growing ++ (storing ++ (one set_act ∷ []))) builds_on
    (then growing (storing ++ (one set_act ∷ [])) grows_on
    (then storing (one set_act ∷ []) stores_on
    (go (at s28 9) (one set_act) (at s29 9) known_28 refl stay)))

ends_on : Leads (at s29 9) ending (at s31 9)
ends_on = go (at s29 9) (one fail_act) (at s30 9) known_29 refl
    (go (at s30 9) late_barrier (at s31 9) known_30 refl stay)

leads : Leads (at s0 7) events (at s31 9)
leads = then before ending begins_on ends_on

-- ---- what a crash may leave at the end

not_both : (false ≡ true) ⊎ (false ≡ true) → ⊥
not_both m = elim m [ inl e ↦ absurd (cc) | inr e ↦ absurd (cc) ]

clear : IsClear s31.store.places (3 ∷ []) entry_3
clear = record {
  read = refl;
  sector_0 = refl;
  sector_1 = refl;
  sector_2 = refl;
  sector_3 = refl;
  blank_1 = λ p ge lt. in_four (λ p. s31.store.places.device.leaves p ≡ []
      ∷ []) 4 p refl refl refl refl ge lt;
  second = inr (inl (refl, refl, refl));
  third = inl (refl, refl, refl);
  new = put_no _ 7 (put_no _ 7 (put_yes _ 6 (inr refl) (put_yes _ 5 (inl refl)
      (put_no _ 6 (put_no _ 5 (put_no _ 4 (put_no _ 4 (λ q e. absurd (cc)))))))));
  still_5 = not_both;
  still_6 = not_both;
}

-- ---- what the run shows

other : (a b : ℕ) → (a == b) ≡ false → a ≢ b
other a b = by_test a b (λ t. t ≡ false → a ≢ b) (λ _ e. absurd (cc)) (λ ne _. ne)

is_written : IsWritten events 0
is_written = record {
  seat = 1;
  line = 5;
  leaf = 1;
  slot = 1;
  keys = book_key ∷ [];
  values = nine ∷ [];
  stored = stored_key ∷ [];
  some = λ e. cc;
  event = inr
      (inr (inr (inr (inr (inr
      (inr (inr (inr (inr (inr
      (inr (inr (inr (inr (inr (inr (inr (inr (inr (inr (inl refl)))))))))))))))))))));
}

has_data : HasData opening (at s31 9) events
has_data = record {
  sector = 0;
  written = is_written;
  bare = refl;
  pointer = data_pointer;
  durable = refl;
  dirty = refl;
}

has_answered : HasAnswered s31
has_answered = record { seat = 1; line = 5; first = 0; count = 1; done = inl refl }

has_chain : HasChain opening s31
has_chain = record { ready = refl; durable = refl; bucket = 7; raised = other 301 300 refl }

has_tree : HasTree opening s31
has_tree = record {
  root = other 6 8 refl;
  over = refl;
  slot = 1;
  free = refl;
  ours = refl;
  sets = refl;
}

-- what holds of the state that the run leads to
at_end : (P : State → Type 0) → P (at s31 9) → P (run opening (at s0 7) events)
at_end P h = subst P (sym leads.is) h

running : s29.flow.halted ≢ true
running e = cc

pub has_example : HasExample
has_example = (
  opening,
  held,
  7,
  (
    events,
    record {
      sound = sound;
      course = leads.course;
      stored = at_end (λ st. HasData opening st events) has_data;
      answered = at_end (λ st. HasAnswered st.whole) has_answered;
      chain = at_end (λ st. HasChain opening st.whole) has_chain;
      tree = at_end (λ st. HasTree opening st.whole) has_tree;
      fault = record {
        before = before;
        seat = 1;
        write = OfData 7 29;
        values = nine ∷ [];
        late = 2;
        last = refl;
        running = subst (λ (st : State). st.whole.flow.halted ≢ true) (sym begins_on.is) running;
        halted = at_end (λ st. st.whole.flow.halted ≡ true) refl;
        its_last = at_end (λ st. st.whole.flow.late 2 ≡ true) refl;
      };
      chance = at_end (λ st. NoChance opening.layout opening.store.image st.whole.store.places)
          (no_chance s31.store.places (3 ∷ []) entry_3 clear);
    },
  ),
)

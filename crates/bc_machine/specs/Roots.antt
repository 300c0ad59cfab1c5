-- The root that entries name stays the same where no event changes the tree.
use Rattle.std.specs.Prelude.{◌≡◌, ◌≢◌, ℕ, false, List, [], ◌∷◌}
use Rattle.std.proofs.Common.{refl, sym, subst}
use Rattle.bc_key.specs.declared.key.Key.{Key}
use Rattle.bc_meta.specs.Events as event
use Rattle.bc_meta.specs.Acts as meta
use Rattle.bc_meta.specs.Records.{Stage, Nothing, Fixed, Ready, Sent, Safe, after_barrier}
use Rattle.bc_leaves.specs.Events as parts_event
use Rattle.bc_leaves.specs.Parts as parts
use Rattle.bc_leaves.specs.Laws.{parts_of}
use Rattle.bc_whole.specs.State as whole
use Rattle.bc_whole.specs.State.{Write, OfData, OfEntry, OfSet, OfParent, OfLeaf, OfInner, OfPriorities, Outside, SameRoot, NewRoot}
use Rattle.bc_whole.specs.Together.{inserted, step}
use Rattle.bc_known.specs.Acts.{State, Act, Keyed, WriteCache, FailCache, CacheBarrier, Seal, MakeDurable, BeginChange, Install, ForgetDrafts, after}
use Rattle.bc_known.specs.Run.{IsEnabled}
use Rattle.bc_known.proofs.Keyed.{parts_join}
use Rattle.bc_events.specs.Run as core
use Rattle.bc_events.specs.Run.{acts_or_none}
use Rattle.bc_events.specs.Acts.{acts_of}
use Rattle.bc_events.specs.declared.event.Event.{Event}
use Rattle.bc_shares.specs.Touched.{touches_spine}
use Rattle.bc_shares.proofs.Acts.{IsKept, kept_run}
use Rattle.bc_shares.proofs.Parts.{spine_write, spine_act}
use Rattle.bc_shares.proofs.Rows.{spine_row}
use Rattle.bc_shares.proofs.Law.{in_order}
use Rattle.bc_machine.specs.Containers.{NamesRoot}

-- each root that entries named before they name now
abbrev pub NameTheSame : parts.State → parts.State → Type 0
NameTheSame a b = (q : ℕ) → NamesRoot a.records q → NamesRoot b.records q

-- keys that come in wait for the next entry
keyed_names : (p : parts.State) (slot : ℕ) (keys : List Key)
    → NameTheSame p (parts_of p (inserted slot keys))
keyed_names p slot [] q h = h
keyed_names p slot (key ∷ keys) q h =
    subst (λ (s : parts.State). NamesRoot s.records q) (sym (parts_join p (inserted slot keys)
    (step (meta.Plain (event.AddKey key)) (parts_event.Insert slot key))))
    (let one = keyed_names p slot keys q h in record { newest = one.newest; sealed = one.sealed })

barrier_some : (g : Stage) → after_barrier g ≢ Nothing → g ≢ Nothing
barrier_some Nothing some none = some refl
barrier_some Fixed some none = cc
barrier_some Ready some none = cc
barrier_some Sent some none = cc
barrier_some Safe some none = cc

root_write : (w : whole.Opening) (st : State) (i : ℕ) (x : Write) (values : List _)
    → spine_write x ≡ false → IsEnabled w st i (WriteCache x values)
    → NameTheSame st.whole.parts (after w st i (WriteCache x values)).whole.parts
root_write w st i (OfParent slot set) values off on q h = absurd (cc)
root_write w st i (OfLeaf slot leaf set) values off on q h = absurd (cc)
root_write w st i (OfInner slot inner set) values off on q h = absurd (cc)
root_write w st i OfEntry values off on q h = record {
  newest = h.newest;
  sealed = λ some. h.sealed (λ none. let ready = on.asks.0 in cc);
}
root_write w st i (OfData b place) values off on q h =
    record { newest = h.newest; sealed = h.sealed }
root_write w st i (OfSet slot set) values off on q h =
    record { newest = h.newest; sealed = h.sealed }
root_write w st i (OfPriorities b part set) values off on q h =
    record { newest = h.newest; sealed = h.sealed }
root_write w st i (Outside place) values off on q h =
    record { newest = h.newest; sealed = h.sealed }

root_fault : (w : whole.Opening) (st : State) (i : ℕ) (x : Write) (values : List _)
    → spine_write x ≡ false
    → NameTheSame st.whole.parts (after w st i (FailCache x values)).whole.parts
root_fault w st i (OfParent slot set) values off q h = absurd (cc)
root_fault w st i (OfLeaf slot leaf set) values off q h = absurd (cc)
root_fault w st i (OfInner slot inner set) values off q h = absurd (cc)
root_fault w st i OfEntry values off q h = record { newest = h.newest; sealed = h.sealed }
root_fault w st i (OfData b place) values off q h = record { newest = h.newest; sealed = h.sealed }
root_fault w st i (OfSet slot set) values off q h = record { newest = h.newest; sealed = h.sealed }
root_fault w st i (OfPriorities b part set) values off q h =
    record { newest = h.newest; sealed = h.sealed }
root_fault w st i (Outside place) values off q h = record { newest = h.newest; sealed = h.sealed }

root_one : (w : whole.Opening) (st : State) (i : ℕ) (act : Act) → spine_act act ≡ false
    → IsEnabled w st i act → NameTheSame st.whole.parts (after w st i act).whole.parts
root_one w st i (Keyed act slot keys) off on = keyed_names st.whole.parts slot keys
root_one w st i (WriteCache x values) off on = root_write w st i x values off on
root_one w st i (FailCache x values) off on = root_fault w st i x values off
root_one w st i CacheBarrier off on = λ q h. record {
  newest = h.newest;
  sealed = λ some. h.sealed (barrier_some st.whole.parts.records.stage some);
}
root_one w st i (Seal last_seq rest SameRoot chain) off on = λ q h. record {
  newest = h.newest;
  sealed = λ some. h.newest;
}
root_one w st i (Seal last_seq rest (NewRoot r) chain) off on = absurd (cc)
root_one w st i MakeDurable off on = λ q h. record {
  newest = h.sealed (λ none. let safe = on.asks in cc);
  sealed = λ some. absurd (some refl);
}
root_one w st i (BeginChange low high gone come old new un) off on = absurd (cc)
root_one w st i (Install un steps) off on = absurd (cc)
root_one w st i ForgetDrafts off on = absurd (cc)
root_one w st i act off on = λ q h. record { newest = h.newest; sealed = h.sealed }

root_kept : IsKept (λ act. spine_act act ≡ false)
    (λ a b. NameTheSame a.whole.parts b.whole.parts)
root_kept = record {
  same = λ a q h. h;
  both = λ a b c x y q h. y q (x q h);
  one = root_one;
}

pub law_root : (w : core.Opening) (st : core.State) (e : Event) → core.IsEnabled w st e
    → touches_spine e.deed ≡ false
    → NameTheSame st.machine.whole.parts (core.after w st e).machine.whole.parts
law_root w st e on off = kept_run (λ act. spine_act act ≡ false)
    (λ a b. NameTheSame a.whole.parts b.whole.parts) root_kept w.machine st.machine e.seat
    (acts_or_none (acts_of w.machine st.machine e.seat e.deed))
    (spine_row w.machine st.machine e.seat e.deed off)
    (in_order w st e (acts_of w.machine st.machine e.seat e.deed) on)

-- Once an entry with a new root is sealed, the entries from it on name that root.
use Rattle.std.proofs.Common.{◌≡◌, ◌≢◌, ℕ, ◌≤◌, false, List, [], ◌∷◌, refl, sym, subst, arith}
use Rattle.bc_model.specs.Sector.{Value}
use Rattle.bc_key.specs.declared.key.Key.{Key}
use Rattle.bc_meta.specs.Acts as meta
use Rattle.bc_meta.specs.Events as event
use Rattle.bc_meta.specs.Records.{Stage, Nothing, Fixed, Ready, Sent, Safe, after_barrier}
use Rattle.bc_leaves.specs.Events as parts_event
use Rattle.bc_leaves.specs.Laws.{parts_of}
use Rattle.bc_leaves.specs.Parts.{sealed_number}
use Rattle.bc_leaves.specs.Parts as parts
use Rattle.bc_whole.specs.State.{Opening, Write, OfData, OfEntry, OfSet, OfParent, OfLeaf, OfInner, OfPriorities, Outside, SameRoot, NewRoot}
use Rattle.bc_whole.specs.Together.{inserted, step}
use Rattle.bc_whole.proofs.Kept.{Inv}
use Rattle.bc_known.specs.Acts.{State, Act, Keyed, WriteCache, FailCache, CacheBarrier, Seal, MakeDurable, BeginChange, Install, ForgetDrafts, after}
use Rattle.bc_known.specs.Laws.{IsSound}
use Rattle.bc_known.specs.Run.{IsEnabled}
use Rattle.bc_known.proofs.Keyed.{parts_join}
use Rattle.bc_known.proofs.Law.{inv_at}
use Rattle.bc_shares.proofs.Parts.{IsKeptAt, spine_act}
use Rattle.bc_nodes_known.specs.Nodes.{NamesFrom, StayNamed}

keyed_named : (p : parts.State) (slot : ℕ) (keys : List Key)
    → StayNamed p (parts_of p (inserted slot keys))
keyed_named p slot [] n q h = h
keyed_named p slot (key ∷ keys) n q h =
    subst (λ (s : parts.State). NamesFrom n q s.records) (sym (parts_join p (inserted slot keys)
    (step (meta.Plain (event.AddKey key)) (parts_event.Insert slot key))))
    (let one = keyed_named p slot keys n q h in
    record { made = one.made; newest = one.newest; sealed = one.sealed })

write_named : (w : Opening) (st : State) (i : ℕ) (x : Write) (values : List Value)
    → spine_act (WriteCache x values) ≡ false → IsEnabled w st i (WriteCache x values)
    → StayNamed st.whole.parts (after w st i (WriteCache x values)).whole.parts
write_named w st i (OfParent slot set) values off on n q h = absurd (cc)
write_named w st i (OfLeaf slot leaf set) values off on n q h = absurd (cc)
write_named w st i (OfInner slot inner set) values off on n q h = absurd (cc)
write_named w st i OfEntry values off on n q h = record {
  made = subst (λ g. n ≤ sealed_number g st.whole.parts.records.newest.number) on.asks.0 h.made;
  newest = h.newest;
  sealed = λ some. h.sealed (λ none. let ready = on.asks.0 in cc);
}
write_named w st i (OfData b place) values off on n q h =
    record { made = h.made; newest = h.newest; sealed = h.sealed }
write_named w st i (OfSet slot set) values off on n q h =
    record { made = h.made; newest = h.newest; sealed = h.sealed }
write_named w st i (OfPriorities b part set) values off on n q h =
    record { made = h.made; newest = h.newest; sealed = h.sealed }
write_named w st i (Outside place) values off on n q h =
    record { made = h.made; newest = h.newest; sealed = h.sealed }

fault_named : (w : Opening) (st : State) (i : ℕ) (x : Write) (values : List Value)
    → spine_act (FailCache x values) ≡ false
    → StayNamed st.whole.parts (after w st i (FailCache x values)).whole.parts
fault_named w st i (OfParent slot set) values off n q h = absurd (cc)
fault_named w st i (OfLeaf slot leaf set) values off n q h = absurd (cc)
fault_named w st i (OfInner slot inner set) values off n q h = absurd (cc)
fault_named w st i OfEntry values off n q h =
    record { made = h.made; newest = h.newest; sealed = h.sealed }
fault_named w st i (OfData b place) values off n q h =
    record { made = h.made; newest = h.newest; sealed = h.sealed }
fault_named w st i (OfSet slot set) values off n q h =
    record { made = h.made; newest = h.newest; sealed = h.sealed }
fault_named w st i (OfPriorities b part set) values off n q h =
    record { made = h.made; newest = h.newest; sealed = h.sealed }
fault_named w st i (Outside place) values off n q h =
    record { made = h.made; newest = h.newest; sealed = h.sealed }

-- a barrier seals nothing, nor makes an entry durable
barrier_some : (g : Stage) → after_barrier g ≢ Nothing → g ≢ Nothing
barrier_some Nothing some none = some refl
barrier_some Fixed some none = cc
barrier_some Ready some none = cc
barrier_some Sent some none = cc
barrier_some Safe some none = cc

barrier_sealed : (g : Stage) (n : ℕ) → sealed_number (after_barrier g) n ≡ sealed_number g n
barrier_sealed Nothing n = refl
barrier_sealed Fixed n = refl
barrier_sealed Ready n = refl
barrier_sealed Sent n = refl
barrier_sealed Safe n = refl

named_one : (w : Opening) (st : State) (i : ℕ) (act : Act) → Inv w st.whole
    → spine_act act ≡ false → IsEnabled w st i act
    → StayNamed st.whole.parts (after w st i act).whole.parts
named_one w st i (Keyed act slot keys) inv off on = keyed_named st.whole.parts slot keys
named_one w st i (WriteCache x values) inv off on = write_named w st i x values off on
named_one w st i (FailCache x values) inv off on = fault_named w st i x values off
named_one w st i CacheBarrier inv off on = λ n q h. let r = st.whole.parts.records in record {
  made = subst (λ m. n ≤ m) (sym (barrier_sealed r.stage r.newest.number)) h.made;
  newest = h.newest;
  sealed = λ some. h.sealed (barrier_some r.stage some);
}
named_one w st i (Seal last_seq rest SameRoot chain) inv off on = λ n q h.
    let r = st.whole.parts.records in
    let made = subst (λ g. n ≤ sealed_number g r.newest.number) on.asks.0.0 h.made in
    record { made = omega (arith, made); newest = h.newest; sealed = λ some. h.newest made }
named_one w st i (Seal last_seq rest (NewRoot r) chain) inv off on = absurd (cc)
named_one w st i MakeDurable inv off on = λ n q h.
    let r = st.whole.parts.records in
    let some : r.stage ≢ Nothing = λ none. let safe = on.asks in cc in
    let made = subst (λ g. n ≤ sealed_number g r.newest.number) on.asks h.made in
    let next = (inv.records.follows some).number in record {
      made = omega (arith, made, next);
      newest = λ _. h.sealed some;
      sealed = λ more. absurd (more refl);
    }
named_one w st i (BeginChange low high gone come old new un) inv off on = absurd (cc)
named_one w st i (Install un steps) inv off on = absurd (cc)
named_one w st i ForgetDrafts inv off on = absurd (cc)
named_one w st i act inv off on =
    λ n q h. record { made = h.made; newest = h.newest; sealed = h.sealed }

pub named_kept : (w : Opening) (x : parts.State) → IsSound w x
    → IsKeptAt w x (λ act. spine_act act ≡ false)
    (λ a b. StayNamed a.whole.parts b.whole.parts)
named_kept w x sound = record {
  same = λ a n q h. h;
  both = λ a b c first later n q h. later n q (first n q h);
  one = λ st i act at off on. named_one w st i act (inv_at w x st.whole sound at.at) off on;
}

-- The example's run as events: a bucket is raised, the tree and the chain change, and a write goes
-- through the cache.
use Rattle.std.proofs.Common.{true, ◌≡◌, ◌≢◌, inl, inr, ℕ, false, List, [], ◌∷◌, Some, None, refl, sym, subst, arith, ◌==◌, ◌⊎◌}
use Rattle.bc_flight.specs.declared.claim.Share.TheVariants.{Exclusive}
use Rattle.bc_alloc.specs.declared.purpose.Purpose.TheVariants as list
use Rattle.bc_crash.specs.Laws.{IsClosed}
use Rattle.bc_meta.proofs.Lists.{by_test}
use Rattle.bc_whole.specs.Example.{HasChain}
use Rattle.bc_whole.proofs.Chance.{IsClear, no_chance, put_no, put_yes, in_four}
use Rattle.bc_whole.proofs.Toy.{stored_key, entry_3}
use Rattle.bc_whole.proofs.Start.{held}
use Rattle.bc_whole.proofs.Built.{s0, s1, s2, s3, s4, s5, s6, s7, s8, prio_values, leaf_values, root_values}
use Rattle.bc_whole.proofs.Stored.{nine, data_pointer}
use Rattle.bc_known_example.proofs.Opened.{sound}
use Rattle.bc_known_example.proofs.Built.{builds_on}
use Rattle.bc_events.specs.declared.event.NewNode.{NewNode}
use Rattle.bc_events.specs.declared.event.NewRoot.{NewRoot}
use Rattle.bc_events.specs.declared.event.NewChain.{NewChain}
use Rattle.bc_events.specs.declared.event.Written.TheVariants as written
use Rattle.bc_events.specs.declared.event.Deed.{Deed}
use Rattle.bc_events.specs.declared.event.Deed.TheVariants as deed
use Rattle.bc_events.specs.declared.event.Event.{Event}
use Rattle.bc_events.specs.Example.{line}
use Rattle.bc_events.specs.Laws.{IsTornApart}
use Rattle.bc_events.specs.Run.{State, IsEnabled, after, run}
use Rattle.bc_events_example.specs.Example.{HasWritten, HasRoot, HasExample}
use Rattle.bc_events_example.proofs.Known.{t10, t11, t12, t13, t14, t15, t17, heap, change, on8, on9, on10, on11, on12, on13, on14, on15, on16}
use Rattle.bc_events_example.proofs.Stored.{t18, t19, t20, t21, t22, t23, t24, t25, t26, t27, t28, t29, on17, on18, on19, on20, on21, on22, on23, on24, on25, on26, on27, on28}
use Rattle.bc_events_example.proofs.Leads.{opening, idle, going, one, does, Leads, stay, go}
use denote.RawPtr.{null_ptr}

abbrev leaf_node : NewNode
leaf_node = record {
  slot = 1;
  first = 0;
  end = 8;
  bucket = 5;
  word = 20;
  height = 0;
  sectors = 1;
}

abbrev root_node : NewNode
root_node = record {
  slot = 1;
  first = 0;
  end = 8;
  bucket = 6;
  word = 24;
  height = 0;
  sectors = 1;
}

abbrev new_root : NewRoot
new_root = record { inner = 1; change = change }

abbrev new_chain : NewChain
new_chain = record { buckets = record { ptr = null_ptr; len = 1; cap = 1; alloc = heap; items = 4 ∷ []; ok = (refl, omega arith); small = omega arith } }

abbrev raise_deed : Deed
raise_deed = deed.Raise 7

abbrev take_4_deed : Deed
take_4_deed = deed.Take list.Priorities 4

abbrev chain_deed : Deed
chain_deed = deed.CacheWrite 16 (written.Priorities 4 0) prio_values

abbrev take_5_deed : Deed
take_5_deed = deed.Take list.Tree 5

abbrev take_6_deed : Deed
take_6_deed = deed.Take list.Tree 6

abbrev leaf_deed : Deed
leaf_deed = deed.CacheWrite 20 (written.Leaf leaf_node) leaf_values

abbrev root_deed : Deed
root_deed = deed.CacheWrite 24 (written.Inner root_node) root_values

abbrev barrier_deed : Deed
barrier_deed = deed.CacheBarrier

abbrev seal_root_deed : Deed
seal_root_deed = deed.Seal 1 None (record { ptr = null_ptr; len = 0; cap = 0; alloc = heap; items = []; ok = (refl, omega arith); small = omega arith }) (Some new_root) (Some new_chain)

abbrev entry_2_deed : Deed
entry_2_deed = deed.CacheWrite 1 written.Entry ((2 ∷ []) ∷ [])

abbrev sealed_deed : Deed
sealed_deed = deed.Sealed

abbrev install_deed : Deed
install_deed = deed.Install change (record { ptr = null_ptr; len = 2; cap = 2; alloc = heap; items = 5 ∷ 6 ∷ []; ok = (refl, omega arith); small = omega arith }) (record { ptr = null_ptr; len = 2; cap = 2; alloc = heap; items = 8 ∷ 2 ∷ []; ok = (refl, omega arith); small = omega arith })

abbrev ready_deed : Deed
ready_deed = deed.Ready (record { ptr = null_ptr; len = 1; cap = 1; alloc = heap; items = 3 ∷ []; ok = (refl, omega arith); small = omega arith }) (record { ptr = null_ptr; len = 1; cap = 1; alloc = heap; items = record { bucket = 7; list = Some list.Plain } ∷ []; ok = (refl, omega arith); small = omega arith })

abbrev take_7_deed : Deed
take_7_deed = deed.Take list.Plain 7

abbrev pin_deed : Deed
pin_deed = deed.Pin 28 2 false

abbrev data_deed : Deed
data_deed = deed.CacheWrite 28 written.Data (nine ∷ [])

abbrev claim_deed : Deed
claim_deed = deed.Claim 0 1 Exclusive

abbrev keys_deed : Deed
keys_deed = deed.InsertWrite 1 (stored_key ∷ []) (line 5) 0 (nine ∷ [])

abbrev seal_deed : Deed
seal_deed = deed.Seal 1 None (record { ptr = null_ptr; len = 0; cap = 0; alloc = heap; items = []; ok = (refl, omega arith); small = omega arith }) None None

abbrev entry_3_deed : Deed
entry_3_deed = deed.CacheWrite 2 written.Entry ((3 ∷ []) ∷ [])

abbrev durable_deed : Deed
durable_deed = deed.Durable (line 5) 0 1

abbrev release_deed : Deed
release_deed = deed.Release

abbrev begin_deed : Deed
begin_deed = deed.LineFrom (line 5)

abbrev end_deed : Deed
end_deed = deed.LineDone (line 5)

abbrev pub events : List Event
events = one begin_deed ∷ one raise_deed ∷ one take_4_deed ∷ one chain_deed ∷ one take_5_deed ∷ one take_6_deed ∷ one leaf_deed ∷ one root_deed ∷ one barrier_deed ∷ one seal_root_deed ∷ one barrier_deed ∷ one entry_2_deed ∷ one barrier_deed ∷ one sealed_deed ∷ one install_deed ∷ one ready_deed ∷ one take_7_deed ∷ one pin_deed ∷ one data_deed ∷ one claim_deed ∷ one keys_deed ∷ one seal_deed ∷ one barrier_deed ∷ one entry_3_deed ∷ one barrier_deed ∷ one sealed_deed ∷ one durable_deed ∷ one release_deed ∷ one end_deed ∷ []

-- ---- each may be done

does_begin : IsEnabled opening (idle s0 7) (one begin_deed)
does_begin = does (idle s0 7) begin_deed tt refl refl

does_0 : IsEnabled opening (going s0 7) (one raise_deed)
does_0 = does (going s0 7) raise_deed (builds_on.course.0, tt) tt tt

does_1 : IsEnabled opening (going s1 7) (one take_4_deed)
does_1 = does (going s1 7) take_4_deed (builds_on.course.1.0, tt) tt tt

does_2 : IsEnabled opening (going s2 7) (one chain_deed)
does_2 = does (going s2 7) chain_deed (builds_on.course.1.1.0, tt) refl tt

does_3 : IsEnabled opening (going s3 7) (one take_5_deed)
does_3 = does (going s3 7) take_5_deed (builds_on.course.1.1.1.0, tt) tt tt

does_4 : IsEnabled opening (going s4 7) (one take_6_deed)
does_4 = does (going s4 7) take_6_deed (builds_on.course.1.1.1.1.0, tt) tt tt

does_5 : IsEnabled opening (going s5 7) (one leaf_deed)
does_5 = does (going s5 7) leaf_deed (builds_on.course.1.1.1.1.1.0, tt) refl tt

does_6 : IsEnabled opening (going s6 8) (one root_deed)
does_6 = does (going s6 8) root_deed (builds_on.course.1.1.1.1.1.1.0, tt) refl tt

does_7 : IsEnabled opening (going s7 9) (one barrier_deed)
does_7 = does (going s7 9) barrier_deed (builds_on.course.1.1.1.1.1.1.1.0, tt) tt tt

does_8 : IsEnabled opening (going s8 9) (one seal_root_deed)
does_8 = does (going s8 9) seal_root_deed (on8, (on9, tt)) tt tt

does_9 : IsEnabled opening (going t10 9) (one barrier_deed)
does_9 = does (going t10 9) barrier_deed (on10, tt) tt tt

does_10 : IsEnabled opening (going t11 9) (one entry_2_deed)
does_10 = does (going t11 9) entry_2_deed (on11, tt) refl tt

does_11 : IsEnabled opening (going t12 9) (one barrier_deed)
does_11 = does (going t12 9) barrier_deed (on12, tt) tt tt

does_12 : IsEnabled opening (going t13 9) (one sealed_deed)
does_12 = does (going t13 9) sealed_deed (on13, tt) tt tt

does_13 : IsEnabled opening (going t14 9) (one install_deed)
does_13 = does (going t14 9) install_deed (on14, tt) tt tt

does_14 : IsEnabled opening (going t15 9) (one ready_deed)
does_14 = does (going t15 9) ready_deed (on15, (on16, tt)) tt tt

does_15 : IsEnabled opening (going t17 9) (one take_7_deed)
does_15 = does (going t17 9) take_7_deed (on17, tt) tt tt

does_16 : IsEnabled opening (going t18 9) (one pin_deed)
does_16 = does (going t18 9) pin_deed (on18, tt) tt tt

does_17 : IsEnabled opening (going t19 9) (one data_deed)
does_17 = does (going t19 9) data_deed (on19, tt) refl tt

does_18 : IsEnabled opening (going t20 9) (one claim_deed)
does_18 = does (going t20 9) claim_deed (on20, tt) (omega arith) tt

does_19 : IsEnabled opening (going t21 9) (one keys_deed)
does_19 = does (going t21 9) keys_deed (on21, tt) tt refl

does_20 : IsEnabled opening (going t22 9) (one seal_deed)
does_20 = does (going t22 9) seal_deed (on22, tt) tt tt

does_21 : IsEnabled opening (going t23 9) (one barrier_deed)
does_21 = does (going t23 9) barrier_deed (on23, tt) tt tt

does_22 : IsEnabled opening (going t24 9) (one entry_3_deed)
does_22 = does (going t24 9) entry_3_deed (on24, tt) refl tt

does_23 : IsEnabled opening (going t25 9) (one barrier_deed)
does_23 = does (going t25 9) barrier_deed (on25, tt) tt tt

does_24 : IsEnabled opening (going t26 9) (one sealed_deed)
does_24 = does (going t26 9) sealed_deed (on26, tt) tt tt

does_25 : IsEnabled opening (going t27 9) (one durable_deed)
does_25 = does (going t27 9) durable_deed (on27, tt) tt refl

does_26 : IsEnabled opening (going t28 9) (one release_deed)
does_26 = does (going t28 9) release_deed (on28, tt) tt tt

does_end : IsEnabled opening (going t29 9) (one end_deed)
does_end = does (going t29 9) end_deed tt (refl, refl) refl

abbrev pub last : State
last = after opening (going t29 9) (one end_deed)

pub leads : Leads (idle s0 7) events last
leads = go (idle s0 7) (one begin_deed) (going s0 7) does_begin refl
    (go (going s0 7) (one raise_deed) (going s1 7) does_0 refl
    (go (going s1 7) (one take_4_deed) (going s2 7) does_1 refl
    (go (going s2 7) (one chain_deed) (going s3 7) does_2 refl
    (go (going s3 7) (one take_5_deed) (going s4 7) does_3 refl
    (go (going s4 7) (one take_6_deed) (going s5 7) does_4 refl
    (go (going s5 7) (one leaf_deed) (going s6 8) does_5 refl
    (go (going s6 8) (one root_deed) (going s7 9) does_6 refl
    (go (going s7 9) (one barrier_deed) (going s8 9) does_7 refl
    (go (going s8 9) (one seal_root_deed) (going t10 9) does_8 refl
    (go (going t10 9) (one barrier_deed) (going t11 9) does_9 refl
    (go (going t11 9) (one entry_2_deed) (going t12 9) does_10 refl
    (go (going t12 9) (one barrier_deed) (going t13 9) does_11 refl
    (go (going t13 9) (one sealed_deed) (going t14 9) does_12 refl
    (go (going t14 9) (one install_deed) (going t15 9) does_13 refl
    (go (going t15 9) (one ready_deed) (going t17 9) does_14 refl
    (go (going t17 9) (one take_7_deed) (going t18 9) does_15 refl
    (go (going t18 9) (one pin_deed) (going t19 9) does_16 refl
    (go (going t19 9) (one data_deed) (going t20 9) does_17 refl
    (go (going t20 9) (one claim_deed) (going t21 9) does_18 refl
    (go (going t21 9) (one keys_deed) (going t22 9) does_19 refl
    (go (going t22 9) (one seal_deed) (going t23 9) does_20 refl
    (go (going t23 9) (one barrier_deed) (going t24 9) does_21 refl
    (go (going t24 9) (one entry_3_deed) (going t25 9) does_22 refl
    (go (going t25 9) (one barrier_deed) (going t26 9) does_23 refl
    (go (going t26 9) (one sealed_deed) (going t27 9) does_24 refl
    (go (going t27 9) (one durable_deed) (going t28 9) does_25 refl
    (go (going t28 9) (one release_deed) (going t29 9) does_26 refl
    (go (going t29 9) (one end_deed) last does_end refl stay))))))))))))))))))))))))))))

-- ---- what the run shows

-- what holds of the state that the run leads to
at_end : (P : State → Type 0) → P last → P (run opening (idle s0 7) events)
at_end P h = subst P (sym leads.is) h

other : (a b : ℕ) → (a == b) ≡ false → a ≢ b
other a b = by_test a b (λ t. t ≡ false → a ≢ b) (λ _ e. absurd (cc)) (λ ne _. ne)

has_written : HasWritten opening last events
has_written = record {
  seat = 1;
  of = line 5;
  sector = 0;
  values = nine ∷ [];
  some = λ e. cc;
  said = inr (inr (inr (inr (inr (inr (inr (inr (inr (inr (inr (inr (inr (inr (inr (inr (inr (inr (inr (inr (inr (inr (inr (inr (inr (inr (inl refl))))))))))))))))))))))))));
  history = refl;
  bare = refl;
  pointer = data_pointer;
  durable = refl;
  dirty = refl;
  live = (0, (data_pointer, ((refl, refl), refl, refl)));
}

has_chain : HasChain opening.machine last.machine.whole
has_chain = record { ready = refl; durable = refl; bucket = 7; raised = other 301 300 refl }

has_root : HasRoot opening last
has_root = record { root = other 6 8 refl; over = refl }

not_both : (false ≡ true) ⊎ (false ≡ true) → ⊥
not_both m = elim m [ inl e ↦ absurd (cc) | inr e ↦ absurd (cc) ]

clear : IsClear t29.store.places (3 ∷ []) entry_3
clear = record {
  read = refl;
  sector_0 = refl;
  sector_1 = refl;
  sector_2 = refl;
  sector_3 = refl;
  blank_1 = λ p ge lt. in_four (λ p. t29.store.places.device.leaves p ≡ []
      ∷ []) 4 p refl refl refl refl ge lt;
  second = inr (inl (refl, refl, refl));
  third = inl (refl, refl, refl);
  new = put_no _ 7 (put_yes _ 6 (inr refl) (put_yes _ 5 (inl refl)
      (put_no _ 6 (put_no _ 5 (put_no _ 4 (put_no _ 4 (λ q e. absurd (cc))))))));
  still_5 = not_both;
  still_6 = not_both;
}

pub has_example : HasExample
has_example = (
  opening,
  held,
  7,
  (
    events,
    record {
      cached = refl;
      sound = sound;
      course = leads.course;
      written = at_end (λ st. HasWritten opening st events) has_written;
      chain = at_end (λ st. HasChain opening.machine st.machine.whole) has_chain;
      root = at_end (HasRoot opening) has_root;
      chance = at_end (IsTornApart opening) (no_chance t29.store.places (3 ∷ []) entry_3 clear);
      closed = at_end (λ st. IsClosed st.machine.whole.flow)
          (record { running = refl; journal = refl; backing = λ s v h. h });
      workers = λ a b of_a of_b same. omega arith;
    },
  ),
)

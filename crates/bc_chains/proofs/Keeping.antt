-- What was written to buckets for a chain stays, while nobody changes the buckets or calls the
-- cache device: by the table of events.
use Rattle.std.proofs.Common.{◌≡◌, ℕ, Bool, true, false, List, [], ◌∷◌, ◌++◌, Option, Some, None, refl}
use Rattle.bc_disk.specs.declared.disk.Device.TheVariants.{Cache}
use Rattle.bc_events.specs.Acts.{begun, claimed, root_beginning, root_of}
use Rattle.bc_events.specs.Columns.{call_by}
use Rattle.bc_events.specs.Run as core
use Rattle.bc_events.specs.declared.event.Deed.{Deed}
use Rattle.bc_events.specs.declared.event.Deed.TheVariants as deed
use Rattle.bc_events.specs.declared.event.Failure.{Failure}
use Rattle.bc_events.specs.declared.event.Failure.TheVariants as failure
use Rattle.bc_events.specs.declared.event.NewRoot.{NewRoot}
use Rattle.bc_known.specs.Acts as known
use Rattle.bc_known.specs.Run as machine
use Rattle.bc_machine.specs.World.{is_call_of}
use Rattle.bc_shares.specs.Touched.{touches_buckets}
use Rattle.bc_whole.specs.State as whole
use Rattle.bc_whole.specs.State.{SameChain}
use Rattle.bc_chains.specs.Laws.{LawMade}

-- behind these acts of a seat, what was written is what was there
abbrev Keeps : whole.Opening → known.State → ℕ → ℕ → List known.Act → Type 0
Keeps w st i q acts =
    (machine.run w st (core.by i acts)).whole.store.made q ≡ st.whole.store.made q

claim_keeps : (w : whole.Opening) (st : known.State) (i q : ℕ) (plain : Bool)
    (leaf first count : ℕ) (exclusive : Bool)
    → Keeps w st i q (claimed plain leaf first count exclusive)
claim_keeps w st i q false leaf first count exclusive = refl
claim_keeps w st i q true leaf first count exclusive = refl

seal_keeps : (w : whole.Opening) (st : known.State) (i q last_seq : ℕ) (bucket : Option ℕ)
    (rest : List ℕ) (root : Option NewRoot)
    → Keeps w st i q (begun bucket ++ (root_beginning st root
    ++ (known.Seal last_seq rest (root_of root) SameChain ∷ [])))
seal_keeps w st i q last_seq None rest None = refl
seal_keeps w st i q last_seq None rest (Some r) = refl
seal_keeps w st i q last_seq (Some b) rest None = refl
seal_keeps w st i q last_seq (Some b) rest (Some r) = refl

fault_keeps : (w : core.Opening) (st : core.State) (i : ℕ) (f : Failure)
    → is_call_of Cache (call_by (deed.DeviceFault f)) ≡ false → (q : ℕ)
    → (core.after w st (record { seat = i; deed = deed.DeviceFault f })).machine.whole.store.made q
    ≡ st.machine.whole.store.made q
fault_keeps w st i (failure.Read device) off q = refl
fault_keeps w st i (failure.Barrier device) off q = refl
fault_keeps w st i (failure.CacheWrite at what values) off q = absurd (cc)
fault_keeps w st i (failure.BackingWrite first of values) off q = refl

deed_keeps : (w : core.Opening) (st : core.State) (i : ℕ) (d : Deed) → touches_buckets d ≡ false
    → is_call_of Cache (call_by d) ≡ false → (q : ℕ)
    → (core.after w st (record { seat = i; deed = d })).machine.whole.store.made q
    ≡ st.machine.whole.store.made q
deed_keeps w st i (deed.Claim first count how) buckets cache q =
    claim_keeps w.machine st.machine i q w.machine.flow.plain
    (st.machine.whole.flow.books.index.leaf first) first count _
deed_keeps w st i (deed.Pin at count full) buckets cache q = absurd (cc)
deed_keeps w st i (deed.Unpin kind) buckets cache q = absurd (cc)
deed_keeps w st i (deed.Take purpose bucket) buckets cache q = absurd (cc)
deed_keeps w st i (deed.Raise bucket) buckets cache q = absurd (cc)
deed_keeps w st i (deed.Ready back named) buckets cache q = absurd (cc)
deed_keeps w st i (deed.CacheRead at first values) buckets cache q = absurd (cc)
deed_keeps w st i (deed.CacheWrite at what values) buckets cache q = absurd (cc)
deed_keeps w st i deed.CacheBarrier buckets cache q = absurd (cc)
deed_keeps w st i (deed.InsertWrite leaf keys of first values) buckets cache q = absurd (cc)
deed_keeps w st i (deed.Insert leaf keys form) buckets cache q = absurd (cc)
deed_keeps w st i (deed.Settle leaf candidate keys) buckets cache q = absurd (cc)
deed_keeps w st i (deed.Seal last_seq bucket rest new_root None) buckets cache q =
    seal_keeps w.machine st.machine i q last_seq bucket rest.items new_root
deed_keeps w st i (deed.Seal last_seq bucket rest new_root (Some c)) buckets cache q = absurd (cc)
deed_keeps w st i (deed.Install change come gone) buckets cache q = absurd (cc)
deed_keeps w st i (deed.Mark form) buckets cache q = absurd (cc)
deed_keeps w st i (deed.DeviceFault f) buckets cache q = fault_keeps w st i f cache q
deed_keeps w st i d buckets cache q = refl

pub law_made : LawMade
law_made w st e buckets cache q = deed_keeps w st e.seat e.deed buckets cache q

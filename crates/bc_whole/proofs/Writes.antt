-- Writes and barriers of the cache device are the same call to all machines.
use Rattle.std.proofs.Common.{◌≡◌, ℕ, false, List, refl, ap, ◌∙◌, subst}
use Rattle.bc_model.specs.Sector.{Value}
use Rattle.bc_disk.specs.Device.{written, failed, settled}
use Rattle.bc_data.specs.Data as flow
use Rattle.bc_data.specs.After as flow_step
use Rattle.bc_meta.specs.Records.{Records, Stage, Nothing, Fixed, Ready, Sent, Safe, after_barrier}
use Rattle.bc_meta.specs.Events as event
use Rattle.bc_meta.specs.Acts as meta
use Rattle.bc_leaves.specs.Laws.{IsJoint}
use Rattle.bc_whole.specs.State.{Opening, State, Write, OfData, OfEntry, OfSet, OfParent, OfLeaf, OfInner, OfPriorities, Outside, WriteCache}
use Rattle.bc_whole.specs.Together.{payload_of, place_of, meta_write, meta_fault, steps_of}
use Rattle.bc_whole.specs.Linked.{stored, stage_of, if_sealed, AreLinked}
use Rattle.bc_whole.proofs.Keys.{same_sealed, barrier_sealed}

module _ (w : Opening) (st : State) (seat : ℕ) (link : AreLinked (stored w.before st.store) st.flow)
    (same : st.parts.records ≡ st.store.places.records) where
  known : (q : ℕ) → st.parts.records.unused q ≡ false → st.store.places.records.unused q ≡ false
  known q e = subst (λ (r : Records). r.unused q ≡ false) same e

  sent_keys : (g : Stage) → g ≡ Ready
      → if_sealed Sent st.store.places.records.entry.keys
      ≡ if_sealed g st.store.places.records.entry.keys
  sent_keys Ready e = refl
  sent_keys Nothing e = absurd (cc)
  sent_keys Fixed e = absurd (cc)
  sent_keys Sent e = absurd (cc)
  sent_keys Safe e = absurd (cc)

  pub write_link : (x : Write) (values : List Value)
      → IsJoint w.layout st.store st.parts
      (steps_of w.layout st seat (WriteCache x values))
      → AreLinked (stored w.before (meta.after w.layout st.store (meta_write st seat x values)))
      (flow_step.after w.flow st.flow seat
      (flow.CacheWrite (payload_of x) (place_of w.layout st x) values))
  write_link (OfData q place) values on = record {
    device = ap (written place values) link.device;
    stage = link.stage;
    index = link.index;
    chain = link.chain;
    nodes = link.nodes;
  }
  write_link OfEntry values on = record {
    device = ap (written (place_of w.layout st OfEntry) values) link.device;
    stage = refl;
    index = same_sealed st.store.places.records.stage Sent st.store.places.records.waiting
        st.store.places.records.entry.keys st.store.places.records.index st.flow.books.index
        st.flow.books.journal (sent_keys st.store.places.records.stage
        (subst (λ (r : Records). r.stage ≡ Ready) same on.1.0)) link.index;
    chain = link.chain;
    nodes = link.nodes;
  }
  write_link (OfSet i set) values on = record {
    device = ap (written (place_of w.layout st (OfSet i set)) values) link.device;
    stage = link.stage;
    index = link.index;
    chain = link.chain;
    nodes = λ q e. link.nodes q (known q e);
  }
  write_link (OfParent i set) values on = record {
    device = ap (written (place_of w.layout st (OfParent i set)) values) link.device;
    stage = link.stage;
    index = link.index;
    chain = link.chain;
    nodes = λ q e. link.nodes q (known q e);
  }
  write_link (OfLeaf i leaf set) values on = record {
    device = ap (written (place_of w.layout st (OfLeaf i leaf set)) values) link.device;
    stage = link.stage;
    index = link.index;
    chain = link.chain;
    nodes = link.nodes;
  }
  write_link (OfInner i inner set) values on = record {
    device = ap (written (place_of w.layout st (OfInner i inner set)) values) link.device;
    stage = link.stage;
    index = link.index;
    chain = link.chain;
    nodes = link.nodes;
  }
  write_link (OfPriorities q part set) values on = record {
    device = ap (written (place_of w.layout st (OfPriorities q part set)) values) link.device;
    stage = link.stage;
    index = link.index;
    chain = link.chain;
    nodes = link.nodes;
  }
  write_link (Outside place) values on = record {
    device = ap (written place values) link.device;
    stage = link.stage;
    index = link.index;
    chain = link.chain;
    nodes = link.nodes;
  }

  pub fault_link : (x : Write) (values : List Value)
      → AreLinked (stored w.before (meta.after w.layout st.store (meta_fault w.layout st seat x values)))
      (flow_step.after w.flow st.flow seat
      (flow.Fail (flow.CacheFault (payload_of x) (place_of w.layout st x) values)))
  fault_link (OfData q place) values = record {
    device = ap (failed place values) link.device;
    stage = link.stage;
    index = link.index;
    chain = link.chain;
    nodes = link.nodes;
  }
  fault_link OfEntry values = record {
    device = ap (failed (place_of w.layout st OfEntry) values) link.device;
    stage = link.stage;
    index = link.index;
    chain = link.chain;
    nodes = link.nodes;
  }
  fault_link (OfSet i set) values = record {
    device = ap (failed (place_of w.layout st (OfSet i set)) values) link.device;
    stage = link.stage;
    index = link.index;
    chain = link.chain;
    nodes = link.nodes;
  }
  fault_link (OfParent i set) values = record {
    device = ap (failed (place_of w.layout st (OfParent i set)) values) link.device;
    stage = link.stage;
    index = link.index;
    chain = link.chain;
    nodes = link.nodes;
  }
  fault_link (OfLeaf i leaf set) values = record {
    device = ap (failed (place_of w.layout st (OfLeaf i leaf set)) values) link.device;
    stage = link.stage;
    index = link.index;
    chain = link.chain;
    nodes = link.nodes;
  }
  fault_link (OfInner i inner set) values = record {
    device = ap (failed (place_of w.layout st (OfInner i inner set)) values) link.device;
    stage = link.stage;
    index = link.index;
    chain = link.chain;
    nodes = link.nodes;
  }
  fault_link (OfPriorities q part set) values = record {
    device = ap (failed (place_of w.layout st (OfPriorities q part set)) values) link.device;
    stage = link.stage;
    index = link.index;
    chain = link.chain;
    nodes = link.nodes;
  }
  fault_link (Outside place) values = record {
    device = ap (failed place values) link.device;
    stage = link.stage;
    index = link.index;
    chain = link.chain;
    nodes = link.nodes;
  }

  stage_barrier : (g : flow.Stage) → stage_of (flow_step.at_barrier g)
      ≡ after_barrier (stage_of g)
  stage_barrier flow.Nothing = refl
  stage_barrier flow.Fixed = refl
  stage_barrier flow.Ready = refl
  stage_barrier flow.Sent = refl
  stage_barrier flow.Safe = refl

  pub barrier_link : AreLinked
      (stored w.before (meta.after w.layout st.store (meta.Plain event.Barrier)))
      (flow_step.after w.flow st.flow seat flow.CacheBarrier)
  barrier_link = record {
    device = ap settled link.device;
    stage = stage_barrier st.flow.stage ∙ ap after_barrier link.stage;
    index = same_sealed st.store.places.records.stage
        (after_barrier st.store.places.records.stage) st.store.places.records.waiting
        st.store.places.records.entry.keys st.store.places.records.index st.flow.books.index
        st.flow.books.journal
        (barrier_sealed st.store.places.records.stage st.store.places.records.entry.keys)
        link.index;
    chain = link.chain;
    nodes = link.nodes;
  }

-- What holds at every state of every run: each machine's invariant, and that they are linked.
use Rattle.std.proofs.Common.{◌≡◌, inl, ℕ, List, [], ◌∷◌, ◌++◌, refl, sym, ap, ◌∙◌, subst}
use Rattle.bc_disk.specs.Device.{quiet}
use Rattle.bc_data.specs.Data as flow
use Rattle.bc_data.specs.After.{IsCourse, course}
use Rattle.bc_data.specs.After as flow_step
use Rattle.bc_data.specs.Invariant.{IsTruthful}
use Rattle.bc_data.proofs.Opening.{inv_opened}
use Rattle.bc_data.proofs.Now.{keep_course}
use Rattle.bc_meta.specs.Records.{Records, Nothing}
use Rattle.bc_meta.specs.Events as event
use Rattle.bc_meta.specs.Acts as meta
use Rattle.bc_meta.proofs.Keep as keep_records
use Rattle.bc_meta.proofs.Acts as keep_acts
use Rattle.bc_leaves.specs.Parts as parts
use Rattle.bc_leaves.specs.Events as parts_event
use Rattle.bc_leaves.specs.Enabled as parts_act
use Rattle.bc_leaves.specs.Fits.{Fits}
use Rattle.bc_leaves.specs.Laws.{acts_of, parts_of}
use Rattle.bc_leaves.proofs.Law.{JoinsFrom, joins, sound_inv, keep}
use Rattle.bc_whole.specs.State.{Opening, State, Root, SameRoot, NewRoot, Act, Alone, Keyed, WriteCache, FailCache, CacheBarrier, Seal, MakeDurable, BeginBucket, Take, LetGo, ReadyChain, KeepSpare, BeginChange, Install, ForgetDrafts, Event}
use Rattle.bc_whole.specs.Together.{steps_of, entry_of, prio_of, data_of, parts_seal}
use Rattle.bc_whole.specs.Run.{by, IsEnabled, after, IsRun, run, start}
use Rattle.bc_whole.specs.Linked.{stored, AreLinked}
use Rattle.bc_whole.specs.Laws.{IsSound}
use Rattle.bc_whole.proofs.Quiet.{quiet_act, link_still}
use Rattle.bc_whole.proofs.Writes.{write_link, fault_link, barrier_link}
use Rattle.bc_whole.proofs.Journal.{keyed_link, seal_link, durable_link, sealed_keys}
use Rattle.bc_whole.proofs.Buckets.{take_link, let_go_link, ready_link, change_link, fewer_link, install_link, released_link}

-- the data's state is that of a run of its own
pub record HasFlow (w : Opening) (f : flow.State) : Type 0 where
  pub list : List flow.Event
  pub run : IsCourse w.flow (flow.start w.flow) list
  pub is : f ≡ course w.flow (flow.start w.flow) list

course_join : (w : flow.Opening) (f : flow.State) (xs ys : List flow.Event)
    → course w f (xs ++ ys) ≡ course w (course w f xs) ys
course_join w f [] ys = refl
course_join w f (x ∷ xs) ys = course_join w (flow_step.after w f x.seat x.act) xs ys

is_course_join : (w : flow.Opening) (f : flow.State) (xs ys : List flow.Event) → IsCourse w f xs
    → IsCourse w (course w f xs) ys → IsCourse w f (xs ++ ys)
is_course_join w f [] ys a b = b
is_course_join w f (x ∷ xs) ys a b =
    (a.0, is_course_join w (flow_step.after w f x.seat x.act) xs ys a.1 b)

flow_on : (w : Opening) (f : flow.State) (es : List flow.Event) → IsCourse w.flow f es
    → HasFlow w f → HasFlow w (course w.flow f es)
flow_on w f es on has = record {
  list = has.list ++ es;
  run = is_course_join w.flow (flow.start w.flow) has.list es has.run
      (subst (λ x. IsCourse w.flow x es) has.is on);
  is = ap (λ x. course w.flow x es) has.is
      ∙ sym (course_join w.flow (flow.start w.flow) has.list es);
}

pub truthful : (w : Opening) (x : parts.State) (f : flow.State) → IsSound w x → HasFlow w f
    → IsTruthful w.flow f
truthful w x f sound has = subst (λ y. IsTruthful w.flow y) (sym has.is)
    (keep_course w.flow (flow.start w.flow) has.list has.run (inv_opened w.flow sound.pair))

pub record Inv (w : Opening) (st : State) : Type 0 where
  pub flow : HasFlow w st.flow
  pub store : keep_acts.Inv w.layout w.store st.store
  pub records : keep_records.Inv st.parts.records
  pub fits : Fits st.parts
  pub same : st.parts.records ≡ st.store.places.records
  pub link : AreLinked (stored w.before st.store) st.flow

-- nothing is sealed before
idle : (st : parts.State) (last_seq prio : ℕ) (rest : List ℕ) (root : Root)
    → parts_act.IsEnabled st (parts_seal last_seq prio rest root) → st.records.stage ≡ Nothing
idle st last_seq prio rest SameRoot on = on.0
idle st last_seq prio rest (NewRoot r) on = on.0.0

module _ (w : Opening) (st : State) (seat : ℕ) (order : IsTruthful w.flow st.flow)
    (inv : Inv w st) where
  keep_link : (act : Act) → IsEnabled w st seat act
      → AreLinked (stored w.before (after w st seat act).store) (after w st seat act).flow
  keep_link (Alone act) on = link_still (stored w.before st.store) st.flow
      (flow_step.after w.flow st.flow seat act)
      (quiet_act w.flow st.flow seat act on.together on.flow.0) inv.link
  keep_link (Keyed act slot keys) on =
      keyed_link w st inv.link order.books.counted seat act slot keys on.together
  keep_link (WriteCache x values) on = write_link w st seat inv.link inv.same x values on.store
  keep_link (FailCache x values) on = fault_link w st seat inv.link inv.same x values
  keep_link CacheBarrier on = barrier_link w st seat inv.link inv.same
  keep_link (Seal last_seq rest root chain) on = seal_link w st seat inv.link inv.same
      (entry_of st last_seq rest root chain) chain (sealed_keys st last_seq rest root chain)
      (idle st.parts last_seq (prio_of st.parts.records chain) rest root on.store.1.0)
      inv.store.order.1
  keep_link MakeDurable on = durable_link w st seat inv.link inv.same on.store.1.0
  keep_link (BeginBucket b) on = inv.link
  keep_link (Take p b) on = take_link w st seat inv.link inv.same p b on.flow.0.steps.0
  keep_link (LetGo b room) on = let_go_link w st seat inv.link inv.same b room on.together
  keep_link (ReadyChain room spare) on =
      ready_link w st seat inv.link inv.same room spare order.books
  keep_link (KeepSpare spare) on = inv.link
  keep_link (BeginChange low high gone come old new unused) on =
      change_link w st seat inv.link inv.same unused on.together
  keep_link (Install unused steps) on =
      released_link w (meta.after w.layout st.store (meta.Plain (event.GiveUp unused))) steps
      (course w.flow st.flow (by seat (data_of w st seat (Install unused steps))))
      (install_link w.flow (stored w.before (meta.after w.layout st.store
      (meta.Plain (event.GiveUp unused)))) st.flow seat steps on.together.1
      (fewer_link w st seat inv.link inv.same unused on.together.0))
  keep_link ForgetDrafts on = inv.link

  -- the metadata and the parts go on together
  joined : (act : Act) → IsEnabled w st seat act
      → JoinsFrom w.layout st.store st.parts (steps_of w.layout st seat act)
  joined act on = joins w.layout st.store st.parts
      (steps_of w.layout st seat act) inv.same inv.records inv.fits on.store

  -- where the parts do what the metadata does
  with_parts : (act : Act) → (on : IsEnabled w st seat act)
      → (after w st seat act).parts ≡ parts_of st.parts (steps_of w.layout st seat act)
      → Inv w (after w st seat act)
  with_parts act on is =
      let k = joined act on in record {
        flow = flow_on w st.flow (by seat (data_of w st seat act)) on.flow inv.flow;
        store = keep_acts.keep_acts w.layout w.store st.store
            (acts_of (steps_of w.layout st seat act)) k.run inv.store;
        records = subst (λ (p : parts.State). keep_records.Inv p.records) (sym is) k.inv;
        fits = subst (λ (p : parts.State). Fits p) (sym is) k.fits;
        same = ap (λ (p : parts.State). p.records) is ∙ k.ends;
        link = keep_link act on;
      }

  pub keep_act : (act : Act) → IsEnabled w st seat act → Inv w (after w st seat act)
  keep_act ForgetDrafts on = record {
    flow = inv.flow;
    store = inv.store;
    records = inv.records;
    fits = keep st.parts parts_event.ForgetDrafts tt inv.records inv.fits;
    same = inv.same;
    link = inv.link;
  }
  keep_act (Alone act) on = with_parts (Alone act) on refl
  keep_act (Keyed act slot keys) on = with_parts (Keyed act slot keys) on refl
  keep_act (WriteCache x values) on = with_parts (WriteCache x values) on refl
  keep_act (FailCache x values) on = with_parts (FailCache x values) on refl
  keep_act CacheBarrier on = with_parts CacheBarrier on refl
  keep_act (Seal last_seq rest root chain) on = with_parts (Seal last_seq rest root chain) on refl
  keep_act MakeDurable on = with_parts MakeDurable on refl
  keep_act (BeginBucket b) on = with_parts (BeginBucket b) on refl
  keep_act (Take p b) on = with_parts (Take p b) on refl
  keep_act (LetGo b room) on = with_parts (LetGo b room) on refl
  keep_act (ReadyChain room spare) on = with_parts (ReadyChain room spare) on refl
  keep_act (KeepSpare spare) on = with_parts (KeepSpare spare) on refl
  keep_act (BeginChange low high gone come old new unused) on =
      with_parts (BeginChange low high gone come old new unused) on refl
  keep_act (Install unused steps) on = with_parts (Install unused steps) on refl

keep_run : (w : Opening) (x : parts.State) (st : State) (es : List Event) → IsSound w x
    → IsRun w st es → Inv w st → Inv w (run w st es)
keep_run w x st [] sound on inv = inv
keep_run w x st (e ∷ es) sound on inv = keep_run w x (after w st e.seat e.act) es sound on.1
    (keep_act w st e.seat (truthful w x st.flow sound inv.flow) inv e.act on.0)

opened : (w : Opening) (x : parts.State) → IsSound w x → Inv w (start w x)
opened w x sound = record {
  flow = record { list = []; run = tt; is = refl };
  store = keep_acts.inv_opened w.layout w.store sound.store;
  records = subst (λ (r : Records). keep_records.Inv r) (sym sound.records)
      (sound_inv w.layout w.store sound.store);
  fits = sound.fits;
  same = sound.records;
  link = record {
    device = ap quiet (sym sound.image);
    stage = refl;
    index = record {
      durable_keys = sound.index;
      sealed_keys = sound.index;
      all_keys = sound.index;
    };
    chain = record {
      buckets = sound.chain;
      ready_is = refl;
      durable_is = refl;
      sealed_is = refl;
      durable_gens = sound.gens;
      sealed_gens = sound.gens;
    };
    nodes = λ q e. inl (sound.nodes q e);
  };
}

pub reached : (w : Opening) (x : parts.State) (es : List Event) → IsSound w x
    → IsRun w (start w x) es → Inv w (run w (start w x) es)
reached w x es sound on = keep_run w x (start w x) es sound on (opened w x sound)

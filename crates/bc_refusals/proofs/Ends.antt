-- No event moves the end of the tree.
use Rattle.std.proofs.Common.{◌≡◌, ℕ, List, [], ◌∷◌, refl, ◌∙◌}
use Rattle.bc_events.specs.Run as core
use Rattle.bc_events.specs.declared.event.Event.{Event}
use Rattle.bc_known.specs.Acts as known
use Rattle.bc_known.specs.Acts.{Act, Alone, BeginBucket, BeginChange, CacheBarrier, FailCache, ForgetDrafts, Install, Keyed, LetGo, MakeDurable, ReadyChain, Seal, Take, WriteCache}
use Rattle.bc_known.specs.Run as machine
use Rattle.bc_leaves.specs.After as parts_step
use Rattle.bc_leaves.specs.Events as parts_event
use Rattle.bc_leaves.specs.Laws.{Step, parts_of}
use Rattle.bc_leaves.specs.Parts as parts
use Rattle.bc_request.specs.bc_machine.World.{Origin, replay}
use Rattle.bc_whole.specs.Run as whole_run
use Rattle.bc_whole.specs.State as whole
use Rattle.bc_whole.specs.Together.{steps_of}

fold_end : (st : parts.State) (es : List parts_event.Event) → (parts_step.fold st es).end ≡ st.end
fold_end st [] = refl
fold_end st (e ∷ es) = fold_end (parts_step.after st e) es

steps_end : (st : parts.State) (xs : List Step) → (parts_of st xs).end ≡ st.end
steps_end st [] = refl
steps_end st (x ∷ xs) = steps_end (parts_step.fold st x.events) xs ∙ fold_end st x.events

whole_end : (w : whole.Opening) (st : whole.State) (i : ℕ) (act : whole.Act)
    → (whole_run.after w st i act).parts.end ≡ st.parts.end
whole_end w st i whole.ForgetDrafts = refl
whole_end w st i act = steps_end st.parts (steps_of w.layout st i act)

settled_end : (w : whole.Opening) (st : whole.State) (i : ℕ)
    → (known.settled w st i).parts.end ≡ st.parts.end
settled_end w st i = whole_end w st i (whole.KeepSpare (known.kept w st))

act_end : (w : whole.Opening) (st : known.State) (i : ℕ) (act : Act)
    → (known.after w st i act).whole.parts.end ≡ st.whole.parts.end
act_end w st i (Alone act) = whole_end w st.whole i (whole.Alone act)
act_end w st i (Keyed act slot keys) = whole_end w st.whole i (whole.Keyed act slot keys)
act_end w st i (WriteCache x values) = whole_end w st.whole i (whole.WriteCache x values)
act_end w st i (FailCache x values) = whole_end w st.whole i (whole.FailCache x values)
act_end w st i CacheBarrier = whole_end w st.whole i whole.CacheBarrier
act_end w st i (Seal last_seq rest root chain) =
    whole_end w st.whole i (whole.Seal last_seq rest root chain)
act_end w st i MakeDurable = whole_end w st.whole i whole.MakeDurable
act_end w st i (BeginBucket b) = whole_end w st.whole i (whole.BeginBucket b)
act_end w st i (Take p b) = whole_end w st.whole i (whole.Take p b)
act_end w st i (LetGo b room) =
    settled_end w (whole_run.after w st.whole i (whole.LetGo b room)) i
    ∙ whole_end w st.whole i (whole.LetGo b room)
act_end w st i (ReadyChain room) = settled_end w (whole_run.after w st.whole i
    (whole.ReadyChain room (st.whole.store.buckets st.whole.store.ready_chain))) i
    ∙ whole_end w st.whole i
    (whole.ReadyChain room (st.whole.store.buckets st.whole.store.ready_chain))
act_end w st i (BeginChange low high gone come old new unused) =
    whole_end w st.whole i (whole.BeginChange low high gone come old new unused)
act_end w st i (Install unused steps) = whole_end w st.whole i (whole.Install unused steps)
act_end w st i ForgetDrafts = whole_end w st.whole i whole.ForgetDrafts

run_end : (w : whole.Opening) (st : known.State) (i : ℕ) (acts : List Act)
    → (machine.run w st (core.by i acts)).whole.parts.end ≡ st.whole.parts.end
run_end w st i [] = refl
run_end w st i (act ∷ acts) = run_end w (known.after w st i act) i acts ∙ act_end w st i act

pub replay_end : (o : Origin) (es : List Event)
    → (replay o es).machine.whole.parts.end ≡ o.parts.end
replay_end o [] = refl
replay_end o (e ∷ es) = run_end o.opening.machine (replay o es).machine e.seat
    (core.acts o.opening (replay o es) e) ∙ replay_end o es

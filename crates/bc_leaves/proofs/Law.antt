-- What a program can test is all that the records ask, so every run of the parts is a run of these.
use Rattle.std.proofs.Common.{◌≡◌, suc, List, [], ◌∷◌, ◌++◌, Option, Some, None, refl, sym, ap, ◌∙◌, subst}
use Rattle.bc_meta.specs.Events as event
use Rattle.bc_meta.specs.Acts as acts
use Rattle.bc_meta.specs.Places.{CanHappen, Places, PlacesAllow}
use Rattle.bc_meta.specs.Acts.{IfEvent, event_of, places_with}
use Rattle.bc_meta.specs.Laws.{IsSound, Opening, opened}
use Rattle.bc_meta.specs.Layout.{Layout, node_sets, ring_entries}
use Rattle.bc_meta.specs.Records.{ReadsRight, Records, owners, records_after}
use Rattle.bc_meta.proofs.Keep as keep_records
use Rattle.bc_meta.proofs.Keep.{Inv}
use Rattle.bc_meta.proofs.Left.{inv_opened}
use Rattle.bc_leaves.specs.Events.{Barrier, BeginBucket, BeginChange, Elsewhere, Event, FailElsewhere, FailEntry, FailFill, FailParent, FailSet, Fill, ForgetDrafts, Insert, Install, MakeDurable, NewInner, NewLeaf, Reuse, Seal, SealRoot, SetParent, WriteEntry, WriteSet, events_of}
use Rattle.bc_leaves.specs.Fits.{Fits}
use Rattle.bc_leaves.specs.Enabled.{IsEnabled, IsRun}
use Rattle.bc_leaves.specs.Laws.{IsJoint, IsRecordsRun, LawJoint, LawTree, Step, acts_of, parts_of, to_list}
use Rattle.bc_leaves.specs.Parts.{State}
use Rattle.bc_leaves.specs.After.{after, all_events, fold, records_fold}
use Rattle.bc_leaves.proofs.Covered.{Covered, covered}
use Rattle.bc_leaves.proofs.Contents.{at, free_live, reads_durable, reads_seal, reads_sealed, stays_live}
use Rattle.bc_leaves.proofs.Nodes.{keep_barrier, keep_fail_parent, keep_fail_set, keep_inner, keep_leaf, keep_parent, keep_reuse, keep_set, no_set_failed, no_set_sent, was_still}
use Rattle.bc_leaves.proofs.Keep.{keep_begin, keep_durable, keep_fail_entry, keep_insert, keep_seal, keep_write}
use Rattle.bc_leaves.proofs.Roles.{keep_change, keep_forget, keep_install, keep_root}

pub keep : (st : State) (e : Event) → IsEnabled st e → Inv st.records → Fits st → Fits (after st e)
keep st (Insert i key) on inv fits = keep_insert st fits i key on inv
keep st (BeginBucket b) on inv fits = keep_begin st fits b
keep st (Seal needed prio rest) on inv fits = keep_seal st fits needed prio rest on
keep st (WriteEntry values) on inv fits = keep_write st fits values on
keep st (FailEntry values) on inv fits = keep_fail_entry st fits values
keep st (Reuse q) on inv fits = keep_reuse st fits q on
keep st (Fill q at values) on inv fits = keep_reuse st fits q on
keep st (FailFill q at values set) on inv fits = keep_reuse st fits q on
keep st (Elsewhere at values) on inv fits = fits
keep st (FailElsewhere at values) on inv fits = fits
keep st (FailSet i set values) on inv fits = keep_fail_set st fits i set values on
keep st (FailParent q set values) on inv fits = keep_fail_parent st fits q set values on
keep st Barrier on inv fits = keep_barrier st fits
keep st MakeDurable on inv fits = keep_durable st fits on inv
keep st (WriteSet i set values) on inv fits = keep_set st fits i set values on
keep st (NewLeaf j leaf set values) on inv fits = keep_leaf st fits j leaf set values on
keep st (NewInner j inner set values) on inv fits = keep_inner st fits j inner set values on
keep st ForgetDrafts on inv fits = keep_forget st fits
keep st (BeginChange low high gone come old new unused) on inv fits = keep_change st fits low high gone come old new unused on
keep st (SetParent q set values) on inv fits = keep_parent st fits q set values on
keep st (SealRoot needed prio rest r) on inv fits = keep_root st fits needed prio rest r on
keep st (Install unused) on inv fits = keep_install st fits unused on

right : (st : State) → Fits st → Covered st.records → ReadsRight st.records
right st fits cov = (reads_durable st fits cov, reads_sealed st fits cov)

allowed : (st : State) (e : Event) → IsEnabled st e → Inv st.records → Fits st → IsRecordsRun st.records (events_of st e)
allowed st (Insert i key) on inv fits = (tt, tt)
allowed st (BeginBucket b) on inv fits = (on, tt)
allowed st (Seal needed prio rest) on inv fits =
    ((on.0, on.1, on.2, λ p u. u, reads_seal st fits (covered st.records inv) needed st.records.newest.root st.records.newest.level st.records.newest.word on.3 fits.roots.newest, refl, refl), tt)
allowed st (WriteEntry values) on inv fits = (on, tt)
allowed st (FailEntry values) on inv fits = (on, tt)
allowed st (Reuse q) on inv fits = (on.0, tt)
allowed st (Fill q at values) on inv fits = (on.0, tt)
allowed st (FailFill q at values set) on inv fits = (on.0, tt)
allowed st (Elsewhere at values) on inv fits = (tt, tt)
allowed st (FailElsewhere at values) on inv fits = (tt, tt)
allowed st (FailSet i set values) on inv fits =
    let c = covered st.records inv in
    ((((fits.leaves.firm i (free_live (st.leaves i).role on.0)).0, was_still st fits i set values on, on.5), right (after st (FailSet i set values)) (keep_fail_set st fits i set values on) (record { count = c.count; durable = c.durable; sealed = c.sealed; live = c.live })), tt)
allowed st (FailParent q set values) on inv fits =
    let c = covered st.records inv in
    let l = stays_live (st.inner_nodes q).role on.1 in
    ((((fits.tree.inner q l).firm, no_set_sent st fits q set values on q l, no_set_failed st fits q set values on q l), right (after st (FailParent q set values)) (keep_fail_parent st fits q set values on) (record { count = c.count; durable = c.durable; sealed = c.sealed; live = c.live })), tt)
allowed st Barrier on inv fits = (tt, tt)
allowed st MakeDurable on inv fits = (on, tt)
allowed st (WriteSet i set values) on inv fits =
    let c = covered st.records inv in
    ((((fits.leaves.firm i (free_live (st.leaves i).role on.0)).0, was_still st fits i set values on, on.5), right (after st (WriteSet i set values)) (keep_set st fits i set values on) (record { count = c.count; durable = c.durable; sealed = c.sealed; live = c.live })), tt)
allowed st (NewLeaf j leaf set values) on inv fits = (on.1.0, tt)
allowed st (NewInner j inner set values) on inv fits = (on.1.0, tt)
allowed st ForgetDrafts on inv fits = tt
allowed st (BeginChange low high gone come old new unused) on inv fits =
    let c = covered st.records inv in
    (right (after st (BeginChange low high gone come old new unused)) (keep_change st fits low high gone come old new unused on) (record { count = c.count; durable = c.durable; sealed = c.sealed; live = c.live }), tt)
allowed st (SetParent q set values) on inv fits =
    let c = covered st.records inv in
    let l = stays_live (st.inner_nodes q).role on.1 in
    ((((fits.tree.inner q l).firm, no_set_sent st fits q set values on q l, no_set_failed st fits q set values on q l), right (after st (SetParent q set values)) (keep_parent st fits q set values on) (record { count = c.count; durable = c.durable; sealed = c.sealed; live = c.live })), tt)
allowed st (SealRoot needed prio rest r) on inv fits =
    ((on.0.0, on.0.1, on.0.2, λ p u. u, reads_seal st fits (covered st.records inv) needed (st.inner_nodes r).bucket (suc (st.inner_nodes r).height) (st.inner_nodes r).word on.0.3 (r, stays_live (st.inner_nodes r).role on.2, refl, refl, on.3, on.4, refl), refl, refl), tt)
allowed st (Install unused) on inv fits =
    let c = covered st.records inv in
    (right (after st (Install unused)) (keep_install st fits unused on) (record { count = c.count; durable = c.durable; sealed = c.sealed; live = c.live }), tt)

run_join : (r : Records) (xs ys : List event.Event) → IsRecordsRun r xs → IsRecordsRun (records_fold r xs) ys → IsRecordsRun r (xs ++ ys)
run_join r [] ys a b = b
run_join r (x ∷ xs) ys a b = (a.0, run_join (records_after r x) xs ys a.1 b)

fold_join : (r : Records) (xs ys : List event.Event) → records_fold r (xs ++ ys) ≡ records_fold (records_fold r xs) ys
fold_join r [] ys = refl
fold_join r (x ∷ xs) ys = fold_join (records_after r x) xs ys

pub keep_run : (r : Records) (es : List event.Event) → IsRecordsRun r es → Inv r → Inv (records_fold r es)
keep_run r [] run inv = inv
keep_run r (e ∷ es) run inv = keep_run (records_after r e) es run.1 (keep_records.keep r e run.0 inv)

-- what a run of the parts is below
pub record Goes (st : State) (es : List Event) : Type 0 where
  pub runs : IsRecordsRun st.records (all_events st es)
  pub ends : (fold st es).records ≡ records_fold st.records (all_events st es)
  pub fits : Fits (fold st es)

pub goes : (st : State) (es : List Event) → IsRun st es → Inv st.records → Fits st → Goes st es
goes st [] run inv fits = record { runs = tt; ends = refl; fits = fits }
goes st (e ∷ es) run inv fits =
    let here = allowed st e run.0 inv fits in
    let later : Inv (after st e).records = keep_run st.records (events_of st e) here inv in
    let k = goes (after st e) es run.1 later (keep st e run.0 inv fits) in
    record {
      runs = run_join st.records (events_of st e) (all_events (after st e) es) here k.runs;
      ends = k.ends ∙ sym (fold_join st.records (events_of st e) (all_events (after st e) es));
      fits = k.fits;
    }

pub inv_after : (st : State) (es : List Event) → Inv st.records → Goes st es → Inv (fold st es).records
inv_after st es inv k = subst (λ (r : Records). Inv r) (sym k.ends) (keep_run st.records (all_events st es) k.runs inv)

pub law_tree : LawTree
law_tree owners all c newest older ring bucket unused sound room keeps named st is fits es run =
    let inv : Inv st.records = subst (λ (r : Records). Inv r) (sym is) (inv_opened owners all c newest older ring bucket unused sound room keeps named) in
    let k = goes st es run inv fits in
    record { allowed = k.runs; ends = k.ends; fits = k.fits; reads = right (fold st es) k.fits (covered (fold st es).records (inv_after st es inv k)) }

-- ---- the whole machine

can_happen : (w : Layout) (p : Places) (o : Option event.Event) → IsRecordsRun p.records (to_list o) → IfEvent (PlacesAllow w p) o → IfEvent (CanHappen w p) o
can_happen w p None a b = tt
can_happen w p (Some e) a b = (a.0, b)

records_with : (w : Layout) (p : Places) (o : Option event.Event) → records_fold p.records (to_list o) ≡ (places_with w p o).records
records_with w p None = refl
records_with w p (Some e) = refl

pub record JoinsFrom (w : Layout) (m : acts.State) (st : State) (steps : List Step) : Type 0 where
  pub run : acts.IsRun w m (acts_of steps)
  pub ends : (parts_of st steps).records ≡ (acts.fold w m (acts_of steps)).places.records
  pub fits : Fits (parts_of st steps)
  pub inv : Inv (parts_of st steps).records

pub joins : (w : Layout) (m : acts.State) (st : State) (steps : List Step) → st.records ≡ m.places.records → Inv st.records → Fits st → IsJoint w m st steps → JoinsFrom w m st steps
joins w m st [] is inv fits run = record { run = tt; ends = is; fits = fits; inv = inv }
joins w m st (x ∷ xs) is inv fits run =
    let g = goes st x.events run.1 inv fits in
    let same = run.0 in
    let o = event_of w x.act in
    let mine : IsRecordsRun m.places.records (to_list (event_of w x.act)) =
    subst (λ (r : Records). IsRecordsRun r (to_list (event_of w x.act))) is (subst (λ (es : List event.Event). IsRecordsRun st.records es) (sym run.0) g.runs) in
    let next : (fold st x.events).records ≡ (acts.after w m x.act).places.records =
    g.ends ∙ ap (λ (es : List event.Event). records_fold st.records es) (sym run.0) ∙ ap (λ (r : Records). records_fold r (to_list (event_of w x.act))) is ∙ records_with w m.places (event_of w x.act) in
    let k = joins w (acts.after w m x.act) (fold st x.events) xs next (inv_after st x.events inv g) g.fits run.4 in
    record { run = ((can_happen w m.places (event_of w x.act) mine run.2, run.3), k.run); ends = k.ends; fits = k.fits; inv = k.inv }

pub sound_inv : (w : Layout) (o : Opening) → IsSound w o → Inv (opened w o).places.records
sound_inv w o sound =
    inv_opened o.owners (ring_entries w o.image w.journal) (node_sets w o.owners o.image) o.newest o.older o.ring o.bucket o.unused sound.whole.sound sound.whole.room sound.keeps sound.named

pub law_joint : LawJoint
law_joint w o st steps sound is fits run =
    let k = joins w (opened w o) st steps is (subst (λ (r : Records). Inv r) (sym is) (sound_inv w o sound)) fits run in
    record { run = k.run; ends = k.ends; fits = k.fits }

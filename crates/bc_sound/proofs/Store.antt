-- The metadata of a run is that of a run of its own.
use Rattle.std.proofs.Common.{◌≡◌, List, [], ◌∷◌, ◌++◌, refl, sym, ap, ◌∙◌, subst}
use Rattle.bc_meta.specs.Acts as meta
use Rattle.bc_meta.specs.Layout.{Layout}
use Rattle.bc_meta.specs.Laws.{reached}
use Rattle.bc_meta.specs.Laws as meta_law
use Rattle.bc_leaves.specs.Parts as parts
use Rattle.bc_leaves.specs.Laws.{acts_of}
use Rattle.bc_leaves.proofs.Law.{joins}
use Rattle.bc_whole.specs.State.{Opening, State, Event}
use Rattle.bc_whole.specs.Together.{steps_of}
use Rattle.bc_whole.specs.Run.{IsRun, after, run, start}
use Rattle.bc_whole.specs.Laws.{IsSound}
use Rattle.bc_whole.proofs.Kept.{Inv, keep_act, reached as inv_reached, truthful}

pub record HasStore (w : Layout) (o : meta_law.Opening) (st : meta.State) : Type 0 where
  pub acts : List meta.Act
  pub run : meta.IsRun w (meta_law.opened w o) acts
  pub is : st ≡ reached w o acts

is_run_join : (w : Layout) (st : meta.State) (xs ys : List meta.Act) → meta.IsRun w st xs → meta.IsRun w (meta.fold w st xs) ys → meta.IsRun w st (xs ++ ys)
is_run_join w st [] ys a b = b
is_run_join w st (x ∷ xs) ys a b = (a.0, is_run_join w (meta.after w st x) xs ys a.1 b)

fold_join : (w : Layout) (st : meta.State) (xs ys : List meta.Act) → meta.fold w st (xs ++ ys) ≡ meta.fold w (meta.fold w st xs) ys
fold_join w st [] ys = refl
fold_join w st (x ∷ xs) ys = fold_join w (meta.after w st x) xs ys

more : (w : Layout) (o : meta_law.Opening) (st : meta.State) (acts : List meta.Act) → meta.IsRun w st acts → HasStore w o st → HasStore w o (meta.fold w st acts)
more w o st acts on h = record {
  acts = h.acts ++ acts;
  run = is_run_join w (meta_law.opened w o) h.acts acts h.run (subst (λ (y : meta.State). meta.IsRun w y acts) h.is on);
  is = ap (λ (y : meta.State). meta.fold w y acts) h.is ∙ sym (fold_join w (meta_law.opened w o) h.acts acts);
}

store_run : (w : Opening) (x : parts.State) (sound : IsSound w x) (st : State) (es : List Event) → IsRun w st es → Inv w st → HasStore w.layout w.store st.store → HasStore w.layout w.store (run w st es).store
store_run w x sound st [] on inv h = h
store_run w x sound st (e ∷ es) on inv h =
    store_run w x sound (after w st e.seat e.act) es on.1 (keep_act w st e.seat (truthful w x st.flow sound inv.flow) inv e.act on.0)
    (more w.layout w.store st.store (acts_of (steps_of w.layout st e.seat e.act))
    (joins w.layout st.store st.parts (steps_of w.layout st e.seat e.act) inv.same inv.records inv.fits on.0.store).run h)

pub has_store : (w : Opening) (x : parts.State) (sound : IsSound w x) (es : List Event) → IsRun w (start w x) es → HasStore w.layout w.store (run w (start w x) es).store
has_store w x sound es on = store_run w x sound (start w x) es on (inv_reached w x [] sound tt) (record { acts = []; run = tt; is = refl })

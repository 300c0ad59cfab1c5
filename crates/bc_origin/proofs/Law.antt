-- So it holds at every state of every run, and of whatever a crash leaves.
use Rattle.std.proofs.Common.{◌≡◌, ◌⊎◌, inl, inr, ℕ, true, false, List, [], ◌∷◌, ◌++◌, refl, sym, subst}
use Rattle.bc_key.specs.declared.key.Key.{Key}
use Rattle.bc_model.specs.Sector.{Image}
use Rattle.bc_disk.specs.Device.{Content, MayLeave}
use Rattle.bc_meta.specs.Facts.{In}
use Rattle.bc_meta.specs.Entries.{AreEntries, Entry, all_keys, live}
use Rattle.bc_meta.specs.Tree.{IsNamed, NodeSets, Walk, Whole}
use Rattle.bc_meta.specs.Layout.{node_sets, ring_entries}
use Rattle.bc_meta.specs.Records.{MayRead, owners}
use Rattle.bc_meta.specs.Places.{NoChance}
use Rattle.bc_meta.specs.Laws.{Survives}
use Rattle.bc_meta.proofs.Acts.{survives}
use Rattle.bc_meta.proofs.Good.{ready_choice}
use Rattle.bc_meta.proofs.Keep.{ready_some}
use Rattle.bc_leaves.specs.Parts as parts
use Rattle.bc_whole.specs.State.{Opening}
use Rattle.bc_whole.specs.Laws.{keys_in}
use Rattle.bc_whole.proofs.Kept.{Inv, reached}
use Rattle.bc_known.specs.Acts.{State, Event, after}
use Rattle.bc_known.specs.Run.{IsRun, run, start}
use Rattle.bc_known.specs.Laws.{IsSound}
use Rattle.bc_known.proofs.Law.{law_whole}
use Rattle.bc_origin.specs.Keys.{WasThere, new_keys, keys_with}
use Rattle.bc_origin.specs.Laws.{EachRead, LawOrigin}
use Rattle.bc_origin.proofs.Lists.{AllHave, all_behind, all_front, all_join, all_live, entries_one}
use Rattle.bc_origin.proofs.Tree.{keys_have}
use Rattle.bc_origin.proofs.Acts.{HeldIn, act_held}

pub run_join : (w : Opening) (st : State) (xs ys : List Event) → run w st (xs ++ ys) ≡ run w (run w st xs) ys
run_join w st [] ys = refl
run_join w st (x ∷ xs) ys = run_join w (after w st x.seat x.act) xs ys

pub is_run_join : (w : Opening) (st : State) (xs ys : List Event) → IsRun w st xs → IsRun w (run w st xs) ys → IsRun w st (xs ++ ys)
is_run_join w st [] ys a b = b
is_run_join w st (x ∷ xs) ys a b = (a.0, is_run_join w (after w st x.seat x.act) xs ys a.1 b)

-- what holds of the whole machine at the end of a run
pub inv_at : (w : Opening) (x : parts.State) (next_seq : ℕ) (es : List Event) → IsSound w x → IsRun w (start w x next_seq) es
    → Inv w (run w (start w x next_seq) es).whole
inv_at w x next_seq es sound on =
    let h = law_whole w x next_seq es sound on in
    subst (λ y. Inv w y) (sym h.is) (reached w x h.events sound.whole h.run)

module _ (P : Key → Type 0) (w : Opening) (x : parts.State) (next_seq : ℕ) (sound : IsSound w x) where
  opened_held : ((key : Key) → WasThere w key → P key) → HeldIn P (start w x next_seq).whole.store
  opened_held was = record {
    waiting = λ key i. absurd i;
    entry = all_front P w.store.newest.keys (all_keys w.store.older) (λ key i. was key (inl i));
    durable = λ key i. was key (inl i);
    nodes = λ q f. record {
      sets = λ key i. was key (inr (q, not_loose q f.1, f.0, i));
      last = λ key i. absurd i;
    };
  }
    where
      not_loose : (q : ℕ) → (w.store.unused q ≡ false) ⊎ (false ≡ true) ⊎ (false ≡ true) → w.store.unused q ≡ false
      not_loose q (inl e) = e
      not_loose q (inr (inl e)) = absurd (cc)
      not_loose q (inr (inr e)) = absurd (cc)

  held_on : (before es : List Event) → IsRun w (start w x next_seq) before → IsRun w (run w (start w x next_seq) before) es
      → AllHave P (new_keys es) → HeldIn P (run w (start w x next_seq) before).whole.store
      → HeldIn P (run w (run w (start w x next_seq) before) es).whole.store
  held_on before [] ran on new h = h
  held_on before (e ∷ es) ran on new h =
      let st : State = run w (start w x next_seq) before in
      let one : run w (start w x next_seq) (before ++ (e ∷ [])) ≡ after w st e.seat e.act = run_join w (start w x next_seq) before (e ∷ []) in
      let here = act_held P w st e.seat (inv_at w x next_seq before sound ran) h e.act on.0.asks (all_front P (keys_with e.act) (new_keys es) new) in
      subst (λ (s : State). HeldIn P (run w s es).whole.store) one
      (held_on (before ++ (e ∷ [])) es (is_run_join w (start w x next_seq) before (e ∷ []) ran (on.0, tt))
      (subst (λ (s : State). IsRun w s es) (sym one) on.1) (all_behind P (keys_with e.act) (new_keys es) new)
      (subst (λ (s : State). HeldIn P s.whole.store) (sym one) here))

  module _ (es : List Event) (on : IsRun w (start w x next_seq) es) (was : (key : Key) → WasThere w key → P key) (new : AllHave P (new_keys es)) where
    abbrev st : State
    st = run w (start w x next_seq) es

    held : HeldIn P (run w (start w x next_seq) es).whole.store
    held = held_on [] es tt on new (opened_held was)

    inv : Inv w (run w (start w x next_seq) es).whole
    inv = inv_at w x next_seq es sound on

    -- what was found has these entries
    found : (c : Image) (newest : Entry) (older : List Entry) → MayRead st.whole.store.places.records.nodes (node_sets w.layout (owners st.whole.store.places.records.nodes) c)
        → ((d : NodeSets) → MayRead st.whole.store.places.records.nodes d → Walk Whole d newest.level newest.root)
        → IsNamed (owners st.whole.store.places.records.nodes) (node_sets w.layout (owners st.whole.store.places.records.nodes) c) newest.level newest.root newest.word
        → AllHave P (all_keys (newest ∷ older)) → AreEntries (ring_entries w.layout c w.layout.journal) newest older
        → EachRead w st c P
    found c newest older may whole_ named keys are newest1 older1 are1 =
        let same = entries_one (ring_entries w.layout c w.layout.journal) newest newest1 older older1 are are1 in
        subst (λ (e : Entry). AllHave P (keys_in w st.whole c e older1)) same.newest
        (subst (λ (l : List Entry). AllHave P (keys_in w st.whole c newest l)) same.older
        (all_join P (all_keys (newest ∷ older)) _ keys
        (keys_have P st.whole.store.places.records st.whole.store.places.own held
        (node_sets w.layout (owners st.whole.store.places.records.nodes) c) may newest.level newest.root newest.word whole_ named)))

    pub each_read : NoChance w.layout w.store.image st.whole.store.places → (c : Image) → MayLeave st.whole.flow.cache c → EachRead w st c P
    each_read chance c left = go (survives w.layout w.store st.whole.store inv.store sound.whole.store chance c
        (subst (λ (d : Content). MayLeave d c) inv.link.device left))
      where
        go : Survives w.layout st.whole.store c → EachRead w st c P
        go v = elim v.finds [
          | inl f ↦ found c st.whole.store.places.records.newest st.whole.store.places.records.older v.nodes
              inv.store.records.durable.whole f.again.named held.durable f.again.whole.sound.entries
          | inr f ↦ found c st.whole.store.places.records.entry
              (live st.whole.store.places.records.entry.last_seq (st.whole.store.places.records.newest ∷ st.whole.store.places.records.older)) v.nodes
              (λ d may. (inv.store.records.sealed (ready_some st.whole.store.places.records.stage f.0)).whole d
              (ready_choice st.whole.store.places.records.stage st.whole.store.places.records.nodes d f.0 may))
              f.1.again.named
              (all_join P st.whole.store.places.records.entry.keys _ held.entry
              (all_live P st.whole.store.places.records.entry.last_seq (st.whole.store.places.records.newest ∷ st.whole.store.places.records.older) held.durable))
              f.1.again.whole.sound.entries
        ]

pub law_origin : LawOrigin
law_origin w x next_seq es sound on chance c left =
    each_read (λ key. WasThere w key ⊎ In key (new_keys es)) w x next_seq sound es on (λ key i. inl i) (λ key i. inr i) chance c left

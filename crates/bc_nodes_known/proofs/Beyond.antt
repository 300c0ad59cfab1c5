-- Where the tree has no sectors, no leaf that it can get has their keys.
use Rattle.std.proofs.Common.{◌≡◌, inl, inr, ℕ, ◌≤◌, ◌^◌, Bool, false, List, [], ◌∷◌, ◌++◌, refl, sym, ap, ◌∙◌, subst, arith}
use Rattle.bc_key.specs.declared.key.Key.{Key}
use Rattle.bc_books.specs.Books.{Step}
use Rattle.bc_data.specs.Data as flow
use Rattle.bc_data.specs.After as flow_step
use Rattle.bc_meta.specs.Acts as meta
use Rattle.bc_meta.specs.Events as event
use Rattle.bc_leaves.specs.Parts.{Role, Coming, IsLive}
use Rattle.bc_leaves.specs.Parts as parts
use Rattle.bc_leaves.specs.Events as parts_event
use Rattle.bc_leaves.specs.After as parts_step
use Rattle.bc_leaves.specs.Fits.{Fits}
use Rattle.bc_leaves.specs.Laws.{parts_of}
use Rattle.bc_leaves.proofs.Chains.{has_in}
use Rattle.bc_whole.specs.State.{Opening}
use Rattle.bc_whole.specs.Together.{inserted, step}
use Rattle.bc_known.specs.Acts.{State, Act, Keyed, Install, after}
use Rattle.bc_known.proofs.Keyed.{parts_join}
use Rattle.bc_events.specs.Changes.{buckets_gone, leaf_among, regroup, made, dropped, with}
use Rattle.bc_events.specs.declared.event.Change.{Change}
use Rattle.bc_shares.specs.Shares.{books_of}
use Rattle.bc_shares.specs.Touched.{NamesChange}
use Rattle.bc_shares.proofs.Acts.{IsKept, released_parts}
use Rattle.bc_shares.proofs.Rows.{installs}
use Rattle.bc_looks.proofs.Slots.{made_slots, shrinks}
use Rattle.bc_nodes_known.proofs.Regroup.{among}

abbrev pub Beyond : State → Type 0
Beyond st = (s : ℕ) → st.whole.parts.end ≤ s → 2 ^ 32 ≤ (books_of st).index.leaf s

-- the tree's end and each sector's leaf are what they were
pub record SameSlots (a b : State) : Type 0 where
  pub end : b.whole.parts.end ≡ a.whole.parts.end
  pub slots : (s : ℕ) → (books_of b).index.leaf s ≡ (books_of a).index.leaf s

keyed_end : (p : parts.State) (slot : ℕ) (keys : List Key)
    → (parts_of p (inserted slot keys)).end ≡ p.end
keyed_end p slot [] = refl
keyed_end p slot (key ∷ keys) = ap (λ (s : parts.State). s.end)
    (parts_join p (inserted slot keys)
    (step (meta.Plain (event.AddKey key)) (parts_event.Insert slot key)))
    ∙ keyed_end p slot keys

end_one : (w : Opening) (st : State) (i : ℕ) (act : Act) → installs act ≡ false
    → (after w st i act).whole.parts.end ≡ st.whole.parts.end
end_one w st i (Keyed act slot keys) off = keyed_end st.whole.parts slot keys
end_one w st i (Install un steps) off = absurd (cc)
end_one w st i act off = refl

pub slots_kept : IsKept (λ act. installs act ≡ false) SameSlots
slots_kept = record {
  same = λ a. record { end = refl; slots = λ s. refl };
  both = λ a b c x y. record { end = y.end ∙ x.end; slots = λ s. y.slots s ∙ x.slots s };
  one = λ w st i act off on. record {
    end = end_one w st i act off;
    slots = (shrinks.one w st i act off on).slots;
  };
}

pub beyond_kept : (a b : State) → SameSlots a b → Beyond a → Beyond b
beyond_kept a b same far s high =
    let end = same.end in
    let low = far s (omega (arith, end, high)) in
    let at = same.slots s in
    omega (arith, low, at)

coming_live : (r : Role) → r ≡ Coming → IsLive r
coming_live r is = subst IsLive (sym is) tt

pub beyond_installed : (w : Opening) (st : State) (i : ℕ) (c : Change) (come gone : List ℕ)
    → Fits st.whole.parts → NamesChange st.whole.parts c → Beyond st
    → let un = with st.whole.parts.records.unused (buckets_gone st.whole.parts c) in
    let steps = regroup st.whole.flow.books.index st.whole.parts.leaves c
    ∷ (made i come ++ dropped gone) in
    Beyond (after w st i (Install un steps))
beyond_installed w st i c come gone fits names far s high =
    let old = far s (let end = same_end in omega (arith, end, high)) in
    let at = now in
    elim (among p.leaves c.come.items (st.whole.flow.books.index.leaf s) s) [
      | inl new ↦ absurd (
          let k = leaf_among p.leaves c.come.items (st.whole.flow.books.index.leaf s) s in
          let comes = names.only k (has_in c.come.items k new.one) in
          let below = fits.leaves.below k (coming_live (p.leaves k).role comes) in
          let inside = new.within.1 in
          let end = same_end in
          omega (arith, below, inside, end, high))
      | inr none ↦ (let was = none.0 in omega (arith, old, at, was))
    ]
  where
    p : parts.State
    p = st.whole.parts

    un : ℕ → Bool
    un = with p.records.unused (buckets_gone p c)

    steps : List Step
    steps = regroup st.whole.flow.books.index p.leaves c ∷ (made i come ++ dropped gone)

    same_end : (after w st i (Install un steps)).whole.parts.end ≡ p.end
    same_end = ap (λ (q : parts.State). q.end)
        (released_parts (parts_step.after p (parts_event.Install un)) steps)

    now : (books_of (after w st i (Install un steps))).index.leaf s
        ≡ leaf_among p.leaves c.come.items (st.whole.flow.books.index.leaf s) s
    now = ap (λ (f : ℕ → ℕ). f s) (made_slots w
        (flow_step.after w.flow st.whole.flow i
        (flow.Shelve (regroup st.whole.flow.books.index p.leaves c))) i come gone)

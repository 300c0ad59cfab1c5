-- A sector whose keys are in a leaf of the tree lies in the leaf's range.
use Rattle.std.proofs.Common.{◌≡◌, ◌⊎◌, inl, inr, ℕ, zero, suc, ◌<◌, ◌≤◌, ◌^◌, Bool, true, false, List, [], ◌∷◌, ◌++◌, refl, sym, ap, ◌∙◌, subst, arith, if◌then◌else◌, ◌&&◌}
use Rattle.std.specs.Prelude.{Vec, nat_le, nat_lt}
use Rattle.std.specs.declared.alloc.Global.{Global}
use Rattle.bc_books.specs.Books.{Step}
use Rattle.bc_data.specs.After as flow_step
use Rattle.bc_data.specs.Data as flow
use Rattle.bc_events.specs.Acts.{acts_of}
use Rattle.bc_events.specs.Changes.{buckets_gone, dropped, leaf_among, made, regroup, with}
use Rattle.bc_events.specs.Run.{Opening, State, acts_or_none, after}
use Rattle.bc_events.specs.declared.event.Change.{Change}
use Rattle.bc_events.specs.declared.event.Deed.{Deed}
use Rattle.bc_events.specs.declared.event.Deed.TheVariants as deed
use Rattle.bc_events.specs.declared.event.Event.{Event}
use Rattle.bc_key.specs.declared.key.Key.{Key}
use Rattle.bc_known.proofs.Keyed.{parts_join}
use Rattle.bc_known.proofs.Law.{At, inv_at}
use Rattle.bc_known.specs.Acts.{Act, Install, Keyed}
use Rattle.bc_known.specs.Acts as machine
use Rattle.bc_known.specs.Laws.{IsSound}
use Rattle.bc_leaves.proofs.Chains.{has_in, in_has}
use Rattle.bc_leaves.specs.After as parts_step
use Rattle.bc_leaves.specs.Events as parts_event
use Rattle.bc_leaves.specs.Fits.{Fits}
use Rattle.bc_leaves.specs.Laws.{parts_of}
use Rattle.bc_leaves.specs.Parts.{Coming, Draft, Free, InRange, IsLive, Leaf, Leaving, NoNode, Role}
use Rattle.bc_leaves.specs.Parts as parts
use Rattle.bc_leaves.specs.Rows.{Below, ChildRow}
use Rattle.bc_looks.proofs.Law.{law_slots}
use Rattle.bc_looks.proofs.Slots.{Shrinks, made_slots, shrinks}
use Rattle.bc_mark.specs.bc_machine.Containers.{IsInTree}
use Rattle.bc_mark.specs.bc_machine.Standing.{oldest_first, replay_is, replay_runs}
use Rattle.bc_mark.specs.bc_machine.World.{Follows, IsCourseOf, IsOrigin, Origin, World, replay}
use Rattle.bc_meta.proofs.Lists.{by_le}
use Rattle.bc_meta.specs.Acts as meta
use Rattle.bc_meta.specs.Events as event
use Rattle.bc_meta.specs.Facts.{In}
use Rattle.bc_meta.specs.Tree.{Child, children_of}
use Rattle.bc_shares.proofs.Acts.{IsKept, kept_run, released_parts}
use Rattle.bc_shares.proofs.Law.{at_state, in_order}
use Rattle.bc_shares.proofs.Rows.{installs, no_install_row}
use Rattle.bc_shares.specs.Shares.{books_of}
use Rattle.bc_shares.specs.Touched.{NamesChange}
use Rattle.bc_whole.proofs.Kept.{Inv}
use Rattle.bc_whole.specs.State as whole
use Rattle.bc_whole.specs.Together.{inserted, step}

-- ---- each sector of the tree is in a leaf

record HasChild (P : ℕ → ℕ → ℕ → ℕ → Type 0) (s : ℕ) : Type 0 where
  bucket : ℕ
  word : ℕ
  first : ℕ
  end : ℕ
  is : P bucket word first end
  low : first ≤ s
  high : s < end

child_at : (P : ℕ → ℕ → ℕ → ℕ → Type 0) (a : ℕ) (ks : List Child) (b s : ℕ) → ChildRow P a ks b
    → a ≤ s → s < b → HasChild P s
child_at P a [] b s row low high = absurd (omega (arith, row, low, high))
child_at P a (k ∷ ks) b s row low high = go (child_at P k.end ks b s row.2)
  where
    go : (k.end ≤ s → s < b → HasChild P s) → HasChild P s
    go later = by_le k.end s (λ _. HasChild P s) (λ far. later far high) (λ near. record {
      bucket = k.bucket;
      word = k.word;
      first = a;
      end = k.end;
      is = row.1;
      low = low;
      high = near;
    })

-- a leaf of the tree has it, or one that comes
record HasLeaf (p : parts.State) (s : ℕ) : Type 0 where
  leaf : ℕ
  live : IsLive (p.leaves leaf).role
  within : InRange (p.leaves leaf) s

module _ (p : parts.State) (fits : Fits p) (s : ℕ) where
  leaf_below : (h x : ℕ) → IsLive (p.inner_nodes x).role → (p.inner_nodes x).height ≡ h
      → (p.inner_nodes x).first ≤ s → s < (p.inner_nodes x).end → HasLeaf p s
  leaf_below zero x live is low high =
      let n = p.inner_nodes x in
      let one = child_at (Below p.leaves p.inner_nodes IsLive 0) n.first
      (children_of (p.records.nodes n.bucket).sets) n.end s
      (subst (λ h. ChildRow (Below p.leaves p.inner_nodes IsLive h) n.first
      (children_of (p.records.nodes n.bucket).sets) n.end) is (fits.tree.inner x live).now) low high in
      let below = one.is in
      let first = below.3 in
      let end = below.4 in
      let from = one.low in
      let to = one.high in record {
        leaf = below.0;
        live = below.1;
        within = (omega (arith, first, from), omega (arith, end, to));
      }
  leaf_below (suc h) x live is low high =
      let n = p.inner_nodes x in
      let one = child_at (Below p.leaves p.inner_nodes IsLive (suc h)) n.first
      (children_of (p.records.nodes n.bucket).sets) n.end s
      (subst (λ m. ChildRow (Below p.leaves p.inner_nodes IsLive m) n.first
      (children_of (p.records.nodes n.bucket).sets) n.end) is (fits.tree.inner x live).now) low high in
      let below = one.is in
      let first = below.4 in
      let end = below.5 in
      let from = one.low in
      let to = one.high in
      leaf_below h below.0 below.1 below.2 (omega (arith, first, from)) (omega (arith, end, to))

  some_leaf : s < p.end → HasLeaf p s
  some_leaf high =
      let root = fits.roots.newest in
      let first = root.4 in
      let end = root.5 in
      leaf_below (p.inner_nodes root.0).height root.0 root.1 refl (omega (arith, first))
      (omega (arith, end, high))

-- ---- the leaf that gets a sector

by_lt : (a b : ℕ) (P : Bool → Type 0) → (a < b → P true) → (b ≤ a → P false) → P (nat_lt a b)
by_lt a b P below above = by_le (suc a) b P (λ lt. below (omega (arith, lt)))
    (λ far. above (omega (arith, far)))

by_within : (a b s : ℕ) (P : Bool → Type 0) → (a ≤ s → s < b → P true)
    → ((a ≤ s → s < b → ⊥) → P false) → P (nat_le a s && nat_lt s b)
by_within a b s P yes_ no_ = by_le a s (λ t. P (t && nat_lt s b))
    (λ low. by_lt s b P (λ high. yes_ low high)
    (λ far. no_ (λ _ high. absurd (omega (arith, far, high)))))
    (λ far. no_ (λ low _. absurd (omega (arith, far, low))))

-- one of these that has it, or where it was, as none has it
record IsAmong (leaves : ℕ → Leaf) (is : List ℕ) (s k : ℕ) : Type 0 where
  one : In k is
  within : InRange (leaves k) s

among : (leaves : ℕ → Leaf) (is : List ℕ) (old s : ℕ)
    → IsAmong leaves is s (leaf_among leaves is old s)
    ⊎ ((leaf_among leaves is old s ≡ old) × ((k : ℕ) → In k is → InRange (leaves k) s → ⊥))
among leaves [] old s = inr (refl, λ k m. absurd m)
among leaves (i ∷ is) old s = by_within (leaves i).first (leaves i).end s
    (λ b. IsAmong leaves (i ∷ is) s (if b then i else leaf_among leaves is old s)
    ⊎ (((if b then i else leaf_among leaves is old s) ≡ old)
    × ((k : ℕ) → In k (i ∷ is) → InRange (leaves k) s → ⊥)))
    (λ low high. inl (record { one = inl refl; within = (low, high) }))
    (λ out. elim (among leaves is old s) [
      | inl later ↦ inl (record { one = inr later.one; within = later.within })
      | inr none ↦ inr (
        none.0,
        λ k m within. elim m [
          | inl here ↦ (let at = subst (λ n. InRange (leaves n) s) here within in out at.0 at.1)
          | inr later ↦ none.1 k later within
        ],
      )
    ])

-- ---- states of a run

at_course : (o : Origin) → IsSound o.opening.machine o.parts → (es : List Event) → IsCourseOf o es
    → At o.opening.machine o.parts (replay o es).machine
at_course o sound es on = subst (λ (st : State). At o.opening.machine o.parts st.machine)
    (sym (replay_is o es))
    (at_state o.opening o.parts o.next_seq (oldest_first es) sound (replay_runs o es on))

inv_course : (o : Origin) → IsSound o.opening.machine o.parts → (es : List Event) → IsCourseOf o es
    → Inv o.opening.machine (replay o es).machine.whole
inv_course o sound es on = inv_at o.opening.machine o.parts (replay o es).machine.whole sound
    (at_course o sound es on).at

-- ---- sectors behind the tree

abbrev pub Beyond : machine.State → Type 0
Beyond st = (s : ℕ) → st.whole.parts.end ≤ s → 2 ^ 32 ≤ (books_of st).index.leaf s

-- the tree's end is what it was
abbrev SameEnd : machine.State → machine.State → Type 0
SameEnd a b = b.whole.parts.end ≡ a.whole.parts.end

keyed_end : (p : parts.State) (slot : ℕ) (keys : List Key)
    → (parts_of p (inserted slot keys)).end ≡ p.end
keyed_end p slot [] = refl
keyed_end p slot (key ∷ keys) = ap (λ (s : parts.State). s.end)
    (parts_join p (inserted slot keys)
    (step (meta.Plain (event.AddKey key)) (parts_event.Insert slot key)))
    ∙ keyed_end p slot keys

end_one : (w : whole.Opening) (st : machine.State) (i : ℕ) (act : Act) → installs act ≡ false
    → SameEnd st (machine.after w st i act)
end_one w st i (Keyed act slot keys) off = keyed_end st.whole.parts slot keys
end_one w st i (Install un steps) off = absurd (cc)
end_one w st i act off = refl

end_kept : IsKept (λ act. installs act ≡ false) SameEnd
end_kept = record {
  same = λ a. refl;
  both = λ a b c x y. y ∙ x;
  one = λ w st i act off on. end_one w st i act off;
}

-- ---- what the index has is in the tree's ranges

-- of each leaf of the tree that a slot may have
abbrev pub IsExact : machine.State → Type 0
IsExact st = (k s : ℕ) → k < 2 ^ 32 → IsInTree (st.whole.parts.leaves k).role
    → (books_of st).index.leaf s ≡ k → InRange (st.whole.parts.leaves k) s

pub record HasPlaces (st : machine.State) : Type 0 where
  pub beyond : Beyond st
  pub exact : IsExact st

coming_live : (r : Role) → r ≡ Coming → IsLive r
coming_live r is = subst IsLive (sym is) tt

free_tree : (r : Role) → r ≡ Free → IsInTree r
free_tree r is = subst IsInTree (sym is) tt

coming_no_tree : (r : Role) → r ≡ Coming → IsInTree r → ⊥
coming_no_tree r is tree = subst IsInTree is tree

live_tree : (r : Role) → IsLive r → (r ≡ Coming) ⊎ IsInTree r
live_tree NoNode live = absurd live
live_tree Draft live = absurd live
live_tree Free live = inr tt
live_tree Leaving live = inr tt
live_tree Coming live = inl refl

-- which leaves the tree has behind an install
after_install : (r : Role) → IsInTree (parts_step.installed r) → (r ≡ Free) ⊎ (r ≡ Coming)
after_install NoNode h = absurd h
after_install Draft h = absurd h
after_install Free h = inl refl
after_install Leaving h = absurd h
after_install Coming h = inr refl

shrunk_places : (a b : machine.State) → Shrinks a b → SameEnd a b → HasPlaces a → HasPlaces b
shrunk_places a b h end was = record {
  beyond = λ s high. (let at = h.slots s in
      let low = was.beyond s (omega (arith, end, high)) in omega (arith, at, low));
  exact = λ k s low tree is. (let old = h.leaves k tree in
      let within = was.exact k s low old.tree (sym (h.slots s) ∙ is) in
      let first = old.first in
      let last = old.end in
      let from = within.0 in
      let to = within.1 in (omega (arith, first, from), omega (arith, last, to)));
}

module _ (w : Opening) (st : State) (i : ℕ) (c : Change) (come gone : Vec ℕ Global)
    (fits : Fits st.machine.whole.parts) (names : NamesChange st.machine.whole.parts c)
    (slots : (k s : ℕ) → IsInTree (st.machine.whole.parts.leaves k).role
    → InRange (st.machine.whole.parts.leaves k) s → (books_of st.machine).index.leaf s ≡ k)
    (was : HasPlaces st.machine) where
  abbrev p : parts.State
  p = st.machine.whole.parts

  abbrev un : ℕ → Bool
  un = with p.records.unused (buckets_gone p c)

  abbrev steps : List Step
  steps = regroup st.machine.whole.flow.books.index p.leaves c ∷ (made i come.items ++ dropped gone.items)

  abbrev then_ : State
  then_ = after w st (record { seat = i; deed = deed.Install c come gone })

  same_parts : then_.machine.whole.parts ≡ parts_step.after p (parts_event.Install un)
  same_parts = released_parts (parts_step.after p (parts_event.Install un)) steps

  now : (s : ℕ) → (books_of then_.machine).index.leaf s
      ≡ leaf_among p.leaves c.come.items (st.machine.whole.flow.books.index.leaf s) s
  now s = ap (λ (f : ℕ → ℕ). f s) (made_slots w.machine
      (flow_step.after w.machine.flow st.machine.whole.flow i
      (flow.Shelve (regroup st.machine.whole.flow.books.index p.leaves c))) i come.items gone.items)

  -- a sector that no leaf gets which comes isn't in one
  elsewhere : (s k : ℕ) → k < 2 ^ 32 → ((j : ℕ) → In j c.come.items → InRange (p.leaves j) s → ⊥)
      → (books_of st.machine).index.leaf s ≡ k → (p.leaves k).role ≡ Coming → ⊥
  elsewhere s k low none is comes = by_le p.end s (λ _. ⊥)
      (λ far. let high = was.beyond s far in absurd (omega (arith, high, low, is)))
      (λ near. let one = some_leaf p fits s near in elim (live_tree (p.leaves one.leaf).role one.live) [
        | inl coming ↦ none one.leaf (in_come one.leaf coming) one.within
        | inr tree ↦ coming_no_tree (p.leaves one.leaf).role
            (ap (λ j. (p.leaves j).role) (sym (slots one.leaf s tree one.within) ∙ is) ∙ comes) tree
      ])
    where
      in_come : (j : ℕ) → (p.leaves j).role ≡ Coming → In j c.come.items
      in_come j coming = in_has c.come.items j (names.come j coming)

  installed_exact : IsExact then_.machine
  installed_exact k s low tree is =
      let role = subst (λ (q : parts.State). IsInTree (q.leaves k).role) same_parts tree in
      subst (λ (q : parts.State). InRange (q.leaves k) s) (sym same_parts)
      (go (after_install (p.leaves k).role role)
      (among p.leaves c.come.items (st.machine.whole.flow.books.index.leaf s) s))
    where
      at : leaf_among p.leaves c.come.items (st.machine.whole.flow.books.index.leaf s) s ≡ k
      at = sym (now s) ∙ is

      go : ((p.leaves k).role ≡ Free) ⊎ ((p.leaves k).role ≡ Coming)
          → IsAmong p.leaves c.come.items s
          (leaf_among p.leaves c.come.items (st.machine.whole.flow.books.index.leaf s) s)
          ⊎ ((leaf_among p.leaves c.come.items (st.machine.whole.flow.books.index.leaf s) s
          ≡ st.machine.whole.flow.books.index.leaf s)
          × ((j : ℕ) → In j c.come.items → InRange (p.leaves j) s → ⊥))
          → InRange (p.leaves k) s
      go how (inl new) = subst (λ j. InRange (p.leaves j) s) at new.within
      go (inl free) (inr old) = was.exact k s low (free_tree (p.leaves k).role free)
          (sym old.0 ∙ at)
      go (inr comes) (inr old) = absurd (elsewhere s k low old.1 (sym old.0 ∙ at) comes)

  installed_beyond : Beyond then_.machine
  installed_beyond s high =
      let end = ap (λ (q : parts.State). q.end) same_parts in
      let old = was.beyond s (omega (arith, end, high)) in
      let at = now s in
      elim (among p.leaves c.come.items (st.machine.whole.flow.books.index.leaf s) s) [
        | inl new ↦ absurd (
            let k = leaf_among p.leaves c.come.items (st.machine.whole.flow.books.index.leaf s) s in
            let comes = names.only k (has_in c.come.items k new.one) in
            let below = fits.leaves.below k (coming_live (p.leaves k).role comes) in
            let inside = new.within.1 in
            omega (arith, below, inside, end, high))
        | inr none ↦ (let was = none.0 in omega (arith, old, at, was))
      ]

  pub installed : HasPlaces then_.machine
  installed = record { beyond = installed_beyond; exact = installed_exact }

-- ---- in each state of a run

module _ (x : World) (o : Origin) (is : IsOrigin x o) where
  first_exact : IsCourseOf o [] → IsExact (replay o []).machine
  first_exact on k s low tree at = by_le o.parts.end s (λ _. InRange (o.parts.leaves k) s)
      (λ far. let high = is.begun.read.beyond s far in absurd (omega (arith, high, low, at)))
      (λ near.
      let fits = (inv_course o is.sound [] on).fits in
      let one = some_leaf o.parts fits s near in
      let free = fits.quiet.calm is.calm one.leaf one.live in
      let its = is.slots one.leaf s (free_tree (o.parts.leaves one.leaf).role free) one.within in
      subst (λ j. InRange (o.parts.leaves j) s) (sym its ∙ at) one.within)

  -- what an opening is doesn't rest on what happened since
  origin_at : (es : List Event) → IsOrigin (record x { log = es }) o
  origin_at es = record {
    with_cache = is.with_cache;
    told = is.told;
    cached = is.cached;
    size = is.size;
    worker = is.worker;
    cache = is.cache;
    backing = is.backing;
    sound = is.sound;
    slots = is.slots;
    order = is.order;
    ends = is.ends;
    calm = is.calm;
    begun = is.begun;
  }

  event_places : (log : List Event) (i : ℕ) (d : Deed) → IsCourseOf o log
      → Follows o.opening (replay o log) log (record { seat = i; deed = d })
      → HasPlaces (replay o log).machine
      → HasPlaces (after o.opening (replay o log) (record { seat = i; deed = d })).machine
  event_places log i (deed.Install c come gone) course on was =
      installed o.opening (replay o log) i c come gone (inv_course o is.sound log course).fits
      on.names.0 (law_slots (record x { log = log }) o (origin_at log) course) was
  event_places log i d course on was =
      let e : Event = record { seat = i; deed = d } in
      let st = replay o log in
      let acts = acts_or_none (acts_of o.opening.machine st.machine i d) in
      let none = no_install_row o.opening.machine st.machine i d tt in
      let order = in_order o.opening st e (acts_of o.opening.machine st.machine i d) on.enabled in
      shrunk_places st.machine (after o.opening st e).machine
      (kept_run (λ act. installs act ≡ false) Shrinks shrinks o.opening.machine st.machine i acts none
      order)
      (kept_run (λ act. installs act ≡ false) SameEnd end_kept o.opening.machine st.machine i acts none
      order) was

  places_in : (es : List Event) → IsCourseOf o es → HasPlaces (replay o es).machine
  places_in [] on = record { beyond = is.begun.read.beyond; exact = first_exact on }
  places_in (e ∷ es) on = event_places es e.seat e.deed on.2 on.0 (places_in es on.2)

  pub exact : IsCourseOf o x.log → IsExact (replay o x.log).machine
  exact course = (places_in x.log course).exact

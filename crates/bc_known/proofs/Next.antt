-- What a crash leaves is sound again, with the buckets on the list priorities kept for chains.
use Rattle.std.proofs.Common.{◌≡◌, ◌≢◌, inl, inr, ℕ, zero, suc, ◌+◌, ◌<◌, ◌≤◌, Bool, true, false, List, [], ◌∷◌, length, Option, Some, None, refl, sym, ap, ◌∙◌, subst, arith, if◌then◌else◌}
use Rattle.bc_model.specs.History.{Allowed}
use Rattle.bc_books.specs.Shelves.{Purpose, Priorities}
use Rattle.bc_books.specs.Chains.{Many}
use Rattle.bc_meta.specs.Facts.{In}
use Rattle.bc_meta.specs.Chain.{Distinct}
use Rattle.bc_meta.specs.Layout.{Layout}
use Rattle.bc_meta.specs.Records.{Records}
use Rattle.bc_meta.proofs.Acts.{opened_cases}
use Rattle.bc_leaves.specs.Parts.{Role, NoNode, IsLive}
use Rattle.bc_leaves.specs.Parts as parts
use Rattle.bc_whole.specs.State.{Opening}
use Rattle.bc_whole.specs.Laws.{Opens, Reads}
use Rattle.bc_whole.specs.Laws as whole_law
use Rattle.bc_known.specs.Acts.{State}
use Rattle.bc_known.specs.Run.{run, start}
use Rattle.bc_known.specs.Known.{AreLaid}
use Rattle.bc_known.specs.Laws.{IsSound, OpensAgain, LawNext}
use Rattle.bc_known.proofs.Places.{bool_true, bool_false}
use Rattle.bc_known.proofs.Law.{law_crash}

-- the first so many of a table, the last first
abbrev listed : (ℕ → ℕ) → ℕ → List ℕ
listed at zero = []
listed at (suc n) = at n ∷ listed at n

in_listed : (at : ℕ → ℕ) (n q : ℕ) → In q (listed at n) → (i : ℕ) × (i < n) × (q ≡ at i)
in_listed at zero q i = absurd i
in_listed at (suc n) q i = elim i [
  | inl e ↦ (n, omega arith, e)
  | inr j ↦ (let h = in_listed at n q j in let lt = h.1 in (h.0, omega (arith, lt), h.2))
]

distinct_listed : (at : ℕ → ℕ) (count n : ℕ)
    → ((i j : ℕ) → i < count → j < count → at i ≡ at j → i ≡ j) → n ≤ count
    → Distinct (listed at n)
distinct_listed at count zero other le = tt
distinct_listed at count (suc n) other le = (
  λ i. (let h = in_listed at n (at n) i in let lt = h.1 in
      let e = other n h.0 (omega (arith, le)) (omega (arith, le, lt)) h.2 in
      absurd (omega (arith, e, lt))),
  distinct_listed at count n other (omega (arith, le)),
)

length_listed : (at : ℕ → ℕ) (n : ℕ) → length (listed at n) ≡ n
length_listed at zero = refl
length_listed at (suc n) = ap suc (length_listed at n)

some_none : (o : Option Purpose) → o ≡ Some Priorities → o ≡ None → ⊥
some_none o a b = cc

number_none : (o : Option ℕ) → o ≡ Some 0 → o ≡ None → ⊥
number_none o a b = cc

-- with those on the list priorities kept for chains
abbrev with_spare : Opening → List ℕ → Opening
with_spare w spare = record {
  flow = w.flow;
  layout = w.layout;
  before = w.before;
  store = record {
    image = w.store.image;
    owners = w.store.owners;
    newest = w.store.newest;
    older = w.store.older;
    ring = w.store.ring;
    ring_next = w.store.ring_next;
    bucket = w.store.bucket;
    unused = w.store.unused;
    chain = w.store.chain;
    gens = w.store.gens;
    spare = spare;
  };
}

module _ (w : Opening) (x : parts.State) (sound : whole_law.IsSound w x) (laid : AreLaid w)
    (live : (k : ℕ) → (x.leaves k).role ≢ NoNode → IsLive (x.leaves k).role)
    (inner_live : (k : ℕ) → (x.inner_nodes k).role ≢ NoNode
    → IsLive (x.inner_nodes k).role) where
  abbrev many : Many w.flow.books.sets (λ b. w.flow.books.listed b ≡ Some Priorities)
  many = sound.pair.books.next

  abbrev spare : List ℕ
  spare = listed many.0 w.flow.books.sets

  on_list : (q : ℕ) → In q spare → w.flow.books.listed q ≡ Some Priorities
  on_list q i =
      let h = in_listed many.0 w.flow.books.sets q i in
      ap w.flow.books.listed h.2 ∙ many.2 h.0 h.1

  not_fixed : (q : ℕ) → In q spare → w.flow.books.fixed q ≡ false
  not_fixed q i = bool_false (w.flow.books.fixed q)
      (λ e. some_none (w.flow.books.listed q) (on_list q i) (sound.pair.books.fixed q e).0)

  no_node : (q : ℕ) → In q spare → w.store.unused q ≡ true
  no_node q i = bool_true (w.store.unused q)
      (λ e. some_none (w.flow.books.listed q) (on_list q i)
      (sound.pair.books.node q (sound.nodes q e)).0)

  no_chain : (q : ℕ) → In q spare → In q w.store.chain → ⊥
  no_chain q i j = elim (opened_cases w.store.chain q) [
    | inl h ↦ (let off : w.flow.books.chain q ≡ false = bool_false (w.flow.books.chain q)
        (λ e. some_none (w.flow.books.listed q) (on_list q i)
        (sound.pair.books.chain q e).0) in
        number_none _ h.1 (sound.chain q
        ∙ ap (λ (t : Bool). if◌then◌else◌ {A = Option ℕ} t (Some 0) None) off))
    | inr h ↦ h.0 j
  ]

  again : IsSound (with_spare w spare) x
  again = record {
    whole = record {
      pair = sound.pair;
      store = record {
        whole = sound.store.whole;
        keeps = sound.store.keeps;
        outside = sound.store.outside;
        named = sound.store.named;
        chain = sound.store.chain;
        distinct = sound.store.distinct;
        free = sound.store.free;
        spare = λ q i. (let a = laid.area q (not_fixed q i) in
            (no_node q i, no_chain q i, a.0, a.1));
        spare_distinct = distinct_listed many.0 w.flow.books.sets w.flow.books.sets many.1
            (omega arith);
        spare_count = length_listed many.0 w.flow.books.sets ∙ laid.sets;
      };
      fits = sound.fits;
      records = sound.records;
      image = sound.image;
      index = sound.index;
      gens = sound.gens;
      chain = sound.chain;
      nodes = sound.nodes;
    };
    laid = record { area = laid.area; sector = laid.sector; sets = laid.sets };
    spare = on_list;
    leaves = λ k some. sound.nodes (x.leaves k).bucket
        (subst (λ (r : Records). r.unused (x.leaves k).bucket
        ≡ false) sound.records (sound.fits.leaves.used k (live k some)));
    inner_nodes = λ k some. sound.nodes (x.inner_nodes k).bucket
        (subst (λ (r : Records). r.unused (x.inner_nodes k).bucket
        ≡ false) sound.records (sound.fits.tree.inner_used k (inner_live k some)));
  }

-- the books of the next opening lie as before
laid_again : (w next : Opening) → next.layout ≡ w.layout
    → next.flow.books.fixed ≡ w.flow.books.fixed → next.flow.books.bucket ≡ w.flow.books.bucket
    → next.flow.books.sets ≡ w.flow.books.sets → AreLaid w → AreLaid next
laid_again w next l a b c h = record {
  area = λ q e. subst (λ (y : Layout). (y.journal ≤ q)
      × (q < y.buckets)) (sym l) (h.area q (ap (λ (g : ℕ → Bool). g q) (sym a) ∙ e));
  sector = subst (λ (y : Layout). (q t : ℕ) → q < y.buckets
      → y.first q ≤ t → t < y.first q + y.bucket_sectors → next.flow.books.bucket t ≡ q) (sym l)
      (λ q t lt low high. ap (λ (g : ℕ → ℕ). g t) b ∙ h.sector q t lt low high);
  sets = c ∙ h.sets ∙ ap (λ (y : Layout). y.chain_sets) (sym l);
}

pub law_next : LawNext
law_next w x next_seq es sound on chance c b left back =
    let r = law_crash w x next_seq es sound on chance c b left back in (
      r,
      λ leaf pending replays. opens (run w (start w x next_seq) es) r
          (r.again leaf pending replays),
    )
  where
    opens : (st : State) (r : Reads w st.whole c b)
        {pending : ℕ → List parts.Pending}
        → Opens w st.whole c b r.newest r.older r.chain pending → OpensAgain w st c b
    opens st r o = record {
      next = with_spare o.next (listed o.sound.pair.books.next.0 o.next.flow.books.sets);
      parts = o.parts;
      sound = again o.next o.parts o.sound
          (laid_again w o.next o.layout o.fixed o.bucket o.sets sound.laid) o.live o.inner_live;
      cache = o.cache;
      backing = o.backing;
      allowed = λ s. subst (λ v. Allowed w.flow.image st.whole.flow.history s v)
          (sym (o.image s)) (r.allowed s);
    }

-- What a crash leaves, read by bytes.
use Rattle.std.proofs.Common.{◌≡◌, ◌≢◌, inl, inr, ℕ, ◌≤◌, ◌%◌, Bool, true, false, List, ◌∷◌, ◌++◌, Option, Some, None, refl, sym, ap, ◌∙◌, subst, arith, if◌then◌else◌}
use Rattle.bc_key.specs.declared.key.Key.{Key}
use Rattle.bc_model.specs.Sector.{Image}
use Rattle.bc_model.specs.History.{Allowed, now}
use Rattle.bc_disk.specs.Device.{Content, MayLeave}
use Rattle.bc_books.specs.Shelves.{Purpose, Shelf, Loose, Tree, Held}
use Rattle.bc_books.specs.Versions.{is_stale}
use Rattle.bc_books.specs.Chains.{is_chain}
use Rattle.bc_books.specs.Books.{Books}
use Rattle.bc_books.specs.Laws.{Snapshot, IsForNode, durable_snapshot, sealed_snapshot}
use Rattle.bc_books.specs.Laws as books
use Rattle.bc_books.proofs.Safety.{unneeded_at}
use Rattle.bc_collect.specs.Next.{AreListed}
use Rattle.bc_collect.proofs.Next.{law_listed}
use Rattle.bc_data.specs.Data as flow
use Rattle.bc_data.specs.Laws as flow_law
use Rattle.bc_data.proofs.Steps.{law_books}
use Rattle.bc_crash.specs.Laws.{IsSafe, IsClosed}
use Rattle.bc_crash.specs.Laws as crash
use Rattle.bc_crash.specs.Next.{next_pair, MayOpen, IsNext}
use Rattle.bc_crash.specs.Next as next_
use Rattle.bc_crash.proofs.Survive as survive
use Rattle.bc_crash.proofs.Next as crash_next
use Rattle.bc_meta.specs.Keys.{Ref, last_ref}
use Rattle.bc_meta.specs.Entries.{Entry, live}
use Rattle.bc_meta.specs.Tree.{Owner}
use Rattle.bc_meta.specs.Layout.{node_sets, image_keys}
use Rattle.bc_meta.specs.Chain.{Chain, bytes_of}
use Rattle.bc_meta.specs.Records.{Stage, Nothing, Fixed, Ready, Sent, Safe, Records, MayRead, IsReady, owners, opened_records}
use Rattle.bc_meta.proofs.Lists.{by_test}
use Rattle.bc_meta.specs.Acts as meta
use Rattle.bc_meta.specs.Laws.{Finds, Survives}
use Rattle.bc_meta.specs.Laws as meta_law
use Rattle.bc_meta.proofs.Acts.{survives, opened_cases}
use Rattle.bc_leaves.specs.Parts.{Role, NoNode, Draft, Free, Leaving, Coming, IsLive}
use Rattle.bc_leaves.specs.Parts as parts
use Rattle.bc_leaves_runs.specs.Reopen as reopen
use Rattle.bc_leaves_runs.specs.Reopen.{Reopens, AllReplay, reopened}
use Rattle.bc_leaves_runs.proofs.Reopen.{opens_durable, opens_sealed}
use Rattle.bc_whole.specs.State.{Opening, State}
use Rattle.bc_whole.specs.Together.{ref_of, gen_from}
use Rattle.bc_whole.specs.Run.{run, start}
use Rattle.bc_whole.specs.Linked.{stage_of, if_sealed}
use Rattle.bc_whole.specs.Laws.{IsSound, keys_in, shown_by, shown, Opens, Reads, LawNow, LawCrash, LawRaise}
use Rattle.bc_whole.proofs.Kept.{HasFlow, Inv, reached, truthful}
use Rattle.bc_whole.proofs.Shown.{shown_same, from_bytes, Points, points, clean_of, dirty_of}

-- ---- answers and raises

pub law_now : LawNow
law_now w x es sound on = (truthful w x _ sound (reached w x es sound on).flow).legal

bool_true : (b : Bool) → (b ≡ false → ⊥) → b ≡ true
bool_true true not = refl
bool_true false not = absurd (not refl)

true_false : (b : Bool) → b ≡ true → b ≡ false → ⊥
true_false b x y = cc

loose_held : (x : Shelf) (j : ℕ) → x ≡ Loose → x ≡ Held j Tree → ⊥
loose_held x j a b = cc

pub law_raise : LawRaise
law_raise w x es sound on q can =
    let st : State = run w (start w x) es in
    let inv = reached w x es sound on in
    let u = unneeded_at w.flow.books st.flow.books
    (truthful w x st.flow sound inv.flow).books q can in
    record {
      no_node = bool_true (st.store.places.records.unused q) (λ e. elim (inv.link.nodes q e) [
        | inl n ↦ true_false (st.flow.books.node q) n u.no_node
        | inr h ↦ loose_held (st.flow.books.shelf q) h.0 can.1 h.1
      ]);
      no_chain = inv.link.chain.buckets q ∙ u.no_chain;
      not_fixed = u.not_fixed;
    }

-- ---- crashes

-- the data's laws at this state, which is that of a run of the data
module _ (w : Opening) (x : parts.State) (sound : IsSound w x) (f : flow.State)
    (has : HasFlow w f) where
  pub safe_at : (shot : Snapshot) (c b : Image) → crash.Finds f shot → MayLeave f.cache c
      → MayLeave f.backing b → (s : ℕ) → IsSafe w.flow f shot c b s
  safe_at shot c b = subst (λ y. crash.Finds y shot → MayLeave y.cache c → MayLeave y.backing b
      → (s : ℕ) → IsSafe w.flow y shot c b s) (sym has.is)
      (survive.law_crash w.flow has.list sound.pair has.run shot c b)

  pub closed_at : IsClosed f → (shot : Snapshot) (c b : Image) → crash.Finds f shot
      → MayLeave f.cache c → MayLeave f.backing b → (s : ℕ)
      → flow_law.shown w.flow.books.bucket (f.books.index.at shot.count) shot.version c b s
      ≡ now w.flow.image f.history s
  closed_at = subst (λ y. IsClosed y → (shot : Snapshot) (c b : Image) → crash.Finds y shot
      → MayLeave y.cache c → MayLeave y.backing b → (s : ℕ)
      → flow_law.shown w.flow.books.bucket (y.books.index.at shot.count) shot.version c b s
      ≡ now w.flow.image y.history s) (sym has.is)
      (survive.law_closed w.flow has.list sound.pair has.run)

  pub next_at : (z : next_.Found) (c b : Image) → MayOpen w.flow f z c b
      → IsNext w.flow f (next_pair w.flow f z c b)
  next_at z c b = subst (λ y. MayOpen w.flow y z c b → IsNext w.flow y (next_pair w.flow y z c b))
      (sym has.is) (crash_next.law_next w.flow has.list sound.pair has.run z c b)

  pub listed_at : (shot : Snapshot) (node : ℕ → Bool) → books.MayLeave f.books shot
      → ((q : ℕ) → node q ≡ true → IsForNode f.books q)
      → (listed : ℕ → Option Purpose) × AreListed w.flow.books f.books shot node listed
  listed_at shot node =
      let h = subst (λ y. flow_law.HasBooks w.flow y) (sym has.is)
      (law_books w.flow has.list sound.pair has.run) in
      subst (λ (k : Books). books.MayLeave k shot
      → ((q : ℕ) → node q ≡ true → IsForNode k q)
      → (listed : ℕ → Option Purpose) × AreListed w.flow.books k shot node listed) (sym h.same)
      (law_listed w.flow.books h.list sound.pair.books h.run shot node)

-- what was found on the cache device, and what the books mean by it
record IsFound (w : Opening) (st : State) (c : Image) (shot : Snapshot) (newest : Entry)
    (older : List Entry) (index : List Key) (n : ℕ) : Type 0 where
  finds : Finds w.layout st.store c newest older index n
  flow : crash.Finds st.flow shot
  books : books.MayLeave st.flow.books shot
  keys : (s : ℕ) → last_ref index s ≡ ref_of (st.flow.books.index.at shot.count s)
  gens : (q : ℕ) → gen_from w.before (st.store.gens n) q ≡ shot.version q
  chain : n ≡ shot.chain
  low : st.store.ready_chain ≤ n
  high : n ≤ st.store.sealed_chain
  count : st.flow.books.journal.durable ≤ shot.count
  reopens : Reopens st.parts (node_sets w.layout (owners st.parts.records.nodes) c) newest older

-- the other way round
is_of : Option ℕ → ℕ → Type 0
is_of o n = is_chain o n ≡ true

chain_is : (o : Option ℕ) (n : ℕ) → o ≡ Some n → is_chain o n ≡ true
chain_is None n e = absurd (cc)
chain_is (Some m) n e = by_test m n (λ t. t ≡ true) (λ _. refl)
    (λ ne. absurd (ne (some_same m n e)))
  where
    some_same : (a b : ℕ) → Some a ≡ Some b → a ≡ b
    some_same a b q = cc

chain_not : (o : Option ℕ) (n : ℕ) → (o ≡ Some n → ⊥) → is_chain o n ≡ false
chain_not None n no_ = refl
chain_not (Some m) n no_ = by_test m n (λ t. t ≡ false)
    (λ e. absurd (no_ (ap Some e))) (λ _. refl)

-- a slot that an opening finds is a node's or none
found_live : (r : Role) (t : Bool) → reopen.found r t ≢ NoNode → IsLive (reopen.found r t)
found_live NoNode t h = absurd (h refl)
found_live Draft t h = absurd (h refl)
found_live Free true h = tt
found_live Free false h = absurd (h refl)
found_live Leaving true h = tt
found_live Leaving false h = absurd (h refl)
found_live Coming true h = tt
found_live Coming false h = absurd (h refl)

negated : (b : Bool) → (if b then false else true) ≡ true → b ≡ false
negated true e = absurd (cc)
negated false e = refl

negates : (b : Bool) → b ≡ false → (if b then false else true) ≡ true
negates true e = absurd (cc)
negates false e = refl

module _ (w : Opening) (x : parts.State) (sound : IsSound w x) (st : State) (inv : Inv w st)
    (c b : Image) (left : MayLeave st.flow.cache c) (back : MayLeave st.flow.backing b)
    (shot : Snapshot) (newest : Entry) (older : List Entry) (index : List Key) (n : ℕ)
    (found : IsFound w st c shot newest older index n) where
  abbrev chain : Chain
  chain = record { buckets = st.store.buckets n; gens = bytes_of (st.store.gens n) }

  key_at : (s : ℕ) → last_ref (keys_in w st c newest older) s
      ≡ ref_of (st.flow.books.index.at shot.count s)
  key_at s = found.finds.again.same s ∙ found.keys s

  shown_at : (s : ℕ) → shown w.flow.books.bucket (gen_from w.before (bytes_of (st.store.gens n)))
      (keys_in w st c newest older) c b s
      ≡ flow_law.shown w.flow.books.bucket (st.flow.books.index.at shot.count) shot.version c b s
  shown_at s = ap (λ o. shown_by w.flow.books.bucket
      (gen_from w.before (bytes_of (st.store.gens n))) o c (b s)) (key_at s)
      ∙ shown_same w.before w.flow.books.bucket shot.version (st.store.gens n)
      (st.flow.books.index.at shot.count s) c (b s) found.gens

  at : (s : ℕ) (r : Ref) → last_ref (keys_in w st c newest older) s ≡ Some r
      → Points (st.flow.books.index.at shot.count s) r
  at s r is = points (st.flow.books.index.at shot.count s) r (sym (key_at s) ∙ is)

  safe : (s : ℕ) → IsSafe w.flow st.flow shot c b s
  safe = safe_at w x sound st.flow inv.flow shot c b found.flow left back

  -- the device's test on bytes is the books' on versions
  fresh : (s : ℕ) (r : Ref) (p : Points (st.flow.books.index.at shot.count s) r)
      → is_stale (gen_from w.before (bytes_of (st.store.gens n)) (w.flow.books.bucket r.place)) r.generation
      ≡ false
      → is_stale (shot.version (w.flow.books.bucket p.pointer.place) % 256)
      (p.pointer.version % 256) ≡ false
  fresh s r p e = ap (λ g. is_stale g (p.pointer.version % 256))
      (sym (from_bytes w.before (st.store.gens n)
      (w.flow.books.bucket p.pointer.place)
      ∙ ap (λ v. v % 256) (found.gens (w.flow.books.bucket p.pointer.place))))
      ∙ ap (λ g. is_stale (gen_from w.before (bytes_of (st.store.gens n))
      (w.flow.books.bucket p.pointer.place)) g) (sym p.generation)
      ∙ ap (λ t. is_stale (gen_from w.before (bytes_of (st.store.gens n)) (w.flow.books.bucket t))
      r.generation) (sym p.place) ∙ e

  abbrev node : ℕ → Bool
  node q = if st.store.places.records.unused q then false else true

  nodes : (q : ℕ) → node q ≡ true → IsForNode st.flow.books q
  nodes q e = inv.link.nodes q (negated (st.store.places.records.unused q) e)

  lists : (listed : ℕ → Option Purpose)
      × AreListed w.flow.books st.flow.books shot node listed
  lists = listed_at w x sound st.flow inv.flow shot node found.books nodes

  abbrev opening_of : (leaf : ℕ → ℕ) → Opening
  opening_of leaf = record {
    flow = next_pair w.flow st.flow
        (record { shot = shot; node = node; listed = lists.0; leaf = leaf }) c b;
    layout = w.layout;
    before = w.before;
    store = found.finds.opening;
  }

  again_chain : (q : ℕ) → meta.put_all {A = Option ℕ} (λ k. None) found.finds.opening.chain
      (Some 0) q ≡ (if is_chain (st.flow.books.chains.of q) shot.chain then Some 0 else None)
  again_chain q = subst (λ (l : List ℕ). meta.put_all {A = Option ℕ} (λ k. None) l (Some 0) q
      ≡ (if is_chain (st.flow.books.chains.of q) shot.chain then Some 0 else None))
      (sym found.finds.chain_is.0) (elim (opened_cases (st.store.buckets n) q) [
        | inl h ↦ h.1 ∙ ap (λ (t : Bool). if t then Some 0 else None)
            (sym (chain_is (st.flow.books.chains.of q) shot.chain
            (sym (inv.link.chain.buckets q) ∙ inv.store.named n found.low found.high q h.0
            ∙ ap Some found.chain)))
        | inr h ↦ h.1 ∙ ap (λ (t : Bool). if t then Some 0 else None)
            (sym (chain_not (st.flow.books.chains.of q) shot.chain
            (λ e. h.0 (inv.store.members q n (inv.link.chain.buckets q ∙ e
            ∙ ap Some (sym found.chain))))))
      ])

  -- the opening's records are what was found
  again_keys : (s : ℕ) → last_ref (image_keys w.layout found.finds.opening.owners
      found.finds.opening.image found.finds.opening.newest found.finds.opening.older) s
      ≡ ref_of (st.flow.books.index.at shot.count s)
  again_keys s =
      ap (λ (o : ℕ → Owner). last_ref (image_keys w.layout o found.finds.opening.image
      found.finds.opening.newest found.finds.opening.older) s) found.finds.owners_are
      ∙ ap (λ (i : Image). last_ref (image_keys w.layout (owners st.store.places.records.nodes) i
      found.finds.opening.newest found.finds.opening.older) s) found.finds.image_is
      ∙ ap (λ (e : Entry). last_ref (image_keys w.layout (owners st.store.places.records.nodes) c
      e found.finds.opening.older) s) found.finds.entries_are.0
      ∙ ap (λ (l : List Entry). last_ref (image_keys w.layout
      (owners st.store.places.records.nodes) c newest l) s) found.finds.entries_are.1
      ∙ key_at s

  -- the parts that an opening makes of it, over the records that it has
  abbrev again_parts : (ℕ → List parts.Pending) → parts.State
  again_parts pending = reopened st.parts (node_sets w.layout (owners st.parts.records.nodes) c)
      newest older found.finds.opening.ring found.finds.opening.bucket pending

  again_records : (pending : ℕ → List parts.Pending) → (again_parts pending).records
      ≡ (meta_law.opened w.layout found.finds.opening).places.records
  again_records pending =
      ap (λ (o : ℕ → Owner). opened_records o (node_sets w.layout o c) newest older
      found.finds.opening.ring found.finds.opening.bucket st.parts.records.unused)
      (ap (λ (r : Records). owners r.nodes) inv.same ∙ sym found.finds.owners_are)
      ∙ ap (λ (i : Image). opened_records found.finds.opening.owners
      (node_sets w.layout found.finds.opening.owners i) newest older
      found.finds.opening.ring found.finds.opening.bucket st.parts.records.unused)
      (sym found.finds.image_is)
      ∙ ap (λ (e : Entry). opened_records found.finds.opening.owners
      (node_sets w.layout found.finds.opening.owners found.finds.opening.image) e older
      found.finds.opening.ring found.finds.opening.bucket st.parts.records.unused)
      (sym found.finds.entries_are.0)
      ∙ ap (λ (l : List Entry). opened_records found.finds.opening.owners
      (node_sets w.layout found.finds.opening.owners found.finds.opening.image)
      found.finds.opening.newest l found.finds.opening.ring found.finds.opening.bucket
      st.parts.records.unused) (sym found.finds.entries_are.1)
      ∙ ap (λ (u : ℕ → Bool). opened_records found.finds.opening.owners
      (node_sets w.layout found.finds.opening.owners found.finds.opening.image)
      found.finds.opening.newest found.finds.opening.older found.finds.opening.ring
      found.finds.opening.bucket u)
      (ap (λ (r : Records). r.unused) inv.same ∙ sym found.finds.unused_is)

  opens : (leaf : ℕ → ℕ) (pending : ℕ → List parts.Pending)
      → AllReplay st.parts newest older pending
      → Opens w st c b newest older chain pending
  opens leaf pending replays =
      let z : next_.Found =
      record { shot = shot; node = node; listed = lists.0; leaf = leaf } in
      let pair = next_at w x sound st.flow inv.flow z c b (record {
        finds = found.flow;
        left_cache = left;
        left_backing = back;
        nodes = nodes;
        lists = lists.1;
      }) in
      record {
        next = opening_of leaf;
        parts = again_parts pending;
        sound = record {
          pair = pair.sound;
          store = found.finds.sound;
          fits = found.reopens found.finds.opening.ring found.finds.opening.bucket pending
              replays;
          records = again_records pending;
          image = found.finds.image_is;
          index = again_keys;
          gens = λ q. ap (λ (l : List ℕ). gen_from w.before l q) found.finds.chain_is.1 ∙ found.gens q;
          chain = again_chain;
          nodes = λ q e. negates (st.store.places.records.unused q)
              (subst (λ (u : ℕ → Bool). u q ≡ false) found.finds.unused_is e);
        };
        layout = refl;
        before = refl;
        cache = refl;
        backing = refl;
        entries = found.finds.entries_are;
        image = λ s. sym (shown_at s);
        pending_is = λ k. refl;
        live = λ k some. found_live (st.parts.leaves k).role _ some;
        inner_live = λ k some. found_live (st.parts.inner_nodes k).role _ some;
        fixed = refl;
        bucket = refl;
        sets = refl;
      }

  reads : Reads w st c b
  reads = record {
    newest = newest;
    older = older;
    chain = chain;
    entries = found.finds.again.whole.sound.entries;
    chain_is = found.finds.chain;
    allowed = λ s. subst (λ v. Allowed w.flow.image st.flow.history s v) (sym (shown_at s))
        (safe s).allowed;
    agree = λ s r is clean e.
        let p = at s r is in
        ap c p.place ∙ (safe s).agree p.pointer p.is
        (clean_of p.pointer.kind (sym p.dirty ∙ clean)) (fresh s r p e);
    raise = λ q can s r is dirty there.
        let p = at s r is in
        (unneeded_at w.flow.books st.flow.books (truthful w x st.flow sound inv.flow).books q
        can).no_dirty shot.count s p.pointer found.count p.is
        (dirty_of p.pointer.kind (sym p.dirty ∙ dirty))
        (ap w.flow.books.bucket (sym p.place) ∙ there);
    closed = λ done s. shown_at s
        ∙ closed_at w x sound st.flow inv.flow done shot c b found.flow left back s;
    again = opens;
  }

-- both sides know how far the entry has come
ready_of : (g : flow.Stage) → IsReady (stage_of g) → crash.IsReady g
ready_of flow.Nothing r = r
ready_of flow.Fixed r = r
ready_of flow.Ready r = tt
ready_of flow.Sent r = tt
ready_of flow.Safe r = tt

sealed_all : (g : Stage) (keys rest : List Key) → IsReady g
    → if_sealed g keys ++ rest ≡ keys ++ rest
sealed_all Nothing keys rest r = absurd r
sealed_all Fixed keys rest r = refl
sealed_all Ready keys rest r = refl
sealed_all Sent keys rest r = refl
sealed_all Safe keys rest r = refl

reads_from : (w : Opening) (x : parts.State) (sound : IsSound w x) (st : State) (inv : Inv w st)
    (c b : Image) → MayLeave st.flow.cache c → MayLeave st.flow.backing b
    → Survives w.layout st.store c → Reads w st c b
reads_from w x sound st inv c b left back v = elim v.finds [
  | inl f ↦ reads w x sound st inv c b left back (durable_snapshot st.flow.books)
      st.store.places.records.newest st.store.places.records.older
      st.store.places.records.index st.store.durable_chain (record {
        finds = f;
        flow = inl refl;
        books = inl refl;
        keys = inv.link.index.durable_keys;
        gens = inv.link.chain.durable_gens;
        chain = inv.link.chain.durable_is;
        low = inv.store.order.0;
        high = inv.store.order.1;
        count = omega arith;
        reopens = subst (λ (r : Records). Reopens st.parts (node_sets w.layout
            (owners st.parts.records.nodes) c) r.newest r.older) inv.same
            (opens_durable st.parts inv.fits inv.records _ may);
      })
  | inr f ↦ reads w x sound st inv c b left back (sealed_snapshot st.flow.books)
      st.store.places.records.entry (live st.store.places.records.entry.last_seq
      (st.store.places.records.newest ∷ st.store.places.records.older))
      (st.store.places.records.entry.keys ++ st.store.places.records.index)
      st.store.sealed_chain (record {
        finds = f.1;
        flow = inr (ready_of st.flow.stage (subst IsReady (sym inv.link.stage) f.0), refl);
        books = inr refl;
        keys = λ s. ap (λ (l : List Key). last_ref l s) (sym (sealed_all
            st.store.places.records.stage st.store.places.records.entry.keys
            st.store.places.records.index f.0)) ∙ inv.link.index.sealed_keys s;
        gens = inv.link.chain.sealed_gens;
        chain = inv.link.chain.sealed_is;
        low = let a = inv.store.order.0 in let b = inv.store.order.1 in omega arith;
        high = omega arith;
        count = (truthful w x st.flow sound inv.flow).books.counted.durable;
        reopens = subst (λ (r : Records). Reopens st.parts (node_sets w.layout
            (owners st.parts.records.nodes) c) r.entry (live r.entry.last_seq
            (r.newest ∷ r.older))) inv.same (opens_sealed st.parts inv.fits inv.records _ may
            (subst (λ (r : Records). IsReady r.stage) (sym inv.same) f.0));
      })
]
  where
    may : MayRead st.parts.records.nodes
        (node_sets w.layout (owners st.parts.records.nodes) c)
    may = subst (λ (r : Records). MayRead r.nodes (node_sets w.layout (owners r.nodes) c))
        (sym inv.same) v.nodes

pub law_crash : LawCrash
law_crash w x es sound on chance c b left back =
    let st : State = run w (start w x) es in
    let inv = reached w x es sound on in
    reads_from w x sound st inv c b left back
    (survives w.layout w.store st.store inv.store sound.store chance c
    (subst (λ (d : Content). MayLeave d c) inv.link.device left))

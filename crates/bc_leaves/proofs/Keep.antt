-- The parts fit after each event: the journal's events, and the keys.
use Rattle.std.proofs.Common.{◌≡◌, ◌≢◌, ◌⊎◌, inl, inr, ℕ, suc, ◌≤◌, Bool, true, false, List, [], ◌∷◌, ◌++◌, refl, sym, ap, ◌∙◌, subst, arith, if◌then◌else◌}
use Rattle.bc_model.specs.Sector.{Value}
use Rattle.bc_key.specs.declared.key.Key.{Key}
use Rattle.bc_meta.specs.Tree.{Child, children_of}
use Rattle.bc_meta.specs.Entries.{Entry, live}
use Rattle.bc_meta.specs.Records.{Fixed, IsReady, Node, Nothing, Ready, Safe, Sent, Stage, after_barrier}
use Rattle.bc_meta.specs.Facts.{In}
use Rattle.bc_meta.proofs.Keep.{Inv}
use Rattle.bc_meta.proofs.Lists.{by_le, by_test}
use Rattle.bc_leaves.specs.Parts.{AllFrom, Begun, ByRoot, BySet, Change, Coming, Draft, Free, InRange, InnerNode, IsLive, IsWithin, Leaf, Leaving, Lost, NoChange, NoNode, Pending, Role, State, Stays, keys_of, next_number, ready_number, sealed_number}
use Rattle.bc_leaves.specs.Events.{BeginBucket, FailEntry, Insert, MakeDurable, Seal, WriteEntry, next_entry, same_root}
use Rattle.bc_leaves.specs.Enabled.{CanSealNext, IsEnabled}
use Rattle.bc_leaves.specs.Fits.{DraftFits, Fits, HasRoot, InOrder, InnerFits, IsCalm, Journal, LeafKeys, LeafNode, LostFits, NewestStays, Partners, Roots, journal_of}
use Rattle.bc_leaves.specs.Rows.{Fills}
use Rattle.bc_leaves.specs.Keys.{Speaks, ref_said}
use Rattle.bc_leaves.specs.After.{after}
use Rattle.bc_leaves.proofs.Pend.{append_none, front_miss, top_le, top_some, upto_later, upto_more}
use Rattle.bc_leaves.proofs.Contents.{below_map, free_live, live_some, stays_live}
use Rattle.bc_leaves.proofs.Chains.{chain_map}
use Rattle.bc_leaves.proofs.Leaves.{keys_insert, keys_seal, keys_sealed, keys_stage, keys_waiting}
use Rattle.bc_leaves.proofs.Said.{spoken_range}

pub differ : (t : Bool) → t ≡ true → t ≡ false → ⊥
differ t a b = cc

pub in_or_out : (x : Leaf) (s : ℕ) → InRange x s ⊎ (InRange x s → ⊥)
in_or_out x s =
    by_le x.first s (λ t. InRange x s ⊎ (InRange x s → ⊥))
    (λ a. by_le x.end s (λ t. InRange x s ⊎ (InRange x s → ⊥)) (λ b. inr (λ r. let r1 = r.1 in omega arith)) (λ b. inl (a, omega arith)))
    (λ a. inr (λ r. let r0 = r.0 in omega arith))

pub not_nothing : (g h : Stage) → g ≡ h → h ≢ Nothing → g ≢ Nothing
not_nothing g h e ne n = ne (sym e ∙ n)

pub some_barrier : (g : Stage) → after_barrier g ≢ Nothing → g ≢ Nothing
some_barrier Nothing ne = ne
some_barrier Fixed ne = λ e. absurd (cc)
some_barrier Ready ne = λ e. absurd (cc)
some_barrier Sent ne = λ e. absurd (cc)
some_barrier Safe ne = λ e. absurd (cc)

pub none_barrier : (g : Stage) → after_barrier g ≡ Nothing → g ≡ Nothing
none_barrier Nothing e = e
none_barrier Fixed e = absurd (cc)
none_barrier Ready e = absurd (cc)
none_barrier Sent e = absurd (cc)
none_barrier Safe e = absurd (cc)

ready_some : Ready ≢ Nothing
ready_some e = cc

safe_some : Safe ≢ Nothing
safe_some e = cc

fixed_some : Fixed ≢ Nothing
fixed_some e = cc

sent_some : Sent ≢ Nothing
sent_some e = cc

pub ready_le : (g : Stage) (n : ℕ) → ready_number g n ≤ sealed_number g n
ready_le Nothing n = omega arith
ready_le Fixed n = omega arith
ready_le Ready n = omega arith
ready_le Sent n = omega arith
ready_le Safe n = omega arith

pub ready_least : (g : Stage) (n : ℕ) → n ≤ ready_number g n
ready_least Nothing n = omega arith
ready_least Fixed n = omega arith
ready_least Ready n = omega arith
ready_least Sent n = omega arith
ready_least Safe n = omega arith

sent_top : (g : Stage) (n : ℕ) → g ≢ Nothing → sealed_number Sent n ≡ sealed_number g n
sent_top g n ne = sym (top_some g n ne)

pub calm_newest : (p : Change) (g : Stage) (n : ℕ) → IsCalm p → InOrder p g n → g ≡ Nothing → NewestStays p n
calm_newest NoChange g n c o e = tt
calm_newest Begun g n c o e = c
calm_newest Lost g n c o e = c
calm_newest (BySet q) g n c o e = tt
calm_newest (ByRoot m) g n c o e = o.1 e

pub newest_calm : (p : Change) (n : ℕ) → NewestStays p n → IsCalm p
newest_calm NoChange n h = tt
newest_calm Begun n h = h
newest_calm Lost n h = h
newest_calm (BySet q) n h = tt
newest_calm (ByRoot m) n h = tt

pub order_stage : (p : Change) (g h : Stage) (n : ℕ) → (h ≡ Nothing → g ≡ Nothing) → InOrder p g n → InOrder p h n
order_stage NoChange g h n f o = tt
order_stage Begun g h n f o = tt
order_stage Lost g h n f o = tt
order_stage (BySet q) g h n f o = tt
order_stage (ByRoot m) g h n f o = (o.0, λ e. o.1 (f e))

order_next : (p : Change) (g : Stage) (n m : ℕ) → m ≡ suc n → InOrder p g n → InOrder p Nothing m
order_next NoChange g n m e o = tt
order_next Begun g n m e o = tt
order_next Lost g n m e o = tt
order_next (BySet q) g n m e o = tt
order_next (ByRoot k) g n m e o = let o0 = o.0 in (omega arith, λ _. omega arith)

-- the same parts of a leaf, of a node
abbrev pub SameLeaf : Leaf → Leaf → Type 0
SameLeaf x y = (y.role ≡ x.role) × (y.bucket ≡ x.bucket) × (y.first ≡ x.first) × (y.end ≡ x.end) × (y.word ≡ x.word)

abbrev pub SameInner : InnerNode → InnerNode → Type 0
SameInner x y = (y.role ≡ x.role) × (y.height ≡ x.height) × (y.bucket ≡ x.bucket) × (y.first ≡ x.first) × (y.end ≡ x.end) × (y.word ≡ x.word)

module _ (leaves later : ℕ → Leaf) (inner_nodes then_ : ℕ → InnerNode) (sl : (i : ℕ) → IsLive (leaves i).role → SameLeaf (leaves i) (later i)) (si : (x : ℕ) → IsLive (inner_nodes x).role → SameInner (inner_nodes x) (then_ x)) where
  pub fill_kept : (P : Role → Type 0) → ((r : Role) → P r → IsLive r) → (x : InnerNode) (ks : List Child) → Fills leaves inner_nodes P x ks → Fills later then_ P x ks
  fill_kept P alive x ks h =
      chain_map _ _ x.first ks x.end
      (λ q w a b _ k. below_map leaves later inner_nodes then_ P P
      (λ i p. let e = sl i (alive (leaves i).role p) in (subst P (sym e.0) p, e.1, e.2, e.3, e.4))
      (λ y p. let e = si y (alive (inner_nodes y).role p) in (subst P (sym e.0) p, e.1, e.2, e.3, e.4, e.5)) x.height q w a b k) h

  pub inner_kept : (change : Change) (n : Node) (slot : ℕ) (x : InnerNode) (r : Role) → (Stays r → Stays x.role) → InnerFits leaves inner_nodes change n slot x → InnerFits later then_ change n slot (record x { role = r })
  inner_kept _ n slot x r f k = record {
    firm = k.firm;
    some = k.some;
    now = fill_kept IsLive (λ r l. l) x (children_of n.sets) k.now;
    still = λ c s e. fill_kept Stays stays_live x (children_of n.sets) (k.still c (f s) e);
    next = λ e. ((k.next e).0, fill_kept Stays stays_live x (children_of (n.last ∷ n.sets)) (k.next e).1);
    lost = λ e. ((k.lost e).0, fill_kept IsLive (λ r l. l) x (children_of (n.last ∷ n.sets)) (k.lost e).1);
  }

  pub root_kept : (end : ℕ) (P : Role → Type 0) → ((r : Role) → P r → IsLive r) → (root level word : ℕ) → HasRoot inner_nodes end P root level word → HasRoot then_ end P root level word
  root_kept end P alive root level word h =
      let e = si h.0 (alive (inner_nodes h.0).role h.1) in
      (h.0, subst P (sym e.0) h.1, e.2 ∙ h.2, ap suc e.1 ∙ h.3, e.3 ∙ h.4, e.4 ∙ h.5, e.5 ∙ h.6)

pub roots_kept : (j : Journal) (inner_nodes then_ : ℕ → InnerNode) (end : ℕ) (change : Change) → ((x : ℕ) → IsLive (inner_nodes x).role → SameInner (inner_nodes x) (then_ x)) → Roots j inner_nodes end change → Roots j then_ end change
roots_kept j inner_nodes then_ end _ si h =
    let go = λ (P : Role → Type 0) (alive : (r : Role) → P r → IsLive r) (root level word : ℕ) (k : HasRoot inner_nodes end P root level word). root_kept (λ i. no_leaf) (λ i. no_leaf) inner_nodes then_ (λ i l. absurd l) si end P alive root level word k in
    record {
      newest = go IsLive (λ r l. l) _ _ _ h.newest;
      entry = λ ne. go IsLive (λ r l. l) _ _ _ (h.entry ne);
      newest_stays = λ s. go Stays stays_live _ _ _ (h.newest_stays s);
      entry_stays = λ c ne. go Stays stays_live _ _ _ (h.entry_stays c ne);
      order = h.order;
      waiting = h.waiting;
      sealed = h.sealed;
      index = h.index;
    }
  where
    no_leaf : Leaf
    no_leaf = record { first = 0; end = 0; bucket = 0; word = 0; role = NoNode; loaded = false; pending = [] }

module _ (st : State) (fits : Fits st) where
  -- the journal alone changes
  pub journal_fits : (j : Journal) (ring : ℕ → List Entry) (bucket : ℕ) (log : List Entry)
      → ((i : ℕ) → IsLive (st.leaves i).role → LeafKeys j (st.records.nodes (st.leaves i).bucket).sets (st.sent (st.leaves i).bucket) (st.leaves i))
      → ((i : ℕ) → IsLive (st.leaves i).role → (st.records.nodes (st.leaves i).bucket).sent ≡ true → AllFrom (suc (ready_number j.stage j.newest.number)) (st.leaves i).pending)
      → Roots j st.inner_nodes st.end st.change → st.records.newest.number ≤ j.newest.number
      → Fits (record st { records = record st.records { waiting = j.waiting; entry = j.entry; stage = j.stage; newest = j.newest; older = j.older; index = j.index; ring = ring; bucket = bucket; log = log } })
  journal_fits j ring bucket log keys fresh roots le = record {
    leaves = record {
      node = fits.leaves.node;
      firm = fits.leaves.firm;
      keys = keys;
      used = fits.leaves.used;
      below = fits.leaves.below;
      fresh = fresh;
      lost = λ i l e. let k = fits.leaves.lost i l e in record { inside = k.inside; held = λ s none_. k.held s (λ y m. none_ y (upto_more st.records.newest.number j.newest.number (st.leaves i).pending y le m)) };
      apart = fits.leaves.apart;
      drafts = fits.leaves.drafts;
    };
    tree = record {
      inner = fits.tree.inner;
      inner_used = fits.tree.inner_used;
    };
    roots = roots;
    buckets = record {
      one_leaf = fits.buckets.one_leaf;
      one_inner = fits.buckets.one_inner;
      one_kind = fits.buckets.one_kind;
      named = fits.buckets.named;
      inner_named = fits.buckets.inner_named;
    };
    quiet = record {
      calm = fits.quiet.calm;
      calm_inner = fits.quiet.calm_inner;
    };
  }

  pub keep_begin : (b : ℕ) → Fits (after st (BeginBucket b))
  keep_begin b = journal_fits (journal_of st.records) _ b st.records.log fits.leaves.keys fits.leaves.fresh fits.roots (omega arith)

  pub keep_fail_entry : (values : List Value) → Fits (after st (FailEntry values))
  keep_fail_entry values = journal_fits (journal_of st.records) st.records.ring st.records.bucket (st.records.entry ∷ st.records.log) fits.leaves.keys fits.leaves.fresh fits.roots (omega arith)

  pub sealed_keys : (needed prio : ℕ) (rest : List ℕ) (root word level : ℕ) → CanSealNext st needed → (i : ℕ) → IsLive (st.leaves i).role
      → LeafKeys (record { waiting = []; entry = next_entry st.records needed prio rest root word level; stage = Fixed; newest = st.records.newest; older = st.records.older; index = st.records.index }) (st.records.nodes (st.leaves i).bucket).sets (st.sent (st.leaves i).bucket) (st.leaves i)
  sealed_keys needed prio rest root word level on i l = keys_seal (journal_of st.records) (st.records.nodes (st.leaves i).bucket).sets (st.sent (st.leaves i).bucket) (st.leaves i) needed prio rest root word level on.0 (on.3 i (live_some (st.leaves i).role l)) (fits.leaves.keys i l)

  -- a seal makes no barrier
  pub sealed_fresh : st.records.stage ≡ Nothing → (i : ℕ) → IsLive (st.leaves i).role → (st.records.nodes (st.leaves i).bucket).sent ≡ true → AllFrom (suc (ready_number Fixed st.records.newest.number)) (st.leaves i).pending
  sealed_fresh is i l e = subst (λ (g : Stage). AllFrom (suc (ready_number g st.records.newest.number)) (st.leaves i).pending) is (fits.leaves.fresh i l e)

  pub keep_seal : (needed prio : ℕ) (rest : List ℕ) → IsEnabled st (Seal needed prio rest) → Fits (after st (Seal needed prio rest))
  keep_seal needed prio rest on =
      journal_fits (record { waiting = []; entry = same_root st.records needed prio rest; stage = Fixed; newest = st.records.newest; older = st.records.older; index = st.records.index }) st.records.ring st.records.bucket st.records.log
      (sealed_keys needed prio rest st.records.newest.root st.records.newest.word st.records.newest.level on)
      (sealed_fresh on.0)
      (let h = fits.roots in record {
        newest = h.newest;
        entry = λ _. h.newest;
        newest_stays = h.newest_stays;
        entry_stays = λ c _. h.newest_stays (calm_newest st.change st.records.stage st.records.newest.number c h.order on.0);
        order = order_stage st.change st.records.stage Fixed st.records.newest.number (λ e. absurd (fixed_some e)) h.order;
        waiting = λ s _. refl;
        sealed = λ _. h.waiting;
        index = h.index;
      }) (omega arith)

  pub keep_write : (values : List Value) → IsEnabled st (WriteEntry values) → Fits (after st (WriteEntry values))
  keep_write values on =
      let some : st.records.stage ≢ Nothing = not_nothing st.records.stage Ready on ready_some in
      journal_fits (record (journal_of st.records) { stage = Sent }) st.records.ring st.records.bucket (st.records.entry ∷ st.records.log)
      (λ i l. keys_stage (journal_of st.records) (st.records.nodes (st.leaves i).bucket).sets (st.records.nodes (st.leaves i).bucket).sets (st.sent (st.leaves i).bucket) (st.sent (st.leaves i).bucket) (st.leaves i) Sent (sent_top st.records.stage st.records.newest.number some) (λ _. some) (λ s. refl) (λ y m. m)
      (λ _. (fits.leaves.keys i l).sent_low (subst IsReady (sym on) tt)) (fits.leaves.keys i l))
      (λ i l e. subst (λ (g : Stage). AllFrom (suc (ready_number g st.records.newest.number)) (st.leaves i).pending) on (fits.leaves.fresh i l e))
      (let h = fits.roots in record {
        newest = h.newest;
        entry = λ _. h.entry some;
        newest_stays = h.newest_stays;
        entry_stays = λ c _. h.entry_stays c some;
        order = order_stage st.change st.records.stage Sent st.records.newest.number (λ e. absurd (sent_some e)) h.order;
        waiting = h.waiting;
        sealed = λ _. h.sealed some;
        index = h.index;
      }) (omega arith)

  pub keep_durable : IsEnabled st MakeDurable → Inv st.records → Fits (after st MakeDurable)
  keep_durable on inv =
      let some : st.records.stage ≢ Nothing = not_nothing st.records.stage Safe on safe_some in
      let f = inv.follows some in
      let h = fits.roots in
      journal_fits (record { waiting = st.records.waiting; entry = st.records.entry; stage = Nothing; newest = st.records.entry; older = live st.records.entry.last_seq (st.records.newest ∷ st.records.older); index = st.records.entry.keys ++ st.records.index }) _ st.records.bucket st.records.log
      (λ i l. keys_sealed (journal_of st.records) (st.records.nodes (st.leaves i).bucket).sets (st.sent (st.leaves i).bucket) (st.leaves i) some (subst IsReady (sym on) tt) f.number inv.count (fits.leaves.node i l).pending_inside (fits.leaves.keys i l))
      (λ i l e. subst (λ (n : ℕ). AllFrom (suc n) (st.leaves i).pending) (sym f.number) (subst (λ (g : Stage). AllFrom (suc (ready_number g st.records.newest.number)) (st.leaves i).pending) on (fits.leaves.fresh i l e)))
      (record {
        newest = h.entry some;
        entry = λ ne. absurd (ne refl);
        newest_stays = λ s. h.entry_stays (newest_calm st.change st.records.entry.number s) some;
        entry_stays = λ c ne. absurd (ne refl);
        order = order_next st.change st.records.stage st.records.newest.number st.records.entry.number f.number h.order;
        waiting = h.waiting;
        sealed = λ ne. absurd (ne refl);
        index = λ s ge. ap ref_said (append_none st.records.entry.keys st.records.index s (h.sealed some s ge)) ∙ h.index s ge;
      }) (let n = f.number in omega arith)

  -- a key of leaf i
  pub keep_insert : (i : ℕ) (key : Key) → IsEnabled st (Insert i key) → Inv st.records → Fits (after st (Insert i key))
  keep_insert i key on inv = record {
    leaves = record {
      node = λ k l. by_test k i (λ t. LeafNode (st.records.nodes (st.leaves k).bucket) (st.sent (st.leaves k).bucket) (record (st.leaves k) { pending = if t then y ∷ (st.leaves k).pending else (st.leaves k).pending })) (λ e. more k l e) (λ _. same_node k l);
      firm = fits.leaves.firm;
      keys = λ k l. by_test k i (λ t. LeafKeys (journal_of (after st (Insert i key)).records) (st.records.nodes (st.leaves k).bucket).sets (st.sent (st.leaves k).bucket) (record (st.leaves k) { pending = if t then y ∷ (st.leaves k).pending else (st.leaves k).pending }))
          (λ e. keys_insert (journal_of st.records) (st.records.nodes (st.leaves k).bucket).sets (st.sent (st.leaves k).bucket) (st.leaves k) key (λ ne. low ne) (fits.leaves.keys k l))
          (λ ne. keys_waiting (journal_of st.records) (st.records.nodes (st.leaves k).bucket).sets (st.sent (st.leaves k).bucket) (st.leaves k) (key ∷ st.records.waiting) (λ s r. front_miss key st.records.waiting s (elsewhere k l ne s r)) (fits.leaves.keys k l));
      used = fits.leaves.used;
      below = fits.leaves.below;
      fresh = λ k l e. by_test k i (λ t. AllFrom (suc (ready_number st.records.stage st.records.newest.number)) (if t then y ∷ (st.leaves k).pending else (st.leaves k).pending)) (λ _. newer k l e) (λ _. fits.leaves.fresh k l e);
      lost = λ k l e. by_test k i (λ t. LostFits st.records.newest.number (st.records.nodes (st.leaves k).bucket).last.keys (record (st.leaves k) { pending = if t then y ∷ (st.leaves k).pending else (st.leaves k).pending })) (λ _. lost_more k l e) (λ _. lost_same k l e);
      apart = fits.leaves.apart;
      drafts = λ k d. by_test k i (λ t. DraftFits (st.records.nodes (st.leaves k).bucket) (st.sent (st.leaves k).bucket) (record (st.leaves k) { pending = if t then y ∷ (st.leaves k).pending else (st.leaves k).pending }))
          (λ e. absurd (free_draft (st.leaves k).role (ap (λ (n : ℕ). (st.leaves n).role) e ∙ on.0) d)) (λ _. same_draft k d);
    };
    tree = record {
      inner = λ x l. inner_kept st.leaves (after st (Insert i key)).leaves st.inner_nodes st.inner_nodes (λ i l. (refl, refl, refl, refl, refl)) (λ x l. (refl, refl, refl, refl, refl, refl)) st.change _ x (st.inner_nodes x) (st.inner_nodes x).role (λ s. s) (fits.tree.inner x l);
      inner_used = fits.tree.inner_used;
    };
    roots = (let h = fits.roots in record {
      newest = h.newest;
      entry = h.entry;
      newest_stays = h.newest_stays;
      entry_stays = h.entry_stays;
      order = h.order;
      waiting = λ s ge. front_miss key st.records.waiting s (λ c. let r = in_key i refl s c in let r1 = r.1 in let b = fits.leaves.below i (free_live (st.leaves i).role on.0) in absurd (omega arith)) ∙ h.waiting s ge;
      sealed = h.sealed;
      index = h.index;
    });
    buckets = record {
      one_leaf = fits.buckets.one_leaf;
      one_inner = fits.buckets.one_inner;
      one_kind = fits.buckets.one_kind;
      named = fits.buckets.named;
      inner_named = fits.buckets.inner_named;
    };
    quiet = record {
      calm = fits.quiet.calm;
      calm_inner = fits.quiet.calm_inner;
    };
  }
    where
      y : Pending
      y = record { number = next_number st.records; key = key }

      lost_more : (k : ℕ) → IsLive (st.leaves k).role → (st.records.nodes (st.leaves k).bucket).failed ≡ true → LostFits st.records.newest.number (st.records.nodes (st.leaves k).bucket).last.keys (record (st.leaves k) { pending = y ∷ (st.leaves k).pending })
      lost_more k l e =
          let f = fits.leaves.lost k l e in
          let t = top_le st.records.stage st.records.newest.number in
          record { inside = f.inside; held = λ s none_. f.held s (λ z m. none_ z (subst (λ (p : List Pending). In z p) (sym (upto_later st.records.newest.number y (st.leaves k).pending (omega arith))) m)) }

      lost_same : (k : ℕ) → IsLive (st.leaves k).role → (st.records.nodes (st.leaves k).bucket).failed ≡ true → LostFits st.records.newest.number (st.records.nodes (st.leaves k).bucket).last.keys (record (st.leaves k) { pending = (st.leaves k).pending })
      lost_same k l e = let f = fits.leaves.lost k l e in record { inside = f.inside; held = f.held }

      newer : (k : ℕ) → IsLive (st.leaves k).role → (st.records.nodes (st.leaves k).bucket).sent ≡ true → AllFrom (suc (ready_number st.records.stage st.records.newest.number)) (y ∷ (st.leaves k).pending)
      newer k l e x m = elim m [ inl is ↦ (let n = ap (λ (p : Pending). p.number) is in let t = ready_le st.records.stage st.records.newest.number in omega arith) | inr r ↦ fits.leaves.fresh k l e x r ]

      free_draft : (r : Role) → r ≡ Free → r ≡ Draft → ⊥
      free_draft r a b = cc2 (sym a ∙ b)
        where
          cc2 : Free ≡ Draft → ⊥
          cc2 e = cc

      low : st.records.stage ≢ Nothing → st.records.entry.last_seq ≤ suc st.records.newest.number
      low ne = (inv.follows ne).top

      in_key : (k : ℕ) → k ≡ i → (s : ℕ) → Speaks key s → InRange (st.leaves k) s
      in_key k e s c =
          let r = spoken_range key s c in
          let r0 = r.0 in
          let r1 = r.1 in
          let w = subst (λ (n : ℕ). IsWithin (st.leaves n) key) (sym e) on.1 in
          let w0 = w.0 in
          let w1 = w.1 in
          (omega arith, omega arith)

      elsewhere : (k : ℕ) → IsLive (st.leaves k).role → k ≢ i → (s : ℕ) → InRange (st.leaves k) s → Speaks key s → ⊥
      elsewhere k l ne s r c =
          elim (fits.leaves.apart k i s l (free_live (st.leaves i).role on.0) r (in_key i refl s c)) [
            | inl e ↦ ne e
            | inr p ↦ no (st.leaves k).role (subst (λ (t : Role). Partners (st.leaves k).role t) on.0 p)
          ]
        where
          no : (t : Role) → Partners t Free → ⊥
          no NoNode p = p
          no Draft p = p
          no Free p = p
          no Leaving p = p
          no Coming p = p

      more : (k : ℕ) → IsLive (st.leaves k).role → k ≡ i → LeafNode (st.records.nodes (st.leaves k).bucket) (st.sent (st.leaves k).bucket) (record (st.leaves k) { pending = y ∷ (st.leaves k).pending })
      more k l e = let n = fits.leaves.node k l in record {
        last = n.last;
        sets_inside = n.sets_inside;
        sent_inside = n.sent_inside;
        pending_inside = λ s out. front_miss key (keys_of (st.leaves k).pending) s (λ c. out (in_key k e s c)) ∙ n.pending_inside s out;
      }

      same_node : (k : ℕ) → IsLive (st.leaves k).role → LeafNode (st.records.nodes (st.leaves k).bucket) (st.sent (st.leaves k).bucket) (record (st.leaves k) { pending = (st.leaves k).pending })
      same_node k l = fits.leaves.node k l

      same_draft : (k : ℕ) → (st.leaves k).role ≡ Draft → DraftFits (st.records.nodes (st.leaves k).bucket) (st.sent (st.leaves k).bucket) (record (st.leaves k) { pending = (st.leaves k).pending })
      same_draft k d = fits.leaves.drafts k d

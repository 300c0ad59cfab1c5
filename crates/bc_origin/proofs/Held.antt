-- What each event of the records keeps: all keys that they have, have a property.
use Rattle.std.proofs.Common.{◌≡◌, ◌⊎◌, inl, inr, ℕ, Bool, true, false, ◌∷◌, refl, sym, subst, if◌then◌else◌}
use Rattle.bc_key.specs.declared.key.Key.{Key}
use Rattle.bc_meta.specs.Entries.{all_keys, live}
use Rattle.bc_meta.specs.Tree.{NodeSet, Owner, set_keys}
use Rattle.bc_meta.specs.Layout.{Layout}
use Rattle.bc_meta.specs.Events.{AddKey, AddSet, Barrier, BeginBucket, Elsewhere, Event, FailElsewhere, FailEntry, FailFill, FailSet, Fill, GiveUp, MakeDurable, NewNode, Reuse, SealEntry, WriteEntry}
use Rattle.bc_meta.specs.Records.{Node, Records, failed_node, loose_node, new_node, put, sent_node, stable_node}
use Rattle.bc_meta.specs.Places.{Places, places_after}
use Rattle.bc_meta.proofs.Lists.{by_test}
use Rattle.bc_origin.proofs.Lists.{AllHave, all_join, all_live}

module _ (P : Key → Type 0) where
  -- a node's sets, and the one behind them
  pub record Has (n : Node) : Type 0 where
    pub sets : AllHave P (set_keys n.sets)
    pub last : AllHave P n.last.keys

  -- of a leaf, what may be read there is known
  abbrev pub IsFirm : Node → Bool → Type 0
  IsFirm n own = (n.owner.leaf ≡ true) × ((n.loose ≡ false) ⊎ (own ≡ true) ⊎ (n.sent ≡ true))

  pub record Held (r : Records) (own : ℕ → Bool) : Type 0 where
    pub waiting : AllHave P r.waiting
    pub entry : AllHave P r.entry.keys
    pub durable : AllHave P (all_keys (r.newest ∷ r.older))
    pub nodes : (q : ℕ) → IsFirm (r.nodes q) (own q) → Has (r.nodes q)

  -- a further set, of a node that the run wrote
  abbrev pub BringsSet : Records → (ℕ → Bool) → ℕ → NodeSet → Type 0
  BringsSet r own q set = (own q ≡ true) × ((r.nodes q).owner.leaf ≡ true → AllHave P set.keys)

  abbrev pub Brings : Records → (ℕ → Bool) → Event → Type 0
  Brings r own (AddKey key) = P key
  Brings r own (SealEntry entry unused) = AllHave P entry.keys
  Brings r own (AddSet q set values unused) = BringsSet r own q set
  Brings r own (FailSet q set values) = BringsSet r own q set
  Brings r own (NewNode q owner set values) = owner.leaf ≡ true → AllHave P set.keys
  Brings r own e = Unit {0}

  no_true : false ≡ true → ⊥
  no_true e = cc

  no_false : true ≡ false → ⊥
  no_false e = cc

  -- ---- nodes

  stable_has : (n : Node) (own : Bool) → (IsFirm n own → Has n) → IsFirm (stable_node n) own → Has (stable_node n)
  stable_has n own h f = let k = go n.sent refl f in record { sets = k.0; last = k.1 }
    where
      go : (b : Bool) → n.sent ≡ b
          → (n.owner.leaf ≡ true) × (((if b then false else n.loose) ≡ false) ⊎ (own ≡ true) ⊎ (false ≡ true))
          → AllHave P (set_keys (if b then n.last ∷ n.sets else n.sets)) × AllHave P n.last.keys
      go true is f = let k = h (f.0, inr (inr is)) in (all_join P n.last.keys (set_keys n.sets) k.last k.sets, k.last)
      go false is (leaf, inl e) = let k = h (leaf, inl e) in (k.sets, k.last)
      go false is (leaf, inr (inl e)) = let k = h (leaf, inr (inl e)) in (k.sets, k.last)
      go false is (leaf, inr (inr e)) = absurd (no_true e)

  abbrev AtNodes : (ℕ → Node) → (ℕ → Bool) → Type 0
  AtNodes nodes own = (q : ℕ) → IsFirm (nodes q) (own q) → Has (nodes q)

  -- another node in one bucket
  with_node : (nodes : ℕ → Node) (own : ℕ → Bool) (p : ℕ) (x : Node) → (IsFirm x (own p) → Has x) → AtNodes nodes own → AtNodes (put nodes p x) own
  with_node nodes own p x new old q =
      by_test q p (λ b. IsFirm (if b then x else nodes q) (own q) → Has (if b then x else nodes q))
      (λ e f. new (subst (λ (k : ℕ). IsFirm x (own k)) e f)) (λ ne f. old q f)

  -- and whose it is
  with_own : (nodes : ℕ → Node) (own : ℕ → Bool) (p : ℕ) (x : Node) (mine : Bool) → (IsFirm x mine → Has x) → AtNodes nodes own → AtNodes (put nodes p x) (put own p mine)
  with_own nodes own p x mine new old q =
      by_test q p (λ b. IsFirm (if b then x else nodes q) (if b then mine else own q) → Has (if b then x else nodes q))
      (λ e f. new f) (λ ne f. old q f)

  loose_has : IsFirm loose_node false → Has loose_node
  loose_has (leaf, inl e) = absurd (no_false e)
  loose_has (leaf, inr (inl e)) = absurd (no_true e)
  loose_has (leaf, inr (inr e)) = absurd (no_true e)

  new_has : (owner : Owner) (set : NodeSet) → (owner.leaf ≡ true → AllHave P set.keys) → IsFirm (new_node owner set) true → Has (new_node owner set)
  new_has owner set b f = record { sets = λ key i. absurd i; last = b f.0 }

  -- ---- events

  pub keep : (w : Layout) (p : Places) (e : Event) → Brings p.records p.own e → Held p.records p.own
      → Held (places_after w p e).records (places_after w p e).own
  keep w p (AddKey key) b h = record {
    waiting = λ k i. elim i [ inl e ↦ subst P (sym e) b | inr j ↦ h.waiting k j ];
    entry = h.entry;
    durable = h.durable;
    nodes = h.nodes;
  }
  keep w p (BeginBucket q) b h = record { waiting = h.waiting; entry = h.entry; durable = h.durable; nodes = h.nodes }
  keep w p (SealEntry entry unused) b h = record { waiting = λ k i. absurd i; entry = b; durable = h.durable; nodes = h.nodes }
  keep w p (WriteEntry values) b h = record { waiting = h.waiting; entry = h.entry; durable = h.durable; nodes = h.nodes }
  keep w p (FailEntry values) b h = record { waiting = h.waiting; entry = h.entry; durable = h.durable; nodes = h.nodes }
  keep w p MakeDurable b h = record {
    waiting = h.waiting;
    entry = h.entry;
    durable = all_join P p.records.entry.keys (all_keys (live p.records.entry.last_seq (p.records.newest ∷ p.records.older))) h.entry
        (all_live P p.records.entry.last_seq (p.records.newest ∷ p.records.older) h.durable);
    nodes = h.nodes;
  }
  keep w p Barrier b h = record {
    waiting = h.waiting;
    entry = h.entry;
    durable = h.durable;
    nodes = λ q. stable_has (p.records.nodes q) (p.own q) (h.nodes q);
  }
  keep w p (AddSet q set values unused) b h = record {
    waiting = h.waiting;
    entry = h.entry;
    durable = h.durable;
    nodes = with_node p.records.nodes p.own q (sent_node set (p.records.nodes q))
        (λ f. record { sets = (h.nodes q (f.0, inr (inl b.0))).sets; last = b.1 f.0 }) h.nodes;
  }
  keep w p (FailSet q set values) b h = record {
    waiting = h.waiting;
    entry = h.entry;
    durable = h.durable;
    nodes = with_node p.records.nodes p.own q (failed_node set (p.records.nodes q))
        (λ f. record { sets = (h.nodes q (f.0, inr (inl b.0))).sets; last = b.1 f.0 }) h.nodes;
  }
  keep w p (Reuse q) b h = record {
    waiting = h.waiting;
    entry = h.entry;
    durable = h.durable;
    nodes = with_own p.records.nodes p.own q loose_node false loose_has h.nodes;
  }
  keep w p (NewNode q owner set values) b h = record {
    waiting = h.waiting;
    entry = h.entry;
    durable = h.durable;
    nodes = with_own p.records.nodes p.own q (new_node owner set) true (new_has owner set b) h.nodes;
  }
  keep w p (GiveUp unused) b h = record { waiting = h.waiting; entry = h.entry; durable = h.durable; nodes = h.nodes }
  keep w p (Fill q at values) b h = record {
    waiting = h.waiting;
    entry = h.entry;
    durable = h.durable;
    nodes = with_own p.records.nodes p.own q loose_node false loose_has h.nodes;
  }
  keep w p (FailFill q at values set) b h = record {
    waiting = h.waiting;
    entry = h.entry;
    durable = h.durable;
    nodes = with_own p.records.nodes p.own q loose_node false loose_has h.nodes;
  }
  keep w p (Elsewhere at values) b h = record { waiting = h.waiting; entry = h.entry; durable = h.durable; nodes = h.nodes }
  keep w p (FailElsewhere at values) b h = record { waiting = h.waiting; entry = h.entry; durable = h.durable; nodes = h.nodes }

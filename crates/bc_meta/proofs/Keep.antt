-- Each event keeps what the records read as.
use Rattle.std.proofs.Common.{◌≡◌, ◌≢◌, ◌⊎◌, inl, inr, ℕ, suc, ◌<◌, ◌≤◌, Bool, true, List, [], ◌∷◌, ◌++◌, refl, sym, ap, ◌∙◌, subst, arith, if◌then◌else◌, append_assoc}
use Rattle.bc_model.specs.Sector.{Value}
use Rattle.bc_key.specs.declared.key.Key.{Key}
use Rattle.bc_meta.specs.Keys.{Alike, last_ref}
use Rattle.bc_meta.specs.Facts.{In}
use Rattle.bc_meta.specs.Entries.{Entry, all_keys, live}
use Rattle.bc_meta.specs.Tree.{NodeSet, Owner, tree_list}
use Rattle.bc_meta.specs.Events.{AddKey, AddSet, Barrier, BeginBucket, Elsewhere, Event, FailElsewhere, FailEntry, FailFill, FailSet, Fill, GiveUp, MakeDurable, NewNode, Reuse, SealEntry, WriteEntry}
use Rattle.bc_meta.specs.Records.{Fixed, IsReady, Node, Nothing, ReadsRight, Ready, Records, RecordsAllow, Safe, Sent, Stage, after_barrier, loose_node, owners, put, records_after, settled_node, stable_node}
use Rattle.bc_meta.proofs.Lists.{by_test, alike_front}
use Rattle.bc_meta.proofs.Good.{Good, good_away, good_fewer, barrier_fewer, settled_barrier, settled_put, named_same, barrier_owner, put_owner}
use Rattle.bc_meta.proofs.Ring.{Count, count_in, count_live, live_in, in_live}

-- the sealed entry follows the durable one
pub record Follows (st : Records) : Type 0 where
  pub number : st.entry.number ≡ suc st.newest.number
  pub low : st.newest.last_seq ≤ st.entry.last_seq
  pub top : st.entry.last_seq ≤ suc st.newest.number

pub record Inv (st : Records) : Type 0 where
  pub durable : Good st.nodes st.unused (st.newest ∷ st.older) st.index st.newest.level st.newest.root st.newest.word
  pub sealed : st.stage ≢ Nothing → Good (λ p. settled_node st.stage (st.nodes p)) st.unused (st.entry ∷ live st.entry.last_seq (st.newest ∷ st.older)) (st.entry.keys ++ st.index) st.entry.level st.entry.root st.entry.word
  pub follows : st.stage ≢ Nothing → Follows st
  pub count : Count st.newest.last_seq (st.newest ∷ st.older) (suc st.newest.number)
  pub ringed : (x : Entry) → In x (st.newest ∷ st.older) → (b : ℕ) × In x (st.ring b)
  pub floor : st.floor ≤ st.newest.last_seq
  pub log : (x : Entry) → In x st.log → (x.number < st.newest.last_seq) ⊎ In x (st.newest ∷ st.older) ⊎ ((x ≡ st.entry) × IsReady st.stage)

pub ready_some : (g : Stage) → IsReady g → g ≢ Nothing
ready_some Nothing r = absurd r
ready_some Fixed r = absurd r
ready_some Ready r = λ e. absurd (cc)
ready_some Sent r = λ e. absurd (cc)
ready_some Safe r = λ e. absurd (cc)

ready_barrier : (g : Stage) → IsReady g → IsReady (after_barrier g)
ready_barrier Nothing r = r
ready_barrier Fixed r = absurd r
ready_barrier Ready r = r
ready_barrier Sent r = r
ready_barrier Safe r = r

some_barrier : (g : Stage) → after_barrier g ≢ Nothing → g ≢ Nothing
some_barrier Nothing ne = ne
some_barrier Fixed ne = λ e. absurd (cc)
some_barrier Ready ne = λ e. absurd (cc)
some_barrier Sent ne = λ e. absurd (cc)
some_barrier Safe ne = λ e. absurd (cc)

pub in_put : (ring : ℕ → List Entry) (b k : ℕ) (x e : Entry) → In x (ring k) → In x (put ring b (e ∷ ring b) k)
in_put ring b k x e i = by_test k b (λ t. In x (if t then e ∷ ring b else ring k)) (λ is. inr (subst (λ (n : ℕ). In x (ring n)) is i)) (λ _. i)

pub put_in : (ring : ℕ → List Entry) (b : ℕ) (e : Entry) → In e (put ring b (e ∷ ring b) b)
put_in ring b e = by_test b b (λ t. In e (if t then e ∷ ring b else ring b)) (λ _. inl refl) (λ ne. absurd (ne refl))

module _ (st : Records) (inv : Inv st) where
  -- one node's content changes, and no walk meets it
  elsewhere : (p : ℕ) (x : Node) → st.unused p ≡ true → Inv (record st { nodes = put st.nodes p x })
  elsewhere p x free = record {
    durable = good_away st.nodes st.unused (st.newest ∷ st.older) st.index st.newest.level st.newest.root st.newest.word p x free inv.durable;
    sealed = λ ne. good_fewer _ _ st.unused _ _ _ _ _ (settled_put st.stage st.nodes p x) (put_owner st.stage st.nodes p x) (good_away (λ q. settled_node st.stage (st.nodes q)) st.unused _ _ _ _ _ p (settled_node st.stage x) free (inv.sealed ne));
    follows = λ ne. let k = inv.follows ne in record { number = k.number; low = k.low; top = k.top };
    count = inv.count;
    floor = inv.floor;
    ringed = inv.ringed;
    log = inv.log;
  }

  -- nodes change, and all is read as before
  again : (nodes : ℕ → Node) (unused : ℕ → Bool) → ReadsRight (record st { nodes = nodes; unused = unused }) → Inv (record st { nodes = nodes; unused = unused })
  again nodes unused on = record {
    durable = record { same = λ c h. (on.0 c h).0; whole = λ c h. (on.0 c h).1; keeps = λ c h. (on.0 c h).2; named = λ c h. (on.0 c h).3 };
    sealed = λ ne. record { same = λ c h. (on.1 ne c h).0; whole = λ c h. (on.1 ne c h).1; keeps = λ c h. (on.1 ne c h).2; named = λ c h. (on.1 ne c h).3 };
    follows = λ ne. let k = inv.follows ne in record { number = k.number; low = k.low; top = k.top };
    count = inv.count;
    floor = inv.floor;
    ringed = inv.ringed;
    log = inv.log;
  }

  keep_add : (key : Key) → Inv (records_after st (AddKey key))
  keep_add key = record {
    durable = inv.durable;
    sealed = inv.sealed;
    follows = λ ne. let k = inv.follows ne in record { number = k.number; low = k.low; top = k.top };
    count = inv.count;
    floor = inv.floor;
    ringed = inv.ringed;
    log = inv.log;
  }

  keep_begin : (b : ℕ) → RecordsAllow st (BeginBucket b) → Inv (records_after st (BeginBucket b))
  keep_begin b on = record {
    durable = inv.durable;
    sealed = inv.sealed;
    follows = λ ne. let k = inv.follows ne in record { number = k.number; low = k.low; top = k.top };
    count = inv.count;
    floor = inv.floor;
    ringed = λ x i. let k = inv.ringed x i in
        let n = (count_in st.newest.last_seq (st.newest ∷ st.older) (suc st.newest.number) x inv.count i).0 in
        (k.0, by_test k.0 b (λ t. In x (if t then [] else st.ring k.0)) (λ is. let lt = on.1 x (subst (λ (m : ℕ). In x (st.ring m)) is k.1) in absurd (omega arith)) (λ _. k.1));
    log = inv.log;
  }

  keep_seal : (e : Entry) (unused : ℕ → Bool) → RecordsAllow st (SealEntry e unused) → Inv (records_after st (SealEntry e unused))
  keep_seal e unused on = record {
    durable = record { same = inv.durable.same; whole = inv.durable.whole; keeps = λ c h p is. inv.durable.keeps c h p (on.3 p is); named = inv.durable.named };
    sealed = λ _. record {
      same = λ c h. subst (λ (ks : List Key). Alike ((ks ++ all_keys (live e.last_seq (st.newest ∷ st.older))) ++ tree_list c e.level e.root) (ks ++ st.index)) (sym on.6) (joined st.waiting (all_keys (live e.last_seq (st.newest ∷ st.older))) (tree_list c e.level e.root) st.index (on.4 c h).0);
      whole = λ c h. (on.4 c h).1;
      keeps = λ c h. (on.4 c h).2;
      named = λ c h. named_same (owners (λ q. stable_node (st.nodes q))) (owners (λ q. settled_node Fixed (st.nodes q))) c (λ q. refl) e.level e.root e.word (on.4 c h).3;
    };
    follows = λ _. record { number = on.5; low = on.1; top = on.2 };
    count = inv.count;
    floor = inv.floor;
    ringed = inv.ringed;
    log = λ x i. elim (inv.log x i) [ inl lt ↦ inl lt | inr (inl k) ↦ inr (inl k) | inr (inr k) ↦ absurd (ready_some st.stage k.1 on.0) ];
  }
    where
      joined : (a b t index : List Key) → Alike (b ++ t) index → Alike ((a ++ b) ++ t) (a ++ index)
      joined a b t index h s = ap (λ (l : List Key). (last_ref l s)) (append_assoc a b t) ∙ alike_front a (b ++ t) index h s

  keep_write : (values : List Value) → RecordsAllow st (WriteEntry values) → Inv (records_after st (WriteEntry values))
  keep_write values on =
      let some : st.stage ≢ Nothing = ready_some st.stage (subst IsReady (sym on) tt) in
      record {
        durable = inv.durable;
        sealed = λ _. subst (λ (g : Stage). Good (λ p. settled_node g (st.nodes p)) st.unused (st.entry ∷ live st.entry.last_seq (st.newest ∷ st.older)) (st.entry.keys ++ st.index) st.entry.level st.entry.root st.entry.word) on (inv.sealed some);
        follows = λ _. let k = inv.follows some in record { number = k.number; low = k.low; top = k.top };
        count = inv.count;
        floor = inv.floor;
        ringed = inv.ringed;
        log = λ x i. elim i [ inl is ↦ inr (inr (is, tt)) | inr old ↦ elim (inv.log x old) [ inl lt ↦ inl lt | inr (inl k) ↦ inr (inl k) | inr (inr k) ↦ inr (inr (k.0, tt)) ] ];
      }

  keep_fail : (values : List Value) → RecordsAllow st (FailEntry values) → Inv (records_after st (FailEntry values))
  keep_fail values on = record {
    durable = inv.durable;
    sealed = inv.sealed;
    follows = λ ne. let k = inv.follows ne in record { number = k.number; low = k.low; top = k.top };
    count = inv.count;
    floor = inv.floor;
    ringed = inv.ringed;
    log = λ x i. elim i [ inl is ↦ inr (inr (is, subst IsReady (sym on) tt)) | inr old ↦ inv.log x old ];
  }

  keep_barrier : Inv (records_after st Barrier)
  keep_barrier = record {
    durable = good_fewer st.nodes _ st.unused _ _ _ _ _ (barrier_fewer st.nodes) (λ q. refl) inv.durable;
    sealed = λ ne. good_fewer (λ p. settled_node st.stage (st.nodes p)) _ st.unused _ _ _ _ _ (settled_barrier st.stage st.nodes) (λ q. barrier_owner st.stage (st.nodes q)) (inv.sealed (some_barrier st.stage ne));
    follows = λ ne. let k = inv.follows (some_barrier st.stage ne) in record { number = k.number; low = k.low; top = k.top };
    count = inv.count;
    floor = inv.floor;
    ringed = inv.ringed;
    log = λ x i. elim (inv.log x i) [ inl lt ↦ inl lt | inr (inl k) ↦ inr (inl k) | inr (inr k) ↦ inr (inr (k.0, ready_barrier st.stage k.1)) ];
  }

  -- the list with the sealed entry
  pub sealed_count : st.stage ≢ Nothing → Count st.entry.last_seq (st.entry ∷ live st.entry.last_seq (st.newest ∷ st.older)) (suc st.entry.number)
  sealed_count ne =
      let f = inv.follows ne in
      let n = f.number in
      let t = f.top in
      (refl, omega arith, subst (λ (m : ℕ). Count st.entry.last_seq (live st.entry.last_seq (st.newest ∷ st.older)) m) (sym f.number) (count_live st.newest.last_seq st.entry.last_seq (st.newest ∷ st.older) (suc st.newest.number) f.low f.top inv.count))

  keep_durable : RecordsAllow st MakeDurable → Inv (records_after st MakeDurable)
  keep_durable on =
      let some : st.stage ≢ Nothing = ready_some st.stage (subst IsReady (sym on) tt) in
      let f = inv.follows some in
      let g = subst (λ (x : Stage). Good (λ p. settled_node x (st.nodes p)) st.unused (st.entry ∷ live st.entry.last_seq (st.newest ∷ st.older)) (st.entry.keys ++ st.index) st.entry.level st.entry.root st.entry.word) on (inv.sealed some) in
      record {
        durable = record { same = g.same; whole = g.whole; keeps = g.keeps; named = g.named };
        sealed = λ ne. absurd (ne refl);
        follows = λ ne. absurd (ne refl);
        count = sealed_count some;
        floor = (let l = f.low in let g2 = inv.floor in omega arith);
        ringed = λ x i. elim i [
          | inl is ↦ (st.bucket, subst (λ (y : Entry). In y (put st.ring st.bucket (st.entry ∷ st.ring st.bucket) st.bucket)) (sym is) (put_in st.ring st.bucket st.entry))
          | inr r ↦ (let k = inv.ringed x (live_in st.entry.last_seq (st.newest ∷ st.older) x r) in (k.0, in_put st.ring st.bucket k.0 x st.entry k.1))
        ];
        log = λ x i. elim (inv.log x i) [
          | inl lt ↦ inl (let l = f.low in omega arith)
          | inr (inl k) ↦ elim (in_live st.newest.last_seq st.entry.last_seq (st.newest ∷ st.older) (suc st.newest.number) x inv.count k) [ inl lt ↦ inl lt | inr m ↦ inr (inl (inr m)) ]
          | inr (inr k) ↦ inr (inl (inl k.0))
        ];
      }

  keep_set : (p : ℕ) (set : NodeSet) (values : List Value) (unused : ℕ → Bool) → RecordsAllow st (AddSet p set values unused) → Inv (records_after st (AddSet p set values unused))
  keep_set p set values unused on = again _ unused on.1

  keep_fail_set : (p : ℕ) (set : NodeSet) (values : List Value) → RecordsAllow st (FailSet p set values) → Inv (records_after st (FailSet p set values))
  keep_fail_set p set values on = again _ st.unused on.1

  keep_reuse : (p : ℕ) → RecordsAllow st (Reuse p) → Inv (records_after st (Reuse p))
  keep_reuse p on = elsewhere p _ on

  keep_new : (p : ℕ) (owner : Owner) (set : NodeSet) (values : List Value) → RecordsAllow st (NewNode p owner set values) → Inv (records_after st (NewNode p owner set values))
  keep_new p owner set values on = elsewhere p _ on

  keep_give : (unused : ℕ → Bool) → RecordsAllow st (GiveUp unused) → Inv (records_after st (GiveUp unused))
  keep_give unused on = again st.nodes unused on

pub keep : (st : Records) (e : Event) → RecordsAllow st e → Inv st → Inv (records_after st e)
keep st (AddKey key) on inv = keep_add st inv key
keep st (BeginBucket b) on inv = keep_begin st inv b on
keep st (SealEntry e unused) on inv = keep_seal st inv e unused on
keep st (WriteEntry values) on inv = keep_write st inv values on
keep st (FailEntry values) on inv = keep_fail st inv values on
keep st Barrier on inv = keep_barrier st inv
keep st MakeDurable on inv = keep_durable st inv on
keep st (AddSet p set values unused) on inv = keep_set st inv p set values unused on
keep st (FailSet p set values) on inv = keep_fail_set st inv p set values on
keep st (Reuse p) on inv = keep_reuse st inv p on
keep st (NewNode p owner set values) on inv = keep_new st inv p owner set values on
keep st (GiveUp unused) on inv = keep_give st inv unused on
keep st (Fill q at values) on inv = elsewhere st inv q loose_node on
keep st (FailFill q at values set) on inv = elsewhere st inv q loose_node on
keep st (Elsewhere at values) on inv = inv
keep st (FailElsewhere at values) on inv = inv

-- From an image to contents: what stands is found, and what is found was written.
use Rattle.std.proofs.Common.{true, ◌≡◌, ◌≢◌, ◌⊎◌, inl, inr, ℕ, zero, suc, ◌+◌, ◌-◌, ◌<◌, ◌≤◌, List, [], ◌∷◌, ◌++◌, length, Option, Some, None, refl, sym, ap, ◌∙◌, subst, arith, if◌then◌else◌, ◌*◌, Bool}
use Rattle.std.proofs.Math.Nat.{mul-add, mul-zero}
use Rattle.bc_model.specs.Sector.{Image}
use Rattle.bc_meta.specs.Facts.{In, IsAtBlock, Stand, scan, scan_on}
use Rattle.bc_meta.specs.Entries.{Entry}
use Rattle.bc_meta.specs.Tree.{NodeSet}
use Rattle.bc_meta.specs.Layout.{Layout, bucket_entries, entry_at, entry_len, is_within, node_end, node_sets, of_seq, ring_entries, set_at, set_len, sets_from, sets_in}
use Rattle.bc_meta.specs.Records.{MayHold, MayRead, MayStand, Node, Records, owners}
use Rattle.bc_meta.proofs.Left.{RingLeft}
use Rattle.bc_meta.proofs.Lists.{by_test, decide}

-- What the device keeps of a state in an image, and the premise on torn records: what is found behind what stands was written there.
pub record NodeLeft (w : Layout) (n : Node) (c : Image) (q : ℕ) : Type 0 where
  pub seq : ℕ
  pub next : ℕ
  pub stands : Stand (set_len w) (set_at w c n.owner seq) (w.begins n.owner) n.sets next
  pub some : n.sets ≢ []
  pub inside : next ≤ node_end w n.owner
  pub within : is_within w q n.owner ≡ true
  pub chance : (e : NodeSet) → set_at w c n.owner seq next ≡ Some e → MayStand n × (e ≡ n.last)
  pub blank : MayStand n → set_at w c n.owner seq (next + set_len w n.last) ≡ None

pub record ImageLeft (w : Layout) (st : Records) (c : Image) : Type 0 where
  pub ring_next : ℕ → ℕ
  pub in_ring : (b : ℕ) → b < w.journal ⊎ (st.ring b ≡ [])
  pub ring : (b : ℕ) → b < w.journal → Stand (entry_len w) (entry_at w c b) (w.first b) (st.ring b) (ring_next b)
  pub ring_inside : (b : ℕ) → b < w.journal → ring_next b ≤ w.first b + w.bucket_sectors
  pub ring_chance : (b p : ℕ) (e : Entry) → b < w.journal → IsAtBlock w.block (w.first b) p → entry_at w c b p ≡ Some e → (e.number < st.floor) ⊎ In e st.log
  pub nodes : (q : ℕ) → ((st.nodes q).loose ≡ true) ⊎ (sets_in w c (st.nodes q).owner q ≡ (st.nodes q).sets) ⊎ NodeLeft w (st.nodes q) c q

-- a scan over what stands comes to its end with just that
pub scan_stands : {A : Type 0} → (len : A → ℕ) (found : ℕ → Option A) (start : ℕ) (es : List A) (q more : ℕ) → Stand len found start es q → (n : ℕ) → n ≡ length es + more → scan len found n start [] ≡ scan len found more q es
scan_stands len found start [] q more h n is = ap (λ (k : ℕ). scan len found k start []) (omega arith) ∙ ap (λ (k : ℕ). scan len found more k []) (sym h)
scan_stands len found start (e ∷ es) q more h n is =
    scan_stands len found start es h.0 (suc more) h.1 n (omega arith)
    ∙ ap (λ o. scan_on (scan len found more) len h.0 es o) h.2
    ∙ ap (λ (k : ℕ). scan len found more k (e ∷ es)) (sym h.3)

pub stands_long : {A : Type 0} → (len : A → ℕ) (found : ℕ → Option A) (start : ℕ) (es : List A) (q : ℕ) → ((e : A) → 0 < len e) → Stand len found start es q → start + length es ≤ q
stands_long len found start [] q some h = omega arith
stands_long len found start (e ∷ es) q some h = let ih = stands_long len found start es h.0 some h.1 in let is = h.3 in let s = some e in omega arith

pub scan_keeps : {A : Type 0} → (len : A → ℕ) (found : ℕ → Option A) (n p : ℕ) (acc : List A) (x : A) → In x acc → In x (scan len found n p acc)
scan_keeps len found zero p acc x i = i
scan_keeps {A} len found (suc n) p acc x i = go (found p) (λ q e. scan_keeps len found n q (e ∷ acc) x (inr i))
  where
    go : (o : Option A) → ((q : ℕ) (e : A) → In x (scan len found n q (e ∷ acc))) → In x (scan_on (scan len found n) len p acc o)
    go None ih = i
    go (Some e) ih = ih (p + len e) e

-- places behind whole blocks
pub more_blocks : (block start n q : ℕ) → (k : ℕ) × (n ≡ block * k) → IsAtBlock block (start + n) q → IsAtBlock block start q
more_blocks block start n q whole at = (whole.0 + at.0, (let m = mul-add block whole.0 at.0 in let e = whole.1 in let f = at.1 in omega arith))

pub next_block : (block start n p : ℕ) → (k : ℕ) × (n ≡ block * k) → IsAtBlock block start p → IsAtBlock block start (p + n)
next_block block start n p whole at = (at.0 + whole.0, (let m = mul-add block at.0 whole.0 in let e = whole.1 in let f = at.1 in omega arith))

pub first_block : (block start : ℕ) → IsAtBlock block start start
first_block block start = (0, (let z = mul-zero block in omega arith))

pub block_high : (block start p : ℕ) → IsAtBlock block start p → start ≤ p
block_high block start p at = let e = at.1 in omega arith

pub stand_at : {A : Type 0} → (block : ℕ) (len : A → ℕ) → ((e : A) → (k : ℕ) × (len e ≡ block * k)) → (found : ℕ → Option A) (start : ℕ) (es : List A) (next : ℕ) → Stand len found start es next → IsAtBlock block start next
stand_at block len whole found start [] next h = subst (λ (n : ℕ). IsAtBlock block start n) (sym h) (first_block block start)
stand_at block len whole found start (e ∷ es) next h = subst (λ (n : ℕ). IsAtBlock block start n) (sym h.3) (next_block block start (len e) h.0 (whole e) (stand_at block len whole found start es h.0 h.1))

-- each record of a scan stands somewhere
pub scan_found : {A : Type 0} → (block : ℕ) (len : A → ℕ) → ((e : A) → (k : ℕ) × (len e ≡ block * k)) → (found : ℕ → Option A) (n p : ℕ) (acc : List A) (x : A) → In x (scan len found n p acc) → In x acc ⊎ ((q : ℕ) × IsAtBlock block p q × (found q ≡ Some x))
scan_found block len whole found zero p acc x = λ i. inl i
scan_found {A} block len whole found (suc n) p acc x = go (found p) refl (λ q e. scan_found block len whole found n q (e ∷ acc) x)
  where
    go : (o : Option A) → found p ≡ o → ((q : ℕ) (e : A) → In x (scan len found n q (e ∷ acc)) → In x (e ∷ acc) ⊎ ((r : ℕ) × IsAtBlock block q r × (found r ≡ Some x))) → In x (scan_on (scan len found n) len p acc o) → In x acc ⊎ ((r : ℕ) × IsAtBlock block p r × (found r ≡ Some x))
    go None is ih i = inl i
    go (Some e) is ih i = elim (ih (p + len e) e i) [ inl (inl same) ↦ inr (p, first_block block p, is ∙ ap Some (sym same)) | inl (inr old) ↦ inl old | inr k ↦ inr (k.0, more_blocks block p (len e) k.0 (whole e) k.1, k.2) ]

in_append : {A : Type 0} → (xs ys : List A) (x : A) → In x xs ⊎ In x ys → In x (xs ++ ys)
in_append [] ys x (inl i) = absurd i
in_append [] ys x (inr i) = i
in_append (y ∷ xs) ys x (inl (inl is)) = inl is
in_append (y ∷ xs) ys x (inl (inr i)) = inr (in_append xs ys x (inl i))
in_append (y ∷ xs) ys x (inr i) = inr (in_append xs ys x (inr i))

append_in : {A : Type 0} → (xs ys : List A) (x : A) → In x (xs ++ ys) → In x xs ⊎ In x ys
append_in [] ys x i = inr i
append_in (y ∷ xs) ys x (inl is) = inl (inl is)
append_in (y ∷ xs) ys x (inr i) = elim (append_in xs ys x i) [ inl k ↦ inl (inr k) | inr k ↦ inr k ]

module _ (w : Layout) (st : Records) (c : Image) (h : ImageLeft w st c) where
  in_bucket : (b : ℕ) (x : Entry) → b < w.journal → In x (st.ring b) → In x (bucket_entries w c b)
  in_bucket b x lt i =
      let long = stands_long (entry_len w) (entry_at w c b) (w.first b) (st.ring b) (h.ring_next b) w.entries.some (h.ring b lt) in
      let inside = h.ring_inside b lt in
      subst (λ (l : List Entry). In x l) (sym (scan_stands (entry_len w) (entry_at w c b) (w.first b) (st.ring b) (h.ring_next b) (w.bucket_sectors - length (st.ring b)) (h.ring b lt) w.bucket_sectors (omega arith)))
      (scan_keeps (entry_len w) (entry_at w c b) (w.bucket_sectors - length (st.ring b)) (h.ring_next b) (st.ring b) x i)

  pub in_ring_entries : (n b : ℕ) (x : Entry) → b < n → In x (bucket_entries w c b) → In x (ring_entries w c n)
  in_ring_entries zero b x lt i = absurd (omega arith)
  in_ring_entries (suc n) b x lt i = go (in_ring_entries n b x) (decide b n)
    where
      go : (b < n → In x (bucket_entries w c b) → In x (ring_entries w c n)) → (b ≡ n) ⊎ (b ≢ n) → In x (bucket_entries w c n ++ ring_entries w c n)
      go ih (inl is) = in_append (bucket_entries w c n) (ring_entries w c n) x (inl (subst (λ (k : ℕ). In x (bucket_entries w c k)) is i))
      go ih (inr ne) = in_append (bucket_entries w c n) (ring_entries w c n) x (inr (ih (omega arith) i))

  ring_written : (n : ℕ) (x : Entry) → n ≤ w.journal → In x (ring_entries w c n) → (x.number < st.floor) ⊎ In x st.log
  ring_written zero x le i = absurd i
  ring_written (suc n) x le i =
      elim (append_in (bucket_entries w c n) (ring_entries w c n) x i) [
        | inl k ↦ elim (scan_found w.block (entry_len w) w.entries.whole (entry_at w c n) w.bucket_sectors (w.first n) [] x k) [ inl void ↦ absurd void | inr f ↦ h.ring_chance n f.0 x (omega arith) f.1 f.2 ]
        | inr k ↦ ring_written n x (omega arith) k
      ]

  pub ring_left : RingLeft st (ring_entries w c w.journal)
  ring_left = record {
    firm = λ b x i. elim (h.in_ring b) [ inl lt ↦ in_ring_entries w.journal b x lt (in_bucket b x lt i) | inr none_ ↦ absurd (subst (λ (l : List Entry). In x l) none_ i) ];
    written = λ x i. ring_written w.journal x (omega arith) i;
  }

-- where nothing is found the scan ends
scan_stop : {A : Type 0} → (len : A → ℕ) (found : ℕ → Option A) (n p : ℕ) (acc : List A) → found p ≡ None → scan len found n p acc ≡ acc
scan_stop len found zero p acc none_ = refl
scan_stop len found (suc n) p acc none_ = ap (λ o. scan_on (scan len found n) len p acc o) none_

scan_one : {A : Type 0} → (len : A → ℕ) (found : ℕ → Option A) (n p : ℕ) (acc : List A) (e : A) → 0 < n → found p ≡ Some e → found (p + len e) ≡ None → scan len found n p acc ≡ e ∷ acc
scan_one len found zero p acc e lt is none_ = absurd (omega arith)
scan_one len found (suc n) p acc e lt is none_ = ap (λ o. scan_on (scan len found n) len p acc o) is ∙ scan_stop len found n (p + len e) (e ∷ acc) none_

first_stands : {A : Type 0} → (len : A → ℕ) (found : ℕ → Option A) (start : ℕ) (es : List A) (q : ℕ) → es ≢ [] → Stand len found start es q → (e : A) × (found start ≡ Some e)
first_stands len found start [] q ne h = absurd (ne refl)
first_stands len found start (e ∷ []) q ne h = (e, subst (λ (k : ℕ). found k ≡ Some e) h.1 h.2)
first_stands len found start (e ∷ f ∷ es) q ne h = first_stands len found start (f ∷ es) h.0 (λ k. absurd (cc)) h.1

of_seq_some : (seq : ℕ) (o : Option NodeSet) (e : NodeSet) → of_seq seq o ≡ Some e → (o ≡ Some e) × (e.seq ≡ seq)
of_seq_some seq None e = λ h. absurd (cc)
of_seq_some seq (Some x) e =
    by_test x.seq seq (λ b. (if b then Some x else None) ≡ Some e → (Some x ≡ Some e) × (e.seq ≡ seq))
    (λ is h. (h, same x e h is)) (λ ne h. absurd (cc))
  where
    same : (x e : NodeSet) → Some x ≡ Some e → x.seq ≡ seq → e.seq ≡ seq
    same x e h is = cc

module _ (w : Layout) (n : Node) (c : Image) (q : ℕ) (h : NodeLeft w n c q) where
  read_as : sets_in w c n.owner q ≡ scan (set_len w) (set_at w c n.owner h.seq) w.node_sectors (w.begins n.owner) []
  read_as =
      let f = first_stands (set_len w) (set_at w c n.owner h.seq) (w.begins n.owner) n.sets h.next h.some h.stands in
      let k = of_seq_some h.seq (w.sets.found c n.owner (node_end w n.owner) (w.begins n.owner)) f.0 f.1 in
      ap (λ (b : Bool). if b then sets_from w c n.owner (w.sets.found c n.owner (node_end w n.owner) (w.begins n.owner)) else []) h.within ∙ ap (λ o. sets_from w c n.owner o) k.0 ∙ ap (λ (m : ℕ). scan (set_len w) (set_at w c n.owner m) w.node_sectors (w.begins n.owner) []) k.1

  more : ℕ
  more = w.node_sectors - length n.sets

  to_next : sets_in w c n.owner q ≡ scan (set_len w) (set_at w c n.owner h.seq) (w.node_sectors - length n.sets) h.next n.sets
  to_next =
      let long = stands_long (set_len w) (set_at w c n.owner h.seq) (w.begins n.owner) n.sets h.next w.sets.some h.stands in
      let inside = h.inside in
      read_as ∙ scan_stands (set_len w) (set_at w c n.owner h.seq) (w.begins n.owner) n.sets h.next (w.node_sectors - length n.sets) h.stands w.node_sectors (omega arith)

  -- a place of a whole set has room
  room : (e : NodeSet) → set_at w c n.owner h.seq h.next ≡ Some e → 0 < w.node_sectors - length n.sets
  room e is =
      let k = of_seq_some h.seq (w.sets.found c n.owner (node_end w n.owner) h.next) e is in
      let fits = w.sets.fits c n.owner (node_end w n.owner) h.next e k.0 in
      let some = w.sets.some e in
      let long = stands_long (set_len w) (set_at w c n.owner h.seq) (w.begins n.owner) n.sets h.next w.sets.some h.stands in
      omega arith

  pub node_left : MayHold n (sets_in w c n.owner q)
  node_left = go (set_at w c n.owner h.seq h.next) refl
    where
      none_after : (e : NodeSet) → MayStand n → e ≡ n.last → set_at w c n.owner h.seq (h.next + set_len w e) ≡ None
      none_after e stand same = ap (λ (x : NodeSet). set_at w c n.owner h.seq (h.next + set_len w x)) same ∙ h.blank stand

      go : (o : Option NodeSet) → set_at w c n.owner h.seq h.next ≡ o → MayHold n (sets_in w c n.owner q)
      go None is = inr (inl (to_next ∙ scan_stop (set_len w) (set_at w c n.owner h.seq) (w.node_sectors - length n.sets) h.next n.sets is))
      go (Some e) is =
          let k = h.chance e is in
          inr (inr (k.0, to_next ∙ scan_one (set_len w) (set_at w c n.owner h.seq) (w.node_sectors - length n.sets) h.next n.sets e (room e is) is (none_after e k.0 k.1) ∙ ap (λ (x : NodeSet). x ∷ n.sets) k.1))

pub choice_left : (w : Layout) (st : Records) (c : Image) → ImageLeft w st c → MayRead st.nodes (node_sets w (owners st.nodes) c)
choice_left w st c h q = elim (h.nodes q) [ inl l ↦ inl l | inr (inl is) ↦ inr (inl is) | inr (inr k) ↦ node_left w (st.nodes q) c q k ]

-- each entry that is read stands somewhere
pub ring_place : (w : Layout) (c : Image) (n : ℕ) (x : Entry) → In x (ring_entries w c n) → (b : ℕ) × (p : ℕ) × (b < n) × IsAtBlock w.block (w.first b) p × (entry_at w c b p ≡ Some x)
ring_place w c zero x i = absurd i
ring_place w c (suc n) x i =
    elim (append_in (bucket_entries w c n) (ring_entries w c n) x i) [
      | inl k ↦ elim (scan_found w.block (entry_len w) w.entries.whole (entry_at w c n) w.bucket_sectors (w.first n) [] x k) [ inl void ↦ absurd void | inr f ↦ (n, f.0, (omega arith), f.1, f.2) ]
      | inr k ↦ (let r = ring_place w c n x k in let lt = r.2 in (r.0, r.1, (omega arith), r.3, r.4))
    ]

scan_has : {A : Type 0} → (len : A → ℕ) (found : ℕ → Option A) (n p : ℕ) (acc : List A) (e : A) → 0 < n → found p ≡ Some e → In e (scan len found n p acc)
scan_has len found zero p acc e lt is = absurd (omega arith)
scan_has len found (suc n) p acc e lt is = subst (λ o. In e (scan_on (scan len found n) len p acc o)) (sym is) (scan_keeps len found n (p + len e) (e ∷ acc) e (inl refl))

-- what stands behind the firm ones is read
pub next_read : (w : Layout) (st : Records) (c : Image) (h : ImageLeft w st c) (b q : ℕ) (e : Entry) → b < w.journal → Stand (entry_len w) (entry_at w c b) (w.first b) (st.ring b) q → q ≤ w.first b + w.bucket_sectors → entry_at w c b q ≡ Some e → In e (ring_entries w c w.journal)
next_read w st c h b q e lt stands inside is =
    let long = stands_long (entry_len w) (entry_at w c b) (w.first b) (st.ring b) q w.entries.some stands in
    let fits = w.entries.fits c tt (w.first b + w.bucket_sectors) q e is in
    let some = w.entries.some e in
    in_ring_entries w st c h w.journal b e lt
    (subst (λ (l : List Entry). In e l) (sym (scan_stands (entry_len w) (entry_at w c b) (w.first b) (st.ring b) q (w.bucket_sectors - length (st.ring b)) stands w.bucket_sectors (omega arith)))
    (scan_has (entry_len w) (entry_at w c b) (w.bucket_sectors - length (st.ring b)) q (st.ring b) e (omega arith) is))

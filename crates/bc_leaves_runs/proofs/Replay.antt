-- The keys of entries cut to a leaf: there always are such pending keys.
use Rattle.std.proofs.Common.{◌≡◌, ◌⊎◌, inl, inr, ℕ, suc, ◌+◌, ◌-◌, ◌<◌, ◌≤◌, ◌%◌, ◌^◌, min, max, Bool, true, false, List, [], ◌∷◌, ◌++◌, length, Option, Some, None, refl, sym, ap, ◌∙◌, subst, arith, if◌then◌else◌, ◌&&◌, nat_le, nat_lt, replicate, lit<, lit≤}
use Rattle.std.proofs.Math.Nat.{mod-add-mod, mod-lt}
use Rattle.std.proofs.lemmas.List.{get_or-replicate}
use Rattle.bc_key.specs.Ptr.{IsZero, IsZeroFrom, no_ptr}
use Rattle.bc_key.specs.declared.key.Key.{Key}
use Rattle.bc_key.specs.declared.ptr.Ptr.{Ptr}
use Rattle.bc_key.specs.Key.{place_by, pointer_of, start_of}
use Rattle.bc_meta.specs.Entries.{Entry, all_keys}
use Rattle.bc_meta.specs.Facts.{In}
use Rattle.bc_meta.specs.Keys.{Ref, covers, ref_by}
use Rattle.bc_meta.proofs.Ring.{Count, count_of}
use Rattle.bc_meta.proofs.Lists.{by_le}
use Rattle.bc_meta.proofs.Example.{no_more}
use Rattle.bc_leaves.specs.Keys.{AnySpeaks, Speaks, last_said}
use Rattle.bc_leaves.specs.Fits.{Ordered}
use Rattle.bc_leaves.specs.Parts.{Pending, keys_of}
use Rattle.bc_leaves.proofs.Pend.{append_both, front_hit, front_more, none_of}
use Rattle.bc_leaves.proofs.Said.{spoken_range}
use Rattle.bc_leaves_runs.specs.Reopen.{LawReplays}
use Rattle.bc_leaves_runs.proofs.Reopen.{in_join}
use Rattle.bc_leaves_runs.proofs.Example.{start}

-- ---- a key cut to sectors from a to before b, with the pointer that counts

abbrev count_in : Option Ptr → ℕ
count_in None = 0
count_in (Some p) = 1

abbrev ptrs_in : Option Ptr → List Ptr
ptrs_in None = replicate 6 no_ptr
ptrs_in (Some p) = p ∷ replicate 5 no_ptr

count_ok : (o : Option Ptr) → count_in o ≤ 6
count_ok None = lit≤ tt
count_ok (Some p) = lit≤ tt

six : (o : Option Ptr) → length (ptrs_in o) ≡ 6
six None = refl
six (Some p) = refl

none_more : (o : Option Ptr) → IsZeroFrom (count_in o) (ptrs_in o)
none_more None i d from below = subst IsZero (sym (get_or-replicate 6 i no_ptr d below)) (refl, refl, refl)
none_more (Some p) i d from below = no_more p i d from below

abbrev key_of : (end size : ℕ) → end < 2 ^ 64 → size < 2 ^ 16 → Bool → Option Ptr → Key
key_of end size end_fits size_fits dirty o =
    record {
      inode = 0;
      end = end;
      size = size;
      dirty = dirty;
      csum = 0;
      count = count_in o;
      ptrs = ptrs_in o;
      inode_fits = lit< tt;
      end_fits = end_fits;
      size_fits = size_fits;
      csum_fits = lit< tt;
      count_fits = count_ok o;
      six_places = six o;
      no_more_ptrs = none_more o;
    }

key_pointer : (end size : ℕ) (e : end < 2 ^ 64) (s : size < 2 ^ 16) (dirty : Bool) (o : Option Ptr) → pointer_of (key_of end size e s dirty o) ≡ o
key_pointer end size e s dirty None = refl
key_pointer end size e s dirty (Some p) = refl

below_of : (x y n : ℕ) → x ≤ y → y < n → x < n
below_of x y n le lt = omega arith

mod_below : (x : ℕ) → x % 2 ^ 43 < 2 ^ 43
mod_below x = mod-lt x (lit< tt)

abbrev moved : ℕ → Ptr → Ptr
moved n p = record { dev = p.dev; offset = (p.offset + n) % 2 ^ 43; generation = p.generation; dev_fits = p.dev_fits; offset_fits = mod_below (p.offset + n); generation_fits = p.generation_fits }

abbrev move : ℕ → Option Ptr → Option Ptr
move n None = None
move n (Some p) = Some (moved n p)

-- the first sector that is left
abbrev cut_start : ℕ → ℕ → Key → ℕ
cut_start a b k = min (max a (start_of k)) (min b k.end)

end_ok : (b end : ℕ) → min b end ≤ end
end_ok b end = omega arith

size_ok : (a b end size : ℕ) → min b end - min (max a (end - size)) (min b end) ≤ size
size_ok a b end size = omega arith

abbrev cut : ℕ → ℕ → Key → Key
cut a b k =
    key_of (min b k.end) (min b k.end - cut_start a b k) (below_of (min b k.end) k.end (2 ^ 64) (end_ok b k.end) k.end_fits) (below_of (min b k.end - cut_start a b k) k.size (2 ^ 16) (size_ok a b k.end k.size) k.size_fits) k.dirty
    (move (cut_start a b k - start_of k) (pointer_of k))

-- where it begins, and which sectors it has
abbrev low : ℕ → ℕ → ℕ → ℕ → ℕ
low a b start end = min b end - (min b end - min (max a start) (min b end))

bounds : (a b start end s : ℕ) → low a b start end ≤ s → s < min b end → ((a ≤ s) × (s < b)) × ((start ≤ s) × (s < end))
bounds a b start end s le lt = ((omega arith, omega arith), (omega arith, omega arith))

within : (a b start end s : ℕ) → a ≤ s → s < b → start ≤ s → s < end → (low a b start end ≤ s) × (s < min b end)
within a b start end s p q r t = (omega arith, omega arith)

low_is : (a b start end s : ℕ) → a ≤ s → s < b → start ≤ s → s < end → low a b start end ≡ start + (min (max a start) (min b end) - start)
low_is a b start end s p q r t = omega arith

shift : (o n first later s : ℕ) → later ≡ first + n → later ≤ s → o + n + (s - later) ≡ o + (s - first)
shift o n first later s e le = omega arith

le_true : (a b : ℕ) → a ≤ b → nat_le a b ≡ true
le_true a b le = by_le a b (λ t. t ≡ true) (λ _. refl) (λ gt. absurd (omega arith))

and_true : (a b : Bool) → a ≡ true → b ≡ true → (a && b) ≡ true
and_true true true e f = refl
and_true true false e f = f
and_true false b e f = e

spoken_of : (k : Key) (s : ℕ) → start_of k ≤ s → s < k.end → Speaks k s
spoken_of k s le lt = and_true (nat_le (start_of k) s) (nat_lt s k.end) (le_true (start_of k) s le) (le_true (suc s) k.end lt)

cut_all_bounds : (a b : ℕ) (k : Key) (s : ℕ) → Speaks (cut a b k) s → ((a ≤ s) × (s < b)) × ((start_of k ≤ s) × (s < k.end))
cut_all_bounds a b k s c = let r = spoken_range (cut a b k) s c in bounds a b (start_of k) k.end s r.0 r.1

cut_range : (a b : ℕ) (k : Key) (s : ℕ) → Speaks (cut a b k) s → (a ≤ s) × (s < b)
cut_range a b k s c = (cut_all_bounds a b k s c).0

cut_speaks : (a b : ℕ) (k : Key) (s : ℕ) → Speaks (cut a b k) s → Speaks k s
cut_speaks a b k s c = let r = (cut_all_bounds a b k s c).1 in spoken_of k s r.0 r.1

speaks_cut : (a b : ℕ) (k : Key) (s : ℕ) → a ≤ s → s < b → Speaks k s → Speaks (cut a b k) s
speaks_cut a b k s p q c = let r = spoken_range k s c in let w = within a b (start_of k) k.end s p q r.0 r.1 in spoken_of (cut a b k) s w.0 w.1

cut_ref : (a b : ℕ) (k : Key) (s : ℕ) → a ≤ s → s < b → Speaks k s → ref_by (cut a b k) s (pointer_of (cut a b k)) ≡ ref_by k s (pointer_of k)
cut_ref a b k s p q c = ap (λ (o : Option Ptr). ref_by (cut a b k) s o) (key_pointer (min b k.end) (min b k.end - cut_start a b k) (below_of (min b k.end) k.end (2 ^ 64) (end_ok b k.end) k.end_fits) (below_of (min b k.end - cut_start a b k) k.size (2 ^ 16) (size_ok a b k.end k.size) k.size_fits) k.dirty (move (cut_start a b k - start_of k) (pointer_of k))) ∙ go (pointer_of k)
  where
    place : (x : Ptr) → place_by (moved (cut_start a b k - start_of k) x) (start_of (cut a b k)) s ≡ place_by x (start_of k) s
    place x =
        let r = spoken_range k s c in
        let e = low_is a b (start_of k) k.end s p q r.0 r.1 in
        let w = (within a b (start_of k) k.end s p q r.0 r.1).0 in
        mod-add-mod (x.offset + (cut_start a b k - start_of k)) (2 ^ 43) (s - start_of (cut a b k))
        ∙ ap (λ (n : ℕ). n % 2 ^ 43) (shift x.offset (cut_start a b k - start_of k) (start_of k) (low a b (start_of k) k.end) s e w)

    go : (o : Option Ptr) → ref_by (cut a b k) s (move (cut_start a b k - start_of k) o) ≡ ref_by k s o
    go None = refl
    go (Some x) = ap (λ (n : ℕ). some_ref k.dirty x.dev n x.generation) (place x)
      where
        some_ref : Bool → ℕ → ℕ → ℕ → Option Ref
        some_ref dirty dev n generation = Some (record { dirty = dirty; dev = dev; place = n; generation = generation })

-- within a and b the cut key says what the key says
cut_in : (a b : ℕ) (k : Key) (s : ℕ) (rest : Option (Option Ref)) → a ≤ s → s < b
    → (if covers (cut a b k) s then Some (ref_by (cut a b k) s (pointer_of (cut a b k))) else rest) ≡ (if covers k s then Some (ref_by k s (pointer_of k)) else rest)
cut_in a b k s rest p q = go (covers k s) refl (covers (cut a b k) s) refl
  where
    no : true ≡ false → ⊥
    no e = cc

    go : (x : Bool) → covers k s ≡ x → (y : Bool) → covers (cut a b k) s ≡ y → (if y then Some (ref_by (cut a b k) s (pointer_of (cut a b k))) else rest) ≡ (if x then Some (ref_by k s (pointer_of k)) else rest)
    go true e true f = ap (λ (o : Option Ref). some_said o) (cut_ref a b k s p q e)
      where
        some_said : Option Ref → Option (Option Ref)
        some_said o = Some o
    go true e false f = absurd (no (sym (speaks_cut a b k s p q e) ∙ f))
    go false e true f = absurd (no (sym (cut_speaks a b k s f) ∙ e))
    go false e false f = refl

abbrev cut_all : ℕ → ℕ → ℕ → List Key → List Pending
cut_all number a b [] = []
cut_all number a b (k ∷ ks) = record { number = number; key = cut a b k } ∷ cut_all number a b ks

-- the keys of these entries from a to b, each with its entry's number
abbrev replayed : ℕ → ℕ → List Entry → List Pending
replayed a b [] = []
replayed a b (e ∷ es) = cut_all e.number a b e.keys ++ replayed a b es

cut_keys : (n a b : ℕ) (ks : List Key) (s : ℕ) → a ≤ s → s < b → last_said (keys_of (cut_all n a b ks)) s ≡ last_said ks s
cut_keys n a b [] s le lt = refl
cut_keys n a b (k ∷ ks) s le lt =
    cut_in a b k s (last_said (keys_of (cut_all n a b ks)) s) le lt
    ∙ ap (λ (o : Option (Option Ref)). if covers k s then Some (ref_by k s (pointer_of k)) else o) (cut_keys n a b ks s le lt)

keys_join : (xs ys : List Pending) → keys_of (xs ++ ys) ≡ keys_of xs ++ keys_of ys
keys_join [] ys = refl
keys_join (x ∷ xs) ys = ap (λ (l : List Key). x.key ∷ l) (keys_join xs ys)

replayed_keys : (a b : ℕ) (es : List Entry) (s : ℕ) → a ≤ s → s < b → last_said (keys_of (replayed a b es)) s ≡ last_said (all_keys es) s
replayed_keys a b [] s le lt = refl
replayed_keys a b (e ∷ es) s le lt =
    ap (λ (l : List Key). last_said l s) (keys_join (cut_all e.number a b e.keys) (replayed a b es))
    ∙ append_both (keys_of (cut_all e.number a b e.keys)) (keys_of (replayed a b es)) e.keys (all_keys es) s (cut_keys e.number a b e.keys s le lt) (replayed_keys a b es s le lt)

-- each is of an entry, lies within a and b, and the entry's keys have its sectors
in_cut : (n a b : ℕ) (ks : List Key) (y : Pending) → In y (cut_all n a b ks) → (y.number ≡ n) × ((s : ℕ) → Speaks y.key s → ((a ≤ s) × (s < b)) × AnySpeaks ks s)
in_cut n a b [] y i = absurd i
in_cut n a b (k ∷ ks) y i = go i (in_cut n a b ks y)
  where
    go : (y ≡ record { number = n; key = cut a b k }) ⊎ In y (cut_all n a b ks) → (In y (cut_all n a b ks) → (y.number ≡ n) × ((s : ℕ) → Speaks y.key s → ((a ≤ s) × (s < b)) × AnySpeaks ks s))
        → (y.number ≡ n) × ((s : ℕ) → Speaks y.key s → ((a ≤ s) × (s < b)) × AnySpeaks (k ∷ ks) s)
    go (inl e) ih = (
      ap (λ (p : Pending). p.number) e,
      λ s c.
          let c2 : Speaks (cut a b k) s = subst (λ (p : Pending). Speaks p.key s) e c in
          let r = cut_range a b k s c2 in
          (r, front_hit k ks s (cut_speaks a b k s c2)),
    )
    go (inr m) ih = let r = ih m in (r.0, λ s c. let h = r.1 s c in (h.0, front_more k ks s h.1))

in_replayed : (a b : ℕ) (es : List Entry) (y : Pending) → In y (replayed a b es) → (e : Entry) × In e es × (y.number ≡ e.number) × ((s : ℕ) → Speaks y.key s → ((a ≤ s) × (s < b)) × AnySpeaks e.keys s)
in_replayed a b [] y i = absurd i
in_replayed a b (e ∷ es) y i = go (in_join (cut_all e.number a b e.keys) (replayed a b es) y i) (in_replayed a b es y)
  where
    go : In y (cut_all e.number a b e.keys) ⊎ In y (replayed a b es) → (In y (replayed a b es) → (f : Entry) × In f es × (y.number ≡ f.number) × ((s : ℕ) → Speaks y.key s → ((a ≤ s) × (s < b)) × AnySpeaks f.keys s))
        → (f : Entry) × In f (e ∷ es) × (y.number ≡ f.number) × ((s : ℕ) → Speaks y.key s → ((a ≤ s) × (s < b)) × AnySpeaks f.keys s)
    go (inl m) ih = let r = in_cut e.number a b e.keys y m in (e, inl refl, r.0, r.1)
    go (inr m) ih = let r = ih m in (r.0, inr r.1, r.2, r.3)

replayed_out : (a b : ℕ) (es : List Entry) (s : ℕ) → ((a ≤ s) × (s < b) → ⊥) → last_said (keys_of (replayed a b es)) s ≡ None
replayed_out a b es s out = none_of (replayed a b es) s (λ y m c. out (((in_replayed a b es y m).3 s c).0))

ordered_join : (n m : ℕ) (a b : ℕ) (ks : List Key) (ys : List Pending) → n ≤ m → Ordered n ys → Ordered m (cut_all n a b ks ++ ys)
ordered_join n m a b [] ys le o = more n m ys le o
  where
    more : (n m : ℕ) (ys : List Pending) → n ≤ m → Ordered n ys → Ordered m ys
    more n m [] le o = tt
    more n m (y ∷ ys) le o = (let o0 = o.0 in omega arith, o.1)
ordered_join n m a b (k ∷ ks) ys le o = (le, ordered_join n n a b ks ys (omega arith) o)

ordered_less : (n m : ℕ) (ys : List Pending) → n ≤ m → Ordered n ys → Ordered m ys
ordered_less n m [] le o = tt
ordered_less n m (y ∷ ys) le o = (let o0 = o.0 in omega arith, o.1)

replayed_ordered : (a b low : ℕ) (es : List Entry) (next : ℕ) → Count low es next → Ordered next (replayed a b es)
replayed_ordered a b low [] next c = tt
replayed_ordered a b low (e ∷ es) next c = let c0 = c.0 in ordered_join e.number next a b e.keys (replayed a b es) (omega arith) (replayed_ordered a b low es e.number c.2)

pub law_replays : LawReplays
law_replays all a b newest older down = (
  replayed a b (newest ∷ older),
  record {
    same = λ s le lt. replayed_keys a b (newest ∷ older) s le lt;
    inside = λ s out. replayed_out a b (newest ∷ older) s out;
    ordered = (
        let c = count_of all newest.last_seq (newest ∷ older) (suc newest.number) down in
        ordered_join newest.number newest.number a b newest.keys (replayed a b older) (omega arith) (replayed_ordered a b newest.last_seq older newest.number c.2)
        );
    of_entry = λ y i. let r = in_replayed a b (newest ∷ older) y i in (r.0, r.1, r.2, λ s c. (r.3 s c).1);
  },
)

-- Buckets are touched key by key.
use Rattle.std.proofs.Common.{◌≡◌, ◌≢◌, ◌⊎◌, inl, inr, ℕ, zero, suc, ◌+◌, ◌<◌, ◌≤◌, Bool, true, false, List, [], ◌∷◌, ◌++◌, length, take, Some, None, refl, sym, ap, ◌∙◌, subst, arith, if◌then◌else◌}
use Rattle.std.specs.Prelude.{slice_get, slice_index_or, slice_set}
use Rattle.std.proofs.lemmas.Bool.{cases_lt}
use Rattle.std.proofs.lemmas.List.{append-nil, get_or-set_other, get_or-set_same, length-set}
use Rattle.bc_bucket.specs.Buckets.{Buckets}
use Rattle.bc_change.specs.bc_machine.declared.part.BucketsPart.{BucketsPart}
use Rattle.bc_facts.proofs.Place.{by_lt}
use Rattle.bc_facts.proofs.Stood.{in_behind, in_either, in_front}
use Rattle.bc_grouped.specs.Touched.{IsPointedTo, keys_in}
use Rattle.bc_key.specs.Key.{Covers, place_at, place_by, pointer_of, ptr_at, start_of}
use Rattle.bc_key.specs.declared.key.Key.{Key}
use Rattle.bc_key.specs.declared.ptr.Ptr.{Ptr}
use Rattle.bc_meta.proofs.Lists.{decide}
use Rattle.bc_node.specs.Leaf.{Leaf}
use Rattle.bc_install.specs.Buckets.{HasTouched, HasTouches, TouchesAt, bucket_at}

-- ---- parts

pub touches_none : (p : BucketsPart) → HasTouches p p
touches_none p = record {
  beside = record {
    reserves = refl;
    fill = refl;
    rest = record { chain = refl; renewing = refl; round = refl; served = refl };
  };
  buckets = refl;
}

pub touches_both : (p q r : BucketsPart) → HasTouches p q → HasTouches q r → HasTouches p r
touches_both p q r a b = record {
  beside = record {
    reserves = b.beside.reserves ∙ a.beside.reserves;
    fill = b.beside.fill ∙ a.beside.fill;
    rest = record {
      chain = b.beside.rest.chain ∙ a.beside.rest.chain;
      renewing = b.beside.rest.renewing ∙ a.beside.rest.renewing;
      round = b.beside.rest.round ∙ a.beside.rest.round;
      served = b.beside.rest.served ∙ a.beside.rest.served;
    };
  };
  buckets = b.buckets ∙ ap (λ (x : Buckets). record x { touched = r.buckets.touched }) a.buckets;
}

size_is : (p q : BucketsPart) → HasTouches p q → q.buckets.size ≡ p.buckets.size
size_is p q h = ap (λ (x : Buckets). x.size) h.buckets

count_is : (p q : BucketsPart) → HasTouches p q
    → length q.buckets.records ≡ length p.buckets.records
count_is p q h = ap (λ (x : Buckets). length x.records) h.buckets

-- ---- sectors of a key below one

pub record IsPointedBelow (size first : ℕ) (key : Key) (upto n : ℕ) : Type 0 where
  pub sector : ℕ
  pub from : start_of key ≤ sector
  pub below : sector < upto
  pub bucket : bucket_at size first (place_at key 0 sector) ≡ n

pub record AreTouchedTo (size first : ℕ) (key : Key) (upto : ℕ) (old new : List Bool) :
    Type 0 where
  pub each : length new ≡ length old
  pub some : (n : ℕ) → n < length old → slice_index_or new n false ≡ true
      → (slice_index_or old n false ≡ true) ⊎ IsPointedBelow size first key upto n
  pub all : (n : ℕ) → n < length old
      → (slice_index_or old n false ≡ true) ⊎ IsPointedBelow size first key upto n
      → slice_index_or new n false ≡ true

pub record HasTouchedTo (first : ℕ) (key : Key) (upto : ℕ) (p q : BucketsPart) : Type 0 where
  pub same : HasTouches p q
  pub touched : length p.buckets.touched ≡ length p.buckets.records
      → AreTouchedTo p.buckets.size first key upto p.buckets.touched q.buckets.touched

pub to_start : (first : ℕ) (key : Key) (p : BucketsPart)
    → HasTouchedTo first key (start_of key) p p
to_start first key p = record {
  same = touches_none p;
  touched = λ each. record {
    each = refl;
    some = λ n in_ on. inl on;
    all = λ n in_ was. elim was [
      | inl on ↦ on
      | inr one ↦ (let low = one.from in let high = one.below in absurd (omega (arith, low, high)))
    ];
  };
}

-- one more is touched
module _ (size first : ℕ) (key : Key) (s : ℕ) (from : start_of key ≤ s) (old now next : List Bool)
    (h : AreTouchedTo size first key s old now) (count : ℕ) (long : length old ≡ count)
    (inside : bucket_at size first (place_at key 0 s) < count
    → next ≡ slice_set now (bucket_at size first (place_at key 0 s)) true)
    (outside : count ≤ bucket_at size first (place_at key 0 s) → next ≡ now) where
  abbrev b : ℕ
  b = bucket_at size first (place_at key 0 s)

  here : (n : ℕ) → n ≡ b → n < length old → slice_index_or next n false ≡ true
  here n at in_ =
      let low : b < count = omega (arith, at, in_, long) in
      let each = h.each in
      ap (λ (l : List Bool). slice_index_or l n false) (inside low)
      ∙ ap (λ m. slice_index_or (slice_set now b true) m false) at
      ∙ get_or-set_same now b true false (omega (arith, low, each, long))

  there : (n : ℕ) → n ≢ b → slice_index_or next n false ≡ slice_index_or now n false
  there n ne = elim (cases_lt b count) [
    | inl low ↦ ap (λ (l : List Bool). slice_index_or l n false) (inside low)
        ∙ get_or-set_other now b n true false ne
    | inr far ↦ ap (λ (l : List Bool). slice_index_or l n false) (outside far)
  ]

  more : (n : ℕ) → IsPointedBelow size first key s n → IsPointedBelow size first key (s + 1) n
  more n one = record {
    sector = one.sector;
    from = one.from;
    below = let low = one.below in omega (arith, low);
    bucket = one.bucket;
  }

  each_next : length next ≡ length old
  each_next = elim (cases_lt b count) [
    | inl low ↦ ap (λ (l : List Bool). length l) (inside low) ∙ length-set now b true ∙ h.each
    | inr far ↦ ap (λ (l : List Bool). length l) (outside far) ∙ h.each
  ]

  pub one_more : AreTouchedTo size first key (s + 1) old next
  one_more = record {
    each = each_next;
    some = λ n in_ on. elim (decide n b) [
      | inl at ↦ inr (record { sector = s; from = from; below = omega arith; bucket = sym at })
      | inr ne ↦ elim (h.some n in_ (sym (there n ne) ∙ on)) [
        | inl was ↦ inl was
        | inr one ↦ inr (more n one)
      ]
    ];
    all = λ n in_ was. elim (decide n b) [
      | inl at ↦ here n at in_
      | inr ne ↦ there n ne ∙ h.all n in_ (elim was [
        | inl on ↦ inl on
        | inr one ↦ elim (decide one.sector s) [
          | inl last ↦ absurd (ne (sym one.bucket
              ∙ ap (λ t. bucket_at size first (place_at key 0 t)) last))
          | inr other ↦ inr (record {
            sector = one.sector;
            from = one.from;
            below = let low = one.below in omega (arith, low, other);
            bucket = one.bucket;
          })
        ]
      ])
    ];
  }

pub to_next : (first : ℕ) (key : Key) (s : ℕ) (p q r : BucketsPart) → start_of key ≤ s
    → HasTouchedTo first key s p q → TouchesAt first (place_at key 0 s) q r
    → HasTouchedTo first key (s + 1) p r
to_next first key s p q r from h at = record {
  same = touches_both p q r h.same at.same;
  touched = λ each.
      let size = size_is p q h.same in
      let count = count_is p q h.same in
      one_more p.buckets.size first key s from p.buckets.touched q.buckets.touched
      r.buckets.touched (h.touched each) (length p.buckets.records) each
      (subst (λ m. bucket_at m first (place_at key 0 s) < length p.buckets.records
      → r.buckets.touched
      ≡ slice_set q.buckets.touched (bucket_at m first (place_at key 0 s)) true) size
      (subst (λ m. bucket_at q.buckets.size first (place_at key 0 s) < m → r.buckets.touched
      ≡ slice_set q.buckets.touched (bucket_at q.buckets.size first (place_at key 0 s)) true) count
      at.inside))
      (subst (λ m. length p.buckets.records ≤ bucket_at m first (place_at key 0 s)
      → r.buckets.touched ≡ q.buckets.touched) size
      (subst (λ m. m ≤ bucket_at q.buckets.size first (place_at key 0 s)
      → r.buckets.touched ≡ q.buckets.touched) count at.outside));
}

with_ptr : (k : Key) → 0 < k.count → pointer_of k ≡ Some (ptr_at k 0)
with_ptr k some = by_lt 0 k.count
    (λ b. (if b then Some (ptr_at k 0) else None) ≡ Some (ptr_at k 0)) (λ _. refl)
    (λ none. absurd (omega (arith, some, none)))

without_ptr : (k : Key) → k.count ≡ 0 → pointer_of k ≡ None
without_ptr k none = by_lt 0 k.count
    (λ b. (if b then Some (ptr_at k 0) else None) ≡ None)
    (λ some. absurd (omega (arith, some, none))) (λ _. refl)

same_ptr : (a b : Ptr) → Some a ≡ Some b → a ≡ b
same_ptr a b is = cc

no_ptr_there : (a : Ptr) → None ≡ Some a → ⊥
no_ptr_there a is = cc

pub to_all : (first : ℕ) (key : Key) (p q : BucketsPart) → 0 < key.count
    → HasTouchedTo first key key.end p q → HasTouched first (key ∷ []) p q
to_all first key p q some h = record {
  same = h.same;
  touched = λ each. let t = h.touched each in record {
    each = t.each;
    some = λ n in_ on. elim (t.some n in_ on) [
      | inl was ↦ inl was
      | inr one ↦ inr (record {
        key = key;
        among = inl refl;
        sector = one.sector;
        covers = (one.from, one.below);
        ptr = ptr_at key 0;
        pointer = with_ptr key some;
        bucket = one.bucket;
      })
    ];
    all = λ n in_ was. t.all n in_ (elim was [
      | inl on ↦ inl on
      | inr one ↦ (elim one.among [
        | inl same ↦ inr (below n one same)
        | inr later ↦ absurd later
      ])
    ]);
  };
}
  where
    below : (n : ℕ) (one : IsPointedTo p.buckets.size first (key ∷ []) n) → one.key ≡ key
        → IsPointedBelow p.buckets.size first key key.end n
    below n one same =
        let covers = subst (λ (k : Key). Covers k one.sector) same one.covers in
        let ptr : one.ptr ≡ ptr_at key 0 = same_ptr one.ptr (ptr_at key 0) (sym one.pointer
        ∙ ap (λ (k : Key). pointer_of k) same ∙ with_ptr key some) in record {
          sector = one.sector;
          from = covers.0;
          below = covers.1;
          bucket = ap (λ (x : Ptr). bucket_at p.buckets.size first
              (place_by x (start_of key) one.sector)) (sym ptr)
              ∙ ap (λ (k : Key). bucket_at p.buckets.size first
              (place_by one.ptr (start_of k) one.sector)) (sym same) ∙ one.bucket;
        }

-- a key without pointers touches none
pub none_touched : (first : ℕ) (key : Key) (p : BucketsPart) → key.count ≡ 0
    → HasTouched first (key ∷ []) p p
none_touched first key p none = record {
  same = touches_none p;
  touched = λ each. record {
    each = refl;
    some = λ n in_ on. inl on;
    all = λ n in_ was. elim was [
      | inl on ↦ on
      | inr one ↦ absurd (never n one)
    ];
  };
}
  where
    never : (n : ℕ) → IsPointedTo p.buckets.size first (key ∷ []) n → ⊥
    never n one = elim one.among [
      | inl same ↦ no_ptr_there one.ptr (sym (without_ptr key none)
          ∙ ap (λ (k : Key). pointer_of k) (sym same) ∙ one.pointer)
      | inr later ↦ later
    ]

-- ---- lists of keys

pub touched_none : (first : ℕ) (p : BucketsPart) → HasTouched first [] p p
touched_none first p = record {
  same = touches_none p;
  touched = λ each. record {
    each = refl;
    some = λ n in_ on. inl on;
    all = λ n in_ was. elim was [
      | inl on ↦ on
      | inr one ↦ absurd (one.among)
    ];
  };
}

pub touched_both : (first : ℕ) (xs ys : List Key) (p q r : BucketsPart) → HasTouched first xs p q
    → HasTouched first ys q r → HasTouched first (xs ++ ys) p r
touched_both first xs ys p q r a b = record {
  same = touches_both p q r a.same b.same;
  touched = λ each.
      let one = a.touched each in
      let size = size_is p q a.same in
      let count = count_is p q a.same in
      let two = b.touched (one.each ∙ each ∙ sym count) in
      let long = one.each in record {
        each = two.each ∙ one.each;
        some = λ n in_ on. elim (two.some n (omega (arith, in_, long)) on) [
          | inl was ↦ elim (one.some n in_ was) [
            | inl old ↦ inl old
            | inr x ↦ inr (first_part n x)
          ]
          | inr y ↦ inr (second_part n (subst (λ m. IsPointedTo m first ys n) size y))
        ];
        all = λ n in_ was. two.all n (omega (arith, in_, long)) (elim was [
          | inl old ↦ inl (one.all n in_ (inl old))
          | inr z ↦ elim (in_either z.key xs ys z.among) [
            | inl x ↦ inl (one.all n in_ (inr (record {
              key = z.key;
              among = x;
              sector = z.sector;
              covers = z.covers;
              ptr = z.ptr;
              pointer = z.pointer;
              bucket = z.bucket;
            })))
            | inr y ↦ inr (subst (λ m. IsPointedTo m first ys n) (sym size) (record {
              key = z.key;
              among = y;
              sector = z.sector;
              covers = z.covers;
              ptr = z.ptr;
              pointer = z.pointer;
              bucket = z.bucket;
            }))
          ]
        ]);
      };
}
  where
    first_part : (n : ℕ) → IsPointedTo p.buckets.size first xs n
        → IsPointedTo p.buckets.size first (xs ++ ys) n
    first_part n x = record {
      key = x.key;
      among = in_front x.key xs ys x.among;
      sector = x.sector;
      covers = x.covers;
      ptr = x.ptr;
      pointer = x.pointer;
      bucket = x.bucket;
    }

    second_part : (n : ℕ) → IsPointedTo p.buckets.size first ys n
        → IsPointedTo p.buckets.size first (xs ++ ys) n
    second_part n y = record {
      key = y.key;
      among = in_behind y.key xs ys y.among;
      sector = y.sector;
      covers = y.covers;
      ptr = y.ptr;
      pointer = y.pointer;
      bucket = y.bucket;
    }

some_key : (a b : Key) → Some a ≡ Some b → a ≡ b
some_key a b is = cc

next_key : (ks : List Key) (i : ℕ) (k : Key) → slice_get ks i ≡ Some k
    → take (suc i) ks ≡ take i ks ++ k ∷ []
next_key [] zero k at = absurd (cc)
next_key [] (suc i) k at = absurd (cc)
next_key (x ∷ xs) zero k at = ap (λ (y : Key). y ∷ []) (some_key x k at)
next_key (x ∷ xs) (suc i) k at = ap (λ (ys : List Key). x ∷ ys) (next_key xs i k at)

pub touched_next : (first : ℕ) (ks now : List Key) (i : ℕ) (k : Key) (p q r : BucketsPart)
    → now ≡ ks → slice_get now i ≡ Some k → HasTouched first (take i ks) p q
    → HasTouched first (k ∷ []) q r → HasTouched first (take (i + 1) ks) p r
touched_next first ks now i k p q r same at a b =
    let number : suc i ≡ i + 1 = omega arith in
    subst (λ (xs : List Key). HasTouched first xs p r)
    (sym (next_key ks i k (subst (λ (xs : List Key). slice_get xs i ≡ Some k) same at))
    ∙ ap (λ n. take n ks) number)
    (touched_both first (take i ks) (k ∷ []) p q r a b)

pub touched_one : (first : ℕ) (low : Leaf) (p q : BucketsPart) → HasTouched first low.keys p q
    → HasTouched first (keys_in (low ∷ [])) p q
touched_one first low p q h = subst (λ (xs : List Key). HasTouched first xs p q)
    (sym (append-nil low.keys)) h

pub touched_two : (first : ℕ) (low high : Leaf) (p q r : BucketsPart)
    → HasTouched first low.keys p q → HasTouched first high.keys q r
    → HasTouched first (keys_in (low ∷ high ∷ [])) p r
touched_two first low high p q r a b =
    touched_both first low.keys (keys_in (high ∷ [])) p q r a (touched_one first high q r b)

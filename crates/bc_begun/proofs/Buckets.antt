-- The records of buckets and the lists, as the books have them.
use Rattle.std.proofs.Common.{◌≡◌, ℕ, zero, suc, ◌+◌, ◌*◌, ◌%◌, ◌<◌, ◌≤◌, Bool, true, false, List, [], ◌∷◌, length, Option, Some, None, refl, sym, ap, ◌∙◌, subst, arith}
use Rattle.std.specs.Prelude.{if◌then◌else◌, slice_index_or, sum_by}
use Rattle.std.proofs.Math.Nat.{add-mod_right, mul_comm}
use Rattle.bc_alloc.specs.Reserve.{Reserve, no_reserve, times}
use Rattle.bc_alloc.specs.Reserves.{IsInOrder, Reserves, list_of}
use Rattle.bc_alloc.specs.declared.purpose.Purpose as lists
use Rattle.bc_alloc.specs.declared.purpose.Purpose.TheVariants as purposes
use Rattle.bc_books.specs.Shelves.{Fresh, Moving, Plain, Priorities, Purpose, Spent, Tree, by_room}
use Rattle.bc_bucket.specs.Buckets.{Buckets, bucket_of}
use Rattle.bc_bucket.specs.declared.bucket.Mark.{Mark}
use Rattle.bc_bucket.specs.declared.bucket.Mark.TheVariants as marks
use Rattle.bc_chosen.specs.Lists.{is_on, list_with}
use Rattle.bc_chosen.specs.Marks as chosen
use Rattle.bc_chosen.proofs.Lists.{low, on_spare}
use Rattle.bc_chosen.specs.Parts.{Parts}
use Rattle.bc_disk.specs.declared.geometry.Geometry.{Geometry}
use Rattle.bc_facts.specs.Reads.{back}
use Rattle.bc_facts.proofs.Place.{by_lt}
use Rattle.bc_books.specs.Marks as books
use Rattle.bc_books.specs.Books.{Setup, opened, unused}
use Rattle.bc_image.specs.Pair.{Pair}
use Rattle.bc_image.specs.Reading.{Reading, View}
use Rattle.bc_image.specs.Shown.{generation_of}
use Rattle.bc_leaves.specs.Parts as parts
use Rattle.bc_machine.specs.Containers.{IsBucketFor, IsChainOf, IsRoundOf, is_held, mark_of, pins_in, pins_of}
use Rattle.bc_leaves.specs.After.{has}
use Rattle.bc_meta.specs.Layout.{Layout}
use Rattle.bc_opening.specs.Read.{version_at}
use Rattle.bc_opening.proofs.Pointers.{byte_of, version_is}
use Rattle.bc_events.specs.Acts.{purpose_of}
use Rattle.bc_places.specs.Stands.{AreJust, IsCutInto, StandFor}
use Rattle.bc_places.proofs.Others.{law_begins}
use Rattle.bc_shares.specs.Shares.{buckets_in, use_of}
use Rattle.bc_whole.specs.State.{Opening}
use Rattle.bc_begun.specs.Laws.{LawBuckets}
use Rattle.bc_begun.specs.Opened.{AreBytes, IsOpenedWith}
use Rattle.bc_begun.proofs.Chain.{before_read, chain_read, has_times, room_read, times_has, untraced}

-- ---- the lists

none_has : (k : ℕ) (ks : List ℕ) → times k ks ≡ 0 → has ks k ≡ false
none_has k ks none = go (has ks k) refl
  where
    go : (b : Bool) → has ks k ≡ b → has ks k ≡ false
    go true is = absurd (let some = has_times k ks is in omega (arith, some, none))
    go false is = is

-- no bucket stands on two of four lists
four_sum : (k : ℕ) (ls : List Reserve) → length ls ≡ 4 → sum_by (λ (l : Reserve). times k l.buckets) ls
    ≡ times k (slice_index_or ls 0 no_reserve).buckets + (times k (slice_index_or ls 1 no_reserve).buckets
    + (times k (slice_index_or ls 2 no_reserve).buckets + times k (slice_index_or ls 3 no_reserve).buckets))
four_sum k [] long = absurd (omega (arith, long))
four_sum k (a ∷ []) long = absurd (omega (arith, long))
four_sum k (a ∷ b ∷ []) long = absurd (omega (arith, long))
four_sum k (a ∷ b ∷ c ∷ []) long = absurd (omega (arith, long))
four_sum k (a ∷ b ∷ c ∷ d ∷ []) long = omega arith
four_sum k (a ∷ b ∷ c ∷ d ∷ e ∷ ls) long = absurd (omega (arith, long))

abbrev by_tests : (a b c d : Bool) → Option Purpose
by_tests a b c d = if a then Some Priorities else (if b then Some Moving else (if c then Some Tree
    else (if d then Some Plain else None)))

module _ (r : Reserves) (order : IsInOrder r) (k : ℕ) where
  abbrev on : lists.Purpose → ℕ
  on p = times k (list_of p r).buckets

  once : on purposes.Priorities + (on purposes.Moving + (on purposes.Tree + on purposes.Plain)) ≤ 1
  once = let all = four_sum k r.lists order.four in let one = order.once k in omega (arith, all, one)

  there : (p : lists.Purpose) → 0 < on p → is_on p r k ≡ true
  there p some = times_has k (list_of p r).buckets some

  not_there : (p : lists.Purpose) → on p ≡ 0 → is_on p r k ≡ false
  not_there p none = none_has k (list_of p r).buckets none

  on_list : (p : lists.Purpose) → 0 < on p → list_with r k ≡ Some (purpose_of p)
  on_list purposes.Priorities some = ap (λ b. by_tests b (is_on purposes.Moving r k) (is_on purposes.Tree r k)
      (is_on purposes.Plain r k)) (there purposes.Priorities some)
  on_list purposes.Moving some =
      let a = not_there purposes.Priorities (let one = once in omega (arith, one, some)) in
      ap (λ x. by_tests x (is_on purposes.Moving r k) (is_on purposes.Tree r k) (is_on purposes.Plain r k)) a
      ∙ ap (λ x. by_tests false x (is_on purposes.Tree r k) (is_on purposes.Plain r k))
      (there purposes.Moving some)
  on_list purposes.Tree some =
      let one = once in
      let a = not_there purposes.Priorities (omega (arith, one, some)) in
      let b = not_there purposes.Moving (omega (arith, one, some)) in
      ap (λ x. by_tests x (is_on purposes.Moving r k) (is_on purposes.Tree r k) (is_on purposes.Plain r k)) a
      ∙ ap (λ x. by_tests false x (is_on purposes.Tree r k) (is_on purposes.Plain r k)) b
      ∙ ap (λ x. by_tests false false x (is_on purposes.Plain r k)) (there purposes.Tree some)
  on_list purposes.Plain some =
      let one = once in
      let a = not_there purposes.Priorities (omega (arith, one, some)) in
      let b = not_there purposes.Moving (omega (arith, one, some)) in
      let c = not_there purposes.Tree (omega (arith, one, some)) in
      ap (λ x. by_tests x (is_on purposes.Moving r k) (is_on purposes.Tree r k) (is_on purposes.Plain r k)) a
      ∙ ap (λ x. by_tests false x (is_on purposes.Tree r k) (is_on purposes.Plain r k)) b
      ∙ ap (λ x. by_tests false false x (is_on purposes.Plain r k)) c
      ∙ ap (λ x. by_tests false false false x) (there purposes.Plain some)

  abbrev test_of : lists.Purpose → (a b c d : Bool) → Bool
  test_of purposes.Priorities a b c d = a
  test_of purposes.Moving a b c d = b
  test_of purposes.Tree a b c d = c
  test_of purposes.Plain a b c d = d

  test_is : (p : lists.Purpose) (a b c d : Bool) → by_tests a b c d ≡ Some (purpose_of p)
      → test_of p a b c d ≡ true
  test_is purposes.Priorities true b c d e = refl
  test_is purposes.Moving true b c d e = absurd (cc)
  test_is purposes.Tree true b c d e = absurd (cc)
  test_is purposes.Plain true b c d e = absurd (cc)
  test_is purposes.Priorities false true c d e = absurd (cc)
  test_is purposes.Moving false true c d e = refl
  test_is purposes.Tree false true c d e = absurd (cc)
  test_is purposes.Plain false true c d e = absurd (cc)
  test_is purposes.Priorities false false true d e = absurd (cc)
  test_is purposes.Moving false false true d e = absurd (cc)
  test_is purposes.Tree false false true d e = refl
  test_is purposes.Plain false false true d e = absurd (cc)
  test_is purposes.Priorities false false false true e = absurd (cc)
  test_is purposes.Moving false false false true e = absurd (cc)
  test_is purposes.Tree false false false true e = absurd (cc)
  test_is purposes.Plain false false false true e = refl
  test_is p false false false false e = absurd (cc)

  from_list : (p : lists.Purpose) → list_with r k ≡ Some (purpose_of p) → 0 < on p
  from_list p e = has_times k (list_of p r).buckets (by_purpose p (test_is p (is_on purposes.Priorities r k)
      (is_on purposes.Moving r k) (is_on purposes.Tree r k) (is_on purposes.Plain r k) e))
    where
      by_purpose : (p : lists.Purpose) → test_of p (is_on purposes.Priorities r k) (is_on purposes.Moving r k)
          (is_on purposes.Tree r k) (is_on purposes.Plain r k) ≡ true → is_on p r k ≡ true
      by_purpose purposes.Priorities is = is
      by_purpose purposes.Moving is = is
      by_purpose purposes.Tree is = is
      by_purpose purposes.Plain is = is

-- ---- the records

same_mark : (m : Mark) → mark_of m ≡ chosen.mark_of m
same_mark marks.None = refl
same_mark marks.Reclaimable = refl
same_mark marks.Dirty = refl
same_mark marks.Metadata = refl

none_both : (a b : ℕ) → a ≡ 0 → b ≡ 0 → a + b ≡ 0
none_both a b x y = omega (arith, x, y)

-- nothing is pinned or held at an opening
no_pins : (w : Setup) (place n : ℕ) → pins_in (opened w).owner place n ≡ 0
no_pins w place zero = refl
no_pins w place (suc n) = none_both _ _ (free (unused w (w.bucket (place + n)))) (no_pins w place n)
  where
    free : (b : Bool) → pins_of (use_of (if b then Fresh else Spent)) ≡ 0
    free true = refl
    free false = refl

not_held : (o : Option Purpose) → is_held (by_room o) ≡ false
not_held None = refl
not_held (Some p) = refl

module _ (p : Pair) (v : View) (layout : Layout) (x : Parts) (w : Opening) (st : parts.State)
    (h : IsOpenedWith p v layout x w st) where
  abbrev g : Geometry
  g = v.geometry

  abbrev r : Reading
  r = v.reading

  long : length r.gens.records ≡ g.nbuckets
  long = h.view.reading.gens.records

  record_of : AreBytes x.buckets → (q place n : ℕ) → back g q < g.nbuckets
      → IsBucketFor (w.flow.books.version q) q (buckets_in (opened w.flow.books))
      (pins_in (opened w.flow.books).owner place n) (bucket_of x.buckets (back g q))
  record_of bytes q place n inside =
      let known = h.read.buckets.known (back g q) inside in
      let is = version_is g r.gens q (omega (arith, inside, long)) in
      let version = h.opening.books.version q ∙ is in
      let unused = known.unused.0 in
      let own = chosen.mark_of (bucket_of x.buckets (back g q)).mark in record {
        generation = known.generation ∙ sym (ap (λ n. n % 256) version
            ∙ add-mod_right (generation_of r.gens (back g q)) 256 ∙ small);
        uses = omega (arith, unused);
        last_gc = sym (ap (λ n. n % 256) (h.opening.books.last_gc q)
            ∙ byte_of (version_at g r.gens q) (bucket_of x.buckets (back g q)).last_gc
            (bytes.last_gc (back g q)) (omega (arith, is)));
        mark = same_mark (bucket_of x.buckets (back g q)).mark
            ∙ sym (h.opening.books.mark q
            ∙ by_lt (back g q) g.nbuckets (λ b. (if b then own else books.Metadata) ≡ own) (λ lt. refl)
            (λ out. absurd (omega (arith, out, inside))));
        pins = known.unused.1 ∙ sym (no_pins w.flow.books place n);
        held = known.unused.2 ∙ sym (not_held (w.flow.books.listed q));
      }
    where
      small : generation_of r.gens (back g q) % 256 ≡ generation_of r.gens (back g q)
      small = let fits = bytes.generation (back g q) in
          let is = (h.read.buckets.known (back g q) inside).generation in omega (arith, fits, is)

  before : w.before ≡ g.first_bucket
  before = h.opening.before

  pub cut : IsCutInto x.buckets.size (length x.buckets.records) w
  cut =
      let known = h.read.buckets in
      let own = h.opening.layout_is in record {
        first = λ q. ap (λ (l : Layout). l.first q) own ∙ h.divided.first q
            ∙ mul_comm g.bucket (g.first_bucket + q)
            ∙ ap (λ n. (g.first_bucket + q) * n) (sym known.size)
            ∙ ap (λ n. (n + q) * x.buckets.size) (sym before);
        sectors = ap (λ (l : Layout). l.bucket_sectors) own ∙ h.divided.bucket_sectors
            ∙ sym known.size;
        buckets =
            let many = known.each in
            let first = before in
            let behind = ap (λ (l : Layout). l.buckets) own ∙ h.divided.buckets in
            let within = g.journal_within in omega (arith, many, first, behind, within);
      }

  list_just : (r : IsInOrder x.reserves) (p : lists.Purpose) → AreJust w.before (list_of p x.reserves).buckets
      (λ q. w.flow.books.listed q ≡ Some (purpose_of p))
  list_just order p = subst (λ n. AreJust n (list_of p x.reserves).buckets
      (λ q. w.flow.books.listed q ≡ Some (purpose_of p))) (sym before) (record {
        behind = λ k some. low g r x.reserves h.read.reserves h.sound.spare k
            (on_spare g r x.reserves h.read.reserves h.sound.spare p k
            (times_has k (list_of p x.reserves).buckets some));
        each = λ q some. h.opening.books.listed q ∙ on_list x.reserves order (back g q) p some;
        all = λ q is. from_list x.reserves order (back g q) p (sym (h.opening.books.listed q) ∙ is);
      })

pub law_buckets : LawBuckets
law_buckets p v layout x w st b h bytes same_buckets same_reserves none same_chain calm round =
    let g = v.geometry in
    let order = subst (λ (r : Reserves). IsInOrder r) same_reserves b.order in record {
      cut = subst (λ (bs : Buckets). IsCutInto bs.size (length bs.records) w) (sym same_buckets)
          (cut p v layout x w st h);
      data_from = ap (λ (bs : Buckets). bs.data_from) same_buckets ∙ h.read.buckets.data_from
          ∙ ap (λ n. n + g.journal) (sym h.opening.before)
          ∙ ap (λ n. w.before + n) (sym h.divided.journal)
          ∙ ap (λ (l : Layout). w.before + l.journal) (sym h.opening.layout_is);
      records = λ q inside. subst (λ (bs : Buckets). IsBucketFor (w.flow.books.version q) q
          (buckets_in (opened w.flow.books))
          (pins_in (opened w.flow.books).owner ((w.before + q) * bs.size) bs.size)
          (bucket_of bs (w.before + q))) (sym same_buckets)
          (subst (λ n. IsBucketFor (w.flow.books.version q) q (buckets_in (opened w.flow.books))
          (pins_in (opened w.flow.books).owner ((w.before + q) * x.buckets.size) x.buckets.size)
          (bucket_of x.buckets (n + q))) (sym h.opening.before)
          (record_of p v layout x w st h bytes q ((w.before + q) * x.buckets.size) x.buckets.size
          (let long = h.read.buckets.each in let at = h.opening.before in
          let same = ap (λ (bs : Buckets). length bs.records) same_buckets in
          omega (arith, long, at, same, inside))));
      places = subst (λ fs. StandFor w.before b.buckets.size fs b.reserves (opened w.flow.books)) (sym none)
          (subst (λ (r : Reserves). StandFor w.before b.buckets.size [] r (opened w.flow.books))
          (sym same_reserves)
          (law_begins w.flow.books w.before b.buckets.size x.reserves
          (λ p'. list_just p v layout x w st h order p')
          (ap (λ (r : Reserves). r.raised) h.read.reserves.filled)));
      outside = λ n less. ap (λ (bs : Buckets). (bucket_of bs n).mark) same_buckets
          ∙ before_read p v layout x w st h n less;
      room = ap (λ (r : Reserves). (list_of purposes.Priorities r).room) same_reserves
          ∙ room_read p v layout x w st h;
      chain = subst (λ c. IsChainOf w.before w.flow.books.sets (opened w.flow.books).chains.of 0 0
          b.chain.items c) (sym calm)
          (subst (λ (ks : List ℕ). IsChainOf w.before w.flow.books.sets
          (opened w.flow.books).chains.of 0 0 ks false) (sym same_chain)
          (chain_read p v layout x w st h));
      round = subst (λ (bs : Buckets). IsRoundOf w.flow.books w.before (length bs.records)
          (opened w.flow.books).round bs.touched b.round) (sym same_buckets)
          (subst (λ n. IsRoundOf w.flow.books w.before n (opened w.flow.books).round
          x.buckets.touched b.round) (sym h.read.buckets.each)
          (untraced w.flow.books w.before g.nbuckets x.buckets.touched b.round
          h.read.buckets.touched round));
    }

-- An entry may name a chain that its seat wrote, and what that leaves of the buckets.
use Rattle.std.proofs.Common.{◌≡◌, ◌≢◌, ◌⊎◌, inl, inr, ℕ, zero, suc, ◌+◌, ◌-◌, ◌*◌, ◌%◌, ◌<◌, ◌≤◌, Bool, true, false, List, [], ◌∷◌, length, drop, get_or, Option, Some, None, refl, sym, ap, ◌∙◌, subst, arith}
use Rattle.std.specs.Prelude.{if◌then◌else◌, map, slice_index, Vec}
use Rattle.std.specs.declared.alloc.Global.{Global}
use Rattle.std.proofs.Math.Nat.{zero-mul}
use Rattle.std.proofs.lemmas.Bool.{cases_eq, cases_lt}
use Rattle.std.proofs.lemmas.Grind.{common_steps}
use Rattle.std.proofs.lemmas.List.{get_or-map, length-map}
use Rattle.bc_alloc.proofs.Times.{times-cons, times_other, times_same}
use Rattle.bc_alloc.specs.Reserve.{IsDistinct, times}
use Rattle.bc_alloc.specs.Reserves.{Reserves, list_of}
use Rattle.bc_alloc.specs.declared.purpose.Purpose.TheVariants as list
use Rattle.bc_books.specs.Books.{Books}
use Rattle.bc_books.specs.Enabled.{CanSealChain}
use Rattle.bc_books.specs.Invariant.{IsInOrder}
use Rattle.bc_bucket.specs.Bucket.{no_bucket}
use Rattle.bc_bucket.specs.Buckets.{Buckets, bucket_of, shown_on_disk}
use Rattle.bc_chained.proofs.Behind.{bytes_long, none_behind}
use Rattle.bc_chained.proofs.Built.{apart, built, bytes_are}
use Rattle.bc_chained.proofs.Course.{order_course}
use Rattle.bc_chained.proofs.Versions.{AreBytes, byte_small, gen_drop, versions_at, versions_bytes, versions_past}
use Rattle.bc_chained.specs.Chained.{HasRenewing, IsSealedNext, next_of}
use Rattle.bc_chained.specs.Laws.{HasChain, books_then, numbers, versions_in}
use Rattle.bc_chains.specs.Written.{IsForChain}
use Rattle.bc_chains.specs.bc_machine.Containers.{AreBucketsOf, IsBucketFor, IsChainOf, IsRoundOf, pins_in}
use Rattle.bc_chains.specs.bc_machine.World.{Origin, World, replay}
use Rattle.bc_chains.specs.bc_machine.declared.part.BucketsPart.{BucketsPart}
use Rattle.bc_chains.specs.bc_machine.declared.part.Tracing.{Tracing}
use Rattle.bc_disk.specs.Chain.{records_in_set, sets_in_chain}
use Rattle.bc_disk.specs.declared.gens.BucketRecord.{BucketRecord}
use Rattle.bc_disk.specs.declared.geometry.Geometry.{Geometry}
use Rattle.bc_events.specs.Acts.{bytes_in}
use Rattle.bc_events.specs.Keys.{versions_by}
use Rattle.bc_facts.specs.Reads.{gens_of}
use Rattle.bc_facts.specs.Seen.{counted, seen_prio}
use Rattle.bc_fill.specs.declared.fill.Open as fill
use Rattle.bc_known.specs.Acts.{State}
use Rattle.bc_known.specs.Asked.{AsksChain}
use Rattle.bc_leaves.proofs.Chains.{has_in, in_has}
use Rattle.bc_leaves.specs.After.{has}
use Rattle.bc_meta.specs.Acts.{IsBuilt, head_of}
use Rattle.bc_meta.specs.Chain.{Distinct, bytes_of}
use Rattle.bc_meta.specs.Facts.{In}
use Rattle.bc_places.proofs.Lists.{counted as counted_back, same}
use Rattle.bc_places.specs.Stands.{IsCutInto, StandFor}
use Rattle.bc_prio.specs.Set.{IsWrittenSet}
use Rattle.bc_renew.proofs.Chain.{many_on}
use Rattle.bc_shares.specs.Shares.{books_of, buckets_in, counts_in}
use Rattle.bc_whole.specs.State as whole
use Rattle.bc_whole.specs.State.{NewChain}
use Rattle.bc_whole.specs.Together.{gen_at, gen_from}

-- ---- lists of numbers

-- what stands at a place of a list is in it, and so the other way
place_of : (n : ℕ) (ks : List ℕ) → 0 < times n ks
    → (i : ℕ) × (i < length ks) × (get_or ks i 0 ≡ n)
place_of n [] some = absurd (let none : times n [] ≡ 0 = refl in omega (arith, some, none))
place_of n (k ∷ ks) some = go (cases_eq k n) (place_of n ks)
  where
    go : (k ≡ n) ⊎ (k ≢ n)
        → (0 < times n ks → (i : ℕ) × (i < length ks) × (get_or ks i 0 ≡ n))
        → (i : ℕ) × (i < length (k ∷ ks)) × (get_or (k ∷ ks) i 0 ≡ n)
    go (inl e) more = (0, omega arith, e)
    go (inr ne) more =
        let all = times-cons n k ks in
        let none = times_other n k ne in
        let rest = more (omega (arith, some, all, none)) in
        let below = rest.1 in (suc rest.0, omega (arith, below), rest.2)

-- of a list in which no two places have the same
abbrev IsOnce : List ℕ → Type 0
IsOnce ks = (i j : ℕ) → i < length ks → j < length ks → get_or ks i 0 ≡ get_or ks j 0 → i ≡ j

once_rest : (k : ℕ) (ks : List ℕ) → IsOnce (k ∷ ks) → IsOnce ks
once_rest k ks once i j below other same = suc_same
    (once (suc i) (suc j) (omega (arith, below)) (omega (arith, other)) same)
  where
    suc_same : suc i ≡ suc j → i ≡ j
    suc_same e = omega (arith, e)

not_again : (k : ℕ) (ks : List ℕ) → IsOnce (k ∷ ks) → times k ks ≡ 0
not_again k ks once = go (cases_lt 0 (times k ks))
  where
    go : (0 < times k ks) ⊎ (times k ks ≤ 0) → times k ks ≡ 0
    go (inl some) = absurd (let at = place_of k ks some in
        let below = at.1 in
        let wrong : 0 ≡ suc at.0
        = once 0 (suc at.0) (omega arith) (omega (arith, below)) (sym at.2) in
        omega (arith, wrong))
    go (inr none) = omega (arith, none)

pub distinct_of : (ks : List ℕ) → IsOnce ks → IsDistinct ks
distinct_of [] once k = omega arith
distinct_of (n ∷ ks) once k = go (cases_eq n k) (distinct_of ks (once_rest n ks once) k)
  where
    go : (n ≡ k) ⊎ (n ≢ k) → times k ks ≤ 1 → times k (n ∷ ks) ≤ 1
    go (inl e) most =
        let all = times-cons k n ks in
        let one = subst (λ m. times k (m ∷ []) ≡ 1) (sym e) (times_same k) in
        let none = subst (λ m. times m ks ≡ 0) e (not_again n ks once) in
        omega (arith, all, one, none)
    go (inr ne) most =
        let all = times-cons k n ks in
        let none = times_other k n ne in omega (arith, all, none, most)

-- the same, as the records have it
in_place : (n : ℕ) (ks : List ℕ) → In n ks → (i : ℕ) × (i < length ks) × (get_or ks i 0 ≡ n)
in_place n [] is = absurd is
in_place n (k ∷ ks) is = elim is [
  | inl e ↦ (0, omega arith, sym e)
  | inr more ↦ let rest = in_place n ks more in
      let below = rest.1 in (suc rest.0, omega (arith, below), rest.2)
]

apart_of : (ks : List ℕ) → IsOnce ks → Distinct ks
apart_of [] once = tt
apart_of (k ∷ ks) once = (
  λ again. (let at = in_place k ks again in
      let below = at.1 in
      let wrong : 0 ≡ suc at.0
      = once 0 (suc at.0) (omega arith) (omega (arith, below)) (sym at.2) in
      omega (arith, wrong)),
  apart_of ks (once_rest k ks once),
)

-- a number of a list is that of one of these
in_map : (f : ℕ → ℕ) (ks : List ℕ) (q : ℕ) → In q (map f ks)
    → (n : ℕ) × (0 < times n ks) × (f n ≡ q)
in_map f [] q is = absurd is
in_map f (k ∷ ks) q is = elim is [
  | inl e ↦ (k, first, sym e)
  | inr more ↦ let rest = in_map f ks q more in
      let all = times-cons rest.0 k ks in
      let some = rest.1 in (rest.0, omega (arith, all, some), rest.2)
]
  where
    first : 0 < times k (k ∷ ks)
    first = let all = times-cons k k ks in let one = times_same k in omega (arith, all, one)

map_in : (f : ℕ → ℕ) (ks : List ℕ) (n : ℕ) → 0 < times n ks → In (f n) (map f ks)
map_in f [] n some = absurd (let none : times n [] ≡ 0 = refl in omega (arith, some, none))
map_in f (k ∷ ks) n some = go (cases_eq n k) (map_in f ks n)
  where
    go : (n ≡ k) ⊎ (n ≢ k) → (0 < times n ks → In (f n) (map f ks)) → In (f n) (map f (k ∷ ks))
    go (inl e) more = inl (ap f e)
    go (inr ne) more = inr (more (let all = times-cons n k ks in
        let none = times_other n k (λ e. ne (sym e)) in omega (arith, some, all, none)))

-- ---- bytes

no_record : BucketRecord
no_record = record { priority = 0; generation = 0 }

byte_less : (n : ℕ) → n % 256 < 256
byte_less n = grind (arith, common_steps)

gen_byte : (rs : List BucketRecord) (j : ℕ) (d : BucketRecord) → j < length rs
    → get_or (gens_of rs) j 0 ≡ (get_or rs j d).generation % 256
gen_byte [] j d below = absurd (omega (arith, below))
gen_byte (r ∷ rs) zero d below = refl
gen_byte (r ∷ rs) (suc j) d below = gen_byte rs j d (omega (arith, below))

-- ---- the chain

module _ (x : World) (o : Origin) (i : ℕ) (p : BucketsPart) (g : Geometry)
    (records : List BucketRecord) (new : List ℕ) (h : HasChain x o i p g records new) where
  abbrev w : whole.Opening
  w = o.opening.machine

  abbrev st : State
  st = (replay o x.log).machine

  abbrev k : Books
  k = books_of st

  abbrev version : ℕ → ℕ
  version = k.generations.version

  abbrev qs : List ℕ
  qs = numbers g new

  order : IsInOrder w.flow.books k
  order = order_course o h.origin.sound x.log h.course

  many : length new ≡ sets_in_chain g
  many = h.sets.many

  sets : (part : ℕ) → part < length new → (bytes : List ℕ)
      × IsWrittenSet g records part (next_of new part) bytes
      × (st.whole.store.made (counted g (slice_index new part))
      ≡ Some (record { part = part; set = seen_prio g part bytes }))
  sets part below = let its = h.sets.each part below in
      (its.bytes, its.set, its.made o h.origin h.course)

  records_long : length records ≡ length p.buckets.records
  records_long = ap (λ (rs : List BucketRecord). length rs) h.shown
      ∙ length-map p.buckets.records shown_on_disk

  -- the records are of all buckets
  all_records : length records ≡ g.nbuckets
  all_records =
      let one = records_long in
      let two = h.stand.cut.buckets in
      let three = h.divided.buckets in
      let four = h.before in
      let five = g.journal_within in omega (arith, one, two, three, four, five)

  -- ---- the buckets

  chain_once : IsOnce new
  chain_once a b below other is = apart g records all_records new many st sets a b below other
      (ap (counted g) is)

  pub distinct : IsDistinct new
  distinct = distinct_of new chain_once

  qs_once : IsOnce qs
  qs_once a b below other is =
      let long = length-map new (counted g) in
      let one = get_or-map (counted g) new a 0 0 (omega (arith, long, below)) in
      let two = get_or-map (counted g) new b 0 0 (omega (arith, long, other)) in
      apart g records all_records new many st sets a b (omega (arith, long, below))
      (omega (arith, long, other)) (sym one ∙ is ∙ two)

  low : (n : ℕ) → 0 < times n new → w.before ≤ n
  low n some = (h.each n some).0

  its : (n : ℕ) → 0 < times n new → IsForChain i (n - w.before) o (replay o x.log)
  its n some = (h.each n some).1

  -- just these are of the chain
  pub of_chain : (q : ℕ) → has qs q ≡ true → 0 < times (w.before + q) new
  of_chain q is =
      let at = in_map (counted g) new q (in_has qs q is) in
      let from = low at.0 at.1 in
      let same = at.2 in
      let before = h.before in
      let e : at.0 ≡ w.before + q = omega (arith, from, same, before) in
      subst (λ n. 0 < times n new) e at.1

  pub in_chain : (q : ℕ) → 0 < times (w.before + q) new → has qs q ≡ true
  in_chain q some =
      let e : counted g (w.before + q) ≡ q = let before = h.before in omega (arith, before) in
      has_in qs q (subst (λ m. In m qs) e (map_in (counted g) new (w.before + q) some))

  for_chain : (q : ℕ) → has qs q ≡ true → IsForChain i q o (replay o x.log)
  for_chain q is =
      let e : w.before + q - w.before ≡ q = omega arith in
      subst (λ m. IsForChain i m o (replay o x.log)) e (its (w.before + q) (of_chain q is))

  -- ---- the generations

  abbrev bytes : List ℕ
  bytes = gens_of records

  bytes_is : bytes_in st qs ≡ bytes
  bytes_is = bytes_are g records all_records new many st sets 0 new refl (omega arith)
      ∙ ap (λ n. gens_of (drop n records)) (zero-mul (records_in_set g))

  bytes_count : length bytes ≡ length records
  bytes_count = bytes_long (map (λ (r : BucketRecord). r.generation) records)
      ∙ length-map records (λ (r : BucketRecord). r.generation)

  -- the byte of each bucket that the core counts is its version's
  byte_is : (j : ℕ) → j < length records → w.before ≤ j
      → get_or bytes j 0 ≡ version (j - w.before) % 256
  byte_is j within from =
      let inside : j < length p.buckets.records
      = let same_long = records_long in omega (arith, within, same_long) in
      let at = counted_back w.before j from in
      let its = (h.stand.records (j - w.before) (omega (arith, at, inside))).generation in
      gen_byte records j no_record within
      ∙ ap (λ (rs : List BucketRecord). (get_or rs j no_record).generation % 256) h.shown
      ∙ ap (λ (r : BucketRecord). r.generation % 256)
      (get_or-map shown_on_disk p.buckets.records j no_bucket no_record inside)
      ∙ ap (λ m. (bucket_of p.buckets m).generation % 256) (sym at)
      ∙ ap (λ n. n % 256) its ∙ byte_small (version (j - w.before))

  are_bytes : AreBytes w.before version 0 bytes
  are_bytes j below =
      let count = bytes_count in
      let within : j < length records = omega (arith, below, count) in
      let e : 0 + j ≡ j = omega arith in (
        subst (λ n. n < 256) (sym (gen_byte records j no_record within))
            (byte_less (get_or records j no_record).generation),
        λ from. byte_is j within (omega (arith, from))
            ∙ ap (λ m. version (m - w.before) % 256) (sym e),
      )

  versions_are : versions_in o x qs ≡ versions_by w.before version 0 bytes
  versions_are = ap (λ bs. versions_by w.before version 0 bs) bytes_is

  bytes_of_them : bytes_of (versions_in o x qs) ≡ bytes
  bytes_of_them = ap bytes_of versions_are ∙ versions_bytes w.before version 0 bytes are_bytes

  -- each is the version of now
  pub own : (q : ℕ) → gen_from w.before (versions_in o x qs) q ≡ version q
  own q = ap (λ gens. gen_from w.before gens q) versions_are
      ∙ gen_drop w.before (versions_by w.before version 0 bytes) q
      ∙ go (cases_lt (w.before + q) (length bytes))
    where
      go : (w.before + q < length bytes) ⊎ (length bytes ≤ w.before + q)
          → gen_at (versions_by w.before version 0 bytes) (w.before + q) ≡ version q
      go (inl below) = versions_at w.before version 0 bytes (w.before + q) are_bytes below
          (omega arith) ∙ ap version (let e : 0 + (w.before + q) - w.before ≡ q = omega arith in e)
      go (inr past) = versions_past w.before version 0 bytes (w.before + q) past
          ∙ sym (none_behind x o g q h.origin h.course h.divided h.before
          (let one = bytes_count in
          let two = records_long in
          let three = h.stand.cut.buckets in omega (arith, past, one, two, three)))

  -- ---- when it may be

  sets_are : w.flow.books.sets ≡ length new
  sets_are = h.origin.sound.laid.sets ∙ h.divided.chain_sets ∙ sym many

  pub can : k.journal.waiting ≡ false
      → CanSealChain w.flow.books k i (gen_from w.before (versions_in o x qs)) (has qs)
  can none = record {
    none_waits = none;
    order = λ b. let its = own b in let least = order.dated.version b in
        (omega (arith, its, least), omega (arith, its));
    held = λ b is. let its = for_chain b is in (its.held, its.unnamed);
    sets = many_on w.flow.books.sets w.before new (λ b. has qs b ≡ true)
        (record { behind = low; each = in_chain; all = of_chain }) distinct
        (let all = sets_are in omega (arith, all));
  }

  pub asks : AsksChain w st (NewChain qs (versions_in o x qs))
  asks = (
    apart_of qs qs_once,
    length-map new (counted g) ∙ many ∙ sym h.divided.chain_sets,
    subst (IsBuilt st.whole.store.made 0 (head_of qs) qs) (sym bytes_of_them)
        (subst (λ n. IsBuilt st.whole.store.made 0 (head_of qs) qs (gens_of (drop n records)))
        (zero-mul (records_in_set g))
        (built g records all_records new many st sets 0 new refl (omega arith))),
  )

  -- ---- what it leaves

  abbrev then_ : Books
  then_ = books_then x o i qs

  settled : k.chains.sealed ≡ k.chains.ready
  settled = h.stand.chain.rest h.settled

  by_has : (q : ℕ) (P : Bool → Type 0) → (has qs q ≡ true → P true)
      → (has qs q ≡ false → P false) → P (has qs q)
  by_has q P on off = go (has qs q) refl
    where
      go : (b : Bool) → has qs q ≡ b → P (has qs q)
      go true is = subst P (sym is) (on is)
      go false is = subst P (sym is) (off is)

  none_some : (c : Option ℕ) (n : ℕ) → c ≡ None → c ≡ Some n → ⊥
  none_some c n none some = cc

  some_same : (a b : ℕ) → Some a ≡ Some b → a ≡ b
  some_same a b is = cc

  -- the chain in hand is the one that was made ready last still
  still : (q : ℕ) → k.chains.of q ≡ Some k.chains.ready
      → then_.chains.of q ≡ Some k.chains.ready
  still q is = by_has q
      (λ b. (if b then Some (suc k.chains.sealed) else k.chains.of q) ≡ Some k.chains.ready)
      (λ on. absurd (none_some (k.chains.of q) k.chains.ready (for_chain q on).unnamed is))
      (λ off. is)

  was : (q : ℕ) → then_.chains.of q ≡ Some k.chains.ready
      → k.chains.of q ≡ Some k.chains.ready
  was q = by_has q
      (λ b. (if b then Some (suc k.chains.sealed) else k.chains.of q) ≡ Some k.chains.ready
      → k.chains.of q ≡ Some k.chains.ready)
      (λ on is. absurd (let e = some_same (suc k.chains.sealed) k.chains.ready is in
      let both = settled in omega (arith, e, both)))
      (λ off is. is)

  -- and the next one is just this
  next : (q : ℕ) → 0 < times (w.before + q) new
      → then_.chains.of q ≡ Some (suc k.chains.ready)
  next q some = ap (λ b. if b then Some (suc k.chains.sealed) else k.chains.of q) (in_chain q some)
      ∙ ap (λ n. Some (suc n)) settled

  of_next : (q : ℕ) → then_.chains.of q ≡ Some (suc k.chains.ready) → has qs q ≡ true
  of_next q = by_has q
      (λ b. (if b then Some (suc k.chains.sealed) else k.chains.of q)
      ≡ Some (suc k.chains.ready) → b ≡ true)
      (λ on is. refl)
      (λ off is. absurd (let high = (order.chained.links q (suc k.chains.ready) is).high in
      let both = settled in omega (arith, high, both)))

  pub sealed : IsSealedNext i new w (buckets_in then_) (counts_in then_)
  sealed = record {
    next = record {
      buckets = record {
        behind = low;
        each = next;
        all = λ q is. of_chain q (of_next q is);
      };
      once = distinct;
      many = sym sets_are;
      rest = λ off. ap suc settled;
    };
    held = λ q is. (for_chain q (of_next q is)).held;
    newest = refl;
    generations = own;
  }

  module _ (r : BucketsPart) (f : HasRenewing p r) where
    pub stands : AreBucketsOf w then_ r
    stands = record {
      cut = subst (λ (b : Buckets). IsCutInto b.size (length b.records) w) (sym f.buckets)
          h.stand.cut;
      data_from = ap (λ (b : Buckets). b.data_from) f.buckets ∙ h.stand.data_from;
      records = subst (λ (b : Buckets). (q : ℕ) → w.before + q < length b.records
          → IsBucketFor (w.flow.books.version q) q (buckets_in then_)
          (pins_in then_.owner ((w.before + q) * b.size) b.size) (bucket_of b (w.before + q)))
          (sym f.buckets) (λ q within. let its = h.stand.records q within in record {
            generation = its.generation;
            uses = its.uses;
            last_gc = its.last_gc;
            mark = its.mark;
            pins = its.pins;
            held = its.held;
          });
      places = subst (λ (b : Buckets). StandFor w.before b.size r.fill r.reserves then_)
          (sym f.buckets)
          (subst (λ (fs : List fill.Open). StandFor w.before p.buckets.size fs r.reserves then_)
          (sym f.fill)
          (subst (λ (rs : Reserves). StandFor w.before p.buckets.size p.fill rs then_)
          (sym f.reserves) (record {
            opens = record {
              buckets = h.stand.places.opens.buckets;
              free = h.stand.places.opens.free;
              given = h.stand.places.opens.given;
            };
            lists = record {
              lists = h.stand.places.lists.lists;
              raised = h.stand.places.lists.raised;
            };
          })));
      outside = λ n less. ap (λ (b : Buckets). (bucket_of b n).mark) f.buckets
          ∙ h.stand.outside n less;
      room = ap (λ (rs : Reserves). (list_of list.Priorities rs).room) f.reserves ∙ h.stand.room;
      chain = subst (λ (b : Bool). IsChainOf w.before w.flow.books.sets then_.chains.of
          then_.chains.ready then_.chains.sealed r.chain.items b) (sym f.renewing)
          (subst (λ (c : Vec ℕ Global). IsChainOf w.before w.flow.books.sets then_.chains.of
          then_.chains.ready then_.chains.sealed c.items true) (sym f.chain) (record {
            buckets = same w.before p.chain.items (λ q. k.chains.of q ≡ Some k.chains.ready)
                (λ q. then_.chains.of q ≡ Some k.chains.ready) h.stand.chain.buckets still was;
            once = h.stand.chain.once;
            many = h.stand.chain.many;
            rest = λ off. absurd (on_off off);
          }));
      round = subst (λ (b : Buckets). IsRoundOf w.flow.books w.before (length b.records) k.round
          b.touched r.round) (sym f.buckets)
          (subst (λ (t : Tracing). IsRoundOf w.flow.books w.before (length p.buckets.records)
          k.round p.buckets.touched t) (sym f.round) h.stand.round);
    }
      where
        on_off : true ≡ false → ⊥
        on_off e = cc

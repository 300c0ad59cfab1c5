-- A bucket is raised: when that may be, and what the buckets in hand stand for then.
use Rattle.std.proofs.Common.{◌≡◌, ◌≢◌, ◌⊎◌, inl, inr, ℕ, suc, ◌+◌, ◌-◌, ◌*◌, ◌%◌, ◌<◌, ◌≤◌, Bool, true, false, List, [], ◌∷◌, ◌++◌, length, refl, sym, ap, ◌∙◌, subst, arith}
use Rattle.std.specs.Prelude.{if◌then◌else◌}
use Rattle.std.proofs.lemmas.Bool.{cases_eq, cases_lt}
use Rattle.std.proofs.lemmas.Grind.{common_steps}
use Rattle.bc_alloc.proofs.Fits.{other_stays, same_length, this_changes}
use Rattle.bc_alloc.proofs.Times.{by_test, times-append}
use Rattle.bc_alloc.specs.Reserve.{times}
use Rattle.bc_alloc.specs.Reserves.{Reserves, list_of}
use Rattle.bc_alloc.specs.Victims.{IsCandidate}
use Rattle.bc_alloc.specs.declared.purpose.Purpose.{Purpose}
use Rattle.bc_alloc.specs.declared.purpose.Purpose.TheVariants as list
use Rattle.bc_books.specs.After as books
use Rattle.bc_books.specs.Books.{Books, Raise}
use Rattle.bc_books.specs.Enabled.{CanRaise, IsNear, IsNobodys, IsUnpinned}
use Rattle.bc_books.specs.Invariant.{IsInOrder}
use Rattle.bc_books.specs.Marks as mark
use Rattle.bc_books.specs.Shelves.{Shelf, Loose, Listed, Raised, Open, Held, Fresh, Owner, IsHeldBy, fresh_in}
use Rattle.bc_books.specs.Shelves as shelf
use Rattle.bc_bucket.specs.Bucket.{IsFree, IsReclaimable, raised}
use Rattle.bc_bucket.specs.Buckets.{Buckets, bucket_of, changed}
use Rattle.bc_bucket.specs.declared.bucket.Mark.{Mark}
use Rattle.bc_bucket.specs.declared.bucket.Mark.TheVariants as marks
use Rattle.bc_events.specs.Acts.{purpose_of}
use Rattle.bc_events.specs.Run as core
use Rattle.bc_fill.specs.Fill.{bucket_numbers}
use Rattle.bc_fill.specs.Fresh.{IsFreeIn}
use Rattle.bc_fill.specs.declared.fill.Open as fill
use Rattle.bc_key.specs.Generation.{behind}
use Rattle.bc_leaves.proofs.Chains.{put_else, put_there}
use Rattle.bc_machine.proofs.Buckets.{chain_stays, mark_stays, round_stays}
use Rattle.bc_machine.specs.Containers.{AreBucketsOf, IsBucketFor, is_held, mark_of, pins_in}
use Rattle.bc_machine.specs.World.{IsCourseOf, IsOrigin, Origin, World, replay}
use Rattle.bc_machine.specs.declared.part.BucketsPart.{BucketsPart}
use Rattle.bc_renew.proofs.Parts.{are_open, order_course, spread}
use Rattle.bc_places.proofs.Lists.{apart, counted}
use Rattle.bc_places.proofs.Open.{on_no_list}
use Rattle.bc_places.specs.Laws.{AreSpread}
use Rattle.bc_places.specs.Stands.{AreJust, IsCutInto, StandFor}
use Rattle.bc_shares.specs.Shares.{books_of, buckets_in}
use Rattle.bc_whole.specs.State as whole
use Rattle.bc_renew.specs.Laws.{raise_by}
use Rattle.bc_renew.specs.Raised.{HasRaised}
use Rattle.bc_renew.proofs.Inside.{sectors_inside}
use Rattle.bc_renew.proofs.Joined.{joined}
use Rattle.bc_renew.proofs.Pins.{fresh_pins, none_pinned, same_pins}

never : (b : Bool) → b ≡ true → b ≡ false → ⊥
never b is off = cc

-- ---- small facts

off : (b : Bool) → (b ≡ true → ⊥) → b ≡ false
off true wrong = absurd (wrong refl)
off false wrong = refl

mark_free : (m : Mark) → IsFree m → mark.is_free (mark_of m) ≡ true
mark_free marks.None is = refl
mark_free marks.Reclaimable is = refl
mark_free marks.Dirty is = absurd is
mark_free marks.Metadata is = absurd is

not_metadata : (m : mark.Mark) → mark.is_free m ≡ true → m ≡ mark.Metadata → ⊥
not_metadata m free is = let no = ap mark.is_free is in cc

-- the bytes of two versions that are no more than 96 apart tell by how much
by_bytes : (v p : ℕ) → p ≤ v → v ≤ p + 96 → behind (v % 256) (p % 256) + p ≡ v
by_bytes v p low high = grind (arith, common_steps)

-- held by nobody, on no list and not raised
is_loose : (x : Shelf) → is_held x ≡ false → ((p : shelf.Purpose) → x ≡ Listed p → ⊥)
    → (x ≡ Raised → ⊥) → x ≡ Loose
is_loose Loose free listed raised = refl
is_loose (Listed p) free listed raised = absurd (listed p refl)
is_loose Raised free listed raised = absurd (raised refl)
is_loose Open free listed raised = absurd (cc)
is_loose (Held i p) free listed raised = absurd (cc)

nobodys : (x : Shelf) → x ≡ Loose → IsNobodys x
nobodys x is = (λ e. absurd (cc), λ i held. let e = held.1 in absurd (cc))

loose_other : (x : Shelf) → x ≡ Loose → (x ≡ Open → ⊥) × (((p : shelf.Purpose) → x ≡ Listed p → ⊥)
    × (x ≡ Raised → ⊥))
loose_other x is = (λ e. absurd (cc), (λ p e. absurd (cc), λ e. absurd (cc)))

raised_other : (x : Shelf) → x ≡ Raised → (x ≡ Open → ⊥) × ((p : shelf.Purpose) → x ≡ Listed p → ⊥)
raised_other x is = (λ e. absurd (cc), λ p e. absurd (cc))

-- the list of the containers that is this one of the core
list_for : (p : shelf.Purpose) → (l : Purpose) × (purpose_of l ≡ p)
list_for shelf.Priorities = (list.Priorities, refl)
list_for shelf.Moving = (list.Moving, refl)
list_for shelf.Tree = (list.Tree, refl)
list_for shelf.Plain = (list.Plain, refl)

module _ (x : World) (o : Origin) (is : IsOrigin x o) (on : IsCourseOf o x.log) (p : BucketsPart)
    (h : AreBucketsOf o.opening.machine (books_of (replay o x.log).machine) p) (i n : ℕ)
    (may : IsCandidate p.reserves p.buckets n) where
  abbrev w : whole.Opening
  w = o.opening.machine

  abbrev k : Books
  k = books_of (replay o x.log).machine

  abbrev size : ℕ
  size = p.buckets.size

  abbrev q : ℕ
  q = n - w.before

  -- the buckets before the core's are metadata
  low : w.before ≤ n
  low = go (cases_lt n w.before)
    where
      go : (n < w.before) ⊎ (w.before ≤ n) → w.before ≤ n
      go (inl less) = absurd (subst IsFree (h.outside n less) may.reclaimable.free)
      go (inr le) = le

  at : w.before + q ≡ n
  at = counted w.before n low

  within : w.before + q < length p.buckets.records
  within = let there = may.there in let e = at in omega (arith, there, e)

  below : q < w.layout.buckets
  below = let many = h.cut.buckets in let there = within in omega (arith, many, there)

  order : IsInOrder w.flow.books k
  order = order_course o is.sound x.log on

  its : IsBucketFor (w.flow.books.version q) q (buckets_in k)
      (pins_in k.owner ((w.before + q) * size) size) (bucket_of p.buckets (w.before + q))
  its = h.records q within

  free : IsReclaimable (bucket_of p.buckets (w.before + q))
  free = subst (λ m. IsReclaimable (bucket_of p.buckets m)) (sym at) may.reclaimable

  -- ---- when it may be

  unlisted : (x : shelf.Purpose) → k.shelf q ≡ Listed x → ⊥
  unlisted x is =
      let l = list_for x in
      let some = (h.places.lists.lists l.0).all q (is ∙ ap Listed (sym l.1)) in
      let none = on_no_list p.reserves l.0 n may.loose in
      let e = ap (λ m. times m (list_of l.0 p.reserves).buckets) at in
      absurd (omega (arith, some, none, e))

  unraised : k.shelf q ≡ Raised → ⊥
  unraised is =
      let some = h.places.lists.raised.all q is in
      let none = may.loose in
      let e = ap (λ m. times m p.reserves.raised) at in
      absurd (omega (arith, some, none, e))

  loose : k.shelf q ≡ Loose
  loose = is_loose (k.shelf q) (sym its.held ∙ free.not_held) unlisted unraised

  unmarked : mark.is_free (k.mark q) ≡ true
  unmarked = ap mark.is_free (sym its.mark)
      ∙ mark_free (bucket_of p.buckets (w.before + q)).mark free.free

  unfixed : w.flow.books.fixed q ≡ false
  unfixed = off (w.flow.books.fixed q) (λ is. not_metadata (k.mark q) unmarked
      (order.marked.marked q (inl is)))

  -- the core's places of the bucket are its sectors
  sector : (t : ℕ) → w.flow.books.bucket t ≡ q → ((w.before + q) * size ≤ t)
      × (t < (w.before + q) * size + size)
  sector t its = sectors_inside x o is size (length p.buckets.records) h.cut p.sized q t below
      unfixed
      its

  unpinned : IsUnpinned w.flow.books.bucket k.owner q
  unpinned t is pinned = let lies = sector t is in
      none_pinned k.owner ((w.before + q) * size) size t (sym its.pins ∙ free.unpinned) lies.0
      lies.1
      pinned

  near : IsNear k.generations q
  near =
      let low = order.dated.oldest q in
      let high = order.dated.window q in
      let bytes = by_bytes (k.generations.version q) (k.generations.last_gc q) low high in
      let less = free.near in
      let v = its.generation in
      let g = its.last_gc in
      let same = ap (λ m. behind m (bucket_of p.buckets (w.before + q)).last_gc) v
      ∙ ap (λ m. behind (k.generations.version q % 256) m) g in
      omega (arith, bytes, less, same)

  can : CanRaise w.flow.books k q
  can = (
    record {
      unpinned = unpinned;
      not_held = nobodys (k.shelf q) loose;
      free = unmarked;
      near = near;
    },
    loose,
  )

  pub may_raise : core.IsSeat i → (replay o x.log).machine.whole.flow.halted ≡ false
      → core.IsEnabled o.opening (replay o x.log) (raise_by i w.before n)
  may_raise few running = record {
    seat = few;
    course = (
      record {
        data_allows = (record { heard = running; steps = (can, tt); can = tt }, tt);
        asks = refl;
      },
      tt,
    );
    fit = tt;
    its_line = tt;
    plain = λ plain. absurd (never o.opening.machine.flow.plain plain is.cached);
  }

  -- ---- what it leaves

  abbrev then_ : Books
  then_ = books.after w.flow.books k (Raise q)

  laid : AreSpread w.before size p.reserves.count w.flow.books
  laid = spread w p is.sound.laid h.cut

  -- a place of another bucket has the owner that it had
  owner_else : (t : ℕ) → w.flow.books.bucket t ≢ q → then_.owner t ≡ k.owner t
  owner_else t ne = by_test (w.flow.books.bucket t) q
      (λ b. (if b then Fresh else k.owner t) ≡ k.owner t) (λ e. absurd (ne e)) (λ _. refl)

  owner_there : (t : ℕ) → w.flow.books.bucket t ≡ q → then_.owner t ≡ Fresh
  owner_there t is = by_test (w.flow.books.bucket t) q
      (λ b. (if b then Fresh else k.owner t) ≡ Fresh) (λ _. refl) (λ ne. absurd (ne is))

  still_fresh : (t : ℕ) → k.owner t ≡ Fresh → then_.owner t ≡ Fresh
  still_fresh t is = by_test (w.flow.books.bucket t) q
      (λ b. (if b then Fresh else k.owner t) ≡ Fresh) (λ _. refl) (λ _. is)

  -- the sectors of a bucket of the device are its places
  sectors_of : (j t : ℕ) → w.before + j < length p.buckets.records
      → (w.before + j) * size ≤ t → t < (w.before + j) * size + size
      → w.flow.books.bucket t ≡ j
  sectors_of j t there low high = let same = p.fit.same_count in
      laid j t (omega (arith, same, there)) low high

  record_else : (j : ℕ) → w.before + j < length p.buckets.records → j ≢ q
      → IsBucketFor (w.flow.books.version j) j (buckets_in then_)
      (pins_in then_.owner ((w.before + j) * size) size) (bucket_of p.buckets (w.before + j))
  record_else j there ne =
      let was = h.records j there in
      let version = put_else k.generations.version q (suc (k.generations.version q)) j ne in record {
        generation = was.generation ∙ ap (λ v. v % 256) (sym version);
        uses = version ∙ was.uses;
        last_gc = was.last_gc;
        mark = was.mark;
        pins = was.pins ∙ sym (same_pins k.owner then_.owner ((w.before + j) * size) size
            (λ t low high. owner_else t (λ e. ne (sym (sectors_of j t there low high) ∙ e))));
        held = was.held ∙ sym (ap is_held (put_else k.shelf q Raised j ne));
      }

  next_byte : (v g : ℕ) → g ≡ v % 256 → (g + 1) % 256 ≡ suc v % 256
  next_byte v g is = grind (arith, common_steps)

  record_there : IsBucketFor (w.flow.books.version q) q (buckets_in then_)
      (pins_in then_.owner ((w.before + q) * size) size)
      (raised (bucket_of p.buckets (w.before + q)))
  record_there =
      let version = put_there k.generations.version q (suc (k.generations.version q)) in record {
        generation = next_byte (k.generations.version q)
            (bucket_of p.buckets (w.before + q)).generation its.generation
            ∙ ap (λ v. v % 256) (sym version);
        uses = let was = its.uses in omega (arith, version, was);
        last_gc = its.last_gc;
        mark = its.mark;
        pins = free.unpinned ∙ sym (fresh_pins then_.owner ((w.before + q) * size) size
            (λ t low high. owner_there t (sectors_of q t within low high)));
        held = free.not_held ∙ sym (ap is_held (put_there k.shelf q Raised));
      }

  abbrev final : Buckets
  final = changed raised n p.buckets

  record_then : (j : ℕ) → w.before + j < length p.buckets.records → (j ≡ q) ⊎ (j ≢ q)
      → IsBucketFor (w.flow.books.version j) j (buckets_in then_)
      (pins_in then_.owner ((w.before + j) * size) size) (bucket_of final (w.before + j))
  record_then j there (inl e) = subst (λ m. IsBucketFor (w.flow.books.version m) m (buckets_in
      then_)
      (pins_in then_.owner ((w.before + m) * size) size) (bucket_of final (w.before + m))) (sym e)
      (subst (IsBucketFor (w.flow.books.version q) q (buckets_in then_)
      (pins_in then_.owner ((w.before + q) * size) size))
      (sym (ap (bucket_of final) at ∙ this_changes raised n p.buckets may.there
      ∙ ap (λ m. raised (bucket_of p.buckets m)) (sym at))) record_there)
  record_then j there (inr ne) = subst (IsBucketFor (w.flow.books.version j) j (buckets_in then_)
      (pins_in then_.owner ((w.before + j) * size) size))
      (sym (other_stays raised n p.buckets (w.before + j)
      (let e = at in λ same. ne (omega (arith, same, e))))) (record_else j there ne)

  -- the bucket was on no list, and is among the raised ones
  shelf_else : (j : ℕ) → j ≢ q → then_.shelf j ≡ k.shelf j
  shelf_else j ne = put_else k.shelf q Raised j ne

  shelf_there : then_.shelf q ≡ Raised
  shelf_there = put_there k.shelf q Raised

  not_open : (j : ℕ) → k.shelf j ≡ Open → j ≢ q
  not_open j is e = (loose_other (k.shelf q) loose).0 (sym (ap k.shelf e) ∙ is)

  opens_then : AreJust w.before (bucket_numbers p.fill) (λ j. then_.shelf j ≡ Open)
  opens_then = apart w.before n (bucket_numbers p.fill) (λ j. k.shelf j ≡ Open)
      (λ j. then_.shelf j ≡ Open) low h.places.opens.buckets
      (loose_other (k.shelf q) loose).0 (λ j ne is. shelf_else j ne ∙ is)
      (λ j ne is. sym (shelf_else j ne) ∙ is) (raised_other (then_.shelf q) shelf_there).0

  lists_then : (l : Purpose) → AreJust w.before (list_of l p.reserves).buckets
      (λ j. then_.shelf j ≡ Listed (purpose_of l))
  lists_then l = apart w.before n (list_of l p.reserves).buckets
      (λ j. k.shelf j ≡ Listed (purpose_of l)) (λ j. then_.shelf j ≡ Listed (purpose_of l)) low
      (h.places.lists.lists l) ((loose_other (k.shelf q) loose).1.0 (purpose_of l))
      (λ j ne is. shelf_else j ne ∙ is) (λ j ne is. sym (shelf_else j ne) ∙ is)
      ((raised_other (then_.shelf q) shelf_there).1 (purpose_of l))

  raised_then : AreJust w.before (p.reserves.raised ++ n ∷ []) (λ j. then_.shelf j ≡ Raised)
  raised_then = joined w.before n p.reserves.raised (p.reserves.raised ++ n ∷ [])
      (λ j. k.shelf j ≡ Raised) (λ j. then_.shelf j ≡ Raised) low h.places.lists.raised
      (λ j. times-append j p.reserves.raised (n ∷ [])) (λ j ne on. shelf_else j ne ∙ on)
      (λ j ne on. sym (shelf_else j ne) ∙ on) shelf_there

  places_then : (r : Reserves) → r ≡ record p.reserves { raised = p.reserves.raised ++ n ∷ [] }
      → StandFor w.before size p.fill r then_
  places_then r is = subst (λ r. StandFor w.before size p.fill r then_) (sym is) (record {
    opens = record {
      buckets = opens_then;
      free = λ t open_. still_fresh t (h.places.opens.free t open_);
      given = λ j t there low high fresh. given j t there low high fresh;
    };
    lists = record { lists = lists_then; raised = raised_then };
  })
    where
      -- a place in an open bucket is as it was
      given : (j t : ℕ) → 0 < times j (bucket_numbers p.fill) → j * size ≤ t
          → t < j * size + size → then_.owner t ≡ Fresh → IsFreeIn size p.fill t
      given j t there low high fresh =
          let behind = h.places.opens.buckets.behind j there in
          let is = counted w.before j behind in
          let opened = h.places.opens.buckets.each (j - w.before)
          (subst (λ m. 0 < times m (bucket_numbers p.fill)) (sym is) there) in
          let apart = not_open (j - w.before) opened in
          let known = open_known j there in
          let its = sectors_of (j - w.before) t (omega (arith, is, known))
          (subst (λ m. m * size ≤ t) (sym is) low)
          (subst (λ m. t < m * size + size) (sym is) high) in
          h.places.opens.given j t there low high
          (sym (owner_else t (λ e. apart (sym its ∙ e))) ∙ fresh)
        where
          open_known : (j : ℕ) → 0 < times j (bucket_numbers p.fill) → j < length p.buckets.records
          open_known j there = let one = (are_open p).each j there in
              let below = one.0 in let same = p.fit.same_count in omega (arith, below, same)

  module _ (r : BucketsPart) (f : HasRaised p (n ∷ []) r) where
    pub raise_stands : AreBucketsOf w
        (books_of (core.after o.opening (replay o x.log) (raise_by i w.before n)).machine) r
    raise_stands = record {
      cut = subst (λ (b : Buckets). IsCutInto b.size (length b.records) w) (sym f.buckets)
          (subst (λ m. IsCutInto size m w) (sym (same_length raised n p.buckets)) h.cut);
      data_from = ap (λ (b : Buckets). b.data_from) f.buckets ∙ h.data_from;
      records = subst (λ (b : Buckets). (j : ℕ) → w.before + j < length b.records
          → IsBucketFor (w.flow.books.version j) j (buckets_in then_)
          (pins_in then_.owner ((w.before + j) * b.size) b.size) (bucket_of b (w.before + j)))
          (sym f.buckets) (λ j there. record_then j
          (let long = same_length raised n p.buckets in omega (arith, long, there)) (cases_eq j q));
      places = subst (λ (b : Buckets). StandFor w.before b.size r.fill r.reserves then_)
          (sym f.buckets)
          (subst (λ (fs : List fill.Open). StandFor w.before size fs r.reserves then_) (sym f.fill)
          (places_then r.reserves f.reserves));
      outside = λ j less. ap (λ (b : Buckets). (bucket_of b j).mark) f.buckets
          ∙ mark_stays raised (λ x. refl) n p.buckets j ∙ h.outside j less;
      room = ap (λ (x : Reserves). (list_of list.Priorities x).room) f.reserves ∙ h.room;
      chain = chain_stays w.before w.flow.books.sets k.chains.of k.chains.ready k.chains.sealed p r
          f.rest h.chain;
      round = round_stays w.flow.books w.before k.round p r final f.rest f.buckets
          (same_length raised n p.buckets) refl h.round;
    }

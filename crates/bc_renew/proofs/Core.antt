-- What an entry with a new chain makes ready is ready to the core: when that may be, and what the
-- buckets in hand stand for then.
use Rattle.std.proofs.Common.{◌≡◌, ◌≢◌, ◌⊎◌, inl, inr, ℕ, suc, ◌+◌, ◌-◌, ◌*◌, ◌%◌, ◌<◌, ◌≤◌, Bool, true, false, List, [], ◌∷◌, ◌++◌, length, get_or, Option, Some, None, refl, sym, ap, ◌∙◌, subst, arith}
use Rattle.std.specs.Prelude.{◌||◌, drop, if◌then◌else◌, sum_by, take, Vec}
use Rattle.std.specs.declared.alloc.Global.{Global}
use Rattle.std.proofs.lemmas.Bool.{cases_eq, cases_lt}
use Rattle.std.proofs.lemmas.List.{set_past, take-append-drop}
use Rattle.bc_alloc.proofs.Fits.{other_stays, same_length, this_changes}
use Rattle.bc_alloc.proofs.Times.{by_test, times-append}
use Rattle.bc_alloc.specs.Buckets.{all_changed, made_ready, unmarked}
use Rattle.bc_alloc.specs.Reserve.{IsDistinct, Reserve, free, times}
use Rattle.bc_alloc.specs.Reserves.{Reserves, list_of, returned, returned_all, stored_all, times_listed}
use Rattle.bc_alloc.specs.declared.purpose.Purpose.TheVariants as list
use Rattle.bc_books.specs.After as books
use Rattle.bc_books.specs.Books.{Books, MakeReady, ReadyChain, Setup}
use Rattle.bc_books.specs.Chains.{Chains, Many, given_up, is_chain}
use Rattle.bc_books.specs.Invariant.{IsInOrder}
use Rattle.bc_books.specs.Marks as mark
use Rattle.bc_books.specs.Round.{Round}
use Rattle.bc_books.specs.Shelves.{Shelf, Loose, Listed, Open, Raised}
use Rattle.bc_books.specs.Shelves as shelf
use Rattle.bc_bucket.specs.Bucket.{no_bucket}
use Rattle.bc_bucket.specs.Buckets.{Buckets, bucket_of, changed}
use Rattle.bc_bucket.specs.declared.bucket.Bucket.{Bucket}
use Rattle.bc_data.specs.Data as flow
use Rattle.bc_events.specs.Acts as events
use Rattle.bc_events.specs.Acts.{listed, purpose_of}
use Rattle.bc_events.specs.Run as core
use Rattle.bc_events.specs.Run.{by}
use Rattle.bc_events.specs.declared.event.Listing.{Listing}
use Rattle.bc_fill.specs.declared.fill.Open as fill
use Rattle.bc_known.specs.Acts as known
use Rattle.bc_known.specs.Run as machine
use Rattle.bc_leaves.specs.After.{has}
use Rattle.bc_renew.proofs.Parts.{order_course}
use Rattle.bc_machine.proofs.Buckets.{touched_round}
use Rattle.bc_machine.specs.Containers.{AreBucketsOf, IsChainOf, IsRoundOf, is_held, pins_in}
use Rattle.bc_machine.specs.World.{IsCourseOf, IsOrigin, Origin, World, replay}
use Rattle.bc_machine.specs.declared.part.BucketsPart.{BucketsPart}
use Rattle.bc_machine.specs.declared.part.Tracing.{Tracing}
use Rattle.bc_places.proofs.Lists.{counted, same}
use Rattle.bc_places.specs.Stands.{AreJust, IsCutInto}
use Rattle.bc_shares.specs.Shares.{books_of}
use Rattle.bc_whole.specs.State as whole
use Rattle.bc_renew.specs.Goes.{first_list, given_back, listings}
use Rattle.bc_renew.specs.Laws.{ready_by}
use Rattle.bc_renew.specs.Ready.{CanGo, HasMadeReady, MayReady, all_touched, chained}
use Rattle.bc_renew.proofs.All.{AreReady, AreRoomy, HasReady, all_placed, all_ready, back_stands, back_to, chain_stands, placed_else, placed_owner, placed_versions, ready_stands, with_lists, with_raised}
use Rattle.bc_renew.proofs.Chain.{alike, are_roomy, back_long, back_times, many_on, put_back}
use Rattle.bc_renew.proofs.Goes.{FourOf, four_of, returned_four}
use Rattle.bc_renew.proofs.Going.{can_go}
use Rattle.bc_renew.proofs.Put.{Stands}
use Rattle.bc_renew.proofs.Touched.{all_else, is_touched, returned_all_room, stored_all_room, touched_data, touched_else, touched_long, touched_records, touched_size, touched_stands, touched_there}

never : (b : Bool) → b ≡ true → b ≡ false → ⊥
never b is off = cc

-- ---- the acts of the event

-- each of the listed ones may be, behind those before it
all_course : (w : whole.Opening) (st : known.State) (i : ℕ) (xs : List Listing)
    → st.whole.flow.halted ≡ false → AreReady w.flow.books (books_of st) xs
    → machine.IsRun w st (by i (listed xs))
all_course w st i [] running may = tt
all_course w st i (x ∷ xs) running may = (
  record {
    data_allows = (record { heard = running; steps = ((may.0, may.1), tt); can = tt }, tt);
    asks = refl;
  },
  all_course w (known.after w st i (known.Alone (flow.Shelve (MakeReady x.bucket (events.list_of
      x.list))))) i xs running may.2,
)

all_books : (w : whole.Opening) (st : known.State) (i : ℕ) (xs : List Listing)
    → books_of (machine.run w st (by i (listed xs))) ≡ all_ready w.flow.books (books_of st) xs
all_books w st i [] = refl
all_books w st i (x ∷ xs) = all_books w
    (known.after w st i (known.Alone (flow.Shelve (MakeReady x.bucket (events.list_of x.list))))) i
    xs

-- ---- the same books

-- what is known of some books is known of others that have the same of each bucket
stands_alike : (w : whole.Opening) (k l : Books) (b : Buckets) (r : Reserves) (fs : List fill.Open)
    → ((q : ℕ) → l.mark q ≡ k.mark q) → ((q : ℕ) → l.shelf q ≡ k.shelf q) → l.owner ≡ k.owner
    → l.generations ≡ k.generations → Stands w k b r fs → Stands w l b r fs
stands_alike w k l b r fs mark shelf owner versions s = record {
  records = λ q inside. let was = s.records q inside in record {
    generation = was.generation ∙ ap (λ g. g.version q % 256) (sym versions);
    uses = ap (λ g. g.version q) versions ∙ was.uses;
    last_gc = was.last_gc ∙ ap (λ g. g.last_gc q % 256) (sym versions);
    mark = was.mark ∙ sym (mark q);
    pins = was.pins ∙ ap (λ o. pins_in o ((w.before + q) * b.size) b.size) (sym owner);
    held = was.held ∙ ap is_held (sym (shelf q));
  };
  places = record {
    opens = record {
      buckets = same w.before _ (λ q. k.shelf q ≡ Open) (λ q. l.shelf q ≡ Open)
          s.places.opens.buckets (λ q is. shelf q ∙ is) (λ q is. sym (shelf q) ∙ is);
      free = λ t is. ap (λ o. o t) owner ∙ s.places.opens.free t is;
      given = λ j t there low high fresh.
          s.places.opens.given j t there low high (sym (ap (λ o. o t) owner) ∙ fresh);
    };
    lists = record {
      lists = λ p. same w.before _ (λ q. k.shelf q ≡ Listed (purpose_of p))
          (λ q. l.shelf q ≡ Listed (purpose_of p)) (s.places.lists.lists p)
          (λ q is. shelf q ∙ is) (λ q is. sym (shelf q) ∙ is);
      raised = same w.before _ (λ q. k.shelf q ≡ Raised) (λ q. l.shelf q ≡ Raised)
          s.places.lists.raised (λ q is. shelf q ∙ is) (λ q is. sym (shelf q) ∙ is);
    };
  };
}

-- a change of many leaves their number, the sizes and where the data begin
all_length : (f : Bucket → Bucket) (ks : List ℕ) (b : Buckets)
    → length (all_changed f ks b).records ≡ length b.records
all_length f [] b = refl
all_length f (n ∷ ks) b = all_length f ks (changed f n b) ∙ same_length f n b

all_size : (f : Bucket → Bucket) (ks : List ℕ) (b : Buckets) → (all_changed f ks b).size ≡ b.size
all_size f [] b = refl
all_size f (n ∷ ks) b = all_size f ks (changed f n b)

all_data : (f : Bucket → Bucket) (ks : List ℕ) (b : Buckets)
    → (all_changed f ks b).data_from ≡ b.data_from
all_data f [] b = refl
all_data f (n ∷ ks) b = all_data f ks (changed f n b)

all_touches : (f : Bucket → Bucket) (ks : List ℕ) (b : Buckets)
    → (all_changed f ks b).touched ≡ b.touched
all_touches f [] b = refl
all_touches f (n ∷ ks) b = all_touches f ks (changed f n b)

-- those that are listed change neither chains nor a round
all_ready_chains : (w : Setup) (xs : List Listing) (k : Books)
    → (all_ready w k xs).chains ≡ k.chains
all_ready_chains w [] k = refl
all_ready_chains w (x ∷ xs) k =
    all_ready_chains w xs (books.after w k (MakeReady x.bucket (events.list_of x.list)))

all_ready_round : (w : Setup) (xs : List Listing) (k : Books) → (all_ready w k xs).round ≡ k.round
all_ready_round w [] k = refl
all_ready_round w (x ∷ xs) k =
    all_ready_round w xs (books.after w k (MakeReady x.bucket (events.list_of x.list)))

-- buckets that were let go are held by nobody
free_stays : (f : Bucket → Bucket) → ((x : Bucket) → x.held ≡ false → (f x).held ≡ false)
    → (ks : List ℕ) (b : Buckets) (j : ℕ) → (bucket_of b j).held ≡ false
    → (bucket_of (all_changed f ks b) j).held ≡ false
free_stays f keeps [] b j free = free
free_stays f keeps (n ∷ ks) b j free = free_stays f keeps ks (changed f n b) j
    (go (cases_eq j n) (cases_lt n (length b.records)))
  where
    go : (j ≡ n) ⊎ (j ≢ n) → (n < length b.records) ⊎ (length b.records ≤ n)
        → (bucket_of (changed f n b) j).held ≡ false
    go (inl e) (inl less) = ap (λ i. (bucket_of (changed f n b) i).held) e
        ∙ ap (λ (x : Bucket). x.held) (this_changes f n b less)
        ∙ keeps (bucket_of b n) (ap (λ i. (bucket_of b i).held) (sym e) ∙ free)
    go (inl e) (inr past) =
        ap (λ (xs : List Bucket). (get_or xs j no_bucket).held)
        (set_past b.records n (f (bucket_of b n)) past) ∙ free
    go (inr ne) x = ap (λ (x : Bucket). x.held) (other_stays f n b j ne) ∙ free

module _ (x : World) (o : Origin) (is : IsOrigin x o) (on : IsCourseOf o x.log) (p : BucketsPart)
    (h : AreBucketsOf o.opening.machine (books_of (replay o x.log).machine) p) (i named : ℕ)
    (next : Vec ℕ Global)
    (its : MayReady i (take named p.reserves.raised) next.items o (replay o x.log))
    (back : Vec ℕ Global)
    (back_is : back.items ≡ given_back o.opening.machine.before p.chain.items p.reserves.lists)
    (listing : Vec Listing Global)
    (listing_is : listing.items ≡ listings o.opening.machine.before (take named p.reserves.raised)
    (returned_all p.chain.items p.reserves.lists)) where
  abbrev old : List ℕ
  old = p.chain.items

  abbrev new : List ℕ
  new = next.items

  abbrev w : whole.Opening
  w = o.opening.machine

  abbrev k : Books
  k = books_of (replay o x.log).machine

  abbrev room : ℕ → Bool
  room = has back.items

  order : IsInOrder w.flow.books k
  order = order_course o is.sound x.log on

  abbrev ks : List ℕ
  ks = take named p.reserves.raised

  abbrev rest : List ℕ
  rest = drop named p.reserves.raised

  -- ---- what is known of each chain

  can : CanGo p new
  can = can_go x o is on p h i named next its

  old_are : AreJust w.before old (λ q. k.chains.of q ≡ Some k.chains.ready)
  old_are = h.chain.buckets

  new_are : AreJust w.before new (λ q. k.chains.of q ≡ Some (suc k.chains.ready))
  new_are = its.next.buckets

  count_is : length p.buckets.records ≡ p.reserves.count
  count_is = p.fit.same_count

  old_inside : (j : ℕ) → 0 < times j old → (w.before ≤ j) × (j < length p.buckets.records)
  old_inside j some = (
    old_are.behind j some,
    let below = (can.loose j some).0 in let same = count_is in omega (arith, below, same),
  )

  new_inside : (j : ℕ) → 0 < times j new → (w.before ≤ j) × (j < length p.buckets.records)
  new_inside j some = (
    new_are.behind j some,
    let below = (can.taken.each j some).there in let same = count_is in omega (arith, below, same),
  )

  old_of : (j : ℕ) → 0 < times j old → k.chains.of (j - w.before) ≡ Some k.chains.ready
  old_of j some = old_are.each (j - w.before) (subst (λ n. 0 < times n old)
      (sym (counted w.before j (old_are.behind j some))) some)

  new_of : (j : ℕ) → 0 < times j new → k.chains.of (j - w.before) ≡ Some (suc k.chains.ready)
  new_of j some = new_are.each (j - w.before) (subst (λ n. 0 < times n new)
      (sym (counted w.before j (new_are.behind j some))) some)

  old_loose : (j : ℕ) → 0 < times j old → k.shelf (j - w.before) ≡ Loose
  old_loose j some =
      (order.chained.links (j - w.before) k.chains.ready (old_of j some)).loose refl

  -- a bucket of the chain before is none of the next one
  apart : (j : ℕ) → 0 < times j old → times (w.before + (j - w.before)) new ≡ 0
  apart j some = go (cases_lt 0 (times (w.before + (j - w.before)) new))
    where
      go : (0 < times (w.before + (j - w.before)) new)
          ⊎ (times (w.before + (j - w.before)) new ≤ 0)
          → times (w.before + (j - w.before)) new ≡ 0
      go (inl both) =
          let x : Some k.chains.ready ≡ Some (suc k.chains.ready)
          = sym (old_of j some) ∙ new_are.each (j - w.before) both in absurd (later x)
        where
          later : Some k.chains.ready ≡ Some (suc k.chains.ready) → ⊥
          later x = let e : k.chains.ready ≡ suc k.chains.ready = cc in omega (arith, e)
      go (inr none) = omega (arith, none)

  -- ---- one behind the other

  stands : Stands w k p.buckets p.reserves p.fill
  stands = record { records = h.records; places = h.places }

  abbrev freed : Buckets
  freed = all_changed chained new p.buckets

  let_go : Stands w (all_placed w.before mark.Metadata (λ q. None) new k) freed p.reserves p.fill
  let_go = chain_stands w p.fill p.reserves new k p.buckets stands can.taken.distinct new_inside
      (λ j some. (i, its.held (j - w.before) (new_of j some)))

  roomy : AreRoomy w.before room old p.reserves.lists
  roomy = are_roomy w.before (free (first_list p.reserves.lists)) room old p.reserves.lists refl
      can.distinct old_are.behind (λ j some. ap (λ xs. has xs (j - w.before)) back_is)

  abbrev given : Buckets
  given = all_changed unmarked old freed

  abbrev lists : List Reserve
  lists = returned_all old p.reserves.lists

  gave : Stands w (all_placed w.before mark.Unmarked (back_to room) old
      (all_placed w.before mark.Metadata (λ q. None) new k)) given
      (with_lists lists p.reserves) p.fill
  gave = back_stands w p.fill room old (all_placed w.before mark.Metadata (λ q. None) new k) freed
      p.reserves let_go can.distinct p.order.four
      (λ j some. let at = old_inside j some in (
        at.0,
        let long = all_length chained new p.buckets in
            let high = at.1 in omega (arith, long, high),
      ))
      (λ j some. (placed_else w.before mark.Metadata (λ q. None) new k (j - w.before)
      new_are.behind (apart j some)).1 ∙ old_loose j some)
      (λ j some. free_stays chained (λ x is. refl) new p.buckets j (can.loose j some).2) roomy

  abbrev then_ : Books
  then_ = books.after w.flow.books k (ReadyChain room)

  ready : Stands w then_ given (with_lists lists p.reserves) p.fill
  ready = stands_alike w (put_back w.flow.books k w.before old new room old_are new_are
      can.distinct
      can.taken.distinct) then_ given (with_lists lists p.reserves) p.fill
      (λ q. sym (alike w.flow.books k w.before old new room old_are new_are can.distinct
      can.taken.distinct q).0)
      (λ q. sym (alike w.flow.books k w.before old new room old_are new_are can.distinct
      can.taken.distinct q).1)
      (sym (placed_owner w.before mark.Unmarked (back_to room) old
      (all_placed w.before mark.Metadata (λ q. None) new k)
      ∙ placed_owner w.before mark.Metadata (λ q. None) new k))
      (sym (placed_versions w.before mark.Unmarked (back_to room) old
      (all_placed w.before mark.Metadata (λ q. None) new k)
      ∙ placed_versions w.before mark.Metadata (λ q. None) new k)) gave

  -- ---- when it may be

  four_lists : FourOf p.reserves.lists
  four_lists = four_of p.reserves.lists p.order.four

  once : (j : ℕ) → times j (first_list lists).buckets ≤ 1
  once j = go (cases_lt 0 (times j old))
    where
      here : times j (first_list p.reserves.lists).buckets ≤ times_listed p.reserves j
      here = subst (λ ls. times j (first_list ls).buckets
          ≤ sum_by (λ (l : Reserve). times j l.buckets) ls + times j p.reserves.raised)
          (sym four_lists.are) (omega arith)

      most : times j (first_list lists).buckets
          ≤ times j (first_list p.reserves.lists).buckets + times j old
      most = back_times j old p.reserves.lists

      go : (0 < times j old) ⊎ (times j old ≤ 0) → times j (first_list lists).buckets ≤ 1
      go (inl some) =
          let none = (can.loose j some).1 in
          let one = can.distinct j in
          let low = here in
          let all = most in omega (arith, none, one, low, all)
      go (inr none) =
          let one = p.order.once j in
          let low = here in
          let all = most in omega (arith, none, one, low, all)

  many : Many w.flow.books.sets (λ c. then_.shelf c ≡ Listed shelf.Priorities)
  many = many_on w.flow.books.sets w.before (first_list lists).buckets
      (λ c. then_.shelf c ≡ Listed shelf.Priorities) (ready.places.lists.lists list.Priorities) once
      (let long = h.chain.many in
      back_long w.flow.books.sets old p.reserves.lists (omega (arith, long))
      (let fits = h.room in omega (arith, long, fits)))

  raised_distinct : IsDistinct (ks ++ rest)
  raised_distinct = subst IsDistinct (sym (take-append-drop named p.reserves.raised))
      (λ j. let one = p.order.once j in omega (arith, one))

  -- a raised bucket is none of a chain
  raised_inside : (j : ℕ) → 0 < times j ks → (j < length given.records)
      × ((bucket_of given j).held ≡ false)
  raised_inside j some = (
    let first = all_length chained new p.buckets in
        let second = all_length unmarked old freed in
        let below = known in omega (arith, first, second, below),
    free_stays unmarked (λ x is. is) old freed j
        (free_stays chained (λ x is. refl) new p.buckets j (p.fit.not_held j listed_)),
  )
    where
      among : 0 < times j p.reserves.raised
      among =
          let both = times-append j ks rest in
          let all = ap (λ xs. times j xs) (take-append-drop named p.reserves.raised) in
          omega (arith, some, both, all)

      listed_ : 0 < times_listed p.reserves j
      listed_ = let here = among in omega (arith, here)

      known : j < length p.buckets.records
      known = go (cases_lt j p.reserves.count)
        where
          go : (j < p.reserves.count) ⊎ (p.reserves.count ≤ j) → j < length p.buckets.records
          go (inl less) = let same = count_is in omega (arith, less, same)
          go (inr past) = absurd (let none = p.order.below j past in
              let here = listed_ in omega (arith, none, here))

  all_listed : HasReady w p.fill p.reserves ks rest lists then_ given
  all_listed = ready_stands w p.fill p.reserves ks rest lists then_ given
      (subst (λ xs. Stands w then_ given (with_raised xs lists p.reserves) p.fill)
      (sym (take-append-drop named p.reserves.raised)) ready) raised_distinct
      (all_four old p.reserves.lists ∙ p.order.four) raised_inside
      (λ j some. its.generations j some)
    where
      all_four : (xs : List ℕ) (ls : List Reserve) → length (returned_all xs ls) ≡ length ls
      all_four [] ls = refl
      all_four (x ∷ xs) ls = all_four xs (returned x ls) ∙ returned_four x ls

  pub may_ready : core.IsSeat i → (replay o x.log).machine.whole.flow.halted ≡ false
      → core.IsEnabled o.opening (replay o x.log) (ready_by i back listing)
  may_ready few running = record {
    seat = few;
    course = (
      record {
        data_allows = (
          record { heard = running; steps = (its.durable, tt); can = tt },
          tt,
        );
        asks = (inr many, its.held);
      },
      all_course w (known.after w (replay o x.log).machine i (known.ReadyChain room)) i
          listing.items
          running
          (subst (AreReady w.flow.books then_) (sym listing_is) all_listed.may),
    );
    fit = tt;
    its_line = tt;
    plain = λ plain. absurd (never o.opening.machine.flow.plain plain is.cached);
  }

  -- ---- what it leaves

  final_books : books_of (core.after o.opening (replay o x.log)
      (ready_by i back listing)).machine
      ≡ all_ready w.flow.books then_
      (listings w.before ks lists)
  final_books = all_books w (known.after w (replay o x.log).machine i (known.ReadyChain room)) i
      listing.items ∙ ap (all_ready w.flow.books then_) listing_is

  module _ (r : BucketsPart) (f : HasMadeReady p named next r) where
    abbrev settled : Buckets
    settled = all_changed made_ready ks given

    -- and the next chain's are touched
    abbrev final : Buckets
    final = all_touched new settled

    are_final : Stands w (all_ready w.flow.books then_ (listings w.before ks lists)) r.buckets
        r.reserves r.fill
    are_final = subst (λ b. Stands w (all_ready w.flow.books then_ (listings w.before ks lists)) b
        r.reserves r.fill) (sym f.buckets)
        (subst (λ x. Stands w (all_ready w.flow.books then_ (listings w.before ks lists)) final x
        r.fill) (sym f.reserves)
        (subst (λ fs. Stands w (all_ready w.flow.books then_ (listings w.before ks lists)) final
        (with_raised rest (stored_all ks lists) p.reserves) fs) (sym f.fill)
        (touched_stands w (all_ready w.flow.books then_ (listings w.before ks lists))
        (with_raised rest (stored_all ks lists) p.reserves) p.fill new settled all_listed.stand)))

    settled_touched : settled.touched ≡ p.buckets.touched
    settled_touched = all_touches made_ready ks given ∙ all_touches unmarked old freed
        ∙ all_touches chained new p.buckets

    final_length : length final.records ≡ length p.buckets.records
    final_length = ap (λ (xs : List Bucket). length xs) (touched_records new settled)
        ∙ all_length made_ready ks given ∙ all_length unmarked old freed
        ∙ all_length chained new p.buckets

    final_size : final.size ≡ p.buckets.size
    final_size = touched_size new settled ∙ all_size made_ready ks given ∙ all_size unmarked old freed
        ∙ all_size chained new p.buckets

    final_data : final.data_from ≡ p.buckets.data_from
    final_data = touched_data new settled ∙ all_data made_ready ks given ∙ all_data unmarked old freed
        ∙ all_data chained new p.buckets

    -- the buckets before the core's are none of these
    none_of : (j : ℕ) (xs : List ℕ) → ((n : ℕ) → 0 < times n xs → w.before ≤ n) → j < w.before
        → times j xs ≡ 0
    none_of j xs behind less = go (cases_lt 0 (times j xs))
      where
        go : (0 < times j xs) ⊎ (times j xs ≤ 0) → times j xs ≡ 0
        go (inl some) = absurd (let low = behind j some in omega (arith, low, less))
        go (inr none) = omega (arith, none)

    raised_behind : (n : ℕ) → 0 < times n ks → w.before ≤ n
    raised_behind n some = h.places.lists.raised.behind n
        (let both = times-append n ks rest in
        let all = ap (λ xs. times n xs) (take-append-drop named p.reserves.raised) in
        omega (arith, some, both, all))

    final_outside : (j : ℕ) → j < w.before
        → (bucket_of final j).mark ≡ (bucket_of p.buckets j).mark
    final_outside j less =
        ap (λ (xs : List Bucket). (get_or xs j no_bucket).mark) (touched_records new settled)
        ∙ ap (λ (b : Bucket). b.mark)
        (all_else made_ready ks given j (none_of j ks raised_behind less)
        ∙ all_else unmarked old freed j (none_of j old old_are.behind less)
        ∙ all_else chained new p.buckets j (none_of j new new_are.behind less))

    -- ---- the chain in hand

    abbrev last : Books
    last = all_ready w.flow.books then_ (listings w.before ks lists)

    next_only : (o : Option ℕ) → o ≡ Some (suc k.chains.ready)
        → given_up k.chains.ready o ≡ Some (suc k.chains.ready)
    next_only None is = absurd (never_none is)
      where
        never_none : None ≡ Some (suc k.chains.ready) → ⊥
        never_none e = cc
    next_only (Some c) is = by_test c k.chains.ready
        (λ b. (if b then None else Some c) ≡ Some (suc k.chains.ready))
        (λ e. absurd (let own : c ≡ suc k.chains.ready = cc in omega (arith, own, e)))
        (λ ne. is)

    then_next : (o : Option ℕ) → given_up k.chains.ready o ≡ Some (suc k.chains.ready)
        → o ≡ Some (suc k.chains.ready)
    then_next None is = absurd (never_none is)
      where
        never_none : None ≡ Some (suc k.chains.ready) → ⊥
        never_none e = cc
    then_next (Some c) is = by_test c k.chains.ready
        (λ b. (if b then None else Some c) ≡ Some (suc k.chains.ready)
        → Some c ≡ Some (suc k.chains.ready))
        (λ e wrong. absurd (never_none wrong)) (λ ne same. same) is
      where
        never_none : None ≡ Some (suc k.chains.ready) → ⊥
        never_none e = cc

    chain_then : IsChainOf w.before w.flow.books.sets last.chains.of last.chains.ready
        last.chains.sealed r.chain.items r.renewing
    chain_then = subst (λ (c : Chains). IsChainOf w.before w.flow.books.sets c.of c.ready c.sealed
        r.chain.items r.renewing)
        (sym (all_ready_chains w.flow.books (listings w.before ks lists) then_))
        (subst (λ (b : Bool). IsChainOf w.before w.flow.books.sets then_.chains.of
        then_.chains.ready then_.chains.sealed r.chain.items b) (sym f.renewing)
        (subst (λ (c : Vec ℕ Global). IsChainOf w.before w.flow.books.sets then_.chains.of
        then_.chains.ready then_.chains.sealed c.items false) (sym f.chain) (record {
          buckets = same w.before new (λ q. k.chains.of q ≡ Some (suc k.chains.ready))
              (λ q. then_.chains.of q ≡ Some (suc k.chains.ready)) new_are
              (λ q is. next_only (k.chains.of q) is) (λ q is. then_next (k.chains.of q) is);
          once = its.next.once;
          many = its.next.many;
          rest = its.next.rest;
        })))

    -- ---- the trace round

    abbrev in_next : ℕ → Bool
    in_next q = is_chain (k.chains.of q) (suc k.chains.ready)

    is_in_next : (q : ℕ) → (0 < times (w.before + q) new) ⊎ (times (w.before + q) new ≤ 0)
        → w.before + q < length p.buckets.records
        → is_touched final (w.before + q) ≡ (in_next q || k.round.touched q)
    is_in_next q (inl some) within =
        touched_there new settled (w.before + q) long some
        ∙ ap (λ b. b || k.round.touched q) (sym (chain_yes (k.chains.of q) (new_are.each q some)))
      where
        chain_yes : (o : Option ℕ) → o ≡ Some (suc k.chains.ready)
            → is_chain o (suc k.chains.ready) ≡ true
        chain_yes o is = ap (λ c. is_chain c (suc k.chains.ready)) is
            ∙ by_test (suc k.chains.ready) (suc k.chains.ready) (λ b. b ≡ true) (λ _. refl)
            (λ ne. absurd (ne refl))

        long : w.before + q < length settled.touched
        long = let each = h.round.each in
            let same = settled_touched in
            let many = ap (λ (xs : List Bool). length xs) same in omega (arith, each, many, within)
    is_in_next q (inr none) within =
        touched_else new settled (w.before + q) (omega (arith, none))
        ∙ ap (λ (xs : List Bool). get_or xs (w.before + q) false) settled_touched
        ∙ h.round.touches q within
        ∙ ap (λ b. b || k.round.touched q) (sym (chain_no (k.chains.of q)
        (λ e. (let some = new_are.all q e in omega (arith, some, none)))))
      where
        chain_no : (o : Option ℕ) → (o ≡ Some (suc k.chains.ready) → ⊥)
            → is_chain o (suc k.chains.ready) ≡ false
        chain_no None wrong = refl
        chain_no (Some c) wrong = by_test c (suc k.chains.ready) (λ b. b ≡ false)
            (λ e. absurd (wrong (ap Some e))) (λ _. refl)

    round_then : IsRoundOf w.flow.books w.before (length r.buckets.records) last.round
        r.buckets.touched r.round
    round_then = subst (λ (b : Buckets). IsRoundOf w.flow.books w.before (length b.records)
        last.round b.touched r.round) (sym f.buckets)
        (subst (λ (t : Tracing). IsRoundOf w.flow.books w.before (length final.records) last.round
        final.touched t) (sym f.round)
        (subst (λ n. IsRoundOf w.flow.books w.before n last.round final.touched p.round)
        (sym final_length)
        (subst (λ (c : Round). IsRoundOf w.flow.books w.before (length p.buckets.records) c
        final.touched p.round)
        (sym (all_ready_round w.flow.books (listings w.before ks lists) then_))
        (touched_round w.flow.books w.before k.round p.round
        (λ q. in_next q || k.round.touched q) (length p.buckets.records) p.buckets.touched
        final.touched long (λ q within. is_in_next q (cases_lt 0 (times (w.before + q) new)) within)
        h.round))))
      where
        long : length final.touched ≡ length p.buckets.records
        long = touched_long new settled ∙ ap (λ (xs : List Bool). length xs) settled_touched
            ∙ h.round.each

    pub ready_after : AreBucketsOf w (books_of (core.after o.opening (replay o x.log)
        (ready_by i back listing)).machine) r
    ready_after = subst (λ b. AreBucketsOf w b r) (sym final_books) (record {
      cut = subst (λ (b : Buckets). IsCutInto b.size (length b.records) w) (sym f.buckets)
          (subst (λ n. IsCutInto n (length final.records) w) (sym final_size)
          (subst (λ n. IsCutInto p.buckets.size n w) (sym final_length) h.cut));
      data_from = ap (λ (b : Buckets). b.data_from) f.buckets ∙ final_data ∙ h.data_from;
      records = are_final.records;
      places = are_final.places;
      outside = λ j less. ap (λ (b : Buckets). (bucket_of b j).mark) f.buckets
          ∙ final_outside j less ∙ h.outside j less;
      room = ap (λ (x : Reserves). (list_of list.Priorities x).room) f.reserves
          ∙ stored_all_room ks lists ∙ returned_all_room old p.reserves.lists ∙ h.room;
      chain = chain_then;
      round = round_then;
    })

-- What the steps of a write come to, one behind the other.
use Rattle.std.proofs.Common.{◌≡◌, inl, ℕ, ◌≤◌, List, [], ◌∷◌, Some, None, refl, sym, subst}
use Rattle.std.proofs.lemmas.List.Elements.{All-cons, All-nil}
use Rattle.std.specs.Prelude.{All, drop, Err, IfErr, IfOk, Ok, Result, length}
use Rattle.bc_disk.specs.Disk.{DiskFacts}
use Rattle.bc_events.specs.declared.event.Deed.{Deed}
use Rattle.bc_events.specs.declared.event.Deed.TheVariants as deed
use Rattle.bc_events.specs.declared.event.LineNumber.{LineNumber}
use Rattle.bc_fill.specs.declared.fill.Placed.{Placed}
use Rattle.bc_flight.specs.declared.claim.Share.TheVariants.{Exclusive}
use Rattle.bc_key.specs.declared.key.Key.{Key}
use Rattle.bc_model.specs.Sector.{Value}
use Rattle.bc_request.proofs.of_bc_reader.Finding.{waited_done}
use Rattle.bc_request.specs.bc_fetch.Fetch.{HasReadOne}
use Rattle.bc_request.specs.bc_fetch.declared.error.LeafError.TheVariants as leaf
use Rattle.bc_seats.proofs.Between.{same_both}
use Rattle.bc_seats.specs.Seats.{Same, Waited}
use Rattle.bc_stored.specs.bc_deed.Asked.{IsHaltedOr, MayWrite}
use Rattle.bc_stored.specs.bc_deed.Flushed.{HasDone}
use Rattle.bc_stored.specs.bc_hand.Seats.{Did, IsCoreSeat, note, world}
use Rattle.bc_stored.specs.bc_hand.declared.error.StepError.{StepError}
use Rattle.bc_stored.specs.bc_hand.declared.error.StepError.TheVariants as step
use Rattle.bc_stored.specs.bc_machine.Note.{Note}
use Rattle.bc_stored.specs.bc_machine.World.{FromEach}
use Rattle.bc_stored.specs.bc_place.Place.{HasBefore}
use Rattle.bc_stored.specs.bc_place.Named.{AreKeysFor, sectors_of}
use Rattle.bc_stored.proofs.of_bc_deed.May.{did_nothing}
use Rattle.bc_stored.proofs.of_bc_deed.Sequence.{done_both, done_first}
use Rattle.bc_stored.proofs.of_bc_hand.Knowing.{View, m}
use Rattle.bc_stored.specs.All.{HaveNotStored, HaveStored, unpins}
use Rattle.bc_stored.specs.declared.error.StoreError.{StoreError}
use Rattle.bc_stored.specs.declared.error.StoreError.TheVariants as store
use Rattle.bc_write_back.specs.Claimed.{HasComeTo, HasNoRoom, HasNotWritten, HasTakenBack, unstored}
use Rattle.bc_write_back.specs.declared.error.Lack.{Lack}
use Rattle.bc_write_back.specs.declared.error.Lack.TheVariants as lack
use Rattle.bc_write_back.specs.Put.{HasLacked, HasComeIn, HasPutOr, HasStoppedBehind}
use Rattle.bc_write_back.specs.declared.error.Put.{Put}
use Rattle.bc_write_back.specs.declared.error.Put.TheVariants as put
use Rattle.bc_write_back.specs.declared.error.WriteError.{WriteError}
use Rattle.bc_write_back.proofs.Going.{come_went, not_written_went, read_then, read_went}
use Rattle.bc_write_back.proofs.Walking.{HasGoneBy, IsUnnoted, IsUnnotedApart, LeavesClaim, before_went, note_went, went_none, went_one}

module _ {C B : Type 0} (cache_facts : C → DiskFacts) (backing_facts : B → DiskFacts) where
  pub none_both : (u v w : View cache_facts backing_facts)
      → HasDone cache_facts backing_facts [] u v
      → HasDone cache_facts backing_facts [] v w → HasDone cache_facts backing_facts [] u w
  none_both u v w a b = done_both cache_facts backing_facts [] [] u v w a b

  -- two parts were taken
  pub took : (u v w x y : View cache_facts backing_facts)
      → IsCoreSeat cache_facts backing_facts v → Waited (m cache_facts backing_facts) u v
      → IsCoreSeat cache_facts backing_facts w → Waited (m cache_facts backing_facts) v w
      → IsCoreSeat cache_facts backing_facts x → Waited (m cache_facts backing_facts) w x
      → IsCoreSeat cache_facts backing_facts y → Waited (m cache_facts backing_facts) x y
      → HasDone cache_facts backing_facts [] u y
  took u v w x y sv a sw b sx c sy d = none_both u w y
      (none_both u v w (waited_done cache_facts backing_facts u v sv a)
      (waited_done cache_facts backing_facts v w sw b))
      (none_both w x y (waited_done cache_facts backing_facts w x sx c)
      (waited_done cache_facts backing_facts x y sy d))

  -- three were given back
  pub gave : (u v w x : View cache_facts backing_facts)
      → IsCoreSeat cache_facts backing_facts v → Waited (m cache_facts backing_facts) u v
      → IsCoreSeat cache_facts backing_facts w → Waited (m cache_facts backing_facts) v w
      → IsCoreSeat cache_facts backing_facts x → Waited (m cache_facts backing_facts) w x
      → HasDone cache_facts backing_facts [] u x
  gave u v w x sv a sw b sx c = none_both u w x
      (none_both u v w (waited_done cache_facts backing_facts u v sv a)
      (waited_done cache_facts backing_facts v w sw b))
      (waited_done cache_facts backing_facts w x sx c)

  -- ---- the index

  -- The seat came to a leaf, took what else it needs, did this in hand, and gave all back.
  pub came_to : (what : Put) (number : ℕ) (keys : List Key) (ps : List Placed) (of : LineNumber)
      (first : ℕ) (values : List Value) (v u x y w : View cache_facts backing_facts)
      → AreKeysFor first ps keys → HasReadOne cache_facts backing_facts v u
      → HasDone cache_facts backing_facts [] u x
      → HasComeIn cache_facts backing_facts what number keys ps of first values x y
      → HasDone cache_facts backing_facts [] y w
      → HasPutOr cache_facts backing_facts what ps of first values v w
  came_to put.Written number keys ps of first values v u x y w named read took come then = record {
    keys = keys;
    named = named;
    number = number;
    at = x;
    way = read_then cache_facts backing_facts v u x read took;
    put = y;
    inserted = come;
    then = then;
  }
  came_to (put.Lacks why) number keys ps of first values v u x y w named read took come then =
      record {
        number = number;
        at = x;
        way = read_then cache_facts backing_facts v u x read took;
        lacks = come.1;
        then = none_both x y w (done_first cache_facts backing_facts None x y come.0) then;
      }

  -- It came to a leaf, and then a step in hand stopped.
  pub stopped_in_hand : (e : StepError) (v u x y w : View cache_facts backing_facts)
      → HasReadOne cache_facts backing_facts v u → HasDone cache_facts backing_facts [] u x
      → Did cache_facts backing_facts None x y → IsHaltedOr e y.seen
      → HasDone cache_facts backing_facts [] y w
      → HasStoppedBehind cache_facts backing_facts (leaf.Step e) v w
  stopped_in_hand e v u x y w read took did why then = record {
    cause = e;
    is = refl;
    at = y;
    way = read_then cache_facts backing_facts v x y
        (read_then cache_facts backing_facts v u x read took)
        (done_first cache_facts backing_facts None x y did);
    why = why;
    then = then;
  }

  pub lacked_of : (what : Put) (why : Lack) (ps : List Placed) (of : LineNumber) (first : ℕ)
      (values : List Value) (v w : View cache_facts backing_facts) → what ≡ put.Lacks why
      → HasPutOr cache_facts backing_facts what ps of first values v w
      → HasLacked cache_facts backing_facts why ps first (length values) v w
  lacked_of what why ps of first values v w is h =
      subst (λ x. HasPutOr cache_facts backing_facts x ps of first values v w) is h

  -- there was no memory, and nothing was done
  pub no_memory : (v : View cache_facts backing_facts) → IsCoreSeat cache_facts backing_facts v
      → HasStoppedBehind cache_facts backing_facts (leaf.Step step.Memory) v v
  no_memory v seat =
      let nothing = done_first cache_facts backing_facts None v v
      (did_nothing cache_facts backing_facts v seat) in
      record { cause = step.Memory; is = refl; at = v; way = inl nothing; why = tt; then = nothing }

  -- the way to a leaf, and to what else the seat takes
  pub way_went : (u v w : View cache_facts backing_facts)
      → HasReadOne cache_facts backing_facts u v → HasDone cache_facts backing_facts [] v w
      → HasGoneBy cache_facts backing_facts IsUnnotedApart u w
  way_went u v w read took = read_went cache_facts backing_facts u w
      (read_then cache_facts backing_facts u v w read took)

  -- ---- the claim

  pub may_still : (first count : ℕ) (v w : View cache_facts backing_facts)
      → HasGoneBy cache_facts backing_facts IsUnnoted v w
      → MayWrite (note cache_facts backing_facts v) first count
      → MayWrite (note cache_facts backing_facts w) first count
  may_still first count v w h may = subst (λ (o : Note). MayWrite o first count)
      (sym (note_went cache_facts backing_facts v w h)) may

  pub claimed : (first count : ℕ) (u v w : View cache_facts backing_facts)
      → HasDone cache_facts backing_facts [] u v
      → HasDone cache_facts backing_facts (deed.Claim first count Exclusive ∷ []) v w
      → HasDone cache_facts backing_facts (deed.Claim first count Exclusive ∷ []) u w
  claimed first count u v w before claim = done_both cache_facts backing_facts []
      (deed.Claim first count Exclusive ∷ []) u v w before claim

  pub released : (v w : View cache_facts backing_facts)
      → Did cache_facts backing_facts (Some deed.Release) v w
      → HasDone cache_facts backing_facts (deed.Release ∷ []) v w
  released v w did = done_first cache_facts backing_facts (Some deed.Release) v w did

  -- ---- values that weren't stored

  module _ (before sectors first : ℕ) (values : List Value)
      (v w : View cache_facts backing_facts) where
    pub unstored_ok : (e : StoreError) (of : LineNumber)
        → HaveNotStored cache_facts backing_facts before sectors e values v w
        → IfOk (unstored e) (λ what. HasComeTo cache_facts backing_facts before sectors first values
        what of v w)
    unstored_ok (store.Step cause) of h = tt
    unstored_ok store.NoBucket of h = h
    unstored_ok store.Outside of h = tt

    pub unstored_err : (e : StoreError)
        → HaveNotStored cache_facts backing_facts before sectors e values v w
        → IfErr (unstored e)
        (λ e. HasNotWritten cache_facts backing_facts before sectors first values e v w)
    unstored_err (store.Step cause) h = inl (record { cause = cause; is = refl; why = h })
    unstored_err store.NoBucket h = tt
    unstored_err store.Outside h = h

    -- ---- values that were, and what then was taken back

    back : (why : Lack) (ps : List Placed) (u x : View cache_facts backing_facts)
        → sectors_of ps ≡ length values
        → HaveStored cache_facts backing_facts before sectors ps values v u
        → HasLacked cache_facts backing_facts why ps first (length values) u x
        → HasDone cache_facts backing_facts (unpins ps) x w
        → HasTakenBack cache_facts backing_facts before sectors first values
        (λ ps u x. HasLacked cache_facts backing_facts why ps first (length values) u x) v w
    back why ps u x all stored h gone = record {
      places = ps;
      all = all;
      at = u;
      stored = stored;
      stopped = x;
      this = h;
      let_go = gone;
    }

    pub taken_back : (why : Lack) (ps : List Placed) (u x : View cache_facts backing_facts)
        → sectors_of ps ≡ length values
        → HaveStored cache_facts backing_facts before sectors ps values v u
        → HasLacked cache_facts backing_facts why ps first (length values) u x
        → HasDone cache_facts backing_facts (unpins ps) x w
        → HasNoRoom cache_facts backing_facts before sectors first values why v w
    taken_back lack.Bucket ps u x all stored h gone = absurd h.lacks.short
    taken_back lack.Leaf ps u x all stored h gone = back lack.Leaf ps u x all stored h gone
    taken_back lack.Entry ps u x all stored h gone = back lack.Entry ps u x all stored h gone
    taken_back lack.Number ps u x all stored h gone = back lack.Number ps u x all stored h gone

    -- ---- whatever it came to

    pub come_or_not : IsCoreSeat cache_facts backing_facts v → (r : Result Put WriteError)
        (of : LineNumber)
        → IfOk r
        (λ what. HasComeTo cache_facts backing_facts before sectors first values what of v w)
        → IfErr r (λ e. HasNotWritten cache_facts backing_facts before sectors first values e v w)
        → HasGoneBy cache_facts backing_facts LeavesClaim v w
    come_or_not seat (Ok what) of come stop =
        come_went cache_facts backing_facts before sectors first values v w seat what of come
    come_or_not seat (Err e) of come stop =
        not_written_went cache_facts backing_facts before sectors first values v w seat e stop

  -- ---- the seat

  pub same_before : (t u v : View cache_facts backing_facts)
      → HasDone cache_facts backing_facts [] t u → HasDone cache_facts backing_facts [] u v
      → Same (m cache_facts backing_facts) t v
  same_before t u v a b = same_both (m cache_facts backing_facts) t u v a.same b.same

  pub same_piece : (first count : ℕ) (t u v x w : View cache_facts backing_facts)
      → HasDone cache_facts backing_facts [] t u
      → HasDone cache_facts backing_facts (deed.Claim first count Exclusive ∷ []) u v
      → HasGoneBy cache_facts backing_facts LeavesClaim v x
      → Did cache_facts backing_facts (Some deed.Release) x w → Same
      (m cache_facts backing_facts) t w
  same_piece first count t u v x w promised claim went did =
      same_both (m cache_facts backing_facts) t v w
      (same_both (m cache_facts backing_facts) t u v promised.same claim.same)
      (same_both (m cache_facts backing_facts) v x w went.done.same did.is.same)

  -- ---- what stays of the opening

  pub before_still : (n : ℕ) (v w : View cache_facts backing_facts)
      → HasDone cache_facts backing_facts [] v w
      → FromEach (world cache_facts backing_facts v) (HasBefore n)
      → FromEach (world cache_facts backing_facts w) (HasBefore n)
  before_still n v w done = before_went cache_facts backing_facts n LeavesClaim v w
      (went_none cache_facts backing_facts LeavesClaim v w done)

  before_one : (n : ℕ) (d : Deed) (v w : View cache_facts backing_facts)
      → HasDone cache_facts backing_facts (d ∷ []) v w
      → FromEach (world cache_facts backing_facts v) (HasBefore n)
      → FromEach (world cache_facts backing_facts w) (HasBefore n)
  before_one n d v w done = before_went cache_facts backing_facts n (λ d. Unit {0}) v w
      (went_one cache_facts backing_facts (λ d. Unit {0}) d v w tt done)

  pub before_claim : (n first count : ℕ) (t u v : View cache_facts backing_facts)
      → HasDone cache_facts backing_facts [] t u
      → HasDone cache_facts backing_facts (deed.Claim first count Exclusive ∷ []) u v
      → FromEach (world cache_facts backing_facts t) (HasBefore n)
      → FromEach (world cache_facts backing_facts v) (HasBefore n)
  before_claim n first count t u v promised claim h =
      before_one n (deed.Claim first count Exclusive) u v claim (before_still n t u promised h)

  pub before_piece : (n first count : ℕ) (t u v x w : View cache_facts backing_facts)
      → HasDone cache_facts backing_facts [] t u
      → HasDone cache_facts backing_facts (deed.Claim first count Exclusive ∷ []) u v
      → HasGoneBy cache_facts backing_facts LeavesClaim v x
      → Did cache_facts backing_facts (Some deed.Release) x w
      → FromEach (world cache_facts backing_facts t) (HasBefore n)
      → FromEach (world cache_facts backing_facts w) (HasBefore n)
  before_piece n first count t u v x w promised claim went did h =
      before_one n deed.Release x w (released x w did)
      (before_went cache_facts backing_facts n LeavesClaim v x went
      (before_claim n first count t u v promised claim h))

-- each place of a write has a sector
pub stored_some : {C B : Type 0} (cache_facts : C → DiskFacts) (backing_facts : B → DiskFacts)
    (before sectors : ℕ) (ps : List Placed) (values : List Value)
    (v w : View {C = C} {B = B} cache_facts backing_facts)
    → HaveStored cache_facts backing_facts before sectors ps values v w
    → All (λ (p : Placed). 1 ≤ p.count) ps
stored_some cf bf before sectors [] values v w h = All-nil (λ (p : Placed). 1 ≤ p.count)
stored_some cf bf before sectors (p ∷ ps) values v w h =
    All-cons (λ (p : Placed). 1 ≤ p.count) p ps h.1.given.is.some
    (stored_some cf bf before sectors ps (drop p.count values) h.0 w h.2)

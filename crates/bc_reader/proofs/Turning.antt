-- A look with its reads, from the claim to the answer.
use Rattle.std.proofs.Common.{◌≡◌, inl, inr, ℕ, ◌+◌, ◌<◌, ◌≤◌, Bool, false, true, List, [], ◌∷◌, length, Option, Some, None, refl, sym, ap, ◌∙◌, subst, arith}
use Rattle.std.specs.Prelude.{All, MatchBool, Result, Ok, Err, IfErr, OnOk, OnErr, is_some}
use Rattle.bc_bucket.specs.Buckets.{Buckets}
use Rattle.bc_fetch.proofs.of_bc_deed.May.{did_nothing}
use Rattle.bc_fetch.proofs.of_bc_deed.Sequence.{done_both, done_first}
use Rattle.bc_fetch.specs.bc_deed.Asked.{IsHaltedOr, IsWithin}
use Rattle.bc_fetch.specs.bc_deed.Flushed.{HasDone}
use Rattle.bc_disk.specs.Disk.{DiskFacts}
use Rattle.bc_events.specs.declared.event.Deed.{Deed}
use Rattle.bc_events.specs.declared.event.Deed.TheVariants as deed
use Rattle.bc_events.specs.declared.event.Event.{Event}
use Rattle.bc_events.specs.declared.event.LineNumber.{LineNumber}
use Rattle.bc_fetch.specs.declared.error.LeafError.TheVariants as leaf
use Rattle.bc_fetch.proofs.of_bc_hand.Knowing.{View, m, note_committed_is, note_waited_is}
use Rattle.bc_fetch.specs.bc_hand.Seats.{Did, IsCoreSeat, Kinds, Works, by, empty, kinds, note}
use Rattle.bc_fetch.specs.bc_hand.declared.error.StepError.{StepError}
use Rattle.bc_fetch.specs.bc_hand.declared.error.StepError.TheVariants as step
use Rattle.bc_fetch.specs.bc_hand.declared.hand.Hand.{Hand}
use Rattle.bc_fetch.specs.bc_machine.Frame.{Range}
use Rattle.bc_fetch.specs.bc_machine.Note.{Note}
use Rattle.bc_fetch.specs.bc_machine.declared.part.BackingPart.{BackingPart}
use Rattle.bc_fetch.specs.bc_machine.declared.part.BucketsPart.{BucketsPart}
use Rattle.bc_fetch.specs.bc_machine.declared.part.CorePart.{CorePart}
use Rattle.bc_model.specs.Sector.{Value}
use Rattle.bc_node.specs.Leaf.{Leaf}
use Rattle.bc_parts.specs.Seat.{PartsView}
use Rattle.bc_reads.specs.Reads.{AreRuns}
use Rattle.bc_reads.specs.declared.runs.ReadRun.{ReadRun}
use Rattle.bc_seats.specs.Seats.{Waited}
use Rattle.bc_reads.proofs.of_bc_sight.Reading.{knows_waited}
use Rattle.bc_reader.specs.Claimed.{HasAnswered, HasAnsweredAtOnce, HasNotAnswered, HasReadSeen, HasStoppedAtOnce, HasTried, HasTurnedBack, MayAnswerWith, ReadStop}
use Rattle.bc_reader.specs.Deeds.{AreRunsDeeds, HasDoneSome, HasStoppedBy, IsHaltAt, RunsStop}
use Rattle.bc_reader.specs.Known.{HasValues, IsReadAs, IsSameButDevices}
use Rattle.bc_reader.specs.Look.{HasBuckets, HasSeen, IsOver, NotSeen}
use Rattle.bc_reader.specs.Noted.{AreNoted, IsUnchanged}
use Rattle.bc_reader.specs.Runs.{HasReadAll, IsSeenAll}
use Rattle.bc_reader.specs.declared.error.ReadError.{ReadError}
use Rattle.bc_reader.specs.declared.error.ReadError.TheVariants as error
use Rattle.bc_reader.specs.declared.look.Seen.{Seen}
use Rattle.bc_reader.specs.declared.noted.Noted.{Noted}
use Rattle.bc_reader.proofs.Answering.{may_answer, may_answer_now}
use Rattle.bc_reader.proofs.Finding.{then_waited, waited_done}
use Rattle.bc_reader.proofs.Looking.{note_still}

is_none : {A : Type 0} (o : Option A) → is_some o ≡ false → o ≡ None
is_none None is = refl
is_none (Some x) is = absurd (cc)

-- with nothing in hand, nothing is in hand behind a read either
pub still_empty : {C B : Type 0} (a b : Hand C B) → a ≡ empty → IsSameButDevices a b → b ≡ empty
still_empty {C} {B} a b none same =
    let all : kinds b ≡ kinds (empty {C = C} {B = B}) = same.kinds_are ∙ ap (λ (h : Hand C B). kinds h) none in
    same.rest ∙ ap (λ (h : Hand C B). record h { cache = b.cache; backing = b.backing }) none
    ∙ ap (λ (o : Option C). record (empty {C = C} {B = B}) { cache = o; backing = b.backing })
    (is_none b.cache (ap (λ (k : Kinds). k.cache) all))
    ∙ ap (λ (o : Option (BackingPart B)). record (empty {C = C} {B = B}) { backing = o })
    (is_none b.backing (ap (λ (k : Kinds). k.backing) all))

pub gone : {C B : Type 0} (a b : Hand C B) → a ≡ record (empty {C = C} {B = B}) { buckets = a.buckets }
    → b ≡ record a { buckets = None } → b ≡ empty
gone a b only none = none ∙ ap (λ (h : Hand _ _). record h { buckets = None }) only

pub gone_behind : {C B : Type 0} (a b c : Hand C B)
    → a ≡ record (empty {C = C} {B = B}) { buckets = a.buckets } → IsSameButDevices a b
    → c ≡ record b { buckets = None } → c ≡ empty
gone_behind {C} {B} a b c only same none =
    still_empty (record a { buckets = None }) c
    (ap (λ (h : Hand C B). record h { buckets = None }) only)
    (record {
      rest = none ∙ ap (λ (h : Hand C B). record h { buckets = None }) same.rest
          ∙ ap (λ (h : Hand C B). record a {
            buckets = None;
            cache = h.cache;
            backing = h.backing;
          }) (sym none);
      kinds_are = ap (λ (h : Hand C B). kinds h) none
          ∙ ap (λ (k : Kinds). record k { buckets = false }) same.kinds_are;
    })

pub buckets_behind : {C B : Type 0} (a b : Hand C B) → IsSameButDevices a b → HasBuckets a
    → HasBuckets b
buckets_behind a b same has = record {
  part = has.part;
  is = ap (λ (h : Hand _ _). h.buckets) same.rest ∙ has.is;
}

pub taken : {C B : Type 0} (a b : Hand C B) → a ≡ empty → b ≡ record a { buckets = b.buckets }
    → b ≡ record (empty {C = C} {B = B}) { buckets = b.buckets }
taken a b none more = more ∙ ap (λ (h : Hand _ _). record h { buckets = b.buckets }) none

pub within_over : (first count : ℕ) (r : Range) → IsOver first count r → IsWithin r first count
within_over first count r over =
    let a = over.from in let b = over.long in (omega arith, omega arith)

pub is_true : (r : Bool) (P Q : Type 0) → r ≡ true → MatchBool r P Q → P
is_true r P Q is h = subst (λ (b : Bool). MatchBool b P Q) is h

pub is_false : (r : Bool) (P Q : Type 0) → r ≡ false → MatchBool r P Q → Q
is_false r P Q is h = subst (λ (b : Bool). MatchBool b P Q) is h

halt_of_cause : (e : StepError) (es : List Event) → IsHaltedOr e es → IsHaltAt e es
halt_of_cause (step.Fault d) es is = absurd is
halt_of_cause (step.Halted d) es is = is
halt_of_cause step.Memory es is = tt

no_fault : (e : StepError) (es : List Event) → IsHaltedOr e es
    → (which : Rattle.bc_disk.specs.declared.disk.Device.Device) → e ≡ step.Fault which → ⊥
no_fault (step.Fault d) es is which same = absurd is
no_fault (step.Halted d) es is which same = absurd (cc)
no_fault step.Memory es is which same = absurd (cc)

module _ {C B : Type 0} (cache_facts : C → DiskFacts) (backing_facts : B → DiskFacts) where
  pub nothing_done : (v : View cache_facts backing_facts) → IsCoreSeat cache_facts backing_facts v
      → HasDone cache_facts backing_facts [] v v
  nothing_done v seat = done_first cache_facts backing_facts None v v
      (did_nothing cache_facts backing_facts v seat)

  pub looked_still : (v w : View cache_facts backing_facts)
      → HasDone cache_facts backing_facts [] v w
      → (note cache_facts backing_facts v).looked ≡ true
      → (note cache_facts backing_facts w).looked ≡ true
  looked_still v w done is = ap (λ (n : Note). n.looked) (note_still cache_facts backing_facts v w done) ∙ is

  pub some_around : (Are : List Deed → Type 0) (t u v w : View cache_facts backing_facts)
      → HasDone cache_facts backing_facts [] t u
      → HasDoneSome cache_facts backing_facts Are u v
      → HasDone cache_facts backing_facts [] v w
      → HasDoneSome cache_facts backing_facts Are t w
  some_around Are t u v w before did then = (
    did.0,
    did.1,
    then_waited cache_facts backing_facts did.0 t v w
        (done_both cache_facts backing_facts [] did.0 t u v before did.2) then,
  )

  -- ---- what the seat knows

  pub values_waited : (leaf : Leaf) (b : Buckets) (first : ℕ) (values : List Value)
      (v w : View cache_facts backing_facts) → IsCoreSeat cache_facts backing_facts v
      → Waited (m cache_facts backing_facts) v w
      → HasValues cache_facts backing_facts leaf b first values v
      → HasValues cache_facts backing_facts leaf b first values w
  values_waited leaf b first values v w seat waited h = record {
    read = h.read;
    knows = knows_waited cache_facts backing_facts v w seat waited leaf b h.read h.knows;
    gives = λ s value here. subst (λ (n : Note). IsReadAs leaf b (h.read s) (n.read s) s value)
        (sym (note_waited_is cache_facts backing_facts v w waited)) (h.gives s value here);
  }

  pub seen_all : (p : PartsView (CorePart C B)) (first count : ℕ) (seen : Seen)
      (v w : View cache_facts backing_facts) (h : Hand C B)
      → HasSeen cache_facts backing_facts p first count seen v w h
      → IsSeenAll cache_facts backing_facts first count seen.runs.items w
  seen_all p first count seen v w h saw = record {
    leaf = saw.found.both.cached.leaf;
    buckets = saw.found.both.buckets.part.buckets;
    runs_are = saw.found.by.runs;
    knows = saw.knows;
  }

  pub seen_waited : (first count : ℕ) (runs : List ReadRun) (v w : View cache_facts backing_facts)
      → IsCoreSeat cache_facts backing_facts v → Waited (m cache_facts backing_facts) v w
      → IsSeenAll cache_facts backing_facts first count runs v
      → IsSeenAll cache_facts backing_facts first count runs w
  seen_waited first count runs v w seat waited h = record {
    leaf = h.leaf;
    buckets = h.buckets;
    runs_are = h.runs_are;
    knows = knows_waited cache_facts backing_facts v w seat waited h.leaf h.buckets (λ _. None) h.knows;
  }

  pub may_with : (leaf : Leaf) (before : Buckets) (first end : ℕ) (runs : List ReadRun)
      (noted : List Noted) (values : List Value) (v : View cache_facts backing_facts) (h : Hand C B)
      (now : BucketsPart) → 0 < before.size → AreRuns leaf before first end runs
      → AreNoted runs before noted → All (IsUnchanged now.buckets) noted → h.buckets ≡ Some now
      → first + length values ≤ end → HasValues cache_facts backing_facts leaf before first values v
      → MayAnswerWith cache_facts backing_facts first values v h
  may_with leaf before first end runs noted values v h now some are there same is long has = record {
    leaf = leaf;
    before = before;
    read = has.read;
    knows = has.knows;
    now = now;
    is = is;
    may = may_answer leaf before now.buckets first end runs noted some are there same values
        has.read (note cache_facts backing_facts v).read long has.gives;
  }

  -- the buckets of the look are in hand still
  pub may_with_look : (p : PartsView (CorePart C B)) (first count : ℕ) (seen : Seen)
      (values : List Value) (t v r : View cache_facts backing_facts) (h k : Hand C B)
      → HasSeen cache_facts backing_facts p first count seen t v h → k.buckets ≡ h.buckets
      → HasReadAll cache_facts backing_facts first seen.runs.items values v r
      → MayAnswerWith cache_facts backing_facts first values r k
  may_with_look p first count seen values t v r h k saw same all =
      let leaf = saw.found.both.cached.leaf in
      let b = saw.found.both.buckets.part.buckets in
      let has = all.knows leaf b (first + count) saw.knows saw.found.by.runs in record {
        leaf = leaf;
        before = b;
        read = has.read;
        knows = has.knows;
        now = saw.found.both.buckets.part;
        is = same ∙ saw.still ∙ saw.found.both.buckets.is;
        may = may_answer_now leaf b saw.found.by.size first values has.read
            (note cache_facts backing_facts r).read has.gives;
      }

  -- ---- what it did

  module _ (p : PartsView (CorePart C B)) (first count : ℕ) where
    pub has_buckets : (seen : Seen) (v w : View cache_facts backing_facts) (h : Hand C B)
        → HasSeen cache_facts backing_facts p first count seen v w h → HasBuckets h
    has_buckets seen v w h saw = record {
      part = saw.found.both.buckets.part;
      is = saw.still ∙ saw.found.both.buckets.is;
    }

    pub read_seen : (seen : Seen) (values : List Value) (t a b c d : View cache_facts backing_facts)
        (h : Hand C B) → HasSeen cache_facts backing_facts p first count seen t a h
        → IsCoreSeat cache_facts backing_facts a → IsCoreSeat cache_facts backing_facts b
        → IsCoreSeat cache_facts backing_facts c → IsCoreSeat cache_facts backing_facts d
        → Waited (m cache_facts backing_facts) a b
        → HasReadAll cache_facts backing_facts first seen.runs.items values b c
        → Waited (m cache_facts backing_facts) c d
        → HasReadSeen cache_facts backing_facts p first count seen values t d
    read_seen seen values t a b c d h saw at_a at_b at_c at_d gave all took =
        let leaf = saw.found.both.cached.leaf in
        let buckets = saw.found.both.buckets.part.buckets in record {
          at = a;
          hand = h;
          look = saw;
          reads = some_around (AreRunsDeeds seen.runs.items values) a b c d
              (waited_done cache_facts backing_facts a b at_b gave) all.did
              (waited_done cache_facts backing_facts c d at_d took);
          knows = values_waited leaf buckets first values c d at_c took
              (all.knows leaf buckets (first + count)
              (knows_waited cache_facts backing_facts a b at_a gave leaf buckets (λ _. None) saw.knows)
              saw.found.by.runs);
        }

    pub tried_of : (seen : Seen) (values : List Value) (t d : View cache_facts backing_facts)
        → HasReadSeen cache_facts backing_facts p first count seen values t d
        → HasTried cache_facts backing_facts p first count values t d
    tried_of seen values t d h =
        record { seen = seen; at = h.at; hand = h.hand; look = h.look; reads = h.reads }

    pub may_with_read : (seen : Seen) (values : List Value) (t d : View cache_facts backing_facts)
        (k : Hand C B) → HasReadSeen cache_facts backing_facts p first count seen values t d
        → (b : HasBuckets k) → All (IsUnchanged b.part.buckets) seen.noted.items
        → length values ≡ count → MayAnswerWith cache_facts backing_facts first values d k
    may_with_read seen values t d k h b same long = may_with h.look.found.both.cached.leaf
        h.look.found.both.buckets.part.buckets first (first + count) seen.runs.items
        seen.noted.items values d k b.part h.look.found.by.size h.look.found.by.runs
        h.look.found.by.noted same b.is (omega (arith, long)) h.knows

    pub turned : (seen : Seen) (values : List Value) (t d u : View cache_facts backing_facts)
        (k : Hand C B) → HasReadSeen cache_facts backing_facts p first count seen values t d
        → Works cache_facts backing_facts p d k → (b : HasBuckets k)
        → ¬ (All (IsUnchanged b.part.buckets) seen.noted.items)
        → HasDone cache_facts backing_facts [] d u
        → HasTurnedBack cache_facts backing_facts p first count t u
    unfolding tried_of
    turned seen values t d u k h works b changed then = record {
      values = values;
      read = d;
      tried = tried_of seen values t d h;
      hand = k;
      works = works;
      buckets = b;
      changed = changed;
      then = then;
    }

    pub still_answered : (of : LineNumber) (values : List Value) (t v w : View cache_facts backing_facts)
        → HasAnsweredAtOnce cache_facts backing_facts p of first count values t v
        → HasDone cache_facts backing_facts [] v w
        → HasAnsweredAtOnce cache_facts backing_facts p of first count values t w
    still_answered of values t v w h then = record {
      read = h.read;
      tried = h.tried;
      told = then_waited cache_facts backing_facts (deed.Answer of first values ∷ []) h.read v w
          h.told then;
    }

    pub still_stopped : (e : ReadError) (t v w : View cache_facts backing_facts)
        → HasStoppedAtOnce cache_facts backing_facts p first count e t v
        → HasDone cache_facts backing_facts [] v w
        → HasStoppedAtOnce cache_facts backing_facts p first count e t w
    still_stopped e t v w h then = record {
      at = h.at;
      stop = h.stop;
      then = done_both cache_facts backing_facts [] [] h.at v w h.then then;
    }

    pub tried : (seen : Seen) (values : List Value) (t a b c d : View cache_facts backing_facts)
        (h : Hand C B) → HasSeen cache_facts backing_facts p first count seen t a h
        → HasDone cache_facts backing_facts [] a b
        → HasDoneSome cache_facts backing_facts (AreRunsDeeds seen.runs.items values) b c
        → HasDone cache_facts backing_facts [] c d
        → HasTried cache_facts backing_facts p first count values t d
    tried seen values t a b c d h look before reads then = record {
      seen = seen;
      at = a;
      hand = h;
      look = look;
      reads = some_around (AreRunsDeeds seen.runs.items values) a b c d before reads then;
    }

    pub answered : (of : LineNumber) (values : List Value) (t d e w : View cache_facts backing_facts)
        → HasTried cache_facts backing_facts p first count values t d
        → Did cache_facts backing_facts (Some (deed.Answer of first values)) d e
        → HasDone cache_facts backing_facts [] e w
        → HasAnsweredAtOnce cache_facts backing_facts p of first count values t w
    answered of values t d e w tried did then = record {
      read = d;
      tried = tried;
      told = then_waited cache_facts backing_facts (deed.Answer of first values ∷ []) d e w
          (done_first cache_facts backing_facts (Some (deed.Answer of first values)) d e did) then;
    }

    stop_seen : (e : ReadError) (v w : View cache_facts backing_facts)
        → NotSeen cache_facts backing_facts p first count e v w
        → ReadStop cache_facts backing_facts p first count e v w
    stop_seen (error.Leaf (leaf.Step e)) v w h = inl h
    stop_seen (error.Leaf leaf.Busy) v w h = h
    stop_seen (error.Leaf leaf.Outside) v w h = h
    stop_seen (error.Leaf leaf.Missing) v w h = h
    stop_seen (error.Leaf (leaf.Node q e)) v w h = h
    stop_seen error.Lost v w h = h

    pub not_seen : (e : ReadError) (t w : View cache_facts backing_facts)
        → IsCoreSeat cache_facts backing_facts w
        → NotSeen cache_facts backing_facts p first count e t w
        → HasStoppedAtOnce cache_facts backing_facts p first count e t w
    not_seen e t w seat h =
        record { at = w; stop = stop_seen e t w h; then = nothing_done w seat }

    pub stopped : (seen : Seen) (e : StepError) (t a b c w : View cache_facts backing_facts)
        (h : Hand C B) → HasSeen cache_facts backing_facts p first count seen t a h
        → HasDone cache_facts backing_facts [] a b
        → HasStoppedBy cache_facts backing_facts e (RunsStop e seen.runs.items) b c
        → IsCoreSeat cache_facts backing_facts c → HasDone cache_facts backing_facts [] c w
        → HasStoppedAtOnce cache_facts backing_facts p first count (error.Leaf (leaf.Step e)) t w
    stopped seen e t a b c w h look before stop seat then = record {
      at = c;
      stop = inr (inl (record {
        seen = seen;
        at = a;
        hand = h;
        look = look;
        stop = (
          stop.0,
          some_around (RunsStop e seen.runs.items) a b c c before stop.1 (nothing_done c seat),
        );
      }));
      then = then;
    }

    pub read_only : (values : List Value) (e : StepError) (t d f w : View cache_facts backing_facts)
        → HasTried cache_facts backing_facts p first count values t d
        → IsHaltedOr e f.seen → Did cache_facts backing_facts None d f
        → HasDone cache_facts backing_facts [] f w
        → HasStoppedAtOnce cache_facts backing_facts p first count (error.Leaf (leaf.Step e)) t w
    read_only values e t d f w tried why did then = record {
      at = f;
      stop = inr (inr (record {
        values = values;
        tried = record {
          seen = tried.seen;
          at = tried.at;
          hand = tried.hand;
          look = tried.look;
          reads = (
            tried.reads.0,
            tried.reads.1,
            then_waited cache_facts backing_facts tried.reads.0 tried.at d f tried.reads.2
                (done_first cache_facts backing_facts None d f did),
          );
        };
        halted = halt_of_cause e f.seen why;
        no_fault = no_fault e f.seen why;
      }));
      then = then;
    }

    -- ---- at once, or behind a look that doesn't count

    pub answered_at_once : (of : LineNumber) (values : List Value) (t w : View cache_facts backing_facts)
        → IsCoreSeat cache_facts backing_facts t
        → HasAnsweredAtOnce cache_facts backing_facts p of first count values t w
        → HasAnswered cache_facts backing_facts p of first count values t w
    answered_at_once of values t w seat h =
        record { from = t; turned = inl (nothing_done t seat); answered = h }

    pub stopped_at_once : (e : ReadError) (t w : View cache_facts backing_facts)
        → IsCoreSeat cache_facts backing_facts t
        → HasStoppedAtOnce cache_facts backing_facts p first count e t w
        → HasNotAnswered cache_facts backing_facts p first count e t w
    stopped_at_once e t w seat h =
        record { from = t; turned = inl (nothing_done t seat); stopped = h }

    pub answered_again : (of : LineNumber) (values : List Value) (t u w : View cache_facts backing_facts)
        → HasTurnedBack cache_facts backing_facts p first count t u
        → HasAnsweredAtOnce cache_facts backing_facts p of first count values u w
        → HasAnswered cache_facts backing_facts p of first count values t w
    answered_again of values t u w back h = record { from = u; turned = inr back; answered = h }

    pub stopped_again : (r : Result (Unit {0}) ReadError) (t u w : View cache_facts backing_facts)
        → HasTurnedBack cache_facts backing_facts p first count t u
        → IfErr r (λ e. HasStoppedAtOnce cache_facts backing_facts p first count e u w)
        → IfErr r (λ e. HasNotAnswered cache_facts backing_facts p first count e t w)
    stopped_again (Ok x) t u w back h = tt
    stopped_again (Err e) t u w back h = record { from = u; turned = inr back; stopped = h }

    -- ---- with the buckets in hand from the look on

    pub answered_look : (of : LineNumber) (seen : Seen) (values : List Value)
        (t v r w : View cache_facts backing_facts) (h : Hand C B)
        → HasSeen cache_facts backing_facts p first count seen t v h
        → IsCoreSeat cache_facts backing_facts v → IsCoreSeat cache_facts backing_facts r
        → IsCoreSeat cache_facts backing_facts w
        → HasReadAll cache_facts backing_facts first seen.runs.items values v r
        → Did cache_facts backing_facts (Some (deed.Answer of first values)) r w
        → HasAnsweredAtOnce cache_facts backing_facts p of first count values t w
    answered_look of seen values t v r w h saw at_v at_r at_w all did =
        answered of values t r w w (tried seen values t v v r r h saw (nothing_done v at_v) all.did
        (nothing_done r at_r)) did (nothing_done w at_w)

    pub unread_look : (seen : Seen) (e : StepError) (t v r : View cache_facts backing_facts)
        (h : Hand C B) → HasSeen cache_facts backing_facts p first count seen t v h
        → IsCoreSeat cache_facts backing_facts v → IsCoreSeat cache_facts backing_facts r
        → HasStoppedBy cache_facts backing_facts e (RunsStop e seen.runs.items) v r
        → HasStoppedAtOnce cache_facts backing_facts p first count (error.Leaf (leaf.Step e)) t r
    unread_look seen e t v r h saw at_v at_r stop =
        stopped seen e t v v r r h saw (nothing_done v at_v) stop at_r (nothing_done r at_r)

    pub untold_look : (seen : Seen) (values : List Value) (e : StepError)
        (t v r w : View cache_facts backing_facts) (h : Hand C B)
        → HasSeen cache_facts backing_facts p first count seen t v h
        → IsCoreSeat cache_facts backing_facts v → IsCoreSeat cache_facts backing_facts r
        → IsCoreSeat cache_facts backing_facts w
        → HasReadAll cache_facts backing_facts first seen.runs.items values v r
        → IsHaltedOr e w.seen → Did cache_facts backing_facts None r w
        → HasStoppedAtOnce cache_facts backing_facts p first count (error.Leaf (leaf.Step e)) t w
    untold_look seen values e t v r w h saw at_v at_r at_w all why did =
        read_only values e t r w w (tried seen values t v v r r h saw (nothing_done v at_v) all.did
        (nothing_done r at_r)) why did (nothing_done w at_w)

    pub untold : (r : Result (Unit {0}) StepError) (seen : Seen) (values : List Value)
        (v q w : View cache_facts backing_facts) (h : Hand C B)
        → IsCoreSeat cache_facts backing_facts v → IsCoreSeat cache_facts backing_facts q
        → IsCoreSeat cache_facts backing_facts w
        → HasReadAll cache_facts backing_facts first seen.runs.items values v q
        → IfErr r (λ e. IsHaltedOr e w.seen)
        → OnErr r (Did cache_facts backing_facts None q w)
        → IfErr r (λ e. (t : View cache_facts backing_facts)
        → HasSeen cache_facts backing_facts p first count seen t v h
        → HasStoppedAtOnce cache_facts backing_facts p first count (error.Leaf (leaf.Step e)) t w)
    untold (Ok x) seen values v q w h at_v at_q at_w all why did = tt
    untold (Err e) seen values v q w h at_v at_q at_w all why did = λ t saw.
        untold_look seen values e t v q w h saw at_v at_q at_w all why did

  -- ---- the claim

  pub told_range : (of : LineNumber) (first : ℕ) (values : List Value)
      (v w : View cache_facts backing_facts)
      → Did cache_facts backing_facts (Some (deed.Answer of first values)) v w
      → (note cache_facts backing_facts w).range ≡ (note cache_facts backing_facts v).range
  told_range of first values v w did = ap (λ (n : Note). n.range)
      (note_committed_is cache_facts backing_facts v w (by v.first (deed.Answer of first values)) did.is)

  pub waited_range : (v w : View cache_facts backing_facts)
      → Did cache_facts backing_facts None v w
      → (note cache_facts backing_facts w).range ≡ (note cache_facts backing_facts v).range
  waited_range v w did = ap (λ (n : Note). n.range)
      (note_waited_is cache_facts backing_facts v w did.is)

  pub either_range : (r : Result (Unit {0}) StepError) (of : LineNumber) (first : ℕ)
      (values : List Value) (v w : View cache_facts backing_facts)
      → OnOk r (Did cache_facts backing_facts (Some (deed.Answer of first values)) v w)
      → OnErr r (Did cache_facts backing_facts None v w)
      → (note cache_facts backing_facts w).range ≡ (note cache_facts backing_facts v).range
  either_range (Ok x) of first values v w did none = told_range of first values v w did
  either_range (Err e) of first values v w did none = waited_range v w none

-- Whatever came of a read, the seat's run went on by deeds of its own.
use Rattle.std.proofs.Common.{◌≡◌, inl, inr, ℕ, List, [], ◌∷◌, ◌++◌}
use Rattle.bc_fetch.proofs.of_bc_deed.Sequence.{done_both}
use Rattle.bc_fetch.specs.bc_deed.Flushed.{HasDone}
use Rattle.bc_disk.specs.Disk.{DiskFacts}
use Rattle.bc_disk.specs.declared.disk.Device.TheVariants.{Cache}
use Rattle.bc_events.specs.declared.event.Deed.{Deed}
use Rattle.bc_events.specs.declared.event.Deed.TheVariants as deed
use Rattle.bc_events.specs.declared.event.Failure.TheVariants as failure
use Rattle.bc_events.specs.declared.event.LineNumber.{LineNumber}
use Rattle.bc_fetch.specs.Fetch.{HasReadOne, HasStoppedAt, node_read}
use Rattle.bc_fetch.specs.declared.error.LeafError.{LeafError}
use Rattle.bc_fetch.specs.declared.error.LeafError.TheVariants as errors
use Rattle.bc_fetch.proofs.of_bc_hand.Knowing.{View}
use Rattle.bc_fetch.specs.bc_hand.declared.error.StepError.TheVariants as step
use Rattle.bc_fetch.specs.bc_hand.declared.hand.Hand.{Hand}
use Rattle.bc_fetch.specs.bc_machine.World.{cache_among}
use Rattle.bc_fetch.specs.bc_machine.declared.part.CorePart.{CorePart}
use Rattle.bc_model.specs.Sector.{Value}
use Rattle.bc_parts.specs.Seat.{PartsView}
use Rattle.bc_reader.specs.Claimed.{HasAnswered, HasAnsweredAtOnce, HasNotAnswered, HasReadSeen, HasStoppedAtOnce, HasTried, MayHaveTurned, ReadStop}
use Rattle.bc_reader.specs.Look.{HasSeen, IsStoppedIn, LookStop, NotSeen}
use Rattle.bc_reader.specs.declared.error.ReadError.{ReadError}
use Rattle.bc_reader.specs.declared.error.ReadError.TheVariants as error
use Rattle.bc_reader.specs.declared.look.Seen.{Seen}

module _ {C B : Type 0} (cache_facts : C → DiskFacts) (backing_facts : B → DiskFacts) where
  abbrev pub HasGoneOn : View cache_facts backing_facts → View cache_facts backing_facts → Type 0
  HasGoneOn v w = (ds : List Deed) × HasDone cache_facts backing_facts ds v w

  pub on_both : (u v w : View cache_facts backing_facts) → HasGoneOn u v → HasGoneOn v w → HasGoneOn u w
  on_both u v w a b = (a.0 ++ b.0, done_both cache_facts backing_facts a.0 b.0 u v w a.1 b.1)

  pub first_still : (v w : View cache_facts backing_facts) → HasGoneOn v w → w.first ≡ v.first
  first_still v w h = h.1.same.first

  on_read : (v w : View cache_facts backing_facts) → HasReadOne cache_facts backing_facts v w
      → HasGoneOn v w
  on_read v w (inl none) = ([], none)
  on_read v w (inr one) = (node_read one.0 ∷ [], one.1)

  on_stopped : (first count : ℕ) (e : LeafError) (v w : View cache_facts backing_facts)
      → HasStoppedAt cache_facts backing_facts first count e v w → HasGoneOn v w
  on_stopped first count (errors.Step step.Memory) v w h = on_read v w h
  on_stopped first count (errors.Step (step.Fault d)) v w h =
      (deed.DeviceFault (failure.Read Cache) ∷ [], h.1)
  on_stopped first count (errors.Step (step.Halted d)) v w h = on_both v h.0 w ([], h.1) ([], h.3)
  on_stopped first count errors.Busy v w h = on_both v h.at w ([], h.way)
      (on_both h.at h.now w ([], h.did) ([], h.then))
  on_stopped first count errors.Outside v w h = on_both v h.at w ([], h.way)
      (on_both h.at h.now w ([], h.did) ([], h.then))
  on_stopped first count errors.Missing v w (inl h) = on_both v h.at w ([], h.way) ([], h.then)
  on_stopped first count errors.Missing v w (inr h) =
      on_both v h.at w (on_read v h.at h.read) ([], h.then)
  on_stopped first count (errors.Node q e) v w h = on_both v h.at w ([], h.way)
      (on_both h.at h.now w (node_read h.range.ptr.offset ∷ [], h.did) ([], h.then))

  on_look_stop : (h : Hand C B) (number first count sectors : ℕ) (e : ReadError)
      (v w : View cache_facts backing_facts)
      → LookStop cache_facts backing_facts h number first count sectors e v w → HasGoneOn v w
  on_look_stop h number first count sectors (error.Leaf (errors.Step step.Memory)) v w s = ([], s)
  on_look_stop h number first count sectors (error.Leaf (errors.Step (step.Fault d))) v w s = absurd s
  on_look_stop h number first count sectors (error.Leaf (errors.Step (step.Halted d))) v w s = ([], s.1)
  on_look_stop h number first count sectors (error.Leaf errors.Busy) v w s = absurd s
  on_look_stop h number first count sectors (error.Leaf errors.Outside) v w s = absurd s
  on_look_stop h number first count sectors (error.Leaf errors.Missing) v w s = absurd s
  on_look_stop h number first count sectors (error.Leaf (errors.Node q e)) v w s = absurd s
  on_look_stop h number first count sectors error.Lost v w s = ([], s.1)

  module _ (p : PartsView (CorePart C B)) (first count : ℕ) where
    on_stopped_in : (e : ReadError) (v w : View cache_facts backing_facts)
        → IsStoppedIn cache_facts backing_facts p first count e v w → HasGoneOn v w
    on_stopped_in e v w h = on_both v h.from w (h.way, h.done) (on_both h.from h.at w
        (on_look_stop h.hand h.number first count
        (cache_among cache_facts backing_facts p.run.start).sectors e h.from h.at h.stop) ([], h.then))

    on_not_seen : (e : ReadError) (v w : View cache_facts backing_facts)
        → NotSeen cache_facts backing_facts p first count e v w → HasGoneOn v w
    on_not_seen (error.Leaf e) v w (inl h) = on_stopped first count e v w h
    on_not_seen (error.Leaf e) v w (inr h) = on_stopped_in (error.Leaf e) v w h
    on_not_seen error.Lost v w h = on_stopped_in error.Lost v w h

    pub on_seen : (seen : Seen) (v w : View cache_facts backing_facts) (h : Hand C B)
        → HasSeen cache_facts backing_facts p first count seen v w h → HasGoneOn v w
    on_seen seen v w h s = on_both v s.at w (s.way ++ deed.Look s.number ∷ [], s.done) ([], s.then)

    pub on_read_seen : (seen : Seen) (values : List Value) (v w : View cache_facts backing_facts)
        → HasReadSeen cache_facts backing_facts p first count seen values v w → HasGoneOn v w
    on_read_seen seen values v w h = on_both v h.at w (on_seen seen v h.at h.hand h.look)
        (h.reads.0, h.reads.2)

    on_tried : (values : List Value) (v w : View cache_facts backing_facts)
        → HasTried cache_facts backing_facts p first count values v w → HasGoneOn v w
    on_tried values v w h = on_both v h.at w (on_seen h.seen v h.at h.hand h.look)
        (h.reads.0, h.reads.2)

    on_turned : (v w : View cache_facts backing_facts)
        → MayHaveTurned cache_facts backing_facts p first count v w → HasGoneOn v w
    on_turned v w (inl none) = ([], none)
    on_turned v w (inr h) = on_both v h.read w (on_tried h.values v h.read h.tried) ([], h.then)

    on_at_once : (of : LineNumber) (values : List Value) (v w : View cache_facts backing_facts)
        → HasAnsweredAtOnce cache_facts backing_facts p of first count values v w → HasGoneOn v w
    on_at_once of values v w h = on_both v h.read w (on_tried values v h.read h.tried)
        (deed.Answer of first values ∷ [], h.told)

    pub on_answered : (of : LineNumber) (values : List Value) (v w : View cache_facts backing_facts)
        → HasAnswered cache_facts backing_facts p of first count values v w → HasGoneOn v w
    on_answered of values v w h = on_both v h.from w (on_turned v h.from h.turned)
        (on_at_once of values h.from w h.answered)

    on_read_stop : (e : ReadError) (v w : View cache_facts backing_facts)
        → ReadStop cache_facts backing_facts p first count e v w → HasGoneOn v w
    on_read_stop (error.Leaf (errors.Step e)) v w (inl h) =
        on_not_seen (error.Leaf (errors.Step e)) v w h
    on_read_stop (error.Leaf (errors.Step e)) v w (inr (inl h)) = on_both v h.at w
        (on_seen h.seen v h.at h.hand h.look) (h.stop.1.0, h.stop.1.2)
    on_read_stop (error.Leaf (errors.Step e)) v w (inr (inr h)) = on_tried h.values v w h.tried
    on_read_stop (error.Leaf errors.Busy) v w h = on_not_seen (error.Leaf errors.Busy) v w h
    on_read_stop (error.Leaf errors.Outside) v w h = on_not_seen (error.Leaf errors.Outside) v w h
    on_read_stop (error.Leaf errors.Missing) v w h = on_not_seen (error.Leaf errors.Missing) v w h
    on_read_stop (error.Leaf (errors.Node q e)) v w h =
        on_not_seen (error.Leaf (errors.Node q e)) v w h
    on_read_stop error.Lost v w h = on_not_seen error.Lost v w h

    pub on_stopped_at_once : (e : ReadError) (v w : View cache_facts backing_facts)
        → HasStoppedAtOnce cache_facts backing_facts p first count e v w → HasGoneOn v w
    on_stopped_at_once e v w h = on_both v h.at w (on_read_stop e v h.at h.stop) ([], h.then)

    pub on_not_answered : (e : ReadError) (v w : View cache_facts backing_facts)
        → HasNotAnswered cache_facts backing_facts p first count e v w → HasGoneOn v w
    on_not_answered e v w h = on_both v h.from w (on_turned v h.from h.turned)
        (on_stopped_at_once e h.from w h.stopped)

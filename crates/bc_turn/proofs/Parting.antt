-- All parts, one behind the other.
use Rattle.std.proofs.Common.{◌≡◌, ℕ, List, [], ◌∷◌, ◌++◌, get_or, Some, sym, ap, ◌∙◌, subst}
use Rattle.std.proofs.lemmas.List.{append-nil, append_assoc}
use Rattle.std.proofs.lemmas.List.Elements.{All-append}
use Rattle.bc_append.proofs.of_bc_hand.Knowing.{View, m}
use Rattle.bc_append.proofs.of_bc_place.of_bc_deed.Sequence.{done_both}
use Rattle.std.specs.Prelude.{All, length}
use Rattle.bc_append.specs.Append.{append_by, lost_by}
use Rattle.bc_disk.specs.declared.geometry.Geometry.{Geometry}
use Rattle.bc_node.specs.Leaf.{Leaf}
use Rattle.bc_append.specs.bc_hand.Seats.{Works, world}
use Rattle.bc_append.specs.bc_hand.declared.hand.Hand.{Hand}
use Rattle.bc_append.specs.bc_machine.declared.part.CorePart.{CorePart}
use Rattle.bc_parts.specs.Seat.{PartsView}
use Rattle.bc_append.specs.bc_hand.declared.error.StepError.{StepError}
use Rattle.bc_append.specs.bc_hand.declared.error.StepError.TheVariants as error
use Rattle.bc_append.specs.bc_machine.Frame.{stays_halted}
use Rattle.bc_disk.specs.Disk.{DiskFacts}
use Rattle.bc_disk.specs.declared.disk.Device.{Device}
use Rattle.bc_events.specs.Columns.{halt_of}
use Rattle.bc_events.specs.declared.event.Deed.{Deed}
use Rattle.bc_events.specs.declared.event.Event.{Event}
use Rattle.bc_fetch.specs.bc_deed.Flushed.{HasDone}
use Rattle.bc_seats.specs.Seats.{Waited}
use Rattle.bc_seats.proofs.Knowing as seats
use Rattle.bc_turn.specs.Part.{HasFailed, HasLostSet, HasWrittenSets, IsLeftIn, IsOfDue}
use Rattle.bc_turn.specs.Parts.{WasLeft}
use Rattle.bc_turn.specs.declared.error.Left.{Left}
use Rattle.bc_turn.proofs.Emptying.{then_nothing}

-- ---- a halt stays, whatever comes behind it

stays_more : (es others : List Event) (d : Device) → halt_of es ≡ Some d
    → halt_of (es ++ others) ≡ Some d
stays_more es [] d is = ap halt_of (append-nil es) ∙ is
stays_more es (e ∷ others) d is = ap halt_of (sym (append_assoc es (e ∷ []) others))
    ∙ stays_more (es ++ e ∷ []) others d (stays_halted es e d is)

module _ {C B : Type 0} (cache_facts : C → DiskFacts) (backing_facts : B → DiskFacts) where
  nothing : (v w : View cache_facts backing_facts) → Waited (m cache_facts backing_facts) v w
      → HasDone cache_facts backing_facts [] v w
  nothing v w waited = seats.waited (m cache_facts backing_facts) v w waited

  -- deeds of leaves that were due, said of an earlier moment
  module _ (p : PartsView (CorePart C B)) (low : ℕ) where
    due_from : (by : Geometry → ℕ → Leaf → List ℕ → Deed) (u v : View cache_facts backing_facts)
        (ds : List Deed) (d : Deed) → HasDone cache_facts backing_facts ds u v
        → IsOfDue cache_facts backing_facts p low by v d
        → IsOfDue cache_facts backing_facts p low by u d
    due_from by u v ds d done is = record {
      before = ds ++ is.before;
      at = is.at;
      went = done_both cache_facts backing_facts ds is.before u v is.at done is.went;
      hand = is.hand;
      works = is.works;
      slot = is.slot;
      number = is.number;
      due = is.due;
      bytes = is.bytes;
      set = is.set;
      is = is.is;
    }

    abbrev Sets : View cache_facts backing_facts → View cache_facts backing_facts → Type 0
    Sets v w = HasWrittenSets cache_facts backing_facts p low v w

    abbrev Of : View cache_facts backing_facts → Deed → Type 0
    Of v d = IsOfDue cache_facts backing_facts p low append_by v d

    each_both : (u v : View cache_facts backing_facts) (xs ys : List Deed)
        → HasDone cache_facts backing_facts xs u v → All (Of u) xs → All (Of v) ys
        → All (Of u) (xs ++ ys)
    each_both u v xs ys done a b = All-append (Of u) xs ys a
        (λ k d few. due_from append_by u v xs (get_or ys k d) done (b k d few))

    pub both_sets : (u v w : View cache_facts backing_facts) → Sets u v → Sets v w → Sets u w
    both_sets u v w a b = record {
      deeds = a.deeds ++ b.deeds;
      each = each_both u v a.deeds b.deeds a.done a.each b.each;
      done = done_both cache_facts backing_facts a.deeds b.deeds u v w a.done b.done;
    }

    lost_before : (u v w : View cache_facts backing_facts) → Sets u v
        → HasLostSet cache_facts backing_facts p low v w
        → HasLostSet cache_facts backing_facts p low u w
    lost_before u v w sets a = record {
      deeds = sets.deeds ++ a.deeds;
      each = each_both u v sets.deeds a.deeds sets.done sets.each a.each;
      last = a.last;
      lost = due_from lost_by u v sets.deeds a.last sets.done a.lost;
      done = subst (λ (ds : List Deed). HasDone cache_facts backing_facts ds u w)
          (sym (append_assoc sets.deeds a.deeds (a.last ∷ [])))
          (done_both cache_facts backing_facts sets.deeds (a.deeds ++ a.last ∷ []) u v w sets.done
          a.done);
    }

    lost_then : (v w x : View cache_facts backing_facts)
        → HasLostSet cache_facts backing_facts p low v w
        → HasDone cache_facts backing_facts [] w x → HasLostSet cache_facts backing_facts p low v x
    lost_then v w x a done = record {
      deeds = a.deeds;
      each = a.each;
      last = a.last;
      lost = a.lost;
      done = subst (λ (ds : List Deed). HasDone cache_facts backing_facts ds v x)
          (append-nil (a.deeds ++ a.last ∷ []))
          (done_both cache_facts backing_facts (a.deeds ++ a.last ∷ []) [] v w x a.done done);
    }

    -- what was done in a part, between taking it and giving it back
    module _ (v w x y z : View cache_facts backing_facts) (before : Sets v w)
        (taken : Waited (m cache_facts backing_facts) w x)
        (given : Waited (m cache_facts backing_facts) y z) where
      as_taken : Sets v x
      as_taken = then_nothing cache_facts backing_facts p low v w x before (nothing w x taken)

      sets_then : Sets x y → Sets v y
      sets_then more = both_sets v x y as_taken more

      pub sets_part : Sets x y → Sets v z
      sets_part more = then_nothing cache_facts backing_facts p low v y z (sets_then more)
          (nothing y z given)

      pub failed_in_part : (e : StepError) → z.heard ≡ y.heard
          → HasFailed cache_facts backing_facts p low e x y
          → HasFailed cache_facts backing_facts p low e v z
      failed_in_part (error.Fault device) told (is, lost) =
          (is, lost_then v y z (lost_before v x y as_taken lost) (nothing y z given))
      failed_in_part (error.Halted device) told (halt, sets) = (
        ap halt_of given.grown.seen ∙ stays_more y.seen given.grown.more device halt,
        sets_part sets,
      )
      failed_in_part error.Memory told (none, sets) = (told ∙ none, sets_part sets)

      -- and what is left of it
      pub left_part : (sectors : ℕ) (h : Hand C B) (left : Left)
          → Works cache_facts backing_facts p y h → Sets x y
          → IsLeftIn h (world cache_facts backing_facts y) sectors (length p.run.start) low left
          → WasLeft cache_facts backing_facts p sectors low v z left
      left_part sectors h left works sets is = record {
        then = y;
        hand = h;
        works = works;
        in_hand = is;
        before = sets_then sets;
        since = given;
      }

    pub left_before : (sectors : ℕ) (u v w : View cache_facts backing_facts) (left : Left)
        → Sets u v → WasLeft cache_facts backing_facts p sectors low v w left
        → WasLeft cache_facts backing_facts p sectors low u w left
    left_before sectors u v w left sets was = record {
      then = was.then;
      hand = was.hand;
      works = was.works;
      in_hand = was.in_hand;
      before = both_sets u v was.then sets was.before;
      since = was.since;
    }

    pub failed_before : (u v w : View cache_facts backing_facts) (e : StepError) → Sets u v
        → HasFailed cache_facts backing_facts p low e v w
        → HasFailed cache_facts backing_facts p low e u w
    failed_before u v w (error.Fault device) sets (is, a) = (is, lost_before u v w sets a)
    failed_before u v w (error.Halted device) sets (halt, more) = (halt, both_sets u v w sets more)
    failed_before u v w error.Memory sets (none, more) = (none, both_sets u v w sets more)

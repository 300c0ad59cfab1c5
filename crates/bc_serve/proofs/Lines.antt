-- Lines served one behind the other.
use Rattle.std.proofs.Common.{◌≡◌, ℕ, suc, ◌+◌, List, [], ◌∷◌, ◌++◌, length, append_assoc, append-nil, refl, sym, ap, ◌∙◌, subst, arith}
use Rattle.std.specs.Prelude.{map}
use Rattle.bc_model.specs.declared.history.Entry.{Entry}
use Rattle.bc_disk.specs.Disk.{DiskFacts}
use Rattle.bc_events.specs.declared.event.Deed.{Deed}
use Rattle.bc_events.specs.declared.event.Event.{Event}
use Rattle.bc_plain_laws.specs.bc_hand.Seats.{by, IsCoreSeat}
use Rattle.bc_plain_laws.proofs.of_bc_hand.Knowing.{View}
use Rattle.bc_job.specs.bc_deed.Flushed.{HasDone}
use Rattle.bc_job.proofs.of_bc_deed.Sequence.{done_both}
use Rattle.bc_job.proofs.Looping.{done_none}
use Rattle.bc_script.specs.Served.{Served, ServesLine}
use Rattle.bc_script.specs.declared.answer.Answer.{Answer}
use Rattle.bc_script.specs.declared.line.Line.{Line}
use Rattle.bc_script.proofs.Marks.{is_served, one_more}
use Rattle.bc_serve.specs.Answered.{HasAnsweredLine}
use Rattle.bc_serve.specs.Causes.{entries_by}
use Rattle.bc_serve.specs.Run.{AreServedBy, HaveAnswered, IsServedBy, events_by}
use Rattle.bc_serve.proofs.Lists.{calls_both, entries_both}

one_line_more : (size i number at : ℕ) (ls : List Line) (answers : List Answer) (before mid more : List Event)
    (l : Line) (a : Answer) (ds : List Deed) → at ≡ number + length ls
    → AreServedBy size i number ls answers before mid
    → IsServedBy size i at l a mid (mid ++ more) ds
    → AreServedBy size i number (ls ++ l ∷ []) (answers ++ a ∷ []) before (mid ++ more)
one_line_more size i number at [] [] before mid more l a ds is served new =
    let here : at ≡ number = omega arith in (
      more,
      ds,
      subst (λ n. IsServedBy size i n l a before (before ++ more) ds) here
          (subst (λ (b : List Event). IsServedBy size i at l a b (b ++ more) ds) served new),
      ap (λ (b : List Event). b ++ more) served,
    )
one_line_more size i number at [] (b ∷ others) before mid more l a ds is served new = absurd served
one_line_more size i number at (x ∷ ls) [] before mid more l a ds is served new = absurd served
one_line_more size i number at (x ∷ ls) (b ∷ others) before mid more l a ds is served new = (
  served.0,
  served.1,
  served.2,
  one_line_more size i (suc number) at ls others (before ++ served.0) mid more l a ds (omega arith) served.3 new,
)

-- who was served up to a point has seen what was before
pub extends : (size i number : ℕ) (ls : List Line) (answers : List Answer) (before last : List Event)
    → AreServedBy size i number ls answers before last → (rest : List Event) × (last ≡ before ++ rest)
extends size i number [] [] before last served = ([], served ∙ sym (append-nil before))
extends size i number [] (b ∷ others) before last served = absurd served
extends size i number (x ∷ ls) [] before last served = absurd served
extends size i number (x ∷ ls) (b ∷ others) before last served =
    let rest = extends size i (suc number) ls others (before ++ served.0) last served.3 in
    (served.0 ++ rest.0, rest.1 ∙ append_assoc before served.0 rest.0)

module _ {C B : Type 0} (cache_facts : C → DiskFacts) (backing_facts : B → DiskFacts) where
  pub none_answered : (size : ℕ) (v : View cache_facts backing_facts) → IsCoreSeat cache_facts backing_facts v
      → HaveAnswered cache_facts backing_facts size [] [] v v
  none_answered size v seat = record {
    deeds = [];
    done = done_none cache_facts backing_facts v seat;
    served = is_served size [] [] [] refl;
    by_line = refl;
    calls = tt;
  }

  line_by : (size number : ℕ) (l : Line) (a : Answer) (u v w : View cache_facts backing_facts) (ds : List Deed)
      → HasDone cache_facts backing_facts ds u v
      → (h : HasAnsweredLine cache_facts backing_facts size number l a v w)
      → IsServedBy size u.first number l a v.seen w.seen h.deeds
  line_by size number l a u v w ds before h =
      let first : v.first ≡ u.first = before.same.first in
      let last : w.first ≡ u.first = h.done.same.first ∙ first in record {
        its = ap (λ n. events_by n w.seen) (sym last) ∙ h.done.own
            ∙ ap (λ n. events_by n v.seen ++ map (by n) h.deeds) first;
        did = h.did;
        serves = h.serves;
        caused = h.caused;
        calls = h.calls;
      }

  pub more_answered : (size at : ℕ) (ls : List Line) (answers : List Answer) (l : Line) (a : Answer)
      (u v w : View cache_facts backing_facts) → at ≡ suc (length ls)
      → HaveAnswered cache_facts backing_facts size ls answers u v
      → HasAnsweredLine cache_facts backing_facts size at l a v w
      → HaveAnswered cache_facts backing_facts size (ls ++ l ∷ []) (answers ++ a ∷ []) u w
  more_answered size at ls answers l a u v w is before h =
      let grown = h.done.grown in
      let here : at ≡ 1 + length ls = omega arith in record {
        deeds = before.deeds ++ h.deeds;
        done = done_both cache_facts backing_facts before.deeds h.deeds u v w before.done h.done;
        served = subst (λ (es : List Entry). Served size (ls ++ l ∷ []) (answers ++ a ∷ []) es)
            (sym (entries_both before.deeds h.deeds))
            (one_more size ls answers (entries_by before.deeds) (entries_by h.deeds) l a before.served
            (subst (λ n. ServesLine size n l a (entries_by h.deeds)) is h.serves));
        by_line = subst (λ (es : List Event). AreServedBy size u.first 1 (ls ++ l ∷ []) (answers ++ a ∷ []) u.seen es)
            (sym grown.seen)
            (one_line_more size u.first 1 at ls answers u.seen v.seen grown.more l a h.deeds here before.by_line
            (subst (λ (es : List Event). IsServedBy size u.first at l a v.seen es h.deeds) grown.seen
            (line_by size at l a u v w before.deeds before.done h)));
        calls = calls_both before.deeds h.deeds before.calls h.calls;
      }

-- A step between waiting for a part and giving it back.
use Rattle.std.proofs.Common.{◌≡◌, ℕ, ◌+◌, ◌<◌, ◌≤◌, [], ◌∷◌, ◌++◌, sym, ap, ◌∙◌, subst}
use Rattle.std.specs.Prelude.{false, fold, length}
use Rattle.std.proofs.lemmas.List.Sums.{fold-append}
use Rattle.std.proofs.lemmas.List.Elements.{All-append, All-weaker}
use Rattle.bc_parts.specs.declared.machine.Machine.{Ghosts}
use Rattle.bc_parts.specs.Seat.{SeatView, Run, Holds}
use Rattle.bc_parts.specs.Machine.{state_after, IsRun, events_by}
use Rattle.bc_seats.specs.Seats.{state_seen, Same, Since, Foreign, Waited, Committed}
use Rattle.bc_seats.proofs.Knowing.{run_on, grown_both, grown_given}

module _ {Z P E B T : Type 0} (m : Ghosts Z P E B T) where
  -- who holds more sees less happen
  pub since_both : (u v : SeatView P E T) (x : m.State) → Same m u v
      → ((k : ℕ) → Holds u.parts k → Holds v.parts k) → Since m u (state_seen m v) → Since m v x
      → Since m u x
  since_both u v x same still a b = record {
    others = a.others ++ b.others;
    is = b.is ∙ ap (λ y. fold m.after y b.others) a.is
        ∙ sym (fold-append m.after (state_seen m u) a.others b.others);
    follow = run_on m a.others b.others (state_seen m u) a.follow
        (subst (λ y. IsRun m y b.others) a.is b.follow);
    foreign = All-append (Foreign m u) a.others b.others a.foreign
        (All-weaker (Foreign m v) (Foreign m u) (λ e f. (
          (λ n low high. f.0 n (subst (λ k. k ≤ n) (sym same.first) low) (subst (λ k. n < k) (sym same.end) high)),
          (λ k holds. subst (λ (r : Run P). m.changes (length r.start) e k ≡ false) same.run
              (f.1 k (still k holds))),
        )) b.others b.foreign);
  }

  pub same_both : (u v w : SeatView P E T) → Same m u v → Same m v w → Same m u w
  same_both u v w a b = record {
    run = b.run ∙ a.run;
    first = b.first ∙ a.first;
    end = b.end ∙ a.end;
  }

  pub waited_both : (u v w : SeatView P E T) → ((k : ℕ) → Holds u.parts k → Holds v.parts k)
      → Waited m u v → Waited m v w → Waited m u w
  waited_both u v w still a b = record {
    same = same_both u v w a.same b.same;
    promises = b.promises ∙ a.promises;
    own = b.own ∙ a.own;
    since = since_both u v (state_seen m w) a.same still a.since b.since;
    grown = grown_both m u v w a.same.first a.same.end a.grown b.grown;
    heard = λ none. a.heard (b.heard none);
  }

  pub committed_behind : (u v : SeatView P E T) (e : E) (w : SeatView P E T)
      → ((k : ℕ) → Holds u.parts k → Holds v.parts k) → Waited m u v → Committed m v e w
      → Committed m u e w
  committed_behind u v e w still a b = record {
    same = same_both u v w a.same b.same;
    promises = b.promises ∙ a.promises;
    own = b.own ∙ ap (λ l. l ++ e ∷ []) a.own;
    before = b.before;
    since = since_both u v b.before a.same still a.since b.since;
    may = b.may;
    state = b.state;
    grown = grown_both m u v w a.same.first a.same.end a.grown b.grown;
    heard = b.heard;
  }

  -- who gave parts back has seen the same
  pub seen_alike : (w x : SeatView P E T) → Same m w x → x.seen ≡ w.seen → state_seen m x ≡ state_seen m w
  seen_alike w x same seen = ap (λ (r : Run P). state_after m r.start x.seen) same.run
      ∙ ap (λ l. state_after m w.run.start l) seen

  own_alike : (w x : SeatView P E T) → Same m w x → x.seen ≡ w.seen
      → events_by m x.first x.seen ≡ events_by m w.first w.seen
  own_alike w x same seen = ap (λ n. events_by m n x.seen) same.first
      ∙ ap (λ l. events_by m w.first l) seen

  pub waited_given : (v w x : SeatView P E T) → Waited m v w → Same m w x → x.seen ≡ w.seen
      → x.heard ≡ w.heard → x.promises ≡ w.promises → Waited m v x
  waited_given v w x a same seen heard promises = record {
    same = same_both v w x a.same same;
    promises = promises ∙ a.promises;
    own = own_alike w x same seen ∙ a.own;
    since = subst (Since m v) (sym (seen_alike w x same seen)) a.since;
    grown = grown_given m v w x seen a.grown;
    heard = λ none. a.heard (sym heard ∙ none);
  }

  pub committed_given : (v : SeatView P E T) (e : E) (w x : SeatView P E T) → Committed m v e w
      → Same m w x → x.seen ≡ w.seen → x.heard ≡ w.heard → x.promises ≡ w.promises → Committed m v e x
  committed_given v e w x a same seen heard promises = record {
    same = same_both v w x a.same same;
    promises = ap (λ n. n + 1) promises ∙ a.promises;
    own = own_alike w x same seen ∙ a.own;
    before = a.before;
    since = a.since;
    may = a.may;
    state = seen_alike w x same seen ∙ a.state;
    grown = grown_given m v w x seen a.grown;
    heard = heard ∙ a.heard ∙ ap (λ l. m.stop l) (sym seen);
  }

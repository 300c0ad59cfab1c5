-- What a seat knows of a state to which others have led the run.
use Rattle.std.proofs.Common.{◌≡◌, ℕ, ◌-◌, ◌<◌, Bool, false, List, [], ◌∷◌, ◌++◌, Option, None, Ok, refl, sym, ap, ◌∙◌, subst, arith}
use Rattle.std.specs.Prelude.{fold, length, All}
use Rattle.std.proofs.lemmas.List.{append-nil}
use Rattle.std.proofs.lemmas.List.Sums.{fold-append}
use Rattle.std.proofs.lemmas.List.Elements.{All-head, All-tail}
use Rattle.bc_parts.specs.declared.machine.Machine.{Ghosts}
use Rattle.bc_parts.specs.Seat.{SeatView, Run}
use Rattle.bc_parts.specs.Machine.{state_after, IsRun, events_by}
use Rattle.bc_parts.specs.Later.{Grows, SeesLater, AtCommit, AddsOwn}
use Rattle.bc_parts.proofs.Interference.{Frame, state_after-push, stands-foreign}
use Rattle.bc_seats.specs.Seats.{state_seen, own_events, IsSeat, Steady, Lasting, Foreign, Since, Grown, Waited, Committed, Kept, Went}
use Rattle.bc_seats.specs.Laws.{LawHeld, LawWaited, LawCommitted, LawBoth}

module _ {Z P E B T : Type 0} (m : Ghosts Z P E B T) where
  -- ---- runs one behind the other

  run_behind : (es fs : List E) (x : m.State) → IsRun m x (es ++ fs)
      → IsRun m (fold m.after x es) fs
  run_behind [] fs x h = h
  run_behind (e ∷ es) fs x h = run_behind es fs (m.after x e) h.1

  pub run_on : (es fs : List E) (x : m.State) → IsRun m x es → IsRun m (fold m.after x es) fs
      → IsRun m x (es ++ fs)
  run_on [] fs x a b = b
  run_on (e ∷ es) fs x a b = (a.0, run_on es fs (m.after x e) a.1 b)

  joined : (a b c : List E) → a ++ (b ++ c) ≡ (a ++ b) ++ c
  joined [] b c = refl
  joined (x ∷ a) b c = ap (λ l. x ∷ l) (joined a b c)

  -- ---- facts that go on

  pub steady : (These : E → Type 0) (F : m.State → Type 0) → Steady m These F → (es : List E)
      (x : m.State) → IsRun m x es → All These es → F x → F (fold m.after x es)
  steady These F keeps [] x follow all h = h
  steady These F keeps (e ∷ es) x follow all h =
      steady These F keeps es (m.after x e) follow.1 (All-tail These e es all)
      (keeps x e follow.0 (All-head These e es all) h)

  pub still : (v : SeatView P E T) (x : m.State) (F : m.State → Type 0)
      → Steady m (Foreign m v) F → Since m v x → F (state_seen m v) → F x
  still v x F keeps since h = subst F (sym since.is)
      (steady (Foreign m v) F keeps since.others (state_seen m v) since.follow since.foreign h)

  pub lasts : (v : SeatView P E T) (x : m.State) (F : m.State → Type 0) → Lasting m F
      → Since m v x → F (state_seen m v) → F x
  lasts v x F keeps since h = still v x F (λ y e may other is. keeps y e may is) since h

  pub held : Frame m → LawHeld m
  held frame v x k p seat since holds h = subst (m.stands k p)
      (fold-append m.after (m.opening v.run.start) v.seen since.others ∙ sym since.is)
      (stands-foreign m frame v.run.start v.first v.end v.parts v.seen since.others k p
      (run_on v.seen since.others (m.opening v.run.start) seat.run since.follow) since.foreign holds h)

  -- ---- lists that a seat sees later

  since_grows : (v : SeatView P E T) (es : List E) → Grows m (length v.run.start) v.first v.end v.parts v.seen es
      → IsRun m (m.opening v.run.start) es → Since m v (state_after m v.run.start es)
  since_grows v es grows run = record {
    others = grows.others;
    is = ap (λ (l : List E). fold m.after (m.opening v.run.start) l) grows.behind
        ∙ fold-append m.after (m.opening v.run.start) v.seen grows.others;
    follow = run_behind v.seen grows.others (m.opening v.run.start)
        (subst (λ (l : List E). IsRun m (m.opening v.run.start) l) grows.behind run);
    foreign = grows.foreign;
  }

  pub since_commit : (v : SeatView P E T) (e : E) (es : List E) → AtCommit m v e es
      → Since m v (state_after m v.run.start es)
  since_commit v e es at = since_grows v es at.grows at.run

  pub admitted_at : (v : SeatView P E T) (e : E) (es : List E) (at : AtCommit m v e es)
      → m.verdict (v.seen ++ (since_commit v e es at).others) e ≡ Ok tt
  unfolding since_commit since_grows
  admitted_at v e es at = ap (λ (l : List E). m.verdict l e) (sym at.grows.behind) ∙ at.admitted

  pub seat_later : (v w : SeatView P E T) → IsSeat m v → IsRun m (m.opening v.run.start) w.seen
      → w.run ≡ v.run → w.first ≡ v.first → w.end ≡ v.end → IsSeat m w
  seat_later v w seat run same first_is end_is = let live = seat.live in record {
    live = omega arith;
    run = subst (λ (r : Run P). IsRun m (m.opening r.start) w.seen) (sym same) run;
  }

  pub since_later : (v w : SeatView P E T) → SeesLater m v w.seen → w.run ≡ v.run
      → Since m v (state_seen m w)
  since_later v w sees run = subst (λ (x : m.State). Since m v x)
      (ap (λ (r : Run P). state_after m r.start w.seen) (sym run))
      (since_grows v w.seen sees.grows sees.run)

  grown_later : (v w : SeatView P E T) → SeesLater m v w.seen → Grown m v w
  grown_later v w sees = record {
    more = sees.grows.others;
    seen = sees.grows.behind;
    rest = λ n low high. sees.own n (omega arith) high;
  }

  pub grown_both : (u v w : SeatView P E T) → v.first ≡ u.first → v.end ≡ u.end → Grown m u v
      → Grown m v w → Grown m u w
  grown_both u v w first_is end_is a b = record {
    more = a.more ++ b.more;
    seen = b.seen ∙ ap (λ l. l ++ b.more) a.seen ∙ sym (joined u.seen a.more b.more);
    rest = λ n low high. b.rest n (omega arith) (omega arith) ∙ a.rest n low high;
  }

  -- who has seen the same since
  pub grown_given : (v w x : SeatView P E T) → x.seen ≡ w.seen → Grown m v w → Grown m v x
  grown_given v w x seen a = record {
    more = a.more;
    seen = seen ∙ a.seen;
    rest = λ n low high. ap (λ l. events_by m n l) seen ∙ a.rest n low high;
  }

  grown_not : (v w : SeatView P E T) → w.seen ≡ v.seen → Grown m v w
  grown_not v w seen = record {
    more = [];
    seen = seen ∙ sym (append-nil v.seen);
    rest = λ n low high. ap (λ l. events_by m n l) seen;
  }

  grown_commit : (v w : SeatView P E T) (e : E) (es : List E) → AtCommit m v e es
      → w.seen ≡ es ++ e ∷ [] → AddsOwn m v e w.seen → Grown m v w
  grown_commit v w e es at is own = record {
    more = at.grows.others ++ e ∷ [];
    seen = is ∙ ap (λ l. l ++ e ∷ []) at.grows.behind ∙ sym (joined v.seen at.grows.others (e ∷ []));
    rest = λ n low high. own.others n (omega arith, high) (λ is. omega (arith, is));
  }

  pub waited_later : (v w : SeatView P E T) → IsSeat m v → SeesLater m v w.seen → w.run ≡ v.run
      → w.first ≡ v.first → w.end ≡ v.end → w.promises ≡ v.promises
      → (w.heard ≡ None → v.heard ≡ None) → Waited m v w
  waited_later v w seat sees run first_is end_is promises heard = let live = seat.live in record {
    same = record { run = run; first = first_is; end = end_is };
    promises = promises;
    own = ap (λ n. events_by m n w.seen) first_is ∙ sees.own v.first (omega arith) live;
    since = since_later v w sees run;
    grown = grown_later v w sees;
    heard = heard;
  }

  -- nothing was seen since
  pub waited_not : (v w : SeatView P E T) → w.run ≡ v.run → w.first ≡ v.first → w.end ≡ v.end
      → w.promises ≡ v.promises → w.seen ≡ v.seen → w.heard ≡ v.heard → Waited m v w
  waited_not v w run first_is end_is promises seen heard = record {
    same = record { run = run; first = first_is; end = end_is };
    promises = promises;
    own = ap (λ n. events_by m n w.seen) first_is ∙ ap (λ l. events_by m v.first l) seen;
    since = record {
      others = [];
      is = ap (λ (r : Run P). state_after m r.start w.seen) run
          ∙ ap (λ l. state_after m v.run.start l) seen;
      follow = tt;
      foreign = λ k d low. absurd (omega (arith, low));
    };
    grown = grown_not v w seen;
    heard = λ none. sym heard ∙ none;
  }

  pub committed_at : (v w : SeatView P E T) (e : E) (es : List E) (t : Option T)
      → AtCommit m v e es → m.enabled (state_after m v.run.start es) e → 0 < v.promises
      → w ≡ record v { seen = es ++ e ∷ []; promises = v.promises - 1; heard = t }
      → t ≡ m.stop (es ++ e ∷ []) → AddsOwn m v e w.seen → Committed m v e w
  committed_at v w e es t at may some is stop own =
      let first_is : w.first ≡ v.first = ap (λ (x : SeatView P E T). x.first) is in
      let promises : w.promises ≡ v.promises - 1 = ap (λ (x : SeatView P E T). x.promises) is in
      record {
        same = record {
          run = ap (λ (x : SeatView P E T). x.run) is;
          first = first_is;
          end = ap (λ (x : SeatView P E T). x.end) is;
        };
        promises = omega arith;
        own = ap (λ n. events_by m n w.seen) first_is ∙ own.first;
        before = state_after m v.run.start es;
        since = since_commit v e es at;
        may = may;
        state = ap (λ (x : SeatView P E T). state_seen m x) is
            ∙ state_after-push m v.run.start es e;
        grown = grown_commit v w e es at (ap (λ (x : SeatView P E T). x.seen) is) own;
        heard = ap (λ (x : SeatView P E T). x.heard) is ∙ stop
            ∙ ap (λ l. m.stop l) (sym (ap (λ (x : SeatView P E T). x.seen) is));
      }

  -- what was seen, with what others did then, is a run
  run_since : (v : SeatView P E T) (x : m.State) → IsSeat m v → (since : Since m v x)
      → IsRun m (m.opening v.run.start) (v.seen ++ since.others)
  run_since v x seat since = run_on v.seen since.others (m.opening v.run.start) seat.run since.follow

  state_since : (v : SeatView P E T) (x : m.State) (since : Since m v x)
      → state_after m v.run.start (v.seen ++ since.others) ≡ x
  state_since v x since =
      fold-append m.after (m.opening v.run.start) v.seen since.others ∙ sym since.is

  -- the frame, in a state to which others can have led
  framed : Frame m → (v : SeatView P E T) (x : m.State) (e : E) (k : ℕ) (p : P) → IsSeat m v
      → Since m v x → m.enabled x e → m.changes (length v.run.start) e k ≡ false → m.stands k p x
      → m.stands k p (m.after x e)
  framed frame v x e k p seat since may off h = let is = state_since v x since in
      subst (λ y. m.stands k p (m.after y e)) is
      (frame v.run.start (v.seen ++ since.others) k p e (run_since v x seat since)
      (subst (λ y. m.enabled y e) (sym is) may) off (subst (m.stands k p) (sym is) h))

  pub kept_committed : Frame m → (v w : SeatView P E T) (e : E) → IsSeat m v → IsSeat m w
      → w.parts ≡ v.parts → Committed m v e w → Kept m v w (m.changes (length v.run.start) e)
  kept_committed frame v w e before seat parts done = record {
    seat = seat;
    same = done.same;
    parts = parts;
    rest = λ k p holds un h. subst (λ (x : m.State). m.stands k p x) (sym done.state)
        (framed frame v done.before e k p before done.since done.may un
        (held frame v done.before k p before done.since holds h));
  }

  pub kept_since : Frame m → (v w : SeatView P E T) (changed : ℕ → Bool) → IsSeat m v → IsSeat m w
      → w.parts ≡ v.parts → w.run ≡ v.run → w.first ≡ v.first → w.end ≡ v.end
      → Since m v (state_seen m w) → Kept m v w changed
  kept_since frame v w changed before seat parts run first_is end_is since = record {
    seat = seat;
    same = record { run = run; first = first_is; end = end_is };
    parts = parts;
    rest = λ k p holds un h. held frame v (state_seen m w) k p before since holds h;
  }

  -- ---- ways

  pub went_since : (v w : SeatView P E T) → w.run ≡ v.run → w.first ≡ v.first → w.end ≡ v.end
      → own_events m w ≡ own_events m v → Since m v (state_seen m w) → Grown m v w → Went m v [] w
  went_since v w run first_is end_is own since grown = record {
    same = record { run = run; first = first_is; end = end_is };
    own = own ∙ sym (append-nil (own_events m v));
    all = since.others;
    is = since.is;
    follow = since.follow;
    grown = grown;
  }

  pub went_later : (v w : SeatView P E T) → IsSeat m v → SeesLater m v w.seen → w.run ≡ v.run
      → w.first ≡ v.first → w.end ≡ v.end → Went m v [] w
  went_later v w seat sees run first_is end_is = let live = seat.live in
      went_since v w run first_is end_is
      (ap (λ n. events_by m n w.seen) first_is ∙ sees.own v.first (omega arith) live)
      (since_later v w sees run) (grown_later v w sees)

  pub waited : LawWaited m
  waited v w h = went_since v w h.same.run h.same.first h.same.end h.own h.since h.grown

  pub committed : LawCommitted m
  committed v e w h = record {
    same = h.same;
    own = h.own;
    all = h.since.others ++ (e ∷ []);
    is = h.state ∙ ap (λ x. m.after x e) h.since.is
        ∙ sym (fold-append m.after (state_seen m v) h.since.others (e ∷ []));
    follow = run_on h.since.others (e ∷ []) (state_seen m v) h.since.follow
        (subst (λ x. m.enabled x e) h.since.is h.may, tt);
    grown = h.grown;
  }

  pub both : LawBoth m
  both u v w xs ys a b = record {
    same = record {
      run = b.same.run ∙ a.same.run;
      first = b.same.first ∙ a.same.first;
      end = b.same.end ∙ a.same.end;
    };
    own = b.own ∙ ap (λ l. l ++ ys) a.own ∙ sym (joined (own_events m u) xs ys);
    all = a.all ++ b.all;
    is = b.is ∙ ap (λ x. fold m.after x b.all) a.is
        ∙ sym (fold-append m.after (state_seen m u) a.all b.all);
    follow = run_on a.all b.all (state_seen m u) a.follow
        (subst (λ x. IsRun m x b.all) a.is b.follow);
    grown = grown_both u v w a.same.first a.same.end a.grown b.grown;
  }

-- What a seat knows still, whatever events of other seats were committed since.
use Rattle.std.proofs.Common.{◌≡◌, ◌≢◌, ℕ, ◌<◌, ◌≤◌, eqb, Bool, false, if◌then◌else◌, List, [], ◌∷◌, ◌++◌, Some, Ok, refl, sym, ap, ◌∙◌, subst, ne_eqb, eq-eqb, append_assoc, arith}
use Rattle.std.specs.Prelude.{fold, length, All}
use Rattle.std.proofs.lemmas.List.{append-nil}
use Rattle.std.proofs.lemmas.List.Sums.{fold-append}
use Rattle.std.proofs.lemmas.List.Elements.{filter-append, All-nil, All-head, All-tail, All-append, All-push, All-weaker}
use Rattle.bc_parts.specs.declared.machine.Machine.{Ghosts}
use Rattle.bc_parts.specs.Machine.{state_after, IsRun, events_by}
use Rattle.bc_parts.specs.Seat.{SeatView, Holds}
use Rattle.bc_parts.specs.Later.{IsForeign, Grows, Later, SeesLater, AtCommit, AddsOwn}

abbrev kept_if : {E : Type 0} → Bool → E → List E → List E
kept_if b x xs = if b then x ∷ xs else xs

-- what a machine's law `frame` says
abbrev pub Frame : {Z P E B T : Type 0} → Ghosts Z P E B T → Type 0
Frame {Z} {P} {E} {B} {T} m = (start : List P) (es : List E) (k : ℕ) (p : P) (e : E) → IsRun m (m.opening start) es
    → m.enabled (state_after m start es) e → m.changes (length start) e k ≡ false → m.stands k p (state_after m start es)
    → m.stands k p (m.after (state_after m start es) e)

module _ {Z P E B T : Type 0} (m : Ghosts Z P E B T) where
  -- the state after one event more
  pub state_after-push : (start : List P) (es : List E) (e : E) → state_after m start (es ++ e ∷ []) ≡ m.after (state_after m start es) e
  state_after-push start es e = fold-append m.after (m.opening start) es (e ∷ [])

  IsRun-push_from : (x : m.State) (es : List E) (e : E) → IsRun m x es → m.enabled (fold m.after x es) e → IsRun m x (es ++ e ∷ [])
  IsRun-push_from x [] e run may = (may, tt)
  IsRun-push_from x (y ∷ ys) e run may = (run.0, IsRun-push_from (m.after x y) ys e run.1 may)

  -- an event that may happen makes a run one event longer
  pub IsRun-push : (start : List P) (es : List E) (e : E) → IsRun m (m.opening start) es → m.enabled (state_after m start es) e → IsRun m (m.opening start) (es ++ e ∷ [])
  IsRun-push start es e run may = IsRun-push_from (m.opening start) es e run may

  -- an event of the number n is the last one of that number
  pub events_by-push : (n : ℕ) (es : List E) (e : E) → m.number e ≡ n → events_by m n (es ++ e ∷ []) ≡ events_by m n es ++ e ∷ []
  events_by-push n es e is = filter-append (λ x. eqb (m.number x) n) es (e ∷ []) ∙ ap (λ b. events_by m n es ++ kept_if b e []) (eq-eqb (m.number e) n is)

  -- an event of another number is none of the number n
  pub events_by-push_other : (n : ℕ) (es : List E) (e : E) → m.number e ≢ n → events_by m n (es ++ e ∷ []) ≡ events_by m n es
  events_by-push_other n es e other = filter-append (λ x. eqb (m.number x) n) es (e ∷ []) ∙ (ap (λ b. events_by m n es ++ kept_if b e []) (ne_eqb (m.number e) n other) ∙ append-nil (events_by m n es))

  events_by-none : (n : ℕ) (es : List E) → All (λ e. m.number e ≢ n) es → events_by m n es ≡ []
  events_by-none n [] none = refl
  events_by-none n (e ∷ es) none = ap (λ b. kept_if b e (events_by m n es)) (ne_eqb (m.number e) n (All-head (λ x. m.number x ≢ n) e es none)) ∙ events_by-none n es (All-tail (λ x. m.number x ≢ n) e es none)

  -- a seat's own events are those that it had seen, whatever came behind them
  pub events_by-grows : (count first end : ℕ) (parts : List ℕ) (seen es : List E) (n : ℕ) → Grows m count first end parts seen es → first ≤ n → n < end → events_by m n es ≡ events_by m n seen
  events_by-grows count first end parts seen es n grows low high =
      let none = All-weaker (IsForeign m count first end parts) (λ e. m.number e ≢ n) (λ e foreign. foreign.0 n low high) grows.others grows.foreign in
      ap (events_by m n) grows.behind ∙ (filter-append (λ e. eqb (m.number e) n) seen grows.others
      ∙ (ap (λ l. events_by m n seen ++ l) (events_by-none n grows.others none) ∙ append-nil (events_by m n seen)))

  -- what a seat can know as it commits
  pub AtCommit-later : (v : SeatView P E T) (e : E) (es : List E) → SeesLater m v es → m.verdict es e ≡ Ok tt → AtCommit m v e es
  AtCommit-later v e es later admitted = record { stand = later.stand; grows = later.grows; run = later.run; admitted = admitted }

  -- a commit adds its event to those of its number, and none to those of the seat's other numbers
  pub AddsOwn-commit : (v : SeatView P E T) (e : E) (es : List E) → AtCommit m v e es → v.first < v.end → m.number e ≡ v.first → AddsOwn m v e (es ++ e ∷ [])
  AddsOwn-commit v e es at live is = record {
    first = events_by-push v.first es e is ∙ ap (λ l. l ++ e ∷ []) (events_by-grows (length v.run.start) v.first v.end v.parts v.seen es v.first at.grows (omega arith) live);
    others = λ n has other. events_by-push_other n es e (λ same. other (sym same ∙ is)) ∙ events_by-grows (length v.run.start) v.first v.end v.parts v.seen es n at.grows has.0 has.1;
  }

  -- what was seen may grow by nothing
  pub Grows-nil : (count first end : ℕ) (parts : List ℕ) (seen es : List E) → es ≡ seen → Grows m count first end parts seen es
  Grows-nil count first end parts seen es is = record { others = []; behind = is ∙ sym (append-nil seen); foreign = All-nil (IsForeign m count first end parts) }

  -- a seat of fewer numbers, with fewer parts in hand, knows less
  pub Grows-weaker : (count first end first' end' : ℕ) (parts parts' : List ℕ) (seen es : List E) → ((n : ℕ) → first' ≤ n → n < end' → (first ≤ n) × (n < end)) → ((k : ℕ) → Holds parts' k → Holds parts k)
      → Grows m count first end parts seen es → Grows m count first' end' parts' seen es
  Grows-weaker count first end first' end' parts parts' seen es within fewer grows = record {
    others = grows.others;
    behind = grows.behind;
    foreign = All-weaker (IsForeign m count first end parts) (IsForeign m count first' end' parts') (λ e f. ((λ n low high. f.0 n (within n low high).0 (within n low high).1), (λ k h. f.1 k (fewer k h)))) grows.others grows.foreign;
  }

  -- what grew once may grow again, where the parts that were in hand first still are
  pub Grows-trans : (count first end : ℕ) (parts parts' : List ℕ) (seen es es' : List E) → ((k : ℕ) → Holds parts k → Holds parts' k)
      → Grows m count first end parts seen es → Grows m count first end parts' es es' → Grows m count first end parts seen es'
  Grows-trans count first end parts parts' seen es es' still one two =
      let second = Grows-weaker count first end first end parts' parts es es' (λ n low high. (low, high)) still two in record {
        others = one.others ++ second.others;
        behind = second.behind ∙ (ap (λ l. l ++ second.others) one.behind ∙ append_assoc seen one.others second.others);
        foreign = All-append (IsForeign m count first end parts) one.others second.others one.foreign second.foreign;
      }

  -- of a run that is cut, the second half is a run from where the first ends
  IsRun-drop : (x : m.State) (es others : List E) → IsRun m x (es ++ others) → IsRun m (fold m.after x es) others
  IsRun-drop x [] others run = run
  IsRun-drop x (e ∷ es) others run = IsRun-drop (m.after x e) es others run.1

  IsRun-take : (x : m.State) (es others : List E) → IsRun m x (es ++ others) → IsRun m x es
  IsRun-take x [] others run = tt
  IsRun-take x (e ∷ es) others run = (run.0, IsRun-take (m.after x e) es others run.1)

  -- what each event keeps is kept by a run
  pub kept-run : (F : m.State → Type 0) → ((x : m.State) (e : E) → m.enabled x e → F x → F (m.after x e)) → (x : m.State) (es : List E) → IsRun m x es → F x → F (fold m.after x es)
  kept-run F keeps x [] run here = here
  kept-run F keeps x (e ∷ es) run here = kept-run F keeps (m.after x e) es run.1 (keeps x e run.0 here)

  -- it grows by an event of another seat
  pub Grows-push : (count first end : ℕ) (parts : List ℕ) (seen es : List E) (e : E) → IsForeign m count first end parts e → Grows m count first end parts seen es → Grows m count first end parts seen (es ++ e ∷ [])
  Grows-push count first end parts seen es e foreign grows = record {
    others = grows.others ++ e ∷ [];
    behind = ap (λ l. l ++ e ∷ []) grows.behind ∙ append_assoc seen grows.others (e ∷ []);
    foreign = All-push (IsForeign m count first end parts) grows.others e grows.foreign foreign;
  }

  -- what was seen later once may be seen later again, where the parts that were in hand first still are
  pub Later-trans : (start : List P) (first end : ℕ) (parts parts' : List ℕ) (seen es es' : List E) → ((k : ℕ) → Holds parts k → Holds parts' k)
      → Later m start first end parts seen es → Later m start first end parts' es es' → Later m start first end parts seen es'
  Later-trans start first end parts parts' seen es es' still one two = record {
    grows = Grows-trans (length start) first end parts parts' seen es es' still one.grows two.grows;
    run = two.run;
    own = λ n low high. two.own n low high ∙ one.own n low high;
    stand = λ k p held stands. two.stand k p (still k held) (one.stand k p held stands);
  }

  module _ (frame : Frame m) where
    pub stands-foreign : (start : List P) (first end : ℕ) (parts : List ℕ) (seen others : List E) (k : ℕ) (p : P)
        → IsRun m (m.opening start) (seen ++ others) → All (IsForeign m (length start) first end parts) others → Holds parts k
        → m.stands k p (state_after m start seen) → m.stands k p (state_after m start (seen ++ others))
    stands-foreign start first end parts seen [] k p run foreign held here =
        subst (λ l. m.stands k p (state_after m start l)) (sym (append-nil seen)) here
    stands-foreign start first end parts seen (e ∷ es) k p run foreign held here =
        let longer : (seen ++ e ∷ []) ++ es ≡ seen ++ e ∷ es = append_assoc seen (e ∷ []) es in
        let may = IsRun-drop (m.opening start) seen (e ∷ es) run in
        let off = (All-head (IsForeign m (length start) first end parts) e es foreign).1 k held in
        let now = frame start seen k p e (IsRun-take (m.opening start) seen (e ∷ es) run) may.0 off here in
        subst (λ l. m.stands k p (state_after m start l)) longer
        (stands-foreign start first end parts (seen ++ e ∷ []) es k p (subst (IsRun m (m.opening start)) (sym longer) run)
        (All-tail (IsForeign m (length start) first end parts) e es foreign) held
        (subst (m.stands k p) (sym (state_after-push start seen e)) now))

    -- a part in hand that stood for the state that was seen stands for every later one
    pub stands-grows : (start : List P) (first end : ℕ) (parts : List ℕ) (seen es : List E) (k : ℕ) (p : P)
        → Grows m (length start) first end parts seen es → IsRun m (m.opening start) es → Holds parts k
        → m.stands k p (state_after m start seen) → m.stands k p (state_after m start es)
    stands-grows start first end parts seen es k p grows run held stands =
        subst (λ l. m.stands k p (state_after m start l)) (sym grows.behind)
        (stands-foreign start first end parts seen grows.others k p (subst (IsRun m (m.opening start)) grows.behind run)
        grows.foreign held stands)

    -- a part in hand that stood for the state that was seen, and which the event does not change, stands once it is committed
    pub stands-commit : (v : SeatView P E T) (e : E) (es : List E) (k : ℕ) (p : P) → AtCommit m v e es → m.enabled (state_after m v.run.start es) e → Holds v.parts k → m.changes (length v.run.start) e k ≡ false
        → m.stands k p (state_after m v.run.start v.seen) → m.stands k p (state_after m v.run.start (es ++ e ∷ []))
    stands-commit v e es k p at may held other stands = subst (m.stands k p) (sym (state_after-push v.run.start es e)) (frame v.run.start es k p e at.run may other (at.stand k p held stands))

    -- all that a seat knows of a list that has grown, where it is that of a run
    pub Later-grows : (start : List P) (first end : ℕ) (parts : List ℕ) (seen es : List E) → Grows m (length start) first end parts seen es → IsRun m (m.opening start) es → Later m start first end parts seen es
    Later-grows start first end parts seen es grows run = record {
      grows = grows;
      run = run;
      own = λ n low high. events_by-grows (length start) first end parts seen es n grows low high;
      stand = λ k p held stands. stands-grows start first end parts seen es k p grows run held stands;
    }

  module _ (stays : (es : List E) (e : E) (s : T) → m.stop es ≡ Some s → m.stop (es ++ e ∷ []) ≡ Some s) where
    stop-append : (s : T) (es others : List E) → m.stop es ≡ Some s → m.stop (es ++ others) ≡ Some s
    stop-append s es [] stopped = ap m.stop (append-nil es) ∙ stopped
    stop-append s es (e ∷ others) stopped = ap m.stop (sym (append_assoc es (e ∷ []) others)) ∙ stop-append s (es ++ e ∷ []) others (stays es e s stopped)

    -- a stop that was seen stands in every later list
    pub stop-grows : (count first end : ℕ) (parts : List ℕ) (seen es : List E) (s : T) → Grows m count first end parts seen es → m.stop seen ≡ Some s → m.stop es ≡ Some s
    stop-grows count first end parts seen es s grows stopped = ap m.stop grows.behind ∙ stop-append s seen grows.others stopped

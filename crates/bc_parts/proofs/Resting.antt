-- What a seat is like between two calls.
use Rattle.std.proofs.Common.{◌≡◌, ℕ, ◌<◌, List, [], ◌∷◌, ◌++◌, length, Option, Some, None, refl, sym, ap, ◌∙◌, subst, ⊎_elim, arith}
use Rattle.std.specs.Option.{option_or}
use Rattle.atomic_table.specs.Seated.{TableId}
use Rattle.bc_parts.specs.declared.machine.Machine.{Ghosts}
use Rattle.bc_parts.specs.declared.table.Knowledge.{Knowledge}
use Rattle.bc_parts.specs.Seat.{PartsView, SeatView, Holds}
use Rattle.bc_parts.specs.Later.{Grows}
use Rattle.bc_parts.specs.Rule.{Has}
use Rattle.bc_parts.specs.Steps.{Mine, Rests, taking, laying, giving, looking, joining}
use Rattle.bc_parts.proofs.Holding.{Holds-without}
use Rattle.bc_parts.proofs.Interference.{stop-grows}

-- what contracts see of a seat, by its table, its view and what it was told
abbrev pub as_seat : {P E T : Type 0} → TableId → Knowledge P E → Option T → SeatView P E T
as_seat t v heard = record { run = record { table = t; start = v.start }; first = v.first; end = v.end; seen = v.seen; parts = v.held; promises = v.promises; heard = heard }

-- the Book's slot is the one behind the parts of the seat's run
pub last_slot : {P E T : Type 0} (n : ℕ) (v w : SeatView P E T) (p q : PartsView P) → n ≡ length p.run.start → v ≡ w → p ≡ q → w.run ≡ q.run → n ≡ length v.run.start
last_slot n v w p q count seat parts same = count ∙ ap (λ r. length r.start) (ap (λ x. x.run) parts ∙ (sym same ∙ ap (λ x. x.run) (sym seat)))

-- what holds of the stop of either seat
pub told_either : {T : Type 0} (P : T → Type 0) (a b : Option T) → ((s : T) → a ≡ Some s → P s) → ((s : T) → b ≡ Some s → P s) → (s : T) → option_or a b ≡ Some s → P s
told_either P None b one two = two
told_either P (Some x) b one two = one

module _ {Z P E B T : Type 0} (m : Ghosts Z P E B T) where
  -- after a look
  pub Rests-looking : (me new : Mine m) (seen : List E) → Rests m me → new ≡ (looking me.0 seen, me.1) → Rests m new
  Rests-looking me new seen r is = subst (Rests m) (sym is) record { bare = r.bare; home = r.home; live = r.live; whole = refl; parts = r.parts }

  -- after another seat was joined to it, and a look
  pub Rests-joining : (me new : Mine m) (w : Knowledge P E) (seen : List E) → Rests m me → me.0.first < w.end → new ≡ (looking (joining me.0 w) seen, me.1) → Rests m new
  Rests-joining me new w seen r live is = subst (Rests m) (sym is) record { bare = r.bare; home = r.home; live = live; whole = refl; parts = r.parts }

  -- with a part more in hand
  pub Rests-taking : (me new : Mine m) (k : ℕ) (seen : List E) (owed : ℕ) → Rests m me → k < length me.0.start → new ≡ (laying (taking me.0 k seen owed), []) → Rests m new
  Rests-taking me new k seen owed r inside is = subst (Rests m) (sym is) record {
    bare = refl;
    home = refl;
    live = r.live;
    whole = r.whole;
    parts = λ i h. ⊎_elim (λ (e : i ≡ k). subst (λ j. j < length me.0.start) (sym e) inside) (λ (old : Has me.0 i). r.parts i old) h;
  }

  -- with a part less
  pub Rests-giving : (me new : Mine m) (k : ℕ) → Rests m me → new ≡ (giving me.0 k, []) → Rests m new
  Rests-giving me new k r is = subst (Rests m) (sym is) record {
    bare = refl;
    home = refl;
    live = r.live;
    whole = r.whole;
    parts = λ i h. r.parts i (Holds-without k i me.0.held h).1;
  }

  -- after the Book was in hand, which is no part: w is the view with it
  pub Rests-returning : (me new : Mine m) (k : ℕ) (w : Knowledge P E) → Rests m me → k ≡ length me.0.start → w.first < w.end → w.middle ≡ w.end → w.start ≡ me.0.start → w.held ≡ k ∷ me.0.held → new ≡ (giving w k, []) → Rests m new
  Rests-returning me new k w r last live whole begun held is = subst (Rests m) (sym is) record {
    bare = refl;
    home = refl;
    live = live;
    whole = whole;
    parts = λ i h. let t = Holds-without k i w.held h in
        ⊎_elim (λ (e : i ≡ k). absurd (t.0 e)) (λ (old : Has me.0 i). subst (λ (ps : List P). i < length ps) (sym begun) (r.parts i old)) (subst (λ hs. Holds hs i) held t.1);
  }

  -- the Book is not in hand between two calls
  pub Rests-book : (me : Mine m) (k : ℕ) → Rests m me → k ≡ length me.0.start → Has me.0 k → ⊥
  Rests-book me k r last has = let inside = r.parts k has in omega arith

  -- the stop that was told is the one that the list made, also when the list has grown
  pub still_stopped : ((es : List E) (e : E) (s : T) → m.stop es ≡ Some s → m.stop (es ++ e ∷ []) ≡ Some s) → (count first end : ℕ) (parts : List ℕ) (seen es : List E) (heard : Option T) → Grows m count first end parts seen es
      → ((s : T) → heard ≡ Some s → m.stop seen ≡ Some s) → (s : T) → heard ≡ Some s → m.stop es ≡ Some s
  still_stopped stays count first end parts seen es heard grows stopped s is = stop-grows m stays count first end parts seen es s grows (stopped s is)

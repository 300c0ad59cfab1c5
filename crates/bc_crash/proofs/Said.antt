-- The history grows by what is said.
use Rattle.std.proofs.Common.{◌≡◌, inl, inr, ℕ, ◌≤◌, true, false, List, ◌∷◌, length, None, if◌then◌else◌, refl, sym, subst, arith}
use Rattle.bc_model.specs.History.{gives, is_write, written_by}
use Rattle.bc_model.specs.declared.history.Entry.{Entry}
use Rattle.bc_books.specs.Index.{within}
use Rattle.bc_books.specs.Books.{Books}
use Rattle.bc_books.specs.Invariant.{IsInOrder}
use Rattle.bc_books.proofs.Cases.{by_within}
use Rattle.bc_data.specs.Data.{Opening, State, Speech, Answer, BeginFlush, EndFlush, Acknowledge, Say}
use Rattle.bc_data.specs.Enabled.{IsEnabled}
use Rattle.bc_data.specs.After.{flush_after, spoken, after}
use Rattle.bc_data.specs.Invariant.{IsTruthful}
use Rattle.bc_data.proofs.Truth.{counts_of}
use Rattle.bc_data.proofs.Kept.{each_seat}
use Rattle.bc_data.proofs.Backed.{says_nothing}
use Rattle.bc_crash.specs.Tables.{Tables, tables_after}
use Rattle.bc_crash.specs.Reached.{IsBegun, has_from, from_of, done_from}
use Rattle.bc_crash.specs.Invariant.{any_flush, IsSeatKnown, IsAnswered, IsHarmless}
use Rattle.bc_crash.proofs.Reached.{from_le, write_le, from_begun, has_begun}
use Rattle.bc_crash.proofs.Good.{good_silent, table_grown, seat_grown}
use Rattle.bc_crash.proofs.Kept.{changed_few, floor_next, goes_on, no_done, safe_on, unmoved, zeros}

module _ (w : Opening) (st : State) (inv : IsTruthful w st) (table : Tables)
    (c : IsHarmless w st table) where
  abbrev k : Books
  k = st.books

  abbrev H : List Entry
  H = st.history

  f : IsInOrder w.books st.books
  f = inv.books

  low : k.journal.durable ≤ k.index.count
  low = let x = (counts_of w.books k f) in let x0 = x.0 in let x1 = x.1 in omega arith

  pub says_no_write : (i j : ℕ) (speech : Speech) (line first : ℕ) → is_write j line first
      (spoken i speech) ≡ false
  says_no_write i j (Answer l fi vs) line first = refl
  says_no_write i j (BeginFlush l) line first = refl
  says_no_write i j (EndFlush l) line first = refl
  says_no_write i j (Acknowledge l fi n) line first = refl

  pub say_done : (i : ℕ) (speech : Speech) → IsEnabled w st i (Say speech) → (s : ℕ)
      → IsAnswered k.journal.durable st.history (table.need s) (table.safe s)
      (done_from (spoken i speech) st.history s)
  say_done i (Answer line first vs) on s = (no_done w st inv table c) s
  say_done i (BeginFlush line) on s = (no_done w st inv table c) s
  say_done i (EndFlush line) on s =
      let k = (c.seats i).flush on.heard on.can.going in
      let q = k.counted s in
      let few = on.can.keys in
      let is = on.can.its_line in
      subst (λ l. IsAnswered st.books.journal.durable st.history (table.need s) (table.safe s)
      (from_of i l st.history)) is (
        k.firm on.can.firm s,
        omega arith,
        from_le i
            (st.seats i).flush.line st.history,
      )
  say_done i (Acknowledge line first count) on s =
      let k = (c.seats i).last on.heard on.can.wrote in
      by_within first count s (λ b. IsAnswered st.books.journal.durable st.history (table.need s)
      (table.safe s) (if b then written_by i line first st.history else 0))
      (λ r.
      let few = on.can.keys in
      let fewer = on.can.its_count in
      let r1 = r.1 in
      let r0 = r.0 in
      let fi = on.can.its_first in
      let inside : within (st.seats i).last.first (st.seats i).last.count s ≡ true = by_within
      (st.seats i).last.first (st.seats i).last.count s (λ b. b ≡ true) (λ _. refl)
      (λ no_. absurd (no_ (omega arith, omega arith))) in
      let q = k.counted s inside in
      let all : IsAnswered st.books.journal.durable st.history (table.need s) (table.safe s)
      (written_by i (st.seats i).last.line (st.seats i).last.first st.history) = (
        k.firm on.can.firm s inside,
        omega arith,
        write_le i (st.seats i).last.line
            (st.seats i).last.first st.history,
      ) in
      subst (λ l. IsAnswered st.books.journal.durable st.history (table.need s) (table.safe s)
      (written_by i l first st.history)) on.can.its_line
      (subst (λ a. IsAnswered st.books.journal.durable st.history (table.need s) (table.safe s)
      (written_by i (st.seats i).last.line a st.history)) on.can.its_first all))
      (λ _. (no_done w st inv table c) s)

  pub say_seat : (i : ℕ) (speech : Speech) → IsSeatKnown i st.halted
      (spoken i speech ∷ st.history) table.need table.safe
      (record (st.seats i) { flush = flush_after k.index.count (st.seats i).flush speech })
  say_seat i speech = go speech (seat_grown i st.halted st.halted st.history
      (spoken i speech) table.need table.need table.safe table.safe (st.seats i)
      (λ h. h) (unmoved w st inv table c) (zeros w st inv table c)
      (λ _ s _. (goes_on w st inv table c) s) (λ _ _ _. says_no_write i i speech _ _)
      (c.seats i))
    where
      go : (speech : Speech) → IsSeatKnown i st.halted
          (spoken i speech ∷ st.history) table.need table.safe (st.seats i)
          → IsSeatKnown i st.halted (spoken i speech ∷ st.history) table.need table.safe
          (record (st.seats i) {
            flush = flush_after st.books.index.count
                (st.seats i).flush speech;
          })
      go (Answer line first vs) h = h
      go (Acknowledge line first count) h = h
      go (EndFlush line) h = record {
        flush = λ a b. absurd (cc);
        last = λ a b. let y = h.last a b in
            record { exclusive = y.exclusive; some = y.some; covers = y.covers; counted = y.counted; firm = y.firm };
        few = h.few;
        gone = h.gone;
      }
      go (BeginFlush line) h = record {
        flush = λ a b. record {
          begun = has_begun i line st.history;
          counted = λ s. let t = c.tables s in let z = t.zero in let top = t.top
              (length st.history) in let fewer = (changed_few w st inv table c) (k.index.leaf s) in elim
              (from_begun i line st.history) [
                | inl is ↦ subst (λ n. table.need s n ≤ st.books.index.count) (sym is) (omega arith)
                | inr is ↦ subst (λ n. table.need s n ≤ st.books.index.count) (sym is) (omega arith)
              ];
          firm = λ e. absurd (cc);
        };
        last = λ a b. let y = h.last a b in
            record { exclusive = y.exclusive; some = y.some; covers = y.covers; counted = y.counted; firm = y.firm };
        few = h.few;
        gone = h.gone;
      }

  pub say_begun : (i : ℕ) (speech : Speech) → IsEnabled w st i (Say speech) → IsBegun
      (spoken i speech) st.history
  say_begun i (EndFlush line) on = subst (λ l. has_from i l st.history ≡ true) on.can.its_line
      ((c.seats i).flush on.heard on.can.going).begun
  say_begun i (Answer line first vs) on = tt
  say_begun i (BeginFlush line) on = tt
  say_begun i (Acknowledge line first count) on = tt

  pub crash_say : (i : ℕ) (speech : Speech) → IsEnabled w st i (Say speech) → IsHarmless w
      (after w st i (Say speech)) (tables_after st table (Say speech))
  crash_say i speech on =
      let e = spoken i speech in
      let silent : (s : ℕ) → gives (spoken i speech) s ≡ None = says_nothing w st inv i speech in
      record {
        tables = λ s. table_grown _ _ _ _ (table.need s) (table.safe s) (omega arith) (omega arith)
            (c.tables s);
        floors = λ s. (floor_next w st inv table c) s (done_from (spoken i speech) st.history s)
            (spoken i speech)
            (table.need s) (table.safe s) (unmoved w st inv table c s) (say_done i speech on s);
        begun = (say_begun i speech on, c.begun);
        seats = each_seat (λ j y. IsSeatKnown j st.halted
            (spoken i speech ∷ st.history) table.need table.safe y) st.seats i _ (say_seat i speech)
            (λ j _. seat_grown j st.halted st.halted st.history
            (spoken i speech) table.need table.need table.safe table.safe (st.seats j)
            (λ h. h) (unmoved w st inv table c) (zeros w st inv table c)
            (λ _ s _. (goes_on w st inv table c) s) (λ _ _ _. says_no_write i j speech _ _)
            (c.seats j));
        honest = c.honest;
        honest_back = c.honest_back;
        filled = c.filled;
        cached = λ n s r le top e d. good_silent w.image st.history (spoken i speech) s n
            (table.need s) any_flush _ _ (silent s) (c.tables s).mono (λ x. x) (λ x h. h)
            (c.cached n s r le top e d);
        backed = λ n s le top b. good_silent w.image st.history (spoken i speech) s n
            (table.need s) _ _ _ (silent s) (c.tables s).mono (safe_on w st inv table c s) (λ x h. h)
            (c.backed n s le top b);
        present = λ h n s le top b. good_silent w.image st.history (spoken i speech) s n
            (table.need s) any_flush _ _ (silent s) (c.tables s).mono (λ x. x) (λ x h. h)
            (c.present h n s le top b);
        firm = c.firm;
        agree = c.agree;
      }

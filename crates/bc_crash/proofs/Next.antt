-- What a crash leaves is an opened pair again.
use Rattle.std.proofs.Common.{◌≡◌, inl, inr, ℕ, ◌≤◌, true, None, refl, sym, subst, arith}
use Rattle.bc_books.specs.Books.{Books, IsSound}
use Rattle.bc_books.specs.Laws.{Snapshot, MayLeave, IsForNode}
use Rattle.bc_collect.specs.Next.{reopened, AreListed}
use Rattle.bc_collect.proofs.Next as collected
use Rattle.bc_data.specs.Data.{Opening, State, start}
use Rattle.bc_data.specs.After.{course}
use Rattle.bc_data.specs.Invariant.{IsTruthful}
use Rattle.bc_data.specs.Laws.{HasBooks}
use Rattle.bc_data.proofs.Opening.{inv_opened, stale}
use Rattle.bc_data.proofs.Steps.{law_books}
use Rattle.bc_crash.specs.Laws.{Finds}
use Rattle.bc_crash.specs.Tables.{no_tables, tables_of}
use Rattle.bc_crash.specs.Next.{Found, LawNext}
use Rattle.bc_crash.proofs.Crash.{crash_course}
use Rattle.bc_crash.proofs.Survive.{law_crash, crash_opened, window, low}

may_leave : (st : State) (shot : Snapshot) → Finds st shot → MayLeave st.books shot
may_leave st shot h = elim h [ inl e ↦ inl e | inr x ↦ inr x.1 ]

-- the books' law, at the books of this state
next_books : (w : Opening) (st : State) (x : Found) → IsSound w.books → HasBooks w st
    → MayLeave st.books x.shot
    → ((b : ℕ) → x.node b ≡ true → IsForNode st.books b)
    → AreListed w.books st.books x.shot x.node x.listed
    → IsSound (reopened w.books st.books x.shot x.node x.listed x.leaf)
next_books w st x sound has =
    subst (λ (k : Books). MayLeave k x.shot → ((b : ℕ) → x.node b ≡ true → IsForNode k b)
    → AreListed w.books k x.shot x.node x.listed
    → IsSound (reopened w.books k x.shot x.node x.listed x.leaf)) (sym has.same)
    (collected.law_next w.books has.list sound has.run x.shot x.node x.listed x.leaf)

-- a run without the cache has no key
no_key : (w : Opening) (st : State) (n s : ℕ) → IsTruthful w st → n ≤ st.books.index.count
    → w.plain ≡ true
    → st.books.index.at n s ≡ None
no_key w st n s inv le e =
    let h = inv.plain e in
    let h0 = h.0 in
    let is : n ≡ 0 = omega arith in
    subst (λ m. st.books.index.at m s ≡ None) (sym is) (h.1 s)

pub law_next : LawNext
law_next w es pair run x cache backing may =
    let st : State = course w (start w) es in
    let safe = law_crash w es pair run x.shot cache backing may.finds may.left_cache may.left_backing in
    let both = crash_course w (start w) no_tables es run (inv_opened w pair) (crash_opened w pair) in
    let table = tables_of w (start w) no_tables es in
    let few = low w st both.0 table both.1 x.shot may.finds cache backing may.left_cache may.left_backing in
    let near = window w st both.0 table both.1 x.shot may.finds cache backing may.left_cache may.left_backing in
    record {
      sound = record {
        books = next_books w st x pair.books (law_books w es pair run)
            (may_leave st x.shot may.finds) may.nodes may.lists;
        agree = λ s r is clean live. let d = near s r is in
            (safe s).agree r is clean ((stale
            (x.shot.version (w.books.bucket r.place)) r.version d.0 d.1).2 live);
        plain = λ e s. no_key w st x.shot.count s both.0 few.1 e;
        image = λ s. refl;
      };
      allowed = λ s. (safe s).allowed;
    }

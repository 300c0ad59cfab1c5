-- A set of a chain is written: when that may be, and what it leaves.
use Rattle.std.proofs.Common.{◌≡◌, ◌≢◌, inr, ℕ, ◌<◌, Bool, true, false, List, [], ◌∷◌, length, Option, Some, refl, sym, ap, ◌∙◌, subst, arith}
use Rattle.bc_books.specs.Invariant.{IsInOrder}
use Rattle.bc_books.specs.Shelves.{IsUnwritten, Priorities}
use Rattle.bc_data.specs.Data as flow
use Rattle.bc_data.specs.Enabled as flow_ask
use Rattle.bc_disk.specs.declared.geometry.Geometry.{Geometry}
use Rattle.bc_events.specs.Run as core
use Rattle.bc_events.specs.Run.{CanDo, IsPlaced, IsSome, acts_or_none}
use Rattle.bc_events.specs.Writes.{map_some}
use Rattle.bc_events.specs.declared.event.Written.TheVariants as written
use Rattle.bc_facts.proofs.Written.{prio_written}
use Rattle.bc_facts.specs.Seen.{seen_prio}
use Rattle.bc_known.specs.Acts.{Act, FailCache, WriteCache}
use Rattle.bc_known.specs.Acts as known
use Rattle.bc_known.specs.Asked.{AsksWrite}
use Rattle.bc_known.specs.Run.{IsEnabled}
use Rattle.bc_known.specs.Run as machine
use Rattle.bc_leaves.proofs.Chains.{put_else, put_there}
use Rattle.bc_machine.specs.World.{IsCourseOf, IsOrigin, Origin, World, replay}
use Rattle.bc_meta.specs.Acts.{Made}
use Rattle.bc_meta.specs.Layout.{PrioSet}
use Rattle.bc_model.proofs.Runs.{at_range}
use Rattle.bc_model.specs.Sector.{Value, at_run, values_of}
use Rattle.bc_model.specs.declared.values.Values.{Values}
use Rattle.bc_prio.specs.Set.{IsSet}
use Rattle.bc_shares.specs.Shares.{books_of}
use Rattle.bc_whole.specs.State as whole
use Rattle.bc_whole.specs.State.{OfPriorities, Write}
use Rattle.bc_whole.specs.Together.{place_of}
use Rattle.bc_chains.specs.Laws.{lost_by, write_by}
use Rattle.bc_chains.specs.Written.{IsDivided, IsForChain, IsMade}
use Rattle.bc_chains.proofs.Course.{order_course}

never : (b : Bool) → b ≡ true → b ≡ false → ⊥
never b is off = cc

module _ (x : World) (o : Origin) (g : Geometry) (i q part : ℕ) (bytes : List ℕ) (values : Values)
    (is : IsOrigin x o) (on : IsCourseOf o x.log) (divided : IsDivided g o (replay o x.log))
    (its : IsForChain i q o (replay o x.log)) (set : IsSet g part bytes)
    (values_are : values ≡ values_of bytes) where
  abbrev w : whole.Opening
  w = o.opening.machine

  abbrev st : known.State
  st = (replay o x.log).machine

  abbrev made_set : PrioSet
  made_set = seen_prio g part bytes

  order : IsInOrder w.flow.books (books_of st)
  order = order_course o is.sound x.log on

  spelled : w.layout.prios.spelled part values ≡ Some made_set
  spelled = ap (w.layout.prios.spelled part) values_are
      ∙ prio_written g w.layout divided part bytes set

  long : length values ≡ w.layout.bucket_sectors
  long = w.layout.prios.long part values made_set spelled ∙ w.layout.fills made_set

  some : 0 < w.layout.bucket_sectors
  some = let more = w.layout.prios.some made_set in let same = w.layout.fills made_set in
      omega (arith, more, same)

  -- each sector of it is one of the bucket, in which nobody placed anything since it was raised
  spare : (t : ℕ) (v : Value) → at_run (w.layout.first q) values t ≡ Some v
      → flow_ask.IsSpare w.flow.books (books_of st) i t
  spare t v here =
      let range = at_range (w.layout.first q) values t v here in
      let from = range.0 in
      let to = range.1 in
      let size = long in
      let at = is.sound.laid.sector q t its.inside from (omega (arith, to, size)) in record {
        fresh = order.placed.unwritten q (subst IsUnwritten (sym its.held) tt) t at;
        unnamed = ap (books_of st).chains.of at ∙ its.unnamed;
        apart = inr (Priorities, ap (books_of st).shelf at ∙ its.held);
      }

  can_write : flow_ask.CanWrite w.flow st.whole.flow i flow.Metadata (w.layout.first q) values
  can_write = record { places = λ t v here. spare t v here; sendable = tt }

  asks : AsksWrite w st i (OfPriorities q part made_set) values
  asks = (
    record {
      held = its.held;
      unnamed = its.unnamed;
      within = record {
        some = λ none. let size = long in let more = some in
            let zero_ = ap (λ (vs : List Value). length vs) none in
            absurd (omega (arith, size, more, zero_));
        low = omega arith;
        high = let size = long in omega (arith, size);
        bucket = its.inside;
      };
    },
    spelled,
  )

  writes : st.whole.flow.late i ≡ false
      → IsEnabled w st i (WriteCache (OfPriorities q part made_set) values)
  writes late = record {
    data_allows = (record { heard = inr late; steps = tt; can = can_write }, tt);
    asks = asks;
  }

  fails : st.whole.flow.late i ≡ false
      → IsEnabled w st i (FailCache (OfPriorities q part made_set) values)
  fails late = record {
    data_allows = (record { heard = inr late; steps = tt; can = can_write }, tt);
    asks = asks;
  }

  placed : IsPlaced o.opening (replay o x.log) (written.Priorities q part) (w.layout.first q) values
  placed = subst (λ (s : Option PrioSet). IsSome (map_some (OfPriorities q part) s)
      (λ y. place_of w.layout st.whole y ≡ w.layout.first q)) (sym spelled) refl

  pub may_write : core.IsSeat i → st.whole.flow.late i ≡ false
      → core.IsEnabled o.opening (replay o x.log) (write_by i (w.layout.first q) q part values)
  may_write seat late = subst (λ (s : Option PrioSet).
      IsSome (map_some (λ (y : Write). WriteCache y values ∷ [])
      (map_some (OfPriorities q part) s))
      (CanDo o.opening (replay o x.log) (write_by i (w.layout.first q) q part values)))
      (sym spelled) (record {
        seat = seat;
        course = (writes late, tt);
        fit = placed;
        its_line = tt;
        plain = λ plain. absurd (never o.opening.machine.flow.plain plain is.cached);
      })

  pub may_fail : core.IsSeat i → st.whole.flow.late i ≡ false
      → core.IsEnabled o.opening (replay o x.log) (lost_by i (w.layout.first q) q part values)
  may_fail seat late = subst (λ (s : Option PrioSet).
      IsSome (map_some (λ (y : Write). FailCache y values ∷ [])
      (map_some (OfPriorities q part) s))
      (CanDo o.opening (replay o x.log) (lost_by i (w.layout.first q) q part values)))
      (sym spelled) (record {
        seat = seat;
        course = (fails late, tt);
        fit = placed;
        its_line = tt;
        plain = λ plain. absurd (never o.opening.machine.flow.plain plain is.cached);
      })

  -- ---- what it leaves

  -- the acts of the write, whose set is this one
  abbrev made_by : Option PrioSet → ℕ → Option Made
  made_by s = (machine.run w st (core.by i (acts_or_none (map_some
      (λ (y : Write). WriteCache y values ∷ [])
      (map_some (OfPriorities q part) s))))).whole.store.made

  pub made : IsMade q part made_set o (core.after o.opening (replay o x.log)
      (write_by i (w.layout.first q) q part values))
  made = subst (λ (s : Option PrioSet). made_by s q
      ≡ Some (record { part = part; set = made_set })) (sym spelled)
      (put_there st.whole.store.made q (Some (record { part = part; set = made_set })))

  pub others : (r : ℕ) → r ≢ q → (core.after o.opening (replay o x.log)
      (write_by i (w.layout.first q) q part values)).machine.whole.store.made r
      ≡ st.whole.store.made r
  others r ne = subst (λ (s : Option PrioSet). made_by s r ≡ st.whole.store.made r) (sym spelled)
      (put_else st.whole.store.made q (Some (record { part = part; set = made_set })) r ne)

-- Each run of what seats know is one of the whole machine.
use Rattle.std.proofs.Common.{◌≡◌, inl, ℕ, true, List, [], ◌∷◌, ◌++◌, Option, Some, None, refl, sym, ap, ◌∙◌, subst, arith}
use Rattle.bc_model.specs.Sector.{Image}
use Rattle.bc_model.specs.History.{IsLegal}
use Rattle.bc_disk.specs.Device.{MayLeave}
use Rattle.bc_meta.specs.Places.{NoChance}
use Rattle.bc_books.specs.Enabled.{CanRaise}
use Rattle.bc_books.specs.Chains.{Many}
use Rattle.bc_books.specs.Books.{Books}
use Rattle.bc_books.specs.Books as book
use Rattle.bc_books.specs.Invariant.{IsInOrder}
use Rattle.bc_books.specs.Shelves.{Purpose, Priorities, by_room}
use Rattle.bc_books.proofs.Opening.{chain_at}
use Rattle.bc_collect.specs.Spare.{IsForChain}
use Rattle.bc_collect.proofs.Spare.{many_map}
use Rattle.bc_leaves.specs.Parts as parts
use Rattle.bc_whole.specs.State.{Opening}
use Rattle.bc_whole.specs.State as whole
use Rattle.bc_whole.specs.Run as whole_run
use Rattle.bc_whole.specs.Laws as whole_law
use Rattle.bc_whole.proofs.Kept.{Inv, reached, truthful}
use Rattle.bc_whole.proofs.Crash as crash
use Rattle.bc_known.specs.Acts.{State, Act, Alone, Keyed, WriteCache, FailCache, CacheBarrier, Seal, MakeDurable, BeginBucket, Take, LetGo, ReadyChain, BeginChange, Install, ForgetDrafts, Event, after, kept, is_for_chain}
use Rattle.bc_known.specs.Run.{IsEnabled, IsRun, run, start}
use Rattle.bc_known.specs.Known.{IsKnown, HasHolder}
use Rattle.bc_known.specs.Laws.{IsSound, LawWhole, LawNow, LawCrash, LawRaise}
use Rattle.bc_known.proofs.Writes.{write_enabled, fault_enabled}
use Rattle.bc_known.proofs.Others.{keyed_enabled, barrier_enabled, durable_enabled, bucket_enabled, seal_enabled, take_enabled, let_go_enabled, ready_enabled, change_enabled}
use Rattle.bc_known.proofs.Installed.{install_enabled}
use Rattle.bc_known.proofs.Spared.{keep_enabled}
use Rattle.bc_known.proofs.Stays.{alone_known, keyed_known, write_known, fault_known, barrier_known, bucket_known, forget_known, change_known, durable_known, seal_known}
use Rattle.bc_known.proofs.Moves.{take_known, let_go_known, ready_known, install_known}

run_join : (w : Opening) (st : whole.State) (xs ys : List whole.Event)
    → whole_run.run w st (xs ++ ys) ≡ whole_run.run w (whole_run.run w st xs) ys
run_join w st [] ys = refl
run_join w st (x ∷ xs) ys = run_join w (whole_run.after w st x.seat x.act) xs ys

is_run_join : (w : Opening) (st : whole.State) (xs ys : List whole.Event)
    → whole_run.IsRun w st xs → whole_run.IsRun w (whole_run.run w st xs) ys
    → whole_run.IsRun w st (xs ++ ys)
is_run_join w st [] ys a b = b
is_run_join w st (x ∷ xs) ys a b =
    (a.0, is_run_join w (whole_run.after w st x.seat x.act) xs ys a.1 b)

-- a state of a run of the whole machine, and one act more
pub record AtWhole (w : Opening) (x : parts.State) (st : whole.State) : Type 0 where
  pub events : List whole.Event
  pub run : whole_run.IsRun w (whole_run.start w x) events
  pub is : st ≡ whole_run.run w (whole_run.start w x) events

one_more : (w : Opening) (x : parts.State) (st : whole.State) (seat : ℕ) (act : whole.Act)
    → AtWhole w x st → whole_run.IsEnabled w st seat act
    → AtWhole w x (whole_run.after w st seat act)
one_more w x st seat act h on =
    let e : whole.Event = record { seat = seat; act = act } in record {
      events = h.events ++ (e ∷ []);
      run = is_run_join w (whole_run.start w x) h.events (e ∷ []) h.run
          (subst (λ y. whole_run.IsRun w y (e ∷ [])) h.is (on, tt));
      is = ap (λ y. whole_run.after w y seat act) h.is
          ∙ sym (run_join w (whole_run.start w x) h.events (e ∷ []));
    }

pub inv_at : (w : Opening) (x : parts.State) (st : whole.State) → IsSound w x → AtWhole w x st
    → Inv w st
inv_at w x st sound h = subst (λ y. Inv w y) (sym h.is) (reached w x h.events sound.whole h.run)

pub order_at : (w : Opening) (x : parts.State) (st : whole.State) → IsSound w x → AtWhole w x st
    → IsInOrder w.flow.books st.flow.books
order_at w x st sound h = (truthful w x st.flow sound.whole (inv_at w x st sound h).flow).books

pub record At (w : Opening) (x : parts.State) (st : State) : Type 0 where
  pub at : AtWhole w x st.whole
  pub known : IsKnown w st

module _ (w : Opening) (x : parts.State) (sound : IsSound w x) (st : State) (seat : ℕ)
    (h : At w x st) where
  inv : Inv w st.whole
  inv = inv_at w x st.whole sound h.at

  f : IsInOrder w.flow.books st.whole.flow.books
  f = order_at w x st.whole sound h.at

  pub keep : (act : Act) → IsEnabled w st seat act → At w x (after w st seat act)
  keep (Alone act) on = record {
    at = one_more w x st.whole seat (whole.Alone act) h.at
        (record { together = on.asks; flow = on.data_allows; store = tt });
    known = alone_known w st seat h.known f act on;
  }
  keep (Keyed act slot keys) on = record {
    at = one_more w x st.whole seat (whole.Keyed act slot keys) h.at
        (keyed_enabled w st seat inv h.known sound.laid f act slot keys on);
    known = keyed_known w st seat h.known f act slot keys on;
  }
  keep (WriteCache y values) on = record {
    at = one_more w x st.whole seat (whole.WriteCache y values) h.at
        (write_enabled w st seat inv h.known sound.laid f y values on);
    known = write_known w st seat h.known f y values on;
  }
  keep (FailCache y values) on = record {
    at = one_more w x st.whole seat (whole.FailCache y values) h.at
        (fault_enabled w st seat inv h.known sound.laid f y values on);
    known = fault_known w st seat h.known f y values on;
  }
  keep CacheBarrier on = record {
    at = one_more w x st.whole seat whole.CacheBarrier h.at
        (barrier_enabled w st seat inv h.known sound.laid f on);
    known = barrier_known w st seat h.known f;
  }
  keep (Seal last_seq rest root chain) on = record {
    at = one_more w x st.whole seat (whole.Seal last_seq rest root chain) h.at
        (seal_enabled w st seat inv h.known sound.laid f last_seq rest root chain on);
    known = seal_known w st seat h.known f last_seq rest root chain on;
  }
  keep MakeDurable on = record {
    at = one_more w x st.whole seat whole.MakeDurable h.at
        (durable_enabled w st seat inv h.known sound.laid f on);
    known = durable_known w st seat h.known f on;
  }
  keep (BeginBucket b) on = record {
    at = one_more w x st.whole seat (whole.BeginBucket b) h.at
        (bucket_enabled w st seat inv h.known sound.laid f b on);
    known = bucket_known w st seat h.known f b;
  }
  keep (Take p b) on = record {
    at = one_more w x st.whole seat (whole.Take p b) h.at
        (take_enabled w st seat inv h.known sound.laid f p b on);
    known = take_known w st seat inv h.known sound.laid f p b on;
  }
  keep (LetGo b room) on =
      let one = one_more w x st.whole seat (whole.LetGo b room) h.at
      (let_go_enabled w st seat inv h.known sound.laid f b room on) in
      let st1 = whole_run.after w st.whole seat (whole.LetGo b room) in
      let known = let_go_known w st seat inv h.known sound.laid f b room on
      (inv_at w x st1 sound one) in
      record {
        at = one_more w x st1 seat (whole.KeepSpare (kept w st1)) one
            (keep_enabled w st1 seat (inv_at w x st1 sound one) sound.laid
            (order_at w x st1 sound one) known.reserve);
        known = known;
      }
  keep (ReadyChain room) on =
      let one = one_more w x st.whole seat (whole.ReadyChain room
      (st.whole.store.buckets st.whole.store.ready_chain)) h.at
      (ready_enabled w st seat inv h.known sound.laid f room on) in
      let st1 = whole_run.after w st.whole seat (whole.ReadyChain room
      (st.whole.store.buckets st.whole.store.ready_chain)) in
      let known = ready_known w st seat inv h.known sound.laid f room on
      (inv_at w x st1 sound one) in
      record {
        at = one_more w x st1 seat (whole.KeepSpare (kept w st1)) one
            (keep_enabled w st1 seat (inv_at w x st1 sound one) sound.laid
            (order_at w x st1 sound one) known.reserve);
        known = known;
      }
  keep (BeginChange low high gone come old new un) on = record {
    at = one_more w x st.whole seat (whole.BeginChange low high gone come old new un) h.at
        (change_enabled w st seat inv h.known sound.laid f low high gone come old new un on);
    known = change_known w st seat h.known f low high gone come old new un on;
  }
  keep (Install un steps) on = record {
    at = one_more w x st.whole seat (whole.Install un steps) h.at
        (install_enabled w st seat inv h.known sound.laid f un steps on);
    known = install_known w st seat inv h.known sound.laid f un steps on;
  }
  keep ForgetDrafts on = record {
    at = one_more w x st.whole seat whole.ForgetDrafts h.at
        (record { together = tt; flow = tt; store = tt });
    known = forget_known w st seat h.known f;
  }

keep_run : (w : Opening) (x : parts.State) (sound : IsSound w x) (st : State)
    (es : List Event) → IsRun w st es → At w x st → At w x (run w st es)
keep_run w x sound st [] on h = h
keep_run w x sound st (e ∷ es) on h = keep_run w x sound (after w st e.seat e.act) es on.1
    (keep w x sound st e.seat h e.act on.0)

-- ---- the opening

by_none : (o : Option Purpose) → HasHolder (by_room o) None
by_none None = refl
by_none (Some p) = refl

opened : (w : Opening) (x : parts.State) (next_seq : ℕ) → IsSound w x
    → At w x (start w x next_seq)
opened w x next_seq sound = record {
  at = record { events = []; run = tt; is = refl };
  known = record {
    holders = λ q. by_none (w.flow.books.listed q);
    nodes = record {
      leaves = λ k some. inl (sound.leaves k some);
      inner_nodes = λ k some. inl (sound.inner_nodes k some);
    };
    spare = λ q i. ap (λ o. is_for_chain (by_room o)) (sound.spare q i);
    reserve = many_map w.flow.books.sets (λ b. w.flow.books.listed b ≡ Some Priorities)
        (λ b. IsForChain (by_room (w.flow.books.listed b))) (λ b e. inl (ap by_room e))
        sound.whole.pair.books.next;
    chains = λ c low high. let is : c ≡ 0 = omega (arith, low, high) in
        subst (λ n. Many w.flow.books.sets
        (λ b. (book.opened w.flow.books).chains.of b ≡ Some n)) (sym is)
        (many_map w.flow.books.sets (λ b. w.flow.books.chain b ≡ true)
        (λ b. (book.opened w.flow.books).chains.of b ≡ Some 0)
        (λ b e. chain_at w.flow.books sound.whole.pair.books b e)
        sound.whole.pair.books.sets);
    own = λ q e. absurd (cc);
    seqs = λ q at e wrote. absurd wrote;
  };
}

pub at_end : (w : Opening) (x : parts.State) (next_seq : ℕ) (es : List Event) → IsSound w x
    → IsRun w (start w x next_seq) es → At w x (run w (start w x next_seq) es)
at_end w x next_seq es sound on =
    keep_run w x sound (start w x next_seq) es on (opened w x next_seq sound)

pub law_whole : LawWhole
law_whole w x next_seq es sound on =
    let h = (at_end w x next_seq es sound on).at in
    record { events = h.events; run = h.run; is = h.is }

pub law_now : LawNow
law_now w x next_seq es sound on =
    let h = (at_end w x next_seq es sound on).at in
    subst (λ y. IsLegal w.flow.image y.flow.history) (sym h.is)
    (crash.law_now w x h.events sound.whole h.run)

pub law_crash : LawCrash
law_crash w x next_seq es sound on =
    let h = (at_end w x next_seq es sound on).at in
    subst (λ (y : whole.State). NoChance w.layout w.store.image
    y.store.places → (c b : Image)
    → MayLeave y.flow.cache c
    → MayLeave y.flow.backing b → whole_law.Reads w y c b) (sym h.is)
    (crash.law_crash w x h.events sound.whole h.run)

pub law_raise : LawRaise
law_raise w x next_seq es sound on =
    let h = (at_end w x next_seq es sound on).at in
    subst (λ (y : whole.State). (q : ℕ)
    → CanRaise w.flow.books y.flow.books q
    → whole_law.IsUnneeded w y q) (sym h.is)
    (crash.law_raise w x h.events sound.whole h.run)
